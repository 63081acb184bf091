-- A reader that is lent a file in parts does as one that is lent the whole. Assumes nothing.
use Prim.Native.Nat.{ℕ, suc, ◌+◌}
use mathlib.Core.Path.{◌≡◌, refl, sym, ◌∙◌, ap}
use mathlib.Core.Bool.{Bool, true, false, cond}
use mathlib.Core.List.{List, [], ◌∷◌, ◌++◌, append-nil}
use native.Mathlib.Omega.{arith}
use lib.ListN.{length}
use Rattle.intake.specs.Machine.{Machine, byte_of, busy, Scan, scan, scan_of}
use Rattle.relay.specs.Relay.{quietly, read_through}

-- a test that lets a quiet part go on
goes_on_lem : (t q : Bool) → cond t false q ≡ true → (t ≡ false) × (q ≡ true)
goes_on_lem true q e = absurd (let z : ◌≡◌ {A = ℕ} 0 1 = cc in omega arith)
goes_on_lem false q e = (refl, e)

-- 02 (xiii): a part in which nothing is told, and then the rest: the rest is read by the reader as the part left it
pub read_on_lem : (s t : List ℕ) (m : Machine) (i : ℕ) → quietly m s ≡ true → scan_of m (s ++ t) i ≡ scan_of (read_through m s) t (i + length s)
unfolding quietly read_through scan_of
read_on_lem [] t m i e = ap (λ (n : ℕ). scan_of m t n) (let z : i ≡ i + 0 = omega arith in z)
read_on_lem (b ∷ s) t m i e =
    let x = goes_on_lem (busy m.reader) (quietly (byte_of m b) s) e in
    ap (λ (q : Bool). cond q (scan m i) (scan_of (byte_of m b) (s ++ t) (i + 1))) x.0
    ∙ read_on_lem s t (byte_of m b) (i + 1) x.1
    ∙ ap (λ (n : ℕ). scan_of (read_through (byte_of m b) s) t n) (let z : i + 1 + length s ≡ i + length (b ∷ s) = omega arith in z)

-- the same part alone: all of it is read
pub part_read : (s : List ℕ) (m : Machine) (i : ℕ) → quietly m s ≡ true → scan_of m s i ≡ scan (read_through m s) (i + length s)
unfolding scan_of
part_read s m i e = ap (λ (l : List ℕ). scan_of m l i) (sym (append-nil s)) ∙ read_on_lem s [] m i e

-- a part in which something is told: what stands after it is not looked at
stops_by : (t q : Bool) (x a b : Scan) → cond t false q ≡ false → (q ≡ false → a ≡ b) → cond t x a ≡ cond t x b
stops_by true q x a b e f = refl
stops_by false q x a b e f = f e

pub told_in_part : (s t : List ℕ) (m : Machine) (i : ℕ) → quietly m s ≡ false → scan_of m (s ++ t) i ≡ scan_of m s i
unfolding quietly scan_of
told_in_part [] t m i e = absurd (let z : ◌≡◌ {A = ℕ} 0 1 = cc in omega arith)
told_in_part (b ∷ s) t m i e =
    stops_by (busy m.reader) (quietly (byte_of m b) s) (scan m i) (scan_of (byte_of m b) (s ++ t) (i + 1)) (scan_of (byte_of m b) s (i + 1)) e
    (told_in_part s t (byte_of m b) (i + 1))
