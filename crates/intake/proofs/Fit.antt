-- What fits the pool; and a part byte by byte, as a loop takes it. Assumes nothing.
use Prim.Native.Nat.{ℕ, suc, ◌+◌, ◌≤◌, ◌<◌}
use mathlib.Core.Path.{◌≡◌, refl, sym, ◌∙◌, ap}
use mathlib.Core.Bool.{Bool, true, false, not, cond}
use mathlib.Core.List.{List, [], ◌∷◌}
use native.Mathlib.Omega.{arith}
use native.Mathlib.Numerals.{add-one}
use lib.Dec.{leb}
use lib.ListN.{length, drop, get_or, drop_of_length-le}
use lib.Seq.{drop-cons}
use borrow.Author.Tests.{leb-true}
use Rattle.laws.proofs.Choice.{right}
use Rattle.intake.specs.Machine.{holds, Machine, byte_of, busy, Scan, scan, scan_of}

pub holds_fits : (used len pool : ℕ) (over : Bool) → holds used len over pool ≡ true → used + len ≤ pool
unfolding holds
holds_fits used len pool over e = leb-true (used + len) pool (right (not over) (leb (used + len) pool) e)

module _ (m : Machine) (s : List ℕ) (i : ℕ) where
  opened : i < length s → scan_of m (drop i s) i ≡ cond (busy m.reader) (scan m i) (scan_of (byte_of m (get_or s i 0)) (drop (suc i) s) (i + 1))
  unfolding scan_of
  opened h = ap (λ (l : List ℕ). scan_of m l i) (drop-cons s i 0 h)

  pub scan_next : i < length s → busy m.reader ≡ false → scan_of m (drop i s) i ≡ scan_of (byte_of m (get_or s i 0)) (drop (i + 1) s) (i + 1)
  scan_next h e =
      opened h
      ∙ ap (λ (t : Bool). cond t (scan m i) (scan_of (byte_of m (get_or s i 0)) (drop (suc i) s) (i + 1))) e
      ∙ ap (λ (n : ℕ). scan_of (byte_of m (get_or s i 0)) (drop n s) (i + 1)) (sym (add-one i))

  pub scan_stops : i < length s → busy m.reader ≡ true → scan_of m (drop i s) i ≡ scan m i
  scan_stops h e =
      opened h ∙ ap (λ (t : Bool). cond t (scan m i) (scan_of (byte_of m (get_or s i 0)) (drop (suc i) s) (i + 1))) e

  pub scan_over : length s ≤ i → scan_of m (drop i s) i ≡ scan m i
  unfolding scan_of
  scan_over h = ap (λ (l : List ℕ). scan_of m l i) (drop_of_length-le s {i = i} h)
