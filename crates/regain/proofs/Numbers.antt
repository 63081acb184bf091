-- The digits of a time and of a value that we write read back as the number. Assumes nothing.
use Prim.Native.Nat.{ℕ, zero, suc, ◌+◌, ◌-◌, ◌*◌, ◌^◌, ◌≤◌, ◌<◌}
use mathlib.Core.Path.{◌≡◌, refl, sym, ◌∙◌, ap, subst}
use mathlib.Core.Bool.{Bool, true, false, ◌&&◌}
use mathlib.Core.List.{[], ◌∷◌}
use native.Mathlib.Omega.{arith}
use lib.Dec.{T, eqb, leb, ltb, eqb→eq}
use lib.ListN.{length}
use borrow.Author.Tests.{lt-ltb, le-ltb, ltb-true}
use Rattle.laws.proofs.Choice.{left, right}
use Rattle.laws.proofs.Below.{all, below}
use Rattle.laws.proofs.Below.{both as and, both_left, both_right}
use Rattle.vcd.specs.Text.{digits_of}
use Rattle.viewer.specs.Reader.{number_from, are_digits}
use Rattle.viewer.proofs.Digits.{fine, back, some}
use Rattle.grammar.specs.declared.Digits.{Digits}
use Rattle.std.specs.Prelude.{Result, Ok, Err, cond}
use Rattle.grammar.specs.Words.{Word, lower}
use Rattle.grammar.specs.Values.{above, none, digit_on, digits_from}
use Rattle.grammar.specs.Times.{time_by, time_on, time_from, time_of}

-- ---- a time

grows : (s : Word) (n : ℕ) → n ≤ number_from 10 n s
unfolding number_from
grows [] n = omega arith
grows (d ∷ s) n = omega (arith, grows s (n * 10 + (d - 48)))

digit_is : (d n : ℕ) → 47 < d → d < 58 → n * 10 + (d - 48) < 18446744073709551616 → time_on (Ok n) d ≡ Ok (n * 10 + (d - 48))
unfolding time_on time_by
digit_is d n low high h =
    simp (le-ltb d 48 (omega arith), le-ltb 57 d (omega arith), lt-ltb (n * 10 + (d - 48)) 18446744073709551616 h)

time_is : (s : Word) (n : ℕ) → are_digits 10 s ≡ true → number_from 10 n s < 18446744073709551616 → time_from (Ok n) s ≡ Ok (number_from 10 n s)
unfolding time_from number_from are_digits
time_is [] n e h = refl
time_is (d ∷ s) n e h =
    let first = left (ltb 47 d && ltb d 58) (are_digits 10 s) e in
    let low = ltb-true 47 d (left (ltb 47 d) (ltb d 58) first) in
    let high = ltb-true d 58 (right (ltb 47 d) (ltb d 58) first) in
    ap (λ (t : Result ℕ ℕ). time_from t s) (digit_is d n low high (omega (arith, grows s (n * 10 + (d - 48)), h)))
    ∙ time_is s (n * 10 + (d - 48)) (right (ltb 47 d && ltb d 58) (are_digits 10 s) e) h

pub mark_time : (n : ℕ) → n < 18446744073709551616 → time_of (digits_of 10 19 n) ≡ Ok n
unfolding time_of
mark_time n h =
    let ds = digits_of 10 19 n in
    let is = back 10 (omega arith) 19 n (omega (arith, h)) in
    ap (λ (f : Bool). time_from (cond f (Ok 0) (Err 0)) ds) (lt-ltb 0 (length ds) (some 10 (omega arith) 19 n))
    ∙ time_is ds 0 (fine 10 (omega arith) 19 n) (subst (λ (v : ℕ). v < 18446744073709551616) (sym is) h)
    ∙ ap (λ (v : ℕ). Ok v) is

-- ---- a value

abbrev pub digits : ℕ → ℕ → ℕ → Bool → Digits
digits v u o f = record { value = v; unknown = u; ones = o; fine = f }

-- all digits are known and are the value's, and they are no more than so many
pub record Exact (ds : Word) (full v : ℕ) : Type 0 where
  pub ones : ℕ
  pub is : digits_from none ds ≡ digits v 0 ones true
  pub few : leb ones full ≡ true

yes : (b : Bool) → T b → b ≡ true
yes true t = refl
yes false t = absurd t

judged : ℕ → ℕ → Digits → Bool
judged full v d = and (eqb d.value v) (and (eqb d.unknown 0) (and (leb d.ones full) d.fine))

from_parts : (d : Digits) (v : ℕ) → d.value ≡ v → d.unknown ≡ 0 → d.fine ≡ true → d ≡ digits v 0 d.ones true
from_parts d v e f g =
    ap (λ (x : ℕ). digits x d.unknown d.ones d.fine) e
    ∙ ap (λ (x : ℕ). digits v x d.ones d.fine) f
    ∙ ap (λ (x : Bool). digits v 0 d.ones x) g

exact : (full v : ℕ) (ds : Word) → T (judged full v (digits_from none ds)) → Exact ds full v
unfolding judged
exact full v ds t =
    let d = digits_from none ds in
    let t₁ = both_right (eqb d.value v) (and (eqb d.unknown 0) (and (leb d.ones full) d.fine)) t in
    let t₂ = both_right (eqb d.unknown 0) (and (leb d.ones full) d.fine) t₁ in
    record {
      ones = d.ones;
      is =
          from_parts d v
          (eqb→eq d.value v (both_left (eqb d.value v) (and (eqb d.unknown 0) (and (leb d.ones full) d.fine)) t))
          (eqb→eq d.unknown 0 (both_left (eqb d.unknown 0) (and (leb d.ones full) d.fine) t₁))
          (yes d.fine (both_right (leb d.ones full) d.fine t₂));
      few = yes (leb d.ones full) (both_left (leb d.ones full) d.fine t₂);
    }

-- every value of so many bits, by computation
okay : ℕ → ℕ → ℕ → Bool
okay full more v = judged full v (digits_from none (digits_of 2 more v))

bits_3 : (v : ℕ) → v < 8 → T (okay 7 2 v)
unfolding okay judged digits_from digit_on digits_of above lower
bits_3 v h = below (okay 7 2) 8 tt v h

bits_7 : (v : ℕ) → v < 128 → T (okay 127 6 v)
unfolding okay judged digits_from digit_on digits_of above lower
bits_7 v h = below (okay 127 6) 128 tt v h

bits_8 : (v : ℕ) → v < 256 → T (okay 255 7 v)
unfolding okay judged digits_from digit_on digits_of above lower
bits_8 v h = below (okay 255 7) 256 tt v h

bits_9 : (v : ℕ) → v < 512 → T (okay 511 8 v)
unfolding okay judged digits_from digit_on digits_of above lower
bits_9 v h = below (okay 511 8) 512 tt v h

bits_10 : (v : ℕ) → v < 1024 → T (okay 1023 9 v)
unfolding okay judged digits_from digit_on digits_of above lower
bits_10 v h = below (okay 1023 9) 1024 tt v h

pub exact_3 : (v : ℕ) → v < 2 ^ 3 → Exact (digits_of 2 2 v) 7 v
unfolding okay
exact_3 v h = exact 7 v (digits_of 2 2 v) (bits_3 v (omega (arith, h)))

pub exact_7 : (v : ℕ) → v < 2 ^ 7 → Exact (digits_of 2 6 v) 127 v
unfolding okay
exact_7 v h = exact 127 v (digits_of 2 6 v) (bits_7 v (omega (arith, h)))

pub exact_8 : (v : ℕ) → v < 2 ^ 8 → Exact (digits_of 2 7 v) 255 v
unfolding okay
exact_8 v h = exact 255 v (digits_of 2 7 v) (bits_8 v (omega (arith, h)))

pub exact_9 : (v : ℕ) → v < 2 ^ 9 → Exact (digits_of 2 8 v) 511 v
unfolding okay
exact_9 v h = exact 511 v (digits_of 2 8 v) (bits_9 v (omega (arith, h)))

pub exact_10 : (v : ℕ) → v < 2 ^ 10 → Exact (digits_of 2 9 v) 1023 v
unfolding okay
exact_10 v h = exact 1023 v (digits_of 2 9 v) (bits_10 v (omega (arith, h)))
