-- Digits one after the other, as a loop takes them. Assumes nothing.
use Prim.Native.Nat.{ℕ, suc, ◌+◌, ◌≤◌, ◌<◌}
use mathlib.Core.Path.{◌≡◌, refl, ◌∙◌, ap}
use mathlib.Core.List.{[], ◌∷◌}
use native.Mathlib.Numerals.{add-one}
use lib.ListN.{length, drop, get_or, drop_of_length-le}
use lib.Seq.{drop-cons}
use Rattle.grammar.specs.declared.Digits.{Digits}
use Rattle.std.specs.Prelude.{Result}
use Rattle.grammar.specs.Words.{Word}
use Rattle.grammar.specs.Values.{digit_on, digits_from}
use Rattle.grammar.specs.Times.{time_on, time_from}

module _ (t : Word) (i : ℕ) where
  pub digit_next : (d : Digits) → i < length t → digits_from d (drop i t) ≡ digits_from (digit_on d (get_or t i 0)) (drop (i + 1) t)
  unfolding digits_from
  digit_next d h = rw (add-one i, drop-cons t i 0 h) refl

  pub digits_over : (d : Digits) → length t ≤ i → digits_from d (drop i t) ≡ d
  unfolding digits_from
  digits_over d h = ap (digits_from d) (drop_of_length-le t {i = i} h)

  pub time_next : (d : Result ℕ ℕ) → i < length t → time_from d (drop i t) ≡ time_from (time_on d (get_or t i 0)) (drop (i + 1) t)
  unfolding time_from
  time_next d h = rw (add-one i, drop-cons t i 0 h) refl

  pub time_over : (d : Result ℕ ℕ) → length t ≤ i → time_from d (drop i t) ≡ d
  unfolding time_from
  time_over d h = ap (time_from d) (drop_of_length-le t {i = i} h)
