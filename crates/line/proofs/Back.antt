-- A number's text reads back as the number. Assumes nothing.
use Prim.Native.Nat.{ℕ, ◌+◌, ◌*◌, ◌-◌, ◌/◌, ◌%◌, ◌≤◌, ◌<◌}
use mathlib.Core.Path.{◌≡◌, refl, ◌∙◌, ap}
use mathlib.Core.Bool.{Bool, true, false, cond}
use mathlib.Core.List.{List, [], ◌∷◌}
use native.Mathlib.Omega.{arith}
use lib.Dec.{ltb}
use borrow.Author.Tests.{lt-ltb, le-ltb, ltb-true, ltb-false}
use Rattle.line.specs.Text.{text_of}
use Rattle.line.proofs.Join.{text1, text2, text3, text4, text5}

-- what a reader makes of digits, up to the first byte below them
unfoldable pub read_on : ℕ → List ℕ → ℕ
read_on so_far [] = so_far
read_on so_far (x ∷ text) = cond (ltb x 48) so_far (read_on (so_far * 10 + (x - 48)) text)

one_on : (a d : ℕ) (text : List ℕ) → read_on a ((48 + d) ∷ text) ≡ read_on (a * 10 + d) text
unfolding read_on
one_on a d text = simp (le-ltb (48 + d) 48 (omega arith)) (ap (λ v. read_on v text) (omega arith))

stop : (a end : ℕ) → end < 48 → read_on a (end ∷ []) ≡ a
unfolding read_on
stop a end h = simp (lt-ltb end 48 h)

-- a number from its digits, and what is left when each is taken off
whole : (n a b c d v w x y z : ℕ) → n ≡ a * 10 + z → a ≡ b * 10 + y → b ≡ c * 10 + x → c ≡ d * 10 + w → d ≡ v → ((((0 * 10 + v) * 10 + w) * 10 + x) * 10 + y) * 10 + z ≡ n
whole n a b c d v w x y z e f g h i = omega (arith, e, f, g, h, i)

four : (n a b c w x y z : ℕ) → n ≡ a * 10 + z → a ≡ b * 10 + y → b ≡ c * 10 + x → c ≡ w → (((0 * 10 + w) * 10 + x) * 10 + y) * 10 + z ≡ n
four n a b c w x y z e f g h = omega (arith, e, f, g, h)

last_off : (n : ℕ) → n ≡ n / 10 * 10 + n % 10
last_off n = omega arith

second_off : (n : ℕ) → n / 10 ≡ n / 100 * 10 + n / 10 % 10
second_off n = omega arith

third_off : (n : ℕ) → n / 100 ≡ n / 1000 * 10 + n / 100 % 10
third_off n = omega arith

fourth_off : (n : ℕ) → n / 1000 ≡ n / 10000 * 10 + n / 1000 % 10
fourth_off n = omega arith

module _ (n end : ℕ) (low : end < 48) where
  back1 : n < 10 → read_on 0 (text_of n end) ≡ n
  back1 h =
      ap (read_on 0) (text1 n end h) ∙ one_on _ _ _ ∙ stop _ _ low ∙ omega arith

  back2 : 10 ≤ n → n < 100 → read_on 0 (text_of n end) ≡ n
  back2 g h =
      ap (read_on 0) (text2 n end g h) ∙ one_on _ _ _ ∙ one_on _ _ _ ∙ stop _ _ low ∙ omega arith

  back3 : 10 ≤ n → 100 ≤ n → n < 1000 → read_on 0 (text_of n end) ≡ n
  back3 f g h =
      ap (read_on 0) (text3 n end f g h) ∙ one_on _ _ _ ∙ one_on _ _ _ ∙ one_on _ _ _ ∙ stop _ _ low ∙ omega arith

  back4 : 10 ≤ n → 100 ≤ n → 1000 ≤ n → n < 10000 → read_on 0 (text_of n end) ≡ n
  back4 e f g h =
      ap (read_on 0) (text4 n end e f g h)
      ∙ one_on _ _ _ ∙ one_on _ _ _ ∙ one_on _ _ _ ∙ one_on _ _ _ ∙ stop _ _ low ∙ four n _ _ _ _ _ _ _ (last_off n) (second_off n) (third_off n) (omega arith)

  back5 : 10 ≤ n → 100 ≤ n → 1000 ≤ n → 10000 ≤ n → n < 65536 → read_on 0 (text_of n end) ≡ n
  back5 e f g h i =
      ap (read_on 0) (text5 n end e f g h)
      ∙ one_on _ _ _ ∙ one_on _ _ _ ∙ one_on _ _ _ ∙ one_on _ _ _ ∙ one_on _ _ _ ∙ stop _ _ low ∙ whole n _ _ _ _ _ _ _ _ _ (last_off n) (second_off n) (third_off n) (fourth_off n) (omega arith)

  by_size : n < 65536 → (a b c d : Bool) → ltb n 10 ≡ a → ltb n 100 ≡ b → ltb n 1000 ≡ c → ltb n 10000 ≡ d → read_on 0 (text_of n end) ≡ n
  by_size i true b c d p q r s = back1 (ltb-true n 10 p)
  by_size i false true c d p q r s = back2 (ltb-false n 10 p) (ltb-true n 100 q)
  by_size i false false true d p q r s = back3 (ltb-false n 10 p) (ltb-false n 100 q) (ltb-true n 1000 r)
  by_size i false false false true p q r s = back4 (ltb-false n 10 p) (ltb-false n 100 q) (ltb-false n 1000 r) (ltb-true n 10000 s)
  by_size i false false false false p q r s = back5 (ltb-false n 10 p) (ltb-false n 100 q) (ltb-false n 1000 r) (ltb-false n 10000 s) i

  pub reads_back : n < 65536 → read_on 0 (text_of n end) ≡ n
  reads_back i = by_size i (ltb n 10) (ltb n 100) (ltb n 1000) (ltb n 10000) refl refl refl refl
