-- Numbers as bytes and back, and bytes as numbers and back. Assumes nothing.
use Prim.Native.Nat.{ℕ, zero, suc, ◌+◌, ◌*◌, ◌/◌, ◌%◌, ◌<◌}
use mathlib.Core.Path.{◌≡◌, refl, sym, ap, ◌∙◌}
use mathlib.Core.Bool.{Bool, true, false, ◌||◌}
use native.Mathlib.Nat.{div-div-eq-div-mul, div-lt_iff_lt-mul, mod-add-div', mod-eq_of_lt}
use native.Mathlib.Omega.{arith}
use lib.Dec.{ltb, eqb}
use lib.IntN.{ℤ}
use borrow.Author.Tests.{ltb-true, lt-ltb, ne_eqb, eqb-true}
use mir.Syntax.{w8, w64}
use mir.Val.{SFits, to_z, of_z}
use mir.Facts.{to_z-of_z, of_z-to_z, Fits-of_z}
use Rattle.laws.specs.Bytes.{low_byte, high_byte, word}
use Rattle.laws.proofs.Choice.{by_test}
use Rattle.std.specs.Prelude.{Option, None, Some}
use Rattle.rows.specs.Pending.{Pends}
use Rattle.scene.specs.Numbers.{long, bits, clock_of, count_byte, aec_of, flag_byte, flag_of, place_byte, pending_of}

-- ---- a number, its bytes, the number

pub word_back : (x : ℕ) → word (low_byte x) (high_byte x) ≡ x
word_back x = omega arith

-- what is left above some bytes is the next byte and what is left above that
step : (x m n : ℕ) → m * 256 ≡ n → x / m ≡ x / m % 256 + x / n * 256
step x m n e = sym (mod-add-div' (x / m) 256) ∙ ap (λ (y : ℕ). x / m % 256 + y * 256) (div-div-eq-div-mul x m 256 ∙ ap (λ (k : ℕ). x / k) e)

-- nothing is left above the last byte
last : (x m : ℕ) → zero < m → x < 256 * m → x / m ≡ x / m % 256
last x m p h = sym (mod-eq_of_lt ((div-lt_iff_lt-mul {k = m} {x = x} {y = 256} p).1 h))

four : (x a b c d y1 y2 y3 : ℕ) → x ≡ a + y1 * 256 → y1 ≡ b + y2 * 256 → y2 ≡ c + y3 * 256 → y3 ≡ d → long a b c d ≡ x
four x a b c d y1 y2 y3 h1 h2 h3 h4 = omega arith

pub long_back : (x : ℕ) → x < 4294967296 → long (x % 256) (x / 256 % 256) (x / 65536 % 256) (x / 16777216 % 256) ≡ x
long_back x h = four x _ _ _ _ (x / 256) (x / 65536) (x / 16777216) (sym (mod-add-div' x 256)) (step x 256 65536 refl) (step x 65536 16777216 refl) (last x 16777216 (omega arith) h)

pub flag_back : (f : Bool) → flag_of (flag_byte f) ≡ f
flag_back false = refl
flag_back true = refl

pub flag_fine : (f : Bool) → ltb (flag_byte f) 2 ≡ true
flag_fine false = refl
flag_fine true = refl

pub count_back : (z : ℤ) → SFits w8 z → aec_of (count_byte z) ≡ z
unfolding count_byte aec_of
count_back z f = to_z-of_z f

pub place_back : (p : Option ℕ) → Pends p → pending_of (place_byte p) ≡ p
unfolding pending_of place_byte
place_back None h = refl
place_back (Some p) h = rw (ne_eqb p 255 (λ (e : p ≡ 255). let k : p < 40 = h in omega arith))

pub place_fine_lem : (p : Option ℕ) → Pends p → (eqb (place_byte p) 255 || ltb (place_byte p) 40) ≡ true
unfolding place_byte
place_fine_lem None h = refl
place_fine_lem (Some p) h = rw (ne_eqb p 255 (λ (e : p ≡ 255). let k : p < 40 = h in omega arith), lt-ltb p 40 h)

-- ---- the other way: bytes, their number, the bytes

pub low_again : (l h : ℕ) → l < 256 → low_byte (word l h) ≡ l
low_again l h p = omega arith

pub high_again : (l h : ℕ) → l < 256 → high_byte (word l h) ≡ h
high_again l h p = omega arith

module _ (a b c d : ℕ) (p : a < 256) (q : b < 256) (r : c < 256) (t : d < 256) where
  pub long_again0 : long a b c d % 256 ≡ a
  long_again0 = omega arith

  pub long_again1 : long a b c d / 256 % 256 ≡ b
  long_again1 = omega arith

  pub long_again2 : long a b c d / 65536 % 256 ≡ c
  long_again2 = omega arith

  pub long_again3 : long a b c d / 16777216 % 256 ≡ d
  long_again3 = omega arith

pub flag_again : (b : ℕ) → ltb b 2 ≡ true → flag_byte (flag_of b) ≡ b
flag_again zero e = refl
flag_again (suc zero) e = refl
flag_again (suc (suc n)) e = let h : suc (suc n) < 2 = ltb-true (suc (suc n)) 2 e in omega arith

-- ---- eight bytes: two numbers of four

abbrev joined : ℕ → ℕ → ℕ
joined l h = l + h * 4294967296

eight : (x b0 b1 b2 b3 b4 b5 b6 b7 y1 y2 y3 y4 y5 y6 y7 : ℕ) → x ≡ b0 + y1 * 256 → y1 ≡ b1 + y2 * 256 → y2 ≡ b2 + y3 * 256 → y3 ≡ b3 + y4 * 256 → y4 ≡ b4 + y5 * 256 → y5 ≡ b5 + y6 * 256 → y6 ≡ b6 + y7 * 256 → y7 ≡ b7 → joined (long b0 b1 b2 b3) (long b4 b5 b6 b7) ≡ x
eight x b0 b1 b2 b3 b4 b5 b6 b7 y1 y2 y3 y4 y5 y6 y7 h1 h2 h3 h4 h5 h6 h7 h8 = omega arith

pub joined_back : (b : ℕ) → b < 18446744073709551616 →
    joined (long (b % 256) (b / 256 % 256) (b / 65536 % 256) (b / 16777216 % 256)) (long (b / 4294967296 % 256) (b / 1099511627776 % 256) (b / 281474976710656 % 256) (b / 72057594037927936 % 256)) ≡ b
joined_back b h =
    eight b _ _ _ _ _ _ _ _
    (b / 256)
    (b / 65536)
    (b / 16777216)
    (b / 4294967296)
    (b / 1099511627776)
    (b / 281474976710656)
    (b / 72057594037927936)
    (sym (mod-add-div' b 256))
    (step b 256 65536 refl)
    (step b 65536 16777216 refl)
    (step b 16777216 4294967296 refl)
    (step b 4294967296 1099511627776 refl)
    (step b 1099511627776 281474976710656 refl)
    (step b 281474976710656 72057594037927936 refl)
    (last b 72057594037927936 (omega arith) h)

pub clock_back : (z : ℤ) → SFits w64 z →
    clock_of (joined (long (bits z % 256) (bits z / 256 % 256) (bits z / 65536 % 256) (bits z / 16777216 % 256)) (long (bits z / 4294967296 % 256) (bits z / 1099511627776 % 256) (bits z / 281474976710656 % 256) (bits z / 72057594037927936 % 256))) ≡ z
unfolding bits clock_of
clock_back z f = ap (to_z w64) (joined_back (of_z w64 z) (Fits-of_z f).fits) ∙ to_z-of_z f

module _ (l h : ℕ) (p : l < 4294967296) where
  pub joined0 : joined l h % 256 ≡ l % 256
  joined0 = omega arith

  pub joined1 : joined l h / 256 % 256 ≡ l / 256 % 256
  joined1 = omega arith

  pub joined2 : joined l h / 65536 % 256 ≡ l / 65536 % 256
  joined2 = omega arith

  pub joined3 : joined l h / 16777216 % 256 ≡ l / 16777216 % 256
  joined3 = omega arith

  pub joined4 : joined l h / 4294967296 % 256 ≡ h % 256
  joined4 = omega arith

  pub joined5 : joined l h / 1099511627776 % 256 ≡ h / 256 % 256
  joined5 = omega (arith, div-div-eq-div-mul (joined l h) 4294967296 256)

  pub joined6 : joined l h / 281474976710656 % 256 ≡ h / 65536 % 256
  joined6 = omega (arith, div-div-eq-div-mul (joined l h) 4294967296 65536)

  pub joined7 : joined l h / 72057594037927936 % 256 ≡ h / 16777216 % 256
  joined7 = omega (arith, div-div-eq-div-mul (joined l h) 4294967296 16777216)

pub long_fits : (a b c d : ℕ) → a < 256 → b < 256 → c < 256 → d < 256 → long a b c d < 4294967296
long_fits a b c d p q r t = omega arith

pub joined_fits : (l h : ℕ) → l < 4294967296 → h < 4294967296 → joined l h < 18446744073709551616
joined_fits l h p q = omega arith

pub count_again : (b : ℕ) → b < 256 → count_byte (aec_of b) ≡ b
unfolding count_byte aec_of
count_again b h = of_z-to_z {w = w8} (record { fits = h })

pub place_again : (b : ℕ) → place_byte (pending_of b) ≡ b
unfolding place_byte pending_of
place_again b = by_test (λ (p : Option ℕ). place_byte p ≡ b) (eqb b 255) (λ e. sym (eqb-true b 255 e)) (λ e. refl)

pub place_on_line : (b : ℕ) → (eqb b 255 || ltb b 40) ≡ true → Pends (pending_of b)
unfolding pending_of
place_on_line b h = by_test Pends (eqb b 255) (λ e. tt) (λ e. ltb-true b 40 (rw e at h))
