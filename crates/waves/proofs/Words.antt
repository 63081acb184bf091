-- Words with a bit a cycle: shifted, cut and put together. Assumes nothing.
use Prim.Native.Nat.{ℕ, zero, suc, ◌+◌, ◌-◌, ◌*◌, ◌/◌, ◌%◌, ◌^◌, ◌<◌, ◌≤◌}
use mathlib.Core.Path.{◌≡◌, refl, ◌∙◌, sym, ap, subst}
use mathlib.Core.Bool.{Bool, true, false, not, ◌&&◌, cond}
use native.Mathlib.Omega.{arith}
use native.Mathlib.Decide.{dec_lt}
use native.Mathlib.Nat.{div-div-eq-div-mul, div-eq_of_lt, mod-lt, zero-lt-suc, lt_of_le_of_lt, pow-suc}
use lib.Dec.{eqb}
use lib.Bits.{bit_and, bit_xor, and_shr, and_mod, xor_shr, xor_mod, and_le_l, xor_lt}
use lib.Pow.{pow-add, shr_lt}
use Rattle.laws.specs.Bits.{has_bit}
use Rattle.laws.proofs.Below as Below
use Rattle.waves.specs.Waves.{Wave}

-- ---- a bit of what the operations make

pub shr_bit : (w j i : ℕ) → has_bit (w / 2 ^ j) i ≡ has_bit w (j + i)
unfolding has_bit
shr_bit w j i = ap (λ (x : ℕ). eqb (x % 2) 1) (div-div-eq-div-mul w (2 ^ j) (2 ^ i) ∙ ap (λ (x : ℕ). w / x) (sym (pow-add 2 j i)))

two_pos : zero < 2
two_pos = zero-lt-suc 1

and_bit : (a b i : ℕ) → has_bit (bit_and a b) i ≡ (has_bit a i && has_bit b i)
unfolding has_bit
and_bit a b i =
    ap (λ (x : ℕ). eqb (x % 2) 1) (and_shr a b i)
    ∙ ap (λ (x : ℕ). eqb x 1) (and_mod (a / 2 ^ i) (b / 2 ^ i) 1)
    ∙ Below.same_test₂ (λ x y. eqb (bit_and x y) 1) (λ x y. eqb x 1 && eqb y 1) 2 2 tt (a / 2 ^ i % 2) (b / 2 ^ i % 2) (mod-lt (a / 2 ^ i) two_pos) (mod-lt (b / 2 ^ i) two_pos)

-- one of two, and not both
abbrev apart : Bool → Bool → Bool
apart a b = cond a (not b) b

xor_bit : (a b i : ℕ) → has_bit (bit_xor a b) i ≡ apart (has_bit a i) (has_bit b i)
unfolding has_bit
xor_bit a b i =
    ap (λ (x : ℕ). eqb (x % 2) 1) (xor_shr a b i)
    ∙ ap (λ (x : ℕ). eqb x 1) (xor_mod (a / 2 ^ i) (b / 2 ^ i) 1)
    ∙ Below.same_test₂ (λ x y. eqb (bit_xor x y) 1) (λ x y. apart (eqb x 1) (eqb y 1)) 2 2 tt (a / 2 ^ i % 2) (b / 2 ^ i % 2) (mod-lt (a / 2 ^ i) two_pos) (mod-lt (b / 2 ^ i) two_pos)

-- no bit at or past a number's length
none_past : (w n : ℕ) → w < 2 ^ n → has_bit w n ≡ false
unfolding has_bit
none_past w n h =
    ap (λ (x : ℕ). eqb (x % 2) 1) (div-eq_of_lt h)

pub low_bit : (w : ℕ) → has_bit w 0 ≡ eqb (w % 2) 1
unfolding has_bit
low_bit w = let e : w / 1 ≡ w = omega arith in ap (λ (x : ℕ). eqb (x % 2) 1) e

-- the four lowest bits beside sixteens
under : (a b i : ℕ) → i < 4 → has_bit (a * 16 + b) i ≡ has_bit b i
unfolding has_bit
under a b zero l = let e : (a * 16 + b) / 1 % 2 ≡ b / 1 % 2 = omega arith in rw e
under a b (suc zero) l = let e : (a * 16 + b) / 2 % 2 ≡ b / 2 % 2 = omega arith in rw e
under a b (suc (suc zero)) l = let e : (a * 16 + b) / 4 % 2 ≡ b / 4 % 2 = omega arith in rw e
under a b (suc (suc (suc zero))) l = let e : (a * 16 + b) / 8 % 2 ≡ b / 8 % 2 = omega arith in rw e
under a b (suc (suc (suc (suc i)))) l = absurd (omega arith)

-- ---- words

module _ {n : ℕ} {f : ℕ → Bool} {w : ℕ} (x : Wave n f w) where
  pub as_wave : (g : ℕ → Bool) → ((i : ℕ) → i < n → f i ≡ g i) → Wave n g w
  as_wave g e = record { bits = λ i h. x.bits i h ∙ e i h; small = x.small }

  pub pad : f n ≡ false → Wave (suc n) f w
  pad e = record { bits = λ i h. by i h (dec_lt i n); small = omega (arith, x.small, pow-suc 2 n) }
    where
      by : (i : ℕ) → i < suc n → Dec (i < n) → has_bit w i ≡ f i
      by i h (yes l) = x.bits i l
      by i h (no l) = let q : i ≡ n = omega arith in rw q (none_past w n x.small ∙ sym e)

  -- the word begins one cycle earlier
  pub one_more_lem : (b : Bool) (g : ℕ → Bool) → b ≡ g 0 → ((i : ℕ) → i < n → f i ≡ g (suc i)) → Wave (suc n) g (w * 2 + cond b 1 0)
  one_more_lem b g e q = record { bits = by; small = omega (arith, x.small, pow-suc 2 n, few b) }
    where
      few : (b : Bool) → cond b 1 0 ≤ 1
      few true = omega arith
      few false = omega arith

      odd : (b : Bool) → eqb ((w * 2 + cond b 1 0) % 2) 1 ≡ b
      odd true = let p : (w * 2 + 1) % 2 ≡ 1 = omega arith in rw p
      odd false = let p : (w * 2 + 0) % 2 ≡ 0 = omega arith in rw p

      half : (w * 2 + cond b 1 0) / 2 ≡ w
      half = omega (arith, few b)

      by : (i : ℕ) → i < suc n → has_bit (w * 2 + cond b 1 0) i ≡ g i
      by zero h = low_bit (w * 2 + cond b 1 0) ∙ odd b ∙ e
      by (suc i) h = let p : suc i ≡ 1 + i = omega arith in ap (has_bit (w * 2 + cond b 1 0)) p ∙ sym (shr_bit (w * 2 + cond b 1 0) 1 i) ∙ ap (λ (v : ℕ). has_bit v i) half ∙ x.bits i (omega arith) ∙ q i (omega arith)

-- later cycles alone
pub later : {m n : ℕ} {f : ℕ → Bool} {w : ℕ} (j : ℕ) → m ≡ n + j → Wave m f w → Wave n (λ i. f (j + i)) (w / 2 ^ j)
later {m} {n} {f} {w} j e x =
    record {
      bits = λ i h. shr_bit w j i ∙ x.bits (j + i) (omega arith);
      small = shr_lt n j (subst (λ (m : ℕ). w < 2 ^ m) e x.small);
    }

module _ {n : ℕ} {f : ℕ → Bool} {a : ℕ} (x : Wave n f a) where
  pub both : {m : ℕ} {g : ℕ → Bool} {b : ℕ} → Wave m g b → n ≤ m → Wave n (λ i. f i && g i) (bit_and a b)
  both {m} {g} {b} y l = record { bits = λ i h. and_bit a b i ∙ rw (x.bits i h, y.bits i (omega arith)); small = lt_of_le_of_lt (and_le_l a b) x.small }

  pub less : {g : ℕ → Bool} {b : ℕ} → Wave n g b → Wave n (λ i. f i && not (g i)) (bit_xor a (bit_and a b))
  less {g} {b} y =
      record {
        bits = λ i h. xor_bit a (bit_and a b) i ∙ ap (apart (has_bit a i)) (and_bit a b i) ∙ rw (x.bits i h, y.bits i h) (only (f i) (g i));
        small = xor_lt n a (bit_and a b) x.small (lt_of_le_of_lt (and_le_l a b) x.small);
      }
    where
      only : (p q : Bool) → apart p (p && q) ≡ (p && not q)
      only true q = refl
      only false q = refl

  -- the word begins four cycles earlier
  pub four_more : {m : ℕ} {g : ℕ → Bool} {b : ℕ} → m ≡ 4 + n → Wave 4 g b → (h : ℕ → Bool) → ((i : ℕ) → i < 4 → g i ≡ h i) → ((i : ℕ) → i < n → f i ≡ h (4 + i)) → Wave m h (a * 16 + b)
  four_more {m} {g} {b} e y h p q = record { bits = λ i l. by i l (dec_lt i 4); small = subst (λ (j : ℕ). a * 16 + b < 2 ^ j) (sym e) (omega (arith, x.small, y.small, pow-add 2 4 n)) }
    where
      half : (a * 16 + b) / 2 ^ 4 ≡ a
      half = omega (arith, y.small)

      above : (i : ℕ) → i < n → has_bit (a * 16 + b) (4 + i) ≡ h (4 + i)
      above i l = sym (shr_bit (a * 16 + b) 4 i) ∙ ap (λ (v : ℕ). has_bit v i) half ∙ x.bits i l ∙ q i l

      by : (i : ℕ) → i < m → Dec (i < 4) → has_bit (a * 16 + b) i ≡ h i
      by i l (yes d) = under a b i d ∙ y.bits i d ∙ p i d
      by i l (no d) = let r : 4 + (i - 4) ≡ i = omega arith in subst (λ (j : ℕ). has_bit (a * 16 + b) j ≡ h j) r (above (i - 4) (omega arith))
