-- A mask of eight bits, bit by bit. Assumes nothing.
use mathlib.Core.Path.{◌≡◌, sym, ◌∙◌, ap}
use mathlib.Core.Bool.{Bool, true, false, not, ◌&&◌, ◌||◌, cond}
use Prim.Native.Nat.{ℕ, ◌+◌, ◌-◌, ◌/◌, ◌%◌, ◌^◌, ◌<◌}
use native.Mathlib.Omega.{arith}
use borrow.Author.Tests.{ltb-true}
use lib.Dec.{T, eqb, ltb}
use lib.Bits.{bit_and, bit_or, bit_xor, and_shr, or_shr, xor_shr, and_mod, or_mod, xor_mod}
use Rattle.laws.specs.Bits.{has_bit, with_bit, without_bit}
use Rattle.laws.proofs.Below.{both, both_left, both_right, all, below, iff, iff_eq, same, same_test₂}
use Rattle.engine.specs.Counters.{mask_of}

same_test₃ : (f g : ℕ → ℕ → ℕ → Bool) (a b c : ℕ) → T (all (λ i. all (λ j. all (λ k. iff (f i j k) (g i j k)) 0 c) 0 b) 0 a)
    → (i j k : ℕ) → i < a → j < b → k < c → f i j k ≡ g i j k
same_test₃ f g a b c t i j k hi hj hk =
    iff_eq (f i j k) (g i j k)
    (below (λ k. iff (f i j k) (g i j k)) c
    (below (λ j. all (λ k. iff (f i j k) (g i j k)) 0 c) b
    (below (λ i. all (λ j. all (λ k. iff (f i j k) (g i j k)) 0 c) 0 b) a t i hi) j hj) k hk)

-- a bit set, and a bit cleared
pub with_bit_lem : (m k n : ℕ) → m < 256 → k < 8 → n < 8 → has_bit (with_bit m k) n ≡ (eqb k n || has_bit m n)
unfolding has_bit with_bit
with_bit_lem = same_test₃ (λ m k n. has_bit (with_bit m k) n) (λ m k n. eqb k n || has_bit m n) 256 8 8 tt

pub without_bit_lem : (m k n : ℕ) → m < 256 → k < 8 → n < 8 → has_bit (without_bit m k) n ≡ (not (eqb k n) && has_bit m n)
unfolding has_bit without_bit
without_bit_lem = same_test₃ (λ m k n. has_bit (without_bit m k) n) (λ m k n. not (eqb k n) && has_bit m n) 256 8 8 tt

with_is_small : (m k : ℕ) → m < 256 → k < 8 → ltb (with_bit m k) 256 ≡ true
unfolding has_bit with_bit
with_is_small = same_test₂ (λ m k. ltb (with_bit m k) 256) (λ m k. true) 256 8 tt

pub with_small : (m k : ℕ) → m < 256 → k < 8 → with_bit m k < 256
with_small m k h l = ltb-true (with_bit m k) 256 (with_is_small m k h l)

without_is_small : (m k : ℕ) → m < 256 → k < 8 → ltb (without_bit m k) 256 ≡ true
unfolding has_bit without_bit
without_is_small = same_test₂ (λ m k. ltb (without_bit m k) 256) (λ m k. true) 256 8 tt

pub without_small : (m k : ℕ) → m < 256 → k < 8 → without_bit m k < 256
without_small m k h l = ltb-true (without_bit m k) 256 (without_is_small m k h l)

-- all bits the other way
pub not_bit : (m n : ℕ) → m < 256 → n < 8 → has_bit (255 - m) n ≡ not (has_bit m n)
unfolding has_bit
not_bit = same_test₂ (λ m n. has_bit (255 - m) n) (λ m n. not (has_bit m n)) 256 8 tt

-- and, or, exclusive or: bit by bit
and_one : (p q : ℕ) → p < 2 → q < 2 → eqb (bit_and p q) 1 ≡ (eqb p 1 && eqb q 1)
and_one = same_test₂ (λ p q. eqb (bit_and p q) 1) (λ p q. eqb p 1 && eqb q 1) 2 2 tt

or_one : (p q : ℕ) → p < 2 → q < 2 → eqb (bit_or p q) 1 ≡ (eqb p 1 || eqb q 1)
or_one = same_test₂ (λ p q. eqb (bit_or p q) 1) (λ p q. eqb p 1 || eqb q 1) 2 2 tt

abbrev pub other : Bool → Bool → Bool
other true b = not b
other false b = b

xor_one : (p q : ℕ) → p < 2 → q < 2 → eqb (bit_xor p q) 1 ≡ other (eqb p 1) (eqb q 1)
xor_one = same_test₂ (λ p q. eqb (bit_xor p q) 1) (λ p q. other (eqb p 1) (eqb q 1)) 2 2 tt

odd : (x : ℕ) → x % 2 < 2
odd x = omega arith

pub and_bit : (a b n : ℕ) → has_bit (bit_and a b) n ≡ (has_bit a n && has_bit b n)
unfolding has_bit
and_bit a b n =
    ap (λ (x : ℕ). eqb (x % 2) 1) (and_shr a b n) ∙ ap (λ (x : ℕ). eqb x 1) (and_mod (a / 2 ^ n) (b / 2 ^ n) 1)
    ∙ and_one (a / 2 ^ n % 2) (b / 2 ^ n % 2) (odd (a / 2 ^ n)) (odd (b / 2 ^ n))

pub or_bit : (a b n : ℕ) → has_bit (bit_or a b) n ≡ (has_bit a n || has_bit b n)
unfolding has_bit
or_bit a b n =
    ap (λ (x : ℕ). eqb (x % 2) 1) (or_shr a b n) ∙ ap (λ (x : ℕ). eqb x 1) (or_mod (a / 2 ^ n) (b / 2 ^ n) 1)
    ∙ or_one (a / 2 ^ n % 2) (b / 2 ^ n % 2) (odd (a / 2 ^ n)) (odd (b / 2 ^ n))

pub xor_bit : (a b n : ℕ) → has_bit (bit_xor a b) n ≡ other (has_bit a n) (has_bit b n)
unfolding has_bit
xor_bit a b n =
    ap (λ (x : ℕ). eqb (x % 2) 1) (xor_shr a b n) ∙ ap (λ (x : ℕ). eqb x 1) (xor_mod (a / 2 ^ n) (b / 2 ^ n) 1)
    ∙ xor_one (a / 2 ^ n % 2) (b / 2 ^ n % 2) (odd (a / 2 ^ n)) (odd (b / 2 ^ n))

-- a mask is its eight bits
abbrev pub of_bits : (ℕ → Bool) → ℕ
of_bits f = cond (f 0) 1 0 + cond (f 1) 2 0 + cond (f 2) 4 0 + cond (f 3) 8 0 + cond (f 4) 16 0 + cond (f 5) 32 0 + cond (f 6) 64 0 + cond (f 7) 128 0

is_bits : (m : ℕ) → m < 256 → of_bits (has_bit m) ≡ m
unfolding has_bit
is_bits = same (λ m. of_bits (has_bit m)) (λ m. m) 256 tt

same_bits : (f g : ℕ → Bool) → ((n : ℕ) → n < 8 → f n ≡ g n) → of_bits f ≡ of_bits g
same_bits f g e =
    rw (e 0 (omega arith), e 1 (omega arith), e 2 (omega arith), e 3 (omega arith), e 4 (omega arith), e 5 (omega arith), e 6 (omega arith), e 7 (omega arith))

pub by_bits : (m w : ℕ) → m < 256 → w < 256 → ((n : ℕ) → n < 8 → has_bit m n ≡ has_bit w n) → m ≡ w
by_bits m w hm hw e = sym (is_bits m hm) ∙ same_bits (has_bit m) (has_bit w) e ∙ is_bits w hw

-- eight tests as a mask
abbrev all_b : (Bool → Bool) → Bool
all_b f = both (f true) (f false)

at : (f : Bool → Bool) → T (all_b f) → (b : Bool) → T (f b)
at f t true = both_left (f true) (f false) t
at f t false = both_right (f true) (f false) t

abbrev pub nth : Bool → Bool → Bool → Bool → Bool → Bool → Bool → Bool → ℕ → Bool
nth a b c d e f g h n = cond (eqb n 0) a (cond (eqb n 1) b (cond (eqb n 2) c (cond (eqb n 3) d (cond (eqb n 4) e (cond (eqb n 5) f (cond (eqb n 6) g h))))))

abbrev fits : Bool → Bool → Bool → Bool → Bool → Bool → Bool → Bool → Bool
fits a b c d e f g h = both (ltb (mask_of a b c d e f g h) 256) (all (λ n. iff (has_bit (mask_of a b c d e f g h) n) (nth a b c d e f g h n)) 0 8)

all_fit : T (all_b (λ a. all_b (λ b. all_b (λ c. all_b (λ d. all_b (λ e. all_b (λ f. all_b (λ g. all_b (λ h. fits a b c d e f g h)))))))))
unfolding mask_of has_bit
all_fit = tt

fit : (a b c d e f g h : Bool) → T (fits a b c d e f g h)
fit a b c d e f g h =
    at (λ h. fits a b c d e f g h)
    (at (λ g. all_b (λ h. fits a b c d e f g h))
    (at (λ f. all_b (λ g. all_b (λ h. fits a b c d e f g h)))
    (at (λ e. all_b (λ f. all_b (λ g. all_b (λ h. fits a b c d e f g h))))
    (at (λ d. all_b (λ e. all_b (λ f. all_b (λ g. all_b (λ h. fits a b c d e f g h)))))
    (at (λ c. all_b (λ d. all_b (λ e. all_b (λ f. all_b (λ g. all_b (λ h. fits a b c d e f g h))))))
    (at (λ b. all_b (λ c. all_b (λ d. all_b (λ e. all_b (λ f. all_b (λ g. all_b (λ h. fits a b c d e f g h)))))))
    (at (λ a. all_b (λ b. all_b (λ c. all_b (λ d. all_b (λ e. all_b (λ f. all_b (λ g. all_b (λ h. fits a b c d e f g h)))))))) all_fit a) b) c) d) e) f) g) h

module _ (a b c d e f g h : Bool) where
  pub mask_small : mask_of a b c d e f g h < 256
  mask_small = ltb-true (mask_of a b c d e f g h) 256 (iff_eq (ltb (mask_of a b c d e f g h) 256) true (flag (ltb (mask_of a b c d e f g h) 256) (both_left (ltb (mask_of a b c d e f g h) 256) (all (λ n. iff (has_bit (mask_of a b c d e f g h) n) (nth a b c d e f g h n)) 0 8) (fit a b c d e f g h))))
    where
      flag : (x : Bool) → T x → T (iff x true)
      flag true t = tt
      flag false t = t

  pub mask_bit : (n : ℕ) → n < 8 → has_bit (mask_of a b c d e f g h) n ≡ nth a b c d e f g h n
  mask_bit n l =
      iff_eq (has_bit (mask_of a b c d e f g h) n) (nth a b c d e f g h n)
      (below (λ n. iff (has_bit (mask_of a b c d e f g h) n) (nth a b c d e f g h n)) 8
      (both_right (ltb (mask_of a b c d e f g h) 256) (all (λ n. iff (has_bit (mask_of a b c d e f g h) n) (nth a b c d e f g h n)) 0 8) (fit a b c d e f g h)) n l)
