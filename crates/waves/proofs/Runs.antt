-- Four requests and the AEC counter. Assumes nothing.
use Prim.Native.Nat.{ℕ, ◌<◌, ◌≤◌, ◌+◌, ◌-◌}
use mathlib.Core.Path.{◌≡◌, ◌∙◌, sym, ap}
use mathlib.Core.Bool.{Bool, true, false, true≢false}
use native.Mathlib.Omega.{arith}
use lib.Dec.{T}
use lib.IntN.{ℤ, pos, negsuc}
use lib.Signed.{lt_z}
use mir.Syntax.{w8}
use mir.Val.{SFits, to_z, of_z}
use mir.Facts.{to_z-of_z}
use borrow.Author.Tests.{ltb-true, le-ltb}
use Rattle.laws.specs.Bits.{has_bit}
use Rattle.laws.proofs.Below as Below
use Rattle.lines.specs.Bus.{waited}
use Rattle.waves.specs.Waves.{Wave, count_of}

-- ---- the counter of four requests, by the size of their word

bit_in : (n : ℕ) (v : Bool) (a d : ℕ) → T (Below.all (λ r. Below.iff (has_bit r n) v) a d) → (r : ℕ) → a ≤ r → r < a + d → has_bit r n ≡ v
bit_in n v a d t r l h = Below.iff_eq (has_bit r n) v (Below.within (λ r. Below.iff (has_bit r n) v) a d t r l h)

pub three : (r : ℕ) → r < 8 → pos 3 ≡ count_of r
unfolding has_bit
three r h = rw (bit_in 3 false 0 8 tt r (omega arith) (omega arith))

pub two : (r : ℕ) → 8 ≤ r → r < 12 → pos 2 ≡ count_of r
unfolding has_bit
two r l h = rw (bit_in 3 true 8 4 tt r l (omega arith), bit_in 2 false 8 4 tt r l (omega arith))

pub one : (r : ℕ) → 12 ≤ r → r < 14 → pos 1 ≡ count_of r
unfolding has_bit
one r l h = rw (bit_in 3 true 12 2 tt r l (omega arith), bit_in 2 true 12 2 tt r l (omega arith), bit_in 1 false 12 2 tt r l (omega arith))

pub nought : (r : ℕ) → 14 ≤ r → r < 15 → pos 0 ≡ count_of r
unfolding has_bit
nought r l h = let e : r ≡ 14 = omega arith in rw e

pub minus : (r : ℕ) → 15 ≤ r → r < 16 → negsuc 0 ≡ count_of r
unfolding has_bit
minus r l h = let e : r ≡ 15 = omega arith in rw e

-- ---- the four requests that a counter remembers

-- a signed byte by its eight bits
as_read : {z : ℤ} {n : ℕ} → SFits w8 z → of_z w8 z ≡ n → z ≡ to_z w8 n
as_read h e = sym (to_z-of_z h) ∙ ap (to_z w8) e

pub remembers_four : (z : ℤ) → lt_z z (pos 0) ≡ true → Wave 4 (λ i. waited z (3 - i)) 15
unfolding waited has_bit
remembers_four (negsuc n) e = record { bits = Below.same_test (has_bit 15) (λ i. true) 4 tt; small = omega arith }
remembers_four (pos n) e = absurd (omega (arith, ltb-true n 0 e))

pub remembers_three : (z : ℤ) → SFits w8 z → of_z w8 z ≡ 0 → Wave 4 (λ i. waited z (3 - i)) 14
unfolding waited has_bit
remembers_three z h e = rw (as_read h e) (record { bits = Below.same_test (has_bit 14) (λ i. waited (pos 0) (3 - i)) 4 tt; small = omega arith })

pub remembers_two : (z : ℤ) → SFits w8 z → of_z w8 z ≡ 1 → Wave 4 (λ i. waited z (3 - i)) 12
unfolding waited has_bit
remembers_two z h e = rw (as_read h e) (record { bits = Below.same_test (has_bit 12) (λ i. waited (pos 1) (3 - i)) 4 tt; small = omega arith })

pub remembers_one : (z : ℤ) → SFits w8 z → of_z w8 z ≡ 2 → Wave 4 (λ i. waited z (3 - i)) 8
unfolding waited has_bit
remembers_one z h e = rw (as_read h e) (record { bits = Below.same_test (has_bit 8) (λ i. waited (pos 2) (3 - i)) 4 tt; small = omega arith })

pub remembers_none : (z : ℤ) → lt_z z (pos 0) ≡ false → (of_z w8 z ≡ 0 → ⊥) → (of_z w8 z ≡ 1 → ⊥) → (of_z w8 z ≡ 2 → ⊥) → Wave 4 (λ i. waited z (3 - i)) 0
unfolding waited has_bit
remembers_none (pos n) e a b c =
    let read : (m : ℕ) → n ≡ m → of_z w8 (pos n) ≡ of_z w8 (pos m) = λ m. ap (λ (k : ℕ). of_z w8 (pos k)) in
    let x : n ≡ 0 → ⊥ = λ q. a (read 0 q) in
    let y : n ≡ 1 → ⊥ = λ q. b (read 1 q) in
    let w : n ≡ 2 → ⊥ = λ q. c (read 2 q) in
    record { bits = λ i h. rw (le-ltb (n + (3 - i)) 3 (omega (arith, x, y, w))) (Below.same_test (has_bit 0) (λ i. false) 4 tt i h); small = omega arith }
remembers_none (negsuc n) e a b c = absurd (true≢false e)
