-- The sprites' requests of a line by their places, cut into its beginning and its end. Assumes nothing.
use Prim.Native.Nat.{ℕ, suc, ◌<◌, ◌≤◌, ◌+◌, ◌-◌, ◌*◌, ◌/◌, ◌%◌, ◌^◌}
use mathlib.Core.Path.{◌≡◌, refl, sym, ap, subst}
use mathlib.Core.Bool.{Bool, true, false, cond}
use native.Mathlib.Omega.{arith}
use native.Mathlib.Nat.{lt_of_le_of_lt, add-zero}
use lib.Dec.{ltb}
use borrow.Author.Tests.{ltb-true}
use lib.Bits.{bit_and, bit_or, and_le_l, and_comm}
use Rattle.laws.specs.Bits.{has_bit}
use Rattle.laws.proofs.Below as Below
use Rattle.schedule.specs.Kind.{Kind, the6569, the6567_r8, last_cycle}
use Rattle.schedule.specs.Requests.{mask_at}
use Rattle.schedule.specs.Machinery.Places.{asking_at}
use Rattle.arbitration.specs.Bus.{sprite_asks}
use Rattle.waves.specs.Waves.{Wave}
use Rattle.waves.proofs.Words.{as_wave, pad, one_more_lem, later, both}
use Rattle.waves.proofs.Asks.{none_asks}

-- the words of the code: each of the eight bits at its sprite's first place, and from there on for five
abbrev spaced : ℕ → ℕ
spaced w =
    let a = bit_and (bit_or w (w * 2 ^ 4 % 2 ^ 32)) 0x0F0F in
    let b = bit_and (bit_or a (a * 2 ^ 2 % 2 ^ 32)) 0x3333 in
    bit_and (bit_or b (b * 2 ^ 1 % 2 ^ 32)) 0x5555

abbrev spread : ℕ → ℕ
spread x =
    let y = bit_or x (x * 2 ^ 1 % 2 ^ 32) in
    bit_or (bit_or y (y * 2 ^ 2 % 2 ^ 32)) (x * 2 ^ 4 % 2 ^ 32)

abbrev pub places_of : ℕ → ℕ
places_of d = spread (spaced d)

pub placed : (d : ℕ) → d < 256 → Wave 19 (λ t. sprite_asks d (asking_at t)) (places_of d)
unfolding asking_at sprite_asks has_bit
placed d h =
    record {
      bits = λ t l. Below.same_test₂ (λ d t. has_bit (places_of d) t) (λ d t. sprite_asks d (asking_at t)) 256 19 tt d t h l;
      small = ltb-true (places_of d) (2 ^ 19) (Below.same_test (λ d. ltb (places_of d) (2 ^ 19)) (λ d. true) 256 tt d h);
    }

module _ (dma : ℕ) {w : ℕ} (x : Wave 19 (λ t. sprite_asks dma (asking_at t)) w) where
  pub early_6569 : Wave 10 (λ i. sprite_asks dma (mask_at the6569 (suc i))) (w / 2 ^ 9)
  unfolding asking_at mask_at
  early_6569 = as_wave (later 9 refl x) (λ i. sprite_asks dma (mask_at the6569 (suc i))) (λ i h. ap (sprite_asks dma) (Below.same (λ i. asking_at (9 + i)) (λ i. mask_at the6569 (suc i)) 10 tt i h))

  pub early_6567 : Wave 10 (λ i. sprite_asks dma (mask_at the6567_r8 (suc i))) (w / 2 ^ 10)
  unfolding asking_at mask_at sprite_asks
  early_6567 = pad (as_wave (later 10 refl x) (λ i. sprite_asks dma (mask_at the6567_r8 (suc i))) (λ i h. ap (sprite_asks dma) (Below.same (λ i. asking_at (10 + i)) (λ i. mask_at the6567_r8 (suc i)) 9 tt i h))) none
    where
      none : sprite_asks dma (mask_at the6567_r8 10) ≡ false
      none = rw (and_comm dma 0)

  full9 : Wave 9 (λ i. true) 511
  unfolding has_bit
  full9 = record { bits = Below.same_test (has_bit 511) (λ i. true) 9 tt; small = omega arith }

  full10 : Wave 10 (λ i. true) 1023
  unfolding has_bit
  full10 = record { bits = Below.same_test (has_bit 1023) (λ i. true) 10 tt; small = omega arith }

  pub late_6569 : Wave 9 (λ i. sprite_asks dma (mask_at the6569 (55 + i))) (bit_and w 511)
  unfolding asking_at mask_at
  late_6569 = rw (and_comm w 511) (as_wave (both full9 x (omega arith)) (λ i. sprite_asks dma (mask_at the6569 (55 + i))) (λ i h. ap (sprite_asks dma) (Below.same asking_at (λ i. mask_at the6569 (55 + i)) 9 tt i h)))

  lates : Wave 10 (λ i. sprite_asks dma (mask_at the6567_r8 (56 + i))) (bit_and w 1023)
  unfolding asking_at mask_at
  lates = rw (and_comm w 1023) (as_wave (both full10 x (omega arith)) (λ i. sprite_asks dma (mask_at the6567_r8 (56 + i))) (λ i h. ap (sprite_asks dma) (Below.same asking_at (λ i. mask_at the6567_r8 (56 + i)) 10 tt i h)))

  pub late_6567 : Wave 11 (λ i. sprite_asks dma (mask_at the6567_r8 (55 + i))) (bit_and w 1023 * 2)
  late_6567 = let z : bit_and w 1023 * 2 + 0 ≡ bit_and w 1023 * 2 = add-zero (bit_and w 1023 * 2) in subst (Wave 11 (λ i. sprite_asks dma (mask_at the6567_r8 (55 + i)))) z (one_more_lem lates false (λ i. sprite_asks dma (mask_at the6567_r8 (55 + i))) (sym (none_asks the6567_r8 dma 55 (omega arith) (omega arith))) (λ i h. let e : 56 + i ≡ 55 + suc i = omega arith in ap (λ (c : ℕ). sprite_asks dma (mask_at the6567_r8 c)) e))

  pub some : bit_and w 1023 < 1024
  some = rw (and_comm w 1023) (lt_of_le_of_lt (and_le_l 1023 w) (omega arith))

-- a word of the last cycles is small on both kinds
pub at_most : (k : Kind) {f : ℕ → Bool} {w : ℕ} → Wave (last_cycle k - 54) f w → w < 2048
at_most the6569 x = omega (arith, x.small)
at_most the6567_r8 x = x.small

pub run_most : (bad : Bool) → cond bad 15 0 ≤ 15
run_most true = omega arith
run_most false = omega arith
