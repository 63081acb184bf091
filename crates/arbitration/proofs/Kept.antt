-- The AEC counter, the clock and the lost cycles keep their bounds, and which field of the bus a step changes. Assumes nothing.
use Prim.Native.Nat.{ℕ, zero, suc, ◌+◌, ◌*◌, ◌≤◌}
use mathlib.Core.Path.{◌≡◌, refl, sym, ap}
use mathlib.Core.Bool.{Bool, true, false, not}
use native.Mathlib.Omega.{arith}
use lib.Bits.{and_zero_r}
use lib.IntN.{ℤ, pos, negsuc}
use Rattle.laws.specs.Clock.{InRange, CanTick}
use Rattle.laws.proofs.Choice.{either, or_false}
use Rattle.arbitration.specs.declared.Bus.{Bus}
use Rattle.arbitration.specs.Set.{clock≔, aec≔, balow≔, aeclow≔}
use Rattle.arbitration.specs.Bus.{down, Counted, aec_after, low, arbitrated, lost_after, counted, clock_on, clocked, fresh, sprite_asks, requested}
use Rattle.arbitration.proofs.Counting.{at_most_one}

counted_down : (z : ℤ) → Counted z → Counted (down z)
counted_down (negsuc n) h = h
counted_down (pos zero) h = refl
counted_down (pos (suc n)) h = omega arith

pub aec_kept : (z : ℤ) (asked : Bool) → Counted z → Counted (aec_after z asked)
unfolding aec_after
aec_kept z asked h = either Counted asked (counted_down z h) (omega arith)

pub clock_on_lem : (k n : ℕ) → clock_on k (pos n) ≡ pos (n + k * 2)
unfolding clock_on
clock_on_lem k n = refl

pub clock_on_range : (z : ℤ) → CanTick z → InRange (clock_on 1 z)
unfolding clock_on
clock_on_range (pos n) h = omega arith
clock_on_range (negsuc n) h = absurd h

-- no cycle on, and one more
pub clock_on_none : (z : ℤ) → InRange z → clock_on 0 z ≡ z
unfolding clock_on
clock_on_none (pos n) h = ap pos (omega arith)
clock_on_none (negsuc n) h = absurd h

pub clock_on_one_more : (k : ℕ) (z : ℤ) → InRange z → clock_on k (clock_on 1 z) ≡ clock_on (suc k) z
unfolding clock_on
clock_on_one_more k (pos n) h = ap pos (omega arith)
clock_on_one_more k (negsuc n) h = absurd h

pub clocked_sets : (k : ℕ) (b : Bus) → clocked k b ≡ clock≔ (clock_on k b.clock) b
unfolding clocked
clocked_sets k b = refl

module _ (b : Bus) where
  -- a bus that is the CPU's, and that nobody asks for
  pub free_bus : b.balow ≡ false → aec≔ (pos 3) (balow≔ false (aeclow≔ false (clock≔ (clock_on 1 b.clock) b))) ≡ arbitrated (clocked 1 b) false
  unfolding arbitrated clocked aec_after low
  free_bus e = simp e

  -- and in which no cycle is lost
  pub free_count : b.balow ≡ false → aec≔ (pos 3) (balow≔ false (aeclow≔ false (clock≔ (clock_on 1 b.clock) b))) ≡ counted false (arbitrated (clocked 1 b) false)
  unfolding counted lost_after arbitrated clocked aec_after low
  free_count e =
      let same : b.lost + 0 ≡ b.lost = omega arith in
      rw (e, same)

  pub counted_aec : (begins : Bool) → (counted begins b).aec ≡ b.aec
  unfolding counted
  counted_aec begins = refl

  pub counted_clock : (begins : Bool) → (counted begins b).clock ≡ b.clock
  unfolding counted
  counted_clock begins = refl

  pub counted_aeclow : (begins : Bool) → (counted begins b).aeclow ≡ b.aeclow
  unfolding counted
  counted_aeclow begins = refl

  pub counted_lost : (begins : Bool) → (counted begins b).lost ≡ lost_after begins b.aeclow b.lost
  unfolding counted
  counted_lost begins = refl

  pub arbitrated_lost : (asked : Bool) → (arbitrated b asked).lost ≡ b.lost
  unfolding arbitrated
  arbitrated_lost asked = refl

  pub clocked_lost : (clocked 1 b).lost ≡ b.lost
  unfolding clocked
  clocked_lost = refl

  pub arbitrated_aec : (asked : Bool) → (arbitrated b asked).aec ≡ aec_after b.aec asked
  unfolding arbitrated
  arbitrated_aec asked = refl

  pub arbitrated_clock : (asked : Bool) → (arbitrated b asked).clock ≡ b.clock
  unfolding arbitrated
  arbitrated_clock asked = refl

  pub clocked_aec : (clocked 1 b).aec ≡ b.aec
  unfolding clocked
  clocked_aec = refl

  pub clocked_clock : (clocked 1 b).clock ≡ clock_on 1 b.clock
  unfolding clocked
  clocked_clock = refl

  pub clocked_aeclow : (clocked 1 b).aeclow ≡ b.aeclow
  unfolding clocked
  clocked_aeclow = refl

-- a tick loses one cycle at most, and where a line begins it is the only one
pub lost_most : (begins taken : Bool) (lost : ℕ) → lost_after begins taken lost ≤ lost + 1
unfolding lost_after
lost_most true taken lost = omega (arith, at_most_one taken)
lost_most false taken lost = omega (arith, at_most_one taken)

pub lost_begun : (taken : Bool) (lost : ℕ) → lost_after true taken lost ≤ 1
unfolding lost_after
lost_begun taken lost = omega (arith, at_most_one taken)

-- power-up is within the bounds
pub fresh_aec : Counted fresh.aec
unfolding fresh
fresh_aec = omega arith

pub fresh_lost : fresh.lost ≡ 0
unfolding fresh
fresh_lost = refl

pub fresh_clock : InRange fresh.clock
unfolding fresh
fresh_clock = omega arith

-- where no sprite is scheduled, the matrix alone asks
pub matrix_alone : (ba : Bool) (dma mask : ℕ) → mask ≡ 0 → not ba ≡ requested ba dma mask
unfolding requested sprite_asks
matrix_alone ba dma mask e = rw (e, and_zero_r dma) (sym (or_false (not ba)))
