-- The bus of a line as words, a bit a cycle: how many cycles ask, and in which of them AEC is low.
use Rattle.std.specs.Prelude.{ℕ, ◌+◌, ◌-◌, ◌/◌, ◌<◌, ◌^◌, ◌≡◌, Bool, false, cond, eqb, ℤ, pos, negsuc}
use Rattle.std.specs.Int.Bits.{bit_and}
use Rattle.std.specs.Int.Count.{count_leading_zeros}
use Rattle.laws.specs.Bits.{has_bit}
use Rattle.schedule.specs.Kind.{Kind}
use Rattle.arbitration.specs.Bus.{fresh, clock_on}
use Rattle.arbitration.specs.Set.{aec≔}
use Rattle.lines.specs.Bus.{low_in}

-- bit i of the word says f i, for the n lowest ones; no other bit is set
pub record Wave (n : ℕ) (f : ℕ → Bool) (w : ℕ) : Type 0 where
  pub bits : (i : ℕ) → i < n → has_bit w i ≡ f i
  pub small : w < 2 ^ n

-- 02 (xii): AEC in the cycles 0 to 10, where 0 is the line before: whether the line is bad and what DMA starts later is no matter there (`early_low`)
abbrev pub low_early : Kind → ℕ → ℤ → ℕ → Bool
low_early k dma aec c = low_in k false (record { before = dma; first = 0; after = 0 }) (aec≔ aec fresh) c

-- and in cycle 54 + i, where the bus before the line and the DMA before the comparisons are none (`late_low`)
abbrev pub low_late : Kind → Bool → ℕ → ℕ → Bool
low_late k bad dma i = low_in k bad (record { before = 0; first = dma; after = dma }) fresh (54 + i)

-- ---- what the steps beneath hand on

-- the bits that are set with the three above them
abbrev pub four_of : ℕ → ℕ
four_of w = bit_and (bit_and (bit_and (w / 2 ^ 3) (w / 2 ^ 2)) (w / 2 ^ 1)) w

-- four requests, the newest at bit 3: how many more AEC waits for
abbrev pub count_of : ℕ → ℤ
count_of run = cond (has_bit run 3) (cond (has_bit run 2) (cond (has_bit run 1) (cond (has_bit run 0) (negsuc 0) (pos 0)) (pos 1)) (pos 2)) (pos 3)

-- the clock of the last cycle of a word that begins after cycle c; the old one where it has none
unfoldable pub edge_of : ℕ → ℕ → ℤ → ℤ → ℤ
edge_of w c clock old = cond (eqb w 0) old (clock_on (c + (32 - count_leading_zeros 32 w)) clock)
