-- Eight sprites have DMA on at most. Assumes nothing.
use Prim.Native.Nat.{ℕ, zero, suc, ◌≤◌}
use mathlib.Core.Bool.{Bool, true, false, cond}
use native.Mathlib.Omega.{arith}
use Rattle.laws.specs.Bits.{ones_below, has_bit}
use Rattle.schedule.specs.Requests.{sprites_in}
use Rattle.chip.specs.declared.Chip.{Chip}
use Rattle.calls.specs.Calls.{dma_count}

one : (b : Bool) → cond b 1 0 ≤ 1
one true = omega arith
one false = omega arith

ones : (n mask : ℕ) → ones_below n mask ≤ n
unfolding ones_below
ones zero mask = omega arith
ones (suc n) mask = omega (arith, ones n mask, one (has_bit mask n))

pub eight : (c : Chip) → dma_count c ≤ 8
unfolding dma_count sprites_in
eight c = ones 8 c.side.sprites.dma
