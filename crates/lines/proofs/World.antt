-- The whole tick over a line: the picture goes by the orders of the parts' own ways. Assumes nothing.
use Prim.Native.Nat.{ℕ, zero, suc, ◌<◌}
use mathlib.Core.Path.{◌≡◌, refl, ◌∙◌, ap}
use native.Mathlib.Omega.{arith}
use Rattle.schedule.specs.Kind.{last_cycle}
use Rattle.memory.specs.Lent.{Host}
use Rattle.registers.specs.declared.Registers.{Registers}
use Rattle.registers.specs.Control.{mode_number, timed}
use Rattle.side.specs.declared.Turned.{Turned}
use Rattle.side.specs.Turn.{turned}
use Rattle.picture.specs.Pen.{pen_after, matrix_after, slotted}
use Rattle.world.specs.World.{World}
use Rattle.world.specs.Tick.{tick_world}
use Rattle.lines.specs.Begin.{kind_in}
use Rattle.lines.specs.Lines.{ticks_on}
use Rattle.lines.proofs.Split.{turn_in, turn_first, turn_next}

ticks_none : (h : Host) (g : Registers) (w : World) → ticks_on h g 0 w ≡ w
unfolding ticks_on
ticks_none h g w = refl

ticks_suc : (h : Host) (g : Registers) (w : World) (n : ℕ) → ticks_on h g (suc n) w ≡ tick_world h g (ticks_on h g n w)
unfolding ticks_on
ticks_suc h g w n = refl

-- the picture's step by a turn
abbrev by : Host → Registers → World → Turned → World
by h g x t =
    let l = slotted x.pointers x.bytes x.words t.orders g.ptrs h.ram h.rom h.bank in
    record {
      side = t.side;
      pen = pen_after x.matrix t.orders t.side.bus.clock x.pen (mode_number g.ctrl1 g.ctrl2) g.ptrs h.ram h.rom h.bank;
      matrix = matrix_after x.matrix t.orders t.side.bus.clock x.pen g.ptrs h.ram h.rom h.colour h.bank;
      pointers = l.pointers;
      bytes = l.bytes;
      words = l.words;
    }

module _ (h : Host) (g : Registers) (w : World) where
  -- by the orders of cycle n + 1
  abbrev pub world_by : ℕ → World → World
  world_by n x = by h g x (turn_in (timed g) w.side n)

  ticks : (x : World) → tick_world h g x ≡ by h g x (turned (timed g) x.side)
  unfolding tick_world
  ticks x = refl

  module _ (end : w.side.beam.cycle ≡ last_cycle (kind_in w.side)) where
    Found : ℕ → Type 0
    Found n = turned (timed g) (ticks_on h g n w).side ≡ turn_in (timed g) w.side n

    step_by_lem : (n : ℕ) {t : Turned} → turned (timed g) (ticks_on h g n w).side ≡ t → ticks_on h g (suc n) w ≡ by h g (ticks_on h g n w) t
    step_by_lem n e = ticks_suc h g w n ∙ ticks (ticks_on h g n w) ∙ ap (by h g (ticks_on h g n w)) e

    found_first : Found 0
    unfolding Found
    found_first = ap (λ (x : World). turned (timed g) x.side) (ticks_none h g w) ∙ turn_first (timed g) w.side end

    found_next : (n : ℕ) → suc n < last_cycle (kind_in w.side) → Found n → Found (suc n)
    unfolding Found
    found_next n l e = ap (λ (x : World). turned (timed g) x.side) (step_by_lem n e) ∙ turn_next (timed g) w.side n l

    found : (n : ℕ) → n < last_cycle (kind_in w.side) → Found n
    found zero l = found_first
    found (suc n) l = found_next n l (found n (omega arith))

    pub world_none : ticks_on h g 0 w ≡ w
    world_none = ticks_none h g w

    pub world_step : (n : ℕ) → n < last_cycle (kind_in w.side) → ticks_on h g (suc n) w ≡ world_by n (ticks_on h g n w)
    unfolding Found
    world_step n l = step_by_lem n (found n l)
