-- A line as a whole among ticks: all the ticks of a line that is not refused are taken, and end where it ends. Assumes nothing.
use Prim.Native.Nat.{ℕ, zero, suc, ◌+◌, ◌-◌}
use mathlib.Core.Path.{◌≡◌, refl, ◌∙◌}
use mathlib.Core.List.{[]}
use mathlib.Core.Bool.{true, false≢true}
use native.Mathlib.Omega.{arith}
use lib.IntN.{ℤ, pos, negsuc}
use lib.Signed.{le_z}
use borrow.Author.Tests.{eqb-true, eq-eqb, leb-true}
use Rattle.schedule.specs.Kind.{Kind, the6569, the6567_r8, kind_of, last_cycle}
use Rattle.memory.specs.Lent.{Host, lent_refusal}
use Rattle.registers.specs.declared.Registers.{Registers}
use Rattle.registers.specs.Control.{timed}
use Rattle.access.specs.declared.Reads.{Reads}
use Rattle.access.specs.Reads.{told}
use Rattle.chip.specs.Chip.{reading}
use Rattle.chip.specs.Accept.{clock_fine, accepted}
use Rattle.chip.proofs.Fine.{accepted_fine}
use Rattle.chip.proofs.Accepted.{accepted_clock}
use Rattle.world.specs.World.{World, chip_of}
use Rattle.world.specs.Tick.{tick_reads}
use Rattle.lines.specs.Whole.{line_world}
use Rattle.lines.specs.Lines.{ticks_on}
use Rattle.lines.proofs.Lines.{a_line_is_its_ticks, another_line_can_follow}
use Rattle.engine.specs.World.{Takes, Begins}
use Rattle.sequencer.specs.Tick.{ticks_from}
use Rattle.sequencer.specs.Line.{last_lineable, at_line_end, lineable}
use Rattle.sequencer.specs.Machinery.Parts.{Held, Roomy}
use Rattle.sequencer.proofs.Kept.{world_kept}
use Rattle.sequencer.proofs.Runs.{next, none}
use Rattle.sequencer.proofs.Sides.{tick_taken}
use Rattle.sequencer.proofs.Staged.{room_now, room_next, tick_clock}

-- ---- the clock

pub is_lineable : (k : Kind) (z : ℤ) → le_z z (pos (last_lineable k)) ≡ lineable k z
unfolding lineable
is_lineable k (pos n) = refl
is_lineable k (negsuc n) = refl

line_room : (k : Kind) (z : ℤ) → clock_fine z ≡ true → lineable k z ≡ true → Roomy (last_cycle k) z
unfolding clock_fine lineable
line_room the6569 (pos n) e t = omega (arith, leb-true n (last_lineable the6569) t)
line_room the6567_r8 (pos n) e t = omega (arith, leb-true n (last_lineable the6567_r8) t)
line_room k (negsuc n) e t = absurd (false≢true e)

takes : (n : ℕ) (z : ℤ) → Roomy n z → Takes n z
takes n (pos c) r = r
takes n (negsuc c) r = r

-- ---- ticks for which the clock has room are all taken

module _ (h : Host) (g : Registers) (w : World) (free : lent_refusal h ≡ 0) (fine : accepted (chip_of g w) ≡ true) where
  record Taken (i left : ℕ) : Type 0 where
    heard : Reads
    state : ticks_from h i (chip_of g w) ≡ reading (chip_of g (ticks_on h g i w)) heard
    kept : accepted (chip_of g (ticks_on h g i w)) ≡ true
    room : Roomy left (ticks_on h g i w).side.bus.clock

  all_taken : (i left : ℕ) → Roomy (left + i) w.side.bus.clock → Taken i left
  unfolding ticks_on
  all_taken zero left r =
      let q : left + 0 ≡ left = omega arith in
      record { heard = told []; state = none h (chip_of g w); kept = fine; room = rw q at r }
  all_taken (suc i) left r =
      let q : left + suc i ≡ suc left + i = omega arith in
      let before = all_taken i (suc left) (rw q at r) in
      let v = ticks_on h g i w in
      let can = room_now (suc left) v.side.bus.clock (omega arith) before.room in
      let less : suc left - 1 ≡ left = omega arith in
      record {
        heard = told (tick_reads h g v);
        state = next h (chip_of g w) (chip_of g v) i before.state ∙ tick_taken h (chip_of g v) free before.kept can;
        kept = world_kept h g v before.kept can;
        room = rw (tick_clock h g v) (rw less at (room_next (suc left) v.side.bus.clock (omega arith) before.room));
      }

-- ---- where a line ends the next begins

module _ (h : Host) (g : Registers) (w : World) where
  pub line_at : at_line_end (line_world h g w).side ≡ true
  unfolding line_world
  line_at = eq-eqb _ _ (another_line_can_follow (timed g) w.side).cycle

-- ---- a line that is not refused

module _ (h : Host) (g : Registers) (w : World) (free : lent_refusal h ≡ 0) (fine : accepted (chip_of g w) ≡ true)
    (at : at_line_end w.side ≡ true) (can : lineable (kind_of w.side.beam.kind) w.side.bus.clock ≡ true) where
  pub line_roomy : Roomy (last_cycle (kind_of w.side.beam.kind)) w.side.bus.clock
  line_roomy = line_room (kind_of w.side.beam.kind) w.side.bus.clock (accepted_clock (chip_of g w) fine) can

  pub record Whole : Type 0 where
    pub heard : Reads
    pub state : ticks_from h (last_cycle (kind_of w.side.beam.kind)) (chip_of g w) ≡ reading (chip_of g (line_world h g w)) heard
    pub kept : accepted (chip_of g (line_world h g w)) ≡ true

  pub whole_line : Whole
  whole_line =
      let k = kind_of w.side.beam.kind in
      let q : 0 + last_cycle k ≡ last_cycle k = omega arith in
      let t = all_taken h g w free fine (last_cycle k) 0 (rw q line_roomy) in
      let e = a_line_is_its_ticks h g w (record { cycle = eqb-true w.side.beam.cycle (last_cycle k) at; aec = (accepted_fine (chip_of g w) fine).side.aec }) in
      record { heard = t.heard; state = rw e at t.state; kept = rw e at t.kept }

-- what the code of a line may lean on
pub begins : {h : Host} {g : Registers} {w : World} → Held h g w → at_line_end w.side ≡ true → lineable (kind_of w.side.beam.kind) w.side.bus.clock ≡ true → Begins w
begins {h} {g} {w} held at can =
    let f = accepted_fine (chip_of g w) held.fine in
    let k = kind_of w.side.beam.kind in
    record {
      side = f.side;
      cycle = eqb-true w.side.beam.cycle (last_cycle k) at;
      clock = takes (last_cycle k) w.side.bus.clock (line_room k w.side.bus.clock (accepted_clock (chip_of g w) held.fine) can);
      forced = f.forced;
    }

module _ {h : Host} {g : Registers} {w v : World} (held : Held h g w) (at : at_line_end w.side ≡ true)
    (can : lineable (kind_of w.side.beam.kind) w.side.bus.clock ≡ true) (e : v ≡ line_world h g w) where
  abbrev whole : Whole h g w held.free held.fine at can
  whole = whole_line h g w held.free held.fine at can

  pub held_on : Held h g v
  held_on = record { free = held.free; fine = rw e whole.kept }
