-- After a tick each value is within its signal's width. Assumes nothing.
use Prim.Native.Nat.{ℕ, ◌<◌}
use mathlib.Core.Path.{◌≡◌}
use mathlib.Core.Bool.{Bool, true}
use native.Mathlib.Omega.{arith}
use Rattle.laws.proofs.Choice.{either}
use Rattle.memory.specs.Lent.{Host}
use Rattle.schedule.specs.Kind.{kind_of}
use Rattle.schedule.proofs.Places.{last_most, line_most}
use Rattle.chip.specs.declared.Chip.{Chip}
use Rattle.chip.specs.Accept.{accepted}
use Rattle.chip.proofs.Fine.{accepted_fine}
use Rattle.world.specs.Tick.{tick_of}
use Rattle.sequencer.specs.Tick.{tick_refusal}
use Rattle.sequencer.proofs.Kept.{tick_kept}
use Rattle.sequencer.proofs.Numbers.{tick_passes}
use Rattle.line.specs.Line.{level_of}
use Rattle.vcd.specs.Signals.{Within, values_of, width_of}
use Rattle.wave.specs.Wave.{record_of}

one_bit : (low : Bool) → level_of low < 2
one_bit low = either (λ (n : ℕ). n < 2) low (omega arith) (omega arith)

pub accepted_within : (c : Chip) → accepted c ≡ true → Within (record_of c)
unfolding values_of width_of record_of
accepted_within c e =
    let s = (accepted_fine c e).side in
    let k = kind_of c.side.beam.kind in
    (omega (arith, s.last, last_most k), (omega (arith, s.raster, line_most k), (one_bit c.side.bus.balow, (one_bit c.side.bus.aeclow, (omega arith, (omega (arith, s.rows.rc), (omega (arith, s.rows.vc), (one_bit c.side.irq.line, tt))))))))

-- 02 (i): 7, 9, 1, 1, 8, 3, 10, 1 bits hold the values after every tick that is not refused
pub ticked_within : (h : Host) (c : Chip) → tick_refusal h c ≡ 0 → Within (record_of (tick_of h c))
ticked_within h c e =
    let p = tick_passes h c e in
    accepted_within (tick_of h c) (tick_kept h c p.0 p.1)
