use mathlib.Core.Path.{◌≡◌, refl, sym, ◌∙◌}
use mathlib.Core.Bool.{Bool}
use Prim.Native.Nat.{ℕ, ◌+◌}
use native.Mathlib.Omega.{arith}
use Rattle.memory.specs.Lent.{seen}
use Rattle.access.proofs.Back.{none_noted}
use Rattle.schedule.specs.Machinery.Stretches.{before_graphics}
use Rattle.engine.specs.World.{world_in}
use Rattle.schedule.specs.Kind.{kind_of}
use Rattle.schedule.proofs.Places.{last_most}
use Rattle.chip.proofs.Fine.{accepted_fine}
use Rattle.sequencer.proofs.Staged.{started}
use Rattle.sequencer.proofs.Skip.{ready_later, lit_later, further_by, few, place, may}
use Rattle.sequencer.proofs.lit_run.Goals as goal

abbrev goes : ℕ → Bool
goes c = before_graphics c

pub loop-i-init : goal.loop-i-init
loop-i-init c =
    started (seen c.args.host.now) c.args.regs goes (world_in c.args.core c.args.arrays.now) c.args.n none_noted c.requires.held c.requires.room

pub leap-later-requires-clause-cycle : goal.leap-later-requires-clause-cycle
leap-later-requires-clause-cycle c = omega (arith, (accepted_fine _ c.loop-i.invariant.going.held.fine).side.last, last_most (kind_of c.loop-i.now.side.beam.kind))

pub inner_lit-stepped-requires : goal.inner_lit-stepped-requires
inner_lit-stepped-requires c =
    let h = seen c.args.host.now in
    let w = world_in c.args.core c.args.arrays.now in
    let lit = sym c.before_graphics-lit.ensures ∙ c.if-not-lit.false in
    rw c.leap-later.ensures
    (record {
      ready = ready_later h c.args.regs goes w c.args.n c.skips-k.result c.loop-i.invariant (few c.skippable-able.result c.loop-i.now.side.beam.cycle c.loop-i.i c.args.n c.skips-k.ensures c.loop-i-test.true);
      lit = lit_later c.loop-i.now.side.beam.cycle c.skips-k.result (place c.skippable-able.result c.loop-i.now.side.beam.cycle c.loop-i.i c.args.n c.skips-k.ensures) lit;
    })

pub loop-i-preserved : goal.loop-i-preserved
loop-i-preserved c =
    let h = seen c.args.host.now in
    let w = world_in c.args.core c.args.arrays.now in
    let now = world_in c.loop-i.now c.loop-i.arrays in
    let sum : c.loop-i.i + (1 + c.skips-k.result) ≡ c.loop-i.i + 1 + c.skips-k.result = omega arith in
    rw sum
    (further_by h c.args.regs goes w c.args.n c.skips-k.result c.loop-i.invariant (few c.skippable-able.result c.loop-i.now.side.beam.cycle c.loop-i.i c.args.n c.skips-k.ensures c.loop-i-test.true)
    (may c.args.regs c.loop-i.now now c.skippable-able.result c.loop-i.i c.args.n refl refl c.skippable-able.ensures c.skips-k.ensures)
    (rw c.leap-later.ensures at c.inner_lit-stepped.ensures.world) (rw c.leap-later.ensures at c.inner_lit-stepped.ensures.reads))
