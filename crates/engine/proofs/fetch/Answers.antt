use mathlib.Core.Path.{refl}
use Rattle.laws.proofs.Signs.{back8}
use Rattle.schedule.specs.Kind.{kind_of}
use Rattle.fetches.specs.Fetches.{latches}
use Rattle.engine.specs.Parts.{two_masks}
use Rattle.engine.proofs.Fetched.{slots_glue}
use borrow.Author.Rules.{rules}
use Rattle.engine.proofs.fetch.Goals as goal

pub returns : goal.returns
returns c =
    let aec = back8 c.args.side.bus.aec (search rules) in
    slots_glue (kind_of c.args.side.beam.kind) c.args.turned.begun.bad (two_masks c.args.side.sprites.dma c.args.turned.loaded.dma) c.args.side.bus c.args.ptrs c.args.m.now.ram.now c.args.m.now.rom.now c.args.m.now.bank c.args.side.sprites c.args.turned.loaded
    (latches c.args.slots.now.pointers c.args.slots.now.bytes c.args.slots.now.words) refl
    (rw aec at c.low_early-low.ensures)
    c.low_late-over.ensures
    c.early.ensures
    c.late.ensures
