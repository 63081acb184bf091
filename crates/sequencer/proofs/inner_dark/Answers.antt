use Rattle.laws.proofs.Signs.{back64}
use Rattle.memory.specs.Lent.{seen}
use Rattle.side.proofs.Laws.{slot_of_eight, dark_graphics}
use Rattle.engine.specs.World.{world_in}
use Rattle.sequencer.proofs.Glue.{tick_glue, drawn_pen, dark_told}
use borrow.Author.Rules.{rules}
use Rattle.sequencer.proofs.inner_dark.Goals as goal

pub slot-slot-requires : goal.slot-slot-requires
slot-slot-requires c = rw c.turn_dark-turned.ensures (slot_of_eight _ _)

pub draw_dark-drawn-requires : goal.draw_dark-drawn-requires
draw_dark-drawn-requires c = rw c.turn_dark-turned.ensures (dark_graphics _ _ c.requires.dark)

pub returns : goal.returns
returns c =
    let back = back64 c.turn_dark-turned.result.side.bus.clock (search rules) in
    let h = seen c.args.host.now in
    let w = world_in c.args.core c.args.arrays.now in
    let drawn = rw back at c.draw_dark-drawn.ensures.drawn in record {
      world = tick_glue h c.args.regs w
          c.timed-g.ensures
          c.turn_dark-turned.ensures
          c.slot-slot.ensures.pointers c.slot-slot.ensures.bytes c.slot-slot.ensures.words
          c.mode-mode.ensures
          (drawn_pen _ c.turn_dark-turned.result _ _ _ _ _ _ _ drawn) (rw back at c.draw_dark-drawn.ensures.matrix);
      reads = dark_told h c.args.regs w c.timed-g.ensures c.turn_dark-turned.ensures c.mode-mode.ensures drawn c.requires.dark c.slot-slot.ensures.noted c.noted_dark-noted.ensures;
    }
