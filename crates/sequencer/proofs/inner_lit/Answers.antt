use mathlib.Core.Path.{◌≡◌, ap}
use mathlib.Core.Bool.{false}
use Rattle.laws.proofs.Signs.{back64}
use Rattle.laws.specs.Clock.{InRange}
use Rattle.memory.specs.Lent.{seen}
use Rattle.arbitration.proofs.Kept.{clock_on_range}
use Rattle.side.proofs.Laws.{lit_pointing, lit_fetching}
use Rattle.side.proofs.Kept.{side_clock}
use Rattle.picture.specs.Pen.{Latches}
use Rattle.picture.proofs.Laws.{no_slot}
use Rattle.engine.specs.World.{world_in}
use Rattle.sequencer.proofs.Glue.{tick_glue, drawn_pen, lit_told}
use borrow.Author.Rules.{rules}
use Rattle.sequencer.proofs.inner_lit.Goals as goal

pub draw-drawn-requires : goal.draw-drawn-requires
draw-drawn-requires c =
    let clock : InRange c.turn_lit-turned.result.side.bus.clock = rw (c.turn_lit-turned.ensures, side_clock) (clock_on_range c.args.core.side.bus.clock c.requires.ready.clock) in
    (rw (back64 c.turn_lit-turned.result.side.bus.clock (search rules)) clock, c.requires.ready.forced)

pub returns : goal.returns
returns c =
    let back = back64 c.turn_lit-turned.result.side.bus.clock (search rules) in
    let h = seen c.args.host.now in
    let w = world_in c.args.core c.args.arrays.now in
    let pointing : c.turn_lit-turned.result.orders.pointing ≡ false = rw c.turn_lit-turned.ensures (lit_pointing _ _ c.requires.lit) in
    let fetching : c.turn_lit-turned.result.orders.fetching ≡ false = rw c.turn_lit-turned.ensures (lit_fetching _ _ c.requires.lit) in
    let none = no_slot w.pointers w.bytes w.words c.turn_lit-turned.result.orders c.args.regs.ptrs h.ram h.rom h.bank pointing fetching in
    let drawn = rw back at c.draw-drawn.ensures.drawn in record {
      world = tick_glue h c.args.regs w
          c.timed-g.ensures
          c.turn_lit-turned.ensures
          (ap (λ (l : Latches). l.pointers) none) (ap (λ (l : Latches). l.bytes) none) (ap (λ (l : Latches). l.words) none)
          c.mode-mode.ensures
          (drawn_pen _ c.turn_lit-turned.result _ _ _ _ _ _ _ drawn) (rw back at c.draw-drawn.ensures.matrix);
      reads = lit_told h c.args.regs w c.timed-g.ensures c.turn_lit-turned.ensures c.mode-mode.ensures drawn c.requires.lit c.noted_lit-noted.ensures;
    }
