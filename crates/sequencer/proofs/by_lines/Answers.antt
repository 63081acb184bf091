use Rattle.memory.specs.Lent.{host}
use Rattle.sequencer.proofs.Lined.{lines_before, after_lines}
use Rattle.sequencer.proofs.by_lines.Goals as goal

pub returns : goal.returns
returns c =
    let h = host c.args.ram.now c.args.rom.now c.args.colour.now c.args.bank in
    after_lines h c.args.chip c.args.n _ c.last_cycle-last.ensures (lines_before c.args.n c.last_cycle-last.result c.if-n-eq0.false) c.lines-far.ensures c.if-far-ne0.false c.tested-2.ensures
