use Rattle.memory.specs.Lent.{host}
use Rattle.sequencer.proofs.Staged.{beyond, refused_before, after_ticks}
use Rattle.sequencer.proofs.long_run.Goals as goal

pub returns-then-begun-ne0 : goal.returns-then-begun-ne0
returns-then-begun-ne0 c =
    let h = host c.args.ram.now c.args.rom.now c.args.colour.now c.args.bank in
    let some = beyond _ c.args.n c.if-first-n.false in
    refused_before h c.args.chip _ c.args.n some c.tested-begun.ensures c.if-begun-ne0.true

pub returns : goal.returns
returns c =
    let h = host c.args.ram.now c.args.rom.now c.args.colour.now c.args.bank in
    let some = beyond _ c.args.n c.if-first-n.false in
    after_ticks h c.args.chip _ c.args.n some c.tested-begun.ensures c.if-begun-ne0.false c.by_lines-2.ensures
