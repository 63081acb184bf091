use mathlib.Core.Path.{sym, ◌∙◌}
use Rattle.memory.specs.Lent.{host}
use Rattle.sequencer.proofs.Lined.{sound_told, lines_mid}
use Rattle.sequencer.proofs.Runs.{passed_held}
use Rattle.sequencer.proofs.lines.Goals as goal

pub returns-then-chip-last : goal.returns-then-chip-last
returns-then-chip-last c =
    let h = host c.args.ram.now c.args.rom.now c.args.colour.now c.args.bank in
    let sound = sound_told h c.args.chip c.tested-sound.ensures c.if-sound-ne0.false in
    c.answered-then-chip-last.ensures ∙ lines_mid h c.args.chip c.args.n sound (λ e. c.if-chip-last.true (e ∙ sym c.last_cycle-last.ensures)) c.if-n-eq0.false

pub run_lines-requires-clause-held : goal.run_lines-requires-clause-held
run_lines-requires-clause-held c =
    let h = host c.args.ram.now c.args.rom.now c.args.colour.now c.args.bank in
    rw (c.in-Ok.ensures.shows) (passed_held h c.args.chip (sound_told h c.args.chip c.tested-sound.ensures c.if-sound-ne0.false))
