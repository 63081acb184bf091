use Rattle.vcd.proofs.Short.{piece_at_most_88}
use mathlib.Core.Path.{ap, sym, ◌∙◌}
use native.Mathlib.Omega.{arith}
use Rattle.line.proofs.Join.{named_as}
use Rattle.vcd.specs.Text.{piece_of, wave_after}
use Rattle.tape.proofs.tick.Goals as goal

pub returns : goal.returns
returns c =
    (omega (arith, c.piece-end.ensures.0, piece_at_most_88 c.args.wave c.record_of-values.result), c.after.ensures ∙ ap (wave_after _) c.record_of-values.ensures, named_as (ap (piece_of _) (sym c.record_of-values.ensures)) (record { place = c.piece-end.ensures.0; text = c.piece-end.ensures.1 }))
