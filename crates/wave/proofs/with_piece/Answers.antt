use Rattle.wave.proofs.Glue.{pieces}
use Rattle.wave.proofs.with_piece.Goals as goal

pub returns : goal.returns
returns c =
    pieces _ _ _ c.requires _ _ _ _ _ c.answer.ensures c.record_of-values.ensures c.after.ensures (record { place = c.piece-n.ensures.0; text = c.piece-n.ensures.1 })
