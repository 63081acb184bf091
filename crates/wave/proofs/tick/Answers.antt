use Rattle.wave.proofs.Glue.{has_room, by_refusal, by_piece, each}
use Rattle.wave.proofs.tick.Goals as goal

pub returns-then-n-ne0 : goal.returns-then-n-ne0
returns-then-n-ne0 c = let all = each _ _ _ (by_refusal _ _ _ _ _ _ _ c.tick-t.ensures c.number-n.ensures c.if-n-ne0.true c.answer.ensures) in record { value = all.0; out_after = all.1 }

pub with_piece-requires : goal.with_piece-requires
with_piece-requires c =
    has_room _ _ _ c.number-n.ensures c.if-n-ne0.false

pub returns : goal.returns
returns c = let all = each _ _ _ (by_piece _ _ _ _ _ _ _ c.tick-t.ensures c.number-n.ensures _ c.if-n-ne0.false c.with_piece.ensures) in record { value = all.0; out_after = all.1 }
