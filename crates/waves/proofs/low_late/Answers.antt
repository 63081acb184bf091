use Rattle.waves.proofs.Line.{low_late_word}
use Rattle.waves.proofs.low_late.Goals as goal

pub returns : goal.returns
returns c = low_late_word _ _ _ c.late-asked.ensures c.run_matrix-run.ensures c.four.ensures
