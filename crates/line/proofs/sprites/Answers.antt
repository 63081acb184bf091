use native.Mathlib.Omega.{arith}
use Rattle.line.proofs.Few.{eight}
use Rattle.line.proofs.sprites.Goals as goal

pub overflow_cast-result : goal.overflow_cast-result
overflow_cast-result c = omega (arith, eight c.args.chip, c.sprite_count.ensures)
