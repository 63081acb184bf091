use borrow.Author.Tests.{ne_eqb}
use Rattle.scene.specs.Decode.{decoded_newest}
use Rattle.scene.proofs.decode_newest.Goals as goal

pub returns-in_default : goal.returns-in_default
unfolding decoded_newest
returns-in_default c = simp (c.no_scene.ensures, ne_eqb _ 311 c.in_default.ensures.1)
