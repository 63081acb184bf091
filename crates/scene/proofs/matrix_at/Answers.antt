use mathlib.Core.Path.{◌≡◌, sym, ◌∙◌}
use native.Mathlib.Omega.{arith}
use lib.Seq.{take_all}
use Rattle.scene.specs.Decode.{matrix_at}
use Rattle.scene.proofs.matrix_at.Goals as goal

pub returns : goal.returns
unfolding matrix_at
returns c =
    let all : c.loop-k.k ≡ 40 = omega arith in
    sym (take_all 40 c.loop-k.matrix (omega (arith, c.loop-k.invariant.size))) ∙ rw all at c.loop-k.invariant.read
