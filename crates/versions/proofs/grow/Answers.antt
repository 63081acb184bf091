use mathlib.Core.Path.{refl, ap, ◌∙◌}
use mathlib.Core.List.{List}
use Prim.Native.Nat.{ℕ}
use native.Mathlib.Omega.{arith}
use lib.ListN.{length, set, length-set}
use Rattle.versions.proofs.Parts.{put_as, put_both, put_whole}
use Rattle.versions.proofs.grow.Goals as goal

pub shape_of-out : goal.shape_of-out
shape_of-out c = simp length-set (c.put-2.ensures.size ∙ c.put.ensures.size)

pub returns : goal.returns
returns c =
    let front = put_as c.args.bytes.now (length c.args.bytes.now) c.put.ensures refl (omega arith) in
    ap (λ (l : List ℕ). set l 3 c.args.version) (put_whole c.requires.size (put_both front c.put-2.ensures))
