use mathlib.Core.Path.{refl, ap, ◌∙◌}
use Rattle.laws.proofs.Signs.{back8}
use Rattle.scene.specs.Numbers.{count_byte}
use Rattle.scene.specs.Encode.{rest_bytes}
use Rattle.versions.proofs.Parts.{put_as}
use borrow.Author.Rules.{rules}
use Rattle.scene.proofs.put_rest.Goals as goal

pub returns : goal.returns
unfolding count_byte
returns c =
    let aec = rw (back8 c.args.s.bus.aec (search rules)) at c.cast_unsigned-aec.ensures in
    put_as _ 275 c.put.ensures (c.rest_bytes-part.ensures ∙ ap (rest_bytes c.args.s.rows c.args.s.bus c.args.s.changed c.args.pen c.args.s.beam.latch c.args.s.frame) aec) refl
