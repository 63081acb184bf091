use mathlib.Core.Path.{refl}
use Rattle.laws.proofs.Signs.{back64}
use Rattle.scene.specs.Encode.{encoded}
use Rattle.versions.proofs.Parts.{put_both, put_whole}
use borrow.Author.Rules.{rules}
use Rattle.scene.proofs.encode.Goals as goal

pub returns-clause-out_after : goal.returns-clause-out_after
unfolding encoded
returns-clause-out_after c =
    let clocks = rw (back64 c.args.chip.picture.pen.forced (search rules)) at c.put_clocks.ensures in
    put_whole (search rules)
    (put_both (put_both (put_both (put_both (put_both (put_both (put_both c.put_head.ensures c.put_registers.ensures) c.put_masks.ensures) c.put_sprites.ensures) c.put_matrix.ensures) c.put_rest.ensures) clocks) c.put_tail.ensures)
