use mathlib.Core.Path.{sym, ◌∙◌}
use Rattle.laws.proofs.Choice.{left}
use Rattle.versions.specs.Versions.{is_version, sprite_flags, is_flagged}
use Rattle.versions.proofs.Renewed.{has_size}
use Rattle.scene.proofs.decode_second.Goals as goal

pub unflag-requires : goal.unflag-requires
unfolding is_flagged
unflag-requires c =
    has_size 2 309 c.args.bytes.now
    (left (is_version 2 309 c.args.bytes.now) (sprite_flags c.args.bytes.now) (sym c.is_flagged.ensures ∙ c.if-not-is_flagged.false))
