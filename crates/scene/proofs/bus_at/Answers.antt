use Rattle.laws.proofs.Signs.{back64, back8}
use Rattle.scene.specs.Numbers.{aec_of}
use Rattle.scene.proofs.bus_at.Goals as goal

pub returns : goal.returns
unfolding aec_of
returns c =
    rw (back8 c.cast_signed.result c.cast_signed.type_inv, back64 c.clock_at-3.result c.clock_at-3.type_inv, back64 c.clock_at-2.result c.clock_at-2.type_inv, back64 c.clock_at.result c.clock_at.type_inv)
    (simp (c.cast_signed.ensures, c.clock_at-3.ensures, c.clock_at-2.ensures, c.clock_at.ensures, c.from.ensures))
