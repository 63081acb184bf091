use Rattle.vcd.specs.Text.{wave_after}
use Rattle.vcd.proofs.after.Goals as goal

pub returns : goal.returns
unfolding wave_after
returns c = simp c.time.ensures
