use mir.Facts.{to_z-of_z}
use Rattle.arbitration.proofs.Counting.{is_negative}
use Rattle.arbitration.proofs.is_low.Goals as goal

pub returns : goal.returns
returns c = rw (to_z-of_z c.ranges.aec) (is_negative c.args.aec)
