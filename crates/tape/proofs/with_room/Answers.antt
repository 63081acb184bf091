use lib.Dec.{leb}
use Rattle.tape.specs.Machinery.Tape.{roomed}
use Rattle.tape.proofs.Glue.{roomed_by}
use Rattle.tape.proofs.with_room.Goals as goal

pub returns : goal.returns
unfolding roomed
returns c = roomed_by _ (leb _ 65244) c.room-at.ensures
