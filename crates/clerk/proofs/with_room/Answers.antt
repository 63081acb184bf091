use lib.Dec.{leb}
use Rattle.clerk.specs.Machinery.Page.{roomed}
use Rattle.clerk.proofs.Glue.{roomed_by}
use Rattle.clerk.proofs.with_room.Goals as goal

pub returns : goal.returns
unfolding roomed
returns c = roomed_by _ (leb _ 65490) c.room-at.ensures
