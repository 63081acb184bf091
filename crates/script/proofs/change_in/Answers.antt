use mathlib.Core.Path.{sym}
use native.Mathlib.Omega.{arith}
use Rattle.script.proofs.Room.{change_room}
use Rattle.script.proofs.change_in.Goals as goal

pub on-requires : goal.on-requires
on-requires c = omega (arith, change_room c.args.s.now c.args.here.at _ _ (sym c.in-Ok.ensures))
