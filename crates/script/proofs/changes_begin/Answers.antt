use mathlib.Core.Path.{sym}
use native.Mathlib.Omega.{arith}
use Rattle.script.proofs.Room.{count_room}
use Rattle.script.proofs.changes_begin.Goals as goal

pub on-requires : goal.on-requires
on-requires c = omega (arith, count_room c.args.s.now c.args.here.at _ _ (sym c.in-Ok.ensures))
