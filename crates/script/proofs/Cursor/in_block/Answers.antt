use mathlib.Core.Path.{sym}
use Prim.Native.Nat.{◌-◌}
use native.Mathlib.Omega.{arith}
use Rattle.script.proofs.Room.{step_room}
use Rattle.script.proofs.Cursor.in_block.Goals as goal

pub on-requires : goal.on-requires
on-requires c =
    omega (arith, step_room c.args.lent.now (c.args.self.at - c.args.from) _ (sym c.in-Ok.ensures), c.requires)
