use Prim.Native.Nat.{◌-◌, ◌≤◌}
use lib.ListN.{length, drop}
use mathlib.Core.Path.{◌≡◌}
use Rattle.intake.specs.Machine.{machine, scan_of}
use Rattle.intake.proofs.scan.Given as goal

abbrev pub invariant-loop-i : goal.invariant-loop-i
invariant-loop-i l = (scan_of (machine l.initial.r l.initial.room l.initial.pool) (drop l.from l.text) l.from ≡ scan_of (machine l.r l.room l.pool) (drop l.i l.text) l.i) × (l.i - l.from ≤ length l.text - l.from)
