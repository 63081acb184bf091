-- The files before this one are printed.
use Rattle.std.proofs.Common.{◌-◌}
use Rattle.sheet.specs.Desk.{PrintedAll}
use Rattle.sheet.proofs.of_bundle.Given as goal

abbrev pub invariant-loop-number : goal.invariant-loop-number
invariant-loop-number g l =
    goal.F-IsAlwaysCallable g l.print
    × PrintedAll g.F.FnMut 65535 (l.number - 1) l.initial.print l.print
