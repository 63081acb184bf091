-- The invariant: the latch and the matrix line are those after j columns.
use mathlib.Core.Path.{◌≡◌}
use mathlib.Core.Bool.{true, false}
use Rattle.access.specs.Merge.{merging}
use Rattle.lines.specs.Columns.{columns_line}
use Rattle.columns.specs.Columns.{hides, since_in}
use Rattle.columns.proofs.merge_line.Given as goal

abbrev pub invariant-loop-j : goal.invariant-loop-j
invariant-loop-j l =
    merging l.latch.ch l.latch.carry l.matrix ≡ columns_line true false (hides l.hidden) (since_in l.clock l.forced) l.j (merging l.initial.latch.ch l.initial.latch.carry l.initial.matrix)
