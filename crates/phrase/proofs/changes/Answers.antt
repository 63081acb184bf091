use Prim.Native.Nat.{◌-◌}
use mathlib.Core.Path.{sym, ◌∙◌}
use native.Mathlib.Omega.{arith}
use Rattle.phrase.specs.Table.{table_of}
use Rattle.phrase.proofs.Walk.{least_small, entry_next, entries_over, entries_begin}
use Rattle.phrase.proofs.changes.Goals as goal

pub loop-i-init : goal.loop-i-init
loop-i-init c = (omega arith, rw c.least-n.ensures (least_small _ _), entries_begin _ _ _ _ _ _ _ _ _ _)

pub loop-i-preserved : goal.loop-i-preserved
loop-i-preserved c = (omega arith, c.loop-i.invariant.1, rw (c.entry-c.ensures, c.same.ensures, c.part.ensures) (c.loop-i.invariant.2 ∙ entry_next _ _ _ _ _ _ _ _ _ _ c.loop-i-test.true))

pub returns : goal.returns
unfolding table_of
returns c = rw (← c.least-n.ensures) (sym (c.loop-i.invariant.2 ∙ entries_over _ _ _ _ _ _ _ _ _ _ c.loop-i-test.false))
