use Prim.Native.Nat.{◌-◌, ◌≤◌}
use mathlib.Core.Path.{◌≡◌}
use Rattle.grammar.specs.Grammar.{changes_on}
use Rattle.phrase.specs.Table.{entries_from}
use Rattle.phrase.proofs.changes.Given as goal

abbrev pub invariant-loop-i : goal.invariant-loop-i
invariant-loop-i l = (l.i ≤ l.n) × (l.n ≤ 64) × (changes_on l.initial.c l.digits l.id l.over (entries_from l.n 0 0 l.table.ends l.table.which l.pool) ≡ changes_on l.c l.digits l.id l.over (entries_from (l.n - l.i) l.i l.from l.table.ends l.table.which l.pool))
