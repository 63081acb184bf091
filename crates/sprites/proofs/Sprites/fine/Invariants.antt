use mathlib.Core.Path.{◌≡◌}
use Rattle.sprites.specs.Fine.{fine_test}
use Rattle.sprites.proofs.Sprites.fine.Given as goal

abbrev pub invariant-loop-k : goal.invariant-loop-k
invariant-loop-k l = l.fine ≡ fine_test l.k l.self
