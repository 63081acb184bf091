use mathlib.Core.Path.{◌≡◌}
use Rattle.sprites.specs.Sprites.{up_to, step_one}
use Rattle.sprites.proofs.Sprites.mcbase_step.Given as goal

abbrev pub invariant-loop-k : goal.invariant-loop-k
invariant-loop-k l = l.self ≡ up_to step_one l.k l.initial.self
