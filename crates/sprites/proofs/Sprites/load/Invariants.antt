use mathlib.Core.Path.{◌≡◌}
use Rattle.sprites.specs.Sprites.{up_to, load_one}
use Rattle.sprites.proofs.Sprites.load.Given as goal

abbrev pub invariant-loop-k : goal.invariant-loop-k
invariant-loop-k l = l.self ≡ up_to load_one l.k l.initial.self
