use mathlib.Core.Path.{◌≡◌}
use Rattle.sprites.specs.Sprites.{up_to, show_at}
use Rattle.sprites.proofs.Sprites.show.Given as goal

abbrev pub invariant-loop-k : goal.invariant-loop-k
invariant-loop-k l = l.self ≡ up_to (show_at l.line l.my l.enable) l.k l.initial.self
