use mathlib.Core.Path.{◌≡◌}
use Rattle.sprites.specs.Sprites.{up_to, start_at}
use Rattle.sprites.proofs.Sprites.start.Given as goal

abbrev pub invariant-loop-k : goal.invariant-loop-k
invariant-loop-k l = l.self ≡ up_to (start_at l.line l.my l.enable l.yexp) l.k l.initial.self
