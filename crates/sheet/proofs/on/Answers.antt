use mathlib.Core.Path.{sym, ◌∙◌}
use native.Mathlib.Omega.{arith}
use Rattle.sheet.proofs.Loop.{has_room, one_turn_lem}
use Rattle.sheet.proofs.on.Goals as goal

pub walk-requires : goal.walk-requires
walk-requires c = (c.requires.0, c.requires.1, sym c.at_step.ensures ∙ c.if-at_step.true)

pub returns-then-at_step : goal.returns-then-at_step
returns-then-at_step c = c.walk.ensures

pub turn-requires : goal.turn-requires
turn-requires c = omega (arith, has_room c.args.before c.requires.1, c.requires.0)

pub returns : goal.returns
returns c = one_turn_lem _ _ _ _ _ _ _ _ c.next-found.ensures c.requires.1 (c.turn.ensures.at_bound, (c.turn.ensures.value, (c.turn.ensures.written, c.turn.ensures.colour_after)))
