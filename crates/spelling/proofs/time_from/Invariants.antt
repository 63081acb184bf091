use Rattle.std.proofs.Common.{◌≡◌, drop}
use Rattle.grammar.specs.Times.{time_from}
use Rattle.spelling.proofs.time_from.Given as goal

abbrev pub invariant-loop-b : goal.invariant-loop-b
invariant-loop-b l = time_from l.fn.start l.fn.text ≡ time_from l.t (drop l.b-index l.fn.text)
