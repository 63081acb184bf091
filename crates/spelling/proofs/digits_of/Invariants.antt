use Rattle.std.proofs.Common.{◌≡◌, drop}
use Rattle.grammar.specs.Values.{none, digits_from}
use Rattle.spelling.proofs.digits_of.Given as goal

abbrev pub invariant-loop-b : goal.invariant-loop-b
invariant-loop-b l = digits_from none l.fn.text ≡ digits_from l.d (drop l.b-index l.fn.text)
