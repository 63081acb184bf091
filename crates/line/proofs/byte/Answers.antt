use Rattle.line.proofs.Join.{one}
use borrow.Author.Rules.{rules}
use Rattle.line.proofs.byte.Goals as goal

pub returns : goal.returns
returns c = (search rules, one _ _ _)
