use native.Mathlib.Omega.{arith}
use Rattle.line.proofs.Join.{on, named_as}
use Rattle.line.proofs.Copy.{nothing}
use Rattle.ledger.proofs.Words.{told_read, no_read}
use Rattle.ledger.proofs.read.Goals as goal

pub returns-then-is_named : goal.returns-then-is_named
returns-then-is_named c =
    (omega (arith, c.word-a.ensures.0, c.address.ensures.0), named_as (told_read c.args.r c.args.end c.is_named.ensures c.if-is_named.true) (on c.word-a.ensures.1 c.address.ensures.1))

pub returns : goal.returns
returns c =
    (omega arith, named_as (no_read c.args.r c.args.end c.is_named.ensures c.if-is_named.false) (nothing _ _))
