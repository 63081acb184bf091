use native.Mathlib.Omega.{arith}
use Rattle.line.specs.Text.{ascii}
use Rattle.line.proofs.Join.{named_as}
use Rattle.ledger.specs.Text.{word_of}
use Rattle.ledger.proofs.Words.{word6}
use Rattle.ledger.proofs.word.Goals as goal

pub returns-in-1 : goal.returns-in-1
unfolding word_of ascii
returns-in-1 c = (omega (arith, c.text.ensures.0), simp c.in-1.is c.text.ensures.1)

pub returns-in-2 : goal.returns-in-2
unfolding word_of ascii
returns-in-2 c = (omega (arith, c.text-in-2.ensures.0), simp c.in-2.is c.text-in-2.ensures.1)

pub returns-in-3 : goal.returns-in-3
unfolding word_of ascii
returns-in-3 c = (omega (arith, c.text-in-3.ensures.0), simp c.in-3.is c.text-in-3.ensures.1)

pub returns-in-4 : goal.returns-in-4
unfolding word_of ascii
returns-in-4 c = (omega (arith, c.text-in-4.ensures.0), simp c.in-4.is c.text-in-4.ensures.1)

pub returns-in-5 : goal.returns-in-5
unfolding word_of ascii
returns-in-5 c = (omega (arith, c.text-in-5.ensures.0), simp c.in-5.is c.text-in-5.ensures.1)

pub returns-in_default : goal.returns-in_default
unfolding word_of ascii
returns-in_default c = (omega (arith, c.text-in_default.ensures.0), let r = c.in_default.in_default-own.rest in named_as (word6 r.0.0.0.0.1 r.0.0.0.1 r.0.0.1 r.0.1 r.1) c.text-in_default.ensures.1)
