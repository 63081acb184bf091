use native.Mathlib.Omega.{arith}
use Rattle.line.proofs.Join.{named_as}
use borrow.Author.Tests.{eq-eqb, ne_eqb}
use Rattle.vcd.specs.Text.{value_text}
use Rattle.vcd.proofs.value.Goals as goal

pub returns-then-bits-eq1 : goal.returns-then-bits-eq1
unfolding value_text
returns-then-bits-eq1 c =
    (omega (arith, c.bit.ensures.0), named_as (simp (eq-eqb _ _ c.if-bits-eq1.true)) c.bit.ensures.1)

pub returns : goal.returns
unfolding value_text
returns c =
    (omega (arith, c.vector.ensures.0, c.requires), named_as (simp (ne_eqb _ _ c.if-bits-eq1.false)) c.vector.ensures.1)
