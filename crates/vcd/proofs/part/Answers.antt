use native.Mathlib.Omega.{arith}
use Rattle.line.proofs.Join.{named_as}
use Rattle.line.proofs.Copy.{nothing}
use Rattle.vcd.specs.Machinery.Steps.{part_text}
use Rattle.vcd.proofs.part.Goals as goal

pub returns-then-all-was : goal.returns-then-all-was
unfolding part_text
returns-then-all-was c =
    (c.value.ensures.0, named_as (simp c.if-all-was.true) c.value.ensures.1)

pub returns : goal.returns
unfolding part_text
returns c =
    (omega arith, named_as (simp c.if-all-was.false) (nothing _ _))
