use native.Mathlib.Omega.{arith}
use borrow.Author.Tests.{le-leb, lt-leb}
use Rattle.schedule.specs.Kind.{kind_of}
use Rattle.schedule.specs.Machinery.Places.{place_of}
use Rattle.schedule.proofs.Places.{last_most, last_least, first_least, first_most}
use Rattle.schedule.proofs.place.Goals as goal

pub overflow_sub-first : goal.overflow_sub-first
overflow_sub-first c = omega (arith, c.first_pointer-first.ensures, first_least (kind_of c.args.kind))

pub returns-then-first-cycle : goal.returns-then-first-cycle
unfolding place_of
returns-then-first-cycle c =
    rw (c.first_pointer-first.ensures, le-leb _ _ (rw c.first_pointer-first.ensures at c.if-first-cycle.true))

pub overflow_add-result : goal.overflow_add-result
overflow_add-result c = omega (arith, c.last_cycle.ensures, c.first_pointer-first.ensures, last_most (kind_of c.args.kind), first_most (kind_of c.args.kind))

pub overflow_sub-result-2 : goal.overflow_sub-result-2
overflow_sub-result-2 c = omega (arith, c.last_cycle.ensures, c.first_pointer-first.ensures, last_least (kind_of c.args.kind), first_most (kind_of c.args.kind))

pub returns : goal.returns
unfolding place_of
returns c =
    rw (c.first_pointer-first.ensures, c.last_cycle.ensures, lt-leb _ _ (rw c.first_pointer-first.ensures at c.if-first-cycle.false))
