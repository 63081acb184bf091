-- a wrong length of RAM or ROM is 1 whatever the colour RAM's is
use Prim.Native.Nat.{ℕ}
use mathlib.Core.Path.{◌≡◌, refl}
use mathlib.Core.Bool.{Bool, true, false, cond}
use borrow.Author.Tests.{ne_eqb, eq-eqb, lt-ltb, le-ltb}
use Rattle.memory.specs.Memory.{block_refusal}
use Rattle.memory.specs.Lent.{lent_refusal}
use Rattle.memory.proofs.lend.Goals as goal

either_way : (b : Bool) → ◌≡◌ {A = ℕ} (cond b 1 1) 1
either_way true = refl
either_way false = refl

pub returns-in_default-clause-number : goal.returns-in_default-clause-number
unfolding lent_refusal block_refusal
returns-in_default-clause-number c = simp (ne_eqb _ _ c.in_default.ensures.cases, either_way)

pub returns-in_default-as_array-clause-number : goal.returns-in_default-as_array-clause-number
unfolding lent_refusal block_refusal
returns-in_default-as_array-clause-number c = simp (eq-eqb _ _ c.in-Some.ensures.cases.long, ne_eqb _ _ c.in_default-as_array.ensures.cases, either_way)

pub returns-in_default-as_array-2-clause-number : goal.returns-in_default-as_array-2-clause-number
unfolding lent_refusal block_refusal
returns-in_default-as_array-2-clause-number c = simp (eq-eqb _ _ c.in-Some.ensures.cases.long, eq-eqb _ _ c.in-Some-as_array.ensures.cases.long, ne_eqb _ _ c.in_default-as_array-2.ensures.cases)

pub returns-then-bank-gt3-clause-number : goal.returns-then-bank-gt3-clause-number
unfolding lent_refusal block_refusal
returns-then-bank-gt3-clause-number c = simp (eq-eqb _ _ c.in-Some.ensures.cases.long, eq-eqb _ _ c.in-Some-as_array.ensures.cases.long, eq-eqb _ _ c.in-Some-as_array-2.ensures.cases.long, lt-ltb _ _ c.if-bank-gt3.true)

pub returns-clause-number : goal.returns-clause-number
unfolding lent_refusal block_refusal
returns-clause-number c = simp (eq-eqb _ _ c.in-Some.ensures.cases.long, eq-eqb _ _ c.in-Some-as_array.ensures.cases.long, eq-eqb _ _ c.in-Some-as_array-2.ensures.cases.long, le-ltb _ _ c.if-bank-gt3.false)
