-- What an accepted state's tests say of its numbers. Assumes nothing.
use mathlib.Core.Path.{◌≡◌, refl, sym, ◌∙◌}
use mathlib.Core.Bool.{Bool, true, false, false≢true}
use lib.IntN.{ℤ, pos, negsuc}
use borrow.Author.Tests.{eqb-true, leb-true, ltb-true, eq-eqb, le-leb, lt-ltb}
use Rattle.laws.specs.Clock.{last_clock, InRange}
use Rattle.laws.proofs.Choice.{and_false}
use Rattle.arbitration.specs.Bus.{Counted}
use Rattle.std.specs.Prelude.{ℕ, Option, None, Some}
use Rattle.rows.specs.Pending.{Pends}
use Rattle.chip.specs.declared.Chip.{Chip}
use Rattle.chip.specs.Accept.{aec_fine, clock_fine, place_fine, accepted}

pub clock_fine_range : (z : ℤ) → clock_fine z ≡ true → InRange z
unfolding clock_fine
clock_fine_range (pos n) e = leb-true n last_clock e
clock_fine_range (negsuc n) e = absurd (false≢true e)

pub range_clock_fine : (z : ℤ) → InRange z → clock_fine z ≡ true
unfolding clock_fine
range_clock_fine (pos n) h = le-leb n last_clock h
range_clock_fine (negsuc n) h = absurd h

pub aec_fine_counted : (z : ℤ) → aec_fine z ≡ true → Counted z
unfolding aec_fine
aec_fine_counted (pos n) e = leb-true n 3 e
aec_fine_counted (negsuc n) e = eqb-true n 0 e

pub counted_aec_fine : (z : ℤ) → Counted z → aec_fine z ≡ true
unfolding aec_fine
counted_aec_fine (pos n) h = le-leb n 3 h
counted_aec_fine (negsuc n) h = eq-eqb n 0 h

pub place_fine_pends : (p : Option ℕ) → place_fine p ≡ true → Pends p
unfolding place_fine
place_fine_pends None e = tt
place_fine_pends (Some p) e = ltb-true p 40 e

pub pends_place_fine : (p : Option ℕ) → Pends p → place_fine p ≡ true
unfolding place_fine
pends_place_fine None h = refl
pends_place_fine (Some p) h = lt-ltb p 40 h

-- a test that fails fails the whole
pub unless : (t b : Bool) → (t ≡ false → b ≡ false) → b ≡ true → t ≡ true
unless true b f e = refl
unless false b f e = absurd (false≢true (sym (f refl) ∙ e))

module _ (c : Chip) (e : accepted c ≡ true) where
  pub accepted_forced : clock_fine c.picture.pen.forced ≡ true
  unfolding accepted
  accepted_forced = unless (clock_fine c.picture.pen.forced) (accepted c) (λ h. simp (h, and_false)) e

  pub accepted_clock : clock_fine c.side.bus.clock ≡ true
  unfolding accepted
  accepted_clock = unless (clock_fine c.side.bus.clock) (accepted c) (λ h. simp (h, and_false)) e

  pub accepted_place : place_fine c.side.pending.place ≡ true
  unfolding accepted
  accepted_place = unless (place_fine c.side.pending.place) (accepted c) (λ h. simp (h, and_false)) e
