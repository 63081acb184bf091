-- What acceptance says, as facts, both ways; the state of power-up is accepted. Assumes nothing.
use Prim.Native.Nat.{ℕ, ◌≤◌}
use mathlib.Core.Path.{◌≡◌, refl}
use mathlib.Core.Bool.{Bool, true, false, cond}
use native.Mathlib.Omega.{arith}
use borrow.Author.Tests.{leb-true, le-leb}
use lib.Dec.{leb}
use Rattle.laws.specs.Clock.{InRange}
use Rattle.laws.proofs.Choice.{and_false}
use Rattle.schedule.specs.Kind.{known, kind_of, last_cycle, last_line}
use Rattle.sprites.specs.Fine.{fine_test}
use Rattle.sprites.proofs.Kept.{fine_test_true, fine_test_fine}
use Rattle.side.specs.Fine.{FineSide}
use Rattle.rows.specs.Fine.{vmli_limit}
use Rattle.side.proofs.Kept.{fresh_fine}
use Rattle.picture.proofs.Laws.{fresh_forced}
use Rattle.chip.specs.declared.Chip.{Chip}
use Rattle.chip.specs.Chip.{powered}
use Rattle.chip.specs.Accept.{aec_fine, accepted, state_refusal}
use Rattle.chip.proofs.Accepted.{clock_fine_range, range_clock_fine, aec_fine_counted, counted_aec_fine, place_fine_pends, pends_place_fine, unless, accepted_forced, accepted_clock, accepted_place}

-- what the acceptance says, as facts
pub record Fine (c : Chip) : Type 0 where
  pub side : FineSide c.side
  pub compare : c.regs.compare ≤ 511
  pub forced : InRange c.picture.pen.forced

pub accepted_fine : (c : Chip) → accepted c ≡ true → Fine c
unfolding accepted
accepted_fine c e =
    let s = c.side in
    record {
      side = record {
        kind = holds (known s.beam.kind) (λ h. simp h);
        first = at_most 1 s.beam.cycle (λ h. simp (h, and_false));
        last = at_most s.beam.cycle (last_cycle (kind_of s.beam.kind)) (λ h. simp (h, and_false));
        raster = at_most s.beam.raster (last_line (kind_of s.beam.kind)) (λ h. simp (h, and_false));
        aec = aec_fine_counted s.bus.aec (holds (aec_fine s.bus.aec) (λ h. simp (h, and_false)));
        rows = record {
          vc = at_most s.rows.vc 1023 (λ h. simp (h, and_false));
          vcbase = at_most s.rows.vcbase 1023 (λ h. simp (h, and_false));
          rc = at_most s.rows.rc 7 (λ h. simp (h, and_false));
          vmli = at_most s.rows.vmli (vmli_limit s.beam.cycle) (λ h. simp (h, and_false));
        };
        sprites = fine_test_fine (holds (fine_test 8 s.sprites) (λ h. simp (h, and_false)));
        place = place_fine_pends s.pending.place (accepted_place c e);
        clock = clock_fine_range s.bus.clock (accepted_clock c e);
        lost = at_most s.bus.lost s.beam.cycle (λ h. simp (h, and_false));
      };
      compare = at_most c.regs.compare 511 (λ h. simp (h, and_false));
      forced = clock_fine_range c.picture.pen.forced (accepted_forced c e);
    }
  where
    holds : (t : Bool) → (t ≡ false → accepted c ≡ false) → t ≡ true
    holds t f = unless t (accepted c) f e

    at_most : (m n : ℕ) → (leb m n ≡ false → accepted c ≡ false) → m ≤ n
    at_most m n f = leb-true m n (holds (leb m n) f)

pub fine_accepted : (c : Chip) → Fine c → accepted c ≡ true
unfolding accepted
fine_accepted c f =
    let s = f.side in
    rw (
      s.kind,
      le-leb _ _ s.first,
      le-leb _ _ s.last,
      le-leb _ _ s.raster,
      le-leb _ _ f.compare,
      counted_aec_fine _ s.aec,
      le-leb _ _ s.rows.vc,
      le-leb _ _ s.rows.vcbase,
      le-leb _ _ s.rows.rc,
      le-leb _ _ s.rows.vmli,
      fine_test_true s.sprites,
      pends_place_fine _ s.place,
      range_clock_fine c.side.bus.clock s.clock,
      range_clock_fine c.picture.pen.forced f.forced,
      le-leb _ _ s.lost,
    )

-- power-up of a known kind
pub powered_accepted : (kind : ℕ) → known kind ≡ true → accepted (powered kind) ≡ true
unfolding powered
powered_accepted kind e = fine_accepted (powered kind) (record { side = fresh_fine kind e; compare = omega arith; forced = fresh_forced })

-- a state of an unknown kind is never accepted
pub unknown_refused : (c : Chip) → known c.side.beam.kind ≡ false → accepted c ≡ false
unfolding accepted
unknown_refused c e = rw e

-- ---- why a state is not taken

taken_both : (k a : Bool) → ◌≡◌ {A = ℕ} (cond k (cond a 0 3) 12) 0 → a ≡ true
taken_both true true e = refl
taken_both true false e = absurd (omega arith)
taken_both false a e = absurd (omega arith)

module _ (c : Chip) where
  -- an accepted state is taken, and only such a one
  pub taken_accepted : state_refusal c ≡ 0 → accepted c ≡ true
  unfolding state_refusal
  taken_accepted e = taken_both (known c.side.beam.kind) (accepted c) e

  pub accepted_taken : accepted c ≡ true → state_refusal c ≡ 0
  unfolding state_refusal
  accepted_taken e = rw ((accepted_fine c e).side.kind, e)

  -- 02 (iv): 12 exactly where the kind is unknown
  pub unknown_12 : known c.side.beam.kind ≡ false → state_refusal c ≡ 12
  unfolding state_refusal
  unknown_12 e = rw e

  pub only_unknown_12 : state_refusal c ≡ 12 → known c.side.beam.kind ≡ false
  unfolding state_refusal
  only_unknown_12 e = by_both (known c.side.beam.kind) (accepted c) e
    where
      by_both : (k a : Bool) → ◌≡◌ {A = ℕ} (cond k (cond a 0 3) 12) 12 → k ≡ false
      by_both true true e = absurd (omega arith)
      by_both true false e = absurd (omega arith)
      by_both false a e = refl

  -- 3 exactly where the kind is known and the state is not accepted
  pub unaccepted_3 : known c.side.beam.kind ≡ true → accepted c ≡ false → state_refusal c ≡ 3
  unfolding state_refusal
  unaccepted_3 k e = rw (k, e)
