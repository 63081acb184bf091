-- What the next cycle and the next line are, that they stay on the line and in the frame, and where a tick leaves the beam. Assumes nothing.
use Prim.Native.Nat.{ℕ, ◌+◌, ◌<◌, ◌≤◌}
use mathlib.Core.Path.{◌≡◌, refl, sym, ◌∙◌, ap}
use mathlib.Core.Bool.{Bool, true, false, not, ◌&&◌, ◌||◌, cond}
use native.Mathlib.Omega.{arith}
use borrow.Author.Tests.{leb-true, ltb-true, ltb-false, lt-ltb, le-ltb, le-leb, lt-leb}
use lib.Dec.{eqb, leb, ltb}
use Rattle.laws.proofs.Below.{same_test}
use Rattle.laws.proofs.Choice.{either, by_test, right, and_true, and_false, picks}
use Rattle.schedule.specs.Kind.{Kind, kind_of, last_cycle, last_line}
use Rattle.schedule.specs.Diagram.{happens, graphics_access}
use Rattle.schedule.specs.Machinery.Stretches.{before_graphics}
use Rattle.schedule.proofs.Places.{last_most, last_least}
use Rattle.timing.specs.declared.Beam.{Beam}
use Rattle.timing.specs.Set.{cycle≔, den≔, rsel≔, yscroll≔, bad≔, rising≔, ba≔}
use Rattle.timing.specs.Beam.{bad_line, latched, ba_output, next_cycle, at_last_line, next_line, fresh, beam_turned}

one_on : (c : ℕ) → c < 66 → (leb 15 c && leb c 54) ≡ (leb 16 (c + 1) && leb (c + 1) 55)
one_on = same_test (λ c. leb 15 c && leb c 54) (λ c. leb 16 (c + 1) && leb (c + 1) 55) 66 tt

over : (c : ℕ) → 63 ≤ c → (leb 15 c && leb c 54) ≡ false
over c h = rw (le-leb 15 c (omega arith), lt-leb c 54 (omega arith))

pub before_most : (c : ℕ) → before_graphics c ≡ true → c ≤ 54
unfolding before_graphics
before_most c e = leb-true c 54 (right (leb 15 c) (leb c 54) e)

module _ (k : Kind) where
  pub cycle_low : (c : ℕ) → 1 ≤ next_cycle k c
  unfolding next_cycle
  cycle_low c = either (λ (n : ℕ). 1 ≤ n) (ltb c (last_cycle k)) (omega arith) (omega arith)

  pub cycle_high : (c : ℕ) → next_cycle k c ≤ last_cycle k
  unfolding next_cycle
  cycle_high c = by_test (λ (n : ℕ). n ≤ last_cycle k) (ltb c (last_cycle k)) (λ e. omega (arith, ltb-true c (last_cycle k) e)) (λ e. omega (arith, last_least k))

  -- a cycle of either kind
  pub cycle_small : (c : ℕ) → next_cycle k c < 66
  cycle_small c = omega (arith, cycle_high c, last_most k)

  pub cycle_next : (c : ℕ) → c < last_cycle k → next_cycle k c ≡ c + 1
  unfolding next_cycle
  cycle_next c h = rw (lt-ltb c (last_cycle k) h)

  -- within a line of either kind
  pub cycle_on : (c : ℕ) → c < 63 → next_cycle k c ≡ c + 1
  cycle_on c h = cycle_next c (omega (arith, last_least k))

  pub cycle_wraps : (c : ℕ) → last_cycle k ≤ c → next_cycle k c ≡ 1
  unfolding next_cycle
  cycle_wraps c h = rw (le-ltb c (last_cycle k) h)

  -- a graphics access in the next cycle, told by this one
  pub before_graphics_lem : (c : ℕ) → before_graphics c ≡ happens graphics_access (next_cycle k c)
  unfolding before_graphics happens next_cycle
  before_graphics_lem c = by_test (λ (n : ℕ). (leb 15 c && leb c 54) ≡ (leb 16 n && leb n 55)) (ltb c (last_cycle k)) (λ e. one_on c (omega (arith, ltb-true c (last_cycle k) e, last_most k))) (λ e. over c (omega (arith, ltb-false c (last_cycle k) e, last_least k)))

  -- such a cycle is within a line of either kind
  pub lit_next : (c : ℕ) → before_graphics c ≡ true → next_cycle k c ≡ c + 1
  lit_next c e = cycle_on c (omega (arith, before_most c e))

  pub line_high : (r : ℕ) → r ≤ last_line k → next_line k r ≤ last_line k
  unfolding next_line
  line_high r h = by_test (λ (n : ℕ). n ≤ last_line k) (ltb r (last_line k)) (λ e. omega (arith, ltb-true r (last_line k) e)) (λ e. h)

  -- a line that is not the last
  pub line_next : (r : ℕ) → r < last_line k → next_line k r ≡ r + 1
  unfolding next_line
  line_next r h = rw (lt-ltb r (last_line k) h)

  pub not_last : (r : ℕ) → r < last_line k → at_last_line k r ≡ false
  unfolding at_last_line
  not_last r h = lt-leb (last_line k) r h

module _ (b : Beam) (cycle line : ℕ) (latch kept : Bool) (raster : ℕ) (den rsel : Bool) (yscroll : ℕ) where
  pub turned_kind : (beam_turned b cycle line latch kept raster den rsel yscroll).kind ≡ b.kind
  unfolding beam_turned
  turned_kind = refl

  pub turned_cycle : (beam_turned b cycle line latch kept raster den rsel yscroll).cycle ≡ cycle
  unfolding beam_turned
  turned_cycle = refl

  pub turned_raster : (beam_turned b cycle line latch kept raster den rsel yscroll).raster ≡ raster
  unfolding beam_turned
  turned_raster = refl

  pub turned_latch : (beam_turned b cycle line latch kept raster den rsel yscroll).latch ≡ kept
  unfolding beam_turned
  turned_latch = refl

  pub turned_bad : (beam_turned b cycle line latch kept raster den rsel yscroll).bad ≡ bad_line line yscroll latch
  unfolding beam_turned
  turned_bad = refl

  pub turned_rising : (beam_turned b cycle line latch kept raster den rsel yscroll).rising ≡ (bad_line line yscroll latch && not b.bad)
  unfolding beam_turned
  turned_rising = refl

-- the latch's rule without a choice
chosen : (here begins den latch : Bool) → ((here && den) || (latch && not (begins && here))) ≡ cond here (den || (latch && not begins)) latch
chosen true true den latch = refl
chosen true false den latch = refl
chosen false true den true = refl
chosen false true den false = refl
chosen false false den true = refl
chosen false false den false = refl

pub latch_set : (begins : Bool) (line : ℕ) (den latch : Bool) → ((eqb line 0x30 && den) || (latch && not (begins && eqb line 0x30))) ≡ latched begins line den latch
unfolding latched
latch_set begins line den latch = chosen (eqb line 0x30) begins den latch ∙ sym (picks (eqb line 0x30) (den || (latch && not begins)) latch)

-- off line 0x30 the latch stays
pub latch_stays : (begins : Bool) (line : ℕ) (den latch : Bool) → eqb line 0x30 ≡ false → latched begins line den latch ≡ latch
unfolding latched
latch_stays begins line den latch e = rw (e, picks false (den || (latch && not begins)) latch)

-- on it the first cycle stores DEN, and a later one adds it
pub latch_stored : (den latch : Bool) → latched true 0x30 den latch ≡ den
unfolding latched
latch_stored true latch = picks true _ latch
latch_stored false latch = picks true (latch && false) latch ∙ and_false latch

pub latch_added : (den latch : Bool) → latched false 0x30 den latch ≡ (den || latch)
unfolding latched
latch_added den latch = picks true (den || (latch && true)) latch ∙ ap (λ (b : Bool). den || b) (and_true latch)

-- on another line than 0x30 that is not bad, past its begin, the cycle moves on and the control bits are latched
abbrev pub moved : Beam → ℕ → Bool → Bool → ℕ → Beam
moved b cycle den rsel yscroll = cycle≔ cycle (den≔ den (rsel≔ rsel (yscroll≔ yscroll (bad≔ false (rising≔ false (ba≔ true b))))))

pub beam_moved : (b : Beam) (cycle : ℕ) (den rsel : Bool) (yscroll : ℕ) → eqb b.raster 0x30 ≡ false → bad_line b.raster yscroll b.latch ≡ false
    → moved b cycle den rsel yscroll ≡ beam_turned b cycle b.raster (latched false b.raster den b.latch) (latched false b.raster den b.latch) b.raster den rsel yscroll
unfolding beam_turned ba_output
beam_moved b cycle den rsel yscroll l e = rw (latch_stays false b.raster den b.latch l, e)

-- power-up is in the last cycle of the last line, of the kind that it is given
module _ (kind : ℕ) where
  pub fresh_kind : (fresh kind).kind ≡ kind
  unfolding fresh
  fresh_kind = refl

  pub fresh_cycle : (fresh kind).cycle ≡ last_cycle (kind_of kind)
  unfolding fresh
  fresh_cycle = refl

  pub fresh_raster : (fresh kind).raster ≡ last_line (kind_of kind)
  unfolding fresh
  fresh_raster = refl
