-- The number by which a tick is refused, and 12 exactly where nothing lent is refused and the kind is unknown. Assumes nothing.
use Prim.Native.Nat.{ℕ, zero, suc, ◌≤◌}
use mathlib.Core.Path.{◌≡◌, refl, sym, ◌∙◌}
use mathlib.Core.Bool.{Bool, true, false, cond}
use native.Mathlib.Omega.{arith}
use lib.Dec.{eqb, ltb}
use lib.ListN.{length}
use borrow.Author.Tests.{eqb-true, eqb-false}
use Rattle.laws.proofs.Choice.{either, by_test}
use Rattle.memory.specs.Memory.{block_refusal}
use Rattle.memory.specs.Lent.{Host, lent_refusal}
use Rattle.registers.specs.Control.{timed}
use Rattle.schedule.specs.Kind.{known}
use Rattle.side.proofs.Kept.{side_kind}
use Rattle.chip.specs.declared.Chip.{Chip}
use Rattle.chip.specs.declared.Answer.{Answer}
use Rattle.chip.specs.Chip.{answer}
use Rattle.chip.specs.Accept.{accepted, state_refusal}
use Rattle.chip.proofs.Fine.{taken_accepted, unknown_12, only_unknown_12}
use Rattle.world.specs.Tick.{tick_world, tick_of}
use Rattle.sequencer.specs.Tick.{tickable, tick_refusal, ticked, ticks_from}
use Rattle.sequencer.proofs.Runs.{sound_state, tested_unsound, tested_some}

abbrev AtMost : ℕ → ℕ → Type 0
AtMost m n = n ≤ m

pub lent_few : (h : Host) → lent_refusal h ≤ 2
unfolding lent_refusal block_refusal
lent_few h =
    either (AtMost 2) (eqb (length h.colour) 1024)
    (either (AtMost 2) (eqb (length h.ram) 16384) (either (AtMost 2) (eqb (length h.rom) 4096) (either (AtMost 2) (ltb 3 h.bank) (omega arith) (omega arith)) (omega arith)) (omega arith))
    (omega arith)

state_few : (c : Chip) → state_refusal c ≤ 12
unfolding state_refusal
state_few c = either (AtMost 12) (known c.side.beam.kind) (either (AtMost 12) (accepted c) (omega arith) (omega arith)) (omega arith)

pub tick_few : (h : Host) (c : Chip) → tick_refusal h c ≤ 12
unfolding tick_refusal
tick_few h c =
    either (AtMost 12) (eqb (lent_refusal h) 0)
    (either (AtMost 12) (eqb (state_refusal c) 0) (either (AtMost 12) (tickable c.side.bus.clock) (omega arith) (omega arith)) (state_few c))
    (omega (arith, lent_few h))

by_zero : (h : Host) (c : Chip) (z : Bool) → eqb (tick_refusal h c) 0 ≡ z → (ticked h c).refused ≡ tick_refusal h c
unfolding ticked
by_zero h c true e = simp e (sym (eqb-true (tick_refusal h c) 0 e))
by_zero h c false e = simp e

pub tick_number : (h : Host) (c : Chip) → (ticked h c).refused ≡ tick_refusal h c
tick_number h c = by_zero h c (eqb (tick_refusal h c) 0) refl

passes : (lent state : ℕ) (t z y : Bool) → eqb lent 0 ≡ z → eqb state 0 ≡ y → ◌≡◌ {A = ℕ} (cond z (cond y (cond t 0 4) state) lent) 0 → (state ≡ 0) × (t ≡ true)
passes lent state true true true e f n = (eqb-true state 0 f, refl)
passes lent state false true true e f n = absurd (omega arith)
passes lent state t true false e f n = absurd (eqb-false state 0 f n)
passes lent state t false y e f n = absurd (eqb-false lent 0 e n)

-- what is known of a state that a tick takes
pub tick_passes : (h : Host) (c : Chip) → tick_refusal h c ≡ 0 → (accepted c ≡ true) × (tickable c.side.bus.clock ≡ true)
unfolding tick_refusal
tick_passes h c e =
    let p = passes (lent_refusal h) (state_refusal c) (tickable c.side.bus.clock) (eqb (lent_refusal h) 0) (eqb (state_refusal c) 0) refl refl e in
    (taken_accepted c p.0, p.1)

-- ---- 02 (iv): 12 by a tick and by a run of ticks

twelve : (lent state : ℕ) (free fine can : Bool) → lent ≤ 2 → eqb lent 0 ≡ free → ◌≡◌ {A = ℕ} (cond free (cond fine (cond can 0 4) state) lent) 12 → (lent ≡ 0) × (state ≡ 12)
twelve lent state true true true few l e = absurd (omega arith)
twelve lent state true true false few l e = absurd (omega arith)
twelve lent state true false can few l e = (eqb-true lent 0 l, e)
twelve lent state false fine can few l e = absurd (omega arith)

module _ (h : Host) (c : Chip) where
  pub tick_12_only_then : tick_refusal h c ≡ 12 → (lent_refusal h ≡ 0) × (known c.side.beam.kind ≡ false)
  unfolding tick_refusal
  tick_12_only_then e =
      let both = twelve (lent_refusal h) (state_refusal c) (eqb (lent_refusal h) 0) (eqb (state_refusal c) 0) (tickable c.side.bus.clock) (lent_few h) refl e in
      (both.0, only_unknown_12 c both.1)

  -- a run of at least one tick is refused at once, with the state unchanged; so is a tick, which is a run of one
  pub ticks_12_then : (n : ℕ) → (n ≡ 0 → ⊥) → lent_refusal h ≡ 0 → known c.side.beam.kind ≡ false → answer 12 c ≡ ticks_from h n c
  ticks_12_then n some l k = tested_unsound h c n (sym (unknown_12 c k) ∙ sound_state h c l) (λ z. omega arith) ∙ tested_some h c n some

-- no tick changes the kind
tick_kind : (h : Host) (c : Chip) → (tick_of h c).side.beam.kind ≡ c.side.beam.kind
unfolding tick_world
tick_kind h c = side_kind (timed c.regs) c.side

ticked_kind : (h : Host) (c : Chip) → (ticked h c).chip.side.beam.kind ≡ c.side.beam.kind
unfolding ticked
ticked_kind h c = either (λ (a : Answer). a.chip.side.beam.kind ≡ c.side.beam.kind) (eqb (tick_refusal h c) 0) (tick_kind h c) refl

pub run_kind : (h : Host) (n : ℕ) (c : Chip) → (ticks_from h n c).chip.side.beam.kind ≡ c.side.beam.kind
unfolding ticks_from
run_kind h zero c = refl
run_kind h (suc n) c =
    let before = ticks_from h n c in
    either (λ (a : Answer). a.chip.side.beam.kind ≡ c.side.beam.kind) (eqb before.refused 0) (ticked_kind h before.chip ∙ run_kind h n c) (run_kind h n c)

-- so that a run is refused 12 at its first tick or not at all
pub ticks_12_only_then : (h : Host) (n : ℕ) (c : Chip) → (ticks_from h n c).refused ≡ 12 → (lent_refusal h ≡ 0) × (known c.side.beam.kind ≡ false)
unfolding ticks_from
ticks_12_only_then h zero c = λ e. absurd (omega arith)
ticks_12_only_then h (suc n) c =
    let before = ticks_from h n c in
    by_test (λ (a : Answer). a.refused ≡ 12 → (lent_refusal h ≡ 0) × (known c.side.beam.kind ≡ false)) (eqb before.refused 0)
    (λ t e.
    let both = tick_12_only_then h before.chip (sym (tick_number h before.chip) ∙ e) in
    (both.0, rw (run_kind h n c) at both.1))
    (λ t e. ticks_12_only_then h n c e)
