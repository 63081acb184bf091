-- 02 (vii): no call answers 6. Assumes nothing.
use Prim.Native.Nat.{ℕ, zero, suc}
use mathlib.Core.Path.{◌≡◌, sym, ◌∙◌}
use native.Mathlib.Omega.{arith}
use lib.Dec.{eqb, ltb}
use Rattle.laws.proofs.Choice.{either}
use Rattle.memory.specs.Lent.{Host, lent_refusal}
use Rattle.schedule.specs.Kind.{known}
use Rattle.chip.specs.declared.Chip.{Chip}
use Rattle.chip.specs.declared.Answer.{Answer}
use Rattle.chip.specs.Accept.{accepted, state_refusal}
use Rattle.sequencer.specs.Tick.{tickable, tick_refusal, ticked, ticks_from}
use Rattle.sequencer.proofs.Numbers.{lent_few, tick_number}
use Rattle.calls.specs.Calls.{controls_placed}
use Rattle.calls.proofs.Numbers.{late_number}
use Rattle.artwork.specs.Runs.{Call, tick, ticks, write, expand, compares, control_1, control_2, place_controls, late, done}

abbrev Not6 : ℕ → Type 0
Not6 n = n ≡ 6 → ⊥

state_not_6 : (c : Chip) → Not6 (state_refusal c)
unfolding state_refusal
state_not_6 c = either Not6 (known c.side.beam.kind) (either Not6 (accepted c) (λ e. omega arith) (λ e. omega arith)) (λ e. omega arith)

tick_not_6 : (h : Host) (c : Chip) → Not6 (tick_refusal h c)
unfolding tick_refusal
tick_not_6 h c =
    either Not6 (eqb (lent_refusal h) 0)
    (either Not6 (eqb (state_refusal c) 0) (either Not6 (tickable c.side.bus.clock) (λ e. omega arith) (λ e. omega arith)) (state_not_6 c))
    (λ e. omega (arith, lent_few h))

ticked_not_6 : (h : Host) (c : Chip) → Not6 (ticked h c).refused
ticked_not_6 h c e = tick_not_6 h c (sym (tick_number h c) ∙ e)

ticks_not_6 : (h : Host) (n : ℕ) (c : Chip) → Not6 (ticks_from h n c).refused
unfolding ticks_from
ticks_not_6 h zero c = λ e. omega arith
ticks_not_6 h (suc n) c =
    let before = ticks_from h n c in
    either (λ (a : Answer). Not6 a.refused) (eqb before.refused 0) (ticked_not_6 h before.chip) (ticks_not_6 h n c)

controls_not_6 : (c : Chip) (ctrl1 ctrl2 line : ℕ) → Not6 (controls_placed c ctrl1 ctrl2 line).refused
unfolding controls_placed
controls_not_6 c ctrl1 ctrl2 line = either (λ (a : Answer). Not6 a.refused) (ltb 511 line) (λ e. omega arith) (λ e. omega arith)

pub never_6 : (x : Call) (c : Chip) → (done x c).refused ≡ 6 → ⊥
unfolding done
never_6 (tick h) c e = ticked_not_6 h c e
never_6 (ticks h n) c e = ticks_not_6 h n c e
never_6 (write addr v) c e = omega arith
never_6 (expand v) c e = omega arith
never_6 compares c e = omega arith
never_6 (control_1 v) c e = omega arith
never_6 (control_2 v) c e = omega arith
never_6 (place_controls ctrl1 ctrl2 line) c e = controls_not_6 c ctrl1 ctrl2 line e
never_6 (late byte) c e = state_not_6 c (sym (late_number c byte) ∙ e)
