-- When a tick of the dump is refused, and by which number. Assumes nothing.
use Prim.Native.Nat.{ℕ, ◌≤◌, ◌<◌}
use mathlib.Core.Path.{◌≡◌, refl, sym, ◌∙◌}
use mathlib.Core.Bool.{Bool, true, false, cond}
use mathlib.Core.List.{List}
use native.Mathlib.Omega.{arith}
use lib.Dec.{eqb, ltb}
use lib.ListN.{length}
use borrow.Author.Tests.{lt-ltb, ltb-true, eq-eqb, ne_eqb, eqb-true}
use Rattle.memory.specs.Lent.{Host}
use Rattle.chip.specs.declared.Chip.{Chip}
use Rattle.sequencer.specs.Tick.{tick_refusal, ticked}
use Rattle.sequencer.proofs.Numbers.{tick_few, tick_number}
use Rattle.vcd.specs.declared.Wave.{Wave}
use Rattle.wave.specs.Wave.{wrote_tick, number_of, heard_with, tick_heard}

only_then : (number room : ℕ) → number ≤ 12 → (taken short : Bool) → eqb number 0 ≡ taken → ltb room 292 ≡ short → cond taken (cond short 13 0) number ≡ 13 → (number ≡ 0) × (room < 292)
only_then number room few true true e s is = (eqb-true number 0 e, ltb-true room 292 s)
only_then number room few true false e s is = absurd (omega arith)
only_then number room few false short e s is = absurd (omega arith)

module _ (h : Host) (c : Chip) (w : Wave) (out : List ℕ) where
  abbrev number : ℕ
  number = number_of (ticked h c).refused (length out)

  number_by : (none : Bool) → eqb number 0 ≡ none → (tick_heard h c w out).told.refused ≡ number
  unfolding heard_with wrote_tick
  number_by true e = simp e (sym (eqb-true number 0 e))
  number_by false e = simp e

  number_is : (tick_heard h c w out).told.refused ≡ number
  number_is = number_by (eqb number 0) refl

  -- 02 (i): 13 exactly when the tick itself is not refused and the buffer is shorter than the longest piece
  pub refused_13_only_then : (tick_heard h c w out).told.refused ≡ 13 → (tick_refusal h c ≡ 0) × (length out < 292)
  unfolding number_of
  refused_13_only_then e =
      let n = (ticked h c).refused in
      let both = only_then n (length out) (omega (arith, tick_number h c, tick_few h c)) (eqb n 0) (ltb (length out) 292) refl refl (sym number_is ∙ e) in
      (sym (tick_number h c) ∙ both.0, both.1)

  pub refused_13_then : tick_refusal h c ≡ 0 → length out < 292 → (tick_heard h c w out).told.refused ≡ 13
  unfolding number_of
  refused_13_then e s = number_is ∙ simp (eq-eqb (ticked h c).refused 0 (tick_number h c ∙ e), lt-ltb (length out) 292 s)

  -- 02 (i): the tick's own numbers come before it
  pub refused_as_the_tick : (tick_refusal h c ≡ 0 → ⊥) → (tick_heard h c w out).told.refused ≡ tick_refusal h c
  unfolding number_of
  refused_as_the_tick some = number_is ∙ simp (ne_eqb (ticked h c).refused 0 (λ z. some (sym (tick_number h c) ∙ z))) (tick_number h c)
