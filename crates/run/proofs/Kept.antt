-- A step that is refused leaves the chip and the bank as they were, and has read nothing. Assumes nothing.
use Prim.Native.Nat.{ℕ}
use mathlib.Core.Path.{◌≡◌, refl, sym, subst}
use mathlib.Core.Bool.{Bool, true, false, cond}
use mathlib.Core.List.{[]}
use lib.Dec.{eqb, ltb}
use Rattle.memory.specs.Lent.{Host}
use Rattle.script.specs.declared.Step.{Step}
use Rattle.script.specs.declared.Step.TheVariants as step
use Rattle.access.specs.Reads.{told}
use Rattle.chip.specs.declared.Chip.{Chip}
use Rattle.chip.specs.declared.Answer.{Answer}
use Rattle.chip.specs.Accept.{state_refusal}
use Rattle.chip.specs.Chip.{answer}
use Rattle.sequencer.specs.Tick.{ticked, tick_refusal}
use Rattle.calls.specs.Calls.{controls_placed, late_taken}
use Rattle.run.specs.Run.{done_of}

-- a call that takes the chip or hands it back
taken_or : (b : Bool) (n : ℕ) (x : Answer) (c : Chip) → x.refused ≡ 0 → ((cond b x (answer n c)).refused ≡ 0 → ⊥) → cond b x (answer n c) ≡ answer n c
taken_or true n x c z h = absurd (h z)
taken_or false n x c z h = refl

or_taken : (b : Bool) (n : ℕ) (x : Answer) (c : Chip) → x.refused ≡ 0 → ((cond b (answer n c) x).refused ≡ 0 → ⊥) → cond b (answer n c) x ≡ answer n c
or_taken true n x c z h = refl
or_taken false n x c z h = absurd (h z)

abbrev Kept : Chip → Answer → Type 0
Kept c a = (a.chip ≡ c) × (a.reads ≡ told [])

kept : {n : ℕ} {a : Answer} {c : Chip} → a ≡ answer n c → Kept c a
kept {n} {a} {c} e = subst (Kept c) (sym e) (refl, refl)

pub refused_keeps : (h : Host) (c : Chip) (s : Step) → ((done_of h c s).refused ≡ 0 → ⊥) → ((done_of h c s).chip ≡ c) × ((done_of h c s).bank ≡ h.bank) × ((done_of h c s).reads ≡ told [])
unfolding done_of ticked controls_placed late_taken
refused_keeps h c step.Tick e = let k = kept (taken_or (eqb (tick_refusal h c) 0) _ _ c refl e) in (k.0, refl, k.1)
refused_keeps h c (step.Write address value) e = absurd (e refl)
refused_keeps h c (step.Expand value) e = absurd (e refl)
refused_keeps h c (step.Controls ctrl1 ctrl2 compare) e = let k = kept (or_taken (ltb 511 compare) _ _ c refl e) in (k.0, refl, k.1)
refused_keeps h c (step.Late value) e = let k = kept (taken_or (eqb (state_refusal c) 0) _ _ c refl e) in (k.0, refl, k.1)
refused_keeps h c step.Borders e = absurd (e refl)
refused_keeps h c (step.Bank bank) e = absurd (e refl)
refused_keeps h c (step.Control1 value) e = absurd (e refl)
refused_keeps h c (step.Control2 value) e = absurd (e refl)
