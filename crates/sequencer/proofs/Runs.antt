-- A run of ticks: what it holds from tick to tick, and how it ends. Assumes nothing.
use Prim.Native.Nat.{ℕ, suc, ◌+◌, ◌<◌, ◌≤◌}
use mathlib.Core.Path.{◌≡◌, refl, sym, ap, ◌∙◌}
use mathlib.Core.Bool.{Bool, true, false, cond}
use mathlib.Core.List.{[]}
use native.Mathlib.Omega.{arith}
use native.Mathlib.Numerals.{add-one}
use lib.Dec.{eqb}
use borrow.Author.Tests.{eqb-true, eqb-false, ne_eqb}
use Rattle.laws.proofs.Choice.{by_test}
use Rattle.schedule.specs.Kind.{kind_of}
use Rattle.schedule.proofs.Places.{last_most}
use Rattle.memory.specs.Lent.{Host, lent_refusal}
use Rattle.registers.specs.declared.Registers.{Registers}
use Rattle.access.specs.declared.Reads.{Reads}
use Rattle.access.specs.Reads.{told}
use Rattle.chip.specs.declared.Chip.{Chip}
use Rattle.chip.specs.declared.Answer.{Answer}
use Rattle.chip.specs.Accept.{accepted, state_refusal}
use Rattle.chip.specs.Chip.{answer, reading}
use Rattle.world.specs.World.{World, world_of, chip_of}
use Rattle.world.specs.Tick.{tick_world, tick_reads}
use Rattle.sequencer.specs.Tick.{tickable, tick_refusal, ticked, ticks_from}
use Rattle.sequencer.specs.Machinery.Parts.{Ready, Held, sound_refusal, tested_from, answered}
use Rattle.chip.proofs.Fine.{accepted_fine, accepted_taken, taken_accepted}
use Rattle.chip.proofs.Accepted.{accepted_clock, accepted_forced, clock_fine_range}
use Rattle.sequencer.proofs.Clock.{tickable_can}
use Rattle.sequencer.proofs.Until as Until
use Rattle.sequencer.proofs.Kept.{world_kept}

pub ready : {h : Host} {g : Registers} {w : World} → Held h g w → tickable w.side.bus.clock ≡ true → Ready w
ready {h} {g} {w} held t = record {
  clock = tickable_can _ (accepted_clock (chip_of g w) held.fine) t;
  forced = clock_fine_range _ (accepted_forced (chip_of g w) held.fine);
  lost = let fine = (accepted_fine (chip_of g w) held.fine).side in omega (arith, fine.lost, fine.last, last_most (kind_of w.side.beam.kind));
}

pub none : (h : Host) (c : Chip) → ticks_from h 0 c ≡ answer 0 c
unfolding ticks_from
none h c = refl

more : (h : Host) (n : ℕ) (c : Chip) → ticks_from h (suc n) c ≡ cond (eqb (ticks_from h n c).refused 0) (ticked h (ticks_from h n c).chip) (ticks_from h n c)
unfolding ticks_from
more h n c = refl

pub next : (h : Host) (c d : Chip) {r : Reads} (i : ℕ) → ticks_from h i c ≡ reading d r → ticks_from h (suc i) c ≡ ticked h d
next h = Until.next (ticked h) (ticks_from h) (none h) (more h)

refused_first : (h : Host) (c : Chip) (r n : ℕ) → tick_refusal h c ≡ r → (r ≡ 0 → ⊥) → (n ≡ 0 → ⊥) → answer r c ≡ ticks_from h n c
unfolding ticked
refused_first h c r n e nz nn = Until.refused_first (ticked h) (ticks_from h) (none h) (more h) c r n (rw (e, ne_eqb r 0 nz)) nz nn

-- an answer that is not refused, put together
pub unrefused : (a : Answer) → a.refused ≡ 0 → a ≡ reading a.chip a.reads
unrefused a e = ap (λ (n : ℕ). answered n a.chip a.reads) e

module _ (h : Host) (c : Chip) where
  pub one_tick : ticks_from h 1 c ≡ ticked h c
  one_tick = next h c c 0 (none h c)

  -- a run that is refused is the same with more ticks to do
  pub refused_stays : (i n : ℕ) → i ≤ n → ((ticks_from h i c).refused ≡ 0 → ⊥) → ticks_from h i c ≡ ticks_from h n c
  refused_stays i n l nz = Until.stays_refused (ticked h) (ticks_from h) (none h) (more h) c i n l nz

  -- ---- what is tested before a run

  -- what is lent and the state come before the clock
  sound_first : (sound_refusal h c ≡ 0 → ⊥) → tick_refusal h c ≡ sound_refusal h c
  unfolding sound_refusal tick_refusal
  sound_first nz = same (eqb (lent_refusal h) 0) (eqb (state_refusal c) 0) refl nz
    where
      same : (free fine : Bool) → eqb (state_refusal c) 0 ≡ fine → (cond free (state_refusal c) (lent_refusal h) ≡ 0 → ⊥)
          → cond free (cond fine (cond (tickable c.side.bus.clock) 0 4) (state_refusal c)) (lent_refusal h) ≡ cond free (state_refusal c) (lent_refusal h)
      same true true e nz = absurd (nz (eqb-true (state_refusal c) 0 e))
      same true false e nz = refl
      same false fine e nz = refl

  pub sound_passes : sound_refusal h c ≡ 0 → (lent_refusal h ≡ 0) × (accepted c ≡ true)
  unfolding sound_refusal
  sound_passes e = passes (eqb (lent_refusal h) 0) refl e
    where
      passes : (free : Bool) → eqb (lent_refusal h) 0 ≡ free → cond free (state_refusal c) (lent_refusal h) ≡ 0 → (lent_refusal h ≡ 0) × (accepted c ≡ true)
      passes true p e = (eqb-true (lent_refusal h) 0 p, taken_accepted c e)
      passes false p e = absurd (eqb-false (lent_refusal h) 0 p e)

  pub sound_lent : (lent_refusal h ≡ 0 → ⊥) → lent_refusal h ≡ sound_refusal h c
  unfolding sound_refusal
  sound_lent nz = rw (ne_eqb (lent_refusal h) 0 nz)

  pub sound_state : lent_refusal h ≡ 0 → state_refusal c ≡ sound_refusal h c
  unfolding sound_refusal
  sound_state e = rw e

  -- what a run may begin with
  pub passed_held : (lent_refusal h ≡ 0) × (accepted c ≡ true) → Held h c.regs (world_of c)
  passed_held p = record { free = p.0; fine = p.1 }

  pub sound_held : sound_refusal h c ≡ 0 → Held h c.regs (world_of c)
  sound_held e = passed_held (sound_passes e)

  -- a call that tests, with no tick to do
  pub only_tested : tested_from h 0 c ≡ answer (sound_refusal h c) c
  unfolding tested_from
  only_tested = by_test (λ (a : Answer). a ≡ answer (sound_refusal h c) c) (eqb (sound_refusal h c) 0)
      (λ e. none h c ∙ ap (λ (n : ℕ). answer n c) (sym (eqb-true (sound_refusal h c) 0 e)))
      (λ e. refl)

  module _ (n : ℕ) where
    pub no_ticks : n ≡ 0 → answer 0 c ≡ ticks_from h n c
    no_ticks e = rw e (sym (none h c))

    pub tested_unsound : {r : ℕ} → r ≡ sound_refusal h c → (r ≡ 0 → ⊥) → answer r c ≡ tested_from h n c
    unfolding tested_from
    tested_unsound {r} e nz = rw (← e, ne_eqb r 0 nz)

    pub tested_sound : sound_refusal h c ≡ 0 → ticks_from h n c ≡ tested_from h n c
    unfolding tested_from
    tested_sound e = rw e

    -- with a tick to do it is the run of ticks
    pub tested_some : (n ≡ 0 → ⊥) → tested_from h n c ≡ ticks_from h n c
    unfolding tested_from
    tested_some nn = by_test (λ (a : Answer). a ≡ ticks_from h n c) (eqb (sound_refusal h c) 0)
        (λ e. refl)
        (λ e. let nz = eqb-false (sound_refusal h c) 0 e in refused_first h c (sound_refusal h c) n (sound_first nz) nz nn)

module _ (h : Host) (g : Registers) (w₀ : World) (n : ℕ) where
  pub record Going (w : World) (i : ℕ) (r : Reads) : Type 0 where
    pub within : i ≤ n
    pub state : ticks_from h i (chip_of g w₀) ≡ reading (chip_of g w) r
    pub held : Held h g w

  pub begun : {r : Reads} → r ≡ told [] → Held h g w₀ → Going w₀ 0 r
  begun {r} e held = record { within = omega arith; state = rw e (none h (chip_of g w₀)); held = held }

  -- what a tick of a held state answers
  taken : (w : World) → Held h g w → tickable w.side.bus.clock ≡ true → ticked h (chip_of g w) ≡ reading (chip_of g (tick_world h g w)) (told (tick_reads h g w))
  unfolding ticked tick_refusal
  taken w held t = rw (held.free, accepted_taken (chip_of g w) held.fine, t)

  late : (w : World) → Held h g w → tickable w.side.bus.clock ≡ false → ticked h (chip_of g w) ≡ answer 4 (chip_of g w)
  unfolding ticked tick_refusal
  late w held t = rw (held.free, accepted_taken (chip_of g w) held.fine, t)

  pub on : {w v : World} {i : ℕ} {r r' : Reads} → Going w i r → i < n → tickable w.side.bus.clock ≡ true → v ≡ tick_world h g w → r' ≡ told (tick_reads h g w)
      → Going v (i + 1) r'
  on {w} {v} {i} r l t e f = record {
    within = omega arith;
    state = rw (add-one, e, f) (next h (chip_of g w₀) (chip_of g w) i r.state ∙ taken w r.held t);
    held = record { free = r.held.free; fine = rw e (world_kept h g w r.held.fine t) };
  }

  pub no_more : {w : World} {i : ℕ} {r : Reads} → Going w i r → i < n → tickable w.side.bus.clock ≡ false → answer 4 (chip_of g w) ≡ ticks_from h n (chip_of g w₀)
  no_more {w} {i} r l t =
      Until.ended (ticked h) (ticks_from h) (none h) (more h) (chip_of g w₀) (answer 4 (chip_of g w)) i n (next h (chip_of g w₀) (chip_of g w) i r.state ∙ late w r.held t) refl l

  pub all_done : {w : World} {i : ℕ} {r : Reads} → Going w i r → n ≤ i → reading (chip_of g w) r ≡ ticks_from h n (chip_of g w₀)
  all_done {w} {i} r l = let q : i ≡ n = omega (arith, r.within) in rw (← q) (sym r.state)
