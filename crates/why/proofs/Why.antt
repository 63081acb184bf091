-- After a tick AEC is low exactly where the last four ticks asked. Assumes nothing.
use Prim.Native.Nat.{ℕ, zero, suc, ◌<◌}
use mathlib.Core.Path.{◌≡◌, refl, sym, ◌∙◌, ap}
use mathlib.Core.Bool.{Bool, true, false, ◌&&◌, cond}
use mathlib.Core.List.{List, [], ◌∷◌}
use native.Mathlib.Omega.{arith}
use lib.Dec.{eqb, ltb}
use lib.IntN.{ℤ, pos, negsuc}
use lib.ListN.{length}
use Rattle.laws.proofs.Choice.{either, under}
use Rattle.memory.specs.Lent.{Host}
use Rattle.schedule.specs.Diagram.{happens, line_begins}
use Rattle.timing.specs.Beam.{beam_turned}
use Rattle.sprites.specs.declared.Sprites.{Sprites}
use Rattle.sprites.specs.Sprites.{fetched}
use Rattle.arbitration.specs.declared.Bus.{Bus}
use Rattle.arbitration.specs.Bus.{down, aec_after, low, Counted, clocked, arbitrated, lost_after, counted}
use Rattle.arbitration.proofs.Kept.{aec_kept}
use Rattle.std.specs.Prelude.{Option, None, Some}
use Rattle.side.specs.Phases.{slot_moved}
use Rattle.side.specs.Turn.{turned}
use Rattle.chip.specs.declared.Chip.{Chip}
use Rattle.chip.specs.declared.Answer.{Answer}
use Rattle.chip.specs.Accept.{state_refusal}
use Rattle.world.specs.Tick.{tick_world, tick_of}
use Rattle.sequencer.specs.Tick.{ticked, ticks_from}
use Rattle.calls.specs.Calls.{is_expand, file_written, expand_at, register_written, compares_by, control_stored, control1_written, control2_written, controls_placed, late_at, late_taken}
use Rattle.artwork.specs.Runs.{Call, tick, ticks, write, expand, compares, control_1, control_2, place_controls, late, done}
use Rattle.why.specs.Why.{tick_adds, ticks_add, adds, history, after, asked, last_all, last_four, ByTheLastFour}
use Rattle.why.proofs.History.{refused, refused_adds_none, accepted_adds_one, one_more_lem, along}

-- ---- what a tick's arbitration was handed

mask_of_lem : (b : Bool) (s t : Sprites) → (cond b s t).dma ≡ cond b s.dma t.dma
mask_of_lem b s t = under (λ (u : Sprites). u.dma) b s t

either_way : (b : Bool) (n : ℕ) → cond b n n ≡ n
either_way true n = refl
either_way false n = refl

slot_dma : (pointing fetching : Bool) (n : ℕ) (s : Sprites) → (slot_moved pointing fetching n s).dma ≡ s.dma
unfolding slot_moved fetched
slot_dma pointing fetching n s = simp (mask_of_lem, either_way)

-- the slot moves no mask, so that the request is read off the chip after the tick
pub arbitration_found : (h : Host) (c : Chip) → (tick_of h c).side.bus ≡ counted (happens line_begins (tick_of h c).side.beam.cycle) (arbitrated (clocked 1 c.side.bus) (asked (tick_of h c)))
unfolding asked tick_world turned beam_turned
arbitration_found h c = rw slot_dma

pub asked_is_low : (h : Host) (c : Chip) → (tick_of h c).side.bus.balow ≡ asked (tick_of h c)
unfolding arbitrated counted
asked_is_low h c = ap (λ (b : Bus). b.balow) (arbitration_found h c)

pub counts : (h : Host) (c : Chip) → (tick_of h c).side.bus.aec ≡ aec_after c.side.bus.aec (asked (tick_of h c))
unfolding arbitrated clocked counted
counts h c = ap (λ (b : Bus). b.aec) (arbitration_found h c)

pub falls : (h : Host) (c : Chip) → (tick_of h c).side.bus.aeclow ≡ low (tick_of h c).side.bus.aec
unfolding tick_world turned arbitrated counted
falls h c = refl

-- 02 (xi): what a tick adds to the lost cycles goes by the cycle and the AEC flag that it leaves
pub loses : (h : Host) (c : Chip) → (tick_of h c).side.bus.lost ≡ lost_after (happens line_begins (tick_of h c).side.beam.cycle) (tick_of h c).side.bus.aeclow c.side.bus.lost
unfolding tick_world turned beam_turned arbitrated clocked counted
loses h c = refl

-- ---- every other call leaves the bus as it was

-- what a tick adds to is empty where the whole is, and then the chip is as it was
pub tick_same : (h : Host) (c : Chip) (past : List Chip) → tick_adds h c past ≡ [] → (past ≡ []) × ((ticked h c).chip ≡ c)
tick_same h c past e = by_refusal (eqb (ticked h c).refused 0) refl
  where
    by_refusal : (b : Bool) → eqb (ticked h c).refused 0 ≡ b → (past ≡ []) × ((ticked h c).chip ≡ c)
    by_refusal true t = let z : ◌≡◌ {A = ℕ} 0 1 = cc (accepted_adds_one h c past t) in absurd (omega arith)
    by_refusal false t = (sym (refused_adds_none h c past t) ∙ e, refused h c t)

pub ticks_same : (h : Host) (n : ℕ) (c : Chip) → ticks_add h n c [] ≡ [] → (ticks_from h n c).chip ≡ c
unfolding ticks_add ticks_from
ticks_same h zero c e = refl
ticks_same h (suc n) c e =
    let both = tick_same h (ticks_from h n c).chip (ticks_add h n c []) e in
    one_more_lem h n c ∙ both.1 ∙ ticks_same h n c both.0

abbrev SameBus : Chip → Answer → Type 0
SameBus c a = a.chip.side.bus ≡ c.side.bus

late_bus : (c : Chip) (byte : ℕ) (p : Option ℕ) → (late_at c byte p).side.bus ≡ c.side.bus
late_bus c byte None = refl
late_bus c byte (Some p) = refl

-- one that has no accepted tick in it
pub only_ticks_touch_the_bus : (x : Call) (c : Chip) → adds x c [] ≡ [] → SameBus c (done x c)
unfolding done adds register_written file_written expand_at compares_by control1_written control2_written control_stored controls_placed late_taken
only_ticks_touch_the_bus (tick h) c e = ap (λ (d : Chip). d.side.bus) (tick_same h c [] e).1
only_ticks_touch_the_bus (ticks h n) c e = ap (λ (d : Chip). d.side.bus) (ticks_same h n c e)
only_ticks_touch_the_bus (write addr v) c e = either (λ (d : Chip). d.side.bus ≡ c.side.bus) (is_expand addr) refl refl
only_ticks_touch_the_bus (expand v) c e = refl
only_ticks_touch_the_bus compares c e = refl
only_ticks_touch_the_bus (control_1 v) c e = refl
only_ticks_touch_the_bus (control_2 v) c e = refl
only_ticks_touch_the_bus (place_controls ctrl1 ctrl2 line) c e = either (SameBus c) (ltb 511 line) refl refl
only_ticks_touch_the_bus (late byte) c e = either (SameBus c) (eqb (state_refusal c) 0) (late_bus c byte c.side.pending.place) refl

-- ---- the counter

-- requests, one after the other, on a counter
unfoldable pub counter_from : {A : Type 0} → (A → Bool) → ℤ → List A → ℤ
counter_from asks start [] = start
counter_from asks start (t ∷ past) = aec_after (counter_from asks start past) (asks t)

record Counts (start : ℤ) (past : List Chip) (c : Chip) : Type 0 where
  aec : c.side.bus.aec ≡ counter_from asked start past
  level : 0 < length past → c.side.bus.aeclow ≡ low c.side.bus.aec

run_counts : (xs : List Call) (c : Chip) → Counts c.side.bus.aec (history xs c) (after xs c)
unfolding counter_from
run_counts xs c =
    along (Counts c.side.bus.aec)
    (λ h past c p. record { aec = counts h c ∙ ap (λ (z : ℤ). aec_after z (asked (tick_of h c))) p.aec; level = λ l. falls h c })
    (λ x past c none p. let same = only_ticks_touch_the_bus x c none in record { aec = rw same p.aec; level = λ l. rw same (p.level l) })
    [] xs c (record { aec = refl; level = λ l. absurd (omega arith) })

-- from any state, whatever the calls
pub counter_is_a_fold : (xs : List Call) (c : Chip) → (after xs c).side.bus.aec ≡ counter_from asked c.side.bus.aec (history xs c)
counter_is_a_fold xs c = (run_counts xs c).aec

-- ---- four requests

-- they reach the end from wherever the counter was
four_down : (z : ℤ) → Counted z → low (down (down (down (down z)))) ≡ true
unfolding low
four_down (negsuc n) h = refl
four_down (pos zero) h = refl
four_down (pos (suc zero)) h = refl
four_down (pos (suc (suc zero))) h = refl
four_down (pos (suc (suc (suc zero)))) h = refl
four_down (pos (suc (suc (suc (suc n))))) h = absurd (omega arith)

-- the latest first
by_requests : (z : ℤ) → Counted z → (a b c d : Bool) → low (aec_after (aec_after (aec_after (aec_after z d) c) b) a) ≡ (a && (b && (c && (d && true))))
unfolding aec_after low
by_requests z h false b c d = refl
by_requests z h true false c d = refl
by_requests z h true true false d = refl
by_requests z h true true true false = refl
by_requests z h true true true true = four_down z h

module _ {A : Type 0} (asks : A → Bool) where
  within : (past : List A) → Counted (counter_from asks (pos 3) past)
  unfolding counter_from
  within [] = omega arith
  within (t ∷ past) = aec_kept (counter_from asks (pos 3) past) (asks t) (within past)

  -- a start with 3 is as if nobody had asked before it
  pub four : (past : List A) → low (counter_from asks (pos 3) past) ≡ last_four asks past
  unfolding counter_from last_all aec_after
  four [] = by_requests (pos 3) (omega arith) false false false false
  four (a ∷ []) = by_requests (pos 3) (omega arith) (asks a) false false false
  four (a ∷ b ∷ []) = by_requests (pos 3) (omega arith) (asks a) (asks b) false false
  four (a ∷ b ∷ c ∷ []) = by_requests (pos 3) (omega arith) (asks a) (asks b) (asks c) false
  four (a ∷ b ∷ c ∷ d ∷ past) = by_requests (counter_from asks (pos 3) past) (within past) (asks a) (asks b) (asks c) (asks d)

pub by_the_last_four : ByTheLastFour
by_the_last_four xs c three some =
    (run_counts xs c).level some
    ∙ ap low (counter_is_a_fold xs c)
    ∙ ap (λ (z : ℤ). low (counter_from asked z (history xs c))) three
    ∙ four asked (history xs c)
