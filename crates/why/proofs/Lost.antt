-- The cycles lost on a line are those of its ticks after which AEC is low. Assumes nothing.
use Prim.Native.Nat.{ℕ, ◌+◌, ◌<◌}
use mathlib.Core.Path.{◌≡◌, refl, sym, ◌∙◌, ap}
use mathlib.Core.Bool.{Bool, true, false, cond, true≢false}
use mathlib.Core.List.{List, [], ◌∷◌}
use native.Mathlib.Omega.{arith}
use lib.Dec.{eqb, ltb}
use lib.ListN.{length}
use Rattle.laws.proofs.Choice.{either}
use Rattle.memory.specs.Lent.{Host}
use Rattle.schedule.specs.Kind.{kind_of, last_cycle}
use Rattle.schedule.specs.Diagram.{happens, line_begins}
use Rattle.timing.specs.Beam.{next_cycle, beam_turned}
use Rattle.timing.proofs.Kept.{cycle_wraps, fresh_kind, fresh_cycle}
use Rattle.arbitration.specs.Bus.{lost_after}
use Rattle.arbitration.specs.Bus as Buses
use Rattle.std.specs.Prelude.{Option, None, Some}
use Rattle.side.specs.Turn.{fresh_side, turned}
use Rattle.chip.specs.declared.Chip.{Chip}
use Rattle.chip.specs.declared.Answer.{Answer}
use Rattle.chip.specs.Chip.{powered}
use Rattle.chip.specs.Accept.{state_refusal}
use Rattle.world.specs.Tick.{tick_world, tick_of}
use Rattle.calls.specs.Calls.{cycles_lost, is_expand, file_written, expand_at, register_written, compares_by, control_stored, control1_written, control2_written, controls_placed, late_at, late_taken}
use Rattle.artwork.specs.Runs.{Call, tick, ticks, write, expand, compares, control_1, control_2, place_controls, late, done}
use Rattle.why.specs.Why.{adds, history, after}
use Rattle.why.specs.Lost.{this_line, low_after, CountsTheLine, CountsFromPowerUp}
use Rattle.why.proofs.History.{along}
use Rattle.why.proofs.Why.{loses, tick_same, ticks_same, only_ticks_touch_the_bus}

-- ---- the number as a fold over the history

abbrev begins : Chip → Bool
begins t = happens line_begins t.side.beam.cycle

unfoldable pub lost_from : ℕ → List Chip → ℕ
lost_from start [] = start
lost_from start (t ∷ past) = lost_after (begins t) t.side.bus.aeclow (lost_from start past)

-- from any state, whatever the calls
pub lost_is_a_fold : (xs : List Call) (c : Chip) → (after xs c).side.bus.lost ≡ lost_from c.side.bus.lost (history xs c)
unfolding lost_from
lost_is_a_fold xs c =
    along (λ (past : List Chip) (d : Chip). d.side.bus.lost ≡ lost_from c.side.bus.lost past)
    (λ h past d p. loses h d ∙ ap (lost_after (begins (tick_of h d)) (tick_of h d).side.bus.aeclow) p)
    (λ x past d none p. rw (only_ticks_touch_the_bus x d none) p)
    [] xs c refl

-- ---- the beam, of which only an accepted tick moves cycle and kind

abbrev SameBeam : Chip → Answer → Type 0
SameBeam c a = a.chip.side.beam ≡ c.side.beam

late_beam : (c : Chip) (byte : ℕ) (p : Option ℕ) → (late_at c byte p).side.beam ≡ c.side.beam
late_beam c byte None = refl
late_beam c byte (Some p) = refl

only_ticks_move_the_beam : (x : Call) (c : Chip) → adds x c [] ≡ [] → SameBeam c (done x c)
unfolding done adds register_written file_written expand_at compares_by control1_written control2_written control_stored controls_placed late_taken
only_ticks_move_the_beam (tick h) c e = ap (λ (d : Chip). d.side.beam) (tick_same h c [] e).1
only_ticks_move_the_beam (ticks h n) c e = ap (λ (d : Chip). d.side.beam) (ticks_same h n c e)
only_ticks_move_the_beam (write addr v) c e = either (λ (d : Chip). d.side.beam ≡ c.side.beam) (is_expand addr) refl refl
only_ticks_move_the_beam (expand v) c e = refl
only_ticks_move_the_beam compares c e = refl
only_ticks_move_the_beam (control_1 v) c e = refl
only_ticks_move_the_beam (control_2 v) c e = refl
only_ticks_move_the_beam (place_controls ctrl1 ctrl2 line) c e = either (SameBeam c) (ltb 511 line) refl refl
only_ticks_move_the_beam (late byte) c e = either (SameBeam c) (eqb (state_refusal c) 0) (late_beam c byte c.side.pending.place) refl

tick_cycle : (h : Host) (c : Chip) → (tick_of h c).side.beam.cycle ≡ next_cycle (kind_of c.side.beam.kind) c.side.beam.cycle
unfolding tick_world turned beam_turned
tick_cycle h c = refl

-- ---- the line's own count

abbrev AtLast : Chip → Type 0
AtLast c = c.side.beam.cycle ≡ last_cycle (kind_of c.side.beam.kind)

-- from the last cycle a line begins
begins_next : (h : Host) (c : Chip) → AtLast c → begins (tick_of h c) ≡ true
unfolding happens
begins_next h c e = rw (tick_cycle h c, cycle_wraps (kind_of c.side.beam.kind) c.side.beam.cycle (omega (arith, e)))

-- before the first tick at the last cycle, after it the count
abbrev Counted : List Chip → Chip → Type 0
Counted [] c = AtLast c
Counted (t ∷ past) c = c.side.bus.lost ≡ low_after (this_line (t ∷ past))

by_begin : (b low : Bool) (t : Chip) (lost : ℕ) (line : List Chip) → t.side.bus.aeclow ≡ low → (b ≡ false → lost ≡ low_after line)
    → lost_after b low lost ≡ low_after (cond b (t ∷ []) (t ∷ line))
unfolding lost_after low_after
by_begin true low t lost line e f = rw e
by_begin false low t lost line e f = rw (e, f refl)

counted_tick : (h : Host) (past : List Chip) (c : Chip) → Counted past c → Counted (tick_of h c ∷ past) (tick_of h c)
unfolding this_line
counted_tick h past c p =
    loses h c
    ∙ by_begin (begins (tick_of h c)) (tick_of h c).side.bus.aeclow (tick_of h c) c.side.bus.lost (this_line past) refl (before past p)
  where
    before : (past : List Chip) → Counted past c → begins (tick_of h c) ≡ false → c.side.bus.lost ≡ low_after (this_line past)
    before [] q f = let z : ◌≡◌ {A = Bool} true false = sym (begins_next h c q) ∙ f in absurd (true≢false z)
    before (t ∷ past) q f = q

counted_on : (x : Call) (past : List Chip) (c : Chip) → adds x c [] ≡ [] → Counted past c → Counted past (done x c).chip
counted_on x [] c none p = rw (only_ticks_move_the_beam x c none) p
counted_on x (t ∷ past) c none p = rw (only_ticks_touch_the_bus x c none) p

pub counts_the_line : CountsTheLine
unfolding cycles_lost
counts_the_line xs c e some = ending (history xs c) (along Counted counted_tick counted_on [] xs c e) some
  where
    ending : (past : List Chip) → Counted past (after xs c) → 0 < length past → (after xs c).side.bus.lost ≡ low_after (this_line past)
    ending [] p l = absurd (omega arith)
    ending (t ∷ past) p l = p

powered_at_last : (kind : ℕ) → AtLast (powered kind)
unfolding powered fresh_side
powered_at_last kind = rw (fresh_kind kind) (fresh_cycle kind)

powered_lost : (kind : ℕ) → (powered kind).side.bus.lost ≡ 0
unfolding powered fresh_side Buses.fresh
powered_lost kind = refl

-- with no tick the number is the one that was there
no_tick : (start : ℕ) (past : List Chip) (c : Chip) → start ≡ 0 → c.side.bus.lost ≡ lost_from start past → Counted past c → c.side.bus.lost ≡ low_after (this_line past)
unfolding lost_from low_after this_line
no_tick start [] c none f p = f ∙ none
no_tick start (t ∷ past) c none f p = p

pub counts_from_power_up : CountsFromPowerUp
unfolding cycles_lost
counts_from_power_up kind xs =
    no_tick (powered kind).side.bus.lost (history xs (powered kind)) (after xs (powered kind)) (powered_lost kind) (lost_is_a_fold xs (powered kind))
    (along Counted counted_tick counted_on [] xs (powered kind) (powered_at_last kind))
