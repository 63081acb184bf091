-- What a tick and a run report of their reads: one or two, and none where they are refused; the reasons are the timing side's. Assumes nothing.
use Prim.Native.Nat.{ℕ, zero, suc, ◌≤◌}
use mathlib.Core.Path.{◌≡◌, refl, sym, ap, ◌∙◌}
use mathlib.Core.Bool.{Bool, true, false, cond}
use mathlib.Core.List.{List, [], ◌∷◌, map}
use mathlib.Core.Logic.{◌⊎◌, inl, inr}
use native.Mathlib.Omega.{arith}
use lib.Dec.{eqb}
use lib.ListN.{length, length-map}
use borrow.Author.Tests.{ne_eqb}
use Rattle.laws.proofs.Choice.{by_test}
use Rattle.schedule.specs.Kind.{kind_of}
use Rattle.schedule.specs.Diagram.{happens, refresh}
use Rattle.schedule.specs.Reads.{Access, pointer, byte_two, byte_one, byte_zero, refreshing, matrix, graphics, idle, Seen, reason_of, phase, accesses}
use Rattle.schedule.proofs.Accesses.{refresh_accesses, at_most_two, InPhases, in_phases}
use Rattle.memory.specs.Lent.{Host, lent_refusal}
use Rattle.registers.specs.declared.Registers.{Registers}
use Rattle.registers.specs.declared.Controls.{Controls}
use Rattle.registers.specs.Control.{mode_number, timed}
use Rattle.access.specs.declared.Reads.{Reads}
use Rattle.access.specs.Reads.{read, told}
use Rattle.raster.specs.Refresh.{refresh_address}
use Rattle.side.specs.declared.Side.{Side}
use Rattle.side.specs.declared.Turned.{Turned}
use Rattle.side.specs.Turn.{turned}
use Rattle.picture.specs.Reads.{seen_by, spot_of, reads_by}
use Rattle.picture.proofs.Told.{one_or_two}
use Rattle.chip.specs.declared.Chip.{Chip}
use Rattle.chip.specs.declared.Answer.{Answer}
use Rattle.chip.specs.Accept.{accepted}
use Rattle.chip.proofs.Level.{Level}
use Rattle.world.specs.World.{World, world_of}
use Rattle.world.specs.Tick.{tick_reads}
use Rattle.sequencer.specs.Tick.{tickable, tick_refusal, ticked, ticks_from}
use Rattle.sequencer.proofs.Ordered.{follows}
use Rattle.sequencer.proofs.Sides.{tick_taken, tick_late}

-- 02 (viii): at most two
pub reads_at_most_two : (h : Host) (g : Registers) (w : World) → length (tick_reads h g w) ≤ 2
unfolding tick_reads reads_by
reads_at_most_two h g w = rw length-map (at_most_two (kind_of w.side.beam.kind) _ _)

-- 02 (xiv): the accesses whose reads they are: one in the cycle's first phase, and after it one in its second or none
module _ (g : Controls) (s : Side) where
  abbrev pub tick_accesses : List Access
  tick_accesses = accesses (kind_of s.beam.kind) (turned g s).orders.cycle (seen_by (turned g s).orders)

  pub accesses_in_phases : InPhases tick_accesses
  accesses_in_phases = in_phases (kind_of s.beam.kind) _ _ (follows g s).line

once_or_twice : (xs : List Access) → InPhases xs → (length xs ≡ 1) ⊎ (length xs ≡ 2)
once_or_twice xs (inl e) = inl (sym (length-map xs phase) ∙ ap length e)
once_or_twice xs (inr e) = inr (sym (length-map xs phase) ∙ ap length e)

pub reads_once_or_twice : (h : Host) (g : Registers) (w : World) → (length (tick_reads h g w) ≡ 1) ⊎ (length (tick_reads h g w) ≡ 2)
unfolding tick_reads reads_by
reads_once_or_twice h g w = rw length-map (once_or_twice (tick_accesses (timed g) w.side) (accesses_in_phases (timed g) w.side))

-- hence an accepted tick always tells a read: its first has a reason
some : (b : Bool) (x y : ℕ) → 1 ≤ x → 1 ≤ y → 1 ≤ cond b x y
some true x y e f = e
some false x y e f = f

reasoned : (s : Seen) (a : Access) → 1 ≤ reason_of s a
unfolding reason_of
reasoned s pointer = omega arith
reasoned s byte_two = some s.on 2 5 (omega arith) (omega arith)
reasoned s byte_one = some s.on 2 5 (omega arith) (omega arith)
reasoned s byte_zero = some s.on 2 5 (omega arith) (omega arith)
reasoned s matrix = omega arith
reasoned s graphics = some s.moves 4 5 (omega arith) (omega arith)
reasoned s idle = omega arith
reasoned s refreshing = omega arith

at_least_one : (n : ℕ) → (n ≡ 1) ⊎ (n ≡ 2) → 1 ≤ n
at_least_one n (inl e) = omega arith
at_least_one n (inr e) = omega arith

tells : (s : Seen) (f : Access → ℕ) (xs : List Access) → 1 ≤ length xs → 1 ≤ (told (map (λ (a : Access). read (reason_of s a) (f a)) xs)).first.reason
unfolding told
tells s f [] e = absurd (omega arith)
tells s f (x ∷ []) e = reasoned s x
tells s f (x ∷ y ∷ l) e = reasoned s x

pub accepted_tick_reads : (h : Host) (c : Chip) → lent_refusal h ≡ 0 → accepted c ≡ true → tickable c.side.bus.clock ≡ true → 1 ≤ (ticked h c).reads.first.reason
unfolding tick_reads reads_by
accepted_tick_reads h c l e t =
    let accesses = tick_accesses (timed c.regs) c.side in
    rw (tick_taken h c l e t)
    (tells (seen_by (turned (timed c.regs) c.side).orders) _ accesses (at_least_one (length accesses) (once_or_twice accesses (accesses_in_phases (timed c.regs) c.side))))

-- 02 (xiv): a refresh read is the tick's first, at the counter as the tick found it
pub refresh_first : (h : Host) (g : Registers) (w : World) → happens refresh (turned (timed g) w.side).orders.cycle ≡ true
    → (told (tick_reads h g w)).first ≡ read 6 (refresh_address (turned (timed g) w.side).orders.refresh)
unfolding tick_reads reads_by reason_of
refresh_first h g w e = rw (refresh_accesses (kind_of w.side.beam.kind) _ (seen_by (turned (timed g) w.side).orders) e, one_or_two _ refreshing _ matrix) refl

-- 02 (viii): a refused tick reports none
pub refused_reads_none : (h : Host) (c : Chip) → (tick_refusal h c ≡ 0 → ⊥) → (ticked h c).reads ≡ told []
unfolding ticked
refused_reads_none h c e = rw (ne_eqb (tick_refusal h c) 0 e)

silent_refused : (h : Host) (c : Chip) → ((ticked h c).refused ≡ 0 → ⊥) → (ticked h c).reads ≡ told []
unfolding ticked
silent_refused h c =
    by_test (λ (a : Answer). (a.refused ≡ 0 → ⊥) → a.reads ≡ told []) (eqb (tick_refusal h c) 0) (λ t e. absurd (e refl)) (λ t e. refl)

-- nor does a run of any length, refused at its first tick or at a later one
pub refused_run_reads_none : (h : Host) (n : ℕ) (c : Chip) → ((ticks_from h n c).refused ≡ 0 → ⊥) → (ticks_from h n c).reads ≡ told []
unfolding ticks_from
refused_run_reads_none h zero c = λ e. refl
refused_run_reads_none h (suc n) c =
    let before = ticks_from h n c in
    by_test (λ (a : Answer). (a.refused ≡ 0 → ⊥) → a.reads ≡ told []) (eqb before.refused 0) (λ t. silent_refused h before.chip) (λ t. refused_run_reads_none h n c)

-- nor a run of none
pub no_ticks_read_none : (h : Host) (c : Chip) → (ticks_from h 0 c).reads ≡ told []
unfolding ticks_from
no_ticks_read_none h c = refl

-- ---- 02 (viii): whether and for what reason a read occurs is timing side

-- the same reasons in the same order; the addresses are free
abbrev pub SameReasons : Reads → Reads → Type 0
SameReasons x y = (x.first.reason ≡ y.first.reason) × (x.second.reason ≡ y.second.reason)

same_reasons : (s : Seen) (f g : Access → ℕ) (l : List Access)
    → SameReasons (told (map (λ (a : Access). read (reason_of s a) (f a)) l)) (told (map (λ (a : Access). read (reason_of s a) (g a)) l))
unfolding told
same_reasons s f g [] = (refl, refl)
same_reasons s f g (x ∷ []) = (refl, refl)
same_reasons s f g (x ∷ y ∷ l) = (refl, refl)

-- two ticks with the same timing side and timing registers read for the same reasons, whatever else they have
module _ (h k : Host) (g g' : Registers) (w v : World) where
  abbrev turn : Turned
  turn = turned (timed g') v.side

  pub tick_reasons : w.side ≡ v.side → timed g ≡ timed g' → SameReasons (told (tick_reads h g w)) (told (tick_reads k g' v))
  unfolding tick_reads reads_by
  tick_reasons e f =
      rw (e, f)
      (same_reasons (seen_by turn.orders)
      (λ (a : Access). spot_of w.matrix w.pointers turn.orders turn.side.bus.clock w.pen (mode_number g.ctrl1 g.ctrl2) g.ptrs h.ram h.rom h.bank a)
      (λ (a : Access). spot_of v.matrix v.pointers turn.orders turn.side.bus.clock v.pen (mode_number g'.ctrl1 g'.ctrl2) g'.ptrs k.ram k.rom k.bank a)
      (accesses (kind_of v.side.beam.kind) turn.orders.cycle (seen_by turn.orders)))

module _ {a b : Chip} (e : Level a b) where
  pub level_reasons : (h k : Host) → lent_refusal h ≡ 0 → lent_refusal k ≡ 0 → accepted a ≡ true → accepted b ≡ true → SameReasons (ticked h a).reads (ticked k b).reads
  level_reasons h k l m f g = by_clock (tickable a.side.bus.clock) refl
    where
      clocks : tickable b.side.bus.clock ≡ tickable a.side.bus.clock
      clocks = ap (λ (s : Side). tickable s.bus.clock) (sym e.side)

      by_clock : (t : Bool) → tickable a.side.bus.clock ≡ t → SameReasons (ticked h a).reads (ticked k b).reads
      by_clock true t = rw (tick_taken h a l f t, tick_taken k b m g (clocks ∙ t)) (tick_reasons h k a.regs b.regs (world_of a) (world_of b) e.side e.registers)
      by_clock false t = rw (tick_late h a l f t, tick_late k b m g (clocks ∙ t)) (refl, refl)
