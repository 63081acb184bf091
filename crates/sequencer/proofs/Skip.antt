-- Ticks that are counted first and done once are the ticks done one by one. Assumes nothing.
use Prim.Native.Nat.{ℕ, zero, suc, ◌+◌, ◌-◌, ◌<◌, ◌≤◌}
use mathlib.Core.Path.{◌≡◌, refl, sym, ◌∙◌, ap}
use mathlib.Core.Bool.{Bool, true, false, not, ◌&&◌, ◌||◌, cond}
use mathlib.Core.List.{List}
use native.Mathlib.Omega.{arith}
use lib.Dec.{eqb, leb, ltb}
use lib.IntN.{ℤ, pos, negsuc}
use borrow.Author.Tests.{leb-true, le-leb, ltb-true, ltb-false, lt-ltb, le-ltb, not-true, not-false}
use Rattle.laws.specs.Clock.{InRange, CanTick}
use Rattle.laws.proofs.Choice.{left, right, by_test}
use Rattle.memory.specs.Lent.{Host}
use Rattle.registers.specs.declared.Registers.{Registers}
use Rattle.registers.specs.Control.{YSCROLL, mode_number, timed}
use Rattle.schedule.specs.Kind.{kind_of}
use Rattle.schedule.specs.Machinery.Stretches.{before_graphics}
use Rattle.schedule.proofs.Places.{last_most}
use Rattle.timing.specs.Beam.{next_cycle}
use Rattle.timing.proofs.Kept.{cycle_on}
use Rattle.arbitration.specs.Bus.{clock_on}
use Rattle.arbitration.proofs.Kept.{clock_on_lem}
use Rattle.side.specs.declared.Side.{Side}
use Rattle.side.specs.declared.Turned.{Turned}
use Rattle.side.specs.Machinery.Leap.{only_counts, leapt}
use Rattle.side.proofs.Counts.{Counts, counts, quiet, quiet_turn, counts_later, counts_on, quiet_later, leap_none}
use Rattle.rows.proofs.Laws.{limit_small}
use Rattle.side.proofs.Kept.{side_cycle}
use Rattle.access.specs.declared.Read.{Read}
use Rattle.access.specs.declared.Reads.{Reads}
use Rattle.access.specs.Reads.{told}
use Rattle.picture.specs.declared.Pen.{Pen}
use Rattle.picture.specs.Pen.{pen_after}
use Rattle.picture.specs.Reads.{reads_by}
use Rattle.picture.proofs.Laws.{no_slot, changing_over}
use Rattle.picture.proofs.Plain.{Plain, plain_matrix, pen_again, reads_again}
use Rattle.engine.specs.declared.Core.{Core}
use Rattle.world.specs.World.{World, chip_of}
use Rattle.sequencer.specs.Machinery.Parts.{Ready, Held, Roomy}
use Rattle.world.specs.Tick.{tick_world, tick_reads}
use Rattle.sequencer.specs.Machinery.Skip.{skippable_by, skipped, world_later}
use Rattle.chip.proofs.Fine.{accepted_fine}
use Rattle.sequencer.proofs.Runs.{ready}
use Rattle.sequencer.proofs.Staged.{Parting, tickable_now, further}

-- a tick that leaves only its own byte and what it counts
pub record Able (g : Registers) (w : World) : Type 0 where
  pub counts : Counts (timed g).yscroll w.side
  pub changing : w.pen.changing ≡ false
  pub merges : (w.side.border.disabled || not w.side.rows.display || not (eqb w.side.rows.rc 0)) ≡ true

pub able : (g : Registers) (c : Core) (w : World) → w.side ≡ c.side → w.pen ≡ c.pen
    → skippable_by g c ≡ true → 18 ≤ w.side.beam.cycle → w.side.beam.cycle ≤ 53 → Able g w
unfolding skippable_by timed
able g c w s p e l h =
    let a = only_counts (YSCROLL g.ctrl1) w.side in
    let b = not w.pen.changing in
    let d = w.side.border.disabled || not w.side.rows.display || not (eqb w.side.rows.rc 0) in
    let e' : (a && b && d) ≡ true = rw (s, p) e in
    let two = left (a && b) d e' in
    record { counts = counts (YSCROLL g.ctrl1) w.side (left a b two) l h; changing = not-true w.pen.changing (right a b two); merges = right (a && b) d e' }

module _ (h : Host) (g : Registers) where
  -- what the tick leaves, from what the timing side's step gave
  abbrev left_by : World → Pen → Turned → World
  left_by w p q = record {
    side = q.side;
    pen = pen_after w.matrix q.orders q.side.bus.clock p (mode_number g.ctrl1 g.ctrl2) g.ptrs h.ram h.rom h.bank;
    matrix = w.matrix;
    pointers = w.pointers;
    bytes = w.bytes;
    words = w.words;
  }

  abbrev quiet_world : World → World
  quiet_world w = left_by w w.pen (quiet (timed g) w.side)

  plain_orders : {w : World} → Able g w → Plain (quiet (timed g) w.side).orders
  plain_orders e = record { graphics = refl; waiting = refl; fills = refl; merges = e.merges }

  quiet_world_lem : (w : World) → Able g w → quiet_world w ≡ tick_world h g w
  unfolding tick_world
  quiet_world_lem w e =
      let q = quiet (timed g) w.side in
      rw (
        ← quiet_turn (timed g) w.side e.counts,
        ← no_slot w.pointers w.bytes w.words q.orders g.ptrs h.ram h.rom h.bank refl refl,
        plain_matrix w.matrix q.orders q.side.bus.clock w.pen (plain_orders e) g.ptrs h.ram h.rom h.colour h.bank,
      )

  able_later : {w : World} (k : ℕ) → Able g w → w.side.beam.cycle + k ≤ 53 → Able g (world_later k w)
  able_later {w} k e l = record { counts = counts_later (timed g) w.side k e.counts l; changing = e.changing; merges = e.merges }

  able_quiet : {w : World} → Able g w → w.side.beam.cycle + 1 ≤ 53 → Able g (quiet_world w)
  able_quiet {w} e l = record { counts = counts_on (timed g) w.side e.counts l; changing = changing_over _ _ _ _ _ _ _ _ _; merges = e.merges }

  able_on : {w : World} → Able g w → w.side.beam.cycle + 1 ≤ 53 → Able g (tick_world h g w)
  able_on {w} e l = rw (← quiet_world_lem w e) (able_quiet e l)

  next_cycle_lem : {w : World} → Able g w → next_cycle (kind_of w.side.beam.kind) w.side.beam.cycle ≡ w.side.beam.cycle + 1
  next_cycle_lem {w} e = cycle_on (kind_of w.side.beam.kind) w.side.beam.cycle (omega (arith, e.counts.high))

  -- a tick and k counted, or one more counted, and then a tick
  step : (w : World) (k : ℕ) → Able g w → InRange w.side.bus.clock → w.side.beam.cycle + suc k ≤ 53
      → tick_world h g (world_later k (tick_world h g w)) ≡ tick_world h g (world_later (suc k) w)
  step w k e r l =
      let q = quiet (timed g) w.side in
      let later = quiet (timed g) (leapt (suc k) w.side) in
      let ticked = quiet_world w in
      let near : q.side.beam.cycle + k ≤ 53 = rw (next_cycle_lem e) (omega (arith, l)) in
      let first = able_later k (able_quiet e (omega (arith, l))) near in
      let last = able_later (suc k) e l in
      let turns : left_by w ticked.pen (quiet (timed g) (leapt k q.side)) ≡ left_by w ticked.pen later = ap (left_by w ticked.pen) (quiet_later (timed g) w.side k e.counts r) in
      let pens : left_by w ticked.pen later ≡ left_by w w.pen later =
      ap (λ (p : Pen). record { side = later.side; pen = p; matrix = w.matrix; pointers = w.pointers; bytes = w.bytes; words = w.words })
      (pen_again w.matrix later.orders q.orders later.side.bus.clock q.side.bus.clock w.pen (mode_number g.ctrl1 g.ctrl2) g.ptrs h.ram h.rom h.bank (plain_orders last) (plain_orders e) refl e.changing) in
      rw (← quiet_world_lem w e)
      (sym (quiet_world_lem (world_later k ticked) first) ∙ turns ∙ pens ∙ quiet_world_lem (world_later (suc k) w) last)

  -- and the tick that is done reads alike
  abbrev read_by : World → Pen → Turned → List Read
  read_by w p q = reads_by (kind_of w.side.beam.kind) w.matrix w.pointers q.orders q.side.bus.clock p (mode_number g.ctrl1 g.ctrl2) g.ptrs h.ram h.rom h.bank

  quiet_reads : (w : World) → Able g w → read_by w w.pen (quiet (timed g) w.side) ≡ tick_reads h g w
  unfolding tick_reads
  quiet_reads w e = rw (← quiet_turn (timed g) w.side e.counts)

  step_reads : (w : World) (k : ℕ) → Able g w → InRange w.side.bus.clock → w.side.beam.cycle + suc k ≤ 53
      → tick_reads h g (world_later k (tick_world h g w)) ≡ tick_reads h g (world_later (suc k) w)
  step_reads w k e r l =
      let q = quiet (timed g) w.side in
      let later = quiet (timed g) (leapt (suc k) w.side) in
      let ticked = quiet_world w in
      let near : q.side.beam.cycle + k ≤ 53 = rw (next_cycle_lem e) (omega (arith, l)) in
      let first = able_later k (able_quiet e (omega (arith, l))) near in
      let last = able_later (suc k) e l in
      let turns : read_by w ticked.pen (quiet (timed g) (leapt k q.side)) ≡ read_by w ticked.pen later = ap (read_by w ticked.pen) (quiet_later (timed g) w.side k e.counts r) in
      let pens : read_by w ticked.pen later ≡ read_by w w.pen later =
      reads_again (kind_of w.side.beam.kind) w.matrix w.pointers later.orders q.orders later.side.bus.clock q.side.bus.clock w.pen (mode_number g.ctrl1 g.ctrl2) g.ptrs h.ram h.rom h.bank (plain_orders last) (plain_orders e) refl e.changing in
      rw (← quiet_world_lem w e)
      (sym (quiet_reads (world_later k ticked) first) ∙ turns ∙ pens ∙ quiet_reads (world_later (suc k) w) last)

  module _ (w : World) where
    tick_cycle : (tick_world h g w).side.beam.cycle ≡ next_cycle (kind_of w.side.beam.kind) w.side.beam.cycle
    unfolding tick_world
    tick_cycle = side_cycle _ w.side

  -- none counted
  later_none : {w : World} → Held h g w → world_later 0 w ≡ w
  later_none {w} held =
      let f = (accepted_fine (chip_of g w) held.fine).side in
      ap (λ (s : Side). record { side = s; pen = w.pen; matrix = w.matrix; pointers = w.pointers; bytes = w.bytes; words = w.words })
      (leap_none w.side f.clock (omega (arith, f.rows.vc)) (omega (arith, f.rows.vmli, limit_small w.side.beam.cycle (omega (arith, f.last, last_most (kind_of w.side.beam.kind))))))

-- how many are counted before the one that is done: fewer than are left, and only where they may be
module _ (able' : Bool) (cycle left' : ℕ) where
  pub skips_none : not (able' && leb 18 cycle && leb cycle 52) ≡ true → 0 ≡ skipped able' cycle left'
  unfolding skipped
  skips_none t = rw (not-true (able' && leb 18 cycle && leb cycle 52) t)

  module _ (t : not (able' && leb 18 cycle && leb cycle 52) ≡ false) where
    pub skips_high : cycle ≤ 52
    skips_high = leb-true cycle 52 (right (able' && leb 18 cycle) (leb cycle 52) (not-false (able' && leb 18 cycle && leb cycle 52) t))

    pub skips_most : 53 - cycle < left' → 53 - cycle ≡ skipped able' cycle left'
    unfolding skipped
    skips_most u = rw (not-false (able' && leb 18 cycle && leb cycle 52) t, lt-ltb (53 - cycle) left' u)

    pub skips_rest : left' ≤ 53 - cycle → left' - 1 ≡ skipped able' cycle left'
    unfolding skipped
    skips_rest u = rw (not-false (able' && leb 18 cycle && leb cycle 52) t, le-ltb (53 - cycle) left' u)

  pub skipped_less : 0 < left' → skipped able' cycle left' < left'
  unfolding skipped
  skipped_less l =
      by_test (λ (k : ℕ). k < left') (able' && leb 18 cycle && leb cycle 52)
      (λ t. by_test (λ (k : ℕ). k < left') (ltb (53 - cycle) left') (λ u. ltb-true (53 - cycle) left' u) (λ u. omega arith))
      (λ t. l)

  pub skipped_where : 0 < skipped able' cycle left' → (able' ≡ true) × ((18 ≤ cycle) × (cycle + skipped able' cycle left' ≤ 53))
  unfolding skipped
  skipped_where =
      by_test (λ (k : ℕ). 0 < k → (able' ≡ true) × ((18 ≤ cycle) × (cycle + k ≤ 53))) (able' && leb 18 cycle && leb cycle 52)
      (λ t l.
      let two = left (able' && leb 18 cycle) (leb cycle 52) t in
      let high : cycle ≤ 52 = leb-true cycle 52 (right (able' && leb 18 cycle) (leb cycle 52) t) in
      (left able' (leb 18 cycle) two, (leb-true 18 cycle (right able' (leb 18 cycle) two), few high)))
      (λ t l. absurd (omega arith))
    where
      few : cycle ≤ 52 → cycle + cond (ltb (53 - cycle) left') (53 - cycle) (left' - 1) ≤ 53
      few h = by_test (λ (k : ℕ). cycle + k ≤ 53) (ltb (53 - cycle) left') (λ u. omega arith) (λ u. let v : left' ≤ 53 - cycle = ltb-false (53 - cycle) left' u in omega arith)

-- the tick after them has a graphics access as the one before them
pub lit_later : (c k : ℕ) → (0 < k → (18 ≤ c) × (c + k ≤ 53)) → before_graphics c ≡ true → before_graphics (c + k) ≡ true
unfolding before_graphics
lit_later c zero f e = let q : c + 0 ≡ c = omega arith in rw q e
lit_later c (suc k) f e =
    let b = f (omega arith) in
    let low : 18 ≤ c = b.0 in
    let high : c + suc k ≤ 53 = b.1 in
    rw (le-leb 15 (c + suc k) (omega arith), le-leb (c + suc k) 54 (omega arith))

room_later : (k m : ℕ) (z : ℤ) → k < m → Roomy m z → CanTick (clock_on k z)
room_later k m (pos n) l r = rw (clock_on_lem k n) (omega arith)
room_later k m (negsuc n) l r = absurd r

module _ (h : Host) (g : Registers) (goes : ℕ → Bool) (w₀ : World) (n : ℕ) where
  pub ready_later : {w : World} {i : ℕ} {r : Reads} (k : ℕ) → Parting h g goes w₀ n w i r → i + k < n → Ready (world_later k w)
  ready_later {w} {i} k p l =
      let r = ready p.going.held (tickable_now h g goes w₀ n p (omega arith)) in
      record {
        clock = room_later k (n - i) w.side.bus.clock (omega arith) p.room;
        forced = r.forced;
        lost = r.lost;
      }

  -- k counted and one done, on from a state of the run
  pub further_by : (k : ℕ) {w v : World} {i : ℕ} {r r' : Reads} → Parting h g goes w₀ n w i r → i + k < n
      → (0 < k → Able g w × (w.side.beam.cycle + k ≤ 53))
      → v ≡ tick_world h g (world_later k w) → r' ≡ told (tick_reads h g (world_later k w))
      → Parting h g goes w₀ n v (i + 1 + k) r'
  further_by zero {w} {v} {i} p l f e s =
      let q : i + 1 + 0 ≡ i + 1 = omega arith in
      let none = later_none h g p.going.held in
      rw q (further h g goes w₀ n p (omega arith) (e ∙ ap (tick_world h g) none) (s ∙ ap (λ (u : World). told (tick_reads h g u)) none))
  further_by (suc k) {w} {v} {i} p l f e s =
      let able' = (f (omega arith)).0 in
      let high : w.side.beam.cycle + suc k ≤ 53 = (f (omega arith)).1 in
      let x = tick_world h g w in
      let on = further h g goes w₀ n p (omega arith) refl refl in
      let range = (accepted_fine (chip_of g w) p.going.held.fine).side.clock in
      let next : x.side.beam.cycle ≡ w.side.beam.cycle + 1 = tick_cycle h g w ∙ next_cycle_lem h g able' in
      let q : i + 1 + suc k ≡ i + 1 + 1 + k = omega arith in
      rw q
      (further_by k on (omega arith) (λ z. (able_on h g able' (omega arith), rw next (omega arith))) (e ∙ sym (step h g w k able' range high)) (s ∙ ap told (sym (step_reads h g w k able' range high))))

-- what the code worked out of this
module _ (able' : Bool) (cycle i n : ℕ) {k : ℕ} (e : k ≡ skipped able' cycle (n - i)) where
  pub few : i < n → i + k < n
  few l = let s = skipped_less able' cycle (n - i) (omega arith) in omega (arith, s, e)

  pub place : 0 < k → (18 ≤ cycle) × (cycle + k ≤ 53)
  place l = rw e (skipped_where able' cycle (n - i) (rw e at l)).1

pub may : (g : Registers) (c : Core) (w : World) (able' : Bool) (i n : ℕ) {k : ℕ} → w.side ≡ c.side → w.pen ≡ c.pen
    → able' ≡ skippable_by g c → k ≡ skipped able' w.side.beam.cycle (n - i) → 0 < k → Able g w × (w.side.beam.cycle + k ≤ 53)
may g c w able' i n {k} s p t e l =
    let sure = (skipped_where able' w.side.beam.cycle (n - i) (rw e at l)).0 in
    let spot = place able' w.side.beam.cycle i n e l in
    let high : w.side.beam.cycle + k ≤ 53 = spot.1 in
    (able g c w s p (sym t ∙ sure) spot.0 (omega arith), high)
