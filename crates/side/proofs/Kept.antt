-- A tick keeps the timing side of a state we accept as such a state has it, and power-up gives one. Assumes nothing.
use Prim.Native.Nat.{ℕ, ◌+◌, ◌≤◌}
use mathlib.Core.Path.{◌≡◌, refl, sym, subst, ◌∙◌}
use mathlib.Core.Bool.{Bool, true, not, ◌&&◌, cond}
use mathlib.Core.List.{List}
use native.Mathlib.Omega.{arith}
use lib.Dec.{ltb}
use Rattle.laws.specs.Clock.{CanTick}
use Rattle.laws.proofs.Choice.{either, by_test}
use Rattle.schedule.specs.Kind.{Kind, known, kind_of, last_cycle, last_line}
use Rattle.schedule.proofs.Places.{last_least}
use Rattle.schedule.specs.Diagram.{happens, line_begins, mcbase_step, first_phase, second_phase, mc_load}
use Rattle.registers.specs.declared.Controls.{Controls}
use Rattle.timing.specs.Beam.{bad_line, next_cycle}
use Rattle.timing.proofs.Kept.{cycle_low, cycle_high, turned_kind, turned_cycle, turned_raster, turned_latch, turned_bad, turned_rising, fresh_kind, fresh_cycle, fresh_raster}
use Rattle.raster.specs.declared.Swept.{Swept}
use Rattle.raster.specs.Frame.{swept}
use Rattle.raster.proofs.Laws.{raster_kept}
use Rattle.sprites.specs.declared.Sprites.{Sprites}
use Rattle.sprites.specs.Fine.{FineSprites}
use Rattle.sprites.proofs.Kept.{fine_mcbase, fine_first, fine_second, fine_load, fine_fetched, fine_fresh}
use Rattle.arbitration.specs.declared.Bus.{Bus}
use Rattle.arbitration.specs.Bus.{Counted, clock_on, clocked, arbitrated, aec_after, low, lost_after, counted}
use Rattle.arbitration.proofs.Kept.{aec_kept, clock_on_range, arbitrated_aec, arbitrated_clock, clocked_aec, clocked_clock, counted_aec, counted_clock, lost_most, lost_begun, fresh_aec, fresh_clock, fresh_lost}
use Rattle.rows.specs.Pending.{Pends}
use Rattle.rows.specs.Fine.{FineRows}
use Rattle.rows.proofs.Kept.{rows_kept}
use Rattle.rows.proofs.Kept as Rows
use Rattle.rows.proofs.Laws.{pending_small}
use Rattle.side.specs.declared.Side.{Side}
use Rattle.side.specs.Fine.{FineSide}
use Rattle.side.specs.Phases.{step_at, first_at, second_at, load_at, phased, slot_moved}
use Rattle.side.specs.Turn.{fresh_side, turned}

-- a change in its cycle only
at_cycle : (b : Bool) {s t : Sprites} → (FineSprites s → FineSprites t) → FineSprites s → FineSprites (cond b t s)
at_cycle b keeps h = either FineSprites b (keeps h) h

phased_kept : (k : Kind) (cycle raster : ℕ) (my : List ℕ) (enable yexp : ℕ) {s : Sprites} → FineSprites s → FineSprites (phased k cycle raster my enable yexp s)
unfolding phased step_at first_at second_at load_at
phased_kept k cycle raster my enable yexp h =
    at_cycle (happens (mc_load k) cycle) (fine_load raster my enable)
    (at_cycle (happens (second_phase k) cycle) (fine_second raster my enable yexp)
    (at_cycle (happens (first_phase k) cycle) (fine_first raster my enable yexp)
    (at_cycle (happens mcbase_step cycle) fine_mcbase h)))

slot_kept : (pointing fetching : Bool) (n : ℕ) {s : Sprites} → FineSprites s → FineSprites (slot_moved pointing fetching n s)
unfolding slot_moved
slot_kept pointing fetching n h = either FineSprites pointing (fine_fetched n 1 h) (either FineSprites fetching (fine_fetched n 2 h) h)

module _ (b : Bus) (begins asked : Bool) where
  abbrev bus_after : Bus
  bus_after = counted begins (arbitrated (clocked 1 b) asked)

  bus_aec : Counted b.aec → Counted bus_after.aec
  bus_aec h = rw (counted_aec (arbitrated (clocked 1 b) asked) begins, arbitrated_aec (clocked 1 b) asked, clocked_aec b) (aec_kept b.aec asked h)

  bus_clock : bus_after.clock ≡ clock_on 1 b.clock
  bus_clock = counted_clock (arbitrated (clocked 1 b) asked) begins ∙ arbitrated_clock (clocked 1 b) asked ∙ clocked_clock b

  bus_lost : bus_after.lost ≡ lost_after begins (low (aec_after b.aec asked)) b.lost
  unfolding counted arbitrated clocked
  bus_lost = refl

-- a line has lost no more cycles than it had
lost_kept : (k : Kind) (c : ℕ) (taken : Bool) (lost : ℕ) → lost ≤ c → lost_after (happens line_begins (next_cycle k c)) taken lost ≤ next_cycle k c
unfolding next_cycle happens
lost_kept k c taken lost h =
    by_test (λ (n : ℕ). lost_after (happens line_begins n) taken lost ≤ n) (ltb c (last_cycle k))
    (λ e. omega (arith, h, lost_most (happens line_begins (c + 1)) taken lost)) (λ e. lost_begun taken lost)

module _ (g : Controls) (s : Side) where
  -- no tick changes the kind
  pub side_kind : (turned g s).side.beam.kind ≡ s.beam.kind
  unfolding turned
  side_kind = turned_kind s.beam _ _ _ _ _ _ _ _

  pub side_cycle : (turned g s).side.beam.cycle ≡ next_cycle (kind_of s.beam.kind) s.beam.cycle
  unfolding turned
  side_cycle = turned_cycle s.beam _ _ _ _ _ _ _ _

  -- what the line and the frame do in the tick
  abbrev pub sweep : Swept
  sweep = swept (kind_of s.beam.kind) s.frame s.irq (next_cycle (kind_of s.beam.kind) s.beam.cycle) s.beam.raster g.compare g.den s.beam.latch

  pub side_raster : (turned g s).side.beam.raster ≡ sweep.raster
  unfolding turned
  side_raster = turned_raster s.beam _ _ _ _ _ _ _ _

  pub side_latch : (turned g s).side.beam.latch ≡ sweep.kept
  unfolding turned
  side_latch = turned_latch s.beam _ _ _ _ _ _ _ _

  -- the live bad line, and its rise
  pub side_bad : (turned g s).side.beam.bad ≡ bad_line sweep.line g.yscroll sweep.latch
  unfolding turned
  side_bad = turned_bad s.beam _ _ _ _ _ _ _ _

  pub side_rising : (turned g s).side.beam.rising ≡ (bad_line sweep.line g.yscroll sweep.latch && not s.beam.bad)
  unfolding turned
  side_rising = turned_rising s.beam _ _ _ _ _ _ _ _

  pub side_frame : (turned g s).side.frame ≡ sweep.frame
  unfolding turned
  side_frame = refl

  pub side_clock : (turned g s).side.bus.clock ≡ clock_on 1 s.bus.clock
  unfolding turned
  side_clock = bus_clock s.bus _ _

  pub side_kept : FineSide s → CanTick s.bus.clock → FineSide (turned g s).side
  unfolding turned
  side_kept h t =
      let k = kind_of s.beam.kind in
      record {
        kind = rw side_kind h.kind;
        first = subst (λ (n : ℕ). 1 ≤ n) (sym side_cycle) (cycle_low k s.beam.cycle);
        last = rw side_kind (subst (λ (n : ℕ). n ≤ last_cycle k) (sym side_cycle) (cycle_high k s.beam.cycle));
        raster = rw side_kind (subst (λ (n : ℕ). n ≤ last_line k) (sym side_raster) (raster_kept k s.frame s.irq _ s.beam.raster _ _ _ h.raster));
        aec = bus_aec s.bus _ _ h.aec;
        rows = subst (λ (n : ℕ). FineRows n (turned g s).side.rows) (sym side_cycle) (rows_kept k s.beam.cycle _ _ _ s.rows h.last h.rows);
        sprites = slot_kept _ _ _ (phased_kept k _ _ _ _ _ h.sprites);
        place = pending_small _ _ s.pending h.place;
        clock = rw (bus_clock s.bus _ _) (clock_on_range s.bus.clock t);
        lost = subst (λ (n : ℕ). (turned g s).side.bus.lost ≤ n) (sym side_cycle) (rw (bus_lost s.bus _ _) (lost_kept k s.beam.cycle _ s.bus.lost h.lost));
      }

-- a side that differs only in what FineSide does not look at, and in sprites and a pending place that are fine themselves
pub side_same : {s t : Side}
    → t.beam ≡ s.beam
    → t.bus ≡ s.bus
    → t.rows.vc ≡ s.rows.vc
    → t.rows.vcbase ≡ s.rows.vcbase
    → t.rows.rc ≡ s.rows.rc
    → t.rows.vmli ≡ s.rows.vmli
    → FineSprites t.sprites
    → Pends t.pending.place
    → FineSide s
    → FineSide t
side_same beam bus vc vcbase rc vmli sprites place h =
    record {
      kind = rw beam h.kind;
      first = rw beam h.first;
      last = rw beam h.last;
      raster = rw beam h.raster;
      aec = rw bus h.aec;
      rows = record { vc = rw vc h.rows.vc; vcbase = rw vcbase h.rows.vcbase; rc = rw rc h.rows.rc; vmli = rw (vmli, beam) h.rows.vmli };
      sprites = sprites;
      place = place;
      clock = rw bus h.clock;
      lost = rw (bus, beam) h.lost;
    }

pub fresh_fine : (kind : ℕ) → known kind ≡ true → FineSide (fresh_side kind)
unfolding fresh_side
fresh_fine kind e =
    record {
      kind = rw (fresh_kind kind) e;
      first = omega (arith, fresh_cycle kind, last_least (kind_of kind));
      last = rw (fresh_kind kind) (omega (arith, fresh_cycle kind));
      raster = rw (fresh_kind kind) (omega (arith, fresh_raster kind));
      aec = fresh_aec;
      rows = Rows.fresh_fine _;
      sprites = fine_fresh;
      place = tt;
      clock = fresh_clock;
      lost = rw fresh_lost (omega arith);
    }
