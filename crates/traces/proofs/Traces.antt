-- The traces: each computed from the side before its lines, which the run from power-up reaches.
use Prim.Native.Nat.{ℕ}
use mathlib.Core.Path.{◌≡◌, refl, ap, ◌∙◌}
use mathlib.Core.Bool.{cond}
use lib.Dec.{eqb}
use Rattle.side.specs.declared.Side.{Side}
use Rattle.traces.specs.Traces.{begun_of, begun, lines, lines8, row_of, one_of, raster_of, flags_of, latch_of, refresh_of, refresh_reads, bus_of, border_of, TracesOf, Traces, TracesOf8, Traces8}
use Rattle.traces.proofs.Sides.{ticked, before_47, before_50, before_51, before_59, before_66, before_72, before_250, before_312, before8_51, before8_59, reached_47, reached_50, reached_51, reached_59, reached_66, reached_72, reached_250, reached_312, reached8_51, reached8_59}

-- the sides before the traced lines
abbrev known : ℕ → Side
known n =
    cond (eqb n 0) begun
    (cond (eqb n 47) before_47
    (cond (eqb n 50) before_50
    (cond (eqb n 51) before_51
    (cond (eqb n 59) before_59
    (cond (eqb n 66) before_66
    (cond (eqb n 72) before_72
    (cond (eqb n 250) before_250 before_312)))))))

computed : TracesOf known
unfolding ticked
computed =
    record {
      raster_0 = refl;
      interrupt_0 = refl;
      latch_48 = refl;
      raster_51 = refl;
      interrupt_51 = refl;
      border_opens = refl;
      border_closes = refl;
      row_begins = refl;
      row_ends = refl;
      sprite_plain = refl;
      sprite_expanded = refl;
      sprite_ends = refl;
      bus = refl;
      vcbase_312 = refl;
      latch_312 = refl;
      refresh_51 = refl;
      refresh_312 = refl;
      refresh_reads_0 = refl;
      refresh_reads_51 = refl;
      refresh_reads_312 = refl;
    }

seen : {A : Type 0} (see : Side → A) {s t : Side} {e : A} → s ≡ t → see t ≡ e → see s ≡ e
seen see p q = ap see p ∙ q

pub traces : Traces
traces =
    record {
      raster_0 = computed.raster_0;
      interrupt_0 = computed.interrupt_0;
      latch_48 = seen (λ s. latch_of (lines 2 s)) reached_47 computed.latch_48;
      raster_51 = seen (λ s. raster_of (lines 2 s)) reached_50 computed.raster_51;
      interrupt_51 = seen (λ s. flags_of (lines 2 s)) reached_50 computed.interrupt_51;
      border_opens = seen (λ s. border_of (lines 2 s)) reached_50 computed.border_opens;
      border_closes = seen (λ s. border_of (lines 2 s)) reached_250 computed.border_closes;
      row_begins = seen (λ s. row_of (lines 1 s)) reached_59 computed.row_begins;
      row_ends = seen (λ s. row_of (lines 1 s)) reached_66 computed.row_ends;
      sprite_plain = seen (λ s. one_of 0 (lines 2 s)) reached_51 computed.sprite_plain;
      sprite_expanded = seen (λ s. one_of 3 (lines 3 s)) reached_51 computed.sprite_expanded;
      sprite_ends = seen (λ s. one_of 0 (lines 1 s)) reached_72 computed.sprite_ends;
      bus = seen (λ s. bus_of (lines 2 s)) reached_59 computed.bus;
      vcbase_312 = seen (λ s. (row_of (lines 1 s)).vcbase) reached_312 computed.vcbase_312;
      latch_312 = seen (λ s. latch_of (lines 1 s)) reached_312 computed.latch_312;
      refresh_51 = seen (λ s. refresh_of (lines 2 s)) reached_50 computed.refresh_51;
      refresh_312 = seen (λ s. refresh_of (lines 1 s)) reached_312 computed.refresh_312;
      refresh_reads_0 = computed.refresh_reads_0;
      refresh_reads_51 = seen (refresh_reads 63) reached_51 computed.refresh_reads_51;
      refresh_reads_312 = seen (refresh_reads 63) reached_312 computed.refresh_reads_312;
    }

-- the 6567R8
abbrev known8 : ℕ → Side
known8 n = cond (eqb n 0) (begun_of 1) (cond (eqb n 51) before8_51 before8_59)

computed8 : TracesOf8 known8
unfolding ticked
computed8 = record { raster_0 = refl; refresh_reads_0 = refl; sprite_plain = refl; sprite_expanded = refl; bus = refl }

pub traces8 : Traces8
traces8 =
    record {
      raster_0 = computed8.raster_0;
      refresh_reads_0 = computed8.refresh_reads_0;
      sprite_plain = seen (λ s. one_of 0 (lines8 2 s)) reached8_51 computed8.sprite_plain;
      sprite_expanded = seen (λ s. one_of 3 (lines8 3 s)) reached8_51 computed8.sprite_expanded;
      bus = seen (λ s. bus_of (lines8 2 s)) reached8_59 computed8.bus;
    }
