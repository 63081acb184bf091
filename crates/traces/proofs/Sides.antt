-- The sides before the traced lines, worked out one from the other. They are written out, since a trace from a long run would work the run again for each of its ticks.
use Prim.Native.Nat.{ℕ, zero, suc, ◌+◌, ◌-◌, ◌*◌, ◌%◌}
use native.Mathlib.Nat.{zero-add, suc-add}
use mathlib.Core.Path.{◌≡◌, refl, ap, ◌∙◌}
use mathlib.Core.Bool.{Bool, true, false}
use mathlib.Core.List.{[], ◌∷◌}
use lib.IntN.{pos, negsuc}
use Rattle.laws.specs.Bits.{has_bit, with_bit, without_bit}
use Rattle.laws.specs.Pick.{pick}
use Rattle.registers.specs.Irq.{asked, settled, triggered}
use Rattle.schedule.specs.Kind.{kind_of}
use Rattle.schedule.specs.Diagram.{happens, pointer_time, data_time, slot_sprite, slot_after_bus}
use Rattle.schedule.specs.Requests.{mask_at}
use Rattle.timing.specs.Beam as Beams
use Rattle.timing.specs.Set.{raster≔, den≔, rsel≔, yscroll≔, latch≔}
use Rattle.border.specs.declared.Border.{Border}
use Rattle.border.specs.Border as Borders
use Rattle.sprites.specs.declared.Sprite.{Sprite}
use Rattle.sprites.specs.declared.Sprites.{Sprites}
use Rattle.sprites.specs.Sprites as Sprites
use Rattle.arbitration.specs.declared.Bus.{Bus}
use Rattle.arbitration.specs.Bus as Buses
use Rattle.arbitration.specs.Set.{clock≔, fall≔, rise≔, aec≔, balow≔, aeclow≔, lost≔}
use Rattle.rows.specs.Pending.{waits, pending_after}
use Rattle.std.specs.Prelude.{None}
use Rattle.rows.specs.declared.Rows.{Rows}
use Rattle.side.specs.declared.Side.{Side}
use Rattle.raster.specs.Frame as Frames
use Rattle.raster.specs.Refresh.{less_by, refresh_after}
use Rattle.rows.specs.Rows as Rows
use Rattle.side.specs.Phases as Phases
use Rattle.registers.specs.declared.Controls.{Controls}
use Rattle.side.specs.Turn.{fresh_side, turned}
use Rattle.traces.specs.Traces.{screen, begun_of, begun, later, from_power_up, from_power_up8}

abbrev shut : Border
shut = record { vertical = true; main = true; old = true; disabled = true; part40 = 3; part38 = 3; top = 51; bottom = 251 }

abbrev inside : Border
inside = record { vertical = false; main = true; old = false; disabled = false; part40 = 1; part38 = 0; top = 51; bottom = 251 }

-- a sprite's number, MC and MCBASE
abbrev sprite : ℕ → ℕ → ℕ → Sprite
sprite k mc base = record { number = k; mc = mc; base = base }

-- sprites 0, 3 and 7, the flip-flops and the DMA mask
abbrev three : Sprite → Sprite → Sprite → ℕ → ℕ → Sprites
three a b c flip dma =
    record {
      each = a ∷ sprite 1 0 0 ∷ sprite 2 0 0 ∷ b ∷ sprite 4 0 0 ∷ sprite 5 0 0 ∷ sprite 6 0 0 ∷ c ∷ [];
      flip = flip;
      clear = 0;
      dma = dma;
      prev = dma;
      display = dma;
      vmatch = 0;
    }

-- MC and MCBASE of sprite 0, of the two others, and the flip-flops
abbrev fetching : ℕ → ℕ → ℕ → ℕ → ℕ → Sprites
fetching mc base expanded last flip = three (sprite 0 mc base) (sprite 3 expanded expanded) (sprite 7 last last) flip 0x89

abbrev unused : ℕ → Sprites
unused flip = three (sprite 0 0 0) (sprite 3 0 0) (sprite 7 0 0) flip 0

abbrev used : ℕ → Sprites
used flip = three (sprite 0 63 63) (sprite 3 63 63) (sprite 7 63 63) flip 0

-- the clock and BA's edges, without a request; with sprite 3's of the last three cycles, where the line has lost 6 to sprites 7, 0 and 3
abbrev free : ℕ → ℕ → ℕ → Bus
free clock fall rise = clock≔ (pos clock) (fall≔ (pos fall) (rise≔ (pos rise) Buses.fresh))

abbrev warned : ℕ → ℕ → ℕ → Bus
warned clock fall rise = aec≔ (pos 0) (balow≔ true (lost≔ 6 (free clock fall rise)))

abbrev row : ℕ → ℕ → ℕ → ℕ → Bool → Rows
row vc vcbase rc vmli display = record { vc = vc; vcbase = vcbase; rc = rc; vmli = vmli; display = display; transition = false; access = false }

-- the end of a line; five refresh accesses on it and on each before it
abbrev past_of : ℕ → ℕ → ℕ → Bool → Border → Sprites → Bus → Rows → Side
past_of kind line flags latch border sprites bus rows =
    record {
      irq = record { flags = flags; enable = 0; line = false };
      beam = raster≔ line (den≔ true (rsel≔ true (yscroll≔ 3 (latch≔ latch (Beams.fresh kind)))));
      frame = Frames.fresh;
      border = border;
      sprites = sprites;
      bus = bus;
      rows = rows;
      pending = waits None;
      changed = false;
      refresh = (0xFF + (0x100 - 5) * (line + 1)) % 0x100;
    }

-- of a 6569
abbrev past : ℕ → ℕ → Bool → Border → Sprites → Bus → Rows → Side
past line flags latch border sprites bus rows = past_of 0 line flags latch border sprites bus rows

abbrev pub before_47 : Side
before_47 = past 46 0 false shut (unused 0xF7) (free 5922 0 0) (row 0 0 0 0 false)

abbrev pub before_50 : Side
before_50 = past 49 0 true shut (unused 0xFF) (free 6300 0 0) (row 0 0 0 0 false)

abbrev pub before_51 : Side
before_51 = past 50 0 true shut (unused 0xF7) (free 6426 0 0) (row 0 0 0 0 false)

abbrev pub before_59 : Side
before_59 = past 58 1 true inside (fetching 24 21 9 21 0xFF) (warned 7434 7430 7428) (row 40 40 7 40 false)

abbrev pub before_66 : Side
before_66 = past 65 1 true inside (fetching 45 42 21 42 0xF7) (warned 8316 8312 8310) (row 80 40 7 40 true)

abbrev pub before_72 : Side
before_72 = past 71 1 true inside (fetching 63 60 30 60 0xF7) (warned 9072 9068 9066) (row 120 80 5 40 true)

-- two on the way: a computation has a limit
abbrev before_131 : Side
before_131 = past 130 1 true inside (used 0xFF) (free 16506 15522 15608) (row 400 400 7 40 false)

abbrev before_195 : Side
before_195 = past 194 1 true inside (used 0xFF) (free 24570 23586 23672) (row 720 720 7 40 false)

abbrev pub before_250 : Side
before_250 = past 249 1 true inside (used 0xF7) (free 31500 30642 30728) (row 1000 960 7 40 true)

abbrev pub before_312 : Side
before_312 = past 311 1 true shut (fetching 15 12 6 12 0xF7) (warned 39312 39308 39306) (row 1000 1000 7 0 false)

-- the 6567R8
abbrev pub before8_26 : Side
before8_26 = past_of 1 25 0 false shut (unused 0xFF) (free 3380 0 0) (row 0 0 0 0 false)

abbrev pub before8_51 : Side
before8_51 = past_of 1 50 0 true shut (unused 0xF7) (free 6630 0 0) (row 0 0 0 0 false)

-- sprite 3's pointer and first byte are read, its data not yet
abbrev pub before8_59 : Side
before8_59 =
    past_of 1 58 1 true inside (three (sprite 0 24 21) (sprite 3 10 9) (sprite 7 21 21) 0xFF 0x89)
    (aec≔ (negsuc 0) (aeclow≔ true (warned 7670 7664 7662))) (row 40 40 7 40 false)

-- one tick, with all that it computes with: to unfold this is to unfold them
unfoldable pub ticked : Controls → Side → Side
unfolding kind_of slot_after_bus has_bit with_bit without_bit pick asked settled triggered happens pointer_time data_time slot_sprite mask_at Beams.bad_line Beams.ba_output Beams.next_cycle Beams.at_last_line Beams.next_line Beams.fresh Beams.latched Beams.beam_turned Borders.compared Borders.switched Borders.line_begun Borders.line_ended Borders.opened Borders.left_passed Borders.left_part Borders.left40_passed Borders.left38_passed Borders.right38_passed Borders.right40_passed Sprites.fresh Sprites.all_fresh Sprites.sprite_at Sprites.up_to Sprites.crunched Sprites.next_base Sprites.mask_after Sprites.step_one Sprites.mcbase_stepped Sprites.dma_begun Sprites.start_one Sprites.started Sprites.first_phased Sprites.second_phased Sprites.load_one Sprites.loaded Sprites.show_one Sprites.shown Sprites.mc_loaded Sprites.fetched Buses.fresh Buses.clock_on Buses.clocked Buses.sprite_asks Buses.requested Buses.aec_after Buses.low Buses.arbitrated Buses.lost_after Buses.counted pending_after Frames.fresh Frames.match_raises Frames.raster_begun Frames.frame_begun Frames.frame_ended Frames.raised Frames.swept less_by refresh_after Rows.fresh Rows.vc_after Rows.vmli_after Rows.rc_after Rows.access_after Rows.display_after Rows.rowed Phases.begin_at Phases.left40_at Phases.left38_at Phases.right38_at Phases.right40_at Phases.remember_at Phases.end_at Phases.bordered Phases.step_at Phases.first_at Phases.second_at Phases.load_at Phases.phased Phases.slot_moved fresh_side turned
ticked g s = (turned g s).side

-- each from the one before
to_47 : later (screen 51) (63 * 47) begun ≡ before_47
unfolding ticked
to_47 = refl

to_50 : later (screen 51) (63 * 3) before_47 ≡ before_50
unfolding ticked
to_50 = refl

to_51 : later (screen 51) 63 before_50 ≡ before_51
unfolding ticked
to_51 = refl

to_59 : later (screen 51) (63 * 8) before_51 ≡ before_59
unfolding ticked
to_59 = refl

to_66 : later (screen 51) (63 * 7) before_59 ≡ before_66
unfolding ticked
to_66 = refl

to_72 : later (screen 51) (63 * 6) before_66 ≡ before_72
unfolding ticked
to_72 = refl

to_131 : later (screen 51) (63 * 59) before_72 ≡ before_131
unfolding ticked
to_131 = refl

to_195 : later (screen 51) (63 * 64) before_131 ≡ before_195
unfolding ticked
to_195 = refl

to_250 : later (screen 51) (63 * 55) before_195 ≡ before_250
unfolding ticked
to_250 = refl

to_312 : later (screen 51) (63 * 62) before_250 ≡ before_312
unfolding ticked
to_312 = refl

-- m ticks after n ticks
further : (b : Side) (m n : ℕ) {t u : Side} → later (screen 51) n b ≡ t → later (screen 51) m t ≡ u → later (screen 51) (m + n) b ≡ u
further b zero n p q = rw zero-add (p ∙ q)
further b (suc m) n p q = rw suc-add (ap (λ (s : Side). (turned (screen 51) s).side) (further b m n p refl) ∙ q)

pub reached_47 : from_power_up 47 ≡ before_47
reached_47 = to_47

pub reached_50 : from_power_up 50 ≡ before_50
reached_50 = further begun (63 * 3) (63 * 47) reached_47 to_50

pub reached_51 : from_power_up 51 ≡ before_51
reached_51 = further begun (63 * 1) (63 * 50) reached_50 to_51

pub reached_59 : from_power_up 59 ≡ before_59
reached_59 = further begun (63 * 8) (63 * 51) reached_51 to_59

pub reached_66 : from_power_up 66 ≡ before_66
reached_66 = further begun (63 * 7) (63 * 59) reached_59 to_66

pub reached_72 : from_power_up 72 ≡ before_72
reached_72 = further begun (63 * 6) (63 * 66) reached_66 to_72

reached_131 : from_power_up 131 ≡ before_131
reached_131 = further begun (63 * 59) (63 * 72) reached_72 to_131

reached_195 : from_power_up 195 ≡ before_195
reached_195 = further begun (63 * 64) (63 * 131) reached_131 to_195

pub reached_250 : from_power_up 250 ≡ before_250
reached_250 = further begun (63 * 55) (63 * 195) reached_195 to_250

pub reached_312 : from_power_up 312 ≡ before_312
reached_312 = further begun (63 * 62) (63 * 250) reached_250 to_312

-- the 6567R8
to8_26 : later (screen 51) (65 * 26) (begun_of 1) ≡ before8_26
unfolding ticked
to8_26 = refl

to8_51 : later (screen 51) (65 * 25) before8_26 ≡ before8_51
unfolding ticked
to8_51 = refl

to8_59 : later (screen 51) (65 * 8) before8_51 ≡ before8_59
unfolding ticked
to8_59 = refl

pub reached8_51 : from_power_up8 51 ≡ before8_51
reached8_51 = further (begun_of 1) (65 * 25) (65 * 26) to8_26 to8_51

pub reached8_59 : from_power_up8 59 ≡ before8_59
reached8_59 = further (begun_of 1) (65 * 8) (65 * 51) reached8_51 to8_59
