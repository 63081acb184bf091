-- A line of ticks is the whole_line step, field for field, for both kinds; and what every line leaves. Assumes nothing.
use Prim.Native.Nat.{ℕ, zero, suc, ◌<◌, ◌≤◌, ◌+◌, ◌-◌, ◌*◌}
use mathlib.Core.Path.{◌≡◌, refl, ◌∙◌, sym, ap}
use mathlib.Core.Bool.{Bool, true, false}
use native.Mathlib.Omega.{arith}
use lib.IntN.{ℤ}
use Rattle.laws.specs.Pick.{pick}
use Rattle.laws.proofs.Choice.{either}
use Rattle.schedule.specs.Kind.{Kind, last_cycle}
use Rattle.schedule.specs.Diagram.{slot_after_bus}
use Rattle.schedule.proofs.Places.{last_least, last_most}
use Rattle.memory.specs.Lent.{Host}
use Rattle.registers.specs.declared.Registers.{Registers}
use Rattle.registers.specs.declared.Controls.{Controls}
use Rattle.registers.specs.Control.{timed}
use Rattle.border.specs.declared.Border.{Border}
use Rattle.border.specs.Set.{vertical≔}
use Rattle.border.specs.Border.{line_ended, right38_passed, right40_passed, switched, bottom_reached, top_reached}
use Rattle.access.specs.Merge.{Merging}
use Rattle.side.specs.declared.Side.{Side}
use Rattle.picture.specs.Pen.{Latches, slotted}
use Rattle.chip.proofs.Fine.{accepted_fine}
use Rattle.world.specs.World.{World, world_of}
use Rattle.world.specs.Tick.{tick_world}
use Rattle.lines.specs.Begin.{kind_in, line_of, raster_of, bad_of, frame_line}
use Rattle.lines.specs.Border.{border_line}
use Rattle.lines.specs.Bus.{low_in}
use Rattle.lines.specs.Rows.{rows_line}
use Rattle.lines.specs.Side.{masks_in, line_side}
use Rattle.lines.specs.Slots.{low_at}
use Rattle.lines.specs.Whole.{fetch_of, latches_line, line_world}
use Rattle.lines.specs.Lines.{ticks_on, lines_on, LinesAreTheirTicks, AnotherLineCanFollow, AtLineEnd, ALineIsItsTicks, OfEveryAcceptedChip, EveryLineLeaves}
use Rattle.lines.proofs.Through.{through, through_suc}
use Rattle.lines.proofs.Parts.{phased_in, bus_in}
use Rattle.lines.proofs.Sweep.{raster_at}
use Rattle.lines.proofs.Bus.{by_count}
use Rattle.lines.proofs.Slots.{before, slot_step, slots_line_lem}
use Rattle.lines.proofs.Timing.{sprites_in_lem, low_in_lem, whole}
use Rattle.lines.proofs.World.{world_by, world_none, world_step}
use Rattle.lines.proofs.Picture.{merge_of, Modes, forced_in, merge_line_lem, modes_in, gfx_in}

-- in the first cycle the slot comes after the arbitration
first_after : (k : Kind) (a b c : Bool) → pick (slot_after_bus k 1) a b ≡ pick (slot_after_bus k 1) a c
unfolding pick slot_after_bus
first_after k a b c = refl

module _ (h : Host) (g : Registers) (w : World) where
  abbrev G : Controls
  G = timed g

  abbrev s : Side
  s = w.side

  abbrev k : Kind
  k = kind_in w.side

  abbrev latches : World → Latches
  latches x = record { pointers = x.pointers; bytes = x.bytes; words = x.words }

  abbrev slot : ℕ → Latches → Latches
  slot = slot_step (fetch_of h g w) (line_of G s) (raster_of G s) G.my G.enable G.yexp s.sprites k

  phased_now : (n : ℕ) → phased_in G s n ≡ before (fetch_of h g w) (line_of G s) (raster_of G s) G.my G.enable G.yexp s.sprites k (suc n)
  phased_now n =
      let e : suc n - 1 ≡ n = omega arith in
      rw (raster_at G s n, sprites_in_lem G s n, e)

  module _ (end : AtLineEnd w.side) where
    abbrev low : ℕ → Bool
    low = low_in k (bad_of G s) (masks_in G s) s.bus

    low_now : (n : ℕ) → suc n < 66 → pick (slot_after_bus k (suc n)) (bus_in G s (suc n)).aeclow (bus_in G s n).aeclow ≡ low_at k low (suc n)
    low_now zero l = rw (low_in_lem G s end.aec 0 l) (first_after k (low 1) (bus_in G s 0).aeclow (low 0))
    low_now (suc n) l =
        let e : suc (suc n) - 1 ≡ suc n = omega arith in
        rw (low_in_lem G s end.aec (suc n) l, low_in_lem G s end.aec n (omega arith), e)

    by_slots : (n : ℕ) → suc n < 66 → (x : World) → latches (world_by h g w n x) ≡ slot (suc n) (latches x)
    unfolding slotted slot_step
    by_slots n l x = rw (low_now n l, phased_now n)

    slots_none : latches (ticks_on h g 0 w) ≡ through slot 0 (latches w)
    unfolding through
    slots_none = ap latches (world_none h g w end.cycle)

    slots_in : (n : ℕ) → n ≤ last_cycle k → latches (ticks_on h g n w) ≡ through slot n (latches w)
    slots_in zero l = slots_none
    slots_in (suc n) l =
        ap latches (world_step h g w end.cycle n l)
        ∙ by_slots n (omega (arith, last_most k)) (ticks_on h g n w)
        ∙ ap (slot (suc n)) (slots_in n (omega arith))
        ∙ sym (through_suc slot n (latches w))

    slots_whole : latches (ticks_on h g (last_cycle k) w) ≡ latches_line h g w
    unfolding latches_line
    slots_whole = slots_in (last_cycle k) (omega arith) ∙ slots_line_lem (fetch_of h g w) (line_of G s) (raster_of G s) G.my G.enable G.yexp s.sprites k (latches w)

    side_whole : (ticks_on h g (last_cycle k) w).side ≡ line_side G s
    side_whole =
        let e : last_cycle k ≡ suc (last_cycle k - 1) = omega (arith, last_least k) in
        ap (λ (n : ℕ). (ticks_on h g n w).side) e
        ∙ ap (λ (x : World). x.side) (world_step h g w end.cycle (last_cycle k - 1) (omega (arith, last_least k)))
        ∙ whole G s end.aec (last_cycle k - 1) (sym e)

    modes_whole : Modes h g w end.cycle (ticks_on h g (last_cycle k) w).pen
    modes_whole =
        let e : last_cycle k ≡ suc (last_cycle k - 1) = omega (arith, last_least k) in
        rw e (modes_in h g w end.cycle (last_cycle k - 1) (omega (arith, last_least k)))

    gfx_whole : (ticks_on h g (last_cycle k) w).pen.gfx ≡ 0
    gfx_whole =
        let e : last_cycle k ≡ suc (55 + (last_cycle k - 56)) = omega (arith, last_least k) in
        ap (λ (n : ℕ). (ticks_on h g n w).pen.gfx) e ∙ gfx_in h g w end.cycle (last_cycle k - 56) (omega (arith, last_least k))

    -- the parts put together
    glue : (x : World) {side : Side} {m : Merging} {l : Latches} {gfx mode old : ℕ} {changing : Bool} {forced : ℤ}
        → x.side ≡ side → merge_of h g w x ≡ m → latches x ≡ l
        → x.pen.gfx ≡ gfx → x.pen.mode ≡ mode → x.pen.old ≡ old → x.pen.changing ≡ changing → x.pen.forced ≡ forced
        → x ≡ record { side = side; pen = record { ch = m.ch; carry = m.carry; gfx = gfx; mode = mode; old = old; changing = changing; forced = forced }; matrix = m.matrix; pointers = l.pointers; bytes = l.bytes; words = l.words }
    glue x a b c d e f i j = rw (← a, ← b, ← c, ← d, ← e, ← f, ← i, ← j)

    all : ticks_on h g (last_cycle k) w ≡ line_world h g w
    unfolding line_world
    all =
        glue (ticks_on h g (last_cycle k) w)
        side_whole
        (merge_line_lem h g w end.cycle end.aec)
        slots_whole
        gfx_whole
        modes_whole.0
        modes_whole.1.0
        modes_whole.1.1
        (forced_in h g w end.cycle (last_cycle k) (omega arith))

pub a_line_is_its_ticks : ALineIsItsTicks
a_line_is_its_ticks h g w end = all h g w end

pub of_every_accepted_chip : OfEveryAcceptedChip
of_every_accepted_chip h c e end = a_line_is_its_ticks h c.regs (world_of c) (record { cycle = end; aec = (accepted_fine c e).side.aec })

-- ---- line after line

pub another_line_can_follow : AnotherLineCanFollow
unfolding line_side
another_line_can_follow g s = record { cycle = refl; aec = by_count (kind_in s) (bad_of g s) (masks_in g s) s.bus (last_cycle (kind_in s)) }

module _ (h : Host) (g : Registers) where
  ticks_add_lem : (m n : ℕ) (w : World) → ticks_on h g (m + n) w ≡ ticks_on h g m (ticks_on h g n w)
  unfolding ticks_on
  ticks_add_lem zero n w = let e : 0 + n ≡ n = omega arith in rw e
  ticks_add_lem (suc m) n w = let e : suc m + n ≡ suc (m + n) = omega arith in rw e (ap (tick_world h g) (ticks_add_lem m n w))

  line_kind : (w : World) → kind_in (line_world h g w).side ≡ kind_in w.side
  unfolding line_world line_side
  line_kind w = refl

  line_end : (w : World) → AtLineEnd (line_world h g w).side
  unfolding line_world
  line_end w = another_line_can_follow (timed g) w.side

  lines_kind : (n : ℕ) (w : World) → kind_in (lines_on h g n w).side ≡ kind_in w.side
  unfolding lines_on
  lines_kind zero w = refl
  lines_kind (suc n) w = line_kind (lines_on h g n w) ∙ lines_kind n w

  lines_end : (n : ℕ) (w : World) → AtLineEnd w.side → AtLineEnd (lines_on h g n w).side
  unfolding lines_on
  lines_end zero w e = e
  lines_end (suc n) w e = line_end (lines_on h g n w)

  many : (w : World) (n : ℕ) → AtLineEnd w.side → ticks_on h g (n * last_cycle (kind_in w.side)) w ≡ lines_on h g n w
  unfolding lines_on
  many w zero e = ap (λ (n : ℕ). ticks_on h g n w) none ∙ world_none h g w e.cycle
    where
      none : 0 * last_cycle (kind_in w.side) ≡ 0
      none = omega arith
  many w (suc n) e =
      let more : suc n * last_cycle (kind_in w.side) ≡ last_cycle (kind_in w.side) + n * last_cycle (kind_in w.side) = omega arith in
      rw more
      (ticks_add_lem (last_cycle (kind_in w.side)) (n * last_cycle (kind_in w.side)) w
      ∙ ap (ticks_on h g (last_cycle (kind_in w.side))) (many w n e)
      ∙ ap (λ (k : Kind). ticks_on h g (last_cycle k) (lines_on h g n w)) (sym (lines_kind n w))
      ∙ a_line_is_its_ticks h g (lines_on h g n w) (lines_end n w e))

pub lines_are_their_ticks : LinesAreTheirTicks
lines_are_their_ticks h g w n e = many h g w n e

-- ---- what every line leaves

ended_main : (b : Border) (raster : ℕ) (den : Bool) → (line_ended b raster den).main ≡ b.main
unfolding line_ended switched
ended_main b raster den =
    either (λ (x : Border). x.main ≡ b.main) (bottom_reached b raster) {x = vertical≔ true b} refl
    (either (λ (x : Border). x.main ≡ b.main) (top_reached b raster den) {x = vertical≔ false b} {y = b} refl refl)

closed : (b : Border) (csel : Bool) → (right40_passed (right38_passed b csel) csel).main ≡ true
unfolding right40_passed right38_passed
closed b true = refl
closed b false = refl

main_left : (line raster : ℕ) (den csel : Bool) (b : Border) → (border_line line raster den csel b).main ≡ true
unfolding border_line
main_left line raster den csel b = ended_main _ raster den ∙ closed _ csel

pub every_line_leaves : EveryLineLeaves
unfolding line_side frame_line rows_line
every_line_leaves g s =
    record {
      ending = refl;
      main = main_left (line_of g s) (raster_of g s) g.den g.csel s.border;
      rising = refl;
      ba = refl;
      access = refl;
      transition = refl;
    }
