-- A line of ticks of the timing side is the whole_line step. Assumes nothing.
use Prim.Native.Nat.{ℕ, zero, suc, ◌<◌, ◌≤◌, ◌+◌, ◌-◌}
use mathlib.Core.Path.{◌≡◌, refl, ◌∙◌, sym, ap}
use mathlib.Core.Bool.{Bool, true, false, not, ◌&&◌}
use native.Mathlib.Omega.{arith}
use native.Mathlib.Decide.{dec_lt}
use lib.Dec.{leb}
use borrow.Author.Tests.{le-leb, lt-leb, ne_eqb}
use Rattle.laws.proofs.Choice.{and_false}
use Rattle.schedule.specs.Kind.{last_cycle}
use Rattle.schedule.specs.Diagram.{happens, character_access}
use Rattle.schedule.proofs.Places.{last_least, last_most}
use Rattle.registers.specs.declared.Controls.{Controls}
use Rattle.timing.specs.Beam.{ba_output}
use Rattle.border.specs.Border as B
use Rattle.sprites.specs.declared.Sprites.{Sprites}
use Rattle.arbitration.specs.declared.Bus.{Bus}
use Rattle.arbitration.specs.Bus.{clock_on, Counted}
use Rattle.rows.specs.declared.Rows.{Rows}
use Rattle.rows.specs.declared.Rowed.{Rowed}
use Rattle.rows.specs.declared.Waits.{Waits}
use Rattle.rows.specs.Rows.{rowed}
use Rattle.rows.specs.Pending.{pending_after}
use Rattle.side.specs.declared.Side.{Side}
use Rattle.lines.specs.Begin.{kind_in, line_of, wraps_of, raster_of, bad_begins, bad_of, rises_of}
use Rattle.lines.specs.Bus.{asks, bus_by, low_in}
use Rattle.lines.specs.Side.{masks_in, line_side}
use Rattle.lines.specs.Lines.{ALineOfTheSide, turns_on}
use Rattle.lines.proofs.Through.{through}
use Rattle.lines.proofs.Parts.{border_in, sprites_in, asked_in, bus_in, rows_in, rowed_in, pending_in, side_in}
use Rattle.lines.proofs.Split.{split}
use Rattle.lines.proofs.Sweep.{sweep_late, raster_at, wraps_at, bad_at, rise_at}
use Rattle.lines.proofs.Border.{border_step, border_line_lem}
use Rattle.lines.proofs.Sprites.{sprite_step, sprites_line_lem}
use Rattle.lines.proofs.Asked.{asked_asks}
use Rattle.lines.proofs.Bus.{bus_step, bus_waves, by_low, by_clock}
use Rattle.lines.proofs.Rows.{rowed_at, row_step, rows_line_lem}
use Rattle.lines.proofs.Refresh.{refresh_line_lem}
use Rattle.lines.proofs.Accesses.{low_on, before_fetch, after_fetch, during_fetch, mid_rows_lem}

-- ---- the parts' own ways

module _ (g : Controls) (s : Side) where
  pub border_in_lem : (n : ℕ) → border_in g s n ≡ through (border_step (line_of g s) (raster_of g s) g.den g.csel s.border (kind_in s)) n s.border
  unfolding border_in through
  border_in_lem zero = refl
  border_in_lem (suc n) = rw (raster_at g s n) (ap (border_step (line_of g s) (raster_of g s) g.den g.csel s.border (kind_in s) (suc n)) (border_in_lem n))

  abbrev pub sprites_step : ℕ → Sprites → Sprites
  sprites_step = sprite_step (line_of g s) (raster_of g s) g.my g.enable g.yexp (kind_in s)

  pub sprites_in_lem : (n : ℕ) → sprites_in g s n ≡ through sprites_step n s.sprites
  unfolding sprites_in through
  sprites_in_lem zero = refl
  sprites_in_lem (suc n) = rw (raster_at g s n) (ap (sprites_step (suc n)) (sprites_in_lem n))

  asked_in_lem : (n : ℕ) → suc n < 66 → asked_in g s (suc n) ≡ asks (kind_in s) (bad_of g s) (masks_in g s) (suc n)
  unfolding asked_in
  asked_in_lem n l =
      rw (bad_at g s n, raster_at g s n, sprites_in_lem n)
      (asked_asks (line_of g s) (raster_of g s) g.my g.enable g.yexp (kind_in s) s.sprites (bad_of g s) (bad_begins g s) n l)

  abbrev buses : ℕ → Bus → Bus
  buses = bus_step (kind_in s) (bad_of g s) (masks_in g s) s.bus

  bus_in_lem : (n : ℕ) → n < 66 → bus_in g s n ≡ through buses n s.bus
  unfolding bus_in through
  bus_in_lem zero l = refl
  bus_in_lem (suc n) l = rw (asked_in_lem n l) (ap (buses (suc n)) (bus_in_lem n (omega arith)))

  abbrev pub rows_step : ℕ → Rows → Rows
  rows_step = row_step (bad_of g s) (bad_begins g s) (rises_of g s) (wraps_of g s)

  pub rowed_in_lem : (n : ℕ) {r : Rows} → rows_in g s n ≡ r → rowed_in g s n ≡ rowed_at (bad_of g s) (bad_begins g s) (rises_of g s) (wraps_of g s) (suc n) r
  rowed_in_lem n e = rw (rise_at g s n, bad_at g s n, wraps_at g s n, e)

  rows_on : (n : ℕ) → rows_in g s (suc n) ≡ (rowed_in g s n).rows
  unfolding rows_in
  rows_on n = refl

  step_on : (c : ℕ) (r : Rows) → (rowed_at (bad_of g s) (bad_begins g s) (rises_of g s) (wraps_of g s) c r).rows ≡ rows_step c r
  unfolding row_step
  step_on c r = refl

  rows_start : rows_in g s 0 ≡ s.rows
  unfolding rows_in
  rows_start = refl

  pub rows_in_lem : (n : ℕ) → rows_in g s n ≡ through rows_step n s.rows
  unfolding through
  rows_in_lem zero = rows_start
  rows_in_lem (suc n) = rows_on n ∙ ap (λ (x : Rowed). x.rows) (rowed_in_lem n (rows_in_lem n)) ∙ step_on (suc n) (through rows_step n s.rows)

  pub row_fetches : (n : ℕ) → (rowed_in g s n).fetches ≡ (happens character_access (suc n) && (rows_in g s (suc n)).access)
  unfolding rowed rows_in
  row_fetches n = refl

  module _ (counts : Counted s.bus.aec) where
    pub bus_by_lem : (n : ℕ) → suc n < 66 → bus_in g s (suc n) ≡ bus_by (kind_in s) (bad_of g s) (masks_in g s) s.bus (suc n)
    bus_by_lem n l = bus_in_lem (suc n) l ∙ bus_waves (kind_in s) (bad_of g s) (masks_in g s) s.bus counts n

    pub low_in_lem : (n : ℕ) → suc n < 66 → (bus_in g s (suc n)).aeclow ≡ low_in (kind_in s) (bad_of g s) (masks_in g s) s.bus (suc n)
    low_in_lem n l = ap (λ (x : Bus). x.aeclow) (bus_by_lem n l) ∙ by_low (kind_in s) (bad_of g s) (masks_in g s) s.bus (suc n)

    pub clock_in : (n : ℕ) → suc n < 66 → (bus_in g s (suc n)).clock ≡ clock_on (suc n) s.bus.clock
    clock_in n l = ap (λ (x : Bus). x.clock) (bus_by_lem n l) ∙ by_clock (kind_in s) (bad_of g s) (masks_in g s) s.bus (suc n)

    -- ---- no access misses the bus

    pub low_fetch : (n : ℕ) → 15 ≤ suc n → suc n ≤ 54 → bad_of g s ≡ true → (bus_in g s (suc n)).aeclow ≡ true
    low_fetch n l h e = low_in_lem n (omega arith) ∙ rw e (low_on (kind_in s) (masks_in g s) s.bus (suc n) l h)

    missed : (bad a l : Bool) → a ≡ bad → (bad ≡ true → l ≡ true) → (a && not l) ≡ false
    missed true a l e f = rw (e, f refl)
    missed false a l e f = rw e

    access_at : (n j : ℕ) → n ≡ 15 + j → j < 40 → (rows_in g s n).access ≡ bad_of g s
    access_at n j e l = rw e (ap (λ (x : Rows). x.access) (rows_in_lem (15 + j) ∙ mid_rows_lem (bad_of g s) (bad_begins g s) (rises_of g s) (wraps_of g s) s.rows j l))

    none_missed : (n : ℕ) → ((happens character_access (suc n) && (rows_in g s (suc n)).access) && not (bus_in g s (suc n)).aeclow) ≡ false
    none_missed n = by (dec_lt (suc n) 15) (dec_lt 54 (suc n))
      where
        by : Dec (suc n < 15) → Dec (54 < suc n) → ((happens character_access (suc n) && (rows_in g s (suc n)).access) && not (bus_in g s (suc n)).aeclow) ≡ false
        by (yes h) d = rw (before_fetch (suc n) h)
        by (no h) (yes d) = rw (after_fetch (suc n) d)
        by (no h) (no d) =
            rw (during_fetch (suc n) (omega arith) (omega arith))
            (missed (bad_of g s) (rows_in g s (suc n)).access (bus_in g s (suc n)).aeclow (access_at (suc n) (suc n - 15) (omega arith) (omega arith)) (low_fetch n (omega arith) (omega arith)))

    kept : (v : ℕ) (p : Waits) → pending_after false v p ≡ p
    unfolding pending_after
    kept v p = refl

    pending_in_lem : (n : ℕ) → pending_in g s n ≡ s.pending
    unfolding pending_in
    pending_in_lem zero = refl
    pending_in_lem (suc n) = rw (row_fetches n, none_missed n) (kept (rowed_in g s n).rows.vmli (pending_in g s n) ∙ pending_in_lem n)

    -- ---- the whole line

    high : (bad : Bool) (c : ℕ) → 54 < c → ba_output bad c ≡ true
    unfolding ba_output happens
    high bad c l = rw (lt-leb c 54 l, and_false (leb 12 c), and_false bad)

    pub whole : (n : ℕ) → suc n ≡ last_cycle (kind_in s) → side_in g s n ≡ line_side g s
    unfolding line_side
    whole n e =
        let l : 62 ≤ n = omega (arith, last_least (kind_in s)) in
        let h : suc n < 66 = omega (arith, last_most (kind_in s)) in
        rw (
          rise_at g s n,
          bad_at g s n,
          ne_eqb (suc n) 1 (λ z. omega arith),
          le-leb 3 (suc n) (omega arith),
          high (bad_of g s) (suc n) (omega arith),
          sweep_late g s (suc n) (omega arith),
          border_in_lem (suc n),
          sprites_in_lem (suc n),
          bus_by_lem n h,
          rows_in_lem (suc n),
          pending_in_lem (suc n),
          e,
          border_line_lem (line_of g s) (raster_of g s) g.den g.csel s.border (kind_in s),
          sprites_line_lem (line_of g s) (raster_of g s) g.my g.enable g.yexp (kind_in s) s.sprites,
          rows_line_lem (bad_of g s) (bad_begins g s) (rises_of g s) (wraps_of g s) s.rows (kind_in s),
          refresh_line_lem g s,
        )

pub a_line_of_the_side : ALineOfTheSide
a_line_of_the_side g s end =
    let e : suc (last_cycle (kind_in s) - 1) ≡ last_cycle (kind_in s) = omega (arith, last_least (kind_in s)) in
    ap (λ (m : ℕ). turns_on g m s) (sym e) ∙ split g s end.cycle (last_cycle (kind_in s) - 1) (omega (arith, last_least (kind_in s))) ∙ whole g s end.aec (last_cycle (kind_in s) - 1) e
