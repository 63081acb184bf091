-- The character latch, the matrix line, the modes and the graphics byte over a line of ticks. Assumes nothing.
use Prim.Native.Nat.{ℕ, zero, suc, ◌<◌, ◌≤◌, ◌+◌, ◌-◌, ◌%◌}
use mathlib.Core.Path.{◌≡◌, refl, ◌∙◌, sym, ap}
use mathlib.Core.Bool.{Bool, true, false, not, ◌&&◌, ◌||◌, cond}
use mathlib.Core.List.{List}
use native.Mathlib.Omega.{arith}
use native.Mathlib.Decide.{dec_lt}
use lib.Dec.{eqb, ltb}
use lib.ListN.{set}
use borrow.Author.Tests.{lt-ltb, le-leb, ne_eqb}
use Rattle.laws.specs.Pick.{pick}
use Rattle.laws.proofs.Choice.{and_false, and_true, picks}
use Rattle.schedule.specs.Kind.{last_cycle}
use Rattle.schedule.specs.Diagram.{happens, graphics_access, character_access, access_ends, graphics_cleared}
use Rattle.schedule.proofs.Places.{last_least}
use Rattle.memory.specs.Lent.{Host}
use Rattle.registers.specs.declared.Registers.{Registers}
use Rattle.registers.specs.declared.Controls.{Controls}
use Rattle.registers.specs.Control.{mode_number, timed}
use Rattle.arbitration.specs.Bus.{clock_on, Counted}
use Rattle.rows.specs.declared.Rows.{Rows}
use Rattle.rows.specs.Rows.{rowed}
use Rattle.rows.specs.Pending.{place_of}
use Rattle.access.specs.Matrix.{matrix_entry, filled}
use Rattle.access.specs.Merge.{Merging, merging, latched, since_of}
use Rattle.side.specs.declared.Side.{Side}
use Rattle.picture.specs.declared.Pen.{Pen}
use Rattle.picture.specs.Pen.{pen_after, matrix_after, character_of, graphics_of}
use Rattle.world.specs.World.{World}
use Rattle.lines.specs.Begin.{kind_in, line_of, wraps_of, raster_of, bad_begins, bad_of, rises_of}
use Rattle.lines.specs.Border.{hidden_in}
use Rattle.lines.specs.Rows.{base_of, rc_of, shows_of}
use Rattle.lines.specs.Whole.{merge_line}
use Rattle.lines.specs.Lines.{ticks_on}
use Rattle.lines.proofs.Parts.{bad_in, border_in, bus_in, rows_in, rowed_in}
use Rattle.lines.proofs.Sweep.{bad_at}
use Rattle.lines.proofs.Accesses.{before_fetch, after_fetch, during_fetch, not_over, before_graphics_lem, after_graphics, mid_rows, mid_rowed, mid_rows_lem, mid_rowed_lem, hidden_in_lem}
use Rattle.lines.proofs.Timing.{border_in_lem, rows_in_lem, rowed_in_lem, row_fetches, clock_in, low_fetch}
use Rattle.lines.proofs.World.{world_by, world_none, world_step}
use Rattle.lines.proofs.Columns.{column, columns, columns_none, columns_more, columns_line_lem}

module _ (g : Controls) (s : Side) where
  rowed_graphics : (n : ℕ) → (rowed_in g s n).graphics ≡ happens graphics_access (suc n)
  unfolding rowed
  rowed_graphics n = refl

  rowed_fetches : (n : ℕ) → happens character_access (suc n) ≡ false → (rowed_in g s n).fetches ≡ false
  unfolding rowed
  rowed_fetches n e = rw e

  rowed_rows : (n : ℕ) → (rowed_in g s n).rows ≡ rows_in g s (suc n)
  unfolding rows_in
  rowed_rows n = refl

cleared_at : (x : ℕ) → pick (happens graphics_cleared 56) 0 x ≡ 0
unfolding pick happens
cleared_at x = refl

cleared_not : (c : ℕ) → 56 < c → (x : ℕ) → pick (happens graphics_cleared c) 0 x ≡ x
unfolding pick happens
cleared_not c l x = rw (ne_eqb c 56 (λ z. omega arith))

-- where a bad line has the bus
has_bus : (b l : Bool) → (b ≡ true → l ≡ true) → (b && l) ≡ b
has_bus true l e = e refl
has_bus false l e = refl

module _ (h : Host) (g : Registers) (w : World) where
  abbrev G : Controls
  G = timed g

  abbrev s : Side
  s = w.side

  abbrev last : ℕ
  last = last_cycle (kind_in s)

  abbrev pub merge_of : World → Merging
  merge_of x = merging x.pen.ch x.pen.carry x.matrix

  abbrev W : ℕ → ℕ
  W v = (matrix_entry h.ram h.rom h.colour h.bank g.ptrs v).word

  -- the picture's step of the latch and the matrix line in cycle n + 1
  abbrev step_m : ℕ → Merging → Merging
  step_m n x =
      let q = rowed_in G s n in
      let y = cond q.graphics
      (latched x.matrix q.moves (border_in G s (suc n)).disabled (bad_in G s (suc n) || not (eqb q.rc 0)) (suc n) (since_of (bus_in G s (suc n)).clock w.pen.forced) q.vmli x.ch x.carry)
      (merging x.ch x.carry x.matrix) in
      merging y.ch y.carry (filled y.matrix (q.fetches && (bus_in G s (suc n)).aeclow) q.rows.vmli q.rows.vc g.ptrs h.ram h.rom h.colour h.bank)

  by_forced : (n : ℕ) (x : World) → (world_by h g w n x).pen.forced ≡ x.pen.forced
  unfolding pen_after
  by_forced n x = refl

  by_merge : (n : ℕ) (x : World) → x.pen.forced ≡ w.pen.forced → merge_of (world_by h g w n x) ≡ step_m n (merge_of x)
  unfolding pen_after matrix_after character_of
  by_merge n x e = rw e

  none_filled : (m : List ℕ) (p v : ℕ) → filled m false p v g.ptrs h.ram h.rom h.colour h.bank ≡ m
  unfolding filled
  none_filled m p v = refl

  quiet : (n : ℕ) → happens graphics_access (suc n) ≡ false → happens character_access (suc n) ≡ false → (x : Merging) → step_m n x ≡ x
  quiet n a b x = rw (rowed_graphics G s n, a, rowed_fetches G s n b, none_filled x.matrix (rowed_in G s n).rows.vmli (rowed_in G s n).rows.vc)

  W-mod : (v : ℕ) → W (v % 1024) ≡ W v
  unfolding matrix_entry
  W-mod v = let e : v % 1024 % 1024 ≡ v % 1024 = omega arith in rw e

  -- ---- what the columns go by

  abbrev bad : Bool
  bad = bad_of G s

  abbrev shows : Bool
  shows = shows_of (rises_of G s) s.rows

  abbrev base : ℕ
  base = base_of (wraps_of G s) s.rows

  abbrev rc : ℕ
  rc = rc_of bad s.rows

  abbrev plain : Bool
  plain = bad || not (eqb rc 0)

  abbrev hidden : ℕ → Bool
  hidden = hidden_in (line_of G s) (raster_of G s) G.den G.csel s.border

  abbrev since : ℕ → ℕ
  since j = since_of (clock_on (16 + j) s.bus.clock) w.pen.forced

  hidden_now : (j : ℕ) → j < 40 → (border_in G s (suc (15 + j))).disabled ≡ hidden j
  hidden_now j l = rw (border_in_lem G s (suc (15 + j))) (hidden_in_lem (line_of G s) (raster_of G s) G.den G.csel s.border (kind_in s) j l)

  bad_now : (j : ℕ) → bad_in G s (suc (15 + j)) ≡ bad
  bad_now j = bad_at G s (15 + j) ∙ rw (le-leb 3 (suc (15 + j)) (omega arith))

  column_rowed : (j : ℕ) → j < 40 → rowed_in G s (15 + j) ≡ mid_rowed bad (bad_begins G s) (rises_of G s) (wraps_of G s) s.rows j
  column_rowed j l = rowed_in_lem G s (15 + j) (rows_in_lem G s (15 + j)) ∙ mid_rowed_lem bad (bad_begins G s) (rises_of G s) (wraps_of G s) s.rows j l

  first_rows : (rowed_in G s 14).rows ≡ mid_rows bad (bad_begins G s) (rises_of G s) (wraps_of G s) s.rows 0
  first_rows = rowed_rows G s 14 ∙ rows_in_lem G s 15 ∙ mid_rows_lem bad (bad_begins G s) (rises_of G s) (wraps_of G s) s.rows 0 (omega arith)

  first_fetches : (rowed_in G s 14).fetches ≡ bad
  first_fetches = row_fetches G s 14 ∙ rw (during_fetch 15 (omega arith) (omega arith)) (ap (λ (x : Rows). x.access) (sym (rowed_rows G s 14) ∙ first_rows))

  bad_plain : (b x : Bool) → b ≡ true → (b || x) ≡ true
  bad_plain b x e = rw e

  module _ (counts : Counted w.side.bus.aec) where
    fetch_low : (n : ℕ) → 15 ≤ suc n → suc n ≤ 54 → (bad && (bus_in G s (suc n)).aeclow) ≡ bad
    fetch_low n l u = has_bus bad (bus_in G s (suc n)).aeclow (low_fetch G s counts n l u)

    -- whether the next character is fetched beside column j
    fills_at : (j : ℕ) → j < 40 → ((happens character_access (suc (15 + j)) && (bad && not (happens access_ends (suc (15 + j))))) && (bus_in G s (suc (15 + j))).aeclow) ≡ (bad && ltb j 39)
    fills_at j l = by (dec_lt j 39)
      where
        by : Dec (j < 39) → ((happens character_access (suc (15 + j)) && (bad && not (happens access_ends (suc (15 + j))))) && (bus_in G s (suc (15 + j))).aeclow) ≡ (bad && ltb j 39)
        by (yes k) =
            rw (lt-ltb j 39 k, during_fetch (suc (15 + j)) (omega arith) (omega arith), not_over (suc (15 + j)) (omega arith), and_true bad)
            (fetch_low (15 + j) (omega arith) (omega arith))
        by (no k) = let e : j ≡ 39 = omega arith in rw (e, after_fetch 55 (omega arith)) (sym (and_false bad))

    column_step : (j : ℕ) → j < 40 → (x : Merging) → step_m (15 + j) x ≡ column W base hidden since bad shows plain j x
    unfolding filled
    column_step j l x =
        let c : suc (15 + j) ≡ 16 + j = omega arith in
        rw (column_rowed j l, fills_at j l, hidden_now j l, bad_now j, clock_in G s counts (15 + j) (omega arith), c)

    -- cycle 15: the first character access
    abbrev first : Merging
    first = merging w.pen.ch w.pen.carry (cond bad (set w.matrix (place_of 0) (W base)) w.matrix)

    first_fills : step_m 14 (merge_of w) ≡ first
    unfolding filled
    first_fills = rw (rowed_graphics G s 14, before_graphics_lem 15 (omega arith), first_fetches, first_rows, fetch_low 14 (omega arith) (omega arith))

  -- ---- over the line

  module _ (end : w.side.beam.cycle ≡ last_cycle (kind_in w.side)) where
    pub forced_in : (n : ℕ) → n ≤ last → (ticks_on h g n w).pen.forced ≡ w.pen.forced
    forced_in zero l = ap (λ (x : World). x.pen.forced) (world_none h g w end)
    forced_in (suc n) l = ap (λ (x : World). x.pen.forced) (world_step h g w end n l) ∙ by_forced n (ticks_on h g n w) ∙ forced_in n (omega arith)

    merge_step : (n : ℕ) → n < last → merge_of (ticks_on h g (suc n) w) ≡ step_m n (merge_of (ticks_on h g n w))
    merge_step n l = ap merge_of (world_step h g w end n l) ∙ by_merge n (ticks_on h g n w) (forced_in n (omega arith))

    early : (n : ℕ) → n < 15 → merge_of (ticks_on h g n w) ≡ merge_of w
    early zero l = ap merge_of (world_none h g w end)
    early (suc n) l =
        merge_step n (omega (arith, last_least (kind_in s)))
        ∙ quiet n (before_graphics_lem (suc n) (omega arith)) (before_fetch (suc n) l) (merge_of (ticks_on h g n w))
        ∙ early n (omega arith)

    late : (d : ℕ) → 55 + d ≤ last → merge_of (ticks_on h g (55 + d) w) ≡ merge_of (ticks_on h g 55 w)
    late zero l = refl
    late (suc d) l =
        let e : 55 + suc d ≡ suc (55 + d) = omega arith in
        rw e
        (merge_step (55 + d) (omega arith)
        ∙ quiet (55 + d) (after_graphics (suc (55 + d)) (omega arith)) (after_fetch (suc (55 + d)) (omega arith)) (merge_of (ticks_on h g (55 + d) w))
        ∙ late d (omega arith))

    module _ (counts : Counted w.side.bus.aec) where
      fifteen : merge_of (ticks_on h g 15 w) ≡ first counts
      fifteen = merge_step 14 (omega (arith, last_least (kind_in s))) ∙ ap (step_m 14) (early 14 (omega arith)) ∙ first_fills counts

      in_columns : (j : ℕ) → j ≤ 40 → merge_of (ticks_on h g (15 + j) w) ≡ columns W base hidden since bad shows plain j (first counts)
      in_columns zero l = fifteen ∙ sym (columns_none W base hidden since bad shows plain (first counts))
      in_columns (suc j) l =
          let e : 15 + suc j ≡ suc (15 + j) = omega arith in
          rw e
          (merge_step (15 + j) (omega (arith, last_least (kind_in s)))
          ∙ column_step counts j l (merge_of (ticks_on h g (15 + j) w))
          ∙ ap (column W base hidden since bad shows plain j) (in_columns j (omega arith))
          ∙ sym (columns_more W base hidden since bad shows plain j (first counts)))

      pub merge_line_lem : merge_of (ticks_on h g last w) ≡ merge_line h g w
      unfolding merge_line
      merge_line_lem =
          let e : last ≡ 55 + (last - 55) = omega (arith, last_least (kind_in s)) in
          ap (λ (n : ℕ). merge_of (ticks_on h g n w)) e
          ∙ late (last - 55) (omega (arith, last_least (kind_in s)))
          ∙ in_columns 40 (omega arith)
          ∙ columns_line_lem W base hidden since W-mod w.matrix w.pen.ch w.pen.carry bad shows plain (bad_plain bad (not (eqb rc 0)))

    -- ---- the modes, and the graphics byte

    abbrev mode : ℕ
    mode = mode_number g.ctrl1 g.ctrl2

    abbrev pub Modes : Pen → Type 0
    Modes p = (p.mode ≡ mode_number g.ctrl1 g.ctrl2) × ((p.old ≡ pick w.pen.changing (mode_number g.ctrl1 g.ctrl2) w.pen.old) × (p.changing ≡ false))

    by_modes : (n : ℕ) (x : World) → ((world_by h g w n x).pen.mode ≡ mode) × (((world_by h g w n x).pen.old ≡ pick x.pen.changing mode x.pen.old) × ((world_by h g w n x).pen.changing ≡ false))
    unfolding pen_after
    by_modes n x = (refl, (refl, refl))

    modes_first : Modes (ticks_on h g 1 w).pen
    modes_first =
        let e : (ticks_on h g 1 w).pen ≡ (world_by h g w 0 w).pen = ap (λ (x : World). x.pen) (world_step h g w end 0 (omega (arith, last_least (kind_in s))) ∙ ap (world_by h g w 0) (world_none h g w end)) in
        rw e (by_modes 0 w)

    modes_next : (n : ℕ) → suc n < last → Modes (ticks_on h g (suc n) w).pen → Modes (ticks_on h g (suc (suc n)) w).pen
    modes_next n l m =
        let e : (ticks_on h g (suc (suc n)) w).pen ≡ (world_by h g w (suc n) (ticks_on h g (suc n) w)).pen = ap (λ (x : World). x.pen) (world_step h g w end (suc n) l) in
        let q = by_modes (suc n) (ticks_on h g (suc n) w) in
        let o : pick (ticks_on h g (suc n) w).pen.changing mode (ticks_on h g (suc n) w).pen.old ≡ (ticks_on h g (suc n) w).pen.old = rw m.1.1 (picks false mode (ticks_on h g (suc n) w).pen.old) in
        rw e (q.0, (q.1.0 ∙ o ∙ m.1.0, q.1.1))

    pub modes_in : (n : ℕ) → n < last → Modes (ticks_on h g (suc n) w).pen
    modes_in zero l = modes_first
    modes_in (suc n) l = modes_next n l (modes_in n (omega arith))

    by_gfx : (n : ℕ) (x : World) → (rowed_in G s n).graphics ≡ false → (world_by h g w n x).pen.gfx ≡ pick (happens graphics_cleared (suc n)) 0 x.pen.gfx
    unfolding pen_after graphics_of
    by_gfx n x e = rw e

    gfx_step : (n : ℕ) → 55 ≤ n → n < last → (ticks_on h g (suc n) w).pen.gfx ≡ pick (happens graphics_cleared (suc n)) 0 (ticks_on h g n w).pen.gfx
    gfx_step n u l = ap (λ (x : World). x.pen.gfx) (world_step h g w end n l) ∙ by_gfx n (ticks_on h g n w) (rowed_graphics G s n ∙ after_graphics (suc n) (omega arith))

    pub gfx_in : (d : ℕ) → 56 + d ≤ last → (ticks_on h g (suc (55 + d)) w).pen.gfx ≡ 0
    gfx_in zero l = gfx_step 55 (omega arith) (omega arith) ∙ cleared_at (ticks_on h g 55 w).pen.gfx
    gfx_in (suc d) l =
        let e : 55 + suc d ≡ suc (55 + d) = omega arith in
        rw e (gfx_step (suc (55 + d)) (omega arith) (omega arith) ∙ cleared_not (suc (suc (55 + d))) (omega arith) (ticks_on h g (suc (55 + d)) w).pen.gfx ∙ gfx_in d (omega arith))
