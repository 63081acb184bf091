-- What the display logic and the border say in each column, and that a bad line has the bus there. Assumes nothing.
use Prim.Native.Nat.{ℕ, zero, suc, ◌<◌, ◌≤◌, ◌+◌, ◌-◌}
use mathlib.Core.Path.{◌≡◌, refl, ◌∙◌, ap}
use mathlib.Core.Bool.{Bool, true, false, not, ◌&&◌}
use native.Mathlib.Omega.{arith}
use lib.Dec.{eqb, leb}
use borrow.Author.Tests.{lt-ltb, le-leb, lt-leb, ne_eqb}
use Rattle.laws.specs.Pick.{pick}
use Rattle.laws.proofs.Choice.{and_false, and_true, or_false}
use Rattle.schedule.specs.Kind.{Kind, the6569, the6567_r8, last_cycle}
use Rattle.schedule.specs.Diagram.{happens, matrix_request, vc_load, access_chosen, access_ends, graphics_access, character_access, row_ends}
use Rattle.schedule.proofs.Places.{last_least}
use Rattle.border.specs.declared.Border.{Border}
use Rattle.arbitration.specs.declared.Bus.{Bus}
use Rattle.rows.specs.declared.Rows.{Rows}
use Rattle.rows.specs.declared.Rowed.{Rowed}
use Rattle.rows.specs.Rows.{rowed, vc_after, vmli_after, rc_after, access_after, display_after}
use Rattle.side.specs.Phases.{bordered, begin_at, left40_at, left38_at, right38_at, right40_at, remember_at, end_at}
use Rattle.lines.specs.Border.{hidden_in}
use Rattle.lines.specs.Bus.{Masks, asks, asked_before, low_in}
use Rattle.lines.specs.Rows.{base_of, rc_of, shows_of}
use Rattle.lines.proofs.Through.{through, through_suc, times}
use Rattle.lines.proofs.Border.{border_step}
use Rattle.lines.proofs.Rows.{rowed_at, row_step, chosen}

-- ---- on a bad line the bus is the chip's in every character access

matrix_on : (c : ℕ) → 12 ≤ c → c ≤ 54 → happens matrix_request c ≡ true
unfolding happens
matrix_on c l h = rw (le-leb 12 c l, le-leb c 54 h)

module _ (k : Kind) (m : Masks) (b : Bus) where
  asked_on : (c j : ℕ) → 12 + j ≤ c → c ≤ 54 → asked_before k true m b c j ≡ true
  unfolding asked_before asks
  asked_on c j l h = rw (lt-ltb j c (omega arith), matrix_on (c - j) (omega arith) (omega arith))

  -- Bauer 3.6.1: three cycles of warning, so from 15 on
  pub low_on : (c : ℕ) → 15 ≤ c → c ≤ 54 → low_in k true m b c ≡ true
  unfolding low_in
  low_on c l h = rw (asked_on c 0 (omega arith) h, asked_on c 1 (omega arith) h, asked_on c 2 (omega arith) h, asked_on c 3 (omega arith) h)

-- ---- the columns' cycles

pub before_fetch : (c : ℕ) → c < 15 → happens character_access c ≡ false
unfolding happens
before_fetch c l = rw (lt-leb 15 c l)

pub after_fetch : (c : ℕ) → 54 < c → happens character_access c ≡ false
unfolding happens
after_fetch c l = rw (lt-leb c 54 l, and_false (leb 15 c))

pub during_fetch : (c : ℕ) → 15 ≤ c → c ≤ 54 → happens character_access c ≡ true
unfolding happens
during_fetch c l h = rw (le-leb 15 c l, le-leb c 54 h)

pub not_over : (c : ℕ) → c ≤ 54 → happens access_ends c ≡ false
unfolding happens
not_over c h = ne_eqb c 55 (λ z. omega arith)

pub before_graphics_lem : (c : ℕ) → c ≤ 15 → happens graphics_access c ≡ false
unfolding happens
before_graphics_lem c l = rw (lt-leb 16 c (omega arith))

pub after_graphics : (c : ℕ) → 55 < c → happens graphics_access c ≡ false
unfolding happens
after_graphics c l = rw (lt-leb c 55 l, and_false (leb 16 c))

record Column (c : ℕ) : Type 0 where
  graphics : happens graphics_access c ≡ true
  loads : happens vc_load c ≡ false
  chosen : happens access_chosen c ≡ false
  ends : happens row_ends c ≡ false
  first : eqb c 1 ≡ false
  second : eqb c 2 ≡ false

column_at : (c : ℕ) → 16 ≤ c → c ≤ 55 → Column c
unfolding happens
column_at c l h =
    record {
      graphics = rw (le-leb 16 c l, le-leb c 55 h);
      loads = ne_eqb c 14 (λ z. omega arith);
      chosen = ne_eqb c 15 (λ z. omega arith);
      ends = ne_eqb c 58 (λ z. omega arith);
      first = ne_eqb c 1 (λ z. omega arith);
      second = ne_eqb c 2 (λ z. omega arith);
    }

-- ---- the display logic in the columns

module _ (bad begins rises wraps : Bool) where
  rowed_column : (c : ℕ) → Column c → (vc base rc vmli : ℕ) (shows a : Bool)
      → rowed_at bad begins rises wraps c (record { vc = vc; vcbase = base; rc = rc; vmli = vmli; display = shows; transition = false; access = a })
      ≡ record {
        rows = record { vc = vc_after 1 shows vc; vcbase = base; rc = rc; vmli = vmli_after 1 shows vmli; display = shows; transition = false; access = a && not (happens access_ends c) };
        vc = vc;
        vmli = vmli;
        rc = rc;
        graphics = true;
        moves = shows;
        waiting = false;
        fetches = happens character_access c && (a && not (happens access_ends c));
      }
  unfolding rowed pick access_after display_after rc_after
  rowed_column c k vc base rc vmli shows a = rw (k.graphics, k.loads, k.chosen, k.ends, k.first, k.second, or_false shows, and_true shows)

  module _ (r : Rows) where
    -- the rows before column j
    abbrev pub mid_rows : ℕ → Rows
    mid_rows j = record { vc = times j (vc_after 1 (shows_of rises r)) (base_of wraps r); vcbase = base_of wraps r; rc = rc_of bad r; vmli = times j (vmli_after 1 (shows_of rises r)) 0; display = shows_of rises r; transition = false; access = bad }

    -- and what the display logic says in it
    abbrev pub mid_rowed : ℕ → Rowed
    mid_rowed j =
        record {
          rows = record { vc = times (suc j) (vc_after 1 (shows_of rises r)) (base_of wraps r); vcbase = base_of wraps r; rc = rc_of bad r; vmli = times (suc j) (vmli_after 1 (shows_of rises r)) 0; display = shows_of rises r; transition = false; access = bad && not (happens access_ends (suc (15 + j))) };
          vc = (mid_rows j).vc;
          vmli = (mid_rows j).vmli;
          rc = rc_of bad r;
          graphics = true;
          moves = shows_of rises r;
          waiting = false;
          fetches = happens character_access (suc (15 + j)) && (bad && not (happens access_ends (suc (15 + j))));
        }

    in_column : (j : ℕ) → j < 40 → rowed_at bad begins rises wraps (suc (15 + j)) (mid_rows j) ≡ mid_rowed j
    in_column j l = rowed_column (suc (15 + j)) (column_at (suc (15 + j)) (omega arith) (omega arith)) (mid_rows j).vc (base_of wraps r) (rc_of bad r) (mid_rows j).vmli (shows_of rises r) bad

    step_rows : (c : ℕ) (x : Rows) → row_step bad begins rises wraps c x ≡ (rowed_at bad begins rises wraps c x).rows
    unfolding row_step
    step_rows c x = refl

    mid_next : (j : ℕ) → suc j < 40 → row_step bad begins rises wraps (suc (15 + j)) (mid_rows j) ≡ mid_rows (suc j)
    mid_next j l =
        step_rows (suc (15 + j)) (mid_rows j)
        ∙ ap (λ (x : Rowed). x.rows) (in_column j (omega arith))
        ∙ rw (not_over (suc (15 + j)) (omega arith), and_true bad)

    pub mid_rows_lem : (j : ℕ) → j < 40 → through (row_step bad begins rises wraps) (15 + j) r ≡ mid_rows j
    mid_rows_lem zero l = chosen bad begins rises wraps r
    mid_rows_lem (suc j) l =
        let e : 15 + suc j ≡ suc (15 + j) = omega arith in
        rw e (through_suc (row_step bad begins rises wraps) (15 + j) r ∙ ap (row_step bad begins rises wraps (suc (15 + j))) (mid_rows_lem j (omega arith)) ∙ mid_next j l)

    pub mid_rowed_lem : (j : ℕ) → j < 40 → rowed_at bad begins rises wraps (suc (15 + j)) (through (row_step bad begins rises wraps) (15 + j) r) ≡ mid_rowed j
    mid_rowed_lem j l = ap (rowed_at bad begins rises wraps (suc (15 + j))) (mid_rows_lem j l) ∙ in_column j l

-- ---- the border in the columns

module _ (line raster : ℕ) (den csel : Bool) (b : Border) where
  quiet : (k : Kind) (c : ℕ) → 19 ≤ c → c ≤ 55 → (x : Border) → border_step line raster den csel b k c x ≡ x
  unfolding bordered begin_at left40_at left38_at right38_at right40_at remember_at end_at happens
  quiet k c l h x =
      rw (
        ne_eqb c 1 (λ z. omega arith),
        ne_eqb c 17 (λ z. omega arith),
        ne_eqb c 18 (λ z. omega arith),
        ne_eqb c 56 (λ z. omega arith),
        ne_eqb c 57 (λ z. omega arith),
        lt-leb c 17 (omega arith),
        and_false (leb 16 c),
        ne_eqb c (last_cycle k) (λ z. omega (arith, last_least k)),
      )

  hidden_first : (k : Kind) → (through (border_step line raster den csel b k) 16 b).disabled ≡ hidden_in line raster den csel b 0
  unfolding through bordered begin_at left40_at left38_at right38_at right40_at remember_at end_at happens hidden_in
  hidden_first the6569 = refl
  hidden_first the6567_r8 = refl

  hidden_second : (k : Kind) → (through (border_step line raster den csel b k) 17 b).disabled ≡ hidden_in line raster den csel b 1
  unfolding through bordered begin_at left40_at left38_at right38_at right40_at remember_at end_at happens hidden_in
  hidden_second the6569 = refl
  hidden_second the6567_r8 = refl

  hidden_third : (k : Kind) → (through (border_step line raster den csel b k) 18 b).disabled ≡ hidden_in line raster den csel b 2
  unfolding through bordered begin_at left40_at left38_at right38_at right40_at remember_at end_at happens hidden_in
  hidden_third the6569 = refl
  hidden_third the6567_r8 = refl

  stays : (k : Kind) (n : ℕ) → 18 + n ≤ 55 → through (border_step line raster den csel b k) (18 + n) b ≡ through (border_step line raster den csel b k) 18 b
  stays k zero l = refl
  stays k (suc n) l =
      let e : 18 + suc n ≡ suc (18 + n) = omega arith in
      rw e (through_suc (border_step line raster den csel b k) (18 + n) b ∙ quiet k (suc (18 + n)) (omega arith) (omega arith) _ ∙ stays k n (omega arith))

  same_hidden : (n : ℕ) → hidden_in line raster den csel b 2 ≡ hidden_in line raster den csel b (suc (suc n))
  unfolding hidden_in
  same_hidden n = rw (ne_eqb (suc (suc n)) 0 (λ z. omega arith), ne_eqb (suc (suc n)) 1 (λ z. omega arith))

  pub hidden_in_lem : (k : Kind) (j : ℕ) → j < 40 → (through (border_step line raster den csel b k) (suc (15 + j)) b).disabled ≡ hidden_in line raster den csel b j
  hidden_in_lem k zero l = hidden_first k
  hidden_in_lem k (suc zero) l = hidden_second k
  hidden_in_lem k (suc (suc n)) l =
      let e : suc (15 + suc (suc n)) ≡ 18 + n = omega arith in
      rw e (ap (λ (x : Border). x.disabled) (stays k n (omega arith)) ∙ hidden_third k ∙ same_hidden n)
