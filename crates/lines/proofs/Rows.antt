-- The row counters over a line. Assumes nothing.
use Prim.Native.Nat.{ℕ, zero, suc, ◌+◌, ◌-◌}
use mathlib.Core.Path.{◌≡◌, refl, ◌∙◌, sym, ap}
use mathlib.Core.Bool.{Bool, true, false, not, ◌&&◌, ◌||◌, cond}
use native.Mathlib.Omega.{arith}
use lib.Dec.{eqb, leb}
use Rattle.laws.specs.Pick.{pick}
use Rattle.laws.proofs.Choice.{or_false, and_false, and_true}
use Rattle.schedule.specs.Kind.{Kind, the6569, the6567_r8, last_cycle}
use Rattle.schedule.specs.Diagram.{happens}
use Rattle.schedule.proofs.Places.{last_least}
use Rattle.rows.specs.declared.Rows.{Rows}
use Rattle.rows.specs.declared.Rowed.{Rowed}
use Rattle.rows.specs.Rows.{rowed, vc_after, vmli_after, rc_after, access_after, display_after}
use Rattle.lines.specs.Rows.{base_of, rc_of, shows_of, rows_line}
use Rattle.lines.proofs.Through.{through, through_on, beyond, times}

module _ (bad begins rises wraps : Bool) where
  -- the display logic in cycle c
  abbrev pub rowed_at : ℕ → Rows → Rowed
  rowed_at c r = rowed c (cond (leb 3 c) bad begins) (eqb c 1 && rises) (eqb c 2 && wraps) r

  unfoldable pub row_step : ℕ → Rows → Rows
  row_step c r = (rowed_at c r).rows

  -- up to cycle 15: loaded and chosen
  pub chosen : (r : Rows) → through row_step 15 r ≡ record { vc = base_of wraps r; vcbase = base_of wraps r; rc = rc_of bad r; vmli = 0; display = shows_of rises r; transition = false; access = bad }
  unfolding through row_step rowed happens pick vc_after vmli_after rc_after access_after display_after base_of rc_of shows_of
  chosen r = simp (or_false, and_true, and_false)

  -- cycles 16 to 55: forty accesses
  columns : (shows on : Bool) (base rc : ℕ)
      → beyond row_step 15 40 (record { vc = base; vcbase = base; rc = rc; vmli = 0; display = shows; transition = false; access = on })
      ≡ record { vc = times 40 (vc_after 1 shows) base; vcbase = base; rc = rc; vmli = times 40 (vmli_after 1 shows) 0; display = shows; transition = false; access = false }
  unfolding beyond row_step rowed happens pick rc_after access_after display_after
  columns true true base rc = refl
  columns true false base rc = refl
  columns false true base rc = refl
  columns false false base rc = refl

  -- from cycle 56 to the last: the row ends
  ends : (k : Kind) (shows : Bool) (vc base rc vmli : ℕ)
      → beyond row_step 55 (last_cycle k - 55) (record { vc = vc; vcbase = base; rc = rc; vmli = vmli; display = shows; transition = false; access = false })
      ≡ record { vc = vc; vcbase = pick (eqb rc 7) vc base; rc = rc_after ((shows && not (eqb rc 7)) || bad) rc; vmli = vmli; display = (shows && not (eqb rc 7)) || bad; transition = false; access = false }
  unfolding beyond row_step rowed happens pick vc_after vmli_after access_after display_after rc_after
  ends the6569 true vc base rc vmli = simp or_false
  ends the6569 false vc base rc vmli = simp or_false
  ends the6567_r8 true vc base rc vmli = simp or_false
  ends the6567_r8 false vc base rc vmli = simp or_false

pub vc_times : (n : ℕ) (shows : Bool) (vc : ℕ) → times (suc n) (vc_after 1 shows) vc ≡ vc_after (suc n) shows vc
unfolding vc_after
vc_times zero shows vc = refl
vc_times (suc n) true vc = rw (vc_times n true vc) (omega arith)
vc_times (suc n) false vc = vc_times n false vc

pub vmli_times : (n : ℕ) (shows : Bool) (vmli : ℕ) → times (suc n) (vmli_after 1 shows) vmli ≡ vmli_after (suc n) shows vmli
unfolding vmli_after
vmli_times zero shows vmli = refl
vmli_times (suc n) true vmli = rw (vmli_times n true vmli) (omega arith)
vmli_times (suc n) false vmli = vmli_times n false vmli

module _ (bad begins rises wraps : Bool) (r : Rows) where
  abbrev step : ℕ → Rows → Rows
  step = row_step bad begins rises wraps

  whole : (k : Kind) → 55 + (last_cycle k - 55) ≡ last_cycle k
  whole k = omega (arith, last_least k)

  pub rows_line_lem : (k : Kind) → through step (last_cycle k) r ≡ rows_line bad rises wraps r
  unfolding rows_line
  rows_line_lem k =
      ap (λ (n : ℕ). through step n r) (sym (whole k))
      ∙ through_on step 55 (last_cycle k - 55) r
      ∙ ap (beyond step 55 (last_cycle k - 55))
      (through_on step 15 40 r
      ∙ ap (beyond step 15 40) (chosen bad begins rises wraps r)
      ∙ columns bad begins rises wraps (shows_of rises r) bad (base_of wraps r) (rc_of bad r))
      ∙ ends bad begins rises wraps k (shows_of rises r) _ (base_of wraps r) (rc_of bad r) _
      ∙ rw (vc_times 39 (shows_of rises r) (base_of wraps r), vmli_times 39 (shows_of rises r) 0)
