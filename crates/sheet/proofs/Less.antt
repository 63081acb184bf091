-- A turn keeps the cursor past what was read; where the run goes on, it leaves less to read, or ends it. Assumes nothing.
use Prim.Native.Nat.{ℕ, ◌-◌, ◌<◌}
use mathlib.Core.Path.{◌≡◌, refl, ap}
use mathlib.Core.Bool.{Bool, true, false}
use mathlib.Core.List.{List}
use native.Mathlib.Omega.{arith}
use lib.Dec.{eqb}
use Rattle.script.specs.declared.Item.{Item}
use Rattle.script.specs.declared.Item.TheVariants as item
use Rattle.script.specs.declared.Step.{Step}
use Rattle.script.specs.declared.Cursor.{Cursor}
use Rattle.script.specs.Machinery.Cursor.{next_of, is_last}
use Rattle.script.proofs.Whole.{Onward, goes_on_lem}
use Rattle.run.specs.declared.Done.{Done}
use Rattle.run.specs.Run.{done_of}
use Rattle.sheet.specs.declared.Run.{Run}
use Rattle.driver.specs.declared.Run.{Run as Drive}
use Rattle.driver.specs.Driver.{Store, host_of, made_by, made_doing, made_at}
use Rattle.sheet.specs.Sheet.{driven_of, with_text, cursor_at, run_at, run_in}
use Rattle.sheet.specs.Machinery.Fill.{ahead}

did_cursor : (r : Drive) (s : Step) (d : Done) (fine : Bool) → eqb d.refused 0 ≡ fine → (made_by r s d).run.cursor ≡ r.cursor
did_cursor r s d true e = simp e
did_cursor r s d false e = simp e

pub keeps_cursor : (m : Store) (r : Run) (i : Item) → (run_at m r i).cursor ≡ r.cursor
unfolding run_at made_at made_doing
keeps_cursor m r (item.Changes memory n) = refl
keeps_cursor m r (item.Change memory address value) = refl
keeps_cursor m r (item.Steps n) = refl
keeps_cursor m r (item.Do s) = did_cursor (driven_of r) s (done_of (host_of m r.bank) r.chip s) (eqb (done_of (host_of m r.bank) r.chip s).refused 0) refl
keeps_cursor m r item.Done = refl
keeps_cursor m r (item.Refused number) = refl

module _ (s : List ℕ) (m : Store) (r : Run) (on : r.going ≡ true) where
  -- a run that stands further on
  on_less : (next : Cursor) (x : Run) → x.going ≡ true → x.cursor ≡ next → Onward s r.cursor next → ahead s x < ahead s r
  unfolding ahead
  on_less next x g e o =
      let place = ap (λ (c : Cursor). c.at) e in
      simp (on, g) (omega (arith, place, o.further, o.inside))

  -- a run that is over
  over_less : (x : Run) → x.going ≡ false → ahead s x < ahead s r
  unfolding ahead
  over_less x g = simp (on, g) (omega arith)

  did_less : (next : Cursor) (st : Step) (d : Done) (at : ℕ) (fine : Bool) → eqb d.refused 0 ≡ fine → Onward s r.cursor next → ahead s (with_text (made_by (driven_of (cursor_at r next)) st d).run at) < ahead s r
  did_less next st d at true e o = simp e (on_less next _ on refl o)
  did_less next st d at false e o = simp e (over_less _ refl)

  at_less : (next : Cursor) (i : Item) → (is_last i ≡ false → Onward s r.cursor next) → ahead s (run_at m (cursor_at r next) i) < ahead s r
  unfolding run_at made_at made_doing
  at_less next (item.Changes memory n) o = on_less next _ on refl (o refl)
  at_less next (item.Change memory address value) o = on_less next _ on refl (o refl)
  at_less next (item.Steps n) o = on_less next _ refl refl (o refl)
  at_less next (item.Do st) o = did_less next st (done_of (host_of m r.bank) r.chip st) _ (eqb (done_of (host_of m r.bank) r.chip st).refused 0) refl (o refl)
  at_less next item.Done o = over_less _ refl
  at_less next (item.Refused number) o = over_less _ refl

  pub turn_less : ahead s (run_in s m r) < ahead s r
  unfolding run_in
  turn_less = at_less (next_of s r.cursor).cursor (next_of s r.cursor).item (goes_on_lem s r.cursor)
