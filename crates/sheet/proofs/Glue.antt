-- A turn from its parts: what the driver made and what was told, by the names of the definitions. Assumes nothing.
use Prim.Native.Nat.{ℕ, ◌+◌, ◌≤◌}
use mathlib.Core.Path.{◌≡◌, sym, ◌∙◌, ap, subst}
use mathlib.Core.List.{List}
use lib.ListN.{length}
use Rattle.script.specs.declared.Found.{Found}
use Rattle.driver.specs.declared.Run.{Run as Drive}
use Rattle.driver.specs.declared.Made.{Made}
use Rattle.driver.specs.Driver.{Store, made_on, store_at}
use Rattle.line.specs.Text.{Written}
use Rattle.sheet.specs.declared.Run.{Run}
use Rattle.sheet.specs.Sheet.{driven_of, with_text, text_of, said_at, run_at, said_on, run_on}

module _ (m after-m : Store) (b r : Run) (start : Drive) (x : Made) (found : Found) (at : ℕ) (out after : List ℕ) where
  abbrev Turn : Made → Type 0
  Turn y = (r.at ≤ b.at + 64) × (r ≡ with_text y.run (b.at + length (text_of y))) × Written out b.at (text_of y) after r.at

  pub turned_by : start ≡ driven_of b → x ≡ made_on m start found → r ≡ with_text x.run at → at ≤ b.at + 64 → Written out b.at (text_of x) after at → after-m ≡ store_at m found.item
      → (r.at ≤ b.at + 64) × ((r ≡ run_on m b found) × (Written out b.at (said_on m b found) after r.at × (after-m ≡ store_at m found.item)))
  unfolding run_at said_at
  turned_by began made-is r-is h w f =
      let same : x ≡ made_on m (driven_of b) found = made-is ∙ ap (λ (d : Drive). made_on m d found) began in
      let here : Turn x = (
        subst (λ (y : Run). y.at ≤ b.at + 64) (sym r-is) h,
        r-is ∙ ap (with_text x.run) w.place,
        subst (λ (y : Run). Written out b.at (text_of x) after y.at) (sym r-is) w,
      ) in
      let there = subst Turn same here in
      (there.0, (there.1, (there.2, f)))
