-- A turn from its parts: what the driver made and what was told, by the names of the definitions. Assumes nothing.
use Prim.Native.Nat.{ℕ, ◌+◌, ◌≤◌}
use mathlib.Core.Path.{◌≡◌, sym, ◌∙◌, ap, subst}
use mathlib.Core.Bool.{Bool, true, false, cond}
use mathlib.Core.List.{List}
use Rattle.script.specs.declared.Found.{Found}
use Rattle.driver.specs.declared.Made.{Made}
use Rattle.driver.specs.Driver.{Store, made_on, store_at}
use Rattle.line.specs.Text.{Written}
use Rattle.clerk.specs.declared.Page.{Page}
use Rattle.clerk.specs.Bus.{text_of}
use Rattle.clerk.specs.Machinery.Page.{page, page_by, said_on, page_on}

module _ (m after-m : Store) (b r : Page) (x : Made) (found : Found) (at : ℕ) (out after : List ℕ) where
  abbrev Turn : Made → Type 0
  Turn y = (r.at ≤ b.at + 46) × ((r ≡ page_by b y) × Written out b.at (text_of y) after r.at)

  pub turned_by : x ≡ made_on m b.run found → r ≡ page x.run at → at ≤ b.at + 46 → Written out b.at (text_of x) after at → after-m ≡ store_at m found.item
      → (r.at ≤ b.at + 46) × ((r ≡ page_on m b found) × (Written out b.at (said_on m b found) after r.at × (after-m ≡ store_at m found.item)))
  turned_by made-is r-is h w f =
      let here : Turn x = (
        subst (λ (y : Page). y.at ≤ b.at + 46) (sym r-is) h,
        (
          r-is ∙ ap (page x.run) w.place,
          subst (λ (y : Page). Written out b.at (text_of x) after y.at) (sym r-is) w,
        ),
      ) in
      let there = subst Turn made-is here in
      (there.0, (there.1.0, (there.1.1, f)))

-- a page at the place where its next line goes
pub roomed_by : (p : Page) (b : Bool) {at : ℕ} → at ≡ cond b p.at 0 → page p.run at ≡ cond b p (page p.run 0)
roomed_by p true e = ap (page p.run) e
roomed_by p false e = ap (page p.run) e
