-- A turn from its parts: what the driver made and what was told, by the names of the definitions. Assumes nothing.
use Prim.Native.Nat.{ℕ, ◌+◌, ◌≤◌}
use mathlib.Core.Path.{◌≡◌, sym, ◌∙◌, ap, subst}
use mathlib.Core.Bool.{Bool, true, false, cond}
use mathlib.Core.List.{List}
use Rattle.script.specs.declared.Found.{Found}
use Rattle.driver.specs.declared.Made.{Made}
use Rattle.driver.specs.Driver.{Store, made_on, store_at}
use Rattle.line.specs.Text.{Written}
use Rattle.vcd.specs.declared.Wave.{Wave}
use Rattle.tape.specs.declared.Tape.{Tape}
use Rattle.tape.specs.declared.Noted.{Noted}
use Rattle.tape.specs.Machinery.Tape.{tape, wave_by, said_by, tape_by, said_on, tape_on}

module _ (m after-m : Store) (b r : Tape) (x : Made) (found : Found) (n : Noted) (out after : List ℕ) where
  abbrev Turn : Made → Type 0
  Turn y = (r.at ≤ b.at + 292) × ((r ≡ tape_by b y) × Written out b.at (said_by b y) after r.at)

  pub turned_by : x ≡ made_on m b.run found → r ≡ tape x.run n.wave n.at → n.at ≤ b.at + 292 → n.wave ≡ wave_by x.event x.run.chip b.wave → Written out b.at (said_by b x) after n.at → after-m ≡ store_at m found.item
      → (r.at ≤ b.at + 292) × ((r ≡ tape_on m b found) × (Written out b.at (said_on m b found) after r.at × (after-m ≡ store_at m found.item)))
  turned_by made-is r-is h wave-is w f =
      let here : Turn x = (
        subst (λ (y : Tape). y.at ≤ b.at + 292) (sym r-is) h,
        (
          r-is ∙ ap (λ (v : Wave). tape x.run v n.at) wave-is ∙ ap (tape x.run (wave_by x.event x.run.chip b.wave)) w.place,
          subst (λ (y : Tape). Written out b.at (said_by b x) after y.at) (sym r-is) w,
        ),
      ) in
      let there = subst Turn made-is here in
      (there.0, (there.1.0, (there.1.1, f)))

-- a tape at the place where its next piece goes
pub roomed_by : (t : Tape) (b : Bool) {at : ℕ} → at ≡ cond b t.at 0 → tape t.run t.wave at ≡ cond b t (tape t.run t.wave 0)
roomed_by t true e = ap (tape t.run t.wave) e
roomed_by t false e = ap (tape t.run t.wave) e
