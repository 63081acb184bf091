-- A turn from its parts: what a call left, by the names of the definitions. Assumes nothing.
use mathlib.Core.Path.{◌≡◌, sym, ◌∙◌, ap, subst}
use mathlib.Core.Bool.{false}
use borrow.Author.Tests.{eq-eqb, ne_eqb}
use Rattle.script.specs.declared.Step.{Step}
use Rattle.script.specs.declared.Item.{Item}
use Rattle.script.specs.declared.Found.{Found}
use Rattle.run.specs.declared.Done.{Done}
use Rattle.run.specs.Run.{done_of}
use Rattle.driver.specs.declared.Run.{Run}
use Rattle.driver.specs.declared.Event.{Event}
use Rattle.driver.specs.declared.Event.TheVariants as event
use Rattle.driver.specs.declared.Made.{Made}
use Rattle.driver.specs.Driver.{Store, host_of, cursor_at, going≔, step_done, made_reading, made, event_of, made_by, made_doing, made_at, made_on, store_at}

pub same_run : (r : Made) (n k : Run) (e : Event) → r ≡ made n e → n ≡ k → r ≡ made k e
same_run r n k e a b = a ∙ ap (λ (x : Run). made x e) b

-- a step, by its answer
module _ (m : Store) (run : Run) (s : Step) (d : Done) (did : d ≡ done_of (host_of m run.bank) run.chip s) (r : Made) where
  by_done : d.refused ≡ 0 → r ≡ made_reading (step_done run d) (event_of s) d.reads → r ≡ made_by run s d
  by_done z e = simp (eq-eqb _ _ z) e

  by_refused : (d.refused ≡ 0 → ⊥) → r ≡ made (going≔ false run) (event.Refused d.refused) → r ≡ made_by run s d
  by_refused z e = simp (ne_eqb _ _ z) e

  pub done_by : (n : Run) (e : Event) → d.refused ≡ 0 → r ≡ made_reading n e d.reads → n ≡ step_done run d → e ≡ event_of s → r ≡ made_doing m run s
  unfolding made_doing
  done_by n e z a b f =
      subst (λ (x : Done). r ≡ made_by run s x) did
      (by_done z (a ∙ ap (λ (x : Run). made_reading x e d.reads) b ∙ ap (λ (x : Event). made_reading (step_done run d) x d.reads) f))

  pub refused_by : (n : Run) → (d.refused ≡ 0 → ⊥) → r ≡ made n (event.Refused d.refused) → n ≡ going≔ false run → r ≡ made_doing m run s
  unfolding made_doing
  refused_by n z a b = subst (λ (x : Done). r ≡ made_by run s x) did (by_refused z (same_run r n (going≔ false run) (event.Refused d.refused) a b))

-- an item, from what was done for it
module _ (m after-m : Store) (b run : Run) (r : Made) (found : Found) (i : Item) where
  pub turned_by : run ≡ cursor_at b found.cursor → found.item ≡ i → r ≡ made_at m run i → after-m ≡ store_at m i → (r ≡ made_on m b found) × (after-m ≡ store_at m found.item)
  turned_by moved was e f = (
    subst (λ (j : Item). r ≡ made_at m (cursor_at b found.cursor) j) (sym was) (subst (λ (x : Run). r ≡ made_at m x i) moved e),
    subst (λ (j : Item). after-m ≡ store_at m j) (sym was) f,
  )
