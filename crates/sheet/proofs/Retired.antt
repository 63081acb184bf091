-- 02 (vii): the chart of a file with a retired step is that of the file cut there, up to the refusal: 10 for 7. Assumes nothing.
use Prim.Native.Nat.{ℕ}
use mathlib.Core.Path.{◌≡◌, refl, sym, ap, ◌∙◌}
use mathlib.Core.Bool.{Bool, true, false}
use mathlib.Core.List.{List, [], ◌∷◌, ◌++◌, append-nil, append_assoc}
use lib.ListN.{take}
use Rattle.script.specs.declared.Item.{Item}
use Rattle.script.specs.declared.Item.TheVariants as item
use Rattle.script.specs.File.{run_of, place_after}
use Rattle.script.proofs.Retired.{ending, cut_there}
use Rattle.driver.specs.Driver.{Store, store_at, made_at}
use Rattle.line.specs.Text.{refused_of}
use Rattle.sheet.specs.declared.Run.{Run}
use Rattle.sheet.specs.Sheet.{begun_of, text_by, said_at, run_at}
use Rattle.sheet.specs.Chart.{told, chart_of, SameUpTo}

-- a refusal alone
told_refused : (m : Store) (r : Run) (number : ℕ) → told m r (item.Refused number ∷ []) ≡ refused_of number r.done
unfolding told said_at run_at made_at text_by
told_refused m r number = append-nil (refused_of number r.done)

-- an item that ends the run, and one that does not
goes_on_lem : (m : Store) (r : Run) (i : Item) (more : List Item) → (run_at m r i).going ≡ true → told m r (i ∷ more) ≡ said_at m r i ++ told (store_at m i) (run_at m r i) more
unfolding told
goes_on_lem m r i more e = rw e

ends_here : (m : Store) (r : Run) (i : Item) (more : List Item) → (run_at m r i).going ≡ false → told m r (i ∷ more) ≡ said_at m r i ++ []
unfolding told
ends_here m r i more e = rw e

-- and after other items
module _ (one other : ℕ) where
  same_up_to : (m : Store) (r : Run) (xs : List Item) → SameUpTo one other (told m r (ending xs one)) (told m r (ending xs other))
  same_up_to m r [] = record { text = []; reached = true; done = r.done; here = told_refused m r one; there = told_refused m r other }
  same_up_to m r (i ∷ xs) = by_going m r i xs (run_at m r i).going refl (same_up_to (store_at m i) (run_at m r i) xs)
    where
      by_going : (m : Store) (r : Run) (i : Item) (xs : List Item) (going : Bool) → (run_at m r i).going ≡ going
          → SameUpTo one other (told (store_at m i) (run_at m r i) (ending xs one)) (told (store_at m i) (run_at m r i) (ending xs other))
          → SameUpTo one other (told m r (ending (i ∷ xs) one)) (told m r (ending (i ∷ xs) other))
      by_going m r i xs true e t =
          record {
            text = said_at m r i ++ t.text;
            reached = t.reached;
            done = t.done;
            here = goes_on_lem m r i (ending xs one) e ∙ ap (λ (l : List ℕ). said_at m r i ++ l) t.here ∙ sym (append_assoc (said_at m r i) t.text _);
            there = goes_on_lem m r i (ending xs other) e ∙ ap (λ (l : List ℕ). said_at m r i ++ l) t.there ∙ sym (append_assoc (said_at m r i) t.text _);
          }
      by_going m r i xs false e t =
          record { text = said_at m r i; reached = false; done = 0; here = ends_here m r i (ending xs one) e; there = ends_here m r i (ending xs other) e }

pub retired_chart : (kind : ℕ) (m : Store) (s : List ℕ) (xs : List Item) → run_of s ≡ ending xs 10 → SameUpTo 10 7 (chart_of kind m s) (chart_of kind m (take (place_after xs) s))
unfolding chart_of
retired_chart kind m s xs e = rw (e, cut_there s xs e) (same_up_to 10 7 m (begun_of kind) xs)
