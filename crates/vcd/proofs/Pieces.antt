-- A tick's values as they are written, one after the other, are its list of changes. Assumes nothing.
use Prim.Native.Nat.{ℕ, suc}
use mathlib.Core.Path.{◌≡◌, refl, sym, ◌∙◌, ap}
use mathlib.Core.Bool.{Bool, true, false, cond}
use mathlib.Core.List.{List, [], ◌∷◌, ◌++◌, append_assoc, append-nil}
use native.Mathlib.Omega.{arith}
use lib.Dec.{eqb}
use lib.ListN.{length}
use Rattle.vcd.specs.declared.Record.{Record}
use Rattle.vcd.specs.Signals.{Change, change, values_of, width_of, changes_from, changes_of, all_from, all_of}
use Rattle.vcd.specs.Text.{changes_text}
use Rattle.vcd.specs.Machinery.Steps.{part_text, beam_text, rest_text}

unfoldable parts : ℕ → Bool → List ℕ → List ℕ → List ℕ
parts k all (x ∷ was) (y ∷ now) = part_text k (width_of k) all x y ++ parts (suc k) all was now
parts k all [] now = []
parts k all (x ∷ was) [] = []

eight : (all : Bool) (was r : Record) → parts 0 all (values_of was) (values_of r) ≡ beam_text all was r ++ rest_text all was r
unfolding parts values_of width_of beam_text rest_text
eight all was r = simp (append_assoc, append-nil)

every : (k : ℕ) (was now : List ℕ) → length was ≡ length now → parts k true was now ≡ changes_text (all_from k now)
unfolding parts part_text changes_text all_from
every k [] [] e = refl
every k [] (y ∷ now) e = absurd (omega arith)
every k (x ∷ was) [] e = absurd (omega arith)
every k (x ∷ was) (y ∷ now) e = ap (λ (l : List ℕ). part_text k (width_of k) true x y ++ l) (every (suc k) was now (omega arith))

one_part : (k x y : ℕ) (cs : List Change) (same : Bool) → eqb x y ≡ same → part_text k (width_of k) false x y ++ changes_text cs ≡ changes_text (cond same cs (change k y ∷ cs))
unfolding part_text changes_text
one_part k x y cs true e = simp e
one_part k x y cs false e = simp e

moved : (k : ℕ) (was now : List ℕ) → parts k false was now ≡ changes_text (changes_from k was now)
unfolding parts changes_text changes_from
moved k [] now = refl
moved k (x ∷ was) [] = refl
moved k (x ∷ was) (y ∷ now) =
    ap (λ (l : List ℕ). part_text k (width_of k) false x y ++ l) (moved (suc k) was now)
    ∙ one_part k x y (changes_from (suc k) was now) (eqb x y) refl

pub all_values : (was r : Record) → beam_text true was r ++ rest_text true was r ≡ changes_text (all_of r)
unfolding values_of
all_values was r = sym (eight true was r) ∙ every 0 (values_of was) (values_of r) refl

pub changed_values : (was r : Record) → beam_text false was r ++ rest_text false was r ≡ changes_text (changes_of was r)
changed_values was r = sym (eight false was r) ∙ moved 0 (values_of was) (values_of r)
