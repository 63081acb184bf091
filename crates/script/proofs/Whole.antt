-- The calls of `next`, one after the other, give what the run file says, and each but the last goes nearer to its end. Assumes nothing.
use mathlib.Core.Path.{◌≡◌, refl, sym, ◌∙◌, ap}
use mathlib.Core.Bool.{Bool, true, false, cond}
use mathlib.Core.List.{List, [], ◌∷◌}
use Prim.Native.Nat.{ℕ, zero, suc, ◌+◌, ◌-◌, ◌≤◌, ◌<◌}
use native.Mathlib.Omega.{arith}
use Rattle.std.specs.Prelude.{Result, Ok, Err}
use lib.Dec.{eqb-suc-zero}
use lib.ListN.{length, drop}
use lib.Seq.{drop-drop}
use Rattle.script.specs.declared.Step.{Step}
use Rattle.script.specs.declared.Fault.{Fault}
use Rattle.script.specs.declared.Changed.{Changed}
use Rattle.script.specs.declared.Part.{Part}
use Rattle.script.specs.declared.Part.TheVariants as part
use Rattle.script.specs.declared.Item.{Item}
use Rattle.script.specs.declared.Item.TheVariants as item
use Rattle.script.specs.declared.Cursor.{Cursor}
use Rattle.script.specs.declared.Found.{Found}
use Rattle.script.specs.Step.{step_of}
use Rattle.script.specs.File.{size_of, count_of, change_of, end_of, after_count, after_change, after_step, changes, section, steps, script, run_of}
use Rattle.script.specs.Machinery.Cursor.{stays, count_from, change_from, step_from, changes_begun, steps_begun, changed, step_read, begun, recorded, start_of, next_of, is_last, read_from}
use Rattle.script.proofs.Room.{count_room, change_room, step_room}

-- what the file still says where so many records of a part are left
ahead : Part → ℕ → List ℕ → List Item
ahead part.Start n s = changes part.Start run_of n s
ahead part.Ram n s = changes part.Ram (section part.Rom (section part.Colour script)) n s
ahead part.Rom n s = changes part.Rom (section part.Colour script) n s
ahead part.Colour n s = changes part.Colour script n s
ahead part.Steps n s = steps n s

abbrev ahead_of : List ℕ → Cursor → List Item
ahead_of s c = ahead c.part c.left (drop c.at s)

-- an item that is not the last was there, and the cursor went past it
pub record Onward (s : List ℕ) (c next : Cursor) : Type 0 where
  pub further : c.at < next.at
  pub inside : next.at ≤ length s

-- one call says the first of what the file still says, and leaves the others
record Turn (s : List ℕ) (c : Cursor) (said : List Item) (found : Found) : Type 0 where
  says : said ≡ found.item ∷ cond (is_last found.item) [] (ahead_of s found.cursor)
  onward : is_last found.item ≡ false → Onward s c found.cursor

never : {P : Type 0} → true ≡ false → P
never e = absurd (let z : ◌≡◌ {A = Bool} true false = e in let n : ◌≡◌ {A = ℕ} 0 1 = cc in omega arith)

module _ (s : List ℕ) (c : Cursor) where
  at_count : (says : ℕ → Item) (more : ℕ → List ℕ → List Item) (most : ℕ) (next : Part) → ((n : ℕ) → is_last (says n) ≡ false) → ((n : ℕ) (t : List ℕ) → ahead next n t ≡ more n t)
      → (k : Result ℕ Fault) → count_of most (drop c.at s) ≡ k → Turn s c (after_count says (λ n. more n (drop 2 (drop c.at s))) k) (count_from c says next k)
  at_count says more most next goes same (Ok n) e =
      record { says = simp (goes n, same, drop-drop); onward = λ _. record { further = omega arith; inside = count_room s c.at most n e } }
  at_count says more most next goes same (Err fault) e = record { says = refl; onward = never }

  at_change : (more : List ℕ → List Item) (memory : Part) (n : ℕ) → c.left ≡ suc n → ((n : ℕ) (t : List ℕ) → ahead memory n t ≡ changes memory more n t)
      → (k : Result Changed Fault) → change_of (size_of memory) (drop c.at s) ≡ k → Turn s c (after_change memory (changes memory more n (drop 3 (drop c.at s))) k) (change_from c memory k)
  at_change more memory n l same (Ok change) e =
      let left : c.left - 1 ≡ n = omega arith in
      record { says = simp (same, left, drop-drop); onward = λ _. record { further = omega arith; inside = change_room s c.at (size_of memory) change e } }
  at_change more memory n l same (Err fault) e = record { says = refl; onward = never }

  at_step_lem : (n : ℕ) → c.left ≡ suc n → (k : Result Step Fault) → step_of (drop c.at s) ≡ k → Turn s c (after_step (steps n (drop 5 (drop c.at s))) k) (step_from c k)
  unfolding ahead
  at_step_lem n l (Ok step) e =
      let left : c.left - 1 ≡ n = omega arith in
      record { says = simp (left, drop-drop); onward = λ _. record { further = omega arith; inside = step_room s c.at step e } }
  at_step_lem n l (Err fault) e = record { says = refl; onward = never }

  at_end : (t : List ℕ) → Turn s c (end_of t ∷ []) (stays c (end_of t))
  unfolding end_of
  at_end [] = record { says = refl; onward = never }
  at_end (x ∷ t) = record { says = refl; onward = never }

module _ (s : List ℕ) (at : ℕ) where
  abbrev here : Part → ℕ → Cursor
  here p n = record { at = at; part = p; left = n }

  abbrev bytes : List ℕ
  bytes = drop at s

  turn : (p : Part) (n : ℕ) → Turn s (here p n) (ahead p n bytes) (next_of s (here p n))
  unfolding ahead changes section script run_of steps next_of begun recorded changes_begun steps_begun changed step_read
  turn part.Start zero = at_count s (here part.Start 0) (item.Changes part.Ram) (ahead part.Ram) 16384 part.Ram (λ n. refl) (λ n t. refl) (count_of 16384 bytes) refl
  turn part.Ram zero = at_count s (here part.Ram 0) (item.Changes part.Rom) (ahead part.Rom) 4096 part.Rom (λ n. refl) (λ n t. refl) (count_of 4096 bytes) refl
  turn part.Rom zero = at_count s (here part.Rom 0) (item.Changes part.Colour) (ahead part.Colour) 1024 part.Colour (λ n. refl) (λ n t. refl) (count_of 1024 bytes) refl
  turn part.Colour zero = at_count s (here part.Colour 0) item.Steps (ahead part.Steps) 65535 part.Steps (λ n. refl) (λ n t. refl) (count_of 65535 bytes) refl
  turn part.Steps zero = at_end s (here part.Steps 0) bytes
  turn part.Start (suc n) = rw eqb-suc-zero (at_change s (here part.Start (suc n)) run_of part.Start n refl (λ n t. refl) (change_of 0 bytes) refl)
  turn part.Ram (suc n) = rw eqb-suc-zero (at_change s (here part.Ram (suc n)) (section part.Rom (section part.Colour script)) part.Ram n refl (λ n t. refl) (change_of 16384 bytes) refl)
  turn part.Rom (suc n) = rw eqb-suc-zero (at_change s (here part.Rom (suc n)) (section part.Colour script) part.Rom n refl (λ n t. refl) (change_of 4096 bytes) refl)
  turn part.Colour (suc n) = rw eqb-suc-zero (at_change s (here part.Colour (suc n)) script part.Colour n refl (λ n t. refl) (change_of 1024 bytes) refl)
  turn part.Steps (suc n) = rw eqb-suc-zero (at_step_lem s (here part.Steps (suc n)) n refl (step_of bytes) refl)

-- each call but the last goes on inside the file: a loop over `next` ends
pub goes_on_lem : (s : List ℕ) (c : Cursor) → is_last (next_of s c).item ≡ false → Onward s c (next_of s c).cursor
goes_on_lem s c = (turn s c.at c.part c.left).onward

unless_last : (last : Bool) {x y : List Item} → (last ≡ false → x ≡ y) → cond last [] x ≡ cond last [] y
unless_last true h = refl
unless_last false h = h refl

-- as many calls as there are bytes ahead, and one, give all that the file still says
all_said : (n : ℕ) (s : List ℕ) (c : Cursor) → length s - c.at < n → read_from n s c ≡ ahead_of s c
unfolding read_from
all_said zero s c h = absurd (omega arith)
all_said (suc n) s c h =
    let found = next_of s c in
    ap (λ (l : List Item). found.item ∷ l)
    (unless_last (is_last found.item) (λ e. let on = goes_on_lem s c e in all_said n s found.cursor (omega (arith, on.further, on.inside))))
    ∙ sym (turn s c.at c.part c.left).says

-- 01, Run file: the calls of `next` from the start give what the file says, no more and no less
pub whole : (s : List ℕ) → read_from (length s + 1) s start_of ≡ run_of s
unfolding start_of ahead changes
whole s = all_said (length s + 1) s start_of (omega arith)
