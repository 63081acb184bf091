-- 02 (vii): a file whose reading ends at a retired step says, cut there, the same up to it, and is then refused by 7. Assumes nothing.
use mathlib.Core.Path.{◌≡◌, refl, sym, ap, ◌∙◌}
use mathlib.Core.Bool.{Bool, true, false}
use mathlib.Core.List.{List, [], ◌∷◌, ◌++◌}
use Prim.Native.Nat.{ℕ, zero, suc, ◌+◌, ◌<◌}
use native.Mathlib.Omega.{arith}
use Rattle.std.specs.Prelude.{Result, Ok, Err}
use lib.Dec.{leb, ltb}
use lib.ListN.{length, take, drop}
use borrow.Author.Tests.{lt-ltb, le-ltb}
use Rattle.laws.specs.Bytes.{word}
use Rattle.script.specs.declared.Step.{Step}
use Rattle.script.specs.declared.Fault.{Fault}
use Rattle.script.specs.declared.Part.{Part}
use Rattle.script.specs.declared.Part.TheVariants as part
use Rattle.script.specs.declared.Item.{Item}
use Rattle.script.specs.declared.Item.TheVariants as item
use Rattle.script.specs.Step.{fault_number, step_decoded, step_of}
use Rattle.script.specs.File.{size_of, count_of, change_of, end_of, after_count, after_step, changes, section, steps, script, run_of, room_of, place_after}
use Rattle.script.proofs.Back.{there}

-- items that end with a refusal
abbrev pub ending : List Item → ℕ → List Item
ending xs number = xs ++ (item.Refused number ∷ [])

abbrev Cuts : (List ℕ → List Item) → Type 0
Cuts f = (s : List ℕ) (xs : List Item) → f s ≡ ending xs 10 → f (take (place_after xs) s) ≡ ending xs 7

never_empty : (xs : List Item) (number : ℕ) → [] ≡ ending xs number → ⊥
never_empty [] number e = let z : ◌≡◌ {A = ℕ} 0 1 = cc in omega arith
never_empty (x ∷ xs) number e = let z : ◌≡◌ {A = ℕ} 0 1 = cc in omega arith

-- one refusal alone ends by its own number
other_number : (number : ℕ) (xs : List Item) → item.Refused number ∷ [] ≡ ending xs 10 → number ≡ 10
other_number number [] e = cc
other_number number (x ∷ xs) e = absurd (never_empty xs 10 (let rest : ◌≡◌ {A = List Item} [] (ending xs 10) = cc in rest))

-- ---- the steps

no_end : (s : List ℕ) (xs : List Item) → end_of s ∷ [] ≡ ending xs 10 → ⊥
unfolding end_of
no_end [] [] e = let z : ◌≡◌ {A = ℕ} 0 1 = cc in omega arith
no_end (x ∷ s) xs e = omega (arith, other_number 9 xs e)
no_end [] (x ∷ xs) e = never_empty xs 10 (let rest : ◌≡◌ {A = List Item} [] (ending xs 10) = cc in rest)

no_step : (s : List ℕ) → end_of s ∷ [] ≡ steps zero s
unfolding steps
no_step s = refl

short_step : (n : ℕ) (s : List ℕ) → length s < 5 → steps (suc n) s ≡ item.Refused 7 ∷ []
unfolding steps step_of fault_number
short_step n s h = simp (lt-ltb (length s) 5 h)

take_five : (m k a b c d : ℕ) (t : List ℕ) → take (5 + m) (k ∷ a ∷ b ∷ c ∷ d ∷ t) ≡ k ∷ a ∷ b ∷ c ∷ d ∷ take m t
take_five m k a b c d t = ap (λ (n : ℕ). take n (k ∷ a ∷ b ∷ c ∷ d ∷ t)) (let five : 5 + m ≡ suc (suc (suc (suc (suc m)))) = omega arith in five)

whole_step : (n k a b c d : ℕ) (t : List ℕ) (r : Result Step Fault) → step_decoded k a b c d ≡ r → steps (suc n) (k ∷ a ∷ b ∷ c ∷ d ∷ t) ≡ after_step (steps n t) r
unfolding steps
whole_step n k a b c d t r q = ap (after_step (steps n t)) (there k a b c d t ∙ q)

-- one step more, where the steps after it are cut so
full : (n k a b c d : ℕ) (t : List ℕ) → Cuts (steps n) → (r : Result Step Fault) → step_decoded k a b c d ≡ r → (xs : List Item) → after_step (steps n t) r ≡ ending xs 10
    → steps (suc n) (take (place_after xs) (k ∷ a ∷ b ∷ c ∷ d ∷ t)) ≡ ending xs 7
unfolding place_after room_of
full n k a b c d t rest (Ok step) q [] e = absurd (let z : ◌≡◌ {A = ℕ} 0 1 = cc in omega arith)
full n k a b c d t rest (Ok step) q (x ∷ xs) e =
    let here : item.Do step ≡ x = cc in
    let later : steps n t ≡ ending xs 10 = cc in
    rw (← here)
    (ap (steps (suc n)) (take_five (place_after xs) k a b c d t)
    ∙ whole_step n k a b c d (take (place_after xs) t) (Ok step) q
    ∙ ap (λ (l : List Item). item.Do step ∷ l) (rest t xs later))
full n k a b c d t rest (Err fault) q [] e = short_step n [] (omega arith)
full n k a b c d t rest (Err fault) q (x ∷ xs) e = absurd (never_empty xs 10 (let none : ◌≡◌ {A = List Item} [] (ending xs 10) = cc in none))

too_short : (n : ℕ) (s : List ℕ) (xs : List Item) → length s < 5 → steps (suc n) s ≡ ending xs 10 → ⊥
too_short n s xs h e = omega (arith, other_number 7 xs (sym (short_step n s h) ∙ e))

cuts_steps : (n : ℕ) → Cuts (steps n)
cuts_steps zero s xs e = absurd (no_end s xs (no_step s ∙ e))
cuts_steps (suc n) [] xs e = absurd (too_short n [] xs (omega arith) e)
cuts_steps (suc n) (k ∷ []) xs e = absurd (too_short n (k ∷ []) xs (omega arith) e)
cuts_steps (suc n) (k ∷ a ∷ []) xs e = absurd (too_short n (k ∷ a ∷ []) xs (omega arith) e)
cuts_steps (suc n) (k ∷ a ∷ b ∷ []) xs e = absurd (too_short n (k ∷ a ∷ b ∷ []) xs (omega arith) e)
cuts_steps (suc n) (k ∷ a ∷ b ∷ c ∷ []) xs e = absurd (too_short n (k ∷ a ∷ b ∷ c ∷ []) xs (omega arith) e)
cuts_steps (suc n) (k ∷ a ∷ b ∷ c ∷ d ∷ t) xs e =
    full n k a b c d t (cuts_steps n) (step_decoded k a b c d) refl xs (sym (whole_step n k a b c d t (step_decoded k a b c d) refl) ∙ e)

-- ---- a count, and what comes after it

module _ (says : ℕ → Item) (more : ℕ → List ℕ → List Item) (most : ℕ) where
  counted : List ℕ → List Item
  counted s = after_count says (λ n. more n (drop 2 s)) (count_of most s)

  short_count : (s : List ℕ) → length s < 2 → counted s ≡ item.Refused 7 ∷ []
  unfolding counted count_of fault_number
  short_count s h = simp (lt-ltb (length s) 2 h)

  high_count : (x y : ℕ) (t : List ℕ) → ltb most (word x y) ≡ true → counted (x ∷ y ∷ t) ≡ item.Refused 8 ∷ []
  unfolding counted count_of fault_number
  high_count x y t q = simp (le-ltb (length (x ∷ y ∷ t)) 2 (omega arith), q)

  whole_count : (x y : ℕ) (t : List ℕ) → ltb most (word x y) ≡ false → counted (x ∷ y ∷ t) ≡ says (word x y) ∷ more (word x y) t
  unfolding counted count_of fault_number
  whole_count x y t q = simp (le-ltb (length (x ∷ y ∷ t)) 2 (omega arith), q)

  module _ (two : (n : ℕ) → room_of (says n) ≡ 2) (good : (n : ℕ) → says n ≡ item.Refused 10 → ⊥) (rest : (n : ℕ) → Cuts (more n)) where
    by_limit : (x y : ℕ) (t : List ℕ) (high : Bool) → ltb most (word x y) ≡ high → (xs : List Item) → counted (x ∷ y ∷ t) ≡ ending xs 10 → counted (take (place_after xs) (x ∷ y ∷ t)) ≡ ending xs 7
    unfolding place_after
    by_limit x y t true q xs e = absurd (omega (arith, other_number 8 xs (sym (high_count x y t q) ∙ e)))
    by_limit x y t false q [] e =
        let same = sym (whole_count x y t q) ∙ e in
        let here : says (word x y) ≡ item.Refused 10 = cc in
        absurd (good (word x y) here)
    by_limit x y t false q (i ∷ xs) e =
        let same = sym (whole_count x y t q) ∙ e in
        let here : says (word x y) ≡ i = cc in
        let later : more (word x y) t ≡ ending xs 10 = cc in
        let size : room_of i + place_after xs ≡ suc (suc (place_after xs)) = rw (← here, two (word x y)) (omega arith) in
        rw (size, ← here)
        (whole_count x y (take (place_after xs) t) q ∙ ap (λ (l : List Item). says (word x y) ∷ l) (rest (word x y) t xs later))

    cuts_count : Cuts counted
    cuts_count [] xs e = absurd (omega (arith, other_number 7 xs (sym (short_count [] (omega arith)) ∙ e)))
    cuts_count (x ∷ []) xs e = absurd (omega (arith, other_number 7 xs (sym (short_count (x ∷ []) (omega arith)) ∙ e)))
    cuts_count (x ∷ y ∷ t) xs e = by_limit x y t (ltb most (word x y)) refl xs e

-- ---- the changes of a memory

module _ (memory : Part) (more : List ℕ → List Item) (rest : Cuts more) where
  no_change : (s : List ℕ) → changes memory more zero s ≡ more s
  unfolding changes
  no_change s = refl

  short_change : (n : ℕ) (s : List ℕ) → length s < 3 → changes memory more (suc n) s ≡ item.Refused 7 ∷ []
  unfolding changes change_of fault_number
  short_change n s h = simp (lt-ltb (length s) 3 h)

  past_change : (n x y v : ℕ) (t : List ℕ) → leb (size_of memory) (word x y) ≡ true → changes memory more (suc n) (x ∷ y ∷ v ∷ t) ≡ item.Refused 8 ∷ []
  unfolding changes change_of fault_number
  past_change n x y v t q = simp (le-ltb (length (x ∷ y ∷ v ∷ t)) 3 (omega arith), q)

  whole_change : (n x y v : ℕ) (t : List ℕ) → leb (size_of memory) (word x y) ≡ false
      → changes memory more (suc n) (x ∷ y ∷ v ∷ t) ≡ item.Change memory (word x y) v ∷ changes memory more n t
  unfolding changes change_of fault_number
  whole_change n x y v t q = simp (le-ltb (length (x ∷ y ∷ v ∷ t)) 3 (omega arith), q)

  by_size : (n x y v : ℕ) (t : List ℕ) → Cuts (changes memory more n) → (past : Bool) → leb (size_of memory) (word x y) ≡ past → (xs : List Item)
      → changes memory more (suc n) (x ∷ y ∷ v ∷ t) ≡ ending xs 10 → changes memory more (suc n) (take (place_after xs) (x ∷ y ∷ v ∷ t)) ≡ ending xs 7
  unfolding place_after room_of
  by_size n x y v t after true q xs e = absurd (omega (arith, other_number 8 xs (sym (past_change n x y v t q) ∙ e)))
  by_size n x y v t after false q [] e =
      let same = sym (whole_change n x y v t q) ∙ e in
      absurd (let z : ◌≡◌ {A = ℕ} 0 1 = cc in omega arith)
  by_size n x y v t after false q (i ∷ xs) e =
      let same = sym (whole_change n x y v t q) ∙ e in
      let here : item.Change memory (word x y) v ≡ i = cc in
      let later : changes memory more n t ≡ ending xs 10 = cc in
      let size : 3 + place_after xs ≡ suc (suc (suc (place_after xs))) = omega arith in
      rw (← here)
      (rw size (whole_change n x y v (take (place_after xs) t) q ∙ ap (λ (l : List Item). item.Change memory (word x y) v ∷ l) (after t xs later)))

  cuts_changes : (n : ℕ) → Cuts (changes memory more n)
  cuts_changes zero s xs e = no_change (take (place_after xs) s) ∙ rest s xs (sym (no_change s) ∙ e)
  cuts_changes (suc n) [] xs e = absurd (omega (arith, other_number 7 xs (sym (short_change n [] (omega arith)) ∙ e)))
  cuts_changes (suc n) (x ∷ []) xs e = absurd (omega (arith, other_number 7 xs (sym (short_change n (x ∷ []) (omega arith)) ∙ e)))
  cuts_changes (suc n) (x ∷ y ∷ []) xs e = absurd (omega (arith, other_number 7 xs (sym (short_change n (x ∷ y ∷ []) (omega arith)) ∙ e)))
  cuts_changes (suc n) (x ∷ y ∷ v ∷ t) xs e = by_size n x y v t (cuts_changes n) (leb (size_of memory) (word x y)) refl xs e

-- ---- the file

cuts_section : (memory : Part) (more : List ℕ → List Item) → Cuts more → Cuts (section memory more)
unfolding section counted room_of
cuts_section memory more rest =
    cuts_count (item.Changes memory) (changes memory more) (size_of memory) (λ n. refl)
    (λ n e. let z : ◌≡◌ {A = ℕ} 0 1 = cc in omega arith) (cuts_changes memory more rest)

cuts_script : Cuts script
unfolding script counted room_of
cuts_script = cuts_count item.Steps steps 65535 (λ n. refl) (λ n e. let z : ◌≡◌ {A = ℕ} 0 1 = cc in omega arith) cuts_steps

pub cut_there : (s : List ℕ) (xs : List Item) → run_of s ≡ ending xs 10 → run_of (take (place_after xs) s) ≡ ending xs 7
unfolding run_of
cut_there = cuts_section part.Ram (section part.Rom (section part.Colour script)) (cuts_section part.Rom (section part.Colour script) (cuts_section part.Colour script cuts_script))
