-- A line's columns one after the other, and a line on which nothing merges. Assumes nothing.
use Prim.Native.Nat.{ℕ, zero, suc, ◌+◌, ◌<◌, ◌≤◌}
use mathlib.Core.Path.{◌≡◌, refl, sym, ap, ◌∙◌}
use mathlib.Core.Bool.{Bool, true, false, not, ◌&&◌, cond, false≢true}
use mathlib.Core.List.{List}
use native.Mathlib.Numerals.{add-one}
use native.Mathlib.Omega.{arith}
use lib.Dec.{ltb, leb}
use lib.ListN.{get_or}
use borrow.Author.Tests.{ne_eqb}
use Rattle.rows.specs.Pending.{place_of}
use Rattle.access.specs.Merge.{Merging, merging, merged, latched}
use Rattle.lines.specs.Columns.{column_cycle, columns_line}
use Rattle.columns.specs.Columns.{hidden_by, last_shown}

module _ (shows plain : Bool) (hidden : ℕ → Bool) (since : ℕ → ℕ) where
  pub columns_none : (x : Merging) → x ≡ columns_line shows plain hidden since 0 x
  unfolding columns_line
  columns_none x = refl

  abbrev column : ℕ → Merging → Merging
  column j y = latched y.matrix shows (hidden j) plain (column_cycle j) (since j) j y.ch y.carry

  columns_more : (j : ℕ) (x : Merging) → column j (columns_line shows plain hidden since j x) ≡ columns_line shows plain hidden since (suc j) x
  unfolding columns_line
  columns_more j x = refl

  pub columns_next : (j : ℕ) (x : Merging) {y z : Merging} → y ≡ columns_line shows plain hidden since j x → z ≡ column j y → z ≡ columns_line shows plain hidden since (j + 1) x
  columns_next j x e f = f ∙ ap (column j) e ∙ columns_more j x ∙ ap (λ (n : ℕ). columns_line shows plain hidden since n x) (sym (add-one j))

place_same : (j : ℕ) → j < 40 → place_of j ≡ j
unfolding place_of
place_same j l = omega arith

-- in idle state, on a plain line, and forty cycles after a forced bad line
idle : (m : List ℕ) (h p : Bool) (c f j a b : ℕ) → latched m false h p c f j a b ≡ merging (cond h a 0) b m
unfolding latched
idle m true p c f j a b = refl
idle m false p c f j a b = refl

plainly : (m : List ℕ) (h : Bool) (c f j a b : ℕ) → j < 40 → latched m true h true c f j a b ≡ merging (cond h a (get_or m j 0)) b m
unfolding latched
plainly m true c f j a b l = refl
plainly m false c f j a b l = rw (place_same j l)

late : (m : List ℕ) (h : Bool) (c f j a b : ℕ) → j < 40 → leb 40 f ≡ true → latched m true h false c f j a b ≡ merging (cond h a (get_or m j 0)) b m
unfolding latched merged
late m true c f j a b l e = refl
late m false c f j a b l e = rw (e, place_same j l)

hidden_first : (first second rest : Bool) → hidden_by first second rest 0 ≡ first
unfolding hidden_by
hidden_first first second rest = refl

hidden_second : (first second rest : Bool) → hidden_by first second rest 1 ≡ second
unfolding hidden_by
hidden_second first second rest = refl

hidden_rest : (first second rest : Bool) (j : ℕ) → hidden_by first second rest (suc (suc j)) ≡ rest
unfolding hidden_by
hidden_rest first second rest j = rw (ne_eqb (suc (suc j)) 0 (λ e. omega arith), ne_eqb (suc (suc j)) 1 (λ e. omega arith))

-- a choice goes by the first of its two alone where the test holds
chosen : (b : Bool) (z : ℕ) {x y : ℕ} → (b ≡ true → x ≡ y) → cond b x z ≡ cond b y z
chosen true z e = e refl
chosen false z e = refl

held : (b : Bool) (x z : ℕ) → b ≡ true → cond b x z ≡ x
held true x z e = refl
held false x z e = absurd (false≢true e)

-- where no column changes the matrix line or the carry, and each has its entry
module _ (shows plain first second rest : Bool) (since : ℕ → ℕ) (m : List ℕ) (ch carry : ℕ) (entry : ℕ → ℕ) where
  abbrev hidden : ℕ → Bool
  hidden = hidden_by first second rest

  chars : ℕ → ℕ
  chars zero = ch
  chars (suc j) = cond (hidden j) (chars j) (entry j)

  abbrev Still : Type 0
  Still = (j a : ℕ) → j < 40 → latched m shows (hidden j) plain (column_cycle j) (since j) j a carry ≡ merging (cond (hidden j) a (entry j)) carry m

  still_line : Still → (j : ℕ) → j ≤ 40 → columns_line shows plain hidden since j (merging ch carry m) ≡ merging (chars j) carry m
  unfolding chars
  still_line still zero l = sym (columns_none shows plain hidden since (merging ch carry m))
  still_line still (suc j) l =
      sym (columns_more shows plain hidden since j (merging ch carry m)) ∙ ap (column shows plain hidden since j) (still_line still j (omega arith)) ∙ still j (chars j) (omega arith)

  abbrev two : ℕ
  two = cond second (cond first ch (entry 0)) (entry 1)

  -- from column 2 on: kept, or the last one's
  kept : rest ≡ true → (j : ℕ) → chars (suc (suc j)) ≡ two
  unfolding chars
  kept e zero = rw (hidden_first first second rest, hidden_second first second rest)
  kept e (suc j) = rw (hidden_rest first second rest j) (held rest (chars (suc (suc j))) (entry (suc (suc j))) e ∙ kept e j)

  rest_chars : (j : ℕ) → chars (suc (suc (suc j))) ≡ cond rest two (entry (suc (suc j)))
  unfolding chars
  rest_chars j = rw (hidden_rest first second rest j) (chosen rest (entry (suc (suc j))) (λ e. kept e j))

  still_last : Still → columns_line shows plain hidden since 40 (merging ch carry m) ≡ merging (last_shown first second rest ch (entry 0) (entry 1) (entry 39)) carry m
  still_last still = still_line still 40 (omega arith) ∙ ap (λ (x : ℕ). merging x carry m) (rest_chars 37)

module _ (first second rest : Bool) (since : ℕ → ℕ) (m : List ℕ) (ch carry : ℕ) (all : ltb (since 0) 40 ≡ false → (j : ℕ) → leb 40 (since j) ≡ true) where
  -- nothing merges
  pub quiet : (shows plain : Bool) → ((shows && not plain) && ltb (since 0) 40) ≡ false
      → columns_line shows plain (hidden_by first second rest) since 40 (merging ch carry m)
      ≡ merging (last_shown first second rest ch (cond shows (get_or m 0 0) 0) (cond shows (get_or m 1 0) 0) (cond shows (get_or m 39 0) 0)) carry m
  quiet false plain e =
      still_last false plain first second rest since m ch carry (λ (j : ℕ). 0) (λ j a l. idle m (hidden_by first second rest j) plain (column_cycle j) (since j) j a carry)
  quiet true true e =
      still_last true true first second rest since m ch carry (λ (j : ℕ). get_or m j 0) (λ j a l. plainly m (hidden_by first second rest j) (column_cycle j) (since j) j a carry l)
  quiet true false e =
      still_last true false first second rest since m ch carry (λ (j : ℕ). get_or m j 0)
      (λ j a l. late m (hidden_by first second rest j) (column_cycle j) (since j) j a carry l (all e j))
