-- A change's text reads back as the change. Assumes nothing.
use Prim.Native.Nat.{ℕ, zero, suc, ◌+◌, ◌-◌, ◌^◌, ◌<◌, ◌%◌}
use mathlib.Core.Path.{◌≡◌, refl, ◌∙◌, ap}
use mathlib.Core.Bool.{Bool, true}
use mathlib.Core.List.{List, [], ◌∷◌, ◌++◌, append_assoc}
use native.Mathlib.Omega.{arith}
use lib.Dec.{ltb, leb}
use lib.ListN.{length, set, get_or}
use borrow.Author.Tests.{le-leb}
use Rattle.vcd.specs.Signals.{change, width_of}
use Rattle.line.specs.Text.{ascii}
use Rattle.vcd.specs.Text.{digits_of, value_text, change_text}
use Rattle.vcd.proofs.Short.{digits_few}
use Rattle.viewer.specs.Words.{Word, same, words_of}
use Rattle.viewer.specs.Reader.{Value, Unknown, Is, Entry, Phase, Body, Valued, State, state, number_from, are_digits, place_from, width_at, stale_by, changed, in_body, step_by, step, views}
use Rattle.viewer.proofs.Split.{blacks, word_split, still}
use Rattle.viewer.proofs.Digits.{fine, back, digits_black}

abbrev entry : Word → Word → ℕ → Entry
entry id name width = record { id = id; name = name; width = width }

-- the signals that the declarations declare
abbrev pub ours : List Entry
ours =
    entry (ascii "A") (ascii "cycle") 7
    ∷ entry (ascii "B") (ascii "raster") 9
    ∷ entry (ascii "C") (ascii "ba") 1
    ∷ entry (ascii "D") (ascii "aec") 1
    ∷ entry (ascii "E") (ascii "dma") 8
    ∷ entry (ascii "F") (ascii "rc") 3
    ∷ entry (ascii "G") (ascii "vc") 10
    ∷ entry (ascii "H") (ascii "irq") 1
    ∷ []

abbrev pub body : List Value → Bool → ℕ → State
body vals b t = state Body ours vals b t 0

-- where the reader is after a change that changed something
abbrev pub Reads : ℕ → ℕ → List ℕ → Type 0
Reads k v text =
    (rest : List ℕ) (vals : List Value) (b : Bool) (t : ℕ) → stale_by (get_or vals k Unknown) v ≡ 0
    → views (body vals b t) (words_of (text ++ rest)) ≡ views (body (set vals k (Is v)) b t) (words_of rest)

-- what the table says of an identifier
pub record Listed (i k w : ℕ) : Type 0 where
  pub black : ltb 32 i ≡ true
  pub place : place_from 0 ours (i ∷ []) ≡ k
  pub there : ltb k 8 ≡ true
  pub wide : width_at ours k ≡ w

module _ (i k w : ℕ) (l : Listed i k w) (ds : Word) (v : ℕ) (are : are_digits 2 ds ≡ true) (short : leb (length ds) w ≡ true) (means : number_from 2 0 ds ≡ v) where
  takes : (p : Phase) (vals : List Value) (b : Bool) (t : ℕ) → stale_by (get_or vals k Unknown) v ≡ 0
      → changed (state p ours vals b t 0) ds (i ∷ []) ≡ body (set vals k (Is v)) b t
  unfolding changed
  takes p vals b t moves = simp (l.place, l.there, l.wide, are, short, means, moves)

module _ (i k more v : ℕ) (l : Listed i k (suc more)) (small : v < 2 ^ suc more) where
  abbrev ds : Word
  ds = digits_of 2 more v

  first : (vals : List Value) (b : Bool) (t : ℕ) → step (body vals b t) (98 ∷ ds) ≡ state (Valued ds) ours vals b t 0
  unfolding step step_by in_body are_digits
  first vals b t = refl

  second : (vals : List Value) (b : Bool) (t : ℕ) → stale_by (get_or vals k Unknown) v ≡ 0 → step (state (Valued ds) ours vals b t 0) (i ∷ []) ≡ body (set vals k (Is v)) b t
  unfolding step step_by
  second vals b t moves =
      takes i k (suc more) l ds v (fine 2 (omega arith) more v) (le-leb (length ds) (suc more) (omega (arith, digits_few 2 more v))) (back 2 (omega arith) more v small) (Valued ds) vals b t moves

  pub vector : Reads k v (98 ∷ (ds ++ (32 ∷ i ∷ 10 ∷ [])))
  unfolding blacks
  vector rest vals b t moves =
      ap (λ (s : List ℕ). views (body vals b t) (words_of (98 ∷ s))) (append_assoc ds (32 ∷ i ∷ 10 ∷ []) rest)
      ∙ ap (views (body vals b t)) (word_split ds 98 32 (i ∷ 10 ∷ rest) refl (digits_black 2 ds (fine 2 (omega arith) more v)) refl)
      ∙ still (body vals b t) (state (Valued ds) ours vals b t 0) (98 ∷ ds) (words_of (i ∷ 10 ∷ rest)) (first vals b t) refl
      ∙ ap (views (state (Valued ds) ours vals b t 0)) (word_split [] i 10 rest l.black refl refl)
      ∙ still (state (Valued ds) ours vals b t 0) (body (set vals k (Is v)) b t) (i ∷ []) (words_of rest) (second vals b t moves) refl

module _ (i k : ℕ) (l : Listed i k 1) where
  one_black : blacks (i ∷ []) ≡ true
  unfolding blacks
  one_black = simp l.black

  by_digit : (d v : ℕ) → ltb 32 d ≡ true → are_digits 2 (d ∷ []) ≡ true → number_from 2 0 (d ∷ []) ≡ v
      → ((vals : List Value) (b : Bool) (t : ℕ) → step (body vals b t) (d ∷ i ∷ []) ≡ changed (body vals b t) (d ∷ []) (i ∷ []))
      → Reads k v (d ∷ i ∷ 10 ∷ [])
  by_digit d v black are means steps rest vals b t moves =
      ap (views (body vals b t)) (word_split (i ∷ []) d 10 rest black one_black refl)
      ∙ still (body vals b t) (body (set vals k (Is v)) b t) (d ∷ i ∷ []) (words_of rest) (steps vals b t ∙ takes i k 1 l (d ∷ []) v are refl means Body vals b t moves) refl

  step_0 : (vals : List Value) (b : Bool) (t : ℕ) → step (body vals b t) (48 ∷ i ∷ []) ≡ changed (body vals b t) (48 ∷ []) (i ∷ [])
  unfolding step step_by in_body are_digits
  step_0 vals b t = refl

  step_1 : (vals : List Value) (b : Bool) (t : ℕ) → step (body vals b t) (49 ∷ i ∷ []) ≡ changed (body vals b t) (49 ∷ []) (i ∷ [])
  unfolding step step_by in_body are_digits
  step_1 vals b t = refl

  pub bit : (v : ℕ) → v < 2 → Reads k v ((48 + v % 2) ∷ i ∷ 10 ∷ [])
  unfolding are_digits number_from
  bit zero h = by_digit 48 0 refl refl refl step_0
  bit (suc zero) h = by_digit 49 1 refl refl refl step_1
  bit (suc (suc v)) h = absurd (omega arith)

-- 02 (i): each signal by its identifier, within its width
pub change_reads : (k v : ℕ) → k < 8 → v < 2 ^ width_of k → Reads k v (change_text (change k v))
unfolding value_text width_of place_from same width_at ascii
change_reads zero v h f = vector 65 0 6 v (record { black = refl; place = refl; there = refl; wide = refl }) f
change_reads (suc zero) v h f = vector 66 1 8 v (record { black = refl; place = refl; there = refl; wide = refl }) f
change_reads (suc (suc zero)) v h f = bit 67 2 (record { black = refl; place = refl; there = refl; wide = refl }) v f
change_reads (suc (suc (suc zero))) v h f = bit 68 3 (record { black = refl; place = refl; there = refl; wide = refl }) v f
change_reads (suc (suc (suc (suc zero)))) v h f = vector 69 4 7 v (record { black = refl; place = refl; there = refl; wide = refl }) f
change_reads (suc (suc (suc (suc (suc zero))))) v h f = vector 70 5 2 v (record { black = refl; place = refl; there = refl; wide = refl }) f
change_reads (suc (suc (suc (suc (suc (suc zero)))))) v h f = vector 71 6 9 v (record { black = refl; place = refl; there = refl; wide = refl }) f
change_reads (suc (suc (suc (suc (suc (suc (suc zero))))))) v h f = bit 72 7 (record { black = refl; place = refl; there = refl; wide = refl }) v f
change_reads (suc (suc (suc (suc (suc (suc (suc (suc k)))))))) v h f = absurd (omega arith)
