-- A tick's changes read back: the values are the tick's, and no change changed nothing. Assumes nothing.
use Prim.Native.Nat.{ℕ, suc, ◌+◌, ◌-◌, ◌^◌, ◌<◌}
use mathlib.Core.Path.{◌≡◌, refl, sym, ◌∙◌, ap}
use mathlib.Core.Bool.{Bool, true, false, cond}
use mathlib.Core.List.{List, [], ◌∷◌, ◌++◌, map, append_assoc}
use native.Mathlib.Omega.{arith}
use lib.Dec.{eqb}
use lib.ListN.{length, length-append}
use lib.Seq.{append_snoc, set_at, get_or_at}
use borrow.Author.Tests.{eqb-true, lt-ltb, le-leb}
use Rattle.vcd.specs.Signals.{change, width_of, WithinFrom, changes_from, all_from}
use Rattle.vcd.specs.Text.{digits_of, change_text, changes_text, mark_text}
use Rattle.viewer.specs.Words.{Word, words_of}
use Rattle.viewer.specs.Reader.{Value, Unknown, Is, State, stale_by, marked, in_body, step_by, step, Seen, seen, repeated, shown, views}
use Rattle.viewer.proofs.Split.{word_split}
use Rattle.viewer.proofs.Digits.{fine, back, some, digits_black}
use Rattle.viewer.proofs.Changes.{body, change_reads}

-- one value more stands before
on : (pre : List Value) (x : Value) (k : ℕ) → length pre ≡ k → length (pre ++ (x ∷ [])) ≡ suc k
on pre x k h = omega (arith, length-append pre (x ∷ []))

unequal : (x y : ℕ) → eqb x y ≡ false → stale_by (Is x) y ≡ 0
unfolding stale_by
unequal x y e = simp e

unknown : (y : ℕ) → stale_by Unknown y ≡ 0
unfolding stale_by
unknown y = refl

-- a change of the signal whose place comes next
abbrev Onto : List Value → Value → List Value → ℕ → ℕ → List ℕ → Bool → ℕ → Type 0
Onto pre x post k y rest b t =
    views (body (pre ++ x ∷ post) b t) (words_of (change_text (change k y) ++ rest)) ≡ views (body ((pre ++ (Is y ∷ [])) ++ post) b t) (words_of rest)

onto : (pre : List Value) (x : Value) (post : List Value) (k y : ℕ) (rest : List ℕ) (b : Bool) (t : ℕ) → length pre ≡ k → k < 8 → y < 2 ^ width_of k → stale_by x y ≡ 0 → Onto pre x post k y rest b t
onto pre x post k y rest b t h small f moves =
    change_reads k y small f rest (pre ++ x ∷ post) b t (ap (λ (v : Value). stale_by v y) (get_or_at pre x post Unknown k h) ∙ moves)
    ∙ ap (λ (l : List Value). views (body l b t) (words_of rest)) (set_at pre x post (Is y) k h ∙ sym (append_snoc pre (Is y) post))

module _ (rest : List ℕ) (b : Bool) (t : ℕ) where
  -- 02 (i): the first tick gives every signal
  pub all_read : (pre : List Value) (now : List ℕ) (k : ℕ) → length pre ≡ k → k + length now ≡ 8 → WithinFrom k now
      → views (body (pre ++ map (λ v. Unknown) now) b t) (words_of (changes_text (all_from k now) ++ rest)) ≡ views (body (pre ++ map Is now) b t) (words_of rest)
  unfolding changes_text all_from
  all_read pre [] k h e f = refl
  all_read pre (y ∷ now) k h e f =
      let cs = changes_text (all_from (suc k) now) in
      ap (λ (s : List ℕ). views (body (pre ++ Unknown ∷ map (λ v. Unknown) now) b t) (words_of s)) (append_assoc (change_text (change k y)) cs rest)
      ∙ onto pre Unknown (map (λ v. Unknown) now) k y (cs ++ rest) b t h (omega arith) f.0 (unknown y)
      ∙ all_read (pre ++ (Is y ∷ [])) now (suc k) (on pre (Is y) k h) (omega arith) f.1
      ∙ ap (λ (l : List Value). views (body l b t) (words_of rest)) (append_snoc pre (Is y) (map Is now))

  moved_by_lem : (pre : List Value) (x y k : ℕ) (before now : List ℕ) (same : Bool) → eqb x y ≡ same → length pre ≡ k → k < 8 → y < 2 ^ width_of k
      → ((v : ℕ) → views (body ((pre ++ (Is v ∷ [])) ++ map Is before) b t) (words_of (changes_text (changes_from (suc k) before now) ++ rest)) ≡ views (body ((pre ++ (Is v ∷ [])) ++ map Is now) b t) (words_of rest))
      → views (body (pre ++ Is x ∷ map Is before) b t) (words_of (changes_text (cond same (changes_from (suc k) before now) (change k y ∷ changes_from (suc k) before now)) ++ rest)) ≡ views (body (pre ++ Is y ∷ map Is now) b t) (words_of rest)
  unfolding changes_text
  moved_by_lem pre x y k before now true e h small f more =
      ap (λ (l : List Value). views (body l b t) (words_of (changes_text (changes_from (suc k) before now) ++ rest))) (sym (append_snoc pre (Is x) (map Is before)))
      ∙ more x
      ∙ ap (λ (l : List Value). views (body l b t) (words_of rest)) (append_snoc pre (Is x) (map Is now))
      ∙ ap (λ (v : ℕ). views (body (pre ++ Is v ∷ map Is now) b t) (words_of rest)) (eqb-true x y e)
  moved_by_lem pre x y k before now false e h small f more =
      let cs = changes_text (changes_from (suc k) before now) in
      ap (λ (s : List ℕ). views (body (pre ++ Is x ∷ map Is before) b t) (words_of s)) (append_assoc (change_text (change k y)) cs rest)
      ∙ onto pre (Is x) (map Is before) k y (cs ++ rest) b t h small f (unequal x y e)
      ∙ more y
      ∙ ap (λ (l : List Value). views (body l b t) (words_of rest)) (append_snoc pre (Is y) (map Is now))

  -- 02 (i): a later tick gives those that changed
  pub moved_read : (pre : List Value) (before now : List ℕ) (k : ℕ) → length pre ≡ k → length before ≡ length now → k + length now ≡ 8 → WithinFrom k now
      → views (body (pre ++ map Is before) b t) (words_of (changes_text (changes_from k before now) ++ rest)) ≡ views (body (pre ++ map Is now) b t) (words_of rest)
  unfolding changes_text changes_from
  moved_read pre [] [] k h l e f = refl
  moved_read pre [] (y ∷ now) k h l e f = absurd (omega arith)
  moved_read pre (x ∷ before) [] k h l e f = absurd (omega arith)
  moved_read pre (x ∷ before) (y ∷ now) k h l e f =
      moved_by_lem pre x y k before now (eqb x y) refl h (omega arith) f.0
      (λ v. moved_read (pre ++ (Is v ∷ [])) before now (suc k) (on pre (Is v) k h) (omega arith) (omega arith) f.1)

-- ---- a mark

mark_words : (n : ℕ) (rest : List ℕ) → words_of (mark_text n ++ rest) ≡ (35 ∷ digits_of 10 19 n) ∷ words_of rest
unfolding mark_text
mark_words n rest =
    let ds = digits_of 10 19 n in
    ap (λ (s : List ℕ). words_of (35 ∷ s)) (append_assoc ds (10 ∷ []) rest)
    ∙ word_split ds 35 10 rest refl (digits_black 10 ds (fine 10 (omega arith) 19 n)) refl

module _ (vals : List Value) (t : ℕ) (small : suc t < 10 ^ 20) where
  abbrev ds : Word
  ds = digits_of 10 19 (suc t)

  goes : step (body vals true t) (35 ∷ ds) ≡ body vals true (suc t)
  unfolding step step_by in_body marked
  goes = simp (fine 10 (omega arith) 19 (suc t), lt-ltb 0 (length ds) (some 10 (omega arith) 19 (suc t)), back 10 (omega arith) 19 (suc t) small, le-leb t (suc t) (omega arith))

  one_unit : repeated (suc t - t) t vals 0 ≡ seen t vals 0 ∷ []
  unfolding repeated
  one_unit = ap (λ (n : ℕ). repeated n t vals 0) (let z : suc t - t ≡ 1 = omega arith in z)

  -- 02 (i): one time unit a tick
  pub mark_read : (rest : List ℕ) → views (body vals true t) (words_of (mark_text (suc t) ++ rest)) ≡ seen t vals 0 ∷ views (body vals true (suc t)) (words_of rest)
  unfolding views shown
  mark_read rest =
      ap (views (body vals true t)) (mark_words (suc t) rest)
      ∙ ap (λ (x : State). repeated (x.time - t) t vals 0 ++ views x (words_of rest)) goes
      ∙ ap (λ (l : List Seen). l ++ views (body vals true (suc t)) (words_of rest)) one_unit
