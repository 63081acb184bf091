-- A change that we write, read back. Assumes nothing.
use Prim.Native.Nat.{ℕ, zero, suc, ◌+◌, ◌-◌, ◌^◌, ◌≤◌, ◌<◌, ◌%◌}
use mathlib.Core.Path.{◌≡◌, refl, sym, ◌∙◌, ap, subst}
use mathlib.Core.Bool.{Bool, true, false, cond}
use mathlib.Core.List.{List, [], ◌∷◌, ◌++◌, append_assoc}
use native.Mathlib.Omega.{arith}
use lib.Dec.{ltb, leb}
use lib.ListN.{length, set}
use Rattle.line.specs.Text.{ascii}
use Rattle.vcd.specs.Signals.{change, width_of}
use Rattle.vcd.specs.Text.{digits_of, value_text, change_text}
use Rattle.vcd.proofs.Short.{digits_few}
use Rattle.viewer.proofs.Split.{blacks}
use Rattle.viewer.proofs.Digits.{fine, digits_black}
use Rattle.grammar.specs.declared.Digits.{Digits}
use Rattle.grammar.specs.declared.Phase.{Phase}
use Rattle.grammar.specs.declared.Phase.TheVariants.{Body, Valued}
use Rattle.grammar.specs.Words.{Word, same, lower}
use Rattle.grammar.specs.Signals.{full_of}
use Rattle.grammar.specs.Values.{none, above, digit_on, digits_from}
use Rattle.grammar.specs.Grammar.{Entry, entry, head, State, state, set_on, entry_on, changes_on, changed, apply, in_body, head_by, listed, step_by, step}
use Rattle.grammar.specs.Reading.{Said, repeated, told_by, told, phase_after, settled}
use Rattle.regain.proofs.Takes.{Takes, both, Quiet, word_takes, seen_whole}
use Rattle.regain.proofs.Numbers.{digits, Exact, exact_3, exact_7, exact_8, exact_9, exact_10}

-- ---- the states

-- the signals that our declarations declare
abbrev pub table : List Entry
table =
    entry (65 ∷ []) 0
    ∷ entry (66 ∷ []) 1
    ∷ entry (67 ∷ []) 2
    ∷ entry (68 ∷ []) 3
    ∷ entry (69 ∷ []) 4
    ∷ entry (70 ∷ []) 5
    ∷ entry (71 ∷ []) 6
    ∷ entry (72 ∷ []) 7
    ∷ []

abbrev pub trues : List Bool
trues = true ∷ true ∷ true ∷ true ∷ true ∷ true ∷ true ∷ true ∷ []

-- after them, with 65,536 bytes lent for identifiers
abbrev pub at : Phase → List ℕ → List ℕ → Bool → ℕ → ℕ → State
at p v u b t m = state (head p 8 trues v u b t m) (72 ∷ []) true table 65528

abbrev pub body : List ℕ → List ℕ → Bool → ℕ → State
body v u b t = at Body v u b t t

pub none_left : (t : ℕ) (v u : List ℕ) → repeated (t - t) t v u ≡ []
unfolding repeated
none_left t v u = ap (λ (n : ℕ). repeated n t v u) (let z : t - t ≡ 0 = omega arith in z)

pub quiet_body : (v u : List ℕ) (b : Bool) (t : ℕ) → Quiet (body v u b t)
unfolding told told_by settled phase_after
quiet_body v u b t = record { silent = λ n. ap (λ (l : List Said). l ++ []) (none_left t v u); same = refl }

pub quiet_valued : (d : Digits) (v u : List ℕ) (b : Bool) (t : ℕ) → Quiet (at (Valued d) v u b t t)
unfolding told told_by settled phase_after
quiet_valued d v u b t = record { silent = λ n. ap (λ (l : List Said). l ++ []) (none_left t v u); same = refl }

-- ---- a change of several bits

-- where the identifier of signal k leads
abbrev Set : ℕ → ℕ → ℕ → Type 0
Set i k full =
    (v o t : ℕ) (vals unk : List ℕ) (b : Bool) → leb o full ≡ true
    → step_by (at (Valued (digits v 0 o true)) vals unk b t t) (i ∷ []) false ≡ body (set vals k v) (set unk k 0) b t

set_0 : Set 65 0 127
unfolding step_by listed head_by apply changes_on entry_on set_on changed full_of same
set_0 v o t vals unk b few = simp few

set_1 : Set 66 1 511
unfolding step_by listed head_by apply changes_on entry_on set_on changed full_of same
set_1 v o t vals unk b few = simp few

set_4 : Set 69 4 255
unfolding step_by listed head_by apply changes_on entry_on set_on changed full_of same
set_4 v o t vals unk b few = simp few

set_5 : Set 70 5 7
unfolding step_by listed head_by apply changes_on entry_on set_on changed full_of same
set_5 v o t vals unk b few = simp few

set_6 : Set 71 6 1023
unfolding step_by listed head_by apply changes_on entry_on set_on changed full_of same
set_6 v o t vals unk b few = simp few

module _ (i k full more v : ℕ) (black : ltb 32 i ≡ true) (sets : Set i k full) (few : more ≤ 9) (exact : Exact (digits_of 2 more v) full v) (vals unk : List ℕ) (b : Bool) (t : ℕ) where
  abbrev ds : Word
  ds = digits_of 2 more v

  abbrev d : Digits
  d = digits_from none ds

  first : step_by (body vals unk b t) (98 ∷ ds) false ≡ at (Valued d) vals unk b t t
  unfolding step_by listed head_by in_body lower
  first = refl

  first_word : step 4096 (body vals unk b t) (98 ∷ ds) ≡ at (Valued d) vals unk b t t
  first_word = seen_whole 4096 (body vals unk b t) (98 ∷ ds) (omega (arith, digits_few 2 more v)) ∙ first

  second_word : step 4096 (at (Valued d) vals unk b t t) (i ∷ []) ≡ body (set vals k v) (set unk k 0) b t
  second_word =
      seen_whole 4096 (at (Valued d) vals unk b t t) (i ∷ []) (omega arith)
      ∙ ap (λ (x : Digits). step_by (at (Valued x) vals unk b t t) (i ∷ []) false) exact.is
      ∙ sets v exact.ones t vals unk b exact.few

  blacks_first : blacks (98 ∷ ds) ≡ true
  unfolding blacks
  blacks_first = simp (digits_black 2 ds (fine 2 (omega arith) more v))

  blacks_second : blacks (i ∷ []) ≡ true
  unfolding blacks
  blacks_second = simp black

  pub vector : Takes 4096 (body vals unk b t) (98 ∷ (ds ++ (32 ∷ i ∷ 10 ∷ []))) [] (body (set vals k v) (set unk k 0) b t)
  unfolding settled phase_after
  vector =
      let q₁ = quiet_valued d vals unk b t in
      let q₂ = quiet_body (set vals k v) (set unk k 0) b t in
      let one = word_takes 4096 (body vals unk b t) (quiet_body vals unk b t) 98 ds 32 blacks_first refl (at (Valued d) vals unk b t t) (at (Valued d) vals unk b t t) [] first_word q₁.silent refl in
      let two = word_takes 4096 (at (Valued d) vals unk b t t) q₁ i [] 10 blacks_second refl (body (set vals k v) (set unk k 0) b t) (body (set vals k v) (set unk k 0) b t) [] second_word q₂.silent refl in
      subst (λ (s : List ℕ). Takes 4096 (body vals unk b t) s [] (body (set vals k v) (set unk k 0) b t)) (append_assoc (98 ∷ ds) (32 ∷ []) (i ∷ 10 ∷ [])) (both one two)

-- ---- a change of one bit

abbrev One : ℕ → ℕ → ℕ → ℕ → Type 0
One i k digit v = (vals unk : List ℕ) (b : Bool) (t : ℕ) → step_by (body vals unk b t) (digit ∷ i ∷ []) false ≡ body (set vals k v) (set unk k 0) b t

module _ (i k digit v : ℕ) (black : blacks (digit ∷ i ∷ []) ≡ true) (one : One i k digit v) (vals unk : List ℕ) (b : Bool) (t : ℕ) where
  pub bit : Takes 4096 (body vals unk b t) (digit ∷ i ∷ 10 ∷ []) [] (body (set vals k v) (set unk k 0) b t)
  unfolding settled phase_after
  bit =
      let q = quiet_body (set vals k v) (set unk k 0) b t in
      let goes = seen_whole 4096 (body vals unk b t) (digit ∷ i ∷ []) (omega arith) ∙ one vals unk b t in
      word_takes 4096 (body vals unk b t) (quiet_body vals unk b t) digit (i ∷ []) 10 black refl (body (set vals k v) (set unk k 0) b t) (body (set vals k v) (set unk k 0) b t) [] goes q.silent refl

one_2_0 : One 67 2 48 0
unfolding step_by listed head_by in_body lower apply changes_on entry_on set_on changed full_of same digits_from digit_on above
one_2_0 vals unk b t = refl

one_2_1 : One 67 2 49 1
unfolding step_by listed head_by in_body lower apply changes_on entry_on set_on changed full_of same digits_from digit_on above
one_2_1 vals unk b t = refl

one_3_0 : One 68 3 48 0
unfolding step_by listed head_by in_body lower apply changes_on entry_on set_on changed full_of same digits_from digit_on above
one_3_0 vals unk b t = refl

one_3_1 : One 68 3 49 1
unfolding step_by listed head_by in_body lower apply changes_on entry_on set_on changed full_of same digits_from digit_on above
one_3_1 vals unk b t = refl

one_7_0 : One 72 7 48 0
unfolding step_by listed head_by in_body lower apply changes_on entry_on set_on changed full_of same digits_from digit_on above
one_7_0 vals unk b t = refl

one_7_1 : One 72 7 49 1
unfolding step_by listed head_by in_body lower apply changes_on entry_on set_on changed full_of same digits_from digit_on above
one_7_1 vals unk b t = refl

module _ (i k : ℕ) (black-0 : blacks (48 ∷ i ∷ []) ≡ true) (black-1 : blacks (49 ∷ i ∷ []) ≡ true) (one-0 : One i k 48 0) (one-1 : One i k 49 1) where
  bits : (v : ℕ) → v < 2 → (vals unk : List ℕ) (b : Bool) (t : ℕ) → Takes 4096 (body vals unk b t) ((48 + v % 2) ∷ i ∷ 10 ∷ []) [] (body (set vals k v) (set unk k 0) b t)
  bits zero h vals unk b t = bit i k 48 0 black-0 one-0 vals unk b t
  bits (suc zero) h vals unk b t = bit i k 49 1 black-1 one-1 vals unk b t
  bits (suc (suc v)) h vals unk b t = absurd (omega arith)

-- 02 (i): each signal by its identifier, within its width
pub change_takes : (k v : ℕ) → k < 8 → v < 2 ^ width_of k → (vals unk : List ℕ) (b : Bool) (t : ℕ) → Takes 4096 (body vals unk b t) (change_text (change k v)) [] (body (set vals k v) (set unk k 0) b t)
unfolding value_text width_of blacks
change_takes zero v h f vals unk b t = vector 65 0 127 6 v refl set_0 (omega arith) (exact_7 v f) vals unk b t
change_takes (suc zero) v h f vals unk b t = vector 66 1 511 8 v refl set_1 (omega arith) (exact_9 v f) vals unk b t
change_takes (suc (suc zero)) v h f vals unk b t = bits 67 2 refl refl one_2_0 one_2_1 v f vals unk b t
change_takes (suc (suc (suc zero))) v h f vals unk b t = bits 68 3 refl refl one_3_0 one_3_1 v f vals unk b t
change_takes (suc (suc (suc (suc zero)))) v h f vals unk b t = vector 69 4 255 7 v refl set_4 (omega arith) (exact_8 v f) vals unk b t
change_takes (suc (suc (suc (suc (suc zero))))) v h f vals unk b t = vector 70 5 7 2 v refl set_5 (omega arith) (exact_3 v f) vals unk b t
change_takes (suc (suc (suc (suc (suc (suc zero)))))) v h f vals unk b t = vector 71 6 1023 9 v refl set_6 (omega arith) (exact_10 v f) vals unk b t
change_takes (suc (suc (suc (suc (suc (suc (suc zero))))))) v h f vals unk b t = bits 72 7 refl refl one_7_0 one_7_1 v f vals unk b t
change_takes (suc (suc (suc (suc (suc (suc (suc (suc k)))))))) v h f vals unk b t = absurd (omega arith)
