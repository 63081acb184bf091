-- The comment that ends a run that is refused is passed by. Assumes nothing.
use Prim.Native.Nat.{ℕ, ◌+◌, ◌-◌, ◌/◌, ◌%◌, ◌^◌, ◌≤◌, ◌<◌}
use mathlib.Core.Path.{◌≡◌, refl, sym, ◌∙◌, ap}
use mathlib.Core.Bool.{Bool, true, false, cond}
use mathlib.Core.List.{List, [], ◌∷◌, ◌++◌, map, append-nil, append_assoc}
use native.Mathlib.Omega.{arith}
use lib.Dec.{eqb, ltb}
use lib.ListN.{length}
use borrow.Author.Tests.{lt-ltb, ne_eqb}
use Rattle.laws.proofs.Choice.{either}
use Rattle.line.specs.Text.{ascii, glyph_of, text_of}
use Rattle.vcd.specs.declared.Record.{Record}
use Rattle.vcd.specs.Text.{declarations, fresh, ticks_text, refusal_text, dump_text}
use Rattle.viewer.proofs.Back.{AllWithin}
use Rattle.viewer.proofs.Split.{blacks}
use Rattle.grammar.specs.declared.Phase.TheVariants.{Aside}
use Rattle.grammar.specs.Words.{Word, same, lower}
use Rattle.grammar.specs.Grammar.{State, until_end, passed, section, in_body, head_by, listed, step_by, step}
use Rattle.grammar.specs.Reading.{Reading, reading, Said, Signals, Tick, repeated, told_by, told, phase_after, settled, answers, start, capture}
use Rattle.regain.specs.Regained.{known, ticks_from}
use Rattle.regain.proofs.Takes.{Takes, both, Quiet, word_takes, seen_whole}
use Rattle.regain.proofs.Steps.{at, body, quiet_body, none_left}
use Rattle.regain.proofs.Back.{zeros, fulls, first, declarations_take, after, ticks_told, ends}

glyphs_black : (xs : List ℕ) → blacks (map glyph_of xs) ≡ true
unfolding blacks
glyphs_black [] = refl
glyphs_black (x ∷ xs) = simp (lt-ltb 32 (48 + x % 10) (omega arith), glyphs_black xs)

no_end : (n : ℕ) (s : Word) → same (glyph_of n ∷ s) (ascii "$end") ≡ false
unfolding same ascii
no_end n s = simp (ne_eqb (48 + n % 10) 36 (λ (e : 48 + n % 10 ≡ 36). omega arith))

few_glyphs : (xs : List ℕ) → length (map glyph_of xs) ≡ length xs
few_glyphs [] = refl
few_glyphs (x ∷ xs) = omega (arith, few_glyphs xs)

module _ (v u : List ℕ) (b : Bool) (t : ℕ) where
  abbrev aside : State
  aside = at Aside v u b t t

  quiet_aside : Quiet aside
  unfolding told told_by settled phase_after
  quiet_aside = record { silent = λ n. ap (λ (l : List Said). l ++ []) (none_left t v u); same = refl }

  passes : (w : Word) → same w (ascii "$end") ≡ false → step_by aside w false ≡ aside
  unfolding step_by listed head_by until_end
  passes w e = simp e

  skipped : (x : ℕ) (ds : Word) → blacks (x ∷ ds) ≡ true → length (x ∷ ds) ≤ 4096 → same (x ∷ ds) (ascii "$end") ≡ false → Takes 4096 aside ((x ∷ ds) ++ (32 ∷ [])) [] aside
  unfolding settled phase_after
  skipped x ds black short e =
      word_takes 4096 aside quiet_aside x ds 32 black refl aside aside [] (seen_whole 4096 aside (x ∷ ds) short ∙ passes (x ∷ ds) e) quiet_aside.silent refl

  digits_take : (n : ℕ) (xs : List ℕ) → length xs ≤ 4 → Takes 4096 aside ((glyph_of n ∷ map glyph_of xs) ++ (32 ∷ [])) [] aside
  unfolding blacks
  digits_take n xs h =
      skipped (glyph_of n) (map glyph_of xs) (simp (lt-ltb 32 (48 + n % 10) (omega arith), glyphs_black xs)) (omega (arith, few_glyphs xs)) (no_end n (map glyph_of xs))

  abbrev PassedBy : List ℕ → Type 0
  PassedBy s = Takes 4096 aside s [] aside

  number_takes : (n : ℕ) → PassedBy (text_of n 32)
  unfolding text_of
  number_takes n =
      either PassedBy (ltb n 10) (digits_take n [] (omega arith))
      (either PassedBy (ltb n 100) (digits_take (n / 10) (n ∷ []) (omega arith))
      (either PassedBy (ltb n 1000) (digits_take (n / 100) (n / 10 ∷ n ∷ []) (omega arith))
      (either PassedBy (ltb n 10000) (digits_take (n / 1000) (n / 100 ∷ n / 10 ∷ n ∷ []) (omega arith))
      (digits_take (n / 10000) (n / 1000 ∷ n / 100 ∷ n / 10 ∷ n ∷ []) (omega arith)))))

  begins_step : step_by (body v u b t) (ascii "$comment") false ≡ aside
  unfolding step_by listed head_by in_body section passed same lower ascii
  begins_step = refl

  ends_step : step_by aside (ascii "$end") false ≡ body v u b t
  unfolding step_by listed head_by until_end same ascii
  ends_step = refl

  comment_begins : Takes 4096 (body v u b t) (ascii "$comment ") [] aside
  unfolding ascii blacks settled phase_after
  comment_begins =
      word_takes 4096 (body v u b t) (quiet_body v u b t) 36 (ascii "comment") 32 refl refl aside aside [] (seen_whole 4096 (body v u b t) (ascii "$comment") (omega arith) ∙ begins_step) quiet_aside.silent refl

  refused_takes : Takes 4096 aside (ascii "refused ") [] aside
  unfolding ascii blacks same
  refused_takes = skipped 114 (ascii "efused") refl (omega arith) refl

  comment_ends : Takes 4096 aside (ascii "$end\n") [] (body v u b t)
  unfolding ascii blacks settled phase_after
  comment_ends =
      word_takes 4096 aside quiet_aside 36 (ascii "end") 10 refl refl (body v u b t) (body v u b t) [] (seen_whole 4096 aside (ascii "$end") (omega arith) ∙ ends_step) (quiet_body v u b t).silent refl

  begun : Takes 4096 (body v u b t) (ascii "$comment refused ") [] aside
  unfolding ascii
  begun = both comment_begins refused_takes

  pub refusal_takes : (number done : ℕ) → Takes 4096 (body v u b t) (refusal_text number done) [] (body v u b t)
  unfolding refusal_text
  refusal_takes number done = both begun (both (number_takes number) (both (number_takes done) comment_ends))

  refusal_ends : (number done : ℕ) (r : Reading) → r.state ≡ body v u b t → r.text ≡ [] → answers 4096 r (refusal_text number done) ≡ cond b (Tick t v u ∷ []) []
  refusal_ends number done r e h =
      ap (answers 4096 r) (sym (append-nil (refusal_text number done)))
      ∙ after (body v u b t) (body v u b t) (refusal_text number done) [] [] (cond b (Tick t v u ∷ []) []) (refusal_takes number done) (ends v u b t) r e h

-- 02 (xiii): and of a run that was refused
pub refused_dump_reads_back : (rs : List Record) (number done : ℕ) → AllWithin rs → length rs < 2 ^ 64 → capture 4096 65536 (dump_text rs ++ refusal_text number done) ≡ Signals 8 ∷ ticks_from 0 rs
unfolding capture start dump_text
refused_dump_reads_back rs number done f h =
    let ticks = ticks_text fresh rs in
    let tail = refusal_text number done in
    let r = reading first [] 0 0 0 in
    ap (answers 4096 r) (append_assoc declarations ticks tail)
    ∙ after first (body zeros fulls false 0) declarations (ticks ++ tail) (Signals 8 ∷ []) (ticks_from 0 rs) declarations_take
    (ticks_told rs tail (λ v b t. refusal_ends v known b t number done) (refusal_ends zeros fulls false 0 number done) f h)
    r refl refl
