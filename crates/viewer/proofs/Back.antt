-- What a reader of the text gets back is the record of every tick, one a time unit, and no change that changed nothing. Assumes nothing.
use Prim.Native.Nat.{ℕ, suc, ◌+◌, ◌-◌, ◌^◌, ◌<◌, ◌/◌}
use mathlib.Core.Path.{◌≡◌, refl, sym, ◌∙◌, ap}
use mathlib.Core.Bool.{Bool, true, false, cond}
use mathlib.Core.List.{List, [], ◌∷◌, ◌++◌, map, append_assoc, append-nil}
use native.Mathlib.Omega.{arith}
use native.Mathlib.Numerals.{add-one}
use lib.Dec.{eqb, ltb}
use lib.ListN.{length}
use borrow.Author.Tests.{lt-ltb, ne_eqb}
use Rattle.laws.proofs.Choice.{either}
use Rattle.line.specs.Text.{ascii, glyph_of, text_of}
use Rattle.vcd.specs.declared.Record.{Record}
use Rattle.vcd.specs.declared.Wave.{Wave}
use Rattle.vcd.specs.Signals.{Within, values_of, changes_of, all_of}
use Rattle.vcd.specs.Text.{declarations, changes_text, mark_text, first_text, later_text, refusal_text, next_time, time_of, piece_of, wave_after, fresh, ticks_text, dump_text}
use Rattle.viewer.specs.Words.{Word, goes_on, before, words_of, same}
use Rattle.viewer.specs.Reader.{Value, Unknown, Is, Aside, State, state, start, number_from, are_digits, declared, in_heading, marked, in_body, step_by, step, Seen, seen, repeated, shown, last_shown, views, seen_from}
use Rattle.viewer.proofs.Split.{blacks, word_split, still}
use Rattle.viewer.proofs.Changes.{ours, body}
use Rattle.viewer.proofs.Ticks.{all_read, moved_read, mark_read}

-- each record of a run is within the signals' widths
abbrev pub AllWithin : List Record → Type 0
AllWithin [] = Unit {0}
AllWithin (r ∷ more) = Within r × AllWithin more

-- a text that shows nothing but the last tick
abbrev Silent : List ℕ → Type 0
Silent tail = (vals : List Value) (b : Bool) (t : ℕ) → views (body vals b t) (words_of tail) ≡ cond b (seen t vals 0 ∷ []) []

abbrev unknowns : List Value
unknowns = Unknown ∷ Unknown ∷ Unknown ∷ Unknown ∷ Unknown ∷ Unknown ∷ Unknown ∷ Unknown ∷ []

-- ---- later ticks

abbrev wave : ℕ → Record → Wave
wave t r = record { begun = true; time = t; last = r }

next_is : (t : ℕ) → t < 18446744073709551615 → next_time t ≡ suc t
unfolding next_time
next_is t h = simp (lt-ltb t 18446744073709551615 h) (add-one t)

ticks_on_lem : (t : ℕ) (was r : Record) (more : List Record) → t < 18446744073709551615
    → ticks_text (wave t was) (r ∷ more) ≡ (mark_text (suc t) ++ changes_text (changes_of was r)) ++ ticks_text (wave (suc t) r) more
unfolding ticks_text piece_of wave_after time_of later_text
ticks_on_lem t was r more h = ap (λ (n : ℕ). (mark_text n ++ changes_text (changes_of was r)) ++ ticks_text (wave n r) more) (next_is t h)

later_read : (rs : List Record) (was : Record) (t : ℕ) (tail : List ℕ) → Silent tail → AllWithin rs → t + length rs < 2 ^ 64
    → views (body (map Is (values_of was)) true t) (words_of (ticks_text (wave t was) rs ++ tail)) ≡ seen t (map Is (values_of was)) 0 ∷ seen_from (suc t) rs
unfolding seen_from ticks_text values_of
later_read [] was t tail q f h = q (map Is (values_of was)) true t
later_read (r ∷ more) was t tail q f h =
    let vals = map Is (values_of was) in
    let mark = mark_text (suc t) in
    let cs = changes_text (changes_of was r) in
    let later = ticks_text (wave (suc t) r) more in
    ap (λ (s : List ℕ). views (body vals true t) (words_of (s ++ tail))) (ticks_on_lem t was r more (omega (arith, h)))
    ∙ ap (λ (s : List ℕ). views (body vals true t) (words_of s)) (append_assoc (mark ++ cs) later tail ∙ append_assoc mark cs (later ++ tail))
    ∙ mark_read vals t (omega (arith, h)) (cs ++ (later ++ tail))
    ∙ ap (λ (l : List Seen). seen t vals 0 ∷ l)
    (moved_read (later ++ tail) true (suc t) [] (values_of was) (values_of r) 0 refl refl refl f.0
    ∙ later_read more r (suc t) tail q f.1 (omega (arith, h)))

-- ---- from the first byte

head_read : (rest : List ℕ) → views start (words_of (declarations ++ rest)) ≡ views (body unknowns false 0) (words_of rest)
unfolding declarations ascii goes_on before words_of same views shown step step_by start in_heading declared number_from
head_read rest = refl

zero_read_lem : (vals : List Value) (rest : List ℕ) → views (body vals false 0) (words_of (ascii "#0\n$dumpvars\n" ++ rest)) ≡ views (body vals true 0) (words_of rest)
unfolding ascii goes_on before words_of same views shown step step_by in_body marked are_digits number_from repeated
zero_read_lem vals rest = refl

end_read : (vals : List Value) (rest : List ℕ) → views (body vals true 0) (words_of (ascii "$end\n" ++ rest)) ≡ views (body vals true 0) (words_of rest)
unfolding ascii goes_on before words_of same views shown step step_by in_body are_digits repeated
end_read vals rest = refl

ticks_read : (rs : List Record) (tail : List ℕ) → Silent tail → AllWithin rs → length rs < 2 ^ 64
    → views (body unknowns false 0) (words_of (ticks_text fresh rs ++ tail)) ≡ seen_from 0 rs
unfolding seen_from ticks_text fresh piece_of wave_after time_of first_text values_of
ticks_read [] tail q f h = q unknowns false 0
ticks_read (r ∷ more) tail q f h =
    let begin = ascii "#0\n$dumpvars\n" in
    let cs = changes_text (all_of r) in
    let end = ascii "$end\n" in
    let later = ticks_text (wave 0 r) more in
    ap (λ (s : List ℕ). views (body unknowns false 0) (words_of s)) (append_assoc (begin ++ (cs ++ end)) later tail ∙ append_assoc begin (cs ++ end) (later ++ tail))
    ∙ zero_read_lem unknowns ((cs ++ end) ++ (later ++ tail))
    ∙ ap (λ (s : List ℕ). views (body unknowns true 0) (words_of s)) (append_assoc cs end (later ++ tail))
    ∙ all_read (end ++ (later ++ tail)) true 0 [] (values_of r) 0 refl refl f.0
    ∙ end_read (map Is (values_of r)) (later ++ tail)
    ∙ later_read more r 0 tail q f.1 (omega (arith, h))

dump_read : (rs : List Record) (tail : List ℕ) → Silent tail → AllWithin rs → length rs < 2 ^ 64 → views start (words_of (dump_text rs ++ tail)) ≡ seen_from 0 rs
unfolding dump_text
dump_read rs tail q f h =
    ap (λ (s : List ℕ). views start (words_of s)) (append_assoc declarations (ticks_text fresh rs) tail)
    ∙ head_read (ticks_text fresh rs ++ tail)
    ∙ ticks_read rs tail q f h

-- ---- the comment of a refusal

nothing_more : Silent []
unfolding words_of views last_shown repeated
nothing_more vals b t = refl

abbrev aside : List Value → Bool → ℕ → State
aside vals b t = state Aside ours vals b t 0

comment_black : blacks (ascii "comment") ≡ true
unfolding blacks ascii
comment_black = refl

refused_black : blacks (ascii "efused") ≡ true
unfolding blacks ascii
refused_black = refl

comment_step : (vals : List Value) (b : Bool) (t : ℕ) → step (body vals b t) (ascii "$comment") ≡ aside vals b t
unfolding step step_by in_body are_digits same ascii
comment_step vals b t = refl

refused_step : (vals : List Value) (b : Bool) (t : ℕ) → step (aside vals b t) (ascii "refused") ≡ aside vals b t
unfolding step step_by same ascii
refused_step vals b t = refl

comment_read : (vals : List Value) (b : Bool) (t : ℕ) (rest : List ℕ) → views (body vals b t) (words_of (ascii "$comment refused " ++ rest)) ≡ views (aside vals b t) (words_of rest)
unfolding ascii
comment_read vals b t rest =
    ap (views (body vals b t)) (word_split (ascii "comment") 36 32 (ascii "refused " ++ rest) refl comment_black refl)
    ∙ still (body vals b t) (aside vals b t) (ascii "$comment") (words_of (ascii "refused " ++ rest)) (comment_step vals b t) refl
    ∙ ap (views (aside vals b t)) (word_split (ascii "efused") 114 32 rest refl refused_black refl)
    ∙ still (aside vals b t) (aside vals b t) (ascii "refused") (words_of rest) (refused_step vals b t) refl

glyphs_black : (xs : List ℕ) → blacks (map glyph_of xs) ≡ true
unfolding blacks
glyphs_black [] = refl
glyphs_black (x ∷ xs) = simp (lt-ltb 32 (glyph_of x) (omega arith), glyphs_black xs)

module _ (vals : List Value) (b : Bool) (t : ℕ) (rest : List ℕ) where
  passed_by : (d : ℕ) (ds : Word) → eqb d 36 ≡ false → step (aside vals b t) (d ∷ ds) ≡ aside vals b t
  unfolding step step_by same ascii
  passed_by d ds e = simp e

  digits_read : (x : ℕ) (xs : List ℕ) → views (aside vals b t) (words_of (glyph_of x ∷ (map glyph_of xs ++ 32 ∷ rest))) ≡ views (aside vals b t) (words_of rest)
  digits_read x xs =
      ap (views (aside vals b t)) (word_split (map glyph_of xs) (glyph_of x) 32 rest (lt-ltb 32 (glyph_of x) (omega arith)) (glyphs_black xs) refl)
      ∙ still (aside vals b t) (aside vals b t) (glyph_of x ∷ map glyph_of xs) (words_of rest) (passed_by (glyph_of x) (map glyph_of xs) (ne_eqb (glyph_of x) 36 (λ e. omega (arith, e)))) refl

  abbrev PassedBy : List ℕ → Type 0
  PassedBy text = views (aside vals b t) (words_of (text ++ rest)) ≡ views (aside vals b t) (words_of rest)

  number_read : (n : ℕ) → PassedBy (text_of n 32)
  unfolding text_of
  number_read n =
      either PassedBy (ltb n 10) (digits_read n [])
      (either PassedBy (ltb n 100) (digits_read (n / 10) (n ∷ []))
      (either PassedBy (ltb n 1000) (digits_read (n / 100) (n / 10 ∷ n ∷ []))
      (either PassedBy (ltb n 10000) (digits_read (n / 1000) (n / 100 ∷ n / 10 ∷ n ∷ []))
      (digits_read (n / 10000) (n / 1000 ∷ n / 100 ∷ n / 10 ∷ n ∷ [])))))

comment_ends : (vals : List Value) (b : Bool) (t : ℕ) → step (aside vals b t) (ascii "$end") ≡ body vals b t
unfolding step step_by same ascii
comment_ends vals b t = refl

end_words : words_of (ascii "$end\n") ≡ ascii "$end" ∷ []
unfolding ascii goes_on before words_of
end_words = refl

comment_silent : (number done : ℕ) → Silent (refusal_text number done)
unfolding refusal_text words_of views last_shown repeated
comment_silent number done vals b t =
    let end = ascii "$end\n" in
    comment_read vals b t (text_of number 32 ++ (text_of done 32 ++ end))
    ∙ number_read vals b t (text_of done 32 ++ end) number
    ∙ number_read vals b t end done
    ∙ ap (views (aside vals b t)) end_words
    ∙ still (aside vals b t) (body vals b t) (ascii "$end") [] (comment_ends vals b t) refl

-- ---- what stands in the text

-- 02 (i): of any run, each tick's record is read back, one a time unit, and no change is listed that changed nothing
pub text_reads_back : (rs : List Record) → AllWithin rs → length rs < 2 ^ 64 → views start (words_of (dump_text rs)) ≡ seen_from 0 rs
text_reads_back rs f h = ap (λ (s : List ℕ). views start (words_of s)) (sym (append-nil (dump_text rs))) ∙ dump_read rs [] nothing_more f h

-- 02 (i): and of a run that is refused
pub refused_text_reads_back : (rs : List Record) (number done : ℕ) → AllWithin rs → length rs < 2 ^ 64 → views start (words_of (dump_text rs ++ refusal_text number done)) ≡ seen_from 0 rs
refused_text_reads_back rs number done f h = dump_read rs (refusal_text number done) (comment_silent number done) f h

-- 02 (i): a run without ticks has declarations only, and reads back as no record
pub no_tick_declarations_only : dump_text [] ≡ declarations
unfolding dump_text ticks_text
no_tick_declarations_only = append-nil declarations

pub no_tick_no_record : views start (words_of declarations) ≡ []
unfolding seen_from
no_tick_no_record = ap (λ (s : List ℕ). views start (words_of s)) (sym no_tick_declarations_only) ∙ text_reads_back [] tt (omega arith)
