-- What (i) writes reads back as the records it was written from. Assumes nothing.
use Prim.Native.Nat.{ℕ, zero, suc, ◌+◌, ◌-◌, ◌^◌, ◌<◌}
use mathlib.Core.Path.{◌≡◌, refl, sym, ◌∙◌, ap, subst}
use mathlib.Core.Bool.{Bool, true, false, cond}
use mathlib.Core.List.{List, [], ◌∷◌, ◌++◌, append_assoc, append-nil}
use native.Mathlib.Omega.{arith}
use native.Mathlib.Numerals.{add-one}
use lib.Dec.{ltb}
use lib.ListN.{length}
use borrow.Author.Tests.{lt-ltb}
use Rattle.line.specs.Text.{ascii}
use Rattle.vcd.specs.declared.Record.{Record}
use Rattle.vcd.specs.declared.Wave.{Wave}
use Rattle.vcd.specs.Signals.{Within, values_of, changes_of, all_of}
use Rattle.vcd.specs.Text.{declarations, changes_text, mark_text, first_text, later_text, next_time, time_of, piece_of, wave_after, fresh, ticks_text, dump_text}
use Rattle.viewer.proofs.Back.{AllWithin}
use Rattle.grammar.specs.declared.Phase.TheVariants.{Body}
use Rattle.grammar.specs.Words.{Word, same, lower, name_of}
use Rattle.grammar.specs.Signals.{which_of, width_of, size_of}
use Rattle.grammar.specs.Times.{time_by, time_on, time_from}
use Rattle.grammar.specs.Times.{time_of as time_read}
use Rattle.grammar.specs.Grammar.{State, state, in_heading, until_end, within, ours, fate, more_signals, declare, judged, closing, marked, timed, moved, passed, section, in_body, head_by, entered, listed, step_by, step}
use Rattle.grammar.specs.Reading.{Reading, reading, later, begins, closed, byte_on, Said, Signals, Tick, repeated, told_by, told, phase_after, settled, settled_in, last_by, ending, said_by, read_by, said_over, read_over, said_last, answers, start_head, start, capture}
use Rattle.grammar.proofs.Parts.{part_by_part}
use Rattle.regain.specs.Regained.{known, ticks_from}
use Rattle.regain.proofs.Takes.{Takes, both, nothing, as_read}
use Rattle.regain.proofs.Steps.{body}
use Rattle.regain.proofs.Ticks.{changes_take, all_take, mark_takes}

-- ---- the declarations

abbrev pub zeros : List ℕ
zeros = 0 ∷ 0 ∷ 0 ∷ 0 ∷ 0 ∷ 0 ∷ 0 ∷ 0 ∷ []

abbrev pub fulls : List ℕ
fulls = 127 ∷ 511 ∷ 1 ∷ 1 ∷ 255 ∷ 7 ∷ 1023 ∷ 1 ∷ []

abbrev pub first : State
first = state start_head [] false [] 65536

heads : (n₁ n₂ n₃ : ℕ) → said_over 4096 (reading first [] n₁ n₂ n₃) declarations ≡ Signals 8 ∷ []
unfolding declarations ascii start_head said_over read_over said_by read_by byte_on closed begins told told_by repeated settled_in settled phase_after step step_by listed entered head_by in_heading until_end within ours fate more_signals declare judged closing same lower name_of which_of width_of size_of
heads n₁ n₂ n₃ = refl

headed : (n₁ n₂ n₃ : ℕ) → (read_over 4096 (reading first [] n₁ n₂ n₃) declarations).state ≡ body zeros fulls false 0
unfolding declarations ascii start_head said_over read_over said_by read_by byte_on closed begins told told_by repeated settled_in settled phase_after step step_by listed entered head_by in_heading until_end within ours fate more_signals declare judged closing same lower name_of which_of width_of size_of
headed n₁ n₂ n₃ = refl

clean : (n₁ n₂ n₃ : ℕ) → (read_over 4096 (reading first [] n₁ n₂ n₃) declarations).text ≡ []
unfolding declarations ascii start_head said_over read_over said_by read_by byte_on closed begins told told_by repeated settled_in settled phase_after step step_by listed entered head_by in_heading until_end within ours fate more_signals declare judged closing same lower name_of which_of width_of size_of
clean n₁ n₂ n₃ = refl

by_numbers : (room : ℕ) (a b : State) (s : List ℕ) (out : List Said)
    → ((n₁ n₂ n₃ : ℕ) → said_over room (reading a [] n₁ n₂ n₃) s ≡ out)
    → ((n₁ n₂ n₃ : ℕ) → (read_over room (reading a [] n₁ n₂ n₃) s).state ≡ b)
    → ((n₁ n₂ n₃ : ℕ) → (read_over room (reading a [] n₁ n₂ n₃) s).text ≡ [])
    → Takes room a s out b
by_numbers room a b s out f g h =
    record {
      run =
          λ r e k.
          let is = as_read r a e k in (
            ap (λ (q : Reading). said_over room q s) is ∙ f r.start r.at r.item,
            ap (λ (q : Reading). (read_over room q s).state) is ∙ g r.start r.at r.item,
            ap (λ (q : Reading). (read_over room q s).text) is ∙ h r.start r.at r.item,
          );
    }

pub declarations_take : Takes 4096 first declarations (Signals 8 ∷ []) (body zeros fulls false 0)
declarations_take = by_numbers 4096 first (body zeros fulls false 0) declarations (Signals 8 ∷ []) heads headed clean

-- ---- the first tick

zero_takes : Takes 4096 (body zeros fulls false 0) (ascii "#0\n$dumpvars\n") [] (body zeros fulls true 0)
unfolding ascii said_over read_over said_by read_by byte_on closed begins told told_by repeated settled_in settled phase_after step step_by listed head_by in_body marked timed moved section passed same lower time_by time_on time_from time_read
zero_takes = by_numbers 4096 (body zeros fulls false 0) (body zeros fulls true 0) (ascii "#0\n$dumpvars\n") [] (λ n₁ n₂ n₃. refl) (λ n₁ n₂ n₃. refl) (λ n₁ n₂ n₃. refl)

end_takes : (v : List ℕ) → Takes 4096 (body v known true 0) (ascii "$end\n") [] (body v known true 0)
unfolding ascii said_over read_over said_by read_by byte_on closed begins told told_by repeated settled_in settled phase_after step step_by listed head_by in_body section passed same lower
end_takes v = by_numbers 4096 (body v known true 0) (body v known true 0) (ascii "$end\n") [] (λ n₁ n₂ n₃. refl) (λ n₁ n₂ n₃. refl) (λ n₁ n₂ n₃. refl)

numbers : List ℕ → ℕ → ℕ
numbers [] k = 0
numbers (x ∷ s) zero = x
numbers (x ∷ s) (suc k) = numbers s k

first_takes : (r : Record) → Within r → Takes 4096 (body zeros fulls false 0) (first_text r) [] (body (values_of r) known true 0)
unfolding first_text numbers
first_takes r f = both zero_takes (both (all_take (numbers zeros) (numbers fulls) r f) (end_takes (values_of r)))

-- ---- later ticks

abbrev wave : ℕ → Record → Wave
wave t r = record { begun = true; time = t; last = r }

next_is : (t : ℕ) → t < 18446744073709551615 → next_time t ≡ suc t
unfolding next_time
next_is t h = simp (lt-ltb t 18446744073709551615 h) (add-one t)

ticks_on_lem : (t : ℕ) (was r : Record) (more : List Record) → t < 18446744073709551615
    → ticks_text (wave t was) (r ∷ more) ≡ (mark_text (suc t) ++ changes_text (changes_of was r)) ++ ticks_text (wave (suc t) r) more
unfolding ticks_text piece_of wave_after time_of later_text
ticks_on_lem t was r more h = ap (λ (n : ℕ). (mark_text n ++ changes_text (changes_of was r)) ++ ticks_text (wave n r) more) (next_is t h)

-- a text after which the last tick alone is told
abbrev pub Silent : List ℕ → Type 0
Silent tail =
    (v : List ℕ) (b : Bool) (t : ℕ) (r : Reading) → r.state ≡ body v known b t → r.text ≡ [] → answers 4096 r tail ≡ cond b (Tick t v known ∷ []) []

pub after : (a b : State) (s tail : List ℕ) (out rest : List Said) → Takes 4096 a s out b → ((r : Reading) → r.state ≡ b → r.text ≡ [] → answers 4096 r tail ≡ rest)
    → (r : Reading) → r.state ≡ a → r.text ≡ [] → answers 4096 r (s ++ tail) ≡ out ++ rest
after a b s tail out rest f g r e h =
    let x = f.run r e h in
    part_by_part 4096 s tail r
    ∙ ap (λ (l : List Said). l ++ answers 4096 (read_over 4096 r s) tail) x.0
    ∙ ap (λ (l : List Said). out ++ l) (g (read_over 4096 r s) x.1 x.2)

later_told : (rs : List Record) (was : Record) (t : ℕ) (tail : List ℕ) → Silent tail → AllWithin rs → t + length rs < 2 ^ 64
    → (r : Reading) → r.state ≡ body (values_of was) known true t → r.text ≡ []
    → answers 4096 r (ticks_text (wave t was) rs ++ tail) ≡ Tick t (values_of was) known ∷ ticks_from (suc t) rs
unfolding ticks_from ticks_text
later_told [] was t tail q f h r e k = q (values_of was) true t r e k
later_told (now ∷ more) was t tail q f h r e k =
    let piece = mark_text (suc t) ++ changes_text (changes_of was now) in
    let later = ticks_text (wave (suc t) now) more in
    ap (λ (s : List ℕ). answers 4096 r (s ++ tail)) (ticks_on_lem t was now more (omega (arith, h)))
    ∙ ap (answers 4096 r) (append_assoc piece later tail)
    ∙ after (body (values_of was) known true t) (body (values_of now) known true (suc t)) piece (later ++ tail) (Tick t (values_of was) known ∷ []) (Tick (suc t) (values_of now) known ∷ ticks_from (suc (suc t)) more)
    (both (mark_takes (values_of was) t (omega (arith, h))) (changes_take (suc t) was now f.0))
    (later_told more now (suc t) tail q f.1 (omega (arith, h))) r e k

-- ---- the whole

pub ticks_told : (rs : List Record) (tail : List ℕ) → Silent tail → ((r : Reading) → r.state ≡ body zeros fulls false 0 → r.text ≡ [] → answers 4096 r tail ≡ []) → AllWithin rs → length rs < 2 ^ 64
    → (r : Reading) → r.state ≡ body zeros fulls false 0 → r.text ≡ [] → answers 4096 r (ticks_text fresh rs ++ tail) ≡ ticks_from 0 rs
unfolding ticks_from ticks_text fresh piece_of wave_after time_of
ticks_told [] tail q n f h r e k = n r e k
ticks_told (now ∷ more) tail q n f h r e k =
    let later = ticks_text (wave 0 now) more in
    ap (answers 4096 r) (append_assoc (first_text now) later tail)
    ∙ after (body zeros fulls false 0) (body (values_of now) known true 0) (first_text now) (later ++ tail) [] (Tick 0 (values_of now) known ∷ ticks_from 1 more)
    (first_takes now f.0)
    (later_told more now 0 tail q f.1 (omega (arith, h))) r e k

last_tick : (t : ℕ) (v u : List ℕ) → repeated (t - t) t v u ≡ []
unfolding repeated
last_tick t v u = ap (λ (n : ℕ). repeated n t v u) (let z : t - t ≡ 0 = omega arith in z)

ends_by : (v u : List ℕ) (b : Bool) (t n₁ n₂ n₃ : ℕ) → answers 4096 (reading (body v u b t) [] n₁ n₂ n₃) [] ≡ cond b (Tick t v u ∷ []) []
unfolding answers said_over read_over said_last closed told told_by settled_in settled phase_after ending last_by
ends_by v u b t n₁ n₂ n₃ = ap (λ (l : List Said). (l ++ []) ++ cond b (Tick t v u ∷ []) []) (last_tick t v u)

pub ends : (v u : List ℕ) (b : Bool) (t : ℕ) (r : Reading) → r.state ≡ body v u b t → r.text ≡ [] → answers 4096 r [] ≡ cond b (Tick t v u ∷ []) []
ends v u b t r e h = ap (λ (q : Reading). answers 4096 q []) (as_read r (body v u b t) e h) ∙ ends_by v u b t r.start r.at r.item

-- 02 (xiii): what (i) writes reads back as the record it was written from, whatever the run; with a room of 4,096 bytes for a word and 65,536 for identifiers
pub dump_reads_back : (rs : List Record) → AllWithin rs → length rs < 2 ^ 64 → capture 4096 65536 (dump_text rs) ≡ Signals 8 ∷ ticks_from 0 rs
unfolding capture start dump_text
dump_reads_back rs f h =
    let ticks = ticks_text fresh rs in
    let r = reading first [] 0 0 0 in
    after first (body zeros fulls false 0) declarations ticks (Signals 8 ∷ []) (ticks_from 0 rs) declarations_take
    (λ q e k. ap (answers 4096 q) (sym (append-nil ticks)) ∙ ticks_told rs [] (λ v b t. ends v known b t) (ends zeros fulls false 0) f h q e k)
    r refl refl
