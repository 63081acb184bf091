-- 02 (xiii): after a refusal nothing is said. Assumes nothing.
use Prim.Native.Nat.{ℕ, zero, suc, ◌+◌, ◌-◌, ◌≤◌}
use mathlib.Core.Path.{◌≡◌, refl, sym, ◌∙◌, ap, subst}
use mathlib.Core.Bool.{Bool, true, false, cond}
use mathlib.Core.List.{List, [], ◌∷◌, ◌++◌, append_assoc}
use native.Mathlib.Omega.{arith}
use lib.ListN.{length}
use Rattle.laws.proofs.Choice.{either}
use Rattle.grammar.specs.declared.Head.{Head}
use Rattle.grammar.specs.declared.Phase.{Phase}
use Rattle.grammar.specs.declared.Phase.TheVariants.{Heading, Skipping, Kind, Size, Identifier, Name, Closing, Ending, Declared, Body, Aside, Valued, Done, Refused}
use Rattle.grammar.specs.Reading.{Reading, closed, byte_on, Said, Signals, Tick, Fault, repeated, told_by, told, phase_after, settled, settled_in, last_by, ending, said_last, answers, start, capture}
use Rattle.intake.specs.Machine.{machine}
use Rattle.intake.specs.Answers.{start_of}
use Rattle.heard.specs.Heard.{Last, file_of, lent, heard}
use Rattle.heard.proofs.Tells.{Rest, Over, over_ending, over_silent, byte_rest, end_rest}
use Rattle.heard.proofs.Heard.{heard_is_the_grammar}

after_ticks : (n t : ℕ) (v u : List ℕ) (l : List Said) → Last l → Last (repeated n t v u ++ l)
unfolding repeated Last
after_ticks zero t v u l h = h
after_ticks (suc n) t v u l h = after_ticks n (suc t) v u l h

-- what is told of a head, before what is the last, or nothing where it was refused
module _ (h : Head) (item : ℕ) (l : List Said) (last : Last l) (none : phase_after h.phase ≡ Done → l ≡ []) where
  after_by : (p : Phase) → h.phase ≡ p → Last (told_by p h item ++ l)
  unfolding told_by Last phase_after
  after_by (Refused n) e = none (ap phase_after e)
  after_by Declared e = last
  after_by Heading e = last
  after_by Skipping e = last
  after_by Kind e = last
  after_by Size e = last
  after_by (Identifier size) e = last
  after_by (Name size) e = last
  after_by (Closing size k) e = last
  after_by Ending e = last
  after_by Body e = last
  after_by Aside e = last
  after_by (Valued d) e = last
  after_by Done e = last

  after_told : Last (told h item ++ l)
  unfolding told
  after_told =
      subst Last (sym (append_assoc (repeated (h.mark - h.time) h.time h.values h.unknown) (told_by h.phase h item) l))
      (after_ticks (h.mark - h.time) h.time h.values h.unknown (told_by h.phase h item ++ l) (after_by h.phase refl))

last_rest : (f : Reading → List Said) (r : Reading) → ((q : Reading) → Over q → f q ≡ []) → Last (f (settled_in r)) → Last (Rest f r)
unfolding settled_in settled
last_rest f r silent h = after_told r.state.head r.item (f (settled_in r)) h (λ e. silent (settled_in r) (record { done = e; none = omega arith }))

last_by_lem : (p : Phase) (h : Head) (at item : ℕ) → Last (last_by p h at item)
unfolding last_by Last
last_by_lem Body h at item = by h.begun
  where
    by : (x : Bool) → Last (cond x (Tick h.time h.values h.unknown ∷ []) [])
    by true = refl
    by false = refl
last_by_lem Done h at item = refl
last_by_lem Heading h at item = refl
last_by_lem Skipping h at item = refl
last_by_lem Kind h at item = refl
last_by_lem Size h at item = refl
last_by_lem (Identifier size) h at item = refl
last_by_lem (Name size) h at item = refl
last_by_lem (Closing size k) h at item = refl
last_by_lem Ending h at item = refl
last_by_lem Declared h at item = refl
last_by_lem Aside h at item = refl
last_by_lem (Valued d) h at item = refl
last_by_lem (Refused n) h at item = refl

last_ending : (r : Reading) → Last (ending r)
unfolding ending
last_ending r = last_by_lem r.state.head.phase r.state.head r.at r.item

pub fault_is_last : (R : ℕ) (s : List ℕ) (r : Reading) → Last (answers R r s)
fault_is_last R [] r = subst Last (sym (end_rest R r)) (last_rest ending (closed R r) over_ending (last_ending (settled_in (closed R r))))
fault_is_last R (b ∷ s) r =
    subst Last (sym (byte_rest R r b s))
    (last_rest (λ (x : Reading). answers R x s) (byte_on R r b) (λ q o. over_silent R s q o) (fault_is_last R s (settled_in (byte_on R r b))))

captured_last : (R P : ℕ) (s : List ℕ) → Last (capture R P s)
unfolding capture
captured_last R P s = fault_is_last R s (start P)

-- 02 (xiii): what is heard ends with the first refusal
pub refused_is_over : (room pool : List ℕ) (parts : List (List ℕ)) (n : ℕ) → 32 ≤ length room
    → length (capture (length room) (length pool) (file_of parts)) + length parts + 2 ≤ n
    → Last (heard n (lent (machine start_of room pool) parts))
refused_is_over room pool parts n wide big =
    subst Last (sym (heard_is_the_grammar room pool parts n wide big)) (captured_last (length room) (length pool) (file_of parts))
