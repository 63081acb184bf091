-- One answer is the first of what is to be told. Assumes nothing.
use Prim.Native.Nat.{ℕ, zero, suc, ◌+◌, ◌-◌, ◌≤◌, ◌<◌}
use mathlib.Core.Path.{◌≡◌, refl, sym, ◌∙◌, ap, subst}
use mathlib.Core.Bool.{Bool, true, false, ◌&&◌, ◌||◌, not, cond, true≢false}
use mathlib.Core.List.{List, [], ◌∷◌, ◌++◌, append_assoc}
use native.Mathlib.Omega.{arith}
use native.Mathlib.Numerals.{add-one}
use lib.Dec.{eqb, ltb}
use lib.ListN.{length, take, drop}
use borrow.Author.Tests.{ltb-true, ltb-false, lt-ltb}
use Rattle.laws.proofs.Choice.{either}
use Rattle.grammar.specs.declared.Head.{Head}
use Rattle.grammar.specs.declared.Phase.{Phase}
use Rattle.grammar.specs.declared.Phase.TheVariants.{Heading, Skipping, Kind, Size, Identifier, Name, Closing, Ending, Declared, Body, Aside, Valued, Done, Refused}
use Rattle.grammar.specs.Grammar.{head, go_to, State, with_head, head_by, listed, step_by, step}
use Rattle.grammar.specs.Reading.{Reading, reading, later, begins, closed, byte_on, Said, Signals, Tick, Fault, repeated, told_by, told, phase_after, settled, settled_in, last_by, ending, said_by, read_by, said_over, read_over, said_last, answers}
use Rattle.phrase.specs.declared.Table.{Table}
use Rattle.intake.specs.declared.Word.{Word}
use Rattle.intake.specs.declared.Told.{Told}
use Rattle.intake.specs.Machine.{reader, Machine, machine, waits}
use Rattle.intake.specs.declared.Said.TheVariants as say
use Rattle.intake.specs.Answers.{tell_of, next_tick, idle_of, waiting_of, answer_of}
use Rattle.heard.specs.Agrees.{SameWord, naming, SameTable, Sane, Agrees}
use Rattle.heard.specs.Heard.{spoken_as, finished, wants_more, caller, goes_on, heard}

-- what is to be told, and then what follows
abbrev pub Rest : (Reading → List Said) → Reading → List Said
Rest f r = told r.state.head r.item ++ f (settled_in r)

abbrev pub with_head_lem : Reading → Head → Reading
with_head_lem r h = reading (with_head r.state h) r.text r.start r.at r.item

-- ---- where nothing is to be told

pub still : (h : Head) (item : ℕ) → h.mark ≤ h.time → told h item ≡ told_by h.phase h item
unfolding told repeated
still h item e =
    ap (λ (n : ℕ). repeated n h.time h.values h.unknown ++ told_by h.phase h item) (let z : h.mark - h.time ≡ 0 = omega arith in z)

pub none_told : (p : Phase) (h : Head) (item : ℕ) → waits p ≡ false → (told_by p h item ≡ []) × (phase_after p ≡ p)
unfolding waits told_by phase_after
none_told Declared h item e = absurd (true≢false e)
none_told Done h item e = absurd (true≢false e)
none_told (Refused n) h item e = absurd (true≢false e)
none_told Heading h item e = (refl, refl)
none_told Skipping h item e = (refl, refl)
none_told Kind h item e = (refl, refl)
none_told Size h item e = (refl, refl)
none_told (Identifier size) h item e = (refl, refl)
none_told (Name size) h item e = (refl, refl)
none_told (Closing size k) h item e = (refl, refl)
none_told Ending h item e = (refl, refl)
none_told Body h item e = (refl, refl)
none_told Aside h item e = (refl, refl)
none_told (Valued d) h item e = (refl, refl)

pub quiet : (f : Reading → List Said) (r : Reading) → Sane r.state.head → r.state.head.mark ≤ r.state.head.time → waits r.state.head.phase ≡ false → Rest f r ≡ f r
unfolding settled_in settled
quiet f r s e w =
    let h = r.state.head in
    let n = none_told h.phase h r.item w in
    let same : h.mark ≡ h.time = omega (arith, s.order) in
    ap (λ (l : List Said). l ++ f (settled_in r)) (still h r.item e ∙ n.0)
    ∙ ap (λ (p : Phase). f (with_head_lem r (head p h.signals h.declared h.values h.unknown h.begun h.mark h.mark))) n.1
    ∙ ap (λ (t : ℕ). f (with_head_lem r (head h.phase h.signals h.declared h.values h.unknown h.begun t h.mark))) same

-- ---- a reader that is done says nothing more

pub record Over (r : Reading) : Type 0 where
  pub done : r.state.head.phase ≡ Done
  pub none : r.state.head.mark ≤ r.state.head.time

over_told : (r : Reading) (item : ℕ) → Over r → told r.state.head item ≡ []
unfolding told_by
over_told r item o = still r.state.head item o.none ∙ ap (λ (p : Phase). told_by p r.state.head item) o.done

over_settled : (r : Reading) → Over r → Over (settled_in r)
unfolding settled_in settled phase_after
over_settled r o = record { done = ap phase_after o.done; none = omega arith }

over_head : (r q : Reading) → q.state.head ≡ r.state.head → Over r → Over q
over_head r q e o = record { done = ap (λ (h : Head). h.phase) e ∙ o.done; none = subst (λ (h : Head). h.mark ≤ h.time) (sym e) o.none }

step_done_lem : (R : ℕ) (s : State) (w : List ℕ) → s.head.phase ≡ Done → (step R s w).head ≡ s.head
unfolding step step_by listed head_by
step_done_lem R s w e =
    ap (λ (p : Phase). (listed p s (head_by p s.head (take R w) (ltb R (length w)) s.table s.fits) (take R w) (ltb R (length w))).head) e

closed_done : (R : ℕ) (r : Reading) → Over r → (closed R r).state.head ≡ r.state.head
unfolding closed
closed_done R r o =
    either (λ (x : Reading). x.state.head ≡ r.state.head) (ltb 0 (length r.text)) (step_done_lem R r.state r.text o.done) refl

byte_done : (R : ℕ) (r : Reading) (b : ℕ) → Over r → (byte_on R r b).state.head ≡ r.state.head
unfolding byte_on
byte_done R r b o = either (λ (x : Reading). x.state.head ≡ r.state.head) (ltb 32 b) refl (closed_done R r o)

pub over_ending : (r : Reading) → Over r → ending r ≡ []
unfolding ending last_by
over_ending r o = ap (λ (p : Phase). last_by p r.state.head r.at r.item) o.done

over_last : (R : ℕ) (r : Reading) → Over r → said_last R r ≡ []
unfolding said_last
over_last R r o =
    let c = over_head r (closed R r) (closed_done R r o) o in
    ap (λ (l : List Said). l ++ ending (settled_in (closed R r))) (over_told (closed R r) (closed R r).item c)
    ∙ over_ending (settled_in (closed R r)) (over_settled (closed R r) c)

-- 02 (xiii): whatever bytes follow
pub over_silent : (R : ℕ) (s : List ℕ) (r : Reading) → Over r → answers R r s ≡ []
unfolding answers said_over read_over said_by read_by
over_silent R [] r o = over_last R r o
over_silent R (b ∷ s) r o =
    let c = over_head r (byte_on R r b) (byte_done R r b o) o in
    ap (λ (l : List Said). l ++ said_over R (settled_in (byte_on R r b)) s ++ said_last R (read_over R (settled_in (byte_on R r b)) s)) (over_told (byte_on R r b) (byte_on R r b).item c)
    ∙ over_silent R s (settled_in (byte_on R r b)) (over_settled (byte_on R r b) c)

pub over_rest : (f : Reading → List Said) → ((r : Reading) → Over r → f r ≡ []) → (r : Reading) → Over r → Rest f r ≡ []
over_rest f silent r o =
    ap (λ (l : List Said). l ++ f (settled_in r)) (over_told r r.item o) ∙ silent (settled_in r) (over_settled r o)

-- ---- a byte after which there was nothing to tell

pub byte_rest : (R : ℕ) (r : Reading) (b : ℕ) (s : List ℕ) → answers R r (b ∷ s) ≡ Rest (λ (x : Reading). answers R x s) (byte_on R r b)
unfolding answers said_over read_over said_by read_by
byte_rest R r b s =
    let n = byte_on R r b in
    append_assoc (told n.state.head n.item) (said_over R (settled_in n) s) (said_last R (read_over R (settled_in n) s))

pub end_rest : (R : ℕ) (r : Reading) → answers R r [] ≡ Rest ending (closed R r)
unfolding answers said_over read_over said_last
end_rest R r = refl

-- ---- one answer

told_alike : (p : Phase) (g : Head) (item : ℕ) → told_by p g item ≡ told_by p (next_tick g) item
unfolding told_by
told_alike Declared g item = refl
told_alike (Refused n) g item = refl
told_alike Heading g item = refl
told_alike Skipping g item = refl
told_alike Kind g item = refl
told_alike Size g item = refl
told_alike (Identifier size) g item = refl
told_alike (Name size) g item = refl
told_alike (Closing size k) g item = refl
told_alike Ending g item = refl
told_alike Body g item = refl
told_alike Aside g item = refl
told_alike (Valued d) g item = refl
told_alike Done g item = refl

tick_first : (h : Head) (item : ℕ) → Sane h → h.time < h.mark → told h item ≡ Tick h.time h.values h.unknown ∷ told (next_tick h) item
unfolding told repeated later
tick_first h item s e =
    let one : h.mark - h.time ≡ suc (h.mark - suc h.time) = omega arith in
    let on : suc h.time ≡ cond (ltb h.time 18446744073709551615) (h.time + 1) h.time
    = sym (ap (λ (x : Bool). cond x (h.time + 1) h.time) (lt-ltb h.time 18446744073709551615 (omega (arith, s.small))) ∙ add-one h.time) in
    ap (λ (n : ℕ). repeated n h.time h.values h.unknown ++ told_by h.phase h item) one
    ∙ ap (λ (t : ℕ). Tick h.time h.values h.unknown ∷ (repeated (h.mark - t) t h.values h.unknown ++ told_by h.phase h item)) on
    ∙ ap (λ (l : List Said). Tick h.time h.values h.unknown ∷ (repeated (h.mark - (next_tick h).time) (next_tick h).time h.values h.unknown ++ l)) (told_alike h.phase h item)

module _ (R P : ℕ) (r : Reading) (t : Table) (w : Word) (e : Bool) (room pool : List ℕ) (a : Agrees R P (machine (reader r.state.head t w e) room pool) r) where
  pub retold : (h : Head) → Sane h → (naming h.phase ≡ true → naming r.state.head.phase ≡ true) → Agrees R P (machine (reader h t w e) room pool) (with_head_lem r h)
  retold h s k =
      record {
        wide = a.wide;
        deep = a.deep;
        head = refl;
        sane = s;
        word = record { len = a.word.len; text = a.word.text; over = a.word.over; start = a.word.start; at = a.word.at; item = a.word.item };
        table = record {
          few = a.table.few;
          ends = a.table.ends;
          which = a.table.which;
          used = a.table.used;
          below = a.table.below;
          last = a.table.last;
          entries = a.table.entries;
          left = a.table.left;
          fits = a.table.fits;
          held = λ n f. a.table.held (k n) f;
        };
      }

  module _ (f : Reading → List Said) (k n : ℕ) (text : List ℕ) (at : ℕ) (parts : List (List ℕ)) where
    abbrev h : Head
    h = r.state.head

    -- what this answer and the calls after it say
    abbrev pub Going : Told → List Said
    Going x = spoken_as x.said x.tick ++ cond (finished x.said) [] (heard n (goes_on text parts x room pool))

    abbrev pub Later : Type 0
    Later = (m : Machine) (q : Reading) → Agrees R P m q → m.reader.ended ≡ e → length (Rest f q) + k ≤ n → heard n (caller m text at parts) ≡ Rest f q

    pub says : Later → length (Rest f r) + k ≤ suc n → (g : Head) → Sane g → (naming g.phase ≡ true → naming h.phase ≡ true) → (x : Said) → Rest f r ≡ x ∷ Rest f (with_head_lem r g)
        → x ∷ heard n (caller (machine (reader g t w e) room pool) text at parts) ≡ Rest f r
    says ih big g s nm x eq =
        let size = ap length eq in
        ap (λ (l : List Said). x ∷ l) (ih (machine (reader g t w e) room pool) (with_head_lem r g) (retold g s nm) refl (omega arith)) ∙ sym eq

    pub turns : (p : Phase) (x : Said) → h.mark ≤ h.time → told_by h.phase h r.item ≡ x ∷ [] → told_by p (go_to h p) r.item ≡ [] → phase_after p ≡ phase_after h.phase
        → Rest f r ≡ x ∷ Rest f (with_head_lem r (go_to h p))
    unfolding settled_in settled
    turns p x over first none same =
        ap (λ (l : List Said). l ++ f (settled_in r)) (still h r.item over ∙ first)
        ∙ ap (λ (q : Phase). x ∷ f (with_head_lem r (head q h.signals h.declared h.values h.unknown h.begun h.mark h.mark))) (sym same)
        ∙ ap (λ (l : List Said). x ∷ (l ++ f (settled_in (with_head_lem r (go_to h p))))) (sym (still (go_to h p) r.item over ∙ none))

    module _ (ih : Later) (silent : (q : Reading) → Over q → f q ≡ []) (big : length (Rest f r) + k ≤ suc n)
        (idle : (p : Phase) → waits p ≡ false → h.phase ≡ p → h.mark ≤ h.time → Going (idle_of (reader h t w e) at) ≡ Rest f r) where
      waited : (p : Phase) → h.phase ≡ p → h.mark ≤ h.time → Going (waiting_of p (reader h t w e) at) ≡ Rest f r
      unfolding waiting_of waits spoken_as finished wants_more goes_on told_by phase_after naming
      waited Declared i o =
          says ih big (go_to h Body) (record { order = a.sane.order; small = a.sane.small }) (λ x. absurd (true≢false (sym x))) (Signals h.signals)
          (turns Body (Signals h.signals) o (ap (λ (p : Phase). told_by p h r.item) i) refl (sym (ap phase_after i)))
      waited (Refused c) i o =
          ap (λ (x : ℕ). Fault c x ∷ heard n (caller (machine (reader (go_to h Done) t w e) room pool) text at parts)) a.word.item
          ∙ says ih big (go_to h Done) (record { order = a.sane.order; small = a.sane.small }) (λ x. absurd (true≢false (sym x))) (Fault c r.item)
          (turns Done (Fault c r.item) o (ap (λ (p : Phase). told_by p h r.item) i) refl (sym (ap phase_after i)))
      waited Done i o = sym (over_rest f silent r (record { done = i; none = o }))
      waited Heading i o = idle Heading refl i o
      waited Skipping i o = idle Skipping refl i o
      waited Kind i o = idle Kind refl i o
      waited Size i o = idle Size refl i o
      waited (Identifier size) i o = idle (Identifier size) refl i o
      waited (Name size) i o = idle (Name size) refl i o
      waited (Closing size c) i o = idle (Closing size c) refl i o
      waited Ending i o = idle Ending refl i o
      waited Body i o = idle Body refl i o
      waited Aside i o = idle Aside refl i o
      waited (Valued d) i o = idle (Valued d) refl i o

      ticked : h.time < h.mark → Rest f r ≡ Tick h.time h.values h.unknown ∷ Rest f (with_head_lem r (next_tick h))
      unfolding settled_in settled
      ticked less = ap (λ (l : List Said). l ++ f (settled_in r)) (tick_first h r.item a.sane less)

      sane_next : h.time < h.mark → Sane (next_tick h)
      unfolding later
      sane_next less =
          record {
            order = either (λ (x : ℕ). x ≤ h.mark) (ltb h.time 18446744073709551615) (omega arith) (omega arith);
            small = a.sane.small;
          }

      -- 02 (xiii), reading 12: the answer is the first of what is to be told
      pub answer : Going (answer_of (reader h t w e) at) ≡ Rest f r
      unfolding answer_of spoken_as finished wants_more goes_on
      answer = by_less (ltb h.time h.mark) refl
        where
          by_less : (x : Bool) → ltb h.time h.mark ≡ x → Going (cond x (tell_of say.Tick (reader h t w e) (next_tick h) at) (waiting_of h.phase (reader h t w e) at)) ≡ Rest f r
          by_less true i = let less = ltb-true h.time h.mark i in says ih big (next_tick h) (sane_next less) (λ x. x) (Tick h.time h.values h.unknown) (ticked less)
          by_less false i = waited h.phase refl (ltb-false h.time h.mark i)
