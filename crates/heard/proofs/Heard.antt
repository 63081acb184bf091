-- 02 (xiii): what is heard of a file that is lent in parts is what the grammar says of it, no answer more and none less. Assumes nothing.
use Prim.Native.Nat.{ℕ, zero, suc, ◌+◌, ◌-◌, ◌≤◌, ◌<◌}
use mathlib.Core.Path.{◌≡◌, refl, sym, ◌∙◌, ap, subst}
use mathlib.Core.Bool.{Bool, true, false, ◌&&◌, ◌||◌, not, cond, true≢false}
use mathlib.Core.List.{List, [], ◌∷◌, ◌++◌}
use native.Mathlib.Omega.{arith}
use native.Mathlib.Numerals.{add-one}
use lib.Dec.{ltb}
use lib.ListN.{length, drop}
use lib.Seq.{drop-nil}
use borrow.Author.Tests.{ltb-false, le-ltb}
use Rattle.grammar.specs.declared.Head.{Head}
use Rattle.grammar.specs.declared.Phase.{Phase}
use Rattle.grammar.specs.declared.Phase.TheVariants.{Heading, Skipping, Kind, Size, Identifier, Name, Closing, Ending, Declared, Body, Aside, Valued, Done, Refused}
use Rattle.grammar.specs.Grammar.{go_to, head}
use Rattle.grammar.specs.Reading.{Reading, closed, byte_on, Said, Tick, Fault, repeated, told_by, told, settled, settled_in, phase_after, last_by, ending, answers, start, start_head, capture}
use Rattle.phrase.specs.declared.Table.{Table}
use Rattle.intake.specs.declared.Word.{Word}
use Rattle.intake.specs.declared.Reader.{Reader}
use Rattle.intake.specs.declared.Said.TheVariants as say
use Rattle.intake.specs.Machine.{reader, Machine, machine, closed_of, step_of, white_of, black_of, byte_of, waits, busy, Scan, scan, scan_of}
use Rattle.intake.specs.Answers.{tell_of, body_end, cut_off, last_of, idle_of, answer_of, Next, next, answered, next_of, end_of, start_of}
use Rattle.heard.specs.Agrees.{naming, Sane, Agrees}
use Rattle.heard.specs.Heard.{file_of, spoken_as, finished, wants_more, caller, lent, goes_on, heard}
use Rattle.heard.proofs.Bytes.{byte_alike, end_alike, start_alike}
use Rattle.heard.proofs.Tells.{Rest, with_head_lem, still, none_told, quiet, Over, over_ending, over_silent, over_rest, byte_rest, end_rest, Going, Later, retold, says, turns, answer}

-- ---- the end is told once

ended_step : (m : Machine) → (step_of m).reader.ended ≡ m.reader.ended
unfolding step_of
ended_step m = refl

ended_closed : (m : Machine) → (closed_of m).reader.ended ≡ m.reader.ended
unfolding closed_of
ended_closed m = by (ltb 0 m.reader.word.len)
  where
    by : (x : Bool) → (cond x (step_of m) m).reader.ended ≡ m.reader.ended
    by true = ended_step m
    by false = refl

ended_byte : (m : Machine) (b : ℕ) → (byte_of m b).reader.ended ≡ m.reader.ended
unfolding byte_of black_of white_of
ended_byte m b = by (ltb 32 b)
  where
    by : (x : Bool) → (cond x (black_of m b) (white_of m)).reader.ended ≡ m.reader.ended
    by true = refl
    by false = ended_closed m

told_end : (m : Machine) → (end_of m).reader.ended ≡ true
unfolding end_of
told_end m = refl

module _ (R P : ℕ) (wide : 32 ≤ R) where
  -- what a call and those after it say
  abbrev Calls : ℕ → List ℕ → List (List ℕ) → Next → List Said
  Calls n text parts x = spoken_as x.told.said x.told.tick ++ cond (finished x.told.said) [] (heard n (goes_on text parts x.told x.room x.pool))

  called : (m : Machine) (r : Reading) → Agrees R P m r → (n : ℕ) (text : List ℕ) (from : ℕ) (parts : List (List ℕ))
      → heard (suc n) (caller m text from parts) ≡ Calls n text parts (answered (scan_of m (drop from text) from))
  unfolding heard next_of
  called m r a n text from parts =
      ap (λ (x : Bool). Calls n text parts (cond x (next (tell_of (say.Refused 17 m.reader.word.at) m.reader (go_to m.reader.head Done) from) m.room m.pool) (answered (scan_of m (drop from text) from))))
      (le-ltb (length m.room) 32 (omega (arith, a.wide)))

  -- ---- after the end of the file

  module _ (r : Reading) (t : Table) (w : Word) (room pool : List ℕ) (a : Agrees R P (machine (reader r.state.head t w true) room pool) r) (n at : ℕ)
      (ih : Later R P r t w true room pool a ending 1 n [] at []) (big : length (Rest ending r) + 1 ≤ suc n) where
    abbrev h : Head
    h = r.state.head

    sane_done : Sane (go_to h Done)
    sane_done = record { order = a.sane.order; small = a.sane.small }

    over_done : h.mark ≤ h.time → Over (with_head_lem r (go_to h Done))
    over_done o = record { done = refl; none = o }

    last_one : (x : Said) → h.mark ≤ h.time → Rest ending r ≡ x ∷ [] → x ∷ heard n (caller (machine (reader (go_to h Done) t w true) room pool) [] at []) ≡ Rest ending r
    unfolding naming
    last_one x o e =
        says R P r t w true room pool a ending 1 n [] at [] ih big (go_to h Done) sane_done (λ q. absurd (true≢false (sym q))) x
        (e ∙ ap (λ (l : List Said). x ∷ l) (sym (over_rest ending over_ending (with_head_lem r (go_to h Done)) (over_done o))))

    abbrev Ends : (p : Phase) → Type 0
    Ends p = Going R P r t w true room pool a ending 1 n [] at [] (last_of p (reader h t w true) at) ≡ Rest ending r

    -- an item that is cut off
    cut : (p : Phase) → h.phase ≡ p → waits p ≡ false → h.mark ≤ h.time → last_by p h r.at r.item ≡ Fault 14 r.item ∷ []
        → Going R P r t w true room pool a ending 1 n [] at [] (cut_off (reader h t w true) w.item at) ≡ Rest ending r
    unfolding cut_off spoken_as finished wants_more goes_on ending
    cut p i q o e =
        ap (λ (x : ℕ). Fault 14 x ∷ heard n (caller (machine (reader (go_to h Done) t w true) room pool) [] at [])) a.word.item
        ∙ last_one (Fault 14 r.item) o (quiet ending r a.sane o (ap waits i ∙ q) ∙ ap (λ (y : Phase). last_by y h r.at r.item) i ∙ e)

    heading_cut : h.phase ≡ Heading → h.mark ≤ h.time → Ends Heading
    unfolding last_of cut_off spoken_as finished wants_more goes_on ending last_by waits
    heading_cut i o =
        ap (λ (x : ℕ). Fault 14 x ∷ heard n (caller (machine (reader (go_to h Done) t w true) room pool) [] at [])) a.word.at
        ∙ last_one (Fault 14 r.at) o (quiet ending r a.sane o (ap waits i) ∙ ap (λ (y : Phase). last_by y h r.at r.item) i)

    body_ends : h.phase ≡ Body → h.mark ≤ h.time → Ends Body
    unfolding last_of body_end spoken_as finished wants_more goes_on ending last_by waits
    body_ends i o = by h.begun refl
      where
        by : (x : Bool) → h.begun ≡ x → Going R P r t w true room pool a ending 1 n [] at [] (tell_of (cond x say.Tick say.End) (reader h t w true) (go_to h Done) at) ≡ Rest ending r
        by true b =
            last_one (Tick h.time h.values h.unknown) o
            (quiet ending r a.sane o (ap waits i) ∙ ap (λ (y : Phase). last_by y h r.at r.item) i ∙ ap (λ (x : Bool). cond x (Tick h.time h.values h.unknown ∷ []) []) b)
        by false b =
            sym (quiet ending r a.sane o (ap waits i) ∙ ap (λ (y : Phase). last_by y h r.at r.item) i ∙ ap (λ (x : Bool). cond x (Tick h.time h.values h.unknown ∷ []) []) b)

    last_by_lem : (p : Phase) → waits p ≡ false → h.phase ≡ p → h.mark ≤ h.time → Ends p
    unfolding last_of last_by waits
    last_by_lem Declared q i o = absurd (true≢false q)
    last_by_lem Done q i o = absurd (true≢false q)
    last_by_lem (Refused c) q i o = absurd (true≢false q)
    last_by_lem Heading q i o = heading_cut i o
    last_by_lem Body q i o = body_ends i o
    last_by_lem Skipping q i o = cut Skipping i q o refl
    last_by_lem Kind q i o = cut Kind i q o refl
    last_by_lem Size q i o = cut Size i q o refl
    last_by_lem (Identifier size) q i o = cut (Identifier size) i q o refl
    last_by_lem (Name size) q i o = cut (Name size) i q o refl
    last_by_lem (Closing size k) q i o = cut (Closing size k) i q o refl
    last_by_lem Ending q i o = cut Ending i q o refl
    last_by_lem Aside q i o = cut Aside i q o refl
    last_by_lem (Valued d) q i o = cut (Valued d) i q o refl

    pub last_answer : Going R P r t w true room pool a ending 1 n [] at [] (answer_of (reader h t w true) at) ≡ Rest ending r
    unfolding idle_of
    last_answer =
        answer R P r t w true room pool a ending 1 n [] at [] ih over_ending big
        (λ p q i o. ap (λ (y : Phase). Going R P r t w true room pool a ending 1 n [] at [] (last_of y (reader h t w true) at)) i ∙ last_by_lem p q i o)

  module _ (m : Machine) (r : Reading) (a : Agrees R P m r) where
    -- the reader with the head that the grammar has
    abbrev alike : Bool → Machine
    alike e = machine (reader r.state.head m.reader.table m.reader.word e) m.room m.pool

    named : (e : Bool) → m.reader.ended ≡ e → Agrees R P (alike e) r
    named e i =
        subst (λ (h : Head). Agrees R P (machine (reader h m.reader.table m.reader.word e) m.room m.pool) r) a.head
        (subst (λ (x : Bool). Agrees R P (machine (reader m.reader.head m.reader.table m.reader.word x) m.room m.pool) r) i a)

    as_named : (e : Bool) → m.reader.ended ≡ e → m ≡ alike e
    as_named e i =
        ap (λ (x : Bool). machine (reader m.reader.head m.reader.table m.reader.word x) m.room m.pool) i
        ∙ ap (λ (h : Head). machine (reader h m.reader.table m.reader.word e) m.room m.pool) a.head

  pub heard_last : (n : ℕ) (m : Machine) (r : Reading) (from : ℕ) → Agrees R P m r → m.reader.ended ≡ true → length (Rest ending r) + 1 ≤ n → heard n (caller m [] from []) ≡ Rest ending r
  unfolding scan_of answered
  heard_last zero m r from a i big = absurd (omega arith)
  heard_last (suc n) m r from a i big =
      called m r a n [] from []
      ∙ ap (λ (l : List ℕ). Calls n [] [] (answered (scan_of m l from))) (drop-nil from)
      ∙ ap (λ (x : Machine). Calls n [] [] (answered (scan x from))) (as_named m r a true i)
      ∙ last_answer r m.reader.table m.reader.word m.room m.pool (named m r a true i) n from (λ x q b j g. heard_last n x q from b j g) big

  -- ---- before it

  tail : (l text : List ℕ) (b from : ℕ) → drop from text ≡ b ∷ l → drop (from + 1) text ≡ l
  tail l text b from e = ap (λ (n : ℕ). drop n text) (add-one from) ∙ on text from e
    where
      on : (s : List ℕ) (i : ℕ) → drop i s ≡ b ∷ l → drop (suc i) s ≡ l
      on [] zero e = ap (drop 1) e
      on [] (suc i) e = ap (drop 1) e
      on (x ∷ s) zero e = ap (drop 1) e
      on (x ∷ s) (suc i) e = on s i e

  abbrev Rests : List ℕ → Reading → List Said
  Rests s r = Rest (λ (x : Reading). answers R x s) r

  -- what the calls from here on say, with so many calls left
  abbrev Hears : ℕ → Type 0
  Hears n = (m : Machine) (r : Reading) (text : List ℕ) (from : ℕ) (parts : List (List ℕ)) → Agrees R P m r → m.reader.ended ≡ false
      → length (Rests (drop from text ++ file_of parts) r) + (length parts + 3) ≤ n → heard n (caller m text from parts) ≡ Rests (drop from text ++ file_of parts) r

  -- nothing is to be told
  not_busy : (ended less wait : Bool) → (ended || less || wait) ≡ false → (less ≡ false) × (wait ≡ false)
  not_busy false false false e = (refl, refl)
  not_busy true less wait e = absurd (true≢false e)
  not_busy false true wait e = absurd (true≢false e)
  not_busy false false true e = absurd (true≢false e)

  is_busy : (less wait : Bool) → (false || less || wait) ≡ true → less ≡ false → wait ≡ false → true ≡ false
  is_busy less wait e f g = sym e ∙ ap (λ (x : Bool). false || x || wait) f ∙ g

  busy_not : (q : Reader) → busy q ≡ false → (q.head.mark ≤ q.head.time) × (waits q.head.phase ≡ false)
  unfolding busy
  busy_not q e =
      let x = not_busy q.ended (ltb q.head.time q.head.mark) (waits q.head.phase) e in
      (ltb-false q.head.time q.head.mark x.0, x.1)

  busy_is : (q : Reader) → busy q ≡ true → q.ended ≡ false → q.head.mark ≤ q.head.time → waits q.head.phase ≡ false → true ≡ false
  unfolding busy
  busy_is q e i o v =
      is_busy (ltb q.head.time q.head.mark) (waits q.head.phase) (sym (ap (λ (x : Bool). x || ltb q.head.time q.head.mark || waits q.head.phase) i) ∙ e)
      (le-ltb q.head.time q.head.mark o) v

  quiet_at : (f : Reading → List Said) (m : Machine) (r : Reading) → Agrees R P m r → m.reader.head.mark ≤ m.reader.head.time → waits m.reader.head.phase ≡ false → Rest f r ≡ f r
  quiet_at f m r a o v =
      quiet f r (subst Sane a.head a.sane) (subst (λ (h : Head). h.mark ≤ h.time) a.head o) (sym (ap (λ (h : Head). waits h.phase) a.head) ∙ v)

  module _ (n : ℕ) (ih : Hears n) (text : List ℕ) (parts : List (List ℕ)) where
    -- the part is over: the next one, or the end of the file
    lends : (ps : List (List ℕ)) (m : Machine) (r : Reading) → Agrees R P m r → m.reader.ended ≡ false → Rests (file_of ps) r ≡ answers R r (file_of ps)
        → length (Rests (file_of ps) r) + (length ps + 3) ≤ suc n → heard n (lent m ps) ≡ Rests (file_of ps) r
    unfolding lent file_of
    lends [] m r a i e big =
        let same = e ∙ end_rest R r in
        let size = ap length same in
        heard_last n (end_of m) (closed R r) 0 (end_alike R P m r a (omega arith)) (told_end m) (omega arith) ∙ sym same
    lends (p ∷ ps) m r a i e big = ih m r p 0 ps a i (omega arith)

    at_hand : (l : List ℕ) (from : ℕ) → drop from text ≡ l → (m : Machine) (r : Reading) → Agrees R P m r → m.reader.ended ≡ false
        → length (Rests (l ++ file_of parts) r) + (length parts + 3) ≤ n → heard n (caller m text from parts) ≡ Rests (l ++ file_of parts) r
    at_hand l from d m r a i g =
        ih m r text from parts a i (subst (λ (x : List ℕ). length (Rests (x ++ file_of parts) r) + (length parts + 3) ≤ n) (sym d) g)
        ∙ ap (λ (x : List ℕ). Rests (x ++ file_of parts) r) d

    more_wanted : (m : Machine) (r : Reading) → Agrees R P m r → m.reader.ended ≡ false → (from : ℕ) → m.reader.head.mark ≤ m.reader.head.time → waits m.reader.head.phase ≡ false
        → length (Rests (file_of parts) r) + (length parts + 3) ≤ suc n → Calls n text parts (next (idle_of m.reader from) m.room m.pool) ≡ Rests (file_of parts) r
    unfolding idle_of spoken_as finished wants_more goes_on
    more_wanted m r a i from o v big =
        ap (λ (x : Bool). Calls n text parts (next (cond x (last_of m.reader.head.phase m.reader from) (tell_of say.More m.reader m.reader.head from)) m.room m.pool)) i
        ∙ lends parts m r a i (quiet_at (λ (x : Reading). answers R x (file_of parts)) m r a o v) big

    scans : (l : List ℕ) (m : Machine) (r : Reading) (from : ℕ) → Agrees R P m r → m.reader.ended ≡ false → drop from text ≡ l
        → length (Rests (l ++ file_of parts) r) + (length parts + 3) ≤ suc n → Calls n text parts (answered (scan_of m l from)) ≡ Rests (l ++ file_of parts) r
    unfolding scan_of answered
    scans [] m r from a i d big =
        ap (λ (x : Machine). Calls n text parts (answered (scan x from))) (as_named m r a false i)
        ∙ answer R P r m.reader.table m.reader.word false m.room m.pool (named m r a false i) (λ (x : Reading). answers R x (file_of parts)) (length parts + 3) n text from parts
        (λ x q b j g. at_hand [] from d x q b j g) (λ q o. over_silent R (file_of parts) q o) big
        (λ p v j o. more_wanted (alike m r a false) r (named m r a false i) refl from o (ap waits j ∙ v) big)
    scans (b ∷ l) m r from a i d big = by (busy m.reader) refl (λ c j g. scans l (byte_of m b) (byte_on R r b) (from + 1) c j (tail l text b from d) g)
      where
        by : (x : Bool) → busy m.reader ≡ x → (Agrees R P (byte_of m b) (byte_on R r b) → (byte_of m b).reader.ended ≡ false → length (Rests (l ++ file_of parts) (byte_on R r b)) + (length parts + 3) ≤ suc n
            → Calls n text parts (answered (scan_of (byte_of m b) l (from + 1))) ≡ Rests (l ++ file_of parts) (byte_on R r b))
            → Calls n text parts (answered (cond x (scan m from) (scan_of (byte_of m b) l (from + 1)))) ≡ Rests ((b ∷ l) ++ file_of parts) r
        by true e go =
            ap (λ (x : Machine). Calls n text parts (answered (scan x from))) (as_named m r a false i)
            ∙ answer R P r m.reader.table m.reader.word false m.room m.pool (named m r a false i) (λ (x : Reading). answers R x ((b ∷ l) ++ file_of parts)) (length parts + 3) n text from parts
            (λ x q c j g. at_hand (b ∷ l) from d x q c j g) (λ q o. over_silent R ((b ∷ l) ++ file_of parts) q o) big
            (λ p v j o. absurd (true≢false (busy_is m.reader e i (subst (λ (h : Head). h.mark ≤ h.time) (sym a.head) o) (ap (λ (h : Head). waits h.phase) a.head ∙ ap waits j ∙ v))))
        by false e go =
            let o = busy_not m.reader e in
            let same = quiet_at (λ (x : Reading). answers R x (b ∷ (l ++ file_of parts))) m r a o.0 o.1 ∙ byte_rest R r b (l ++ file_of parts) in
            let size = ap length same in
            go (byte_alike R P m r a (omega arith) b) (ended_byte m b ∙ i) (omega arith) ∙ sym same

  pub heard_on : (n : ℕ) → Hears n
  heard_on zero m r text from parts a i big = absurd (omega arith)
  heard_on (suc n) m r text from parts a i big =
      called m r a n text from parts ∙ scans n (heard_on n) text parts (drop from text) m r from a i refl big

-- ---- a file

start_rest : (R P : ℕ) (s : List ℕ) → Rest (λ (x : Reading). answers R x s) (start P) ≡ capture R P s
unfolding capture start start_head told told_by repeated settled_in settled phase_after
start_rest R P s = refl

begun_so : (R P : ℕ) (s : List ℕ) → capture R P s ≡ answers R (start P) s
unfolding capture
begun_so R P s = refl

not_ended : start_of.ended ≡ false
unfolding start_of
not_ended = refl

-- 02 (xiii): a file in whatever parts, with a room of 32 bytes at least: each tick, the number of signals, each refusal with its place, and the end
pub heard_is_the_grammar : (room pool : List ℕ) (parts : List (List ℕ)) (n : ℕ) → 32 ≤ length room
    → length (capture (length room) (length pool) (file_of parts)) + length parts + 2 ≤ n
    → heard n (lent (machine start_of room pool) parts) ≡ capture (length room) (length pool) (file_of parts)
heard_is_the_grammar room pool parts n wide big =
    let R = length room in
    let P = length pool in
    let same = start_rest R P (file_of parts) in
    let size = ap length same in
    lends R P wide n (heard_on R P wide n) [] parts parts (machine start_of room pool) (start P) (start_alike room pool) not_ended (same ∙ begun_so R P (file_of parts)) (omega arith) ∙ same

-- 02 (xiii): wherever the file is cut
pub cuts_are_alike : (room pool : List ℕ) (ps qs : List (List ℕ)) (n k : ℕ) → 32 ≤ length room → file_of ps ≡ file_of qs
    → length (capture (length room) (length pool) (file_of ps)) + length ps + 2 ≤ n
    → length (capture (length room) (length pool) (file_of qs)) + length qs + 2 ≤ k
    → heard n (lent (machine start_of room pool) ps) ≡ heard k (lent (machine start_of room pool) qs)
cuts_are_alike room pool ps qs n k wide e f g =
    heard_is_the_grammar room pool ps n wide f ∙ ap (capture (length room) (length pool)) e ∙ sym (heard_is_the_grammar room pool qs k wide g)
