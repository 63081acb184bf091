-- A capture, byte by byte, and what is told of it.
use Rattle.std.specs.Prelude.{ℕ, zero, suc, ◌+◌, ◌-◌, Bool, true, false, ◌&&◌, not, cond, List, [], ◌∷◌, ◌++◌, eqb, ltb, length}
use Rattle.grammar.specs.declared.Head.{Head}
use Rattle.grammar.specs.declared.Phase.{Phase}
use Rattle.grammar.specs.declared.Phase.TheVariants.{Heading, Skipping, Kind, Size, Identifier, Name, Closing, Ending, Declared, Body, Aside, Valued, Done, Refused}
use Rattle.grammar.specs.Words.{Word}
use Rattle.grammar.specs.Grammar.{head, go_to, State, state, with_head, step}

-- what is read: the state after the last whole word, the word at hand, its place, the place of the next byte, and the place of the item at hand
pub record Reading : Type 0 where
  pub state : State
  pub text : Word
  pub start : ℕ
  pub at : ℕ
  pub item : ℕ

abbrev pub reading : State → Word → ℕ → ℕ → ℕ → Reading
reading s w start at item = record { state = s; text = w; start = start; at = at; item = item }

-- the next byte's place; the last of 64 bits stays
unfoldable pub later : ℕ → ℕ
later at = cond (ltb at 18446744073709551615) (at + 1) at

-- 02 (xiii), reading 2: an item begins with a word here
unfoldable pub begins : Phase → Bool
begins Heading = true
begins Body = true
begins Skipping = false
begins Kind = false
begins Size = false
begins (Identifier size) = false
begins (Name size) = false
begins (Closing size k) = false
begins Ending = false
begins Declared = false
begins Aside = false
begins (Valued d) = false
begins Done = false
begins (Refused n) = false

-- the word at hand is over, if there is one
unfoldable pub closed : ℕ → Reading → Reading
closed room r =
    cond (ltb 0 (length r.text))
    (reading (step room r.state r.text) [] r.at r.at (cond (begins r.state.head.phase) r.start r.item))
    r

-- 02 (xiii), reading 1: a byte above 32 belongs to a word, any other ends it
unfoldable pub byte_on : ℕ → Reading → ℕ → Reading
byte_on room r b =
    cond (ltb 32 b)
    (reading r.state (r.text ++ (b ∷ [])) r.start (later r.at) r.item)
    (let c = closed room r in reading c.state [] (later c.at) (later c.at) c.item)

-- ---- what is told

pub data Said : Type 0 where
  Signals : ℕ → Said
  Tick : ℕ → List ℕ → List ℕ → Said
  Fault : ℕ → ℕ → Said

-- 02 (xiii), reading 11: so many ticks, with the values repeated
unfoldable pub repeated : ℕ → ℕ → List ℕ → List ℕ → List Said
repeated zero t v u = []
repeated (suc n) t v u = Tick t v u ∷ repeated n (suc t) v u

-- the number of signals after the declarations, and a fault at its item's place
unfoldable pub told_by : Phase → Head → ℕ → List Said
told_by Declared h item = Signals h.signals ∷ []
told_by (Refused n) h item = Fault n item ∷ []
told_by Heading h item = []
told_by Skipping h item = []
told_by Kind h item = []
told_by Size h item = []
told_by (Identifier size) h item = []
told_by (Name size) h item = []
told_by (Closing size k) h item = []
told_by Ending h item = []
told_by Body h item = []
told_by Aside h item = []
told_by (Valued d) h item = []
told_by Done h item = []

-- 02 (xiii), reading 12: a tick is told when a later mark is reached
unfoldable pub told : Head → ℕ → List Said
told h item = repeated (h.mark - h.time) h.time h.values h.unknown ++ told_by h.phase h item

unfoldable pub phase_after : Phase → Phase
phase_after Declared = Body
phase_after (Refused n) = Done
phase_after Heading = Heading
phase_after Skipping = Skipping
phase_after Kind = Kind
phase_after Size = Size
phase_after (Identifier size) = Identifier size
phase_after (Name size) = Name size
phase_after (Closing size k) = Closing size k
phase_after Ending = Ending
phase_after Body = Body
phase_after Aside = Aside
phase_after (Valued d) = Valued d
phase_after Done = Done

-- what is told is told once
unfoldable pub settled : Head → Head
settled h = head (phase_after h.phase) h.signals h.declared h.values h.unknown h.begun h.mark h.mark

unfoldable pub settled_in : Reading → Reading
settled_in r = reading (with_head r.state (settled r.state.head)) r.text r.start r.at r.item

-- 02 (xiii), reading 12: the end of the file tells the last tick; readings 2 and 6: an item that is cut off is 14 at its place, and where
-- `$enddefinitions` is missing, at the file's length
unfoldable pub last_by : Phase → Head → ℕ → ℕ → List Said
last_by Body h at item = cond h.begun (Tick h.time h.values h.unknown ∷ []) []
last_by Heading h at item = Fault 14 at ∷ []
last_by Done h at item = []
last_by Skipping h at item = Fault 14 item ∷ []
last_by Kind h at item = Fault 14 item ∷ []
last_by Size h at item = Fault 14 item ∷ []
last_by (Identifier size) h at item = Fault 14 item ∷ []
last_by (Name size) h at item = Fault 14 item ∷ []
last_by (Closing size k) h at item = Fault 14 item ∷ []
last_by Ending h at item = Fault 14 item ∷ []
last_by Declared h at item = Fault 14 item ∷ []
last_by Aside h at item = Fault 14 item ∷ []
last_by (Valued d) h at item = Fault 14 item ∷ []
last_by (Refused n) h at item = Fault 14 item ∷ []

unfoldable pub ending : Reading → List Said
ending r = last_by r.state.head.phase r.state.head r.at r.item

-- what a byte tells, and where it leaves the reader
unfoldable pub said_by : ℕ → Reading → ℕ → List Said
said_by room r b = let n = byte_on room r b in told n.state.head n.item

unfoldable pub read_by : ℕ → Reading → ℕ → Reading
read_by room r b = settled_in (byte_on room r b)

-- the same of a part of the file
unfoldable pub said_over : ℕ → Reading → List ℕ → List Said
said_over room r [] = []
said_over room r (b ∷ s) = said_by room r b ++ said_over room (read_by room r b) s

unfoldable pub read_over : ℕ → Reading → List ℕ → Reading
read_over room r [] = r
read_over room r (b ∷ s) = read_over room (read_by room r b) s

-- the same of the file's end
unfoldable pub said_last : ℕ → Reading → List Said
said_last room r = let c = closed room r in told c.state.head c.item ++ ending (settled_in c)

-- what is told of a file from here on
unfoldable pub answers : ℕ → Reading → List ℕ → List Said
answers room r s = said_over room r s ++ said_last room (read_over room r s)

-- 02 (xiii), reading 11: signals that are missing or not yet given are unknown
unfoldable pub start_head : Head
start_head =
    head Heading 0
    (false ∷ false ∷ false ∷ false ∷ false ∷ false ∷ false ∷ false ∷ [])
    (0 ∷ 0 ∷ 0 ∷ 0 ∷ 0 ∷ 0 ∷ 0 ∷ 0 ∷ [])
    (127 ∷ 511 ∷ 1 ∷ 1 ∷ 255 ∷ 7 ∷ 1023 ∷ 1 ∷ [])
    false 0 0

-- a reader with so many bytes for identifiers, at the first byte of a file
unfoldable pub start : ℕ → Reading
start pool = reading (state start_head [] false [] pool) [] 0 0 0

-- what a file tells, with so much room for a word and so much for identifiers
unfoldable pub capture : ℕ → ℕ → List ℕ → List Said
capture room pool s = answers room (start pool) s
