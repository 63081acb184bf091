-- No rules: what a reader answers, one thing at a time.
use Rattle.std.specs.Prelude.{ℕ, Bool, true, false, cond, List, [], ◌∷◌, ltb, length, drop}
use Rattle.laws.specs.Lists.{zeros}
use Rattle.grammar.specs.declared.Head.{Head}
use Rattle.grammar.specs.declared.Phase.{Phase}
use Rattle.grammar.specs.declared.Phase.TheVariants.{Heading, Skipping, Kind, Size, Identifier, Name, Closing, Ending, Declared, Body, Aside, Valued, Done, Refused}
use Rattle.grammar.specs.Grammar.{head, go_to}
use Rattle.grammar.specs.Reading.{later, start_head}
use Rattle.intake.specs.declared.Word.{Word}
use Rattle.intake.specs.declared.Reader.{Reader}
use Rattle.intake.specs.declared.Record.{Record}
use Rattle.intake.specs.declared.Said.{Said}
use Rattle.intake.specs.declared.Said.TheVariants as say
use Rattle.intake.specs.declared.Told.{Told}
use Rattle.intake.specs.Machine.{table, fresh, reader, Machine, machine, closed_of, Scan, scan_of}

abbrev pub record_of : Head → Record
record_of h = record { time = h.time; values = h.values; unknown = h.unknown }

abbrev pub with_head : Reader → Head → Reader
with_head r h = reader h r.table r.word r.ended

abbrev pub tell_of : Said → Reader → Head → ℕ → Told
tell_of said r h at = record { said = said; tick = record_of r.head; reader = with_head r h; at = at }

abbrev pub next_tick : Head → Head
next_tick h = head h.phase h.signals h.declared h.values h.unknown h.begun (later h.time) h.mark

-- at the end of the file
unfoldable pub body_end : Reader → ℕ → Told
body_end r at = tell_of (cond r.head.begun say.Tick say.End) r (go_to r.head Done) at

unfoldable pub cut_off : Reader → ℕ → ℕ → Told
cut_off r place at = tell_of (say.Refused 14 place) r (go_to r.head Done) at

unfoldable pub last_of : Phase → Reader → ℕ → Told
last_of Heading r at = cut_off r r.word.at at
last_of Body r at = body_end r at
last_of Skipping r at = cut_off r r.word.item at
last_of Kind r at = cut_off r r.word.item at
last_of Size r at = cut_off r r.word.item at
last_of (Identifier size) r at = cut_off r r.word.item at
last_of (Name size) r at = cut_off r r.word.item at
last_of (Closing size k) r at = cut_off r r.word.item at
last_of Ending r at = cut_off r r.word.item at
last_of Declared r at = cut_off r r.word.item at
last_of Aside r at = cut_off r r.word.item at
last_of (Valued d) r at = cut_off r r.word.item at
last_of Done r at = cut_off r r.word.item at
last_of (Refused n) r at = cut_off r r.word.item at

unfoldable pub idle_of : Reader → ℕ → Told
idle_of r at = cond r.ended (last_of r.head.phase r at) (tell_of say.More r r.head at)

unfoldable pub waiting_of : Phase → Reader → ℕ → Told
waiting_of Declared r at = tell_of (say.Signals r.head.signals) r (go_to r.head Body) at
waiting_of (Refused n) r at = tell_of (say.Refused n r.word.item) r (go_to r.head Done) at
waiting_of Done r at = tell_of say.End r r.head at
waiting_of Heading r at = idle_of r at
waiting_of Skipping r at = idle_of r at
waiting_of Kind r at = idle_of r at
waiting_of Size r at = idle_of r at
waiting_of (Identifier size) r at = idle_of r at
waiting_of (Name size) r at = idle_of r at
waiting_of (Closing size k) r at = idle_of r at
waiting_of Ending r at = idle_of r at
waiting_of Body r at = idle_of r at
waiting_of Aside r at = idle_of r at
waiting_of (Valued d) r at = idle_of r at

unfoldable pub answer_of : Reader → ℕ → Told
answer_of r at =
    cond (ltb r.head.time r.head.mark) (tell_of say.Tick r (next_tick r.head) at) (waiting_of r.head.phase r at)

-- an answer, and what was lent after it
pub record Next : Type 0 where
  pub told : Told
  pub room : List ℕ
  pub pool : List ℕ

abbrev pub next : Told → List ℕ → List ℕ → Next
next t room pool = record { told = t; room = room; pool = pool }

unfoldable pub answered : Scan → Next
answered s = next (answer_of s.machine.reader s.at) s.machine.room s.machine.pool

-- a room of less than 32 bytes is too short for any capture
unfoldable pub next_of : Machine → List ℕ → ℕ → Next
next_of m text from =
    cond (ltb (length m.room) 32)
    (next (tell_of (say.Refused 17 m.reader.word.at) m.reader (go_to m.reader.head Done) from) m.room m.pool)
    (answered (scan_of m (drop from text) from))

unfoldable pub end_of : Machine → Machine
end_of m =
    let c = closed_of m in
    machine (reader c.reader.head c.reader.table c.reader.word true) c.room c.pool

-- at the first byte of a file
unfoldable pub start_of : Reader
start_of = reader start_head (table 0 (zeros 64) (zeros 64) 0 0 false) (fresh 0 0) false
