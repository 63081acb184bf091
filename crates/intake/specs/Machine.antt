-- No rules: a reader with what is lent to it, byte by byte.
use Rattle.std.specs.Prelude.{ℕ, ◌+◌, Bool, true, false, ◌&&◌, ◌||◌, not, cond, List, [], ◌∷◌, eqb, ltb, leb, length, set}
use Rattle.line.specs.Text.{ascii, pasted}
use Rattle.grammar.specs.declared.Head.{Head}
use Rattle.grammar.specs.declared.Phase.{Phase}
use Rattle.grammar.specs.declared.Phase.TheVariants.{Heading, Skipping, Kind, Size, Identifier, Name, Closing, Ending, Declared, Body, Aside, Valued, Done, Refused}
use Rattle.grammar.specs.Words.{Word as Text, same}
use Rattle.grammar.specs.Grammar.{fate, head_by}
use Rattle.grammar.specs.Reading.{later, begins}
use Rattle.phrase.specs.declared.Table.{Table}
use Rattle.phrase.specs.Table.{part_of, least_of, table_of}
use Rattle.intake.specs.declared.Word.{Word}
use Rattle.intake.specs.declared.Reader.{Reader}

-- ---- the table

abbrev pub table : ℕ → List ℕ → List ℕ → ℕ → ℕ → Bool → Table
table n ends which used tail fits = record { count = n; ends = ends; which = which; used = used; tail = tail; fits = fits }

unfoldable pub holds : ℕ → ℕ → Bool → ℕ → Bool
holds used len over pool = not over && leb (used + len) pool

abbrev pub opened_of : Table → ℕ → Table
opened_of t tail = table t.count t.ends t.which t.used tail true

abbrev pub unfit_of : Table → Table
unfit_of t = table t.count t.ends t.which t.used t.tail false

unfoldable pub kept_of : Table → Text → Bool → List ℕ → Table
kept_of t w over pool =
    cond (holds t.used (length w) over (length pool)) (opened_of t (t.used + length w)) (unfit_of t)

unfoldable pub pool_kept : Table → Text → Bool → List ℕ → List ℕ
pool_kept t w over pool = cond (holds t.used (length w) over (length pool)) (pasted pool t.used w) pool

unfoldable pub entered_of : Table → ℕ → Table
entered_of t k =
    cond (ltb t.count 64)
    (table (t.count + 1) (set t.ends t.count t.tail) (set t.which t.count k) t.tail t.tail t.fits) t

unfoldable pub noted_of : Table → Text → ℕ → ℕ → Table
noted_of t w size k =
    cond (same w (ascii "$end") && eqb (fate size k (least_of t.count 64) t.fits) 0) (entered_of t k) t

unfoldable pub listed_of : Phase → Table → Text → Bool → List ℕ → Table
listed_of (Identifier size) t w over pool = kept_of t w over pool
listed_of (Closing size k) t w over pool = noted_of t w size k
listed_of Heading t w over pool = t
listed_of Skipping t w over pool = t
listed_of Kind t w over pool = t
listed_of Size t w over pool = t
listed_of (Name size) t w over pool = t
listed_of Ending t w over pool = t
listed_of Declared t w over pool = t
listed_of Body t w over pool = t
listed_of Aside t w over pool = t
listed_of (Valued d) t w over pool = t
listed_of Done t w over pool = t
listed_of (Refused n) t w over pool = t

unfoldable pub pool_of : Phase → Table → Text → Bool → List ℕ → List ℕ
pool_of (Identifier size) t w over pool = pool_kept t w over pool
pool_of (Closing size k) t w over pool = pool
pool_of Heading t w over pool = pool
pool_of Skipping t w over pool = pool
pool_of Kind t w over pool = pool
pool_of Size t w over pool = pool
pool_of (Name size) t w over pool = pool
pool_of Ending t w over pool = pool
pool_of Declared t w over pool = pool
pool_of Body t w over pool = pool
pool_of Aside t w over pool = pool
pool_of (Valued d) t w over pool = pool
pool_of Done t w over pool = pool
pool_of (Refused n) t w over pool = pool

-- ---- a byte

abbrev pub word : ℕ → Bool → ℕ → ℕ → ℕ → Word
word len over start at item = record { len = len; over = over; start = start; at = at; item = item }

abbrev pub fresh : ℕ → ℕ → Word
fresh at item = word 0 false at at item

abbrev pub reader : Head → Table → Word → Bool → Reader
reader h t w ended = record { head = h; table = t; word = w; ended = ended }

-- what a reader holds, and what is lent to it: the room for a word, and the pool
pub record Machine : Type 0 where
  pub reader : Reader
  pub room : List ℕ
  pub pool : List ℕ

abbrev pub machine : Reader → List ℕ → List ℕ → Machine
machine r room pool = record { reader = r; room = room; pool = pool }

unfoldable pub grown_of : Word → ℕ → Word
grown_of w room =
    cond (ltb w.len room) (word (w.len + 1) w.over w.start (later w.at) w.item)
    (word w.len true w.start (later w.at) w.item)

unfoldable pub room_of : Word → ℕ → List ℕ → List ℕ
room_of w b room = cond (ltb w.len (length room)) (set room w.len b) room

-- the word is over
unfoldable pub step_of : Machine → Machine
step_of m =
    let r = m.reader in
    let w = r.word in
    let text = part_of m.room 0 w.len in
    let phase = r.head.phase in
    machine
    (reader (head_by phase r.head text w.over (table_of r.table m.pool) r.table.fits)
    (listed_of phase r.table text w.over m.pool)
    (fresh w.at (cond (begins phase) w.start w.item))
    r.ended)
    m.room
    (pool_of phase r.table text w.over m.pool)

unfoldable pub closed_of : Machine → Machine
closed_of m = cond (ltb 0 m.reader.word.len) (step_of m) m

abbrev pub with_word : Reader → Word → Reader
with_word r w = reader r.head r.table w r.ended

unfoldable pub white_of : Machine → Machine
white_of m =
    let c = closed_of m in
    machine (with_word c.reader (fresh (later c.reader.word.at) c.reader.word.item)) c.room c.pool

unfoldable pub black_of : Machine → ℕ → Machine
black_of m b =
    machine (with_word m.reader (grown_of m.reader.word (length m.room))) (room_of m.reader.word b m.room) m.pool

unfoldable pub byte_of : Machine → ℕ → Machine
byte_of m b = cond (ltb 32 b) (black_of m b) (white_of m)

-- ---- a part

-- something is to be told before the next byte is read
unfoldable pub waits : Phase → Bool
waits Declared = true
waits Done = true
waits (Refused n) = true
waits Heading = false
waits Skipping = false
waits Kind = false
waits Size = false
waits (Identifier size) = false
waits (Name size) = false
waits (Closing size k) = false
waits Ending = false
waits Body = false
waits Aside = false
waits (Valued d) = false

unfoldable pub busy : Reader → Bool
busy r = r.ended || ltb r.head.time r.head.mark || waits r.head.phase

-- up to the first byte after which something is to be told
pub record Scan : Type 0 where
  pub machine : Machine
  pub at : ℕ

abbrev pub scan : Machine → ℕ → Scan
scan m at = record { machine = m; at = at }

unfoldable pub scan_of : Machine → List ℕ → ℕ → Scan
scan_of m [] at = scan m at
scan_of m (b ∷ s) at = let more = scan_of (byte_of m b) s (at + 1) in cond (busy m.reader) (scan m at) more
