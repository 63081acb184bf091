-- What a viewer makes of a dump, word by word: the values of each time unit from the first mark to the last.
use Rattle.std.specs.Prelude.{ℕ, zero, suc, ◌+◌, ◌-◌, ◌*◌, Bool, true, false, ◌&&◌, cond, List, [], ◌∷◌, ◌++◌, map, eqb, ltb, leb, length, set, get_or}
use Rattle.vcd.specs.declared.Record.{Record}
use Rattle.vcd.specs.Signals.{values_of}
use Rattle.line.specs.Text.{ascii}
use Rattle.viewer.specs.Words.{Word, same}

-- a signal's value, unknown until it is given
pub data Value : Type 0 where
  Unknown : Value
  Is : ℕ → Value

-- a declared signal
pub record Entry : Type 0 where
  pub id : Word
  pub name : Word
  pub width : ℕ

-- where the reader is: between sections, in one that is passed by, in a declaration with the words so far, at the end of the
-- declarations, among the changes, in a comment there, after a vector's digits, or at a word that is no dump's
pub data Phase : Type 0 where
  Heading : Phase
  Skipping : Phase
  Declaring : List Word → Phase
  Ending : Phase
  Body : Phase
  Aside : Phase
  Valued : Word → Phase
  Stopped : Phase

pub record State : Type 0 where
  pub phase : Phase
  pub table : List Entry
  pub values : List Value
  pub begun : Bool
  pub time : ℕ
  -- how many changes gave a signal the value that it had
  pub stale : ℕ

abbrev pub state : Phase → List Entry → List Value → Bool → ℕ → ℕ → State
state p t v b n k = record { phase = p; table = t; values = v; begun = b; time = n; stale = k }

abbrev pub go_to : State → Phase → State
go_to s p = state p s.table s.values s.begun s.time s.stale

-- ---- numbers

-- digits in a base, the lowest last
unfoldable pub number_from : ℕ → ℕ → Word → ℕ
number_from b n [] = n
number_from b n (d ∷ s) = number_from b (n * b + (d - 48)) s

unfoldable pub are_digits : ℕ → Word → Bool
are_digits b [] = true
are_digits b (d ∷ s) = ltb 47 d && ltb d (48 + b) && are_digits b s

-- ---- declarations

-- IEEE 1364: `$var`, type, size, identifier, name, `$end`
unfoldable pub declared : State → List Word → State
declared s (kind ∷ size ∷ id ∷ name ∷ more) =
    state Heading (s.table ++ (record { id = id; name = name; width = number_from 10 0 size } ∷ [])) (s.values ++ (Unknown ∷ [])) s.begun s.time s.stale
declared s (kind ∷ size ∷ id ∷ []) = go_to s Stopped
declared s (kind ∷ size ∷ []) = go_to s Stopped
declared s (kind ∷ []) = go_to s Stopped
declared s [] = go_to s Stopped

unfoldable pub in_heading : State → Word → State
in_heading s w =
    cond (same w (ascii "$var")) (go_to s (Declaring []))
    (cond (same w (ascii "$enddefinitions")) (go_to s Ending)
    (cond (eqb (get_or w 0 0) 36) (go_to s Skipping) (go_to s Stopped)))

-- ---- changes

-- the place of an identifier in the table, from k on
unfoldable pub place_from : ℕ → List Entry → Word → ℕ
place_from k [] id = k
place_from k (e ∷ t) id = cond (same e.id id) k (place_from (suc k) t id)

unfoldable pub width_at : List Entry → ℕ → ℕ
width_at [] k = 0
width_at (e ∷ t) zero = e.width
width_at (e ∷ t) (suc k) = width_at t k

-- 1 where the signal had the value
unfoldable pub stale_by : Value → ℕ → ℕ
stale_by Unknown v = 0
stale_by (Is n) v = cond (eqb n v) 1 0

-- IEEE 1364: binary digits, no more than the width, for a declared signal
unfoldable pub changed : State → Word → Word → State
changed s digits id =
    let k = place_from 0 s.table id in
    let v = number_from 2 0 digits in
    cond (ltb k (length s.table) && are_digits 2 digits && leb (length digits) (width_at s.table k))
    (state Body s.table (set s.values k (Is v)) s.begun s.time (s.stale + stale_by (get_or s.values k Unknown) v))
    (go_to s Stopped)

-- ---- time

unfoldable pub marked : State → Word → State
marked s digits =
    let t = number_from 10 0 digits in
    cond (are_digits 10 digits && ltb 0 (length digits) && leb (cond s.begun s.time 0) t)
    (state Body s.table s.values true t s.stale)
    (go_to s Stopped)

-- IEEE 1364: `#` a time, `0` or `1` a change of one bit, `b` a change of several, `$dumpvars` and its `$end`, a comment
unfoldable pub in_body : State → Word → State
in_body s [] = s
in_body s (b ∷ w) =
    cond (eqb b 35) (marked s w)
    (cond (are_digits 2 (b ∷ [])) (changed s (b ∷ []) w)
    (cond (eqb b 98) (go_to s (Valued w))
    (cond (same (b ∷ w) (ascii "$dumpvars")) s
    (cond (same (b ∷ w) (ascii "$end")) s
    (cond (eqb b 36) (go_to s Aside) (go_to s Stopped))))))

unfoldable pub step_by : Phase → State → Word → State
step_by Heading s w = in_heading s w
step_by Skipping s w = cond (same w (ascii "$end")) (go_to s Heading) s
step_by (Declaring words) s w = cond (same w (ascii "$end")) (declared s words) (go_to s (Declaring (words ++ (w ∷ []))))
step_by Ending s w = cond (same w (ascii "$end")) (go_to s Body) s
step_by Body s w = in_body s w
step_by Aside s w = cond (same w (ascii "$end")) (go_to s Body) s
step_by (Valued digits) s w = changed s digits w
step_by Stopped s w = s

unfoldable pub step : State → Word → State
step s w = step_by s.phase s w

unfoldable pub start : State
start = state Heading [] [] false 0 0

-- ---- what is seen

-- a time unit: the values, and how many changes up to it changed nothing
pub record Seen : Type 0 where
  pub time : ℕ
  pub values : List Value
  pub stale : ℕ

abbrev pub seen : ℕ → List Value → ℕ → Seen
seen t v k = record { time = t; values = v; stale = k }

-- so many time units, all with the same values
unfoldable pub repeated : ℕ → ℕ → List Value → ℕ → List Seen
repeated zero t v k = []
repeated (suc n) t v k = seen t v k ∷ repeated n (suc t) v k

-- a mark shows the time units before it
unfoldable pub shown : State → State → List Seen
shown s n = cond s.begun (repeated (n.time - s.time) s.time s.values s.stale) []

-- and the end of the file the last one
unfoldable pub last_shown : Phase → State → List Seen
last_shown Heading s = []
last_shown Skipping s = []
last_shown (Declaring words) s = []
last_shown Ending s = []
last_shown Body s = cond s.begun (repeated 1 s.time s.values s.stale) []
last_shown Aside s = []
last_shown (Valued digits) s = []
last_shown Stopped s = []

unfoldable pub views : State → List Word → List Seen
views s [] = last_shown s.phase s
views s (w ∷ more) = shown s (step s w) ++ views (step s w) more

-- ---- what is to be seen of a run: each tick's record, one a time unit, and no change that changed nothing

unfoldable pub seen_from : ℕ → List Record → List Seen
seen_from t [] = []
seen_from t (r ∷ more) = seen t (map Is (values_of r)) 0 ∷ seen_from (suc t) more
