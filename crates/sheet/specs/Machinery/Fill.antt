-- A block of the chart: turns, one after the other, as long as there is room for one more.
use Rattle.std.specs.Prelude.{ℕ, zero, suc, ◌-◌, ◌≤◌, ◌<◌, ◌≡◌, Bool, false, ◌&&◌, cond, List, [], ◌++◌, leb, length}
use Rattle.line.specs.Text.{Written}
use Rattle.sheet.specs.declared.Run.{Run}
use Rattle.driver.specs.Driver.{Store}
use Rattle.sheet.specs.Sheet.{placed, said_in, run_in, store_in}

-- all that a turn changes, and the text so far
pub record Sheet : Type 0 where
  pub run : Run
  pub store : Store
  pub text : List ℕ

abbrev pub sheet : Run → Store → List ℕ → Sheet
sheet run m text = record { run = run; store = m; text = text }

unfoldable pub one_turn : List ℕ → Sheet → Sheet
one_turn s x =
    sheet (run_in s x.store x.run) (store_in s x.store x.run) (x.text ++ said_in s x.store x.run)

-- the run is not over, and 64 of the block's 65,536 bytes are free
abbrev pub goes : Run → Bool
goes r = r.going && leb r.at 65472

-- n turns, or fewer where it stops before
unfoldable pub turns : ℕ → List ℕ → Sheet → Sheet
turns zero s x = x
turns (suc n) s x = let y = turns n s x in cond (goes y.run) (one_turn s y) y

-- the bytes that a run still has to read, and one; none where it is over
unfoldable pub ahead : List ℕ → Run → ℕ
ahead s r = cond r.going (suc (length s - r.cursor.at)) 0

-- so many turns from a run on, and their text after its place
pub record Turned (s : List ℕ) (m : Store) (start : Run) (out : List ℕ) (left : Store) (r : Run) (after : List ℕ) : Type 0 where
  pub count : ℕ
  pub run : r ≡ (turns count s (sheet start m [])).run
  pub store : left ≡ (turns count s (sheet start m [])).store
  pub text : Written out start.at (turns count s (sheet start m [])).text after r.at

-- at least one of them: less is left to read
pub record Gone (s : List ℕ) (m : Store) (start : Run) (out : List ℕ) (left : Store) (r : Run) (after : List ℕ) : Type 0 where
  pub turned : Turned s m start out left r after
  pub within : r.at ≤ 65536
  pub less : ahead s r < ahead s start

-- a block begins with no text
abbrev pub emptied : Run → Run
emptied r = placed r 0 r.going

-- the turns up to where it stops, and their text in the block
pub record Filled (s : List ℕ) (m : Store) (start : Run) (out : List ℕ) (left : Store) (r : Run) (after : List ℕ) : Type 0 where
  pub turned : Turned s m (emptied start) out left r after
  pub over : goes r ≡ false
