-- What the chart says of a run file's next item, and where its text goes on.
use Rattle.std.specs.Prelude.{ℕ, ◌+◌, Bool, List, [], length}
use Rattle.script.specs.declared.Item.{Item}
use Rattle.script.specs.declared.Cursor.{Cursor}
use Rattle.script.specs.declared.Found.{Found}
use Rattle.script.specs.Machinery.Cursor.{next_of}
use Rattle.chip.specs.declared.Chip.{Chip}
use Rattle.driver.specs.declared.Run.{Run as Drive}
use Rattle.driver.specs.declared.Event.{Event}
use Rattle.driver.specs.declared.Event.TheVariants as event
use Rattle.driver.specs.declared.Made.{Made}
use Rattle.driver.specs.Driver.{Store, made_at, store_at, begun_of as drive_begun}
use Rattle.line.specs.Line.{numbers_of}
use Rattle.line.specs.Text.{line_of, steps_of, refused_of}
use Rattle.sheet.specs.declared.Run.{Run}

-- ---- the run

-- without its text
abbrev pub driven_of : Run → Drive
driven_of r = record { chip = r.chip; cursor = r.cursor; done = r.done; bank = r.bank; going = r.going }

abbrev pub with_text : Drive → ℕ → Run
with_text d at = record { chip = d.chip; cursor = d.cursor; at = at; done = d.done; bank = d.bank; going = d.going }

-- nothing is written
unfoldable pub begun_of : ℕ → Run
begun_of kind = with_text (drive_begun kind) 0

abbrev pub cursor_at : Run → Cursor → Run
cursor_at r c = record { chip = r.chip; cursor = c; at = r.at; done = r.done; bank = r.bank; going = r.going }

-- the text goes on at another place, and the run goes on or not
abbrev pub placed : Run → ℕ → Bool → Run
placed r at going = record { chip = r.chip; cursor = r.cursor; at = at; done = r.done; bank = r.bank; going = going }

-- ---- what the chart says

-- 01, chart: `steps N`, a line for each tick, and for a fault its number and the steps done
unfoldable pub text_by : Event → Chip → ℕ → List ℕ
text_by event.Nothing c done = []
text_by (event.Steps n) c done = steps_of n
text_by event.Tick c done = line_of (numbers_of c)
text_by (event.Refused number) c done = refused_of number done

abbrev pub text_of : Made → List ℕ
text_of x = text_by x.event x.run.chip x.run.done

-- 01, chart: `steps N` first; a fault before that prints only the refusal, with 0
unfoldable pub said_at : Store → Run → Item → List ℕ
said_at m r i = text_of (made_at m (driven_of r) i)

unfoldable pub run_at : Store → Run → Item → Run
run_at m r i = with_text (made_at m (driven_of r) i).run (r.at + length (text_of (made_at m (driven_of r) i)))

-- ---- one turn: what was read, done, and the run goes on past it

abbrev pub said_on : Store → Run → Found → List ℕ
said_on m r found = said_at m (cursor_at r found.cursor) found.item

abbrev pub run_on : Store → Run → Found → Run
run_on m r found = run_at m (cursor_at r found.cursor) found.item

-- what the file says next, done
unfoldable pub said_in : List ℕ → Store → Run → List ℕ
said_in s m r = said_on m r (next_of s r.cursor)

unfoldable pub run_in : List ℕ → Store → Run → Run
run_in s m r = run_on m r (next_of s r.cursor)

unfoldable pub store_in : List ℕ → Store → Run → Store
store_in s m r = store_at m (next_of s r.cursor).item
