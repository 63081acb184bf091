-- The bus of a whole run file: what the driver has to tell of each turn, as text; and what the run leaves.
use Rattle.std.specs.Prelude.{ℕ, zero, suc, ◌+◌, ◌%◌, cond, List, [], ◌++◌, length}
use Rattle.script.specs.Machinery.Cursor.{next_of}
use Rattle.access.specs.declared.Reads.{Reads}
use Rattle.chip.specs.declared.Chip.{Chip}
use Rattle.driver.specs.declared.Run.{Run}
use Rattle.driver.specs.declared.Event.{Event}
use Rattle.driver.specs.declared.Event.TheVariants as event
use Rattle.driver.specs.declared.Made.{Made}
use Rattle.driver.specs.Driver.{Store, made_on, store_at, begun_of}
use Rattle.line.specs.Text.{steps_of, refused_of}
use Rattle.ledger.specs.Text.{line_of}

-- 02 (viii): a tick's line has its cycle and its raster line, and its reads; 02 (xi): the cycles that its line has lost, at most 65 in an accepted state
abbrev pub tick_of : Chip → Reads → List ℕ
tick_of c reads = line_of c.side.beam.cycle c.side.beam.raster (c.side.bus.lost % 65536) reads

-- 02 (viii): `steps N` and a refusal as in the chart, and a line for each tick
unfoldable pub text_by : Event → Chip → ℕ → Reads → List ℕ
text_by event.Nothing c done reads = []
text_by (event.Steps n) c done reads = steps_of n
text_by event.Tick c done reads = tick_of c reads
text_by (event.Refused number) c done reads = refused_of number done

abbrev pub text_of : Made → List ℕ
text_of x = text_by x.event x.run.chip x.run.done x.reads

-- what is told of a run file, and what the run leaves
pub record Told : Type 0 where
  pub text : List ℕ
  pub run : Run
  pub store : Store

-- a turn, and what is told after it
abbrev pub first : Made → Told → Told
first x t = record { text = text_of x ++ t.text; run = t.run; store = t.store }

abbrev pub over : Run → Store → Told
over r m = record { text = []; run = r; store = m }

-- turn after turn, up to the one that ends the run
unfoldable pub told_from : ℕ → List ℕ → Store → Run → Told
told_from zero s m r = over r m
told_from (suc n) s m r =
    let found = next_of s r.cursor in
    let x = made_on m r found in
    cond r.going (first x (told_from n s (store_at m found.item) x.run)) (over r m)

-- 01, Run file: from power-up of a kind. A turn reads at least a byte or is the last, so that these are enough
unfoldable pub told_of : ℕ → Store → List ℕ → Told
told_of kind m s = told_from (length s + 1) s m (begun_of kind)
