-- The dump of a whole run file: what the driver has to tell of each turn, as records and a refusal; and what the run leaves.
use Rattle.std.specs.Prelude.{ℕ, zero, suc, ◌+◌, cond, List, [], ◌∷◌, ◌++◌, length}
use Rattle.script.specs.Machinery.Cursor.{next_of}
use Rattle.chip.specs.declared.Chip.{Chip}
use Rattle.driver.specs.declared.Run.{Run}
use Rattle.driver.specs.declared.Event.{Event}
use Rattle.driver.specs.declared.Event.TheVariants as event
use Rattle.driver.specs.declared.Made.{Made}
use Rattle.driver.specs.Driver.{Store, made_on, store_at, begun_of}
use Rattle.vcd.specs.declared.Record.{Record}
use Rattle.vcd.specs.Text.{dump_text, refusal_text}
use Rattle.wave.specs.Wave.{record_of}

-- what a run file has played
pub record Played : Type 0 where
  -- each tick's values
  pub records : List Record
  -- the comment that ends a refused run
  pub refusal : List ℕ
  pub run : Run
  pub store : Store

-- 02 (i): a tick is a record, and nothing else is
unfoldable pub records_by : Event → Chip → List Record
records_by event.Nothing c = []
records_by (event.Steps n) c = []
records_by event.Tick c = record_of c ∷ []
records_by (event.Refused number) c = []

-- 02 (i): a refusal is told, before the first tick too
unfoldable pub refusal_by : Event → ℕ → List ℕ
refusal_by event.Nothing done = []
refusal_by (event.Steps n) done = []
refusal_by event.Tick done = []
refusal_by (event.Refused number) done = refusal_text number done

-- a turn, and what is played after it
abbrev pub first : Made → Played → Played
first x p =
    record {
      records = records_by x.event x.run.chip ++ p.records;
      refusal = refusal_by x.event x.run.done ++ p.refusal;
      run = p.run;
      store = p.store;
    }

abbrev pub over : Run → Store → Played
over r m = record { records = []; refusal = []; run = r; store = m }

-- turn after turn, up to the one that ends the run
unfoldable pub played : ℕ → List ℕ → Store → Run → Played
played zero s m r = over r m
played (suc n) s m r =
    let found = next_of s r.cursor in
    let x = made_on m r found in
    cond r.going (first x (played n s (store_at m found.item) x.run)) (over r m)

-- 01, Run file: from power-up of a kind. A turn reads at least a byte or is the last, so that these are enough
unfoldable pub played_of : ℕ → Store → List ℕ → Played
played_of kind m s = played (length s + 1) s m (begun_of kind)

-- 02 (i): the dump of its ticks, and the comment
unfoldable pub dump_of : ℕ → Store → List ℕ → List ℕ
dump_of kind m s = dump_text (played_of kind m s).records ++ (played_of kind m s).refusal
