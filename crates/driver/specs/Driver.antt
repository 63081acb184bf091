-- What a run file's next item does: to the run and to the memory, and what there is to tell of it.
use Rattle.std.specs.Prelude.{ℕ, ◌+◌, Bool, true, false, cond, List, [], eqb, ltb, length, set}
use Rattle.memory.specs.Lent.{Host, host}
use Rattle.script.specs.declared.Step.{Step}
use Rattle.script.specs.declared.Step.TheVariants as step
use Rattle.script.specs.declared.Part.{Part}
use Rattle.script.specs.declared.Part.TheVariants as part
use Rattle.script.specs.declared.Item.{Item}
use Rattle.script.specs.declared.Item.TheVariants as item
use Rattle.script.specs.declared.Cursor.{Cursor}
use Rattle.script.specs.declared.Found.{Found}
use Rattle.script.specs.Machinery.Cursor.{start_of}
use Rattle.access.specs.declared.Reads.{Reads}
use Rattle.access.specs.Reads.{told}
use Rattle.chip.specs.Chip.{powered}
use Rattle.run.specs.declared.Done.{Done}
use Rattle.run.specs.Run.{done_of}
use Rattle.driver.specs.declared.Run.{Run}
use Rattle.driver.specs.declared.Event.{Event}
use Rattle.driver.specs.declared.Event.TheVariants as event
use Rattle.driver.specs.declared.Made.{Made}

-- ---- the memory

-- 01, Memory: what a run file may change
pub record Store : Type 0 where
  pub ram : List ℕ
  pub rom : List ℕ
  pub colour : List ℕ

abbrev pub store : List ℕ → List ℕ → List ℕ → Store
store ram rom colour = record { ram = ram; rom = rom; colour = colour }

abbrev pub host_of : Store → ℕ → Host
host_of m bank = host m.ram m.rom m.colour bank

-- a byte of a memory; past its end, nothing
unfoldable pub set_in : List ℕ → ℕ → ℕ → List ℕ
set_in s address value = cond (ltb address (length s)) (set s address value) s

-- 01, Run file: a change goes to the memory of its section
unfoldable pub store_set : Part → ℕ → ℕ → Store → Store
store_set part.Start address value m = m
store_set part.Ram address value m = store (set_in m.ram address value) m.rom m.colour
store_set part.Rom address value m = store m.ram (set_in m.rom address value) m.colour
store_set part.Colour address value m = store m.ram m.rom (set_in m.colour address value)
store_set part.Steps address value m = m

-- ---- the run

-- 01, Run file; 02 (iv): memory starts 0, bank 0, the chip as at power-up of a kind, which no file names; no step is done
unfoldable pub begun_of : ℕ → Run
begun_of kind = record { chip = powered kind; cursor = start_of; done = 0; bank = 0; going = true }

abbrev pub cursor_at : Run → Cursor → Run
cursor_at r c = record { chip = r.chip; cursor = c; done = r.done; bank = r.bank; going = r.going }

abbrev pub going≔ : Bool → Run → Run
going≔ going r = record { chip = r.chip; cursor = r.cursor; done = r.done; bank = r.bank; going = going }

-- a file has 65,535 steps at most, so that the count never stays
abbrev pub one_more : ℕ → ℕ
one_more done = cond (ltb done 65535) (done + 1) done

-- a step is done
abbrev pub step_done : Run → Done → Run
step_done r d = record { chip = d.chip; cursor = r.cursor; done = one_more r.done; bank = d.bank; going = r.going }

-- ---- one item

abbrev pub made_reading : Run → Event → Reads → Made
made_reading r e reads = record { run = r; event = e; reads = reads }

-- nothing is read
abbrev pub made : Run → Event → Made
made r e = made_reading r e (told [])

-- 01, chart: a tick is told, no other step
unfoldable pub event_of : Step → Event
event_of step.Tick = event.Tick
event_of (step.Write address value) = event.Nothing
event_of (step.Expand value) = event.Nothing
event_of (step.Controls ctrl1 ctrl2 compare) = event.Nothing
event_of (step.Late value) = event.Nothing
event_of step.Borders = event.Nothing
event_of (step.Bank bank) = event.Nothing
event_of (step.Control1 value) = event.Nothing
event_of (step.Control2 value) = event.Nothing

-- 01, Run file: a step by its answer; a refusal ends the run; 02 (viii): a step that is done has its reads
abbrev pub made_by : Run → Step → Done → Made
made_by r s d = cond (eqb d.refused 0) (made_reading (step_done r d) (event_of s) d.reads) (made (going≔ false r) (event.Refused d.refused))

unfoldable pub made_doing : Store → Run → Step → Made
made_doing m r s = made_by r s (done_of (host_of m r.bank) r.chip s)

unfoldable pub made_at : Store → Run → Item → Made
made_at m r (item.Changes memory n) = made r event.Nothing
made_at m r (item.Change memory address value) = made r event.Nothing
made_at m r (item.Steps n) = made (going≔ true r) (event.Steps n)
made_at m r (item.Do s) = made_doing m r s
made_at m r item.Done = made (going≔ false r) event.Nothing
made_at m r (item.Refused number) = made (going≔ false r) (event.Refused number)

unfoldable pub store_at : Store → Item → Store
store_at m (item.Changes memory n) = m
store_at m (item.Change memory address value) = store_set memory address value m
store_at m (item.Steps n) = m
store_at m (item.Do s) = m
store_at m item.Done = m
store_at m (item.Refused number) = m

-- what was read, done, and the run goes on past it
abbrev pub made_on : Store → Run → Found → Made
made_on m r found = made_at m (cursor_at r found.cursor) found.item
