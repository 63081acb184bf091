-- A run file one record at a time: what it says at a cursor, and the cursor past it. No rules: how the reader goes through what `File` says.
use Rattle.std.specs.Prelude.{ℕ, zero, suc, ◌+◌, ◌-◌, Bool, true, false, cond, List, [], ◌∷◌, eqb, ltb, drop, Result, Ok, Err}
use Rattle.script.specs.declared.Step.{Step}
use Rattle.script.specs.declared.Fault.{Fault}
use Rattle.script.specs.declared.Changed.{Changed}
use Rattle.script.specs.declared.Part.{Part}
use Rattle.script.specs.declared.Part.TheVariants as part
use Rattle.script.specs.declared.Item.{Item}
use Rattle.script.specs.declared.Item.TheVariants as item
use Rattle.script.specs.declared.Cursor.{Cursor}
use Rattle.script.specs.declared.Found.{Found}
use Rattle.script.specs.Step.{fault_number, step_of}
use Rattle.script.specs.File.{size_of, count_of, change_of, end_of}

-- a record was read: the cursor goes past its bytes
abbrev pub on : Cursor → ℕ → Part → ℕ → Item → Found
on c bytes next left found = record { item = found; cursor = record { at = c.at + bytes; part = next; left = left } }

-- the end, or a fault: the cursor stays at it
abbrev pub stays : Cursor → Item → Found
stays c found = record { item = found; cursor = c }

abbrev pub refused : Cursor → Fault → Found
refused c fault = stays c (item.Refused (fault_number fault))

abbrev pub count_from : Cursor → (ℕ → Item) → Part → Result ℕ Fault → Found
count_from c says next (Ok n) = on c 2 next n (says n)
count_from c says next (Err fault) = refused c fault

abbrev pub change_from : Cursor → Part → Result Changed Fault → Found
change_from c memory (Ok change) = on c 3 memory (c.left - 1) (item.Change memory change.address change.value)
change_from c memory (Err fault) = refused c fault

abbrev pub step_from : Cursor → Result Step Fault → Found
step_from c (Ok step) = on c 5 part.Steps (c.left - 1) (item.Do step)
step_from c (Err fault) = refused c fault

unfoldable pub changes_begun : List ℕ → Cursor → Part → Found
changes_begun s c memory = count_from c (item.Changes memory) memory (count_of (size_of memory) (drop c.at s))

unfoldable pub steps_begun : List ℕ → Cursor → Found
steps_begun s c = count_from c item.Steps part.Steps (count_of 65535 (drop c.at s))

unfoldable pub changed : List ℕ → Cursor → Part → Found
changed s c memory = change_from c memory (change_of (size_of memory) (drop c.at s))

unfoldable pub step_read : List ℕ → Cursor → Found
step_read s c = step_from c (step_of (drop c.at s))

-- the part's records are all read: the next count, or the end
unfoldable pub begun : Part → List ℕ → Cursor → Found
begun part.Start s c = changes_begun s c part.Ram
begun part.Ram s c = changes_begun s c part.Rom
begun part.Rom s c = changes_begun s c part.Colour
begun part.Colour s c = steps_begun s c
begun part.Steps s c = stays c (end_of (drop c.at s))

-- a record of the part
unfoldable pub recorded : Part → List ℕ → Cursor → Found
recorded part.Start s c = changed s c part.Start
recorded part.Ram s c = changed s c part.Ram
recorded part.Rom s c = changed s c part.Rom
recorded part.Colour s c = changed s c part.Colour
recorded part.Steps s c = step_read s c

-- no part is begun, and the first count stands at 0
unfoldable pub start_of : Cursor
start_of = record { at = 0; part = part.Start; left = 0 }

-- a step is to come
unfoldable pub at_step : Part → ℕ → Bool
at_step part.Start left = false
at_step part.Ram left = false
at_step part.Rom left = false
at_step part.Colour left = false
at_step part.Steps left = ltb 0 left

-- what the file says at a cursor, and the cursor past it
unfoldable pub next_of : List ℕ → Cursor → Found
next_of s c = cond (eqb c.left 0) (begun c.part s c) (recorded c.part s c)

-- 01, Run file: nothing follows the end or a refusal
abbrev pub is_last : Item → Bool
is_last (item.Changes memory n) = false
is_last (item.Change memory address value) = false
is_last (item.Steps n) = false
is_last (item.Do step) = false
is_last item.Done = true
is_last (item.Refused number) = true

-- what n calls give one after the other, up to the last item
unfoldable pub read_from : ℕ → List ℕ → Cursor → List Item
read_from zero s c = []
read_from (suc n) s c =
    let found = next_of s c in
    found.item ∷ cond (is_last found.item) [] (read_from n s found.cursor)
