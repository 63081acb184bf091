-- What a run file says: its sections in their order.
use Rattle.std.specs.Prelude.{ℕ, zero, suc, ◌+◌, cond, List, [], ◌∷◌, leb, ltb, length, get_or, drop, Result, Ok, Err}
use Rattle.laws.specs.Bytes.{word}
use Rattle.script.specs.declared.Step.{Step}
use Rattle.script.specs.declared.Fault.{Fault}
use Rattle.script.specs.declared.Fault.TheVariants as fault
use Rattle.script.specs.declared.Changed.{Changed}
use Rattle.script.specs.declared.Part.{Part}
use Rattle.script.specs.declared.Part.TheVariants as part
use Rattle.script.specs.declared.Item.{Item}
use Rattle.script.specs.declared.Item.TheVariants as item
use Rattle.script.specs.Step.{fault_number, step_of}

-- ---- one record

-- 01, Run file; Memory: the bytes of a memory, which is also the most changes of its section
abbrev pub size_of : Part → ℕ
size_of part.Start = 0
size_of part.Ram = 16384
size_of part.Rom = 4096
size_of part.Colour = 1024
size_of part.Steps = 0

-- 01, Run file; DECISIONS 33: a count is 8 above its limit as soon as its two bytes are there
unfoldable pub count_of : ℕ → List ℕ → Result ℕ Fault
count_of most s =
    let n = word (get_or s 0 0) (get_or s 1 0) in
    cond (ltb (length s) 2) (Err fault.Early) (cond (ltb most n) (Err fault.NotAllowed) (Ok n))

-- 01, Run file; DECISIONS 33: an address is judged once its record is there; past its memory it is 8
unfoldable pub change_of : ℕ → List ℕ → Result Changed Fault
change_of size s =
    let address = word (get_or s 0 0) (get_or s 1 0) in
    cond (ltb (length s) 3) (Err fault.Early)
    (cond (leb size address) (Err fault.NotAllowed) (Ok record { address = address; value = get_or s 2 0 }))

-- 01, Numbers: 9 for bytes after the last step
unfoldable pub end_of : List ℕ → Item
end_of [] = item.Done
end_of (x ∷ s) = item.Refused 9

-- 01, Numbers: the number of each answer, 0 where nothing is refused
unfoldable pub number_of_count : Result ℕ Fault → ℕ
number_of_count (Ok n) = 0
number_of_count (Err fault) = fault_number fault

unfoldable pub number_of_change : Result Changed Fault → ℕ
number_of_change (Ok change) = 0
number_of_change (Err fault) = fault_number fault

unfoldable pub number_of_item : Item → ℕ
number_of_item (item.Changes memory n) = 0
number_of_item (item.Change memory address value) = 0
number_of_item (item.Steps n) = 0
number_of_item (item.Do step) = 0
number_of_item item.Done = 0
number_of_item (item.Refused number) = number

-- ---- the file

-- 01, Run file: faults are taken as met, so that nothing follows a refusal
abbrev pub after_count : (ℕ → Item) → (ℕ → List Item) → Result ℕ Fault → List Item
after_count says more (Ok n) = says n ∷ more n
after_count says more (Err fault) = item.Refused (fault_number fault) ∷ []

abbrev pub after_change : Part → List Item → Result Changed Fault → List Item
after_change memory more (Ok change) = item.Change memory change.address change.value ∷ more
after_change memory more (Err fault) = item.Refused (fault_number fault) ∷ []

abbrev pub after_step : List Item → Result Step Fault → List Item
after_step more (Ok step) = item.Do step ∷ more
after_step more (Err fault) = item.Refused (fault_number fault) ∷ []

-- 01, Run file: so many changes of a memory, and what comes after them
unfoldable pub changes : Part → (List ℕ → List Item) → ℕ → List ℕ → List Item
changes memory more zero s = more s
changes memory more (suc n) s = after_change memory (changes memory more n (drop 3 s)) (change_of (size_of memory) s)

-- 01, Run file: a memory's section, and what comes after it
unfoldable pub section : Part → (List ℕ → List Item) → List ℕ → List Item
section memory more s =
    after_count (item.Changes memory) (λ n. changes memory more n (drop 2 s)) (count_of (size_of memory) s)

-- 01, Run file: so many steps, and the end
unfoldable pub steps : ℕ → List ℕ → List Item
steps zero s = end_of s ∷ []
steps (suc n) s = after_step (steps n (drop 5 s)) (step_of s)

-- 01, Run file: the steps after their count, at most 65,535
unfoldable pub script : List ℕ → List Item
script s = after_count item.Steps (λ n. steps n (drop 2 s)) (count_of 65535 s)

-- 01, Run file: what a run file says, in the fixed order of its sections
unfoldable pub run_of : List ℕ → List Item
run_of = section part.Ram (section part.Rom (section part.Colour script))

-- 01, Run file: the bytes of an item, and the place after some
unfoldable pub room_of : Item → ℕ
room_of (item.Changes memory n) = 2
room_of (item.Change memory address value) = 3
room_of (item.Steps n) = 2
room_of (item.Do step) = 5
room_of item.Done = 0
room_of (item.Refused number) = 0

unfoldable pub place_after : List Item → ℕ
place_after [] = 0
place_after (i ∷ more) = room_of i + place_after more
