-- What was let through keeps its limits: an address its memory's, a compare line 511, a bank 3. Assumes nothing.
use mathlib.Core.Path.{◌≡◌, refl}
use mathlib.Core.Bool.{Bool, true, false, ◌&&◌}
use mathlib.Core.List.{List, [], ◌∷◌}
use Prim.Native.Nat.{ℕ, zero, suc, ◌≤◌, ◌<◌}
use native.Mathlib.Omega.{arith}
use Rattle.std.specs.Prelude.{Result, Ok, Err}
use lib.Dec.{eqb, leb, ltb, eqb-suc-zero}
use lib.ListN.{length, get_or, drop}
use borrow.Author.Tests.{leb-true, leb-false}
use Rattle.laws.specs.Bytes.{word}
use Rattle.laws.proofs.Choice.{either, by_test, left}
use Rattle.script.specs.declared.Step.{Step}
use Rattle.script.specs.declared.Step.TheVariants.{Tick, Write, Expand, Controls, Late, Borders, Bank, Control1, Control2}
use Rattle.script.specs.declared.Fault.{Fault}
use Rattle.script.specs.declared.Fault.TheVariants as fault
use Rattle.script.specs.declared.Changed.{Changed}
use Rattle.script.specs.declared.Part.{Part}
use Rattle.script.specs.declared.Part.TheVariants as part
use Rattle.script.specs.declared.Item.{Item}
use Rattle.script.specs.declared.Item.TheVariants as item
use Rattle.script.specs.declared.Cursor.{Cursor}
use Rattle.script.specs.declared.Found.{Found}
use Rattle.script.specs.Step.{allowed_if, step_decoded, step_of, allowed}
use Rattle.script.specs.File.{size_of, count_of, change_of, end_of}
use Rattle.script.specs.Machinery.Cursor.{stays, count_from, change_from, step_from, changes_begun, steps_begun, changed, step_read, begun, recorded, next_of}

-- 01, Run file: an address that is read lies in its memory
abbrev Inside : ℕ → Result Changed Fault → Type 0
Inside size r = (change : Changed) → r ≡ Ok change → change.address < size

refused : (size : ℕ) (fault : Fault) → Inside size (Err fault)
refused size fault change e = absurd (let z : ◌≡◌ {A = ℕ} 0 1 = cc in omega arith)

pub address_inside : (size : ℕ) (s : List ℕ) → Inside size (change_of size s)
unfolding change_of
address_inside size s =
    let n = word (get_or s 0 0) (get_or s 1 0) in
    either (Inside size) (ltb (length s) 3) (refused size fault.Early)
    (by_test (Inside size) (leb size n) (λ e. refused size fault.NotAllowed)
    (λ e change q. let same : n ≡ change.address = cc in omega (arith, leb-false size n e)))

-- 01, Run file: a step that is read is allowed
abbrev Fine : Result Step Fault → Type 0
Fine r = (step : Step) → r ≡ Ok step → allowed step ≡ true

fine_if : (t : Bool) (x : Step) → (t ≡ true → allowed x ≡ true) → Fine (allowed_if t x)
unfolding allowed_if
fine_if true x h step e = let same : x ≡ step = cc in rw (← same) (h refl)
fine_if false x h step e = absurd (let z : ◌≡◌ {A = ℕ} 0 1 = cc in omega arith)

fine_refused : (fault : Fault) → Fine (Err fault)
fine_refused fault step e = absurd (let z : ◌≡◌ {A = ℕ} 0 1 = cc in omega arith)

pub fine : (kind a b c d : ℕ) → Fine (step_decoded kind a b c d)
unfolding step_decoded allowed
fine kind a b c d =
    either Fine (eqb kind 0) (fine_if (eqb a 0 && eqb b 0 && eqb c 0 && eqb d 0) Tick (λ e. refl))
    (either Fine (eqb kind 1) (fine_if (eqb c 0 && eqb d 0) (Write a b) (λ e. refl))
    (either Fine (eqb kind 2) (fine_if (eqb b 0 && eqb c 0 && eqb d 0) (Expand a) (λ e. refl))
    (either Fine (eqb kind 3) (fine_if (leb (word c d) 511) (Controls a b (word c d)) (λ e. e))
    (either Fine (eqb kind 4) (fine_if (eqb b 0 && eqb c 0 && eqb d 0) (Late a) (λ e. refl))
    (either Fine (eqb kind 5) (fine_if (eqb a 0 && eqb b 0 && eqb c 0 && eqb d 0) Borders (λ e. refl))
    (either Fine (eqb kind 6) (fine_refused fault.Retired)
    (either Fine (eqb kind 7) (fine_if (leb a 3 && eqb b 0 && eqb c 0 && eqb d 0) (Bank a)
    (λ e. left (leb a 3) (eqb b 0) (left (leb a 3 && eqb b 0) (eqb c 0) (left (leb a 3 && eqb b 0 && eqb c 0) (eqb d 0) e))))
    (either Fine (eqb kind 8) (fine_if (eqb b 0 && eqb c 0 && eqb d 0) (Control1 a) (λ e. refl))
    (either Fine (eqb kind 9) (fine_if (eqb b 0 && eqb c 0 && eqb d 0) (Control2 a) (λ e. refl))
    (fine_refused fault.NotAllowed))))))))))

pub step_allowed : (s : List ℕ) → Fine (step_of s)
unfolding step_of
step_allowed s =
    either Fine (ltb (length s) 5) (fine_refused fault.Early)
    (fine (get_or s 0 0) (get_or s 1 0) (get_or s 2 0) (get_or s 3 0) (get_or s 4 0))

-- the compare line of a controls step, and the bank of a bank step
pub compare_small : (s : List ℕ) (ctrl1 ctrl2 compare : ℕ) → step_of s ≡ Ok (Controls ctrl1 ctrl2 compare) → compare ≤ 511
unfolding allowed
compare_small s ctrl1 ctrl2 compare e = leb-true compare 511 (step_allowed s (Controls ctrl1 ctrl2 compare) e)

pub bank_small : (s : List ℕ) (bank : ℕ) → step_of s ≡ Ok (Bank bank) → bank ≤ 3
unfolding allowed
bank_small s bank e = leb-true bank 3 (step_allowed s (Bank bank) e)

-- ---- the same of what a cursor finds

-- a change that is found lies in its memory
Held : Found → Type 0
Held found = (memory : Part) (address value : ℕ) → found.item ≡ item.Change memory address value → address < size_of memory

held_count : (c : Cursor) (says : ℕ → Item) (next : Part) → ((n : ℕ) (memory : Part) (address value : ℕ) → says n ≡ item.Change memory address value → ⊥) → (k : Result ℕ Fault) → Held (count_from c says next k)
unfolding Held
held_count c says next no_change (Ok n) memory address value e = absurd (no_change n memory address value e)
held_count c says next no_change (Err fault) memory address value e = absurd (let z : ◌≡◌ {A = ℕ} 0 1 = cc in omega arith)

held_change : (c : Cursor) (here : Part) (k : Result Changed Fault) → Inside (size_of here) k → Held (change_from c here k)
unfolding Held
held_change c here (Ok change) inside memory address value e =
    let same-part : here ≡ memory = cc in
    let same : change.address ≡ address = cc in
    rw (← same-part, ← same) (inside change refl)
held_change c here (Err fault) inside memory address value e = absurd (let z : ◌≡◌ {A = ℕ} 0 1 = cc in omega arith)

held_step : (c : Cursor) (k : Result Step Fault) → Held (step_from c k)
unfolding Held
held_step c (Ok step) memory address value e = absurd (let z : ◌≡◌ {A = ℕ} 0 1 = cc in omega arith)
held_step c (Err fault) memory address value e = absurd (let z : ◌≡◌ {A = ℕ} 0 1 = cc in omega arith)

held_end : (c : Cursor) (t : List ℕ) → Held (stays c (end_of t))
unfolding Held end_of
held_end c [] memory address value e = absurd (let z : ◌≡◌ {A = ℕ} 0 1 = cc in omega arith)
held_end c (x ∷ t) memory address value e = absurd (let z : ◌≡◌ {A = ℕ} 0 1 = cc in omega arith)

no_changes_lem : (here : Part) (n : ℕ) (memory : Part) (address value : ℕ) → item.Changes here n ≡ item.Change memory address value → ⊥
no_changes_lem here n memory address value e = let z : ◌≡◌ {A = ℕ} 0 1 = cc in omega arith

no_steps : (n : ℕ) (memory : Part) (address value : ℕ) → item.Steps n ≡ item.Change memory address value → ⊥
no_steps n memory address value e = let z : ◌≡◌ {A = ℕ} 0 1 = cc in omega arith

module _ (s : List ℕ) (at : ℕ) where
  abbrev here : Part → ℕ → Cursor
  here p n = record { at = at; part = p; left = n }

  abbrev bytes : List ℕ
  bytes = drop at s

  held : (p : Part) (n : ℕ) → Held (next_of s (here p n))
  unfolding next_of begun recorded changes_begun steps_begun changed step_read
  held part.Start zero = held_count (here part.Start 0) (item.Changes part.Ram) part.Ram (no_changes_lem part.Ram) (count_of 16384 bytes)
  held part.Ram zero = held_count (here part.Ram 0) (item.Changes part.Rom) part.Rom (no_changes_lem part.Rom) (count_of 4096 bytes)
  held part.Rom zero = held_count (here part.Rom 0) (item.Changes part.Colour) part.Colour (no_changes_lem part.Colour) (count_of 1024 bytes)
  held part.Colour zero = held_count (here part.Colour 0) item.Steps part.Steps no_steps (count_of 65535 bytes)
  held part.Steps zero = held_end (here part.Steps 0) bytes
  held part.Start (suc n) = rw eqb-suc-zero (held_change (here part.Start (suc n)) part.Start (change_of 0 bytes) (address_inside 0 bytes))
  held part.Ram (suc n) = rw eqb-suc-zero (held_change (here part.Ram (suc n)) part.Ram (change_of 16384 bytes) (address_inside 16384 bytes))
  held part.Rom (suc n) = rw eqb-suc-zero (held_change (here part.Rom (suc n)) part.Rom (change_of 4096 bytes) (address_inside 4096 bytes))
  held part.Colour (suc n) = rw eqb-suc-zero (held_change (here part.Colour (suc n)) part.Colour (change_of 1024 bytes) (address_inside 1024 bytes))
  held part.Steps (suc n) = rw eqb-suc-zero (held_step (here part.Steps (suc n)) (step_of bytes))

-- 01, Run file: each change that a call of `next` finds may be stored
pub change_inside : (s : List ℕ) (c : Cursor) (memory : Part) (address value : ℕ) → (next_of s c).item ≡ item.Change memory address value → address < size_of memory
unfolding Held
change_inside s c = held s c.at c.part c.left
