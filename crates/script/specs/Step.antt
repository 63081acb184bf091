-- A step of the run file: five bytes, a kind and four more.
use Rattle.std.specs.Prelude.{ℕ, ◌≡◌, Bool, true, ◌&&◌, cond, List, [], ◌∷◌, ◌++◌, eqb, leb, ltb, length, get_or, Result, Ok, Err}
use Rattle.laws.specs.Bytes.{low_byte, high_byte, word}
use Rattle.script.specs.declared.Step.{Step}
use Rattle.script.specs.declared.Step.TheVariants.{Tick, Write, Expand, Controls, Late, Borders, Bank, Control1, Control2}
use Rattle.script.specs.declared.Fault.{Fault}
use Rattle.script.specs.declared.Fault.TheVariants.{Early, NotAllowed, Retired}

-- 01, Numbers: 7 where the file ends in a record, 8 for a field that is not allowed; 02 (vii): 10 for a retired kind
unfoldable pub fault_number : Fault → ℕ
fault_number Early = 7
fault_number NotAllowed = 8
fault_number Retired = 10

-- 01, Run file: a record of n bytes is complete, or 7 before its fields are judged
abbrev pub complete : ℕ → List ℕ → Result Unit Fault
complete n s = cond (ltb (length s) n) (Err Early) (Ok tt)

-- 01, Numbers: 8 for a field that is not allowed
unfoldable pub allowed_if : Bool → Step → Result Step Fault
allowed_if fine step = cond fine (Ok step) (Err NotAllowed)

-- 01, Run file; DECISIONS 33: the kinds with their fields. 02 (vi): kinds 8 and 9; 02 (vii): kind 6 is retired, before its fields are judged. Unused bytes are 0; a kind above 9 is not allowed
unfoldable pub step_decoded : ℕ → ℕ → ℕ → ℕ → ℕ → Result Step Fault
step_decoded kind a b c d =
    cond (eqb kind 0) (allowed_if (eqb a 0 && eqb b 0 && eqb c 0 && eqb d 0) Tick)
    (cond (eqb kind 1) (allowed_if (eqb c 0 && eqb d 0) (Write a b))
    (cond (eqb kind 2) (allowed_if (eqb b 0 && eqb c 0 && eqb d 0) (Expand a))
    (cond (eqb kind 3) (allowed_if (leb (word c d) 511) (Controls a b (word c d)))
    (cond (eqb kind 4) (allowed_if (eqb b 0 && eqb c 0 && eqb d 0) (Late a))
    (cond (eqb kind 5) (allowed_if (eqb a 0 && eqb b 0 && eqb c 0 && eqb d 0) Borders)
    (cond (eqb kind 6) (Err Retired)
    (cond (eqb kind 7) (allowed_if (leb a 3 && eqb b 0 && eqb c 0 && eqb d 0) (Bank a))
    (cond (eqb kind 8) (allowed_if (eqb b 0 && eqb c 0 && eqb d 0) (Control1 a))
    (cond (eqb kind 9) (allowed_if (eqb b 0 && eqb c 0 && eqb d 0) (Control2 a))
    (Err NotAllowed))))))))))

-- 01, Run file: an incomplete record is 7 before its fields are judged
unfoldable pub step_of : List ℕ → Result Step Fault
step_of s =
    cond (ltb (length s) 5) (Err Early)
    (step_decoded (get_or s 0 0) (get_or s 1 0) (get_or s 2 0) (get_or s 3 0) (get_or s 4 0))

-- 01, Run file: a step written down
unfoldable pub bytes_of : Step → List ℕ
bytes_of Tick = 0 ∷ 0 ∷ 0 ∷ 0 ∷ 0 ∷ []
bytes_of (Write address value) = 1 ∷ address ∷ value ∷ 0 ∷ 0 ∷ []
bytes_of (Expand value) = 2 ∷ value ∷ 0 ∷ 0 ∷ 0 ∷ []
bytes_of (Controls ctrl1 ctrl2 compare) = 3 ∷ ctrl1 ∷ ctrl2 ∷ low_byte compare ∷ high_byte compare ∷ []
bytes_of (Late value) = 4 ∷ value ∷ 0 ∷ 0 ∷ 0 ∷ []
bytes_of Borders = 5 ∷ 0 ∷ 0 ∷ 0 ∷ 0 ∷ []
bytes_of (Bank bank) = 7 ∷ bank ∷ 0 ∷ 0 ∷ 0 ∷ []
bytes_of (Control1 value) = 8 ∷ value ∷ 0 ∷ 0 ∷ 0 ∷ []
bytes_of (Control2 value) = 9 ∷ value ∷ 0 ∷ 0 ∷ 0 ∷ []

-- 01, Run file: a compare line above 511 and a bank above 3 are not allowed
unfoldable pub allowed : Step → Bool
allowed Tick = true
allowed (Write address value) = true
allowed (Expand value) = true
allowed (Controls ctrl1 ctrl2 compare) = leb compare 511
allowed (Late value) = true
allowed Borders = true
allowed (Bank bank) = leb bank 3
allowed (Control1 value) = true
allowed (Control2 value) = true

-- 01, Numbers: the number of the answer, 0 where nothing is refused
unfoldable pub number_of : Result Step Fault → ℕ
number_of (Ok step) = 0
number_of (Err fault) = fault_number fault

-- 01, Run file: the bytes begin with an allowed step that is written down
pub record Stands (s : List ℕ) : Type 0 where
  pub step : Step
  pub fine : allowed step ≡ true
  pub more : List ℕ
  pub bytes : s ≡ bytes_of step ++ more
