-- Run files and what they say: 01's own, one with a step of each kind, and one for each fault. Assumes nothing.
use mathlib.Core.Path.{◌≡◌, refl}
use mathlib.Core.List.{List, [], ◌∷◌}
use Prim.Native.Nat.{ℕ}
use Rattle.script.specs.declared.Step.TheVariants.{Tick, Write, Expand, Controls, Late, Borders, Bank, Control1, Control2}
use Rattle.script.specs.declared.Part.TheVariants.{Ram, Rom, Colour}
use Rattle.script.specs.declared.Item.{Item}
use Rattle.script.specs.declared.Item.TheVariants.{Changes, Change, Steps, Do, Done, Refused}
use Rattle.script.specs.Step.{fault_number, allowed_if, step_decoded, step_of}
use Rattle.script.specs.File.{count_of, change_of, end_of, changes, section, steps, script, run_of}

-- no changes, then a count of steps and the bytes that follow it
abbrev no_changes : List ℕ → List ℕ
no_changes s = 0 ∷ 0 ∷ 0 ∷ 0 ∷ 0 ∷ 0 ∷ s

abbrev after_none : List Item → List Item
after_none more = Changes Ram 0 ∷ Changes Rom 0 ∷ Changes Colour 0 ∷ more

pub record Examples : Type 0 where
  -- 01, Run file: three ticks
  pub ticks : run_of (no_changes (3 ∷ 0 ∷ 0 ∷ 0 ∷ 0 ∷ 0 ∷ 0 ∷ 0 ∷ 0 ∷ 0 ∷ 0 ∷ 0 ∷ 0 ∷ 0 ∷ 0 ∷ 0 ∷ 0 ∷ [])) ≡ after_none (Steps 3 ∷ Do Tick ∷ Do Tick ∷ Do Tick ∷ Done ∷ [])
  -- a change of each memory, at its last address or near its first, and a step of each kind
  pub each : run_of (1 ∷ 0 ∷ 4 ∷ 0 ∷ 5 ∷ 1 ∷ 0 ∷ 255 ∷ 15 ∷ 2 ∷ 1 ∷ 0 ∷ 255 ∷ 3 ∷ 4 ∷ 9 ∷ 0 ∷ 0 ∷ 0 ∷ 0 ∷ 0 ∷ 0 ∷ 1 ∷ 32 ∷ 6 ∷ 0 ∷ 0 ∷ 2 ∷ 255 ∷ 0 ∷ 0 ∷ 0 ∷ 3 ∷ 27 ∷ 8 ∷ 255 ∷ 1 ∷ 4 ∷ 167 ∷ 0 ∷ 0 ∷ 0 ∷ 5 ∷ 0 ∷ 0 ∷ 0 ∷ 0 ∷ 7 ∷ 3 ∷ 0 ∷ 0 ∷ 0 ∷ 8 ∷ 155 ∷ 0 ∷ 0 ∷ 0 ∷ 9 ∷ 8 ∷ 0 ∷ 0 ∷ 0 ∷ []) ≡ Changes Ram 1 ∷ Change Ram 4 5 ∷ Changes Rom 1 ∷ Change Rom 4095 2 ∷ Changes Colour 1 ∷ Change Colour 1023 4 ∷ Steps 9 ∷ Do Tick ∷ Do (Write 0x20 6) ∷ Do (Expand 255) ∷ Do (Controls 27 8 511) ∷ Do (Late 0xA7) ∷ Do Borders ∷ Do (Bank 3) ∷ Do (Control1 0x9B) ∷ Do (Control2 8) ∷ Done ∷ []
  -- DECISIONS 33: a count above its limit, with nothing behind it
  pub count_above : run_of (1 ∷ 64 ∷ []) ≡ Refused 8 ∷ []
  -- a count at its limit is allowed, and then the first record is missing
  pub count_at : run_of (0 ∷ 64 ∷ []) ≡ Changes Ram 16384 ∷ Refused 7 ∷ []
  -- faults are taken as met: the address before the ROM's count, which is missing
  pub address : run_of (1 ∷ 0 ∷ 0 ∷ 64 ∷ 7 ∷ []) ≡ Changes Ram 1 ∷ Refused 8 ∷ []
  -- an incomplete record is 7 whatever its fields
  pub cut : run_of (no_changes (1 ∷ 0 ∷ 9 ∷ 9 ∷ 9 ∷ 9 ∷ [])) ≡ after_none (Steps 1 ∷ Refused 7 ∷ [])
  pub kind : run_of (no_changes (1 ∷ 0 ∷ 10 ∷ 0 ∷ 0 ∷ 0 ∷ 0 ∷ [])) ≡ after_none (Steps 1 ∷ Refused 8 ∷ [])
  -- 02 (vii): kind 6 is retired, with fields that were allowed and with others; the steps before it stand, and nothing after it is judged
  pub retired : run_of (no_changes (2 ∷ 0 ∷ 0 ∷ 0 ∷ 0 ∷ 0 ∷ 0 ∷ 6 ∷ 0 ∷ 1 ∷ 1 ∷ 0 ∷ [])) ≡ after_none (Steps 2 ∷ Do Tick ∷ Refused 10 ∷ [])
  pub retired_whatever : run_of (no_changes (1 ∷ 0 ∷ 6 ∷ 9 ∷ 9 ∷ 9 ∷ 9 ∷ 9 ∷ [])) ≡ after_none (Steps 1 ∷ Refused 10 ∷ [])
  pub retired_cut : run_of (no_changes (1 ∷ 0 ∷ 6 ∷ 0 ∷ 0 ∷ 0 ∷ [])) ≡ after_none (Steps 1 ∷ Refused 7 ∷ [])
  pub unused : run_of (no_changes (1 ∷ 0 ∷ 0 ∷ 0 ∷ 0 ∷ 0 ∷ 1 ∷ [])) ≡ after_none (Steps 1 ∷ Refused 8 ∷ [])
  pub compare : run_of (no_changes (1 ∷ 0 ∷ 3 ∷ 0 ∷ 0 ∷ 0 ∷ 2 ∷ [])) ≡ after_none (Steps 1 ∷ Refused 8 ∷ [])
  -- DECISIONS 33: 9 comes after all the steps
  pub more : run_of (no_changes (1 ∷ 0 ∷ 0 ∷ 0 ∷ 0 ∷ 0 ∷ 0 ∷ 0 ∷ [])) ≡ after_none (Steps 1 ∷ Do Tick ∷ Refused 9 ∷ [])

pub examples : Examples
unfolding fault_number allowed_if step_decoded step_of count_of change_of end_of changes section steps script run_of
examples =
    record {
      ticks = refl;
      each = refl;
      count_above = refl;
      count_at = refl;
      address = refl;
      cut = refl;
      kind = refl;
      retired = refl;
      retired_whatever = refl;
      retired_cut = refl;
      unused = refl;
      compare = refl;
      more = refl;
    }
