-- A run of the driver, whatever is told of it: a turn leaves less to read. Assumes nothing.
use Prim.Native.Nat.{ℕ, ◌≤◌, ◌<◌}
use mathlib.Core.Path.{◌≡◌}
use mathlib.Core.Bool.{true}
use mathlib.Core.List.{List}
use native.Mathlib.Omega.{arith}
use Rattle.script.specs.Machinery.Cursor.{next_of}
use Rattle.driver.specs.declared.Run.{Run}
use Rattle.driver.specs.Driver.{Store, made_on}
use Rattle.sheet.specs.Sheet.{with_text, run_at, run_in}
use Rattle.sheet.specs.Machinery.Fill as fill
use Rattle.sheet.proofs.Less.{turn_less}

-- the bytes that a run still has to read, and one; none where it is over
abbrev pub ahead : List ℕ → Run → ℕ
ahead s r = fill.ahead s (with_text r 0)

module _ (s : List ℕ) where
  pub falls : (m : Store) (r : Run) → r.going ≡ true → ahead s (made_on m r (next_of s r.cursor)).run < ahead s r
  unfolding fill.ahead run_in run_at
  falls m r going = turn_less s m (with_text r 0) going

  -- a run that is not over has a turn left
  pub some : (r : Run) (n : ℕ) → r.going ≡ true → ahead s r ≤ n → 0 < n
  unfolding fill.ahead
  some r n g h = let x = simp g at h in omega arith
