-- The forty places of the matrix line, and the one that waits for the CPU's byte.
use Rattle.std.specs.Prelude.{ℕ, ◌%◌, ◌<◌, Bool, cond, Option, None, Some}
use Rattle.rows.specs.declared.Waits.{Waits}

-- the forty places of the matrix line
unfoldable pub place_of : ℕ → ℕ
place_of vmli = vmli % 40

abbrev pub waits : Option ℕ → Waits
waits p = record { place = p }

-- DECISIONS 36: when AEC is not low the place becomes pending and replaces an earlier one
unfoldable pub pending_after : Bool → ℕ → Waits → Waits
pending_after missed vmli old = cond missed (waits (Some (place_of vmli))) old

-- 01, States we accept: none, or one of the forty
abbrev pub Pends : Option ℕ → Type 0
Pends None = Unit
Pends (Some p) = p < 40
