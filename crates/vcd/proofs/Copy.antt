-- What a text that is written changes. Assumes nothing.
use Prim.Native.Nat.{ℕ, ◌+◌}
use mathlib.Core.Path.{◌≡◌}
use mathlib.Core.List.{List}
use lib.ListN.{length}
use Rattle.line.specs.Text.{Written, pasted}

-- the place and the buffer, each by itself
pub apart : {out words after : List ℕ} {at next : ℕ} → Written out at words after next → (next ≡ at + length words) × (after ≡ pasted out at words)
apart w = (w.place, w.text)
