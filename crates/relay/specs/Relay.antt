-- A part that a reader is lent, and what it holds after it.
use Rattle.std.specs.Prelude.{ℕ, Bool, true, false, cond, List, [], ◌∷◌}
use Rattle.intake.specs.Machine.{Machine, byte_of, busy}

-- nothing is to be told before the last of these bytes is read
unfoldable pub quietly : Machine → List ℕ → Bool
quietly m [] = true
quietly m (b ∷ s) = let more = quietly (byte_of m b) s in cond (busy m.reader) false more

-- the reader after them
unfoldable pub read_through : Machine → List ℕ → Machine
read_through m [] = m
read_through m (b ∷ s) = read_through (byte_of m b) s
