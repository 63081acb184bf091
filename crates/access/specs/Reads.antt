-- What a tick answers of its reads (02 (viii)): each with the number of its reason and the address that was on the bus, in order.
use Rattle.std.specs.Prelude.{ℕ, List, [], ◌∷◌}
use Rattle.access.specs.declared.Read.{Read}
use Rattle.access.specs.declared.Reads.{Reads}

abbrev pub read : ℕ → ℕ → Read
read reason address = record { reason = reason; address = address }

-- where there is no read
abbrev pub silent : Read
silent = read 0 0

abbrev pub both : Read → Read → Reads
both x y = record { first = x; second = y }

-- the reads of a list; a tick's has two at most (`at_most_two`)
unfoldable pub told : List Read → Reads
told [] = both silent silent
told (x ∷ []) = both x silent
told (x ∷ y ∷ rest) = both x y
