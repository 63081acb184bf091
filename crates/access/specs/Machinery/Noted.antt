-- A tick's reads on their way: two reasons and two addresses, and all four in one number.
use Rattle.std.specs.Prelude.{ℕ, ◌+◌, ◌*◌, ◌/◌, ◌%◌, cond, eqb}
use Rattle.schedule.specs.declared.Reasons.{Reasons}
use Rattle.access.specs.declared.Spots.{Spots}
use Rattle.access.specs.declared.Read.{Read}
use Rattle.access.specs.declared.Reads.{Reads}
use Rattle.access.specs.Reads.{read, silent, both}

-- an address counts where there is a reason
unfoldable pub read_for : ℕ → ℕ → Read
read_for reason address = cond (eqb reason 0) silent (read reason address)

unfoldable pub reads_of : Reasons → Spots → Reads
reads_of why at = both (read_for why.first at.first) (read_for why.second at.second)

-- sixteen bits of an address below eight of a reason, twice
unfoldable pub noted_of : Reasons → Spots → ℕ
noted_of why at = why.first * 0x10000 + at.first + why.second * 0x1000000000000 + at.second * 0x100000000

unfoldable pub reads_in : ℕ → Reads
reads_in n =
    reads_of
    (record { first = n / 0x10000 % 0x100; second = n / 0x1000000000000 % 0x100 })
    (record { first = n % 0x10000; second = n / 0x100000000 % 0x10000 })
