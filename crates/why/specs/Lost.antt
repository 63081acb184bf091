-- 02 (xi): cycles lost on this line, at once. The number that a chip keeps is how many of its line's ticks left AEC low.
use Rattle.std.specs.Prelude.{ℕ, ◌+◌, ◌<◌, ◌≡◌, Bool, cond, List, [], ◌∷◌, length}
use Rattle.schedule.specs.Kind.{kind_of, last_cycle}
use Rattle.schedule.specs.Diagram.{happens, line_begins}
use Rattle.chip.specs.declared.Chip.{Chip}
use Rattle.chip.specs.Chip.{powered}
use Rattle.calls.specs.Calls.{cycles_lost}
use Rattle.artwork.specs.Runs.{Call}
use Rattle.why.specs.Why.{history, after}

-- ---- the count over a line's ticks, on the history of 02 (x)

-- of a history the ticks of its last line, the latest first: back to the one in which the line began
unfoldable pub this_line : List Chip → List Chip
this_line [] = []
this_line (t ∷ past) = cond (happens line_begins t.side.beam.cycle) (t ∷ []) (t ∷ this_line past)

-- how many of these ticks AEC is low after
unfoldable pub low_after : List Chip → ℕ
low_after [] = 0
low_after (t ∷ past) = low_after past + cond t.side.bus.aeclow 1 0

-- ---- the theorem: whatever the calls between, of either kind

-- 02 (xi): from any state at the last cycle of its line, accepted or not, once a tick was accepted
abbrev pub CountsTheLine : Type 0
CountsTheLine =
    (xs : List Call) (c : Chip) → c.side.beam.cycle ≡ last_cycle (kind_of c.side.beam.kind) → 0 < length (history xs c) → cycles_lost (after xs c) ≡ low_after (this_line (history xs c))

-- 02 (xi): from power-up, before the first tick too
abbrev pub CountsFromPowerUp : Type 0
CountsFromPowerUp = (kind : ℕ) (xs : List Call) → cycles_lost (after xs (powered kind)) ≡ low_after (this_line (history xs (powered kind)))
