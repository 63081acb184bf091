-- The reasons of a cycle's reads in the code's own words: by what a cycle has: a graphics access, a slot, or neither. No rules: `proofs/Accesses.antt` has them from the table.
use Rattle.std.specs.Prelude.{ℕ, Bool, not, ◌&&◌, ◌||◌, cond}
use Rattle.schedule.specs.declared.Reasons.{Reasons}

-- 0 where there is no read
abbrev pub seen : Bool → ℕ → ℕ
seen b reason = cond b reason 0

abbrev pub sprite_reason : Bool → ℕ
sprite_reason on = cond on 2 5

abbrev pub graphics_reason : Bool → ℕ
graphics_reason moves = cond moves 4 5

abbrev pub gap_reason : Bool → ℕ
gap_reason refreshing = cond refreshing 6 5

abbrev pub reasons : ℕ → ℕ → Reasons
reasons x y = record { first = x; second = y }

unfoldable pub lit_reasons : Bool → Bool → Reasons
lit_reasons moves fills = reasons (graphics_reason moves) (seen fills 3)

unfoldable pub pointer_reasons : Bool → Bool → Bool → Reasons
pointer_reasons first on low = reasons 1 (seen ((on && not first) || low) (sprite_reason on))

unfoldable pub data_reasons : Bool → Bool → Reasons
data_reasons on low = reasons (sprite_reason on) (seen (on || low) (sprite_reason on))

unfoldable pub gap_reasons : Bool → Reasons
gap_reasons refreshing = reasons (gap_reason refreshing) 0
