-- How far a cycle is past sprite 0's first request, on a line that goes round: what the slots and the requests are by this place is the same on both kinds.
-- No rules: `proofs/Places.antt` computes from the diagram that they are the same.
use Rattle.std.specs.Prelude.{ℕ, zero, suc, ◌+◌, ◌-◌, ◌*◌, ◌/◌, ◌%◌, ◌^◌, ◌≤◌, ◌≡◌, Bool, ◌&&◌, cond, eqb, leb, ltb}
use Rattle.schedule.specs.Kind.{Kind, last_cycle, first_pointer}

unfoldable pub place_of : Kind → ℕ → ℕ
place_of k c = cond (leb (first_pointer k - 3) c) (c - (first_pointer k - 3)) (c + last_cycle k - (first_pointer k - 3))

-- a cycle of the line, with its place
pub record Placed (k : Kind) (c t : ℕ) : Type 0 where
  pub low : 1 ≤ c
  pub high : c ≤ last_cycle k
  pub place : t ≡ place_of k c

-- sprite n asks from place 2n on, for five cycles
abbrev pub asking_below : ℕ → ℕ → ℕ
asking_below zero t = 0
asking_below (suc n) t = asking_below n t + cond (leb t (2 * n + 4) && leb (2 * n) t) (2 ^ n) 0

unfoldable pub asking_at : ℕ → ℕ
asking_at t = asking_below 8 t

-- its pointer slot is in place 2n + 3, its data slot in the one after it
abbrev pub slot_at : ℕ → Bool
slot_at t = leb 3 t && ltb t 19

unfoldable pub pointing_at : ℕ → Bool
pointing_at t = slot_at t && eqb (t % 2) 1

unfoldable pub fetching_at : ℕ → Bool
fetching_at t = slot_at t && eqb (t % 2) 0

unfoldable pub sprite_in : ℕ → ℕ
sprite_in t = cond (slot_at t) ((t - 3) / 2) 0

-- no phase of a line's end, which are in the places 0, 1 and 3
unfoldable pub is_calm : ℕ → Bool
is_calm t = ltb 3 t
