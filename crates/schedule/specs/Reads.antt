-- The table of reads beside the timing diagram (Bauer 3.6.3, 02 (viii), 02 (xiv)): which accesses of a cycle memory sees, in order, and why each is made.
-- An access that is not seen reads nothing from memory and is not reported.
use Rattle.std.specs.Prelude.{ℕ, Bool, not, ◌&&◌, ◌||◌, cond, List, [], ◌∷◌, ◌++◌, eqb}
use Rattle.schedule.specs.Kind.{Kind}
use Rattle.schedule.specs.Diagram.{happens, refresh, character_access, graphics_access, on_line, pointer_time, data_time, slot_sprite}

pub data Access : Type 0 where
  pointer byte_two byte_one byte_zero : Access  -- a sprite's: its pointer slot has the first two, its data slot the others
  refreshing matrix graphics idle : Access  -- a matrix byte with its colour is one access

-- what a cycle's accesses go by
pub record Seen : Type 0 where
  pub on : Bool  -- the slot's sprite has DMA
  pub low : Bool  -- AEC is low as the slot finds it
  pub moves : Bool  -- display state, and no transition pending
  pub fills : Bool  -- a character access has the bus, and its place is not left pending

-- 02 (viii): why an access is made, by number: 1 pointer, 2 sprite byte, 3 matrix, 4 graphics, 5 idle; 02 (xiv): 6 refresh
-- without DMA a slot's bytes are read at the idle address, and so is what the graphics access reads in idle state
unfoldable pub reason_of : Seen → Access → ℕ
reason_of s pointer = 1
reason_of s byte_two = cond s.on 2 5
reason_of s byte_one = cond s.on 2 5
reason_of s byte_zero = cond s.on 2 5
reason_of s matrix = 3
reason_of s graphics = cond s.moves 4 5
reason_of s idle = 5
reason_of s refreshing = 6

-- Bauer 3.6.3, 3.8.1: the half of its cycle that an access is made in; the second half is the CPU's while AEC is high
unfoldable pub phase : Access → ℕ
phase pointer = 1
phase byte_two = 2
phase byte_one = 1
phase byte_zero = 2
phase refreshing = 1
phase matrix = 2
phase graphics = 1
phase idle = 1

-- an access where it is made
abbrev pub when : Bool → Access → List Access
when b a = cond b (a ∷ []) []

-- DECISIONS 5: a sprite's last byte in each slot is read with DMA whatever AEC is, but for sprite 0's byte 2; without DMA only with AEC low
abbrev pub sees_two : Kind → ℕ → Seen → Bool
sees_two k c s = (s.on && not (eqb (slot_sprite k c) 0)) || s.low

abbrev pub sees_zero : Seen → Bool
sees_zero s = s.on || s.low

-- Bauer 3.6.3: the sprites' accesses; the first of each slot is always made, DECISIONS 5
abbrev pub slot_accesses : Kind → ℕ → Seen → List Access
slot_accesses k c s =
    cond (pointer_time k c) (pointer ∷ when (sees_two k c s) byte_two)
    (cond (data_time k c) (byte_one ∷ when (sees_zero s) byte_zero) [])

-- Bauer 3.6.3: a cycle of the line that has no other access has an idle one
abbrev pub idle_time : Kind → ℕ → Bool
idle_time k c = on_line k c && not (pointer_time k c || data_time k c || happens refresh c || happens graphics_access c)

-- the main step's: the refresh, the graphics or an idle access, then the matrix; 02 (xiv): in cycle 15 the refresh before the matrix
abbrev pub main_accesses : Kind → ℕ → Seen → List Access
main_accesses k c s =
    when (happens refresh c) refreshing ++ (when (happens graphics_access c) graphics ++ (when (happens character_access c && s.fills) matrix ++ when (idle_time k c) idle))

-- 02 (viii): the slot's reads come first
unfoldable pub accesses : Kind → ℕ → Seen → List Access
accesses k c s = slot_accesses k c s ++ main_accesses k c s
