-- What the kind of chip decides, a column each: the 6569 (PAL-B) and the 6567R8 (NTSC-M). Every other place of a line or a frame is worked out from these.
use Rattle.std.specs.Prelude.{ℕ, ◌+◌, ◌-◌, ◌*◌, Bool, cond, eqb, leb, ltb}

pub data Kind : Type 0 where
  the6569 the6567_r8 : Kind

-- 02 (iv): a state holds the kind as a number, 0 or 1; any other is unknown
unfoldable pub known : ℕ → Bool
known kind = leb kind 1

-- DECISIONS 72: what must be answered for an unknown kind too goes by the 6569's column
unfoldable pub kind_of : ℕ → Kind
kind_of kind = cond (eqb kind 1) the6567_r8 the6569

-- Bauer 3.4: 63 or 65 cycles a line, numbered from 1
abbrev pub last_cycle : Kind → ℕ
last_cycle the6569 = 63
last_cycle the6567_r8 = 65

-- Bauer 3.4: 312 or 263 lines a frame, numbered from 0
abbrev pub last_line : Kind → ℕ
last_line the6569 = 311
last_line the6567_r8 = 262

-- Bauer 3.6.3, timing diagrams: the cycle in which sprite 0's pointer is read
abbrev pub first_pointer : Kind → ℕ
first_pointer the6569 = 58
first_pointer the6567_r8 = 59

-- a cycle past the last one falls into the next line
abbrev pub wrapped : Kind → ℕ → ℕ
wrapped k c = cond (ltb (last_cycle k) c) (c - last_cycle k) c

-- 01, Sprite schedule: a pointer every second cycle, each sprite's data in the cycle after its pointer
abbrev pub pointer_slot : Kind → ℕ → ℕ
pointer_slot k n = wrapped k (first_pointer k + 2 * n)

abbrev pub data_slot : Kind → ℕ → ℕ
data_slot k n = wrapped k (pointer_slot k n + 1)
