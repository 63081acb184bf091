-- The timing diagram of a line (Bauer 3.6.3) as one table: each event and the cycles in which it happens.
-- The rules of the other crates name these events and no cycle's number, but for the merge (DECISIONS 26), which forgets its carry in every fourth cycle.
use Rattle.std.specs.Prelude.{ℕ, zero, suc, ◌-◌, Bool, false, ◌&&◌, ◌||◌, cond, eqb, leb}
use Rattle.schedule.specs.Kind.{Kind, last_cycle, first_pointer, pointer_slot, data_slot}

-- an event that names a kind has its cycle by the kind; all others have the same on both
pub data Event : Type 0 where
  line_begins frame_ends : Event
  refresh : Event
  matrix_request vc_load access_chosen character_access vmli_counts graphics_access late_idle access_ends graphics_cleared row_ends : Event
  crunch mcbase_step : Event
  main_remembered left40 left38 right38 right40 : Event
  line_ends first_phase second_phase mc_load : Kind → Event
  pointer_of data_of : Kind → ℕ → Event

-- in one cycle, or from one cycle to another
pub data Cycles : Type 0 where
  at : ℕ → Cycles
  from : ℕ → ℕ → Cycles

abbrev pub diagram : Event → Cycles
-- the beam
diagram line_begins = at 1  -- 01, tick 3: the raster goes on
diagram frame_ends = at 2  -- 01, tick 4: raster 0 after the last line
diagram (line_ends k) = at (last_cycle k)  -- Bauer 3.9 rules 2 and 3: cycle 63; on the 6567R8 the last one too, DECISIONS 73
-- the memory's refresh
diagram refresh = from 11 15  -- Bauer 3.6.3: r-accesses
-- the matrix and the graphics
diagram matrix_request = from 12 54  -- Bauer 3.7.2 rule 3: BA low on a bad line
diagram vc_load = at 14  -- Bauer 3.7.2 rule 2
diagram access_chosen = at 15  -- 01, tick 8; departs, DIFFERENCES 1
diagram character_access = from 15 54  -- Bauer 3.6.3: c-accesses
diagram vmli_counts = from 14 55  -- 01, States we accept: where VMLI is bounded by the cycle
diagram graphics_access = from 16 55  -- Bauer 3.6.3: g-accesses
diagram late_idle = from 18 55  -- fetch.rs: where an idle access may read 0x38FF
diagram access_ends = at 55  -- 01, tick 7
diagram graphics_cleared = at 56  -- 01, tick 8
diagram row_ends = at 58  -- Bauer 3.7.2 rule 5
-- the sprites' counters
diagram crunch = at 15  -- sprite_timing.rs: a Y-expand write that crunches
diagram mcbase_step = at 16  -- Bauer 3.8.1 rules 7 and 8; departs, DIFFERENCES 3
-- the sprites' comparisons go with sprite 0's pointer slot: three and two cycles before it, MC and display in it; DIFFERENCES 30
diagram (first_phase k) = at (first_pointer k - 3)  -- Bauer 3.8.1 rules 2 and 3: cycle 55
diagram (second_phase k) = at (first_pointer k - 2)  -- Bauer 3.8.1 rule 3: cycle 56
diagram (mc_load k) = at (first_pointer k)  -- Bauer 3.8.1 rule 4: cycle 58
-- the border's compares: X 24 and 31, 335 and 344 (Bauer 3.9)
diagram main_remembered = from 16 17  -- 01, tick 8
diagram left40 = at 17
diagram left38 = at 18
diagram right38 = at 56
diagram right40 = at 57
-- the sprites' slots: pointer and byte 2, then bytes 1 and 0
diagram (pointer_of k n) = at (pointer_slot k n)  -- Bauer 3.6.3: p-access and first s-access
diagram (data_of k n) = at (data_slot k n)  -- Bauer 3.6.3: second and third s-access

abbrev pub during : Cycles → ℕ → Bool
during (at n) c = eqb c n
during (from a b) c = leb a c && leb c b

unfoldable pub happens : Event → ℕ → Bool
happens e c = during (diagram e) c

-- the first cycle of an event, and its last
abbrev pub first_in : Cycles → ℕ
first_in (at n) = n
first_in (from a b) = a

abbrev pub last_in : Cycles → ℕ
last_in (at n) = n
last_in (from a b) = b

abbrev pub first_of : Event → ℕ
first_of e = first_in (diagram e)

abbrev pub last_of : Event → ℕ
last_of e = last_in (diagram e)

-- a cycle of the line, and no other number
abbrev pub on_line : Kind → ℕ → Bool
on_line k c = leb c (last_cycle k) && leb 1 c

-- one of the first n sprites has its slot in cycle c
abbrev pub any_slot : (ℕ → Event) → ℕ → ℕ → Bool
any_slot slot zero c = false
any_slot slot (suc n) c = during (diagram (slot n)) c || any_slot slot n c

-- one of the eight sprites has its pointer slot, or its data slot, in cycle c
unfoldable pub pointer_time : Kind → ℕ → Bool
pointer_time k c = on_line k c && any_slot (pointer_of k) 8 c

unfoldable pub data_time : Kind → ℕ → Bool
data_time k c = on_line k c && any_slot (data_of k) 8 c

-- the sprite whose slot is in cycle c: 0 where none has one
abbrev pub slot_below : Kind → ℕ → ℕ → ℕ
slot_below k zero c = 0
slot_below k (suc n) c = cond (during (diagram (pointer_of k n)) c || during (diagram (data_of k n)) c) n (slot_below k n c)

unfoldable pub slot_sprite : Kind → ℕ → ℕ
slot_sprite k c = cond (on_line k c) (slot_below k 8 c) 0

-- 01, tick 3, 4 and 8: in these cycles the slot comes after the cycle's arbitration; elsewhere it comes before (tick 5)
unfoldable pub slot_after_bus : Kind → ℕ → Bool
slot_after_bus k c = during (diagram line_begins) c || during (diagram frame_ends) c || during (diagram (pointer_of k 0)) c
