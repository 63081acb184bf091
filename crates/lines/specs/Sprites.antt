-- The sprites over a line: their slots in the kind's own order, and their phases between (Bauer 3.6.3, 3.8.1).
use Rattle.std.specs.Prelude.{ℕ, List, [], ◌∷◌}
use Rattle.schedule.specs.Kind.{Kind, the6569, the6567_r8, pointer_slot, data_slot}
use Rattle.sprites.specs.declared.Sprites.{Sprites}
use Rattle.sprites.specs.Sprites.{fetched, mcbase_stepped, first_phased, second_phased, mc_loaded}

-- Bauer 3.6.3: sprite n's pointer and byte 2, or its bytes 1 and 0
pub data Slot : Type 0 where
  pointing fetching : ℕ → Slot

abbrev pub cycle_of : Kind → Slot → ℕ
cycle_of k (pointing n) = pointer_slot k n
cycle_of k (fetching n) = data_slot k n

-- both slots of a sprite, and those after them
abbrev pub pair : ℕ → List Slot → List Slot
pair n more = pointing n ∷ fetching n ∷ more

-- Bauer 3.6.3: the slots that a line begins with; on the 6567R8 the line before had sprite 3's pointer
abbrev pub early_slots : Kind → List Slot
early_slots the6569 = pair 3 (pair 4 (pair 5 (pair 6 (pair 7 []))))
early_slots the6567_r8 = fetching 3 ∷ pair 4 (pair 5 (pair 6 (pair 7 [])))

-- Bauer 3.6.3: the slots that it ends with
abbrev pub late_slots : Kind → List Slot
late_slots the6569 = pair 0 (pair 1 (pair 2 []))
late_slots the6567_r8 = pair 0 (pair 1 (pair 2 (pointing 3 ∷ [])))

-- Bauer 3.8.1 rule 5: MC goes up by the bytes of a slot
abbrev pub slot_moves : Slot → Sprites → Sprites
slot_moves (pointing n) s = fetched n 1 s
slot_moves (fetching n) s = fetched n 2 s

abbrev pub slots_move : List Slot → Sprites → Sprites
slots_move [] s = s
slots_move (x ∷ more) s = slots_move more (slot_moves x s)

module _ (k : Kind) (raster : ℕ) (my : List ℕ) (enable yexp : ℕ) (s : Sprites) where
  -- Bauer 3.8.1 rules 7 and 8: the step of MCBASE, after the slots of sprites 3 to 7
  abbrev pub sprites_stepped : Sprites
  sprites_stepped = mcbase_stepped (slots_move (early_slots k) s)

  -- Bauer 3.8.1 rules 2 and 3: the two comparisons
  abbrev pub sprites_first : Sprites
  sprites_first = first_phased raster my enable yexp sprites_stepped

  abbrev pub sprites_second : Sprites
  sprites_second = second_phased raster my enable yexp sprites_first

  -- Bauer 3.8.1 rule 4: the load of MC, with sprite 0's pointer slot
  abbrev pub sprites_loaded : Sprites
  sprites_loaded = mc_loaded raster my enable sprites_second

  unfoldable pub sprites_line : Sprites
  sprites_line = slots_move (late_slots k) sprites_loaded
