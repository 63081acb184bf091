-- A sprite's slots by its DMA bit, its MC and AEC alone (Bauer 3.6.3): what a line's slots are put together from.
use Rattle.std.specs.Prelude.{ℕ, ◌+◌, ◌-◌, Bool, List, eqb}
use Rattle.laws.specs.Bits.{has_bit}
use Rattle.schedule.specs.Kind.{Kind, the6569, the6567_r8}
use Rattle.access.specs.declared.Slots.{Slots}
use Rattle.access.specs.Slots.{pointers_after, byte_two_after, data_after, words_after}
use Rattle.sprites.specs.declared.Sprites.{Sprites}
use Rattle.sprites.specs.Sprites.{sprite_at, mc_moved as moved_by}
use Rattle.picture.specs.Pen.{Latches}
use Rattle.lines.specs.Slots.{Fetch as LineFetch}
use Rattle.fetches.specs.declared.Fetch.{Fetch}

abbrev pub latches : List ℕ → List ℕ → List ℕ → Latches
latches pointers bytes words = record { pointers = pointers; bytes = bytes; words = words }

-- the code's own arrays
abbrev pub in_slots : Slots → Latches
in_slots s = latches s.pointers s.bytes s.words

-- a read from the memory that the code's slots go by
abbrev pub from : Fetch → (ℕ → List ℕ → List ℕ → ℕ → Latches → Latches) → Latches → Latches
from f read = read f.ptrs f.memory.ram.now f.memory.rom.now f.memory.bank

-- AEC in the line's first cycles: bit c of the word is cycle c
abbrev pub fetch_early : ℕ → ℕ → List ℕ → List ℕ → ℕ → LineFetch
fetch_early low ptrs ram rom bank = record { ptrs = ptrs; ram = ram; rom = rom; bank = bank; low = λ c. has_bit low c }

-- and in its last ones: bit c - 54 is cycle c
abbrev pub fetch_late : ℕ → ℕ → List ℕ → List ℕ → ℕ → LineFetch
fetch_late low ptrs ram rom bank = record { ptrs = ptrs; ram = ram; rom = rom; bank = bank; low = λ c. has_bit low (c - 54) }

-- Bauer 3.8.1 rule 5: MC after byte 2, with DMA
abbrev pub mc_moved : Bool → ℕ → ℕ
mc_moved on mc = moved_by on 1 mc

unfoldable pub pointing_read : ℕ → Bool → ℕ → Bool → ℕ → List ℕ → List ℕ → ℕ → Latches → Latches
pointing_read n on mc low ptrs ram rom bank l =
    latches (pointers_after l.pointers n ptrs ram rom bank) (byte_two_after l.bytes n (eqb n 0) on mc low ptrs ram rom bank) l.words

unfoldable pub fetching_read : ℕ → Bool → ℕ → Bool → List ℕ → List ℕ → ℕ → Latches → Latches
fetching_read n on mc low ram rom bank l =
    latches l.pointers (data_after l.pointers l.bytes n on mc low ram rom bank) (words_after l.pointers l.bytes l.words n on mc low ram rom bank)

-- both slots, with AEC in the one and in the other
unfoldable pub pair_read : ℕ → Bool → ℕ → Bool → Bool → ℕ → List ℕ → List ℕ → ℕ → Latches → Latches
pair_read n on mc first second ptrs ram rom bank l =
    fetching_read n on (mc_moved on mc) second ram rom bank (pointing_read n on mc first ptrs ram rom bank l)

-- the bit from which a kind's pairs below go: the two kinds are a cycle apart
unfoldable pub place_early : Kind → ℕ
place_early the6569 = 3
place_early the6567_r8 = 2

unfoldable pub place_late : Kind → ℕ
place_late the6569 = 4
place_late the6567_r8 = 5

-- the pairs of slots that both kinds have in a row, from bit a of the word of AEC on
module _ (s : Sprites) (low : ℕ) where
  abbrev pub sprite_read : ℕ → ℕ → ℕ → ℕ → List ℕ → List ℕ → ℕ → Latches → Latches
  sprite_read n a b = pair_read n (has_bit s.dma n) (sprite_at s n).mc (has_bit low a) (has_bit low b)

  unfoldable pub four_five : ℕ → ℕ → List ℕ → List ℕ → ℕ → Latches → Latches
  four_five a ptrs ram rom bank l = sprite_read 5 (a + 1) (a + 2) ptrs ram rom bank (sprite_read 4 2 a ptrs ram rom bank l)

  unfoldable pub six_seven : ℕ → ℕ → List ℕ → List ℕ → ℕ → Latches → Latches
  six_seven a ptrs ram rom bank l = sprite_read 7 (a + 2) (a + 3) ptrs ram rom bank (sprite_read 6 a (a + 1) ptrs ram rom bank l)

  unfoldable pub four_to_seven : ℕ → ℕ → List ℕ → List ℕ → ℕ → Latches → Latches
  four_to_seven a ptrs ram rom bank l = six_seven (a + 3) ptrs ram rom bank (four_five a ptrs ram rom bank l)

  unfoldable pub zero_one : ℕ → ℕ → List ℕ → List ℕ → ℕ → Latches → Latches
  zero_one a ptrs ram rom bank l = sprite_read 1 (a + 1) (a + 2) ptrs ram rom bank (sprite_read 0 a a ptrs ram rom bank l)

  unfoldable pub zero_to_two : ℕ → ℕ → List ℕ → List ℕ → ℕ → Latches → Latches
  zero_to_two a ptrs ram rom bank l = sprite_read 2 (a + 3) (a + 4) ptrs ram rom bank (zero_one a ptrs ram rom bank l)

  -- sprite 3's slots at a line's beginning and at its end: on the 6567R8 the line ends between the two
  unfoldable pub third_early : Kind → ℕ → List ℕ → List ℕ → ℕ → Latches → Latches
  third_early the6569 ptrs ram rom bank l = sprite_read 3 1 2 ptrs ram rom bank l
  third_early the6567_r8 ptrs ram rom bank l = fetching_read 3 (has_bit s.dma 3) (sprite_at s 3).mc (has_bit low 1) ram rom bank l

  unfoldable pub third_late : Kind → ℕ → List ℕ → List ℕ → ℕ → Latches → Latches
  third_late the6569 ptrs ram rom bank l = l
  third_late the6567_r8 ptrs ram rom bank l = pointing_read 3 (has_bit s.dma 3) (sprite_at s 3).mc (has_bit low 10) ptrs ram rom bank l
