-- A sprite's two slots (Bauer 3.6.3, 3.8.1 rule 5). Byte k·3 + c of the bytes is byte c of sprite k.
use Rattle.std.specs.Prelude.{ℕ, ◌+◌, ◌*◌, ◌%◌, Bool, not, ◌&&◌, ◌||◌, cond, List, get_or, set}
use Rattle.laws.specs.Pointers.{matrix_base}
use Rattle.memory.specs.Memory.{read_at}
use Rattle.memory.specs.declared.Found.{Found}
use Rattle.access.specs.declared.Spots.{Spots}

-- Bauer 3.6.2: the last eight bytes of the video matrix's kilobyte
abbrev pub pointer_address : ℕ → ℕ → ℕ
pointer_address ptrs k = matrix_base ptrs + 0x3F8 + k

-- Bauer 3.6.2: pointer · 64 + MC, six bits; the idle address without DMA
unfoldable pub byte_address : Bool → ℕ → ℕ → ℕ
byte_address on pointer mc = cond on (pointer * 64 + mc % 64) 0x3FFF

-- the open bus reads 0xFF
unfoldable pub or_open : Bool → ℕ → ℕ
or_open seen byte = cond seen byte 0xFF

-- Bauer 3.6.3: the pointer is always read
abbrev pub pointer_read : ℕ → ℕ → List ℕ → List ℕ → ℕ → Found
pointer_read k ptrs ram rom bank = read_at ram rom bank (pointer_address ptrs k)

-- a sprite's byte, by a pointer and MC
abbrev pub byte_read : Bool → ℕ → ℕ → List ℕ → List ℕ → ℕ → Found
byte_read on pointer mc ram rom bank = read_at ram rom bank (byte_address on pointer mc)

-- byte 2 by the pointer just read, bytes 1 and 0 by the pointer that the sprite has
abbrev pub two_read : ℕ → Bool → ℕ → ℕ → List ℕ → List ℕ → ℕ → Found
two_read k on mc ptrs ram rom bank = byte_read on (pointer_read k ptrs ram rom bank).byte mc ram rom bank

abbrev pub one_read : List ℕ → ℕ → Bool → ℕ → List ℕ → List ℕ → ℕ → Found
one_read pointers k on mc ram rom bank = byte_read on (get_or pointers k 0) mc ram rom bank

abbrev pub zero_read : List ℕ → ℕ → Bool → ℕ → List ℕ → List ℕ → ℕ → Found
zero_read pointers k on mc ram rom bank = byte_read on (get_or pointers k 0) (mc % 64 + 1) ram rom bank

-- 02 (viii): where a slot's two accesses read, whether or not they have the bus
abbrev pub spots : Found → Found → Spots
spots x y = record { first = x.address; second = y.address }

unfoldable pub pointer_spots : ℕ → Bool → ℕ → ℕ → List ℕ → List ℕ → ℕ → Spots
pointer_spots k on mc ptrs ram rom bank = spots (pointer_read k ptrs ram rom bank) (two_read k on mc ptrs ram rom bank)

unfoldable pub data_spots : List ℕ → ℕ → Bool → ℕ → List ℕ → List ℕ → ℕ → Spots
data_spots pointers k on mc ram rom bank = spots (one_read pointers k on mc ram rom bank) (zero_read pointers k on mc ram rom bank)

unfoldable pub pointers_after : List ℕ → ℕ → ℕ → List ℕ → List ℕ → ℕ → List ℕ
pointers_after pointers k ptrs ram rom bank = set pointers k (pointer_read k ptrs ram rom bank).byte

-- DECISIONS 5; departs, DIFFERENCES 10: with DMA it is read whatever AEC is, but for sprite 0's first; without it only with AEC low
abbrev pub two_stored : List ℕ → ℕ → Bool → Bool → Bool → Found → List ℕ
two_stored bytes k first on low found = set bytes (k * 3 + 2) (or_open ((on && not first) || low) found.byte)

unfoldable pub byte_two_after : List ℕ → ℕ → Bool → Bool → ℕ → Bool → ℕ → List ℕ → List ℕ → ℕ → List ℕ
byte_two_after bytes k first on mc low ptrs ram rom bank = two_stored bytes k first on low (two_read k on mc ptrs ram rom bank)

-- DECISIONS 5: byte 1 is read whatever AEC is, without DMA too
unfoldable pub byte_one : List ℕ → ℕ → Bool → ℕ → List ℕ → List ℕ → ℕ → ℕ
byte_one pointers k on mc ram rom bank = (one_read pointers k on mc ram rom bank).byte

-- DECISIONS 5: with DMA it is read whatever AEC is; without it only with AEC low
unfoldable pub byte_zero : List ℕ → ℕ → Bool → ℕ → Bool → List ℕ → List ℕ → ℕ → ℕ
byte_zero pointers k on mc low ram rom bank =
    or_open (on || low) (zero_read pointers k on mc ram rom bank).byte

unfoldable pub data_after : List ℕ → List ℕ → ℕ → Bool → ℕ → Bool → List ℕ → List ℕ → ℕ → List ℕ
data_after pointers bytes k on mc low ram rom bank =
    set (set bytes (k * 3) (byte_zero pointers k on mc low ram rom bank)) (k * 3 + 1) (byte_one pointers k on mc ram rom bank)

-- Bauer 3.8.1 rule 5: byte 2 is the most significant
unfoldable pub word_of : ℕ → ℕ → ℕ → ℕ
word_of two one zero' = two * 65536 + one * 256 + zero'

unfoldable pub words_after : List ℕ → List ℕ → List ℕ → ℕ → Bool → ℕ → Bool → List ℕ → List ℕ → ℕ → List ℕ
words_after pointers bytes words k on mc low ram rom bank =
    set words k
    (word_of (get_or bytes (k * 3 + 2) 0) (byte_one pointers k on mc ram rom bank) (byte_zero pointers k on mc low ram rom bank))
