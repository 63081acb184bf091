-- Fields as bytes: numbers low byte first, signed ones in two's complement, flags 0 or 1, no pending place 255.
use Rattle.std.specs.Prelude.{ℕ, ◌+◌, ◌*◌, ◌/◌, ◌%◌, Bool, cond, List, [], ◌∷◌, eqb, ℤ, Option, None, Some}
use Rattle.std.specs.Int.{w8, w64}
use mir.Val.{to_z, of_z, bool_byte}
use Rattle.laws.specs.Bytes.{word}
use Rattle.versions.specs.Versions.{byte_at}

-- FORMATS, Scene: a number of four bytes
abbrev pub long_bytes : ℕ → List ℕ
long_bytes x = x % 256 ∷ x / 256 % 256 ∷ x / 65536 % 256 ∷ x / 16777216 % 256 ∷ []

abbrev pub long : ℕ → ℕ → ℕ → ℕ → ℕ
long a b c d = a + b * 256 + c * 65536 + d * 16777216

-- of eight, as its 64 bits in two's complement
unfoldable pub bits : ℤ → ℕ
bits z = of_z w64 z

unfoldable pub clock_of : ℕ → ℤ
clock_of b = to_z w64 b

abbrev pub bit_bytes : ℕ → List ℕ
bit_bytes b =
    b % 256 ∷ b / 256 % 256 ∷ b / 65536 % 256 ∷ b / 16777216 % 256 ∷ b / 4294967296 % 256 ∷ b / 1099511627776 % 256 ∷ b / 281474976710656 % 256 ∷ b / 72057594037927936 % 256 ∷ []

-- the AEC counter, one byte in two's complement
unfoldable pub count_byte : ℤ → ℕ
count_byte z = of_z w8 z

unfoldable pub aec_of : ℕ → ℤ
aec_of b = to_z w8 b

-- FORMATS, Scene: a flag is 0 or 1
abbrev pub flag_byte : Bool → ℕ
flag_byte f = bool_byte f

abbrev pub flag_of : ℕ → Bool
flag_of b = eqb b 1

-- FORMATS, Scene: pending place (255 none)
unfoldable pub place_byte : Option ℕ → ℕ
place_byte None = 255
place_byte (Some p) = p

unfoldable pub pending_of : ℕ → Option ℕ
pending_of b = cond (eqb b 255) None (Some b)

-- a field of a list of bytes, by its place
abbrev pub word_at : List ℕ → ℕ → ℕ
word_at s i = word (byte_at s i) (byte_at s (i + 1))

abbrev pub long_at : List ℕ → ℕ → ℕ
long_at s i = long (byte_at s i) (byte_at s (i + 1)) (byte_at s (i + 2)) (byte_at s (i + 3))

abbrev pub clock_at : List ℕ → ℕ → ℤ
clock_at s i = clock_of (long_at s i + long_at s (i + 4) * 4294967296)

abbrev pub flag_at : List ℕ → ℕ → Bool
flag_at s i = flag_of (byte_at s i)
