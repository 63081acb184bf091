-- A tick's line on the bus: 02 (viii), cycle and raster line, and each read with its reason and its address; 02 (xi), the cycles that are lost.
use Rattle.std.specs.Prelude.{ℕ, ◌+◌, ◌/◌, ◌%◌, Bool, ◌&&◌, ◌||◌, cond, List, [], ◌∷◌, ◌++◌, eqb, leb, ltb}
use Rattle.access.specs.declared.Read.{Read}
use Rattle.access.specs.declared.Reads.{Reads}
use Rattle.line.specs.Text.{ascii, text_of}

-- 02 (viii): a number's last hexadecimal digit, in upper case
unfoldable pub hex_of : ℕ → ℕ
hex_of n = cond (ltb (n % 16) 10) (48 + n % 16) (55 + n % 16)

-- 02 (viii): the address in four hexadecimal digits, with what stands after it
unfoldable pub address_of : ℕ → ℕ → List ℕ
address_of a end = hex_of (a / 4096) ∷ hex_of (a / 256) ∷ hex_of (a / 16) ∷ hex_of a ∷ end ∷ []

-- 02 (viii), 02 (xiv): the numbers that are reasons
unfoldable pub named : ℕ → Bool
named reason = leb 1 reason && leb reason 6

-- 02 (viii), 02 (xiv): what a reason is called
unfoldable pub word_of : ℕ → List ℕ
word_of reason =
    cond (eqb reason 1) (ascii "pointer ")
    (cond (eqb reason 2) (ascii "sprite ")
    (cond (eqb reason 3) (ascii "matrix ")
    (cond (eqb reason 4) (ascii "graphics ")
    (cond (eqb reason 5) (ascii "idle ")
    (ascii "refresh ")))))

-- one space before a read; after the last the line ends
abbrev pub end_of : Bool → ℕ
end_of more = cond more 32 10

-- 02 (viii): a read is its reason and its address; no other number is told
unfoldable pub read_of : Read → ℕ → List ℕ
read_of r end = cond (named r.reason) (word_of r.reason ++ address_of r.address end) []

-- 02 (viii): cycle and raster line, and the reads in their order; 02 (xi): before them the lost cycles
unfoldable pub line_of : ℕ → ℕ → ℕ → Reads → List ℕ
line_of cycle raster lost reads =
    text_of cycle 32
    ++ (text_of raster 32
    ++ (text_of lost (end_of (named reads.first.reason || named reads.second.reason))
    ++ (read_of reads.first (end_of (named reads.second.reason))
    ++ read_of reads.second 10)))
