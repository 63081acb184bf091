-- 02 (viii), 02 (xi), 02 (xiv): lines as they are written. Assumes nothing.
use mathlib.Core.Path.{◌≡◌, refl}
use mathlib.Core.List.{[], ◌∷◌}
use Rattle.access.specs.Reads.{read, told}
use Rattle.line.specs.Text.{ascii, text_of}
use Rattle.ledger.specs.Text.{hex_of, address_of, named, word_of, read_of, line_of}

pub refresh : line_of 11 51 0 (told (read 6 0x3F00 ∷ [])) ≡ ascii "11 51 0 refresh 3F00\n"
unfolding line_of read_of named word_of address_of hex_of text_of ascii told
refresh = refl

pub pointer : line_of 1 0 0 (told (read 1 0x03FB ∷ [])) ≡ ascii "1 0 0 pointer 03FB\n"
unfolding line_of read_of named word_of address_of hex_of text_of ascii told
pointer = refl

pub sprite : line_of 2 107 2 (told (read 2 0x2001 ∷ [])) ≡ ascii "2 107 2 sprite 2001\n"
unfolding line_of read_of named word_of address_of hex_of text_of ascii told
sprite = refl

pub refresh_and_matrix : line_of 15 51 1 (told (read 6 0x3FFC ∷ read 3 0x0400 ∷ [])) ≡ ascii "15 51 1 refresh 3FFC matrix 0400\n"
unfolding line_of read_of named word_of address_of hex_of text_of ascii told
refresh_and_matrix = refl

pub graphics_and_matrix : line_of 16 59 2 (told (read 4 0x1008 ∷ read 3 0x0429 ∷ [])) ≡ ascii "16 59 2 graphics 1008 matrix 0429\n"
unfolding line_of read_of named word_of address_of hex_of text_of ascii told
graphics_and_matrix = refl

pub idle : line_of 57 311 0 (told (read 5 0x3FFF ∷ [])) ≡ ascii "57 311 0 idle 3FFF\n"
unfolding line_of read_of named word_of address_of hex_of text_of ascii told
idle = refl
