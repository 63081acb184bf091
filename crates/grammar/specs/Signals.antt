-- The eight signals of 02 (i), by their places in its order.
use Rattle.std.specs.Prelude.{ℕ, cond, eqb}
use Rattle.line.specs.Text.{ascii}
use Rattle.grammar.specs.Words.{Word, same, name_of}

-- 02 (i), 02 (xiii) reading 3: the signal of a name; 8 for a name that we don't know
unfoldable pub which_of : Word → ℕ
which_of w =
    let name = name_of w in
    cond (same name (ascii "cycle")) 0
    (cond (same name (ascii "raster")) 1
    (cond (same name (ascii "ba")) 2
    (cond (same name (ascii "aec")) 3
    (cond (same name (ascii "dma")) 4
    (cond (same name (ascii "rc")) 5
    (cond (same name (ascii "vc")) 6
    (cond (same name (ascii "irq")) 7 8)))))))

-- 02 (xiii), reading 4: the bits of each
unfoldable pub width_of : ℕ → ℕ
width_of k =
    cond (eqb k 0) 7 (cond (eqb k 1) 9 (cond (eqb k 4) 8 (cond (eqb k 5) 3 (cond (eqb k 6) 10 1))))

-- the largest value of so many bits
unfoldable pub full_of : ℕ → ℕ
full_of k =
    cond (eqb k 0) 127 (cond (eqb k 1) 511 (cond (eqb k 4) 255 (cond (eqb k 5) 7 (cond (eqb k 6) 1023 1))))

-- 02 (xiii), reading 4: a size is the text of one of these, or no size of ours
unfoldable pub size_of : Word → ℕ
size_of w =
    cond (same w (ascii "1")) 1
    (cond (same w (ascii "3")) 3
    (cond (same w (ascii "7")) 7
    (cond (same w (ascii "8")) 8
    (cond (same w (ascii "9")) 9
    (cond (same w (ascii "10")) 10 0)))))
