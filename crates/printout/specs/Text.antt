-- 02 (xiii): what a capture comes to, as lines of text.
use Rattle.std.specs.Prelude.{ℕ, zero, suc, ◌+◌, ◌/◌, ◌%◌, cond, List, [], ◌∷◌, ◌++◌, eqb, get_or}
use Rattle.line.specs.Text.{ascii, digits_of, text_of}
use Rattle.intake.specs.declared.Record.{Record}

-- 02 (xiii): an unknown digit is never shown as 0 or 1: it is `x`
unfoldable pub digit_of : ℕ → ℕ → ℕ
digit_of v u = cond (eqb (u % 2) 1) 120 (48 + v % 2)

-- so many binary digits, the lowest last
unfoldable pub bits_of : ℕ → ℕ → ℕ → List ℕ
bits_of zero v u = []
bits_of (suc width) v u = bits_of width (v / 2) (u / 2) ++ (digit_of v u ∷ [])

-- a value after its space: in decimal, or all its binary digits where one is unknown
unfoldable pub value_text : ℕ → ℕ → ℕ → List ℕ
value_text width v u = 32 ∷ cond (eqb u 0) (digits_of 10 4 v) (bits_of width v u)

-- the k-th signal of a tick, of so many bits
abbrev pub signal_text : Record → ℕ → ℕ → List ℕ
signal_text r k width = value_text width (get_or r.values k 0) (get_or r.unknown k 0)

-- 02 (i): cycle, raster, BA and AEC
unfoldable pub beam_text : Record → List ℕ
beam_text r = signal_text r 0 7 ++ (signal_text r 1 9 ++ (signal_text r 2 1 ++ signal_text r 3 1))

-- 02 (i): the DMA mask, RC, VC and the interrupt line
unfoldable pub rest_text : Record → List ℕ
rest_text r = signal_text r 4 8 ++ (signal_text r 5 3 ++ (signal_text r 6 10 ++ signal_text r 7 1))

-- 02 (xiii): a record for every tick, `T cycle raster ba aec dma rc vc irq`
unfoldable pub tick_text : Record → List ℕ
tick_text r = digits_of 10 19 r.time ++ (beam_text r ++ (rest_text r ++ (10 ∷ [])))

-- how many of the eight are declared
unfoldable pub signals_text : ℕ → List ℕ
signals_text n = ascii "signals " ++ text_of n 10

-- 02 (xiii): the number of the fault and the byte's place
unfoldable pub refused_text : ℕ → ℕ → List ℕ
refused_text number place = ascii "refused " ++ (text_of number 32 ++ (digits_of 10 19 place ++ (10 ∷ [])))
