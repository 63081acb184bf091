-- A number as the chart writes it, and where the text goes.
use Rattle.std.specs.Prelude.{ℕ, zero, suc, ◌+◌, ◌/◌, ◌%◌, ◌≡◌, cond, List, [], ◌∷◌, ◌++◌, ltb, length, set}
use Prim.Native.Char.{code}
use Prim.Native.String.{String}
use Prim.Native.String as S
use Rattle.line.specs.declared.Eight.{Eight}

-- a text as bytes
unfoldable pub ascii : String → List ℕ
ascii S.[] = []
ascii (S.◌∷◌ c s) = code c ∷ ascii s

-- the ASCII code of a number's last digit
abbrev pub glyph_of : ℕ → ℕ
glyph_of n = 48 + n % 10

-- a number's digits in a base, the fewest that hold it; at most as many as the second number says, and one
unfoldable pub digits_of : ℕ → ℕ → ℕ → List ℕ
digits_of b zero n = (48 + n % b) ∷ []
digits_of b (suc more) n = cond (ltb n b) ((48 + n) ∷ []) (digits_of b more (n / b) ++ ((48 + n % b) ∷ []))

-- 01, chart: in decimal, with what stands after it
unfoldable pub text_of : ℕ → ℕ → List ℕ
text_of n end =
    cond (ltb n 10) (glyph_of n ∷ end ∷ [])
    (cond (ltb n 100) (glyph_of (n / 10) ∷ glyph_of n ∷ end ∷ [])
    (cond (ltb n 1000) (glyph_of (n / 100) ∷ glyph_of (n / 10) ∷ glyph_of n ∷ end ∷ [])
    (cond (ltb n 10000) (glyph_of (n / 1000) ∷ glyph_of (n / 100) ∷ glyph_of (n / 10) ∷ glyph_of n ∷ end ∷ [])
    (glyph_of (n / 10000) ∷ glyph_of (n / 1000) ∷ glyph_of (n / 100) ∷ glyph_of (n / 10) ∷ glyph_of n ∷ end ∷ []))))

-- a text over what stood at a place
unfoldable pub pasted : List ℕ → ℕ → List ℕ → List ℕ
pasted out at [] = out
pasted out at (x ∷ text) = pasted (set out at x) (at + 1) text

-- a text stands at a place, nothing else is changed, and the next place is after it
pub record Written (out : List ℕ) (at : ℕ) (words after : List ℕ) (next : ℕ) : Type 0 where
  pub place : next ≡ at + length words
  pub text : after ≡ pasted out at words

-- 01, chart: one space apart
unfoldable pub four_of : ℕ → ℕ → ℕ → ℕ → ℕ → List ℕ
four_of a b c d end = text_of a 32 ++ (text_of b 32 ++ (text_of c 32 ++ text_of d end))

-- 01, chart: a tick's line
unfoldable pub line_of : Eight → List ℕ
line_of e =
    four_of e.cycle e.raster e.ba e.aec 32
    ++ four_of e.dma e.rc e.vc e.irq 10

-- 01, chart: the first line, `steps N`
unfoldable pub steps_of : ℕ → List ℕ
steps_of n = 115 ∷ 116 ∷ 101 ∷ 112 ∷ 115 ∷ 32 ∷ text_of n 10

-- 01, chart: the last line of a run that is refused, `refused R K`
unfoldable pub refused_of : ℕ → ℕ → List ℕ
refused_of number done =
    114 ∷ 101 ∷ 102 ∷ 117 ∷ 115 ∷ 101 ∷ 100 ∷ 32 ∷ (text_of number 32 ++ text_of done 10)
