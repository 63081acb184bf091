-- The words of a dump: runs of bytes above 32.
use Rattle.std.specs.Prelude.{ℕ, Bool, true, false, cond, List, [], ◌∷◌, ltb, eqb}

abbrev pub Word : Type 0
Word = List ℕ

-- a word goes on where the next byte is not white
unfoldable pub goes_on : List ℕ → Bool
goes_on [] = false
goes_on (b ∷ s) = ltb 32 b

-- a byte before a word that goes on
unfoldable pub before : ℕ → List Word → List Word
before b [] = (b ∷ []) ∷ []
before b (w ∷ more) = (b ∷ w) ∷ more

-- IEEE 1364: words are set apart by white space
unfoldable pub words_of : List ℕ → List Word
words_of [] = []
words_of (b ∷ s) =
    let more = words_of s in
    cond (ltb 32 b) (cond (goes_on s) (before b more) ((b ∷ []) ∷ more)) more

-- two words are the same
unfoldable pub same : Word → Word → Bool
same [] [] = true
same [] (y ∷ t) = false
same (x ∷ s) [] = false
same (x ∷ s) (y ∷ t) = cond (eqb x y) (same s t) false
