-- The words of a capture, and the names of signals.
use Rattle.std.specs.Prelude.{ℕ, ◌+◌, Bool, true, false, cond, List, [], ◌∷◌, eqb, ltb}

-- 02 (xiii), reading 1: a run of bytes above 32
abbrev pub Word : Type 0
Word = List ℕ

-- two words are the same
unfoldable pub same : Word → Word → Bool
same [] [] = true
same [] (y ∷ t) = false
same (x ∷ s) [] = false
same (x ∷ s) (y ∷ t) = cond (eqb x y) (same s t) false

-- a capital as a small letter
unfoldable pub lower : ℕ → ℕ
lower b = cond (ltb b 65) b (cond (ltb 90 b) b (b + 32))

-- 02 (xiii), reading 3: a name goes up to a `[`, in small letters
unfoldable pub name_of : Word → Word
name_of [] = []
name_of (b ∷ s) = cond (eqb b 91) [] (lower b ∷ name_of s)
