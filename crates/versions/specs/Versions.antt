-- The versions of a scene. Writing writes the newest, 5; an older scene is renewed, and then read as the newest is.
use Rattle.std.specs.Prelude.{ℕ, ◌+◌, ◌<◌, Bool, ◌&&◌, cond, List, [], ◌∷◌, ◌++◌, eqb, ltb, length, get_or, set}
use Rattle.std.specs.List.{list_all}

-- a field of a list of bytes, by its place
abbrev pub byte_at : List ℕ → ℕ → ℕ
byte_at s i = get_or s i 0

-- every element below 256
abbrev pub Bytes : List ℕ → Type 0
Bytes s = (i : ℕ) → byte_at s i < 256

-- FORMATS, Scene: a flag is 0 or 1
abbrev pub is_flag : List ℕ → ℕ → Bool
is_flag s i = ltb (byte_at s i) 2

-- each of these bytes is a flag
abbrev pub are_flags : List ℕ → Bool
are_flags s = list_all (λ b. ltb b 2) s

-- FORMATS, Scene: a version has its length, and its number in byte 3
abbrev pub is_version : ℕ → ℕ → List ℕ → Bool
is_version v size s = eqb (length s) size && eqb (byte_at s 3) v

abbrev pub is_newest : List ℕ → Bool
is_newest s = is_version 5 311 s

-- old offsets do not move: the same bytes under another number, and one more at the end
abbrev pub grown : ℕ → ℕ → List ℕ → List ℕ
grown v more s = set (s ++ (more ∷ [])) 3 v

-- a scene of version v as one of version v + 1, which has a byte more; anything else is itself
unfoldable pub next : ℕ → ℕ → ℕ → List ℕ → List ℕ
next v size more s = cond (is_version v size s) (grown (v + 1) more s) s

-- up to version 2 each sprite has a flag, in its fifth byte
abbrev pub sprite_flags : List ℕ → Bool
sprite_flags s =
    is_flag s 79 && is_flag s 91 && is_flag s 103 && is_flag s 115 && is_flag s 127 && is_flag s 139 && is_flag s 151 && is_flag s 163

unfoldable pub is_flagged : List ℕ → Bool
is_flagged s = is_version 2 309 s && sprite_flags s

-- 0 in each of these places
abbrev pub cleared : List ℕ → List ℕ → List ℕ
cleared [] s = s
cleared (k ∷ ks) s = cleared ks (set s k 0)

-- 02 (ix): from version 3 on that byte is 0, and the mask alone says which sprites fetch
unfoldable pub unflagged : List ℕ → List ℕ
unflagged s = cleared (79 ∷ 91 ∷ 103 ∷ 115 ∷ 127 ∷ 139 ∷ 151 ∷ 163 ∷ []) (set s 3 3)

-- a scene of version 2 as one of version 3; anything else is itself, a flag that is neither 0 nor 1 among it
unfoldable pub third : List ℕ → List ℕ
third s = cond (is_flagged s) (unflagged s) s

-- 02 (iv): version 1 has no kind, and gets the 6569's; 02 (xi): up to version 3 no lost cycles are told, and it gets 0, right from the next line on;
-- 02 (xiv): up to version 4 no refresh counter is told, and it gets 0xFF, right from the next frame on
unfoldable pub renewed : List ℕ → List ℕ
renewed s = next 4 310 255 (next 3 309 0 (third (next 1 308 0 s)))
