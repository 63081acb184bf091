-- A time's digits.
use Rattle.std.specs.Prelude.{ℕ, ◌+◌, ◌-◌, ◌*◌, cond, List, [], ◌∷◌, ltb, length, Option, None, Some, Result, Ok, Err}
use Rattle.grammar.specs.Words.{Word}

-- 02 (xiii), reading 10: a time is 0 to 2^64 - 1; of what is none its last digits stay, as a number of the same size
abbrev pub never : Result ℕ ℕ
never = Err 0

unfoldable pub grown : ℕ → ℕ → Option ℕ
grown t digit = cond (ltb (t * 10 + digit) 18446744073709551616) (Some (t * 10 + digit)) None

unfoldable pub time_by : Result ℕ ℕ → ℕ → Result ℕ ℕ
time_by (Ok t) digit = cond (ltb (t * 10 + digit) 18446744073709551616) (Ok (t * 10 + digit)) never
time_by (Err t) digit = cond (ltb (t * 10 + digit) 18446744073709551616) (Err (t * 10 + digit)) never

unfoldable pub time_on : Result ℕ ℕ → ℕ → Result ℕ ℕ
time_on t b = cond (ltb b 48) never (cond (ltb 57 b) never (time_by t (b - 48)))

unfoldable pub time_from : Result ℕ ℕ → Word → Result ℕ ℕ
time_from t [] = t
time_from t (b ∷ s) = time_from (time_on t b) s

-- in decimal, of one digit at least
unfoldable pub time_of : Word → Result ℕ ℕ
time_of w = time_from (cond (ltb 0 (length w)) (Ok 0) never) w
