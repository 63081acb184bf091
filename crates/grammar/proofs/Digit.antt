-- A value, digit by digit: what is written as unknown is unknown, and never answered as 0 or 1. Assumes nothing.
use Prim.Native.Nat.{ℕ, ◌+◌, ◌*◌, ◌/◌, ◌%◌, ◌<◌, ◌≤◌}
use mathlib.Core.Path.{◌≡◌, refl, ◌∙◌, ap}
use mathlib.Core.Bool.{Bool, true, false, not, cond}
use mathlib.Core.List.{List, [], ◌∷◌, ◌++◌}
use native.Mathlib.Omega.{arith}
use lib.Dec.{eqb}
use Rattle.grammar.specs.declared.Digits.{Digits}
use Rattle.grammar.specs.Values.{is_bit, is_unknown, shifted, above, known_on, hidden_on}

-- the last digit of what is unknown, after an unknown digit
pub hidden_last : (d : Digits) → (hidden_on d).unknown % 2 ≡ 1
hidden_last d = let x = d.unknown % 32768 in omega arith

-- and it is no 1 of the value
pub hidden_none : (d : Digits) → (hidden_on d).value % 2 ≡ 0
hidden_none d = let x = d.value % 32768 in omega arith

above_last : (ones unknown : ℕ) → above ones unknown % 2 ≡ 0
unfolding above
above_last ones unknown = by (eqb ones 0)
  where
    by : (t : Bool) → cond t 0 (shifted unknown 0) % 2 ≡ 0
    by true = refl
    by false = omega arith

-- the last digit after a known one
pub known_last : (d : Digits) (b : ℕ) → (known_on d b).unknown % 2 ≡ 0
known_last d b = above_last d.ones d.unknown

pub known_value : (d : Digits) (b : ℕ) → (known_on d b).value % 2 ≡ b % 2
known_value d b = omega arith

-- a digit more moves those before it one place up, known and unknown alike
pub hidden_rest : (d : Digits) → (hidden_on d).unknown / 2 ≡ d.unknown % 32768
hidden_rest d = omega arith

pub hidden_value_rest : (d : Digits) → (hidden_on d).value / 2 ≡ d.value % 32768
hidden_value_rest d = omega arith

pub known_value_rest : (d : Digits) (b : ℕ) → (known_on d b).value / 2 ≡ d.value % 32768
known_value_rest d b = omega arith
