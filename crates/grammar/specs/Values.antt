-- A value's digits.
use Rattle.std.specs.Prelude.{ℕ, ◌+◌, ◌*◌, ◌%◌, Bool, true, false, ◌||◌, cond, List, [], ◌∷◌, eqb, ltb}
use Rattle.grammar.specs.declared.Digits.{Digits}
use Rattle.grammar.specs.Words.{Word, lower}

-- 02 (xiii), reading 8: the digits 0 and 1
abbrev pub is_bit : ℕ → Bool
is_bit b = eqb b 48 || eqb b 49

-- 02 (xiii), reading 8: unknown are x z, and u w l h - of VHDL tools, either case
abbrev pub is_unknown : ℕ → Bool
is_unknown b =
    let c = lower b in
    eqb c 120 || eqb c 122 || eqb c 117 || eqb c 119 || eqb c 108 || eqb c 104 || eqb c 45

-- sixteen bits, with one shifted in on the right
abbrev pub shifted : ℕ → ℕ → ℕ
shifted bits bit = bits % 32768 * 2 + bit

-- 02 (xiii), reading 8: what stands to the left of the first digit is unknown, until that digit is known
abbrev pub none : Digits
none = record { value = 0; unknown = 65535; ones = 0; fine = true }

-- what is no value of ours
abbrev pub broken : Digits
broken = record { value = 0; unknown = 0; ones = 0; fine = false }

-- 02 (xiii), reading 8: filled on the left with 0 after 0 or 1
unfoldable pub above : ℕ → ℕ → ℕ
above ones unknown = cond (eqb ones 0) 0 (shifted unknown 0)

-- a digit that is known
abbrev pub known_on : Digits → ℕ → Digits
known_on d b =
    record {
      value = shifted d.value (b % 2);
      unknown = above d.ones d.unknown;
      ones = shifted d.ones 1;
      fine = d.fine;
    }

-- a digit that is unknown stays unknown
abbrev pub hidden_on : Digits → Digits
hidden_on d =
    record {
      value = shifted d.value 0;
      unknown = shifted d.unknown 1;
      ones = shifted d.ones 1;
      fine = d.fine;
    }

-- 02 (xiii), reading 8: other digits are none, and ten are the most that one of ours has
unfoldable pub digit_on : Digits → ℕ → Digits
digit_on d b =
    cond (ltb 1022 d.ones) broken
    (cond (is_bit b) (known_on d b) (cond (is_unknown b) (hidden_on d) broken))

unfoldable pub digits_from : Digits → Word → Digits
digits_from d [] = d
digits_from d (b ∷ s) = digits_from (digit_on d b) s
