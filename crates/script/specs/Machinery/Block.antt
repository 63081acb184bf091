-- The steps as they are lent: in blocks.
use Rattle.std.specs.Prelude.{ℕ, ◌*◌, cond, List, ltb, take}

-- 01, Run file: at most 13,107 steps at once
unfoldable pub block_steps : ℕ → ℕ
block_steps left = cond (ltb left 13107) left 13107

-- 01, Run file: a step is five bytes
abbrev pub block_len : ℕ → ℕ
block_len left = block_steps left * 5

-- what is lent, of the bytes from the place on
abbrev pub block_from : ℕ → List ℕ → List ℕ
block_from left s = take (block_len left) s
