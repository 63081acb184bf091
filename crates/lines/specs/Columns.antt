-- The forty columns of a line (Bauer 3.7.2 rule 3).
use Rattle.std.specs.Prelude.{ℕ, zero, suc, ◌+◌, Bool, cond, List, set}
use Rattle.schedule.specs.Diagram.{first_of, graphics_access}
use Rattle.access.specs.Merge.{Merging, latched}

-- Bauer 3.7.2 rule 3: the first n places of the matrix line, each with its word of the video matrix
unfoldable pub places_of : (ℕ → ℕ) → ℕ → List ℕ → List ℕ
places_of word zero m = m
places_of word (suc n) m = set (places_of word n m) n (word n)

-- Bauer 3.7.2 rule 3: a bad line fills all forty; in idle state VMLI stands still, and all forty accesses go to place 0
unfoldable pub matrix_line : (ℕ → ℕ) → Bool → Bool → List ℕ → List ℕ
matrix_line word bad shows m = cond bad (cond shows (places_of word 40 m) (set m 0 (word 0))) m

-- Bauer 3.6.3: the cycle of column j
abbrev pub column_cycle : ℕ → ℕ
column_cycle j = first_of graphics_access + j

-- the character latch, column after column: from place j, 0 in idle state, kept where output is shut off, merged after a forced bad line
unfoldable pub columns_line : Bool → Bool → (ℕ → Bool) → (ℕ → ℕ) → ℕ → Merging → Merging
columns_line shows plain hidden since zero x = x
columns_line shows plain hidden since (suc j) x =
    let y = columns_line shows plain hidden since j x in
    latched y.matrix shows (hidden j) plain (column_cycle j) (since j) j y.ch y.carry
