-- The table of the declared signals, as a list of entries.
use Rattle.std.specs.Prelude.{ℕ, zero, suc, ◌+◌, ◌-◌, cond, List, [], ◌∷◌, ltb, length, take, drop, get_or}
use Rattle.grammar.specs.Grammar.{Entry, entry}
use Rattle.phrase.specs.declared.Table.{Table}

-- the bytes from one place to another
unfoldable pub part_of : List ℕ → ℕ → ℕ → List ℕ
part_of s from to = cond (ltb to from) [] (cond (ltb (length s) to) [] (take (to - from) (drop from s)))

unfoldable pub least_of : ℕ → ℕ → ℕ
least_of a b = cond (ltb a b) a b

-- n entries, from place i on; the first of their identifiers begins at a place of the pool, and each other where the one before ends
unfoldable pub entries_from : ℕ → ℕ → ℕ → List ℕ → List ℕ → List ℕ → List Entry
entries_from zero i from ends which pool = []
entries_from (suc n) i from ends which pool =
    entry (part_of pool from (get_or ends i 0)) (get_or which i 0) ∷ entries_from n (i + 1) (get_or ends i 0) ends which pool

unfoldable pub table_of : Table → List ℕ → List Entry
table_of t pool = entries_from (least_of t.count 64) 0 0 t.ends t.which pool
