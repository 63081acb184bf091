-- The entries of a table one after the other, as a loop takes them. Assumes nothing.
use Prim.Native.Nat.{ℕ, zero, suc, ◌+◌, ◌-◌, ◌≤◌, ◌<◌}
use mathlib.Core.Path.{◌≡◌, refl, ap}
use mathlib.Core.Bool.{Bool, true, false, ◌&&◌, not, cond}
use mathlib.Core.List.{List}
use native.Mathlib.Omega.{arith}
use lib.Dec.{ltb}
use lib.ListN.{length, get_or}
use borrow.Author.Tests.{ltb-true}
use Rattle.grammar.specs.declared.Change.{Change}
use Rattle.grammar.specs.declared.Digits.{Digits}
use Rattle.grammar.specs.Words.{Word, same}
use Rattle.grammar.specs.Grammar.{entry_on, changes_on, Entry}
use Rattle.phrase.specs.declared.Table.{Table}
use Rattle.phrase.specs.Table.{part_of, least_of, entries_from, table_of}

least_by : (a b : ℕ) (t : Bool) → ltb a b ≡ t → cond t a b ≤ b
least_by a b true e = omega (arith, ltb-true a b e)
least_by a b false e = omega arith

pub least_small : (a b : ℕ) → least_of a b ≤ b
unfolding least_of
least_small a b = least_by a b (ltb a b) refl

pub entries_length : (n i from : ℕ) (ends which pool : List ℕ) → length (entries_from n i from ends which pool) ≡ n
unfolding entries_from
entries_length zero i from ends which pool = refl
entries_length (suc n) i from ends which pool = ap suc (entries_length n (i + 1) (get_or ends i 0) ends which pool)

module _ (d : Digits) (id : Word) (over : Bool) (ends which pool : List ℕ) (n i from : ℕ) where
  pub entry_next : (c : Change) → i < n
      → changes_on c d id over (entries_from (n - i) i from ends which pool)
      ≡ changes_on (entry_on c d (get_or which i 0) (not over && same id (part_of pool from (get_or ends i 0)))) d id over (entries_from (n - (i + 1)) (i + 1) (get_or ends i 0) ends which pool)
  unfolding changes_on entries_from
  entry_next c h = ap (λ (m : ℕ). changes_on c d id over (entries_from m i from ends which pool)) (let e : n - i ≡ suc (n - (i + 1)) = omega arith in e)

  pub entries_over : (c : Change) → n ≤ i → changes_on c d id over (entries_from (n - i) i from ends which pool) ≡ c
  unfolding changes_on entries_from
  entries_over c h = ap (λ (m : ℕ). changes_on c d id over (entries_from m i from ends which pool)) (let e : n - i ≡ 0 = omega arith in e)

  pub entries_begin : (c : Change) → changes_on c d id over (entries_from n i from ends which pool) ≡ changes_on c d id over (entries_from (n - 0) i from ends which pool)
  entries_begin c = ap (λ (m : ℕ). changes_on c d id over (entries_from m i from ends which pool)) (let e : n ≡ n - 0 = omega arith in e)

pub table_length : (t : Table) (pool : List ℕ) → length (table_of t pool) ≡ least_of t.count 64
unfolding table_of
table_length t pool = entries_length (least_of t.count 64) 0 0 t.ends t.which pool
