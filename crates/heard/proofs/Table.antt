-- The table in the pool: what an identifier after it leaves, and one entry more. Assumes nothing.
use Prim.Native.Nat.{ℕ, zero, suc, ◌+◌, ◌-◌, ◌≤◌, ◌<◌}
use mathlib.Core.Path.{◌≡◌, refl, sym, ◌∙◌, ap, subst}
use mathlib.Core.Bool.{Bool, true, false, cond}
use mathlib.Core.List.{List, [], ◌∷◌, ◌++◌}
use native.Mathlib.Omega.{arith}
use native.Mathlib.Nat.{sub-zero, suc-sub-suc, zero-sub}
use lib.Dec.{ltb}
use lib.ListN.{length, take, drop, set, get_or}
use lib.Seq.{take-nil, take-take, get_or-set_same, get_or-set_other}
use borrow.Author.Tests.{ltb-true, ltb-false}
use Rattle.grammar.specs.Grammar.{Entry, entry}
use Rattle.phrase.specs.Table.{part_of, entries_from}
use Rattle.heard.specs.Agrees.{last_from}

take_drop : (to from : ℕ) (s : List ℕ) → take (to - from) (drop from s) ≡ drop from (take to s)
take_drop to zero s = ap (λ (n : ℕ). take n s) (sub-zero to)
take_drop zero (suc from) s = ap (λ (n : ℕ). take n (drop (suc from) s)) (zero-sub (suc from))
take_drop (suc to) (suc from) [] = take-nil (suc to - suc from)
take_drop (suc to) (suc from) (x ∷ s) = ap (λ (n : ℕ). take n (drop from s)) (suc-sub-suc to from) ∙ take_drop to from s

module _ (p q : List ℕ) (used : ℕ) (long : length p ≡ length q) (alike : take used p ≡ take used q) where
  part_kept : (from to : ℕ) → to ≤ used → part_of p from to ≡ part_of q from to
  unfolding part_of
  part_kept from to h =
      ap (λ (n : ℕ). cond (ltb to from) [] (cond (ltb n to) [] (take (to - from) (drop from p)))) long
      ∙ ap (λ (l : List ℕ). cond (ltb to from) [] (cond (ltb (length q) to) [] l))
      (take_drop to from p ∙ ap (drop from) (sym (take-take to used p h) ∙ ap (take to) alike ∙ take-take to used q h) ∙ sym (take_drop to from q))

  pub entries_kept : (n i from : ℕ) (ends which : List ℕ) → ((j : ℕ) → j < i + n → get_or ends j 0 ≤ used) → entries_from n i from ends which p ≡ entries_from n i from ends which q
  unfolding entries_from
  entries_kept zero i from ends which h = refl
  entries_kept (suc n) i from ends which h =
      ap (λ (l : List ℕ). entry l (get_or which i 0) ∷ entries_from n (i + 1) (get_or ends i 0) ends which p) (part_kept from (get_or ends i 0) (h i (omega arith)))
      ∙ ap (λ (l : List Entry). entry (part_of q from (get_or ends i 0)) (get_or which i 0) ∷ l)
      (entries_kept n (i + 1) (get_or ends i 0) ends which (λ j g. h j (omega arith)))

module _ (end k : ℕ) (pool : List ℕ) where
  pub one_more_lem : (n i from : ℕ) (ends which : List ℕ) → i + n < length ends → i + n < length which
      → entries_from (suc n) i from (set ends (i + n) end) (set which (i + n) k) pool
      ≡ entries_from n i from ends which pool ++ (entry (part_of pool (last_from n i from ends) end) k ∷ [])
  unfolding entries_from last_from
  one_more_lem zero i from ends which f g =
      let e : i + zero ≡ i = omega arith in
      ap (λ (x : ℕ). entry (part_of pool from (get_or (set ends x end) i 0)) (get_or (set which x k) i 0) ∷ []) e
      ∙ ap (λ (x : ℕ). entry (part_of pool from x) (get_or (set which i k) i 0) ∷ []) (get_or-set_same ends i end 0 (omega arith))
      ∙ ap (λ (x : ℕ). entry (part_of pool from end) x ∷ []) (get_or-set_same which i k 0 (omega arith))
  one_more_lem (suc n) i from ends which f g =
      let e : i + suc n ≡ (i + 1) + n = omega arith in
      let a : get_or (set ends (i + suc n) end) i 0 ≡ get_or ends i 0 = get_or-set_other ends (i + suc n) i end 0 (λ q. omega arith) in
      let b : get_or (set which (i + suc n) k) i 0 ≡ get_or which i 0 = get_or-set_other which (i + suc n) i k 0 (λ q. omega arith) in
      ap (λ (x : ℕ). entry (part_of pool from x) (get_or (set which (i + suc n) k) i 0) ∷ entries_from (suc n) (i + 1) x (set ends (i + suc n) end) (set which (i + suc n) k) pool) a
      ∙ ap (λ (x : ℕ). entry (part_of pool from (get_or ends i 0)) x ∷ entries_from (suc n) (i + 1) (get_or ends i 0) (set ends (i + suc n) end) (set which (i + suc n) k) pool) b
      ∙ ap (λ (x : ℕ). entry (part_of pool from (get_or ends i 0)) (get_or which i 0) ∷ entries_from (suc n) (i + 1) (get_or ends i 0) (set ends x end) (set which x k) pool) e
      ∙ ap (λ (l : List Entry). entry (part_of pool from (get_or ends i 0)) (get_or which i 0) ∷ l) (one_more_lem n (i + 1) (get_or ends i 0) ends which (omega arith) (omega arith))

pub last_more : (end n i from : ℕ) (ends : List ℕ) → i + n < length ends → last_from (suc n) i from (set ends (i + n) end) ≡ end
unfolding last_from
last_more end zero i from ends f = ap (λ (x : ℕ). get_or (set ends x end) i 0) (let e : i + zero ≡ i = omega arith in e) ∙ get_or-set_same ends i end 0 (omega arith)
last_more end (suc n) i from ends f =
    ap (λ (x : ℕ). last_from (suc n) (i + 1) (get_or (set ends (i + suc n) end) i 0) (set ends x end)) (let e : i + suc n ≡ (i + 1) + n = omega arith in e)
    ∙ last_more end n (i + 1) (get_or (set ends (i + suc n) end) i 0) ends (omega arith)

pub below_more : (end n used : ℕ) (ends : List ℕ) → n < length ends → used ≤ end → ((j : ℕ) → j < n → get_or ends j 0 ≤ used)
    → (j : ℕ) → j < n + 1 → get_or (set ends n end) j 0 ≤ end
below_more end n used ends f u h j g = by_less (ltb j n) refl
  where
    by_less : (t : Bool) → ltb j n ≡ t → get_or (set ends n end) j 0 ≤ end
    by_less true e =
        let less = ltb-true j n e in
        let o = get_or-set_other ends n j end 0 (λ q. omega arith) in
        rw o (let x = h j less in omega arith)
    by_less false e =
        let more = ltb-false j n e in
        let same : j ≡ n = omega arith in
        rw same (rw (get_or-set_same ends n end 0 f) (omega arith))
