-- Parts that are put one behind the other. Assumes nothing.
use Prim.Native.Nat.{ℕ, suc, ◌+◌, ◌≤◌}
use mathlib.Core.Path.{◌≡◌, refl, sym, ap, ◌∙◌}
use mathlib.Core.List.{List, [], ◌++◌, append_assoc, append-nil}
use native.Mathlib.Nat.{le_antisymm}
use native.Mathlib.Numerals.{add-one}
use native.Mathlib.Omega.{arith}
use lib.ListN.{length, take}
use lib.Seq.{take_all}
use Rattle.versions.specs.Put.{Put}

-- a part by another name, and its end computed
pub put_as : {b a p : List ℕ} {at : ℕ} (q : List ℕ) (end : ℕ) → Put b a at (at + length p) p → p ≡ q → at + length q ≡ end → Put b a at end q
put_as q end h e l = rw (← l, ← e) h

pub put_none : (b : List ℕ) (at : ℕ) → Put b b at at []
put_none b at = record { size = refl; front = sym (append-nil (take at b)) }

pub put_both : {b m a p q : List ℕ} {at mid end : ℕ} → Put b m at mid p → Put m a mid end q → Put b a at end (p ++ q)
put_both {b = b} {p = p} {q = q} {at = at} h k =
    record {
      size = k.size ∙ h.size;
      front = k.front ∙ ap (λ (l : List ℕ). l ++ q) h.front ∙ append_assoc (take at b) p q;
    }

-- from the first byte to the last: nothing is left of what was there
pub put_whole : {b a p : List ℕ} {n : ℕ} → length b ≡ n → Put b a 0 n p → a ≡ p
put_whole {a = a} {n = n} l h = sym (take_all n a (omega (arith, h.size, l))) ∙ h.front

-- a loop that puts part k at its turn k: a turn, and the end
pub put_next : {b a : List ℕ} {at here : ℕ} (k next : ℕ) (parts : ℕ → List ℕ) → Put b a at here (parts (suc k)) → here ≡ next → Put b a at next (parts (k + 1))
put_next k next parts h e = rw (add-one k, ← e) h

pub put_last : {b a : List ℕ} {at : ℕ} (n k : ℕ) (place : ℕ → ℕ) (parts : ℕ → List ℕ) → k ≤ n → n ≤ k → Put b a at (place k) (parts k) → Put b a at (place n) (parts n)
put_last n k place parts l m h = rw (le_antisymm l m) at h
