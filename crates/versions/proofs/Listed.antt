-- A list as its elements, one by one from a place. Assumes nothing.
use Prim.Native.Nat.{ℕ, zero, suc, ◌≤◌}
use mathlib.Core.Path.{◌≡◌, refl, sym, ap, ◌∙◌}
use mathlib.Core.List.{List, [], ◌∷◌, ◌++◌, append-nil}
use native.Mathlib.Omega.{arith}
use lib.ListN.{length, get_or, drop, drop_of_length-le}

module _ {A : Type 0} where
  abbrev pub listing : (ℕ → A) → ℕ → ℕ → List A
  listing f at zero = []
  listing f at (suc n) = f at ∷ listing f (suc at) n

  later : (d x : A) (l : List A) (at n : ℕ) → listing (λ (i : ℕ). get_or (x ∷ l) i d) (suc at) n ≡ listing (λ (i : ℕ). get_or l i d) at n
  later d x l at zero = refl
  later d x l at (suc n) = ap (λ (r : List A). get_or l at d ∷ r) (later d x l (suc at) n)

  -- the first n, and what lies behind them
  pub front_listed : (d : A) (l : List A) (n : ℕ) → n ≤ length l → listing (λ (i : ℕ). get_or l i d) 0 n ++ drop n l ≡ l
  front_listed d l zero h = refl
  front_listed d [] (suc n) h = absurd (omega arith)
  front_listed d (x ∷ l) (suc n) h = ap (λ (r : List A). x ∷ r) (ap (λ (r : List A). r ++ drop n l) (later d x l 0 n) ∙ front_listed d l n (omega arith))

  pub listed : (d : A) (l : List A) (n : ℕ) → length l ≡ n → listing (λ (i : ℕ). get_or l i d) 0 n ≡ l
  listed d l n e =
      sym (append-nil (listing (λ (i : ℕ). get_or l i d) 0 n))
      ∙ ap (λ (r : List A). listing (λ (i : ℕ). get_or l i d) 0 n ++ r) (sym (drop_of_length-le l {i = n} (omega arith)))
      ∙ front_listed d l n (omega arith)
