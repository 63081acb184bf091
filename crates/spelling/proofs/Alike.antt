-- Two words byte by byte, and a name letter by letter. Assumes nothing.
use Prim.Native.Nat.{ℕ, suc, ◌≤◌, ◌<◌}
use mathlib.Core.Path.{◌≡◌, refl, sym, ◌∙◌, ap}
use mathlib.Core.Bool.{Bool, true, false, not, ◌&&◌, ◌||◌, cond}
use mathlib.Core.List.{List, [], ◌∷◌}
use mathlib.Core.Logic.{◌⊎◌, inl, inr}
use native.Mathlib.Omega.{arith}
use lib.Dec.{eqb}
use lib.ListN.{length, drop, get_or, drop_of_length-le}
use lib.Seq.{drop-cons}
use lib.Pointwise.{pointwise}
use Rattle.std.specs.Prelude.{nat_eq}
use Rattle.grammar.specs.Words.{Word, same, lower, name_of}

both : (p q : Bool) → (p && q) ≡ cond p q false
both true q = refl
both false q = refl

-- the library's equality of slices
pub pointwise_same : (a b : Word) → pointwise nat_eq a b ≡ same a b
unfolding same
pointwise_same [] [] = refl
pointwise_same [] (y ∷ t) = refl
pointwise_same (x ∷ s) [] = refl
pointwise_same (x ∷ s) (y ∷ t) = both (eqb x y) (pointwise nat_eq s t) ∙ ap (λ (r : Bool). cond (eqb x y) r false) (pointwise_same s t)

-- ---- names

turned : (q r : Bool) → cond q r false ≡ cond (not q) false r
turned true r = refl
turned false r = refl

letter_by : (p : Bool) (x n : ℕ) (m ns : Word) → same (cond p [] (x ∷ m)) (n ∷ ns) ≡ cond (p || not (eqb x n)) false (same m ns)
unfolding same
letter_by true x n m ns = refl
letter_by false x n m ns = turned (eqb x n) (same m ns)

pub letter : (b n : ℕ) (s ns : Word) → same (name_of (b ∷ s)) (n ∷ ns) ≡ cond (eqb b 91 || not (eqb (lower b) n)) false (same (name_of s) ns)
unfolding name_of
letter b n s ns = letter_by (eqb b 91) (lower b) n (name_of s) ns

ends_by : (p : Bool) (x : ℕ) (m : Word) → same (cond p [] (x ∷ m)) [] ≡ p
unfolding same
ends_by true x m = refl
ends_by false x m = refl

pub ends_at : (w : Word) (i : ℕ) → i < length w → same (name_of (drop i w)) [] ≡ eqb (get_or w i 0) 91
unfolding name_of
ends_at w i h = ap (λ (l : Word). same (name_of l) []) (drop-cons w i 0 h) ∙ ends_by (eqb (get_or w i 0) 91) (lower (get_or w i 0)) (name_of (drop (suc i) w))

pub ends_over : (w : Word) (i : ℕ) → length w ≤ i → same (name_of (drop i w)) [] ≡ true
unfolding name_of same
ends_over w i h = simp (drop_of_length-le w {i = i} h)

pub short : (w name : Word) → length w < length name → same (name_of w) name ≡ false
unfolding name_of same
short w [] h = absurd (omega (arith, h))
short [] (n ∷ ns) h = refl
short (b ∷ s) (n ∷ ns) h = letter b n s ns ∙ by (eqb b 91 || not (eqb (lower b) n)) _ (short s ns (omega (arith, h)))
  where
    by : (p r : Bool) → r ≡ false → cond p false r ≡ false
    by true r e = refl
    by false r e = e

-- what is left of a word and of a name, and what is left after a letter more
module _ (w name s ns : Word) (b n : ℕ) (e : w ≡ b ∷ s) (f : name ≡ n ∷ ns) where
  letters : same (name_of w) name ≡ cond (eqb b 91 || not (eqb (lower b) n)) false (same (name_of s) ns)
  letters = rw (e, f) (letter b n s ns)

  module _ (d : Bool) (g : d ≡ (eqb b 91 || not (eqb (lower b) n))) where
    pub other : d ≡ true → same (name_of w) name ≡ false
    other t = letters ∙ ap (λ (x : Bool). cond x false (same (name_of s) ns)) (sym g ∙ t)

    pub alike : d ≡ false → same (name_of w) name ≡ same (name_of s) ns
    alike t = letters ∙ ap (λ (x : Bool). cond x false (same (name_of s) ns)) (sym g ∙ t)

  pub fewer : length name ≤ length w → length ns ≤ length s
  fewer h = omega (arith, h, ap length e, ap length f)

  pub left : drop (length name) w ≡ drop (length ns) s
  left = rw (e, f) refl

pub named_out : (w name : Word) → length name ≤ length w → (w ≡ []) ⊎ (name ≡ []) → same (name_of w) name ≡ same (name_of (drop (length name) w)) []
named_out w [] h o = refl
named_out w (n ∷ ns) h (inl e) = absurd (omega (arith, h, ap length e))
named_out w (n ∷ ns) h (inr e) = absurd (omega (arith, ap length e))
