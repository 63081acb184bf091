-- One text after another, and a number's text by how many digits it has. Assumes nothing.
use Prim.Native.Nat.{ℕ, ◌+◌, ◌/◌, ◌≤◌, ◌<◌}
use mathlib.Core.Path.{◌≡◌, refl, sym, ◌∙◌, ap, subst}
use mathlib.Core.List.{List, [], ◌∷◌, ◌++◌}
use native.Mathlib.Omega.{arith}
use lib.ListN.{length, set, length-append}
use borrow.Author.Tests.{lt-ltb, le-ltb}
use Rattle.line.specs.Text.{glyph_of, text_of, pasted, Written}

both : (out : List ℕ) (at : ℕ) (xs ys : List ℕ) → pasted out at (xs ++ ys) ≡ pasted (pasted out at xs) (at + length xs) ys
unfolding pasted
both out at [] ys = ap (λ a. pasted out a ys) (omega arith)
both out at (x ∷ xs) ys =
    both (set out at x) (at + 1) xs ys ∙ ap (λ a. pasted (pasted (set out at x) (at + 1) xs) a ys) (omega arith)

pub one : (out : List ℕ) (at x : ℕ) → Written out at (x ∷ []) (set out at x) (at + 1)
unfolding pasted
one out at x = record { place = omega arith; text = refl }

module _ {out out1 out2 : List ℕ} {at a r : ℕ} {xs ys : List ℕ} where
  pub on : Written out at xs out1 a → Written out1 a ys out2 r → Written out at (xs ++ ys) out2 r
  on f g =
      record {
        place = omega (arith, f.place, g.place, length-append xs ys);
        text =
            g.text
            ∙ ap (λ o. pasted o a ys) f.text
            ∙ ap (λ p. pasted (pasted out at xs) p ys) f.place
            ∙ sym (both out at xs ys);
      }

module _ (n end : ℕ) where
  pub text1 : n < 10 → text_of n end ≡ glyph_of n ∷ end ∷ []
  unfolding text_of
  text1 h = simp (lt-ltb _ _ h)

  pub text2 : 10 ≤ n → n < 100 → text_of n end ≡ glyph_of (n / 10) ∷ glyph_of n ∷ end ∷ []
  unfolding text_of
  text2 g h = simp (le-ltb _ _ g, lt-ltb _ _ h)

  pub text3 : 10 ≤ n → 100 ≤ n → n < 1000 → text_of n end ≡ glyph_of (n / 100) ∷ glyph_of (n / 10) ∷ glyph_of n ∷ end ∷ []
  unfolding text_of
  text3 f g h = simp (le-ltb _ _ f, le-ltb _ _ g, lt-ltb _ _ h)

  pub text4 : 10 ≤ n → 100 ≤ n → 1000 ≤ n → n < 10000 → text_of n end ≡ glyph_of (n / 1000) ∷ glyph_of (n / 100) ∷ glyph_of (n / 10) ∷ glyph_of n ∷ end ∷ []
  unfolding text_of
  text4 e f g h = simp (le-ltb _ _ e, le-ltb _ _ f, le-ltb _ _ g, lt-ltb _ _ h)

  pub text5 : 10 ≤ n → 100 ≤ n → 1000 ≤ n → 10000 ≤ n → text_of n end ≡ glyph_of (n / 10000) ∷ glyph_of (n / 1000) ∷ glyph_of (n / 100) ∷ glyph_of (n / 10) ∷ glyph_of n ∷ end ∷ []
  unfolding text_of
  text5 e f g h = simp (le-ltb _ _ e, le-ltb _ _ f, le-ltb _ _ g, le-ltb _ _ h)

-- the text by its name
module _ {out after named words : List ℕ} {at r : ℕ} where
  pub named_as : named ≡ words → Written out at words after r → Written out at named after r
  named_as e w = subst (λ t. Written out at t after r) (sym e) w
