-- The last reason's word, and a line from its parts. Assumes nothing.
use Prim.Native.Nat.{ℕ, ◌/◌}
use mathlib.Core.Path.{◌≡◌, sym, ◌∙◌}
use mathlib.Core.Bool.{Bool, true, false, ◌||◌}
use mathlib.Core.List.{[], ◌∷◌, ◌++◌}
use borrow.Author.Tests.{ne_eqb}
use Rattle.access.specs.declared.Read.{Read}
use Rattle.access.specs.declared.Reads.{Reads}
use Rattle.line.specs.Text.{ascii, text_of}
use Rattle.ledger.specs.Text.{hex_of, address_of, named, word_of, end_of, read_of, line_of}

-- the last word, by no number before it
module _ {r : ℕ} where
  pub word6 : (r ≡ 1 → ⊥) → (r ≡ 2 → ⊥) → (r ≡ 3 → ⊥) → (r ≡ 4 → ⊥) → (r ≡ 5 → ⊥) → word_of r ≡ ascii "refresh "
  unfolding word_of
  word6 a b d f e = simp (ne_eqb r 1 a, ne_eqb r 2 b, ne_eqb r 3 d, ne_eqb r 4 f, ne_eqb r 5 e)

-- four digits, by what each call says of its own
pub four : (n end : ℕ) {w x y z : ℕ} → w ≡ hex_of (n / 4096) → x ≡ hex_of (n / 256) → y ≡ hex_of (n / 16) → z ≡ hex_of n → address_of n end ≡ w ∷ x ∷ y ∷ z ∷ end ∷ []
unfolding address_of
four n end w x y z = simp (w, x, y, z)

-- a read, told or not
module _ (r : Read) (end : ℕ) {test : Bool} (is : test ≡ named r.reason) where
  pub told_read : test ≡ true → read_of r end ≡ word_of r.reason ++ address_of r.address end
  unfolding read_of
  told_read t = simp (sym is ∙ t)

  pub no_read : test ≡ false → read_of r end ≡ []
  unfolding read_of
  no_read t = simp (sym is ∙ t)

-- the line, by the tests of its reads and the ends that they give
pub line_is : (cycle raster lost : ℕ) (reads : Reads) {one two : Bool} {any another : ℕ} → one ≡ named reads.first.reason → two ≡ named reads.second.reason → any ≡ end_of (one || two) → another ≡ end_of two
    → line_of cycle raster lost reads ≡ text_of cycle 32 ++ (text_of raster 32 ++ (text_of lost any ++ (read_of reads.first another ++ read_of reads.second 10)))
unfolding line_of
line_is cycle raster lost reads one two any another = simp (any, another, one, two)
