-- Reading in parts is reading the whole, wherever the file is cut. Assumes nothing.
use Prim.Native.Nat.{ℕ}
use mathlib.Core.Path.{◌≡◌, refl, sym, ◌∙◌, ap}
use mathlib.Core.List.{List, [], ◌∷◌, ◌++◌, append_assoc}
use Rattle.grammar.specs.Reading.{Reading, Said, read_by, said_by, said_over, read_over, said_last, answers}

module _ (room : ℕ) where
  -- a reader after two parts
  pub read_on_lem : (s t : List ℕ) (r : Reading) → read_over room r (s ++ t) ≡ read_over room (read_over room r s) t
  unfolding read_over
  read_on_lem [] t r = refl
  read_on_lem (b ∷ s) t r = read_on_lem s t (read_by room r b)

  -- what two parts tell
  pub said_on_lem : (s t : List ℕ) (r : Reading) → said_over room r (s ++ t) ≡ said_over room r s ++ said_over room (read_over room r s) t
  unfolding said_over read_over
  said_on_lem [] t r = refl
  said_on_lem (b ∷ s) t r =
      ap (λ (l : List Said). said_by room r b ++ l) (said_on_lem s t (read_by room r b))
      ∙ sym (append_assoc (said_by room r b) (said_over room (read_by room r b) s) (said_over room (read_over room (read_by room r b) s) t))

  -- 02 (xiii): what a part tells, and then what the rest tells a reader that has read the part
  pub part_by_part : (s t : List ℕ) (r : Reading) → answers room r (s ++ t) ≡ said_over room r s ++ answers room (read_over room r s) t
  unfolding answers
  part_by_part s t r =
      ap (λ (l : List Said). l ++ said_last room (read_over room r (s ++ t))) (said_on_lem s t r)
      ∙ ap (λ (x : Reading). (said_over room r s ++ said_over room (read_over room r s) t) ++ said_last room x) (read_on_lem s t r)
      ∙ append_assoc (said_over room r s) (said_over room (read_over room r s) t) (said_last room (read_over room (read_over room r s) t))

  -- the whole of a list of parts
  unfoldable pub whole : List (List ℕ) → List ℕ
  whole [] = []
  whole (p ∷ more) = p ++ whole more

  -- what they tell, one after the other
  unfoldable pub in_parts : Reading → List (List ℕ) → List Said
  in_parts r [] = said_last room r
  in_parts r (p ∷ more) = said_over room r p ++ in_parts (read_over room r p) more

  pub parts_are_whole : (ps : List (List ℕ)) (r : Reading) → in_parts r ps ≡ answers room r (whole ps)
  unfolding answers said_over read_over in_parts whole
  parts_are_whole [] r = refl
  parts_are_whole (p ∷ more) r =
      ap (λ (l : List Said). said_over room r p ++ l) (parts_are_whole more (read_over room r p))
      ∙ sym (part_by_part p (whole more) r)
