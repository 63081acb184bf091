-- Turn after turn: what each adds to the text. Assumes nothing.
use Prim.Native.Nat.{ℕ, zero, suc}
use mathlib.Core.Path.{◌≡◌, refl, ap}
use mathlib.Core.Bool.{Bool, true, false, cond}
use mathlib.Core.List.{List}
use Rattle.script.specs.declared.Found.{Found}
use Rattle.script.specs.Machinery.Cursor.{next_of}
use Rattle.driver.specs.declared.Run.{Run}
use Rattle.driver.specs.declared.Made.{Made}
use Rattle.driver.specs.Driver.{Store, made_on, store_at}
use Rattle.clerk.specs.Bus.{first, over, told_from}

module _ (s : List ℕ) where
  pub is_over : (n : ℕ) (m : Store) (r : Run) → r.going ≡ false → told_from n s m r ≡ over r m
  unfolding told_from
  is_over zero m r g = refl
  is_over (suc n) m r g = simp g

  module _ (m : Store) (r : Run) (going : r.going ≡ true) where
    abbrev found : Found
    found = next_of s r.cursor

    abbrev x : Made
    x = made_on m r found

    pub on_one : (n : ℕ) → told_from (suc n) s m r ≡ first x (told_from n s (store_at m found.item) x.run)
    unfolding told_from
    on_one n = ap (λ (go : Bool). cond go (first x (told_from n s (store_at m found.item) x.run)) (over r m)) going
