-- What was read was there. Assumes nothing.
use mathlib.Core.Path.{◌≡◌, refl}
use mathlib.Core.Bool.{Bool, true, false, cond}
use mathlib.Core.List.{List, [], ◌∷◌}
use Prim.Native.Nat.{ℕ, ◌+◌, ◌≤◌, ◌<◌}
use native.Mathlib.Omega.{arith}
use Rattle.std.specs.Prelude.{Result, Ok, Err}
use lib.Dec.{ltb}
use lib.ListN.{length, drop, length-drop}
use borrow.Author.Tests.{ltb-false}
use Rattle.script.specs.declared.Step.{Step}
use Rattle.script.specs.declared.Fault.{Fault}
use Rattle.script.specs.declared.Fault.TheVariants as fault
use Rattle.script.specs.declared.Changed.{Changed}
use Rattle.script.specs.declared.Item.TheVariants as item
use Rattle.script.specs.Step.{step_of}
use Rattle.script.specs.File.{count_of, change_of, end_of}

got : {A : Type 0} (t : Bool) (more : Result A Fault) (x : A) → cond t (Err fault.Early) more ≡ Ok x → t ≡ false
got true more x e = absurd (let z : ◌≡◌ {A = ℕ} 0 1 = cc in omega arith)
got false more x e = refl

-- so many bytes from a place on
long : (s : List ℕ) (at n : ℕ) → 0 < n → ltb (length (drop at s)) n ≡ false → at + n ≤ length s
long s at n h e = omega (arith, simp length-drop at (ltb-false (length (drop at s)) n e))

module _ (s : List ℕ) (at : ℕ) where
  pub count_room : (most n : ℕ) → count_of most (drop at s) ≡ Ok n → at + 2 ≤ length s
  unfolding count_of
  count_room most n e = long s at 2 (omega arith) (got (ltb (length (drop at s)) 2) _ n e)

  pub change_room : (size : ℕ) (change : Changed) → change_of size (drop at s) ≡ Ok change → at + 3 ≤ length s
  unfolding change_of
  change_room size change e = long s at 3 (omega arith) (got (ltb (length (drop at s)) 3) _ change e)

  pub step_room : (step : Step) → step_of (drop at s) ≡ Ok step → at + 5 ≤ length s
  unfolding step_of
  step_room step e = long s at 5 (omega arith) (got (ltb (length (drop at s)) 5) _ step e)

-- the end of the file, and bytes after it
pub end_done : (s : List ℕ) → length s ≡ 0 → end_of s ≡ item.Done
unfolding end_of
end_done [] e = refl
end_done (x ∷ s) e = absurd (omega arith)

pub end_more : (s : List ℕ) → (length s ≡ 0 → ⊥) → end_of s ≡ item.Refused 9
unfolding end_of
end_more [] h = absurd (h refl)
end_more (x ∷ s) h = refl
