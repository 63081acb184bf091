-- The invariant: with the places that are left cleared too, it is what it shall be.
use mathlib.Core.Path.{◌≡◌}
use mathlib.Core.List.{[], ◌∷◌}
use lib.ListN.{length, drop}
use Rattle.versions.specs.Versions.{cleared}
use Rattle.versions.proofs.unflag.Given as goal

abbrev pub invariant-loop-at : goal.invariant-loop-at
invariant-loop-at l = record {
  left : cleared (drop l.at-index (79 ∷ 91 ∷ 103 ∷ 115 ∷ 127 ∷ 139 ∷ 151 ∷ 163 ∷ [])) l.out ≡ cleared (79 ∷ 91 ∷ 103 ∷ 115 ∷ 127 ∷ 139 ∷ 151 ∷ 163 ∷ []) l.initial.out;
  size : length l.out ≡ 309;
}
