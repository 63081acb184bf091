-- The invariant: the places before this one are filled.
use mathlib.Core.Path.{◌≡◌}
use Rattle.lines.specs.Columns.{places_of}
use Rattle.columns.specs.Columns.{lent_word}
use Rattle.columns.proofs.fill_all.Given as goal

abbrev pub invariant-loop-place : goal.invariant-loop-place
invariant-loop-place l =
    l.matrix ≡ places_of (lent_word l.host l.ptrs l.base) l.place l.initial.matrix
