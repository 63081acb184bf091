-- No second answer fits: every promise of a public call says that the result is a definition's value, so any two results that meet it are the same.
-- Assumes nothing.
use mathlib.Core.Path.{◌≡◌, sym, ◌∙◌}

pub no_second_answer : {A : Type 0} {given first second : A} → first ≡ given → second ≡ given → first ≡ second
no_second_answer a b = a ∙ sym b
