use mathlib.Core.Path.{sym}
use native.Mathlib.Omega.{arith}
use lib.ListN.{length-drop}
use Rattle.script.proofs.Room.{end_more}
use Rattle.script.proofs.end_of.Goals as goal

pub returns : goal.returns
returns c = sym (end_more _ (λ e. omega (arith, simp length-drop at e)))
