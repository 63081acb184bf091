-- The invariant: the entries below k are read.
use mathlib.Core.Path.{◌≡◌}
use lib.ListN.{length, take}
use Rattle.scene.specs.Decode.{entries}
use Rattle.scene.proofs.matrix_at.Given as goal

abbrev pub invariant-loop-k : goal.invariant-loop-k
invariant-loop-k l = record {
  read : take l.k l.matrix ≡ entries l.bytes l.k;
  size : length l.matrix ≡ 40;
}
