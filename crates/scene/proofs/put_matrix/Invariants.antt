-- The invariant: the entries below k are put.
use Prim.Native.Nat.{◌+◌, ◌*◌}
use Rattle.versions.specs.Put.{Put}
use Rattle.scene.specs.Encode.{entry_bytes}
use Rattle.scene.proofs.put_matrix.Given as goal

abbrev pub invariant-loop-k : goal.invariant-loop-k
invariant-loop-k l = Put l.initial.out l.out 171 (171 + 2 * l.k) (entry_bytes l.matrix l.k)
