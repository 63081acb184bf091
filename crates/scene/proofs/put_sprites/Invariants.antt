-- The invariant: the sprites below k are put.
use Prim.Native.Nat.{◌+◌, ◌*◌}
use Rattle.versions.specs.Put.{Put}
use Rattle.scene.specs.Encode.{sprite_rows}
use Rattle.scene.proofs.put_sprites.Given as goal

abbrev pub invariant-loop-k : goal.invariant-loop-k
invariant-loop-k l = Put l.initial.out l.out 75 (75 + 12 * l.k) (sprite_rows l.s l.p l.k)
