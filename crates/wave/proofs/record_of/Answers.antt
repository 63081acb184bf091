use Prim.Native.Nat.{◌%◌, ◌<◌}
use mathlib.Core.Path.{◌≡◌}
use native.Mathlib.Omega.{arith}
use borrow.Author.Rules.{rules}
use Rattle.laws.specs.Pick.{pick}
use Rattle.wave.specs.Wave.{record_of}
use Rattle.wave.proofs.record_of.Goals as goal

pub returns : goal.returns
unfolding record_of pick
returns c =
    let less : c.args.chip.side.sprites.dma < 256 = search rules in
    let whole : c.args.chip.side.sprites.dma % 256 ≡ c.args.chip.side.sprites.dma = omega (arith, less) in
    simp (c.pick-3.ensures, c.from-2.ensures, c.from.ensures, c.pick-2.ensures, c.pick.ensures, whole)
