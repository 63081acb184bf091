use Prim.Native.Nat.{◌-◌}
use mathlib.Core.Path.{subst}
use lib.IntN.{ℤ}
use mir.Facts.{to_z-of_z}
use Rattle.lines.specs.Bus.{waited}
use Rattle.waves.specs.Waves.{Wave}
use Rattle.waves.proofs.Line.{low_early_word}
use Rattle.waves.proofs.low_early.Goals as goal

pub returns : goal.returns
returns c =
    let Run : ℤ → Type 0 = λ z. Wave 4 (λ i. waited z (3 - i)) c.run_before-run.result in
    low_early_word _ _ _ c.early-asked.ensures (subst Run (to_z-of_z c.ranges.aec) c.run_before-run.ensures) c.four.ensures
