-- No rules: the steps in which a tick's values are written.
use Rattle.std.specs.Prelude.{ℕ, Bool, cond, ◌||◌, not, List, [], ◌++◌, eqb}
use Rattle.vcd.specs.declared.Record.{Record}
use Rattle.vcd.specs.Text.{value_text}

unfoldable pub part_text : ℕ → ℕ → Bool → ℕ → ℕ → List ℕ
part_text k bits all was v = cond (all || not (eqb was v)) (value_text k bits v) []

unfoldable pub beam_text : Bool → Record → Record → List ℕ
beam_text all was r =
    part_text 0 7 all was.cycle r.cycle
    ++ (part_text 1 9 all was.raster r.raster
    ++ (part_text 2 1 all was.ba r.ba ++ part_text 3 1 all was.aec r.aec))

unfoldable pub rest_text : Bool → Record → Record → List ℕ
rest_text all was r =
    part_text 4 8 all was.dma r.dma
    ++ (part_text 5 3 all was.rc r.rc
    ++ (part_text 6 10 all was.vc r.vc ++ part_text 7 1 all was.irq r.irq))
