-- A place that waits in a state that is taken is one of the forty. Assumes nothing.
use Prim.Native.Nat.{ℕ, ◌<◌}
use mathlib.Core.Path.{◌≡◌, sym, ◌∙◌}
use Rattle.std.specs.Prelude.{Some}
use Rattle.rows.specs.Pending.{Pends}
use Rattle.chip.specs.declared.Chip.{Chip}
use Rattle.chip.specs.Accept.{state_refusal}
use Rattle.chip.proofs.Fine.{taken_accepted}
use Rattle.chip.proofs.Accepted.{accepted_place, place_fine_pends}

pub late_small : (c : Chip) {state place : ℕ} → state ≡ state_refusal c → state ≡ 0 → c.side.pending.place ≡ Some place → place < 40
late_small c e t p =
    let small : Pends c.side.pending.place = place_fine_pends c.side.pending.place (accepted_place c (taken_accepted c (sym e ∙ t))) in
    rw p at small
