-- What holds of an accepted state's rows (01, States we accept).
use Rattle.std.specs.Prelude.{ℕ, ◌-◌, ◌≤◌}
use Rattle.laws.specs.Pick.{pick}
use Rattle.schedule.specs.Diagram.{happens, first_of, character_access, vmli_counts}
use Rattle.rows.specs.declared.Rows.{Rows}

-- VMLI 0..40, and where it counts no higher than an ordinary bad line has it: 0 after the first character access, one more after each
unfoldable pub vmli_limit : ℕ → ℕ
vmli_limit cycle = pick (happens vmli_counts cycle) (cycle - first_of character_access) 40

pub record FineRows (cycle : ℕ) (r : Rows) : Type 0 where
  pub vc : r.vc ≤ 1023
  pub vcbase : r.vcbase ≤ 1023
  pub rc : r.rc ≤ 7
  pub vmli : r.vmli ≤ vmli_limit cycle
