-- 02 (v): run-file kind 1 at 0x17 and its mirrors is kind 2. Assumes nothing.
use Prim.Native.Nat.{ℕ, ◌%◌}
use mathlib.Core.Path.{◌≡◌, refl, ap}
use Rattle.memory.specs.Lent.{Host}
use Rattle.script.specs.declared.Step.TheVariants as step
use Rattle.chip.specs.declared.Chip.{Chip}
use Rattle.calls.proofs.Door.{door_expand}
use Rattle.run.specs.Run.{from_chip, done_of}

module _ (h : Host) (c : Chip) (v : ℕ) where
  pub write_is_expand : (address : ℕ) → address % 64 ≡ 0x17 → done_of h c (step.Write address v) ≡ done_of h c (step.Expand v)
  unfolding done_of
  write_is_expand address e = ap (λ (d : Chip). from_chip d h.bank) (door_expand c address v e)

  -- the four that a byte can hold
  pub at_17 : done_of h c (step.Write 0x17 v) ≡ done_of h c (step.Expand v)
  at_17 = write_is_expand 0x17 refl

  pub at_57 : done_of h c (step.Write 0x57 v) ≡ done_of h c (step.Expand v)
  at_57 = write_is_expand 0x57 refl

  pub at_97 : done_of h c (step.Write 0x97 v) ≡ done_of h c (step.Expand v)
  at_97 = write_is_expand 0x97 refl

  pub at_d7 : done_of h c (step.Write 0xD7 v) ≡ done_of h c (step.Expand v)
  at_d7 = write_is_expand 0xD7 refl
