-- Where what the host lends is refused, and what follows where it is not. Assumes nothing.
use Prim.Native.Nat.{ℕ}
use mathlib.Core.Path.{◌≡◌}
use mathlib.Core.Bool.{true, false}
use mathlib.Core.List.{List}
use lib.Dec.{eqb, ltb}
use lib.ListN.{length}
use borrow.Author.Tests.{eqb-true}
use Rattle.laws.proofs.Choice.{passed}
use Rattle.memory.specs.Memory.{Lent, block_refusal}
use Rattle.memory.specs.Lent.{Host, host, lent_refusal}
use Rattle.memory.proofs.Laws.{unrefused_lent}

-- nothing lent is refused: the three lengths are right
module _ (h : Host) (e : lent_refusal h ≡ 0) where
  both : (eqb (length h.colour) 1024 ≡ true) × (block_refusal h.ram h.rom h.bank ≡ 0)
  unfolding lent_refusal
  both = passed (eqb (length h.colour) 1024) (block_refusal h.ram h.rom h.bank) e

  pub host_lent : Lent h.ram h.rom
  host_lent = unrefused_lent h.ram h.rom h.bank both.1

  pub host_colour : length h.colour ≡ 1024
  host_colour = eqb-true (length h.colour) 1024 both.0

-- memory of the legal lengths and a bank 0..3 are not refused
pub lent_legal : (ram rom colour : List ℕ) (bank : ℕ) → length ram ≡ 16384 → length rom ≡ 4096 → length colour ≡ 1024 → ltb 3 bank ≡ false
    → lent_refusal (host ram rom colour bank) ≡ 0
unfolding lent_refusal block_refusal
lent_legal ram rom colour bank r s t b = simp (r, s, t, b)

-- a bank above 3 is
pub lent_bank : (ram rom colour : List ℕ) (bank : ℕ) → length ram ≡ 16384 → length rom ≡ 4096 → length colour ≡ 1024 → ltb 3 bank ≡ true
    → lent_refusal (host ram rom colour bank) ≡ 2
unfolding lent_refusal block_refusal
lent_bank ram rom colour bank r s t b = simp (r, s, t, b)
