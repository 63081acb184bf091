-- Who asks for the bus in the cycles of a line, in its three parts. Assumes nothing.
use Prim.Native.Nat.{ℕ, ◌<◌, ◌≤◌, ◌+◌, ◌-◌}
use mathlib.Core.Path.{◌≡◌, ◌∙◌, sym}
use mathlib.Core.Bool.{Bool, false}
use native.Mathlib.Omega.{arith}
use native.Mathlib.Decide.{dec_lt}
use lib.Dec.{leb}
use lib.Bits.{and_zero_r}
use borrow.Author.Tests.{lt-ltb, le-ltb, le-leb, lt-leb}
use Rattle.laws.proofs.Below as Below
use Rattle.laws.proofs.Choice.{and_false, and_true, or_false}
use Rattle.schedule.specs.Kind.{Kind, the6569, the6567_r8, first_pointer}
use Rattle.schedule.specs.Diagram.{happens}
use Rattle.schedule.specs.Requests.{mask_at}
use Rattle.schedule.proofs.Places.{first_least}
use Rattle.arbitration.specs.Bus.{sprite_asks}
use Rattle.lines.specs.Bus.{Masks, mask_in, asks}

-- between the slots of sprite 7 and the first comparison no sprite asks
silent : (k : Kind) (c : ℕ) → 11 ≤ c → c + 3 < first_pointer k → mask_at k c ≡ 0
unfolding mask_at
silent the6569 c l h = Below.same_within (λ n. mask_at the6569 n) (λ n. 0) 11 44 tt c l (omega arith)
silent the6567_r8 c l h = Below.same_within (λ n. mask_at the6567_r8 n) (λ n. 0) 11 45 tt c l (omega arith)

pub none_asks : (k : Kind) (dma c : ℕ) → 11 ≤ c → c + 3 < first_pointer k → sprite_asks dma (mask_at k c) ≡ false
unfolding sprite_asks
none_asks k dma c l h = rw (silent k c l h, and_zero_r dma)

module _ (k : Kind) (bad : Bool) (m : Masks) where
  pub early_asks : (c : ℕ) → c ≤ 11 → asks k bad m c ≡ sprite_asks m.before (mask_at k c)
  unfolding asks happens
  early_asks c l = rw (lt-leb 12 c (omega arith), and_false bad, lt-ltb c (first_pointer k - 3) (omega (arith, first_least k)))

  pub eleven : asks k bad m 11 ≡ false
  eleven = early_asks 11 (omega arith) ∙ none_asks k m.before 11 (omega arith) (omega (arith, first_least k))

  pub matrix_asks : (c : ℕ) → 12 ≤ c → c ≤ 54 → asks k bad m c ≡ bad
  unfolding asks happens
  matrix_asks c l h = rw (le-leb 12 c l, le-leb c 54 h, and_true bad, none_asks k (mask_in k m c) c (omega arith) (omega (arith, first_least k)), or_false bad)

  pub late_asks : m.first ≡ m.after → (c : ℕ) → 55 ≤ c → asks k bad m c ≡ sprite_asks m.after (mask_at k c)
  unfolding asks happens
  late_asks e c l = rw (lt-leb c 54 l, and_false (leb 12 c), and_false bad) (by (dec_lt (c + 3) (first_pointer k)) (dec_lt (c + 2) (first_pointer k)))
    where
      by : Dec (c + 3 < first_pointer k) → Dec (c + 2 < first_pointer k) → sprite_asks (mask_in k m c) (mask_at k c) ≡ sprite_asks m.after (mask_at k c)
      by (yes h) d = none_asks k (mask_in k m c) c (omega arith) h ∙ sym (none_asks k m.after c (omega arith) h)
      by (no h) (yes d) = rw (le-ltb c (first_pointer k - 3) (omega arith), lt-ltb c (first_pointer k - 2) (omega arith), e)
      by (no h) (no d) = rw (le-ltb c (first_pointer k - 3) (omega arith), le-ltb c (first_pointer k - 2) (omega arith))
