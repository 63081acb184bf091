use mathlib.Core.Path.{◌≡◌}
use mathlib.Core.List.{List, [], ◌∷◌}
use Prim.Native.Nat.{ℕ, ◌≤◌, ◌<◌, ◌%◌}
use native.Mathlib.Omega.{arith}
use lib.Dec.{eqb, eqb→eq}
use Rattle.laws.proofs.Switch.{None, ones, rest_within}
use Rattle.laws.proofs.Below.{same_within}
use borrow.Author.Tests.{lt-ltb}
use Rattle.registers.specs.Registers.{latch, written}
use Rattle.registers.proofs.Registers.write.Goals as goal

colour : (reg : ℕ) → 0x27 ≤ reg → reg < 0x2F → latch reg ≡ 0x27
unfolding latch
colour = same_within latch (λ k. 0x27) 0x27 8 tt

beyond : (reg : ℕ) → 0x2F ≤ reg → reg < 64 → latch reg ≡ 0x3F
unfolding latch
beyond = same_within latch (λ k. 0x3F) 0x2F 17 tt

-- the numbers that the match lists, the last first
abbrev listed : List ℕ
listed = 0x26 ∷ 0x25 ∷ 0x24 ∷ 0x23 ∷ 0x22 ∷ 0x21 ∷ 0x20 ∷ 0x1D ∷ 0x1C ∷ 0x1B ∷ 0x18 ∷ 0x15 ∷ 0x12 ∷ 0x10 ∷ []

other : (reg : ℕ) → 0x10 ≤ reg → reg < 0x27 → None (ones listed) reg → latch reg ≡ 0x3F
unfolding latch
other reg l h none = eqb→eq (latch reg) 0x3F (rest_within (λ k. eqb (latch k) 0x3F) (ones listed) 0x10 23 tt reg l h none)

pub returns-then-reg-le46 : goal.returns-then-reg-le46
unfolding written
returns-then-reg-le46 c = rw (colour (c.args.addr % 64) (omega arith) (omega arith))

pub returns-else-reg-le46 : goal.returns-else-reg-le46
unfolding written
returns-else-reg-le46 c = rw (beyond (c.args.addr % 64) (omega arith) (omega arith))

pub returns-in_default : goal.returns-in_default
unfolding written
returns-in_default c = rw (other (c.args.addr % 64) (omega arith) (omega arith) c.in_default.in_default-own.rest)
