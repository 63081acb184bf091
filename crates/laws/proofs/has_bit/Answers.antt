use mathlib.Core.Path.{◌≡◌}
use mathlib.Core.Bool.{Bool, not}
use Prim.Native.Nat.{ℕ, ◌<◌, ◌*◌, ◌%◌, ◌^◌}
use lib.Dec.{eqb}
use lib.Bits.{bit_and}
use Rattle.laws.proofs.Below.{same_test₂}
use Rattle.laws.specs.Bits.{has_bit}
use borrow.Author.Rules.{rules}
use Rattle.laws.proofs.has_bit.Goals as goal

code : ℕ → ℕ → Bool
code x y = not (eqb (bit_and x (1 * 2 ^ y % 256)) 0)

agree : (x y : ℕ) → x < 256 → y < 8 → code x y ≡ has_bit x y
unfolding code has_bit
agree = same_test₂ code has_bit 256 8 tt

pub returns : goal.returns
unfolding code
returns c = agree c.args.mask c.args.n (search rules) (search rules)
