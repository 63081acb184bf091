use mathlib.Core.Path.{◌≡◌}
use Prim.Native.Nat.{ℕ, ◌<◌, ◌-◌, ◌*◌, ◌%◌, ◌^◌}
use lib.Bits.{bit_and}
use Rattle.laws.proofs.Below.{same₂}
use Rattle.laws.specs.Bits.{without_bit, has_bit}
use borrow.Author.Rules.{rules}
use Rattle.laws.proofs.without_bit.Goals as goal

code : ℕ → ℕ → ℕ
code x y = bit_and x (255 - 1 * 2 ^ y % 256)

agree : (x y : ℕ) → x < 256 → y < 8 → code x y ≡ without_bit x y
unfolding code without_bit has_bit
agree = same₂ code without_bit 256 8 tt

pub returns : goal.returns
unfolding code
returns c = agree c.args.mask c.args.n (search rules) (search rules)
