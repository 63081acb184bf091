use mathlib.Core.Path.{◌≡◌}
use Prim.Native.Nat.{ℕ, ◌<◌, ◌*◌, ◌%◌, ◌^◌}
use lib.Bits.{bit_or}
use Rattle.laws.proofs.Below.{same₂}
use Rattle.laws.specs.Bits.{with_bit, has_bit}
use borrow.Author.Rules.{rules}
use Rattle.laws.proofs.with_bit.Goals as goal

code : ℕ → ℕ → ℕ
code x y = bit_or x (1 * 2 ^ y % 256)

agree : (x y : ℕ) → x < 256 → y < 8 → code x y ≡ with_bit x y
unfolding code with_bit has_bit
agree = same₂ code with_bit 256 8 tt

pub returns : goal.returns
unfolding code
returns c = agree c.args.mask c.args.n (search rules) (search rules)
