-- The code's two masks keep the low six bits, so 64 by 64 pairs show the rest.
use mathlib.Core.Path.{◌≡◌, sym, ◌∙◌, ap, ap₂}
use Prim.Native.Nat.{ℕ, ◌<◌, ◌≤◌, ◌%◌, ◌/◌}
use native.Mathlib.Omega.{arith}
use native.Mathlib.Nat.{mod-eq_of_lt}
use lib.Bits.{bit_and, bit_or, and_le_l, and_mod, or_mod}
use Rattle.laws.specs.Bits.{has_bit}
use Rattle.laws.proofs.Below.{same₂}
use Rattle.sprites.specs.Sprites.{crunched}
use Rattle.sprites.proofs.crunch.Goals as goal

code : ℕ → ℕ → ℕ
code a b = bit_or (bit_and (bit_and 42 a) b) (bit_and 21 (bit_or a b))

agree : (a b : ℕ) → a < 64 → b < 64 → code a b ≡ crunched a b
unfolding code crunched has_bit
agree = same₂ code crunched 64 64 tt

-- a mask below 64 sees the low six bits alone
low : (m a : ℕ) → m < 64 → bit_and m a ≡ bit_and m (a % 64)
low m a h =
    sym (mod-eq_of_lt (lt (and_le_l m a))) ∙ and_mod m a 6 ∙ ap (λ (n : ℕ). bit_and n (a % 64)) (mod-eq_of_lt h)
  where
    lt : bit_and m a ≤ m → bit_and m a < 64
    lt e = omega arith

low_code : (a b : ℕ) → code a b ≡ code (a % 64) (b % 64)
unfolding code
low_code a b =
    ap₂ bit_or (low (bit_and 42 a) b (omega (arith, and_le_l 42 a)) ∙ ap (λ (n : ℕ). bit_and n (b % 64)) (low 42 a (omega arith)))
    (low 21 (bit_or a b) (omega arith) ∙ ap (bit_and 21) (or_mod a b 6))

low_bits : (a : ℕ) → (a % 64 / 1 % 2 ≡ a / 1 % 2) × (a % 64 / 2 % 2 ≡ a / 2 % 2) × (a % 64 / 4 % 2 ≡ a / 4 % 2) × (a % 64 / 8 % 2 ≡ a / 8 % 2) × (a % 64 / 16 % 2 ≡ a / 16 % 2) × (a % 64 / 32 % 2 ≡ a / 32 % 2)
low_bits a = (omega arith, omega arith, omega arith, omega arith, omega arith, omega arith)

low_crunched : (a b : ℕ) → crunched (a % 64) (b % 64) ≡ crunched a b
unfolding crunched has_bit
low_crunched a b =
    let x = low_bits a in
    let y = low_bits b in
    simp (x.0, x.1, x.2, x.3, x.4, x.5, y.0, y.1, y.2, y.3, y.4, y.5)

pub returns : goal.returns
unfolding code
returns c =
    low_code c.args.base c.args.mc ∙ agree (c.args.base % 64) (c.args.mc % 64) (omega arith) (omega arith) ∙ low_crunched c.args.base c.args.mc
