-- What is noted of a tick's reads is read back. Assumes nothing.
use Prim.Native.Nat.{ℕ, ◌+◌, ◌*◌, ◌/◌, ◌%◌, ◌<◌}
use mathlib.Core.Path.{◌≡◌, refl}
use mathlib.Core.List.{[]}
use native.Mathlib.Omega.{arith}
use Rattle.schedule.specs.declared.Reasons.{Reasons}
use Rattle.access.specs.declared.Spots.{Spots}
use Rattle.access.specs.Reads.{told}
use Rattle.access.specs.Machinery.Noted.{read_for, reads_of, noted_of, reads_in}

-- numbers that fit
pub record Fit (why : Reasons) (at : Spots) : Type 0 where
  pub why_first : why.first < 0x100
  pub why_second : why.second < 0x100
  pub at_first : at.first < 0x10000
  pub at_second : at.second < 0x10000

-- what stands lowest, below a multiple of its room
low_8 : (x m : ℕ) → x < 0x100 → (x + 0x100 * m) % 0x100 ≡ x
low_8 x m h = omega arith

low_16 : (x m : ℕ) → x < 0x10000 → (x + 0x10000 * m) % 0x10000 ≡ x
low_16 x m h = omega arith

module _ (why : Reasons) (at : Spots) (fit : Fit why at) where
  abbrev n : ℕ
  n = why.first * 0x10000 + at.first + why.second * 0x1000000000000 + at.second * 0x100000000

  pub read_back : reads_in (noted_of why at) ≡ reads_of why at
  unfolding reads_in noted_of
  read_back =
      let a : n % 0x10000 ≡ at.first = omega (arith, fit) in
      let b : n / 0x10000 ≡ why.first + 0x100 * (why.second * 0x1000000 + at.second * 0x100) = omega (arith, fit) in
      let c : n / 0x100000000 ≡ at.second + 0x10000 * why.second = omega (arith, fit) in
      let d : n / 0x1000000000000 ≡ why.second + 0x100 * 0 = omega (arith, fit) in
      let b' = low_8 why.first (why.second * 0x1000000 + at.second * 0x100) fit.why_first in
      let c' = low_16 at.second why.second fit.at_second in
      let d' = low_8 why.second 0 fit.why_second in
      rw (a, b, b', c, c', d, d') refl

-- nothing noted is no read
pub none_noted : reads_in 0 ≡ told []
unfolding reads_in reads_of read_for told
none_noted = refl
