-- Counters that go round. Assumes nothing.
use mathlib.Core.Path.{◌≡◌}
use Prim.Native.Nat.{ℕ, ◌+◌, ◌%◌}
use native.Mathlib.Omega.{arith}

pub round40 : (vc : ℕ) → (vc % 1024 + 40) % 1024 ≡ (vc + 40) % 1024
round40 vc = omega arith

pub round1 : (rc : ℕ) → (rc % 8 + 1) % 8 ≡ (rc + 1) % 8
round1 rc = omega arith
