-- The clocks of a line's columns: all are in range, and what is forty cycles on in the first column is so in each. Assumes nothing.
use Prim.Native.Nat.{ℕ, zero, suc, ◌+◌, ◌-◌, ◌*◌, ◌<◌, ◌≤◌}
use mathlib.Core.Path.{◌≡◌, ap}
use mathlib.Core.Bool.{true, false}
use native.Mathlib.Omega.{arith}
use native.Mathlib.Decide.{dec_lt}
use lib.Dec.{ltb, leb}
use lib.IntN.{ℤ, pos, negsuc, ◌-ℤ◌}
use borrow.Author.Tests.{ltb-true, ltb-false, le-ltb, le-leb}
use Rattle.laws.specs.Clock.{InRange}
use Rattle.laws.proofs.Choice.{by_test}
use Rattle.arbitration.specs.Bus.{clock_on}
use Rattle.arbitration.proofs.Kept.{clock_on_lem}
use Rattle.access.specs.Merge.{up_to40, since_of}
use Rattle.columns.specs.Columns.{since_in, Clocks}

in_range_lem : (j k : ℕ) (z : ℤ) → j ≤ k → InRange z → InRange (clock_on k z) → InRange (clock_on j z)
in_range_lem j k (pos n) l h i = rw (clock_on_lem j n) (omega (arith, rw (clock_on_lem k n) at i))
in_range_lem j k (negsuc n) l h i = absurd h

pub column_clock : (j : ℕ) {clock forced : ℤ} → j < 40 → Clocks clock forced → InRange (clock_on (16 + j) clock) × InRange forced
column_clock j {clock} l c = (in_range_lem (16 + j) 55 clock (omega arith) c.before c.last, c.late)

-- a clock after another one
after : (a b : ℕ) → b ≤ a → pos a -ℤ pos b ≡ pos (a - b)
after a zero l = ap pos (omega arith)
after a (suc b) l = rw (le-ltb a (suc b) l)

far : (a b : ℕ) → b + 42 ≤ a → up_to40 (pos a -ℤ pos b -ℤ pos 2) ≡ 40
far a b l = rw (after a b (omega arith), le-ltb (a - b) 2 (omega arith), le-ltb (a - b - 2) 40 (omega arith))

near_more : (n : ℕ) → n < 42 → up_to40 (pos n -ℤ pos 2) < 40
near_more n l = by_test (λ (z : ℤ). up_to40 z < 40) (ltb n 2) (λ e. omega arith) (λ e. by_test (λ (k : ℕ). k < 40) (ltb (n - 2) 40) (λ f. ltb-true (n - 2) 40 f) (λ f. absurd (omega (arith, ltb-false (n - 2) 40 f))))

near : (a b : ℕ) → a < b + 42 → up_to40 (pos a -ℤ pos b -ℤ pos 2) < 40
near a zero l = near_more (a + 0) (omega arith)
near a (suc b) l = by_test (λ (z : ℤ). up_to40 (z -ℤ pos 2) < 40) (ltb a (suc b)) (λ e. omega arith) (λ e. near_more (a - suc b) (omega (arith, ltb-false a (suc b) e)))

further : (a b k : ℕ) → 40 ≤ up_to40 (pos a -ℤ pos b -ℤ pos 2) → 40 ≤ up_to40 (pos (a + k) -ℤ pos b -ℤ pos 2)
further a b k l = by (dec_lt a (b + 42))
  where
    by : Dec (a < b + 42) → 40 ≤ up_to40 (pos (a + k) -ℤ pos b -ℤ pos 2)
    by (yes h) = absurd (omega (arith, near a b h))
    by (no h) = rw (far (a + k) b (omega arith)) (omega arith)

-- and so it is in every later column
later : (j : ℕ) (clock forced : ℤ) → InRange clock → InRange forced → 40 ≤ since_in clock forced 0 → 40 ≤ since_in clock forced j
unfolding since_of
later j (pos n) (pos m) h i l =
    let e : n + (16 + j) * 2 ≡ n + 32 + j * 2 = omega arith in
    rw (clock_on_lem (16 + j) n, e) (further (n + 32) m (j * 2) (rw (clock_on_lem 16 n) at l))
later j (pos n) (negsuc m) h i l = absurd i
later j (negsuc n) forced h i l = absurd h

pub all_late : {clock forced : ℤ} → Clocks clock forced → ltb (since_in clock forced 0) 40 ≡ false → (j : ℕ) → leb 40 (since_in clock forced j) ≡ true
all_late {clock} {forced} c e j = le-leb 40 (since_in clock forced j) (later j clock forced c.before c.late (ltb-false (since_in clock forced 0) 40 e))
