-- Worked out over the nineteen places at which a sprite asks, by one computed test; past them none does.
use Prim.Native.Nat.{◌-◌, ◌*◌, ◌/◌, ◌%◌, ◌^◌}
use native.Mathlib.Omega.{arith}
use borrow.Author.Tests.{lt-leb}
use Rattle.laws.proofs.Below.{same}
use Rattle.schedule.specs.Machinery.Places.{asking_at}
use Rattle.schedule.proofs.asking.Goals as goal

pub returns-then-place-ge-PLACES : goal.returns-then-place-ge-PLACES
unfolding asking_at
returns-then-place-ge-PLACES c =
    simp (lt-leb c.args.place 4 (omega arith), lt-leb c.args.place 6 (omega arith), lt-leb c.args.place 8 (omega arith), lt-leb c.args.place 10 (omega arith), lt-leb c.args.place 12 (omega arith), lt-leb c.args.place 14 (omega arith), lt-leb c.args.place 16 (omega arith), lt-leb c.args.place 18 (omega arith))

pub returns : goal.returns
unfolding asking_at
returns c = same (λ t. (7 - t % 2) * 2 ^ (t / 2) % 65536 / 4 % 256) asking_at 19 tt c.args.place (omega arith)
