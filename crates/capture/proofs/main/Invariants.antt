-- From turn to turn the block and the text stay within their buffers.
use Prim.Native.Nat.{◌≤◌}
use Rattle.capture.proofs.main.Given as goal

abbrev pub invariant-loop : goal.invariant-loop
invariant-loop l = (l.w.len ≤ 65536) × (l.w.at ≤ 65536)
