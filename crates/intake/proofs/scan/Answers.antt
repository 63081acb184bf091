use Prim.Native.Nat.{ℕ, ◌+◌, ◌-◌}
use lib.ListN.{drop}
use mathlib.Core.Path.{◌≡◌, refl, sym, ◌∙◌, ap}
use native.Mathlib.Omega.{arith}
use Rattle.intake.specs.Machine.{Machine, machine, scan, scan_of}
use Rattle.intake.proofs.Fit.{scan_next, scan_stops, scan_over}
use Rattle.intake.proofs.scan.Goals as goal

pub loop-i-init : goal.loop-i-init
loop-i-init c = (refl, omega arith)

pub returns-then-busy : goal.returns-then-busy
returns-then-busy c = sym (c.loop-i.invariant.0 ∙ scan_stops _ _ _ c.loop-i-test.true (sym c.busy.ensures ∙ c.if-busy.true))

pub loop-i-preserved : goal.loop-i-preserved
loop-i-preserved c = (c.loop-i.invariant.0 ∙ scan_next _ c.args.text.now c.loop-i.i c.loop-i-test.true (sym c.busy.ensures ∙ c.if-busy.false) ∙ ap (λ (m : Machine). scan_of m (drop (c.loop-i.i + 1) c.args.text.now) (c.loop-i.i + 1)) (sym c.byte-r.ensures), omega (arith, c.loop-i.invariant.1, c.loop-i-test.true, c.loop-i.auto.i))

pub returns : goal.returns
returns c =
    let at : c.max-at.result ≡ c.loop-i.i = omega (arith, c.max-at.ensures, c.loop-i.invariant.1, c.loop-i-test.false, c.loop-i.auto.i) in
    ap (λ (n : ℕ). scan (machine c.loop-i.r c.loop-i.room c.loop-i.pool) n) at ∙ sym (c.loop-i.invariant.0 ∙ scan_over _ _ _ c.loop-i-test.false)
