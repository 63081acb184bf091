use Rattle.vcd.proofs.Short.{refusal_at_most_34}
use native.Mathlib.Omega.{arith}
use Rattle.line.proofs.Copy.{nothing}
use Rattle.tape.specs.Machinery.Tape.{text_by, wave_by}
use Rattle.tape.proofs.told.Goals as goal

pub returns-in-Nothing : goal.returns-in-Nothing
unfolding text_by wave_by
returns-in-Nothing c =
    (omega arith, simp c.in-Nothing.is, simp c.in-Nothing.is (nothing _ _))

pub returns-in-Steps : goal.returns-in-Steps
unfolding text_by wave_by
returns-in-Steps c =
    (omega arith, simp c.in-Steps.is, simp c.in-Steps.is (nothing _ _))

pub returns-in-Tick : goal.returns-in-Tick
unfolding text_by wave_by
returns-in-Tick c =
    (c.tick.ensures.0, simp c.in-Tick.is c.tick.ensures.1, simp c.in-Tick.is c.tick.ensures.2)

pub returns-in-Refused : goal.returns-in-Refused
unfolding text_by wave_by
returns-in-Refused c =
    (omega (arith, c.refused-end.ensures.0, refusal_at_most_34 c.in-Refused.number c.args.run.done), simp c.in-Refused.is, simp c.in-Refused.is (record { place = c.refused-end.ensures.0; text = c.refused-end.ensures.1 }))
