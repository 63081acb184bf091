-- One step of a run file, on a chip and the bank.
use Rattle.std.specs.Prelude.{ℕ, []}
use Rattle.memory.specs.Lent.{Host}
use Rattle.script.specs.declared.Step.{Step}
use Rattle.script.specs.declared.Step.TheVariants as step
use Rattle.access.specs.Reads.{told}
use Rattle.chip.specs.declared.Chip.{Chip}
use Rattle.chip.specs.declared.Answer.{Answer}
use Rattle.sequencer.specs.Tick.{ticked}
use Rattle.calls.specs.Calls.{register_written, expand_at, compares_by, control1_written, control2_written, controls_placed, late_taken}
use Rattle.run.specs.declared.Done.{Done}

-- what a call answers, the bank as it was; 02 (viii): a tick's reads with it
abbrev pub from_answer : Answer → ℕ → Done
from_answer a bank = record { refused = a.refused; chip = a.chip; bank = bank; reads = a.reads }

-- no step but a tick reads
abbrev pub from_chip : Chip → ℕ → Done
from_chip c bank = record { refused = 0; chip = c; bank = bank; reads = told [] }

-- 01, Run file: the kinds, each the call that it stands for
unfoldable pub done_of : Host → Chip → Step → Done
done_of h c step.Tick = from_answer (ticked h c) h.bank
done_of h c (step.Write address value) = from_chip (register_written c address value) h.bank
-- 01, Run file kind 2: at the present cycle
done_of h c (step.Expand value) = from_chip (expand_at c value) h.bank
done_of h c (step.Controls ctrl1 ctrl2 compare) = from_answer (controls_placed c ctrl1 ctrl2 compare) h.bank
done_of h c (step.Late value) = from_answer (late_taken c value) h.bank
done_of h c step.Borders = from_chip (compares_by c) h.bank
done_of h c (step.Bank bank) = from_chip c bank
-- 02 (vi): the writes with their effects
done_of h c (step.Control1 value) = from_chip (control1_written c value) h.bank
done_of h c (step.Control2 value) = from_chip (control2_written c value) h.bank
