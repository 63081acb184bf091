use mathlib.Core.Path.{sym, ◌∙◌}
use Rattle.schedule.proofs.Parts.{no_request}
use Rattle.arbitration.proofs.Kept.{matrix_alone}
use Rattle.schedule.specs.Kind.{kind_of}
use Rattle.side.proofs.asked_lit.Goals as goal

pub returns-then-early : goal.returns-then-early
returns-then-early c =
    matrix_alone c.args.ba c.args.dma _ (no_request (kind_of c.args.kind) c.args.cycle c.requires (sym c.early.ensures ∙ c.if-early.true))

pub returns : goal.returns
returns c = rw (← c.mask.ensures) c.request.ensures
