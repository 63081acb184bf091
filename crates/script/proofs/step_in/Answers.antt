use mathlib.Core.Path.{sym, ◌∙◌, ap, subst}
use Prim.Native.Nat.{◌-◌, ◌≤◌}
use native.Mathlib.Omega.{arith}
use lib.ListN.{length, drop}
use Rattle.script.specs.Step.{step_of}
use Rattle.script.specs.Machinery.Cursor.{step_from}
use Rattle.script.proofs.Blocks.{block_inside, block_first}
use Rattle.script.proofs.step_in.Goals as goal

pub in_block-requires : goal.in_block-requires
in_block-requires c =
    (omega arith, c.requires, subst (λ l. length l ≤ 18446744073709551615 - c.args.here.at) (sym c.block-lent.ensures) (block_inside c.args.s.now c.args.here.at c.args.here.left 18446744073709551615 (omega arith)))

pub returns : goal.returns
returns c =
    c.in_block.ensures ∙ ap (λ l. step_from c.args.here (step_of (drop (c.args.here.at - c.args.here.at) l))) c.block-lent.ensures ∙ block_first c.args.s.now c.args.here c.requires
