use Rattle.std.proofs.lemmas.Iterator.{YieldsList-from_slice}
use Rattle.std.proofs.lemmas.Iterator.Search.{all_from_yields_List}
use Rattle.std.proofs.Common.{rules, tests, ltb}
use Rattle.versions.proofs.are_flags.Goals as goal

pub returns : goal.returns
returns c =
    all_from_yields_List (λ b. ltb b 2) _ _ _ c.all.ensures.ran (YieldsList-from_slice c.args.bytes.now cc) (λ x b q k. search (rules, tests))
