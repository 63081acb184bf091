use lib.Count.{ones, ones_in}
use borrow.Author.Rules.{rules}
use Rattle.laws.proofs.Below.{same}
use Rattle.laws.specs.Bits.{ones_below, has_bit}
use Rattle.schedule.specs.Requests.{sprites_in}
use Rattle.schedule.proofs.sprites_in.Goals as goal

pub returns : goal.returns
unfolding ones ones_in sprites_in ones_below has_bit
returns c = same ones sprites_in 256 tt c.args.dma (search rules)
