use native.Mathlib.Omega.{arith}
use Rattle.line.proofs.Join.{named_as}
use Rattle.ledger.proofs.Words.{four}
use Rattle.ledger.proofs.address.Goals as goal

pub returns : goal.returns
returns c =
    (omega (arith, c.text.ensures.0), named_as (four c.args.n c.args.end c.hex.ensures c.hex-2.ensures c.hex-3.ensures c.hex-4.ensures) c.text.ensures.1)
