use Prim.Native.Nat.{ℕ, ◌+◌, ◌-◌, ◌%◌}
use mathlib.Core.Path.{sym, ap, ◌∙◌}
use mathlib.Core.List.{[], ◌∷◌, ◌++◌}
use Rattle.std.proofs.Common.{nat_lt}
use native.Mathlib.Omega.{arith}
use Rattle.line.specs.Text.{digits_of}
use Rattle.line.proofs.Join.{on, named_as}
use Rattle.line.proofs.Numerals.{one_digit, more_digits, some_more}
use Rattle.line.proofs.+digits.Goals as goal

pub returns-then-more-n : goal.returns-then-more-n
returns-then-more-n t c =
    let digit = ap (λ (d : ℕ). (48 + d) ∷ []) (sym c.digit_in.ensures) in
    (omega (arith, c.byte.ensures.0), named_as (one_digit _ _ _ c.if-more-n.true ∙ digit) c.byte.ensures.1)

pub returns : goal.returns
returns t c =
    let before = ap (λ (q : ℕ). digits_of c.args.base (c.args.more - 1) q ++ ((48 + c.args.n % c.args.base) ∷ [])) (sym c.over.ensures) in
    let digit = ap (λ (d : ℕ). digits_of c.args.base (c.args.more - 1) c.over.result ++ ((48 + d) ∷ [])) (sym c.digit_in-2.ensures) in
    (omega (arith, c.digits-a.ensures.0, c.byte-2.ensures.0, some_more c.args.more (nat_lt c.args.n c.args.base) c.if-more-n.false), named_as (more_digits _ _ _ c.if-more-n.false ∙ before ∙ digit) (on c.digits-a.ensures.1 c.byte-2.ensures.1))
