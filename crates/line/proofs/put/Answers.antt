use native.Mathlib.Omega.{arith}
use Rattle.line.proofs.Join.{on, named_as, text1, text2, text3, text4, text5}
use Rattle.line.proofs.put.Goals as goal

pub returns-then-n-lt10 : goal.returns-then-n-lt10
returns-then-n-lt10 c =
    (omega (arith, c.last.ensures.0), named_as (text1 _ _ c.if-n-lt10.true) c.last.ensures.1)

pub returns-then-n-lt100 : goal.returns-then-n-lt100
returns-then-n-lt100 c =
    (omega (arith, c.digit-a.ensures.0, c.last-then-n-lt100.ensures.0), named_as (text2 _ _ c.if-n-lt10.false c.if-n-lt100.true) (on c.digit-a.ensures.1 c.last-then-n-lt100.ensures.1))

pub returns-then-n-lt1000 : goal.returns-then-n-lt1000
returns-then-n-lt1000 c =
    (omega (arith, c.digit-a-then-n-lt1000.ensures.0, c.digit-b.ensures.0, c.last-then-n-lt1000.ensures.0), named_as (text3 _ _ c.if-n-lt10.false c.if-n-lt100.false c.if-n-lt1000.true) (on c.digit-a-then-n-lt1000.ensures.1 (on c.digit-b.ensures.1 c.last-then-n-lt1000.ensures.1)))

pub returns-then-n-lt10000 : goal.returns-then-n-lt10000
returns-then-n-lt10000 c =
    (omega (arith, c.digit-a-then-n-lt10000.ensures.0, c.digit-b-then-n-lt10000.ensures.0, c.digit-c.ensures.0, c.last-then-n-lt10000.ensures.0), named_as (text4 _ _ c.if-n-lt10.false c.if-n-lt100.false c.if-n-lt1000.false c.if-n-lt10000.true) (on c.digit-a-then-n-lt10000.ensures.1 (on c.digit-b-then-n-lt10000.ensures.1 (on c.digit-c.ensures.1 c.last-then-n-lt10000.ensures.1))))

pub returns : goal.returns
returns c =
    (omega (arith, c.digit-a-2.ensures.0, c.digit-b-2.ensures.0, c.digit-c-2.ensures.0, c.digit-d.ensures.0, c.last-2.ensures.0), named_as (text5 _ _ c.if-n-lt10.false c.if-n-lt100.false c.if-n-lt1000.false c.if-n-lt10000.false) (on c.digit-a-2.ensures.1 (on c.digit-b-2.ensures.1 (on c.digit-c-2.ensures.1 (on c.digit-d.ensures.1 c.last-2.ensures.1)))))
