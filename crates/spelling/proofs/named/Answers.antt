use mathlib.Core.Path.{sym, ◌∙◌, ap}
use mathlib.Core.List.{[]}
use Rattle.std.proofs.lemmas.Slice.Zip.{Zip-more, either_empty_from_Zip}
use Rattle.grammar.specs.Words.{Word, same, name_of}
use Rattle.spelling.proofs.Alike.{short, other, alike, fewer, left, named_out}
use Rattle.spelling.proofs.named.Goals as goal

pub returns-then-word-name : goal.returns-then-word-name
returns-then-word-name c = sym (short _ _ c.if-word-name.true)

pub returns-then-differs : goal.returns-then-differs
returns-then-differs c =
    let p = Zip-more c.loop-b.b-iterator c.next.new.self _ _ c.in-Some.is c.next.ensures.steps in
    sym (c.loop-b.invariant.1 ∙ other _ _ _ _ _ _ p.0 p.1 _ c.differs.ensures c.if-differs.true)

pub loop-b-preserved : goal.loop-b-preserved
loop-b-preserved c =
    let p = Zip-more c.loop-b.b-iterator c.next.new.self _ _ c.in-Some.is c.next.ensures.steps in
    (fewer _ _ _ _ _ _ p.0 p.1 c.loop-b.invariant.0, c.loop-b.invariant.1 ∙ alike _ _ _ _ _ _ p.0 p.1 _ c.differs.ensures c.if-differs.false, c.loop-b.invariant.2 ∙ left _ _ _ _ _ _ p.0 p.1)

pub returns : goal.returns
returns c =
    let spent = either_empty_from_Zip c.loop-b.b-iterator c.next.new.self _ c.in-None.is c.next.ensures.steps in
    c.ends.ensures ∙ ap (λ (w : Word). same (name_of w) []) c.loop-b.invariant.2 ∙ sym (c.loop-b.invariant.1 ∙ named_out _ _ c.loop-b.invariant.0 spent)
