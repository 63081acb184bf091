use Rattle.std.proofs.Common.{◌≡◌, ◌≤◌, drop, length}
use Rattle.std.specs.Iterator.Adapters.{zip_first, zip_second}
use Rattle.std.specs.Slice.Iter.{iter_rest}
use Rattle.grammar.specs.Words.{same, name_of}
use Rattle.spelling.proofs.named.Given as goal

abbrev pub invariant-loop-b : goal.invariant-loop-b
invariant-loop-b l =
    let w = iter_rest (zip_first l.b-iterator) in
    let n = iter_rest (zip_second l.b-iterator) in
    (length n ≤ length w) × (same (name_of l.fn.word) l.fn.name ≡ same (name_of w) n) × (drop (length l.fn.name) l.fn.word ≡ drop (length n) w)
