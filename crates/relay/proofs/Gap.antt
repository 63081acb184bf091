-- A gap is told one tick a call, and the ticks are those that the grammar tells. Assumes nothing.
use Prim.Native.Nat.{ℕ, suc, ◌+◌, ◌-◌, ◌<◌}
use mathlib.Core.Path.{◌≡◌, refl, sym, ◌∙◌, ap}
use mathlib.Core.List.{List, [], ◌∷◌, ◌++◌}
use native.Mathlib.Omega.{arith}
use native.Mathlib.Numerals.{add-one}
use lib.Dec.{ltb}
use borrow.Author.Tests.{lt-ltb}
use Rattle.grammar.specs.declared.Head.{Head}
use Rattle.grammar.specs.Reading.{later, Said, Tick, repeated, told_by, told}
use Rattle.intake.specs.declared.Reader.{Reader}
use Rattle.intake.specs.declared.Said.TheVariants as say
use Rattle.intake.specs.Answers.{tell_of, next_tick, answer_of}

next_time_lem : (t m : ℕ) → t < m → m < 18446744073709551616 → later t ≡ suc t
unfolding later
next_time_lem t m h k = simp (lt-ltb t 18446744073709551615 (omega arith)) (add-one t)

-- what waits to be told is the tick at hand, and then what waits after it
pub one_tick : (h : Head) (item : ℕ) → h.time < h.mark → h.mark < 18446744073709551616
    → repeated (h.mark - h.time) h.time h.values h.unknown ≡ Tick h.time h.values h.unknown ∷ repeated (h.mark - later h.time) (later h.time) h.values h.unknown
unfolding repeated
one_tick h item less small =
    ap (λ (n : ℕ). repeated n h.time h.values h.unknown) (let z : h.mark - h.time ≡ suc (h.mark - suc h.time) = omega arith in z)
    ∙ ap (λ (t : ℕ). Tick h.time h.values h.unknown ∷ repeated (h.mark - t) t h.values h.unknown) (let z : suc h.time ≡ later h.time = sym (next_time_lem h.time h.mark less small) in z)

-- and a call answers that tick, and leaves the rest
pub one_call : (r : Reader) (at : ℕ) → r.head.time < r.head.mark → answer_of r at ≡ tell_of say.Tick r (next_tick r.head) at
unfolding answer_of
one_call r at less = simp (lt-ltb r.head.time r.head.mark less)
