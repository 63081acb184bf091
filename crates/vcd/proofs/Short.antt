-- How long a piece is: the declarations are the longest. Assumes nothing.
use Prim.Native.Nat.{ℕ, zero, suc, ◌+◌, ◌-◌, ◌/◌, ◌%◌, ◌≤◌, ◌<◌}
use mathlib.Core.Path.{◌≡◌, refl, subst}
use mathlib.Core.Bool.{Bool, true, false, cond, ◌||◌, not}
use mathlib.Core.List.{List, [], ◌∷◌, ◌++◌}
use native.Mathlib.Omega.{arith}
use lib.Dec.{eqb, ltb}
use lib.ListN.{length, length-append}
use borrow.Author.Tests.{lt-ltb}
use Rattle.laws.proofs.Choice.{either}
use Rattle.line.specs.Text.{ascii, text_of}
use Rattle.vcd.specs.declared.Record.{Record}
use Rattle.vcd.specs.declared.Wave.{Wave}
use Rattle.vcd.specs.Signals.{all_of}
use Rattle.vcd.specs.Text.{declarations, digits_of, value_text, changes_text, mark_text, first_text, later_text, refusal_text, time_of, piece_of}
use Rattle.vcd.specs.Machinery.Steps.{part_text, beam_text, rest_text}
use Rattle.vcd.proofs.Pieces.{all_values, changed_values}

pub digits_few : (b more n : ℕ) → length (digits_of b more n) ≤ more + 1
unfolding digits_of
digits_few b zero n = omega arith
digits_few b (suc more) n =
    either (λ (l : List ℕ). length l ≤ suc more + 1) (ltb n b) (omega arith)
    (omega (arith, length-append (digits_of b more (n / b)) ((48 + n % b) ∷ []), digits_few b more (n / b)))

-- the bytes of a signal's line
abbrev room : ℕ → ℕ
room bits = cond (eqb bits 1) 3 (bits + 4)

value_few : (k bits v : ℕ) (one : Bool) → 0 < bits → length (cond one ((48 + v % 2) ∷ (65 + k) ∷ 10 ∷ []) (98 ∷ (digits_of 2 (bits - 1) v ++ (32 ∷ (65 + k) ∷ 10 ∷ [])))) ≤ cond one 3 (bits + 4)
value_few k bits v true h = omega arith
value_few k bits v false h = omega (arith, length-append (digits_of 2 (bits - 1) v) (32 ∷ (65 + k) ∷ 10 ∷ []), digits_few 2 (bits - 1) v)

part_few : (k bits : ℕ) (all : Bool) (x y : ℕ) → 0 < bits → length (part_text k bits all x y) ≤ room bits
unfolding part_text value_text
part_few k bits all x y h =
    either (λ (l : List ℕ). length l ≤ room bits) (all || not (eqb x y)) (value_few k bits y (eqb bits 1) h) (omega arith)

values_few : (all : Bool) (was r : Record) → length (beam_text all was r ++ rest_text all was r) ≤ 66
unfolding beam_text rest_text
values_few all was r =
    let a = part_few 0 7 all was.cycle r.cycle (omega arith) in
    let b = part_few 1 9 all was.raster r.raster (omega arith) in
    let c = part_few 2 1 all was.ba r.ba (omega arith) in
    let d = part_few 3 1 all was.aec r.aec (omega arith) in
    let e = part_few 4 8 all was.dma r.dma (omega arith) in
    let f = part_few 5 3 all was.rc r.rc (omega arith) in
    let g = part_few 6 10 all was.vc r.vc (omega arith) in
    let h = part_few 7 1 all was.irq r.irq (omega arith) in
    simp length-append (omega (arith, a, b, c, d, e, f, g, h))

-- 02 (i), 13: the longest piece is 292 bytes, and is reached
pub declarations_292 : length declarations ≡ 292
unfolding declarations ascii
declarations_292 = refl

pub first_at_most_84 : (r : Record) → length (first_text r) ≤ 84
unfolding first_text ascii
first_at_most_84 r =
    let v = subst (λ (l : List ℕ). length l ≤ 66) (all_values r r) (values_few true r r) in
    omega (arith, v, length-append (changes_text (all_of r)) (36 ∷ 101 ∷ 110 ∷ 100 ∷ 10 ∷ []))

pub later_at_most_88 : (t : ℕ) (was r : Record) → length (later_text t was r) ≤ 88
unfolding later_text mark_text
later_at_most_88 t was r =
    let v = subst (λ (l : List ℕ). length l ≤ 66) (changed_values was r) (values_few false was r) in
    simp length-append (omega (arith, v, digits_few 10 19 t))

number_few : (n end : ℕ) → n < 1000 → length (text_of n end) ≤ 4
unfolding text_of
number_few n end h =
    simp (lt-ltb n 1000 h)
    (either (λ (l : List ℕ). length l ≤ 4) (ltb n 10) (omega arith) (either (λ (l : List ℕ). length l ≤ 4) (ltb n 100) (omega arith) (omega arith)))

abbrev AtMost : ℕ → List ℕ → Type 0
AtMost n l = length l ≤ n

steps_few : (n end : ℕ) → length (text_of n end) ≤ 6
unfolding text_of
steps_few n end =
    either (AtMost 6) (ltb n 10) (omega arith) (either (AtMost 6) (ltb n 100) (omega arith) (either (AtMost 6) (ltb n 1000) (omega arith) (either (AtMost 6) (ltb n 10000) (omega arith) (omega arith))))

pub refusal_at_most_34 : (number done : ℕ) → length (refusal_text number done) ≤ 34
unfolding refusal_text ascii
refusal_at_most_34 number done = simp length-append (omega (arith, steps_few number 32, steps_few done 32))

-- a refusal's number is a byte
pub refusal_at_most_32 : (number done : ℕ) → number < 256 → length (refusal_text number done) ≤ 32
unfolding refusal_text ascii
refusal_at_most_32 number done h = simp length-append (omega (arith, number_few number 32 (omega arith), steps_few done 32))

-- so that a tick's piece is never the longest
pub piece_at_most_88 : (w : Wave) (r : Record) → length (piece_of w r) ≤ 88
unfolding piece_of
piece_at_most_88 w r =
    either (λ (l : List ℕ). length l ≤ 88) w.begun (later_at_most_88 (time_of w) w.last r) (omega (arith, first_at_most_84 r))
