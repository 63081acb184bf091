-- A block of the steps: how long it is, and that reading in it is reading in the file. Assumes nothing.
use mathlib.Core.Path.{◌≡◌, refl, sym, ◌∙◌, ap, subst}
use mathlib.Core.Bool.{true, false}
use mathlib.Core.List.{List, [], ◌∷◌}
use Prim.Native.Nat.{ℕ, zero, suc, ◌+◌, ◌-◌, ◌*◌, ◌≤◌, ◌<◌}
use native.Mathlib.Omega.{arith}
use Rattle.std.specs.Prelude.{Result, Ok, Err}
use native.Mathlib.Decide.{dec_lt}
use native.Mathlib.Nat.{zero-add, suc-add, le-min, min-le_right}
use lib.Dec.{ltb}
use lib.ListN.{length, take, drop, length-take, length-drop}
use lib.Seq.{take-nil, take_all, get_or-take, drop-drop}
use borrow.Author.Tests.{le-ltb, ltb-true, ltb-false, ne_eqb}
use Rattle.laws.proofs.Choice.{by_test}
use Rattle.script.specs.declared.Step.{Step}
use Rattle.script.specs.declared.Fault.{Fault}
use Rattle.script.specs.declared.Part.{Part}
use Rattle.script.specs.declared.Part.TheVariants as part
use Rattle.script.specs.declared.Cursor.{Cursor}
use Rattle.script.specs.declared.Found.{Found}
use Rattle.script.specs.Step.{step_of}
use Rattle.script.specs.Machinery.Cursor.{step_from, step_read, recorded, at_step, next_of}
use Rattle.script.specs.Machinery.Block.{block_steps, block_len, block_from}

-- 01, Run file: a block is at most 13,107 steps, none more than are left; there is one while steps are left
pub record Lent (left : ℕ) : Type 0 where
  pub bytes : block_len left ≤ 65535
  pub most : block_steps left ≤ left
  pub some : 0 < left → 0 < block_steps left

pub lent : (left : ℕ) → Lent left
unfolding block_steps
lent left =
    let small : ltb left 13107 ≡ true → left < 13107 = ltb-true left 13107 in
    let large : ltb left 13107 ≡ false → 13107 ≤ left = ltb-false left 13107 in
    record {
      bytes = by_test (λ (n : ℕ). n * 5 ≤ 65535) (ltb left 13107) (λ e. omega (arith, small e)) (λ e. omega arith);
      most = by_test (λ (n : ℕ). n ≤ left) (ltb left 13107) (λ e. omega arith) (λ e. omega (arith, large e));
      some = λ h. by_test (λ (n : ℕ). 0 < n) (ltb left 13107) (λ e. omega arith) (λ e. omega arith);
    }

-- a step of a part that is long enough is a step of the whole
long_enough : (n : ℕ) (s : List ℕ) → 5 ≤ n → step_of (take n s) ≡ step_of s
unfolding step_of
long_enough n s h = by_order (dec_lt (length s) 5)
  where
    by_order : Dec (length s < 5) → step_of (take n s) ≡ step_of s
    by_order (yes l) = ap step_of (take_all n s (omega arith))
    by_order (no l) =
        let long : 5 ≤ length (take n s) = rw length-take (le-min h (omega arith)) in
        simp (
          le-ltb (length (take n s)) 5 long,
          le-ltb (length s) 5 (omega arith),
          get_or-take n s 0 0 (omega arith),
          get_or-take n s 1 0 (omega arith),
          get_or-take n s 2 0 (omega arith),
          get_or-take n s 3 0 (omega arith),
          get_or-take n s 4 0 (omega arith),
        )

drop_take : (k m : ℕ) (s : List ℕ) → drop k (take (k + m) s) ≡ take m (drop k s)
drop_take zero m s = ap (λ (n : ℕ). take n s) (zero-add m)
drop_take (suc k) m [] = ap (drop (suc k)) (take-nil (suc k + m)) ∙ sym (take-nil m)
drop_take (suc k) m (x ∷ s) = ap (λ (n : ℕ). drop (suc k) (take n (x ∷ s))) (suc-add k m) ∙ drop_take k m s

-- 01, Run file: each step of a block is the file's step there, and where the file ends early in it, both say so
pub block_reads : (s : List ℕ) (at left i : ℕ) → i < block_steps left → step_of (drop (i * 5) (block_from left (drop at s))) ≡ step_of (drop (at + i * 5) s)
block_reads s at left i h =
    let m = block_len left - i * 5 in
    let all : block_len left ≡ i * 5 + m = omega arith in
    rw (all, drop_take) (long_enough m (drop (i * 5) (drop at s)) (omega arith) ∙ ap step_of (drop-drop (i * 5) at s))

-- a cursor at step i of a block reads there what the file says
in_file : (s : List ℕ) (c : Cursor) (from left i : ℕ) → i < block_steps left → from + i * 5 ≡ c.at → step_from c (step_of (drop (c.at - from) (block_from left (drop from s)))) ≡ step_read s c
unfolding step_read
in_file s c from left i h there =
    let here : c.at - from ≡ i * 5 = omega arith in
    ap (λ (n : ℕ). step_from c (step_of (drop n (block_from left (drop from s))))) here
    ∙ ap (step_from c) (block_reads s from left i h)
    ∙ ap (λ (n : ℕ). step_from c (step_of (drop n s))) there

pub block_first : (s : List ℕ) (c : Cursor) → 0 < c.left → step_from c (step_of (drop (c.at - c.at) (block_from c.left (drop c.at s)))) ≡ step_read s c
block_first s c h = in_file s c c.at c.left 0 ((lent c.left).some h) (omega arith)

-- a block ends no later than the file that it is lent from
pub block_inside : (s : List ℕ) (at left most : ℕ) → length s ≤ most → length (block_from left (drop at s)) ≤ most - at
block_inside s at left most l = simp (length-take, length-drop) (omega (arith, min-le_right (block_len left) (length s - at)))

-- a cursor that goes on in the steps lent from a place on
pub record Within (from left : ℕ) (c : Cursor) : Type 0 where
  pub steps : c.part ≡ part.Steps
  pub fewer : c.left ≤ left
  pub place : c.at + c.left * 5 ≡ from + left * 5

in_steps : (p : Part) (n : ℕ) → at_step p n ≡ true → (p ≡ part.Steps) × (0 < n)
unfolding at_step
in_steps part.Start n e = absurd (let z : ◌≡◌ {A = ℕ} 0 1 = cc in omega arith)
in_steps part.Ram n e = absurd (let z : ◌≡◌ {A = ℕ} 0 1 = cc in omega arith)
in_steps part.Rom n e = absurd (let z : ◌≡◌ {A = ℕ} 0 1 = cc in omega arith)
in_steps part.Colour n e = absurd (let z : ◌≡◌ {A = ℕ} 0 1 = cc in omega arith)
in_steps part.Steps n e = (refl, ltb-true 0 n e)

-- where a step is to come, the block that is lent there begins with it
pub begins : (c : Cursor) → at_step c.part c.left ≡ true → Within c.at c.left c × (0 < c.left)
begins c e =
    let w = in_steps c.part c.left e in
    (record { steps = w.0; fewer = omega arith; place = omega arith }, w.1)

module _ (s : List ℕ) (from left : ℕ) (c : Cursor) (w : Within from left c) (some : 0 < c.left) where
  next_step : next_of s c ≡ step_read s c
  unfolding next_of recorded
  next_step = simp (ne_eqb c.left 0 (λ e. omega arith), w.steps)

  -- 01, Run file: what a block says at a cursor in it is what the file says there
  pub block_next : left < c.left + block_steps left → step_from c (step_of (drop (c.at - from) (block_from left (drop from s)))) ≡ next_of s c
  block_next h = in_file s c from left (left - c.left) (omega (arith, w.fewer)) (omega (arith, w.fewer, w.place)) ∙ sym next_step

  past : (r : Result Step Fault) → Within from left (step_from c r).cursor
  past (Ok step) = record { steps = refl; fewer = omega (arith, w.fewer); place = omega (arith, w.place, some) }
  past (Err fault) = w

  -- and the cursor past it goes on in it
  pub within_on : Within from left (next_of s c).cursor
  unfolding step_read
  within_on = subst (λ (f : Found). Within from left f.cursor) (sym next_step) (past (step_of (drop c.at s)))
