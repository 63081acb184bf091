-- The loop over the steps of a lent block: what is read in the block is what the file says. Assumes nothing.
use Prim.Native.Nat.{ℕ, ◌-◌, ◌≤◌, ◌<◌}
use mathlib.Core.Path.{◌≡◌, sym, ◌∙◌, ap, subst}
use mathlib.Core.Bool.{Bool, true, ◌&&◌}
use mathlib.Core.List.{List}
use native.Mathlib.Omega.{arith}
use lib.Dec.{ltb}
use lib.ListN.{length, drop}
use borrow.Author.Tests.{lt-ltb, ltb-true}
use Rattle.script.specs.declared.Found.{Found}
use Rattle.script.specs.declared.Cursor.{Cursor}
use Rattle.script.specs.Step.{step_of}
use Rattle.script.specs.Machinery.Cursor.{step_from, at_step, next_of}
use Rattle.script.specs.Machinery.Block.{block_steps, block_from}
use Rattle.script.proofs.Blocks.{Within, lent, begins, block_inside, block_next, within_on}
use Rattle.sheet.specs.declared.Run.{Run}
use Rattle.driver.specs.Driver.{Store}
use Rattle.sheet.specs.Sheet.{cursor_at}
use Rattle.sheet.specs.Machinery.Fill.{goes, Gone}
use Rattle.sheet.proofs.Less.{keeps_cursor}
use Rattle.sheet.proofs.Loop.{both, Did, one_turn_lem}

-- it goes on, and steps of the block are left
abbrev pub walks : ℕ → Run → Bool
walks rest r = goes r && ltb rest r.cursor.left

-- at the start they are
pub walks_first : (r : Run) (steps : ℕ) → steps ≡ block_steps r.cursor.left → goes r ≡ true → at_step r.cursor.part r.cursor.left ≡ true → walks (r.cursor.left - steps) r ≡ true
walks_first r steps e g a =
    let some = (begins r.cursor a).1 in
    simp (g, lt-ltb (r.cursor.left - steps) r.cursor.left (omega (arith, (lent r.cursor.left).some some, (lent r.cursor.left).most)))

module _ (s block : List ℕ) (from left steps : ℕ) (r : Run) (block-is : block ≡ block_from left (drop from s)) (steps-are : steps ≡ block_steps left) (w : Within from left r.cursor) (test : walks (left - steps) r ≡ true) where
  pub goes_here : goes r ≡ true
  goes_here = (both (goes r) (ltb (left - steps) r.cursor.left) test).0

  inside : left - steps < r.cursor.left
  inside = ltb-true (left - steps) r.cursor.left (both (goes r) (ltb (left - steps) r.cursor.left) test).1

  pub may_read : (most : ℕ) → length s ≤ most → (from ≤ r.cursor.at) × (0 < r.cursor.left) × (length block ≤ most - from)
  may_read most l =
      (omega (arith, w.place, w.fewer), omega (arith, inside), subst (λ b. length b ≤ most - from) (sym block-is) (block_inside s from left most l))

  module _ (m : Store) (out : List ℕ) (after-m : Store) (next : Run) (after : List ℕ) (found : Found) (read : found ≡ step_from r.cursor (step_of (drop (r.cursor.at - from) block))) where
    in_file : found ≡ next_of s r.cursor
    in_file =
        read
        ∙ ap (λ b. step_from r.cursor (step_of (drop (r.cursor.at - from) b))) block-is
        ∙ block_next s from left r.cursor w (omega (arith, inside)) (omega (arith, inside, (lent left).most))

    pub one_step : Did m r out after-m next after found → Gone s m r out after-m next after
    one_step did = one_turn_lem s m r out after-m next after found in_file goes_here did

    pub step_within : Did m r out after-m next after found → Within from left next.cursor
    step_within did =
        let moved : next.cursor ≡ (next_of s r.cursor).cursor =
        ap (λ (x : Run). x.cursor) did.1.0 ∙ keeps_cursor m (cursor_at r found.cursor) found.item ∙ ap (λ (f : Found). f.cursor) in_file in
        subst (λ (x : Cursor). Within from left x) (sym moved) (within_on s from left r.cursor w (omega (arith, inside)))
