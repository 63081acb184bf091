-- The files of a bundle, one after the other.
use Rattle.std.proofs.Common.{◌≡◌, ℕ, ◌+◌, ◌-◌, ◌≤◌, List, [], ◌∷◌, ◌++◌, length, refl, arith, Bor, MutBor}
use lib.ListN.{length-append}
use Rattle.std.specs.Fn.{Mut}
use Rattle.std.proofs.lemmas.Fn.{FoldsTo-push}
use Rattle.sheet.specs.declared.Desk.{Desk}
use Rattle.sheet.specs.Desk.{PrintedNext, PrintedAll}

module _ {F : Type 0} (g : Mut F (Bor (List ℕ) × (MutBor Desk × Unit {0})) (Unit {0} × (MutBor Desk × Unit {0}))) (most : ℕ) where
  pub one_printed : (number : ℕ) (print now after : F) (file : List ℕ) → PrintedAll g most (number - 1) print now → 1 ≤ number → PrintedNext g most now file after → PrintedAll g most (number + 1 - 1) print after
  one_printed number print now after file before some next = record {
    files = before.files ++ (file ∷ []);
    count = omega (arith, length-append before.files (file ∷ []), before.count, some);
    each = FoldsTo-push (PrintedNext g most) print before.files now file after before.each next;
  }
