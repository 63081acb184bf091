-- What the programs do with standard input: each file is printed, with a memory of its own that starts 0.
use Rattle.std.specs.Prelude.{◌≡◌, ℕ, ◌≤◌, List, length, replicate}
use Rattle.std.specs.Fn.{Once, Mut, Called}
use Rattle.std.specs.List.{FoldsTo}
use denote.Ref.{Bor, MutBor}
use Rattle.sheet.specs.declared.Desk.{Desk}

-- a run's memory before its first step
pub record Fresh (desk : Desk) : Type 0 where
  pub ram : desk.ram ≡ replicate 16384 0
  pub rom : desk.rom ≡ replicate 4096 0
  pub colour : desk.colour ≡ replicate 1024 0

-- a file of at most so many bytes, and a fresh desk
pub record Lent (most : ℕ) (file : List ℕ) (desk : Desk) : Type 0 where
  pub within : length file ≤ most
  pub fresh : Fresh desk

-- printing one such file may give r
pub record Printed {F R : Type 0} (g : Once F (Bor (List ℕ) × (MutBor Desk × Unit {0})) (R × (MutBor Desk × Unit {0}))) (most : ℕ) (print : F) (r : R) : Type 0 where
  pub file : Bor (List ℕ)
  pub desk : MutBor Desk
  pub lent : Lent most file.now desk.now
  pub left : MutBor Desk
  pub met : g.post print (file, (desk, tt)) (r, (left, tt))

module _ {F : Type 0} (g : Mut F (Bor (List ℕ) × (MutBor Desk × Unit {0})) (Unit {0} × (MutBor Desk × Unit {0}))) (most : ℕ) where
  -- the printer as printing this file may leave it
  pub record PrintedNext (print : F) (file : List ℕ) (after : F) : Type 0 where
    pub shown : Bor (List ℕ)
    pub shows : shown.now ≡ file
    pub desk : MutBor Desk
    pub lent : Lent most file desk.now
    pub left : MutBor Desk
    pub called : Called g print (shown, (desk, tt)) (tt, (left, tt)) after

  -- and so many files, one after the other
  pub record PrintedAll (n : ℕ) (print after : F) : Type 0 where
    pub files : List (List ℕ)
    pub count : length files ≡ n
    pub each : FoldsTo PrintedNext print files after
