-- A part laid into bytes.
use Rattle.std.specs.Prelude.{ℕ, ◌≡◌, List, ◌++◌, length, take}

-- How a part is written: it stands from `at` to `end` behind what was there, and the whole is as long as before. What lies behind `end` is left open.
pub record Put (before after : List ℕ) (at end : ℕ) (part : List ℕ) : Type 0 where
  pub size : length after ≡ length before
  pub front : take end after ≡ take at before ++ part
