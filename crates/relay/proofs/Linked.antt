-- A word that is over does to a reader's head what the grammar says, where the reader stands where the grammar does. Assumes nothing.
use Prim.Native.Nat.{ℕ}
use mathlib.Core.Path.{◌≡◌, refl, sym, ◌∙◌, ap}
use mathlib.Core.Bool.{Bool, true, false, ◌&&◌, cond}
use mathlib.Core.List.{List, [], ◌∷◌}
use lib.Dec.{eqb, ltb}
use lib.ListN.{length, take}
use Rattle.laws.proofs.Choice.{either}
use Rattle.line.specs.Text.{ascii}
use Rattle.grammar.specs.declared.Head.{Head}
use Rattle.grammar.specs.declared.Phase.{Phase}
use Rattle.grammar.specs.declared.Phase.TheVariants.{Heading, Skipping, Kind, Size, Identifier, Name, Closing, Ending, Declared, Body, Aside, Valued, Done, Refused}
use Rattle.grammar.specs.Words.{Word, same}
use Rattle.grammar.specs.Grammar.{Entry, head_by, State, fate, entered, listed, step_by, step}
use Rattle.phrase.specs.Table.{part_of, table_of}
use Rattle.intake.specs.Machine.{Machine, step_of}

entered_head : (s : State) (h : Head) (size k : ℕ) (ends : Bool) → (entered s h size k ends).head ≡ h
unfolding entered
entered_head s h size k ends = either (λ (x : State). x.head ≡ h) (ends && eqb (fate size k (length s.table) s.fits) 0) refl refl

listed_head : (p : Phase) (s : State) (h : Head) (w : Word) (over : Bool) → (listed p s h w over).head ≡ h
unfolding listed
listed_head Heading s h w over = refl
listed_head Skipping s h w over = refl
listed_head Kind s h w over = refl
listed_head Size s h w over = refl
listed_head (Identifier size) s h w over = refl
listed_head (Name size) s h w over = refl
listed_head (Closing size k) s h w over = entered_head s h size k (same w (ascii "$end"))
listed_head Ending s h w over = refl
listed_head Declared s h w over = refl
listed_head Body s h w over = refl
listed_head Aside s h w over = refl
listed_head (Valued d) s h w over = refl
listed_head Done s h w over = refl
listed_head (Refused n) s h w over = refl

-- the reader holds what the grammar's state holds, and the room the word, as far as it goes
pub record Stands (room : ℕ) (m : Machine) (s : State) (w : Word) : Type 0 where
  pub head : m.reader.head ≡ s.head
  pub fits : m.reader.table.fits ≡ s.fits
  pub table : table_of m.reader.table m.pool ≡ s.table
  pub text : part_of m.room 0 m.reader.word.len ≡ take room w
  pub over : m.reader.word.over ≡ ltb room (length w)

pub head_linked : (room : ℕ) (m : Machine) (s : State) (w : Word) → Stands room m s w → (step_of m).reader.head ≡ (step room s w).head
unfolding step_of step step_by
head_linked room m s w k =
    let r = m.reader in
    ap (λ (h : Head). head_by h.phase h (part_of m.room 0 r.word.len) r.word.over (table_of r.table m.pool) r.table.fits) k.head
    ∙ ap (λ (t : Word). head_by s.head.phase s.head t r.word.over (table_of r.table m.pool) r.table.fits) k.text
    ∙ ap (λ (o : Bool). head_by s.head.phase s.head (take room w) o (table_of r.table m.pool) r.table.fits) k.over
    ∙ ap (λ (t : List Entry). head_by s.head.phase s.head (take room w) (ltb room (length w)) t r.table.fits) k.table
    ∙ ap (λ (f : Bool). head_by s.head.phase s.head (take room w) (ltb room (length w)) s.table f) k.fits
    ∙ sym (listed_head s.head.phase s (head_by s.head.phase s.head (take room w) (ltb room (length w)) s.table s.fits) (take room w) (ltb room (length w)))
