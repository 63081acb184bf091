-- What a reader holds, against what the grammar has read.
use Rattle.std.specs.Prelude.{ℕ, zero, suc, ◌+◌, ◌-◌, ◌≤◌, ◌<◌, ◌≡◌, Bool, true, false, List, ltb, length, take, get_or}
use Rattle.grammar.specs.declared.Head.{Head}
use Rattle.grammar.specs.declared.Phase.{Phase}
use Rattle.grammar.specs.declared.Phase.TheVariants.{Heading, Skipping, Kind, Size, Identifier, Name, Closing, Ending, Declared, Body, Aside, Valued, Done, Refused}
use Rattle.grammar.specs.Grammar.{State}
use Rattle.grammar.specs.Reading.{Reading}
use Rattle.phrase.specs.declared.Table.{Table}
use Rattle.phrase.specs.Table.{part_of, entries_from}
use Rattle.intake.specs.declared.Word.{Word}
use Rattle.intake.specs.Machine.{Machine}

-- the word at hand: as far as the room holds it, and whether it is longer
pub record SameWord (room : List ℕ) (w : Word) (r : Reading) : Type 0 where
  pub len : w.len ≡ length (take (length room) r.text)
  pub text : take w.len room ≡ take (length room) r.text
  pub over : w.over ≡ ltb (length room) (length r.text)
  pub start : w.start ≡ r.start
  pub at : w.at ≡ r.at
  pub item : w.item ≡ r.item

-- after the identifier of a `$var`
unfoldable pub naming : Phase → Bool
naming (Name size) = true
naming (Closing size k) = true
naming Heading = false
naming Skipping = false
naming Kind = false
naming Size = false
naming (Identifier size) = false
naming Ending = false
naming Declared = false
naming Body = false
naming Aside = false
naming (Valued d) = false
naming Done = false
naming (Refused n) = false

-- where the identifier after n entries begins
unfoldable pub last_from : ℕ → ℕ → ℕ → List ℕ → ℕ
last_from zero i from ends = from
last_from (suc n) i from ends = last_from n (i + 1) (get_or ends i 0) ends

-- the table, and the identifier of the `$var` at hand, which stands after those of the table
pub record SameTable (phase : Phase) (t : Table) (pool : List ℕ) (s : State) : Type 0 where
  pub few : t.count ≤ 64
  pub ends : length t.ends ≡ 64
  pub which : length t.which ≡ 64
  pub used : t.used ≤ length pool
  pub below : (i : ℕ) → i < t.count → get_or t.ends i 0 ≤ t.used
  pub last : last_from t.count 0 0 t.ends ≡ t.used
  pub entries : entries_from t.count 0 0 t.ends t.which pool ≡ s.table
  pub left : s.left ≡ length pool - t.used
  pub fits : t.fits ≡ s.fits
  pub held : naming phase ≡ true → t.fits ≡ true → (t.tail ≡ t.used + length s.id) × ((t.tail ≤ length pool) × (part_of pool t.used t.tail ≡ s.id))

-- the tick that is to be told next is not after the mark, which has 64 bits
pub record Sane (h : Head) : Type 0 where
  pub order : h.time ≤ h.mark
  pub small : h.mark ≤ 18446744073709551615

pub record Agrees (room pool : ℕ) (m : Machine) (r : Reading) : Type 0 where
  pub wide : length m.room ≡ room
  pub deep : length m.pool ≡ pool
  pub head : m.reader.head ≡ r.state.head
  pub sane : Sane m.reader.head
  pub word : SameWord m.room m.reader.word r
  pub table : SameTable m.reader.head.phase m.reader.table m.pool r.state
