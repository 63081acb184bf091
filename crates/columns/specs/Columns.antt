-- What the forty columns of a line go by, in the numbers of one call. No rules: `lines` has them.
use Rattle.std.specs.Prelude.{ℕ, ◌+◌, Bool, cond, List, eqb, ℤ}
use Rattle.laws.specs.Clock.{InRange}
use Rattle.memory.specs.declared.Host.{Host}
use Rattle.arbitration.specs.Bus.{clock_on}
use Rattle.access.specs.Matrix.{matrix_entry}
use Rattle.access.specs.Merge.{since_of}
use Rattle.lines.specs.Columns.{column_cycle}
use Rattle.columns.specs.declared.Hidden.{Hidden}

-- output shut off in column 0, in column 1, and from column 2 on
unfoldable pub hidden_by : Bool → Bool → Bool → ℕ → Bool
hidden_by first second rest j = cond (eqb j 0) first (cond (eqb j 1) second rest)

abbrev pub hides : Hidden → ℕ → Bool
hides h = hidden_by h.first h.second h.rest

-- cycles since a forced bad line, in column j
abbrev pub since_in : ℤ → ℤ → ℕ → ℕ
since_in clock forced j = since_of (clock_on (column_cycle j) clock) forced

-- the word of the video matrix in column j
abbrev pub word_in : List ℕ → List ℕ → List ℕ → ℕ → ℕ → ℕ → ℕ → ℕ
word_in ram rom colour bank ptrs base j = (matrix_entry ram rom colour bank ptrs (base + j)).word

abbrev pub lent_word : Host → ℕ → ℕ → ℕ → ℕ
lent_word h = word_in h.memory.ram.now h.memory.rom.now h.colour.now h.memory.bank

-- 01, States we accept: the clock before a line whose last column is in range too, and the forced bad line's
pub record Clocks (clock forced : ℤ) : Type 0 where
  pub before : InRange clock
  pub last : InRange (clock_on (column_cycle 39) clock)
  pub late : InRange forced

-- the character that is shown last: of place 0, of place 1, of the last one, or the one before the line
abbrev pub last_shown : Bool → Bool → Bool → ℕ → ℕ → ℕ → ℕ → ℕ
last_shown first second rest ch zeroth next last = cond rest (cond second (cond first ch zeroth) next) last
