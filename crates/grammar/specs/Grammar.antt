-- A capture, word by word: what each word does to what a reader holds.
use Rattle.std.specs.Prelude.{ℕ, ◌+◌, ◌-◌, ◌%◌, Bool, true, false, ◌&&◌, ◌||◌, not, cond, List, [], ◌∷◌, ◌++◌, eqb, ltb, leb, length, take, drop, set, get_or, Result, Ok, Err}
use Rattle.line.specs.Text.{ascii}
use Rattle.grammar.specs.declared.Digits.{Digits}
use Rattle.grammar.specs.declared.Head.{Head}
use Rattle.grammar.specs.declared.Change.{Change}
use Rattle.grammar.specs.declared.Phase.{Phase}
use Rattle.grammar.specs.declared.Phase.TheVariants.{Heading, Skipping, Kind, Size, Identifier, Name, Closing, Ending, Declared, Body, Aside, Valued, Done, Refused}
use Rattle.grammar.specs.Words.{Word, same, lower}
use Rattle.grammar.specs.Signals.{which_of, width_of, full_of, size_of}
use Rattle.grammar.specs.Values.{none, broken, digits_from}
use Rattle.grammar.specs.Times.{time_of}

-- a declared signal: its identifier, and which of the eight it is, 8 for another
pub record Entry : Type 0 where
  pub id : Word
  pub which : ℕ

abbrev pub entry : Word → ℕ → Entry
entry id k = record { id = id; which = k }

abbrev pub head : Phase → ℕ → List Bool → List ℕ → List ℕ → Bool → ℕ → ℕ → Head
head p n d v u b t m =
    record { phase = p; signals = n; declared = d; values = v; unknown = u; begun = b; time = t; mark = m }

abbrev pub go_to : Head → Phase → Head
go_to h p = head p h.signals h.declared h.values h.unknown h.begun h.time h.mark

-- ---- declarations

-- 02 (xiii), reading 6: sections alone; `$var` declares and `$enddefinitions` ends them, every other is skipped, and an `$end` begins none
unfoldable pub in_heading : Head → Word → Head
in_heading h w =
    cond (same w (ascii "$var")) (go_to h Kind)
    (cond (same w (ascii "$enddefinitions")) (go_to h Ending)
    (cond (same w (ascii "$end")) (go_to h (Refused 14))
    (cond (eqb (get_or w 0 0) 36) (go_to h Skipping) (go_to h (Refused 14)))))

-- 02 (xiii), reading 1: a section goes up to its `$end`
unfoldable pub until_end : Head → Word → Phase → Head
until_end h w next = cond (same w (ascii "$end")) (go_to h next) h

-- IEEE 1364: `$var`, type, size, identifier, name; 02 (xiii), reading 5: one that ends before is malformed
unfoldable pub within : Head → Word → Phase → Head
within h w next = cond (same w (ascii "$end")) (go_to h (Refused 14)) (go_to h next)

-- 02 (xiii), reading 3: the first declaration of a name counts; later ones are signals that we don't know
unfoldable pub ours : List Bool → ℕ → ℕ
ours declared k = cond (ltb k 8) (cond (get_or declared k false) 8 k) 8

-- 02 (xiii): 14, wrong width; 15, the 65th; and 17, an identifier that the lent room doesn't hold. The lower number decides
unfoldable pub fate : ℕ → ℕ → ℕ → Bool → ℕ
fate size k count fits =
    cond (ltb k 8 && not (eqb size (width_of k))) 14 (cond (leb 64 count) 15 (cond fits 0 17))

unfoldable pub more_signals : ℕ → ℕ
more_signals n = cond (ltb n 8) (n + 1) n

-- one of the eight is declared
unfoldable pub declare : Head → ℕ → Head
declare h k =
    cond (ltb k 8)
    (head h.phase (more_signals h.signals) (set h.declared k true) h.values h.unknown h.begun h.time h.mark) h

unfoldable pub judged : Head → ℕ → ℕ → Head
judged h k number = cond (eqb number 0) (go_to (declare h k) Heading) (go_to h (Refused number))

unfoldable pub closing : Head → Word → ℕ → ℕ → ℕ → Bool → Head
closing h w size k count fits = cond (same w (ascii "$end")) (judged h k (fate size k count fits)) h

-- ---- changes

abbrev pub change : List ℕ → List ℕ → Bool → Bool → Change
change v u found fine = record { values = v; unknown = u; found = found; fine = fine }

-- 02 (xiii), reading 8: the value of one of ours, of no more digits than its width; another's is not read
unfoldable pub set_on : Change → Digits → ℕ → Change
set_on c d k =
    cond (ltb k 8)
    (change (set c.values k d.value) (set c.unknown k (d.unknown % (full_of k + 1))) true (c.fine && d.fine && leb d.ones (full_of k)))
    (change c.values c.unknown true c.fine)

unfoldable pub entry_on : Change → Digits → ℕ → Bool → Change
entry_on c d k hit = cond hit (set_on c d k) c

-- 02 (xiii), reading 9: every signal that has the identifier takes the value; one that is longer than the room is nobody's
unfoldable pub changes_on : Change → Digits → Word → Bool → List Entry → Change
changes_on c d id over [] = c
changes_on c d id over (e ∷ more) = changes_on (entry_on c d e.which (not over && same id e.id)) d id over more

-- 02 (xiii), reading 8: an identifier that is not declared, and a value that doesn't fit, are 14
unfoldable pub changed : Head → Change → Head
changed h c =
    cond (c.found && c.fine)
    (head Body h.signals h.declared c.values c.unknown h.begun h.time h.mark)
    (go_to h (Refused 14))

unfoldable pub apply : Head → Digits → Word → Bool → List Entry → Head
apply h d id over table = changed h (changes_on (change h.values h.unknown false true) d id over table)

-- ---- time

-- 02 (xiii), reading 10: an equal mark goes on with the tick; reading 11: the first mark is the first tick
unfoldable pub moved : Head → ℕ → Head
moved h t = head h.phase h.signals h.declared h.values h.unknown true (cond h.begun h.time t) t

-- 02 (xiii): 16, time going back; 17, a time that is longer than the lent room
unfoldable pub timed : Head → ℕ → Bool → Head
timed h t over =
    cond over (go_to h (Refused 17)) (cond (h.begun && ltb t h.mark) (go_to h (Refused 16)) (moved h t))

-- 02 (xiii), reading 10: 14, no time
abbrev pub marked_at : Head → Result ℕ ℕ → Bool → Head
marked_at h (Err digits) over = go_to h (Refused 14)
marked_at h (Ok t) over = timed h t over

unfoldable pub marked : Head → Word → Bool → Head
marked h digits over = marked_at h (time_of digits) over

-- ---- after the declarations

-- 02 (xiii), reading 7
unfoldable pub passed : Word → Bool
passed w =
    same w (ascii "$end") || same w (ascii "$dumpvars") || same w (ascii "$dumpall") || same w (ascii "$dumpon") || same w (ascii "$dumpoff")

unfoldable pub section : Head → Word → Head
section h w = cond (passed w) h (go_to h Aside)

-- 02 (xiii), readings 1 and 8: `#` a time mark, `$` a section, `b` a value whose identifier is the next word, `r` and `s` the like and none of ours;
-- any other word is a change of one digit
unfoldable pub in_body : Head → Word → Bool → List Entry → Head
in_body h w over table =
    let b = lower (get_or w 0 0) in
    cond (eqb b 35) (marked h (drop 1 w) over)
    (cond (eqb b 36) (section h w)
    (cond (eqb b 98) (go_to h (Valued (digits_from none (drop 1 w))))
    (cond (eqb b 114) (go_to h (Valued broken))
    (cond (eqb b 115) (go_to h (Valued broken))
    (apply h (digits_from none (take 1 w)) (drop 1 w) over table)))))

-- ---- a word

unfoldable pub head_by : Phase → Head → Word → Bool → List Entry → Bool → Head
head_by Heading h w over table fits = in_heading h w
head_by Skipping h w over table fits = until_end h w Heading
head_by Kind h w over table fits = within h w Size
head_by Size h w over table fits = within h w (Identifier (size_of w))
head_by (Identifier size) h w over table fits = within h w (Name size)
head_by (Name size) h w over table fits = within h w (Closing size (ours h.declared (which_of w)))
head_by (Closing size k) h w over table fits = closing h w size k (length table) fits
head_by Ending h w over table fits = until_end h w Declared
head_by Declared h w over table fits = h
head_by Body h w over table fits = in_body h w over table
head_by Aside h w over table fits = until_end h w Body
head_by (Valued d) h w over table fits = apply h d w over table
head_by Done h w over table fits = h
head_by (Refused n) h w over table fits = h

-- what a reader holds: the head; of the `$var` at hand the identifier and whether the pool holds it; the table, and the bytes left in the pool
pub record State : Type 0 where
  pub head : Head
  pub id : Word
  pub fits : Bool
  pub table : List Entry
  pub left : ℕ

abbrev pub state : Head → Word → Bool → List Entry → ℕ → State
state h id fits table left = record { head = h; id = id; fits = fits; table = table; left = left }

abbrev pub with_head : State → Head → State
with_head s h = state h s.id s.fits s.table s.left

-- a `$var` that is refused by nothing is entered
unfoldable pub entered : State → Head → ℕ → ℕ → Bool → State
entered s h size k ends =
    cond (ends && eqb (fate size k (length s.table) s.fits) 0)
    (state h s.id s.fits (s.table ++ (entry s.id k ∷ [])) (s.left - length s.id))
    (with_head s h)

unfoldable pub listed : Phase → State → Head → Word → Bool → State
listed (Identifier size) s h w over = state h w (not over && leb (length w) s.left) s.table s.left
listed (Closing size k) s h w over = entered s h size k (same w (ascii "$end"))
listed Heading s h w over = with_head s h
listed Skipping s h w over = with_head s h
listed Kind s h w over = with_head s h
listed Size s h w over = with_head s h
listed (Name size) s h w over = with_head s h
listed Ending s h w over = with_head s h
listed Declared s h w over = with_head s h
listed Body s h w over = with_head s h
listed Aside s h w over = with_head s h
listed (Valued d) s h w over = with_head s h
listed Done s h w over = with_head s h
listed (Refused n) s h w over = with_head s h

-- a word, as far as the room holds it, and whether it is longer
unfoldable pub step_by : State → Word → Bool → State
step_by s w over =
    listed s.head.phase s (head_by s.head.phase s.head w over s.table s.fits) w over

unfoldable pub step : ℕ → State → Word → State
step room s w = step_by s (take room w) (ltb room (length w))
