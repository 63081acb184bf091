-- A reader agrees with the grammar at the start, and is kept so by each byte and by the end of the file. Assumes nothing.
use Prim.Native.Nat.{ℕ, zero, suc, ◌+◌, ◌-◌, ◌≤◌, ◌<◌}
use mathlib.Core.Path.{◌≡◌, refl, sym, ◌∙◌, ap, subst}
use mathlib.Core.Bool.{Bool, true, false, ◌&&◌, not, cond, true≢false}
use mathlib.Core.List.{List, [], ◌∷◌, ◌++◌}
use native.Mathlib.Omega.{arith}
use native.Mathlib.Nat.{not-suc-le-zero}
use lib.Dec.{eqb, ltb}
use lib.ListN.{length, take, drop, length-set}
use lib.Seq.{take-nil}
use borrow.Author.Tests.{le-ltb}
use Rattle.laws.specs.Lists.{zeros}
use Rattle.laws.proofs.Choice.{either}
use Rattle.line.specs.Text.{ascii}
use Rattle.grammar.specs.declared.Head.{Head}
use Rattle.grammar.specs.declared.Phase.{Phase}
use Rattle.grammar.specs.declared.Phase.TheVariants.{Heading, Skipping, Kind, Size, Identifier, Name, Closing, Ending, Declared, Body, Aside, Valued, Done, Refused}
use Rattle.grammar.specs.Words.{same}
use Rattle.grammar.specs.Words as Words
use Rattle.grammar.specs.Grammar.{Entry, entry, State, state, with_head, fate, head_by, entered, listed, step_by, step}
use Rattle.grammar.specs.Reading.{Reading, reading, later, begins, closed, byte_on, start_head, start}
use Rattle.phrase.specs.declared.Table.{Table}
use Rattle.phrase.specs.Table.{part_of, entries_from, table_of}
use Rattle.intake.specs.declared.Word.{Word}
use Rattle.intake.specs.declared.Reader.{Reader}
use Rattle.intake.specs.Machine.{table, word, fresh, reader, Machine, machine, room_of, grown_of, listed_of, pool_of, step_of, closed_of, with_word, white_of, black_of, byte_of}
use Rattle.intake.specs.Answers.{end_of, start_of}
use Rattle.heard.specs.Agrees.{SameWord, naming, last_from, SameTable, Sane, Agrees}
use Rattle.heard.proofs.Heads.{sane_by}
use Rattle.heard.proofs.Listed.{table_alike, on_table, pool_kept_lem}
use Rattle.heard.proofs.Letters.{letter, taken, is_there}

listed_head : (p : Phase) (s : State) (h : Head) (w : Words.Word) (over : Bool) → (listed p s h w over).head ≡ h
unfolding listed entered
listed_head (Closing size k) s h w over =
    either (λ (x : State). x.head ≡ h) (same w (ascii "$end") && eqb (fate size k (length s.table) s.fits) 0) refl refl
listed_head Heading s h w over = refl
listed_head Skipping s h w over = refl
listed_head Kind s h w over = refl
listed_head Size s h w over = refl
listed_head (Identifier size) s h w over = refl
listed_head (Name size) s h w over = refl
listed_head Ending s h w over = refl
listed_head Declared s h w over = refl
listed_head Body s h w over = refl
listed_head Aside s h w over = refl
listed_head (Valued d) s h w over = refl
listed_head Done s h w over = refl
listed_head (Refused n) s h w over = refl

room_kept : (w : Word) (b : ℕ) (room : List ℕ) → length (room_of w b room) ≡ length room
unfolding room_of
room_kept w b room = either (λ (l : List ℕ). length l ≡ length room) (ltb w.len (length room)) (length-set room w.len b) refl

-- no word at hand
no_word : (room : List ℕ) (s : State) (at at' item item' : ℕ) → at ≡ at' → item ≡ item' → SameWord room (fresh at item) (reading s [] at' at' item')
no_word room s at at' item item' e f =
    record {
      len = ap length (sym (take-nil (length room)));
      text = sym (take-nil (length room));
      over = sym (le-ltb (length room) 0 (omega arith));
      start = e;
      at = e;
      item = f;
    }

module _ (R P : ℕ) where
  -- what was told of the end of the file is no part of it
  pub any_end : (m : Machine) (r : Reading) (e : Bool) → Agrees R P m r
      → Agrees R P (machine (reader m.reader.head m.reader.table m.reader.word e) m.room m.pool) r
  any_end m r e a = record { wide = a.wide; deep = a.deep; head = a.head; sane = a.sane; word = a.word; table = a.table }

  module _ (m : Machine) (r : Reading) (a : Agrees R P m r) where
    abbrev s : State
    s = r.state

    abbrev t : Table
    t = m.reader.table

    abbrev w : Word
    w = m.reader.word

    abbrev After : Head → List ℕ → Bool → List Entry → Bool → Machine
    After h text over entries fits =
        machine
        (reader (head_by h.phase h text over entries fits) (listed_of h.phase t text over m.pool) (fresh w.at (cond (begins h.phase) w.start w.item)) m.reader.ended)
        m.room
        (pool_of h.phase t text over m.pool)

    abbrev goal : Reading
    goal = reading (step R s r.text) [] r.at r.at (cond (begins s.head.phase) r.start r.item)

    items : cond (begins s.head.phase) w.start w.item ≡ cond (begins s.head.phase) r.start r.item
    items =
        ap (λ (n : ℕ). cond (begins s.head.phase) n w.item) a.word.start
        ∙ ap (λ (n : ℕ). cond (begins s.head.phase) r.start n) a.word.item

    by_grammar : Agrees R P (After s.head (take R r.text) (ltb R (length r.text)) s.table s.fits) goal
    unfolding step step_by
    by_grammar =
        record {
          wide = a.wide;
          deep = pool_kept_lem s.head.phase t (take R r.text) (ltb R (length r.text)) m.pool ∙ a.deep;
          head = sym (listed_head s.head.phase s (head_by s.head.phase s.head (take R r.text) (ltb R (length r.text)) s.table s.fits) (take R r.text) (ltb R (length r.text)));
          sane = sane_by s.head.phase s.head (take R r.text) (ltb R (length r.text)) s.table s.fits (subst Sane a.head a.sane);
          word = no_word m.room (step R s r.text) w.at r.at (cond (begins s.head.phase) w.start w.item) (cond (begins s.head.phase) r.start r.item) a.word.at items;
          table = on_table t m.pool s s.head (take R r.text) (ltb R (length r.text)) s.head.phase refl
              (subst (λ (h : Head). SameTable h.phase t m.pool s) a.head a.table);
        }

    text_alike : take R r.text ≡ part_of m.room 0 w.len
    text_alike = sym (taken m.room w r a.word ∙ ap (λ (n : ℕ). take n r.text) a.wide)

    over_alike : ltb R (length r.text) ≡ w.over
    over_alike = sym (a.word.over ∙ ap (λ (n : ℕ). ltb n (length r.text)) a.wide)

    -- a word
    stepped : Agrees R P (step_of m) goal
    unfolding step_of
    stepped =
        subst (λ (h : Head). Agrees R P (After h (part_of m.room 0 w.len) w.over (table_of t m.pool) t.fits) goal) (sym a.head)
        (subst (λ (f : Bool). Agrees R P (After s.head (part_of m.room 0 w.len) w.over (table_of t m.pool) f) goal) (sym a.table.fits)
        (subst (λ (l : List Entry). Agrees R P (After s.head (part_of m.room 0 w.len) w.over l s.fits) goal) (sym (table_alike m.reader.head.phase t m.pool s a.table))
        (subst (λ (b : Bool). Agrees R P (After s.head (part_of m.room 0 w.len) b s.table s.fits) goal) over_alike
        (subst (λ (l : List ℕ). Agrees R P (After s.head l (ltb R (length r.text)) s.table s.fits) goal) text_alike by_grammar))))

    both : (x : Bool) → Agrees R P (cond x (step_of m) m) (cond x goal r)
    both true = stepped
    both false = a

    -- the end of a word, if there is one
    pub closed_alike : 0 < R → Agrees R P (closed_of m) (closed R r)
    unfolding closed_of closed
    closed_alike h =
        subst (λ (x : Bool). Agrees R P (cond x (step_of m) m) (closed R r)) (sym (is_there m.room w r a.word (subst (λ (n : ℕ). 0 < n) (sym a.wide) h)))
        (both (ltb 0 (length r.text)))

    spaced : Agrees R P (machine (with_word m.reader (fresh (later w.at) w.item)) m.room m.pool) (reading s [] (later r.at) (later r.at) r.item)
    spaced =
        record {
          wide = a.wide;
          deep = a.deep;
          head = a.head;
          sane = a.sane;
          word = no_word m.room s (later w.at) (later r.at) w.item r.item (ap later a.word.at) a.word.item;
          table = a.table;
        }

    black : (b : ℕ) → Agrees R P (black_of m b) (reading s (r.text ++ (b ∷ [])) r.start (later r.at) r.item)
    unfolding black_of
    black b =
        record {
          wide = room_kept w b m.room ∙ a.wide;
          deep = a.deep;
          head = a.head;
          sane = a.sane;
          word = letter m.room w r b a.word;
          table = a.table;
        }

  module _ (m : Machine) (r : Reading) (a : Agrees R P m r) where
    abbrev White : Machine → Reading → Type 0
    White c d = Agrees R P (machine (with_word c.reader (fresh (later c.reader.word.at) c.reader.word.item)) c.room c.pool) (reading d.state [] (later d.at) (later d.at) d.item)

    white : 0 < R → White (closed_of m) (closed R r)
    white h = spaced (closed_of m) (closed R r) (closed_alike m r a h)

    -- 02 (xiii), reading 1: a byte
    pub byte_alike : 0 < R → (b : ℕ) → Agrees R P (byte_of m b) (byte_on R r b)
    unfolding byte_of byte_on white_of
    byte_alike h b = by_black (ltb 32 b)
      where
        by_black : (x : Bool) → Agrees R P (cond x (black_of m b) (white_of m))
            (cond x (reading r.state (r.text ++ (b ∷ [])) r.start (later r.at) r.item)
            (reading (closed R r).state [] (later (closed R r).at) (later (closed R r).at) (closed R r).item))
        by_black true = black m r a b
        by_black false = white h

    -- the end of the file
    pub end_alike : 0 < R → Agrees R P (end_of m) (closed R r)
    unfolding end_of
    end_alike h = any_end (closed_of m) (closed R r) true (closed_alike m r a h)

-- at the first byte of a file
pub start_alike : (room pool : List ℕ) → Agrees (length room) (length pool) (machine start_of room pool) (start (length pool))
unfolding start_of start start_head naming last_from entries_from
start_alike room pool =
    record {
      wide = refl;
      deep = refl;
      head = refl;
      sane = record { order = omega arith; small = omega arith };
      word = no_word room (state start_head [] false [] (length pool)) 0 0 0 0 refl refl;
      table = record {
        few = omega arith;
        ends = refl;
        which = refl;
        used = omega arith;
        below = λ i h. absurd (not-suc-le-zero h);
        last = refl;
        entries = refl;
        left = omega arith;
        fits = refl;
        held = λ n f. absurd (true≢false (sym n));
      };
    }
