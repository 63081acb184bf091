-- The blocks, one after the other, are the chart of the file: what is written and what is still to come are together always the same. Assumes nothing.
use Prim.Native.Nat.{ℕ, zero, suc, ◌+◌, ◌-◌, ◌<◌}
use mathlib.Core.Path.{◌≡◌, refl, sym, ◌∙◌, ap}
use mathlib.Core.Bool.{Bool, true, false, cond}
use mathlib.Core.List.{List, [], ◌∷◌, ◌++◌, append_assoc}
use native.Mathlib.Omega.{arith}
use lib.Dec.{eqb}
use lib.ListN.{length}
use Rattle.script.specs.declared.Item.{Item}
use Rattle.script.specs.declared.Item.TheVariants as item
use Rattle.script.specs.declared.Step.{Step}
use Rattle.script.specs.declared.Cursor.{Cursor}
use Rattle.script.specs.Machinery.Cursor.{start_of, next_of, is_last, read_from}
use Rattle.script.proofs.Whole.{goes_on_lem, whole}
use Rattle.run.specs.declared.Done.{Done}
use Rattle.run.specs.Run.{done_of}
use Rattle.line.specs.Text.{Written}
use Rattle.sheet.specs.declared.Run.{Run}
use Rattle.driver.specs.Driver.{Store, host_of, made_by, made_doing, made_at, store_at, begun_of as drive_begun}
use Rattle.sheet.specs.Sheet.{driven_of, with_text, begun_of, cursor_at, text_of, said_at, run_at, said_in, run_in, store_in}
use Rattle.sheet.specs.Machinery.Fill.{Sheet, sheet, one_turn, goes, turns, emptied, Filled, ahead}
use Rattle.sheet.specs.Chart.{told, chart_of}
use Rattle.sheet.proofs.Less.{keeps_cursor}
use Rattle.sheet.proofs.Loop.{never, is_going}

-- ---- the text does not hang on where it goes or where the reader stands

abbrev bare : Run → Run
bare r = record { chip = r.chip; cursor = start_of; at = 0; done = r.done; bank = r.bank; going = r.going }

did_said : (r : Run) (s : Step) (d : Done) (fine : Bool) → eqb d.refused 0 ≡ fine → text_of (made_by (driven_of r) s d) ≡ text_of (made_by (driven_of (bare r)) s d)
did_said r s d true e = simp e
did_said r s d false e = simp e

said_bare : (m : Store) (r : Run) (i : Item) → said_at m r i ≡ said_at m (bare r) i
unfolding said_at made_at made_doing
said_bare m r (item.Changes memory n) = refl
said_bare m r (item.Change memory address value) = refl
said_bare m r (item.Steps n) = refl
said_bare m r (item.Do s) = did_said r s (done_of (host_of m r.bank) r.chip s) (eqb (done_of (host_of m r.bank) r.chip s).refused 0) refl
said_bare m r item.Done = refl
said_bare m r (item.Refused number) = refl

did_bare : (r : Run) (s : Step) (d : Done) (fine : Bool) → eqb d.refused 0 ≡ fine → bare (with_text (made_by (driven_of r) s d).run 0) ≡ bare (with_text (made_by (driven_of (bare r)) s d).run 0)
did_bare r s d true e = simp e
did_bare r s d false e = simp e

run_bare : (m : Store) (r : Run) (i : Item) → bare (run_at m r i) ≡ bare (run_at m (bare r) i)
unfolding run_at made_at made_doing
run_bare m r (item.Changes memory n) = refl
run_bare m r (item.Change memory address value) = refl
run_bare m r (item.Steps n) = refl
run_bare m r (item.Do s) = did_bare r s (done_of (host_of m r.bank) r.chip s) (eqb (done_of (host_of m r.bank) r.chip s).refused 0) refl
run_bare m r item.Done = refl
run_bare m r (item.Refused number) = refl

told_bare : (l : List Item) (m : Store) (r : Run) → told m r l ≡ told m (bare r) l
unfolding told
told_bare [] m r = refl
told_bare (i ∷ l) m r =
    let a = run_at m r i in
    let b = run_at m (bare r) i in
    let e : bare a ≡ bare b = run_bare m r i in
    let more : told (store_at m i) a l ≡ told (store_at m i) b l = told_bare l _ a ∙ ap (λ x. told (store_at m i) x l) e ∙ sym (told_bare l _ b) in
    ap (λ x. x ++ cond a.going (told (store_at m i) a l) []) (said_bare m r i)
    ∙ ap (λ x. said_at m (bare r) i ++ cond a.going x []) more
    ∙ ap (λ x. said_at m (bare r) i ++ cond x (told (store_at m i) b l) []) (ap (λ (x : Run). x.going) e)

same_told : (l : List Item) (m : Store) (x y : Run) → bare x ≡ bare y → told m x l ≡ told m y l
same_told l m x y e = told_bare l m x ∙ ap (λ z. told m z l) e ∙ sym (told_bare l m y)

-- ---- what is still to come

-- enough calls of the reader are enough
unless_last : (last : Bool) {x y : List Item} → (last ≡ false → x ≡ y) → cond last [] x ≡ cond last [] y
unless_last true h = refl
unless_last false h = h refl

enough : (n k : ℕ) (s : List ℕ) (c : Cursor) → length s - c.at < n → length s - c.at < k → read_from n s c ≡ read_from k s c
unfolding read_from
enough zero k s c g h = absurd (omega arith)
enough (suc n) zero s c g h = absurd (omega arith)
enough (suc n) (suc k) s c g h =
    let found = next_of s c in
    ap (λ (l : List Item). found.item ∷ l)
    (unless_last (is_last found.item) (λ e. let o = goes_on_lem s c e in enough n k s found.cursor (omega (arith, o.further, o.inside)) (omega (arith, o.further, o.inside))))

abbrev pub to_come : List ℕ → Store → Run → List ℕ
to_come s m r = told m r (read_from (ahead s r) s r.cursor)

pub over : (s : List ℕ) (m : Store) (r : Run) → r.going ≡ false → to_come s m r ≡ []
unfolding ahead read_from told
over s m r g = simp g

-- an item after which the run goes on is not the last
not_last : (m : Store) (r : Run) (i : Item) → (run_at m r i).going ≡ true → is_last i ≡ false
unfolding run_at made_at
not_last m r (item.Changes memory n) g = refl
not_last m r (item.Change memory address value) g = refl
not_last m r (item.Steps n) g = refl
not_last m r (item.Do s) g = refl
not_last m r item.Done g = never (sym g)
not_last m r (item.Refused number) g = never (sym g)

module _ (s : List ℕ) (m : Store) (r : Run) (going : r.going ≡ true) where
  abbrev i : Item
  i = (next_of s r.cursor).item

  abbrev next : Cursor
  next = (next_of s r.cursor).cursor

  abbrev after : Run
  after = run_at m (cursor_at r next) i

  abbrev left : ℕ
  left = length s - r.cursor.at

  -- the items from here: the next one, and then the others
  first : to_come s m r ≡ told m r (i ∷ cond (is_last i) [] (read_from left s next))
  unfolding ahead read_from
  first = simp going

  others : (g : Bool) → after.going ≡ g → cond g (told (store_at m i) after (cond (is_last i) [] (read_from left s next))) [] ≡ to_come s (store_at m i) after
  unfolding ahead read_from told
  others false e = simp e
  others true e =
      let last = not_last m (cursor_at r next) i e in
      let o = goes_on_lem s r.cursor last in
      let c = keeps_cursor m (cursor_at r next) i in
      simp (e, last, c) (ap (λ l. told (store_at m i) after l) (enough left (suc (length s - next.at)) s next (omega (arith, o.further, o.inside)) (omega arith)))

  pub one : to_come s m r ≡ said_in s m r ++ to_come s (store_in s m r) (run_in s m r)
  unfolding said_in run_in store_in told
  one =
      first
      ∙ same_told (i ∷ cond (is_last i) [] (read_from left s next)) m r (cursor_at r next) refl
      ∙ ap (λ x. said_at m (cursor_at r next) i ++ x) (others after.going refl)

-- ---- blocks

abbrev all : List ℕ → Sheet → List ℕ
all s x = x.text ++ to_come s x.store x.run

turned_all : (s : List ℕ) (x : Sheet) (go : Bool) → goes x.run ≡ go → all s (cond go (one_turn s x) x) ≡ all s x
unfolding one_turn
turned_all s x false e = refl
turned_all s x true e =
    append_assoc x.text (said_in s x.store x.run) _
    ∙ ap (λ (y : List ℕ). x.text ++ y) (sym (one s x.store x.run (is_going x.run e)))

turns_all : (n : ℕ) (s : List ℕ) (x : Sheet) → all s (turns n s x) ≡ all s x
unfolding turns
turns_all zero s x = refl
turns_all (suc n) s x = turned_all s (turns n s x) (goes (turns n s x).run) refl ∙ turns_all n s x

emptied_same : (s : List ℕ) (m : Store) (r : Run) → to_come s m (emptied r) ≡ to_come s m r
unfolding ahead
emptied_same s m r = same_told (read_from (ahead s r) s r.cursor) m (emptied r) r refl

-- a block's text, and what is to come after it
pub record Block (s : List ℕ) (m : Store) (start : Run) (out : List ℕ) (left : Store) (r : Run) (after : List ℕ) : Type 0 where
  pub text : List ℕ
  pub written : Written out 0 text after r.at
  pub whole : text ++ to_come s left r ≡ to_come s m start

pub block : (s : List ℕ) (m : Store) (start : Run) (out : List ℕ) (left : Store) (r : Run) (after : List ℕ) → Filled s m start out left r after → Block s m start out left r after
block s m start out left r after f =
    let t = f.turned in
    let x = turns t.count s (sheet (emptied start) m []) in
    record {
      text = x.text;
      written = t.text;
      whole =
          ap (λ y. x.text ++ to_come s y r) t.store
          ∙ ap (λ y. x.text ++ to_come s x.store y) t.run
          ∙ turns_all t.count s (sheet (emptied start) m [])
          ∙ emptied_same s m start;
    }

-- 01, chart: at the start all of the chart is to come
pub begins : (kind : ℕ) (s : List ℕ) (m : Store) → to_come s m (begun_of kind) ≡ chart_of kind m s
unfolding chart_of begun_of drive_begun ahead start_of
begins kind s m = ap (λ l. told m (begun_of kind) l) (enough _ (length s + 1) s start_of (omega arith) (omega arith) ∙ whole s)
