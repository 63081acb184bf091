-- A word on the table. Assumes nothing.
use Prim.Native.Nat.{ℕ, zero, suc, ◌+◌, ◌-◌, ◌≤◌, ◌<◌}
use mathlib.Core.Path.{◌≡◌, refl, sym, ◌∙◌, ap, subst}
use mathlib.Core.Bool.{Bool, true, false, ◌&&◌, not, cond, true≢false}
use mathlib.Core.List.{List, [], ◌∷◌, ◌++◌, append_assoc}
use native.Mathlib.Omega.{arith}
use native.Mathlib.Numerals.{add-one}
use lib.Dec.{eqb, ltb, leb}
use lib.ListN.{length, take, drop, set, get_or, length-set}
use lib.Seq.{take_at, drop_at, length-take-le, take-append_seam}
use borrow.Author.Tests.{ltb-true, ltb-false, leb-true, leb-false, lt-ltb, le-ltb, le-leb, lt-leb, eqb-true}
use Rattle.laws.proofs.Choice.{left, right}
use Rattle.line.specs.Text.{ascii, pasted}
use Rattle.line.proofs.Copy.{pasted_is}
use Rattle.grammar.specs.declared.Head.{Head}
use Rattle.grammar.specs.declared.Phase.{Phase}
use Rattle.grammar.specs.declared.Phase.TheVariants.{Heading, Skipping, Kind, Size, Identifier, Name, Closing, Ending, Declared, Body, Aside, Valued, Done, Refused}
use Rattle.grammar.specs.Words.{Word, same}
use Rattle.grammar.specs.Signals.{width_of}
use Rattle.grammar.specs.Grammar.{Entry, entry, go_to, State, state, with_head, fate, declare, judged, closing, head_by, entered, listed}
use Rattle.phrase.specs.declared.Table.{Table}
use Rattle.phrase.specs.Table.{part_of, least_of, entries_from, table_of}
use Rattle.phrase.proofs.Walk.{entries_length}
use Rattle.intake.specs.Machine.{table, holds, opened_of, unfit_of, kept_of, pool_kept, entered_of, noted_of, listed_of, pool_of}
use Rattle.heard.specs.Agrees.{naming, last_from, SameTable}
use Rattle.heard.proofs.Heads.{in_var, plain_by}
use Rattle.heard.proofs.Table.{entries_kept, one_more_lem, last_more, below_more}

-- ---- the pool with an identifier after the others

pasted_long : (w pool : List ℕ) (at : ℕ) → length (pasted pool at w) ≡ length pool
unfolding pasted
pasted_long [] pool at = refl
pasted_long (x ∷ w) pool at = pasted_long w (set pool at x) (at + 1) ∙ length-set pool at x

module _ (w pool : List ℕ) (at : ℕ) (h : at + length w ≤ length pool) where
  before : length (take at pool) ≡ at
  before = length-take-le at pool (omega arith)

  around : pasted pool at w ≡ take at pool ++ (w ++ drop (at + length w) pool)
  around = pasted_is w pool at h ∙ append_assoc (take at pool) w (drop (at + length w) pool)

  pub pasted_before : take at (pasted pool at w) ≡ take at pool
  pasted_before =
      ap (take at) around ∙ take_at (take at pool) (w ++ drop (at + length w) pool) at before

  pub pasted_part : part_of (pasted pool at w) at (at + length w) ≡ w
  unfolding part_of
  pasted_part =
      let size = pasted_long w pool at in
      let e : at + length w - at ≡ length w = omega arith in
      ap (λ (t : Bool). cond t [] (cond (ltb (length (pasted pool at w)) (at + length w)) [] (take (at + length w - at) (drop at (pasted pool at w))))) (le-ltb (at + length w) at (omega arith))
      ∙ ap (λ (t : Bool). cond t [] (take (at + length w - at) (drop at (pasted pool at w)))) (le-ltb (length (pasted pool at w)) (at + length w) (omega arith))
      ∙ ap (λ (n : ℕ). take n (drop at (pasted pool at w))) e
      ∙ ap (take (length w)) (ap (drop at) around ∙ drop_at (take at pool) (w ++ drop (at + length w) pool) at before)
      ∙ take-append_seam w (drop (at + length w) pool)

-- ---- what stays

module _ (p q : Phase) (t : Table) (pool : List ℕ) (s : State) (h : Head) (a : SameTable p t pool s) where
  plain : naming q ≡ false → SameTable q t pool (with_head s h)
  plain e =
      record {
        few = a.few;
        ends = a.ends;
        which = a.which;
        used = a.used;
        below = a.below;
        last = a.last;
        entries = a.entries;
        left = a.left;
        fits = a.fits;
        held = λ n f. absurd (true≢false (sym n ∙ e));
      }

  carried : naming p ≡ true → SameTable q t pool (with_head s h)
  carried e =
      record {
        few = a.few;
        ends = a.ends;
        which = a.which;
        used = a.used;
        below = a.below;
        last = a.last;
        entries = a.entries;
        left = a.left;
        fits = a.fits;
        held = λ n f. a.held e f;
      }

-- ---- an identifier

room_left : (used pool n : ℕ) → used ≤ pool → leb (used + n) pool ≡ leb n (pool - used)
room_left used pool n h = by_le (leb n (pool - used)) refl
  where
    by_le : (t : Bool) → leb n (pool - used) ≡ t → leb (used + n) pool ≡ leb n (pool - used)
    by_le true e = let g = leb-true n (pool - used) e in le-leb (used + n) pool (omega arith) ∙ sym e
    by_le false e = let g = leb-false n (pool - used) e in lt-leb (used + n) pool (omega arith) ∙ sym e

module _ (p q : Phase) (t : Table) (pool : List ℕ) (s : State) (h : Head) (w : Word) (over : Bool) (a : SameTable p t pool s) where
  abbrev Kept : Bool → Bool → Type 0
  Kept x y = SameTable q (cond x (opened_of t (t.used + length w)) (unfit_of t)) (cond x (pasted pool t.used w) pool) (state h w y s.table s.left)

  kept_by : (x : Bool) → holds t.used (length w) over (length pool) ≡ x → Kept x x
  unfolding holds
  kept_by true e =
      let room = leb-true (t.used + length w) (length pool) (right (not over) (leb (t.used + length w) (length pool)) e) in
      let size = pasted_long w pool t.used in
      record {
        few = a.few;
        ends = a.ends;
        which = a.which;
        used = omega (arith, a.used);
        below = a.below;
        last = a.last;
        entries = entries_kept (pasted pool t.used w) pool t.used size (pasted_before w pool t.used room) t.count 0 0 t.ends t.which (λ j g. a.below j (omega arith)) ∙ a.entries;
        left = a.left ∙ ap (λ (n : ℕ). n - t.used) (sym size);
        fits = refl;
        held = λ n f. (refl, (omega arith, pasted_part w pool t.used room));
      }
  kept_by false e =
      record {
        few = a.few;
        ends = a.ends;
        which = a.which;
        used = a.used;
        below = a.below;
        last = a.last;
        entries = a.entries;
        left = a.left;
        fits = refl;
        held = λ n f. absurd (true≢false (sym f));
      }

  fits_alike : holds t.used (length w) over (length pool) ≡ (not over && leb (length w) s.left)
  unfolding holds
  fits_alike =
      ap (λ (x : Bool). not over && x) (room_left t.used (length pool) (length w) a.used ∙ ap (λ (n : ℕ). leb (length w) n) (sym a.left))

  pub kept : SameTable q (kept_of t w over pool) (pool_kept t w over pool) (state h w (not over && leb (length w) s.left) s.table s.left)
  unfolding kept_of pool_kept
  kept = subst (Kept (holds t.used (length w) over (length pool))) fits_alike (kept_by (holds t.used (length w) over (length pool)) refl)

-- ---- the end of a `$var`

fate_fine : (a b c : Bool) → ◌≡◌ {A = ℕ} (cond a 14 (cond b 15 (cond c 0 17))) 0 → (b ≡ false) × (c ≡ true)
fate_fine true b c e = absurd (omega arith)
fate_fine false true c e = absurd (omega arith)
fate_fine false false true e = (refl, refl)
fate_fine false false false e = absurd (omega arith)

fate_nought : (size k count : ℕ) (fits : Bool) → fate size k count fits ≡ 0 → (leb 64 count ≡ false) × (fits ≡ true)
unfolding fate
fate_nought size k count fits e = fate_fine (ltb k 8 && not (eqb size (width_of k))) (leb 64 count) fits e

least_few : (n : ℕ) → n ≤ 64 → least_of n 64 ≡ n
unfolding least_of
least_few n h = by_less (ltb n 64) refl
  where
    by_less : (t : Bool) → ltb n 64 ≡ t → cond t n 64 ≡ n
    by_less true e = refl
    by_less false e = let g = ltb-false n 64 e in omega arith

pub table_alike : (p : Phase) (t : Table) (pool : List ℕ) (s : State) → SameTable p t pool s → table_of t pool ≡ s.table
unfolding table_of
table_alike p t pool s a = ap (λ (n : ℕ). entries_from n 0 0 t.ends t.which pool) (least_few t.count a.few) ∙ a.entries

module _ (size k : ℕ) (t : Table) (pool : List ℕ) (s : State) (h : Head) (w : Word) (over : Bool) (a : SameTable (Closing size k) t pool s) where
  count_alike : length s.table ≡ t.count
  count_alike = ap length (sym a.entries) ∙ entries_length t.count 0 0 t.ends t.which pool

  abbrev ends_well : Bool
  ends_well = same w (ascii "$end") && eqb (fate size k (length s.table) s.fits) 0

  tests_alike : (same w (ascii "$end") && eqb (fate size k (least_of t.count 64) t.fits) 0) ≡ ends_well
  tests_alike =
      ap (λ (n : ℕ). same w (ascii "$end") && eqb (fate size k n t.fits) 0) (least_few t.count a.few ∙ sym count_alike)
      ∙ ap (λ (f : Bool). same w (ascii "$end") && eqb (fate size k (length s.table) f) 0) a.fits

  abbrev after : Head
  after = closing h w size k (length s.table) s.fits

  heading_next : ends_well ≡ true → naming after.phase ≡ false
  unfolding closing judged naming
  heading_next e =
      ap (λ (x : Bool). naming (cond x (judged h k (fate size k (length s.table) s.fits)) h).phase) (left (same w (ascii "$end")) (eqb (fate size k (length s.table) s.fits) 0) e)
      ∙ ap (λ (x : Bool). naming (cond x (go_to (declare h k) Heading) (go_to h (Refused (fate size k (length s.table) s.fits)))).phase) (right (same w (ascii "$end")) (eqb (fate size k (length s.table) s.fits) 0) e)

  abbrev Noted : Bool → Bool → Type 0
  Noted x y =
      SameTable after.phase (cond x (entered_of t k) t) pool
      (cond y (state after s.id s.fits (s.table ++ (entry s.id k ∷ [])) (s.left - length s.id)) (with_head s after))

  held_here : naming (Closing size k) ≡ true
  unfolding naming
  held_here = refl

  grown : t.count < 64 → t.fits ≡ true → naming after.phase ≡ false
      → SameTable after.phase (table (t.count + 1) (set t.ends t.count t.tail) (set t.which t.count k) t.tail t.tail t.fits) pool
      (state after s.id s.fits (s.table ++ (entry s.id k ∷ [])) (s.left - length s.id))
  grown c f next =
      let held = a.held held_here f in
      let zero-on : 0 + t.count ≡ t.count = omega arith in
      record {
        few = omega arith;
        ends = length-set t.ends t.count t.tail ∙ a.ends;
        which = length-set t.which t.count k ∙ a.which;
        used = held.1.0;
        below = below_more t.tail t.count t.used t.ends (omega (arith, a.ends)) (omega (arith, held.0)) a.below;
        last = ap (λ (n : ℕ). last_from n 0 0 (set t.ends t.count t.tail)) (add-one t.count)
            ∙ ap (λ (n : ℕ). last_from (suc t.count) 0 0 (set t.ends n t.tail)) (sym zero-on)
            ∙ last_more t.tail t.count 0 0 t.ends (omega (arith, a.ends));
        entries = ap (λ (n : ℕ). entries_from n 0 0 (set t.ends t.count t.tail) (set t.which t.count k) pool) (add-one t.count)
            ∙ ap (λ (n : ℕ). entries_from (suc t.count) 0 0 (set t.ends n t.tail) (set t.which n k) pool) (sym zero-on)
            ∙ one_more_lem t.tail k pool t.count 0 0 t.ends t.which (omega (arith, a.ends)) (omega (arith, a.which))
            ∙ ap (λ (l : List Entry). l ++ (entry (part_of pool (last_from t.count 0 0 t.ends) t.tail) k ∷ [])) a.entries
            ∙ ap (λ (n : ℕ). s.table ++ (entry (part_of pool n t.tail) k ∷ [])) a.last
            ∙ ap (λ (l : List ℕ). s.table ++ (entry l k ∷ [])) held.1.1;
        left = ap (λ (n : ℕ). n - length s.id) a.left ∙ (let e : length pool - t.used - length s.id ≡ length pool - t.tail = omega (arith, held.0) in e);
        fits = a.fits;
        held = λ n g. absurd (true≢false (sym n ∙ next));
      }

  noted_by : (x : Bool) → ends_well ≡ x → Noted x x
  unfolding entered_of naming
  noted_by true e =
      let good = fate_nought size k (length s.table) s.fits (eqb-true (fate size k (length s.table) s.fits) 0 (right (same w (ascii "$end")) (eqb (fate size k (length s.table) s.fits) 0) e)) in
      let few = leb-false 64 (length s.table) good.0 in
      let less : t.count < 64 = omega (arith, count_alike) in
      subst (λ (x : Bool). SameTable after.phase (cond x (table (t.count + 1) (set t.ends t.count t.tail) (set t.which t.count k) t.tail t.tail t.fits) t) pool
      (state after s.id s.fits (s.table ++ (entry s.id k ∷ [])) (s.left - length s.id)))
      (sym (lt-ltb t.count 64 less)) (grown less (a.fits ∙ good.1) (heading_next e))
  noted_by false e = carried (Closing size k) after.phase t pool s after a refl

  pub noted : SameTable after.phase (noted_of t w size k) pool (entered s after size k (same w (ascii "$end")))
  unfolding noted_of entered
  noted = subst (λ (x : Bool). Noted x ends_well) (sym tests_alike) (noted_by ends_well refl)

-- ---- a word

module _ (t : Table) (pool : List ℕ) (s : State) (h : Head) (w : Word) (over : Bool) where
  abbrev by : Phase → Head
  by p = head_by p h w over s.table s.fits

  abbrev Listed : Phase → Type 0
  Listed p = SameTable (by p).phase (listed_of p t w over pool) (pool_of p t w over pool) (listed p s (by p) w over)

  other : (p : Phase) → h.phase ≡ p → naming p ≡ false → in_var p ≡ false → SameTable p t pool s → SameTable (by p).phase t pool (with_head s (by p))
  other p e n i a = plain p (by p).phase t pool s (by p) a (plain_by p h w over s.table s.fits (ap naming e ∙ n) i)

  pub on_table : (p : Phase) → h.phase ≡ p → SameTable p t pool s → Listed p
  unfolding listed_of pool_of listed naming in_var head_by
  on_table Heading e a = other Heading e refl refl a
  on_table Skipping e a = other Skipping e refl refl a
  on_table Kind e a = other Kind e refl refl a
  on_table Size e a = other Size e refl refl a
  on_table (Identifier size) e a = kept (Identifier size) (by (Identifier size)).phase t pool s (by (Identifier size)) w over a
  on_table (Name size) e a = carried (Name size) (by (Name size)).phase t pool s (by (Name size)) a refl
  on_table (Closing size k) e a = noted size k t pool s h w over a
  on_table Ending e a = other Ending e refl refl a
  on_table Declared e a = other Declared e refl refl a
  on_table Body e a = other Body e refl refl a
  on_table Aside e a = other Aside e refl refl a
  on_table (Valued d) e a = other (Valued d) e refl refl a
  on_table Done e a = other Done e refl refl a
  on_table (Refused n) e a = other (Refused n) e refl refl a

pub pool_kept_lem : (p : Phase) (t : Table) (w : Word) (over : Bool) (pool : List ℕ) → length (pool_of p t w over pool) ≡ length pool
unfolding pool_of pool_kept
pool_kept_lem (Identifier size) t w over pool = by_fit (holds t.used (length w) over (length pool))
  where
    by_fit : (x : Bool) → length (cond x (pasted pool t.used w) pool) ≡ length pool
    by_fit true = pasted_long w pool t.used
    by_fit false = refl
pool_kept_lem Heading t w over pool = refl
pool_kept_lem Skipping t w over pool = refl
pool_kept_lem Kind t w over pool = refl
pool_kept_lem Size t w over pool = refl
pool_kept_lem (Name size) t w over pool = refl
pool_kept_lem (Closing size k) t w over pool = refl
pool_kept_lem Ending t w over pool = refl
pool_kept_lem Declared t w over pool = refl
pool_kept_lem Body t w over pool = refl
pool_kept_lem Aside t w over pool = refl
pool_kept_lem (Valued d) t w over pool = refl
pool_kept_lem Done t w over pool = refl
pool_kept_lem (Refused n) t w over pool = refl
