-- What a run leaves when it is over, and what of its text stands in the buffer: a block changes neither what is to come nor how it ends. Assumes nothing.
use Prim.Native.Nat.{ℕ, zero, suc, ◌+◌, ◌≤◌, ◌<◌}
use mathlib.Core.Path.{◌≡◌, refl, sym, ◌∙◌, ap, subst}
use mathlib.Core.Bool.{Bool, true, false, cond}
use mathlib.Core.List.{List, [], ◌++◌, append-nil, append_assoc}
use native.Mathlib.Omega.{arith}
use lib.Dec.{leb}
use lib.ListN.{length, take}
use Rattle.laws.proofs.Choice.{either}
use Rattle.script.specs.Machinery.Cursor.{start_of}
use Rattle.line.specs.Text.{Written}
use Rattle.line.proofs.Copy.{stands}
use Rattle.sheet.specs.declared.Run.{Run}
use Rattle.driver.specs.Driver.{Store, begun_of as drive_begun}
use Rattle.sheet.specs.Sheet.{begun_of, run_in, store_in}
use Rattle.sheet.specs.Machinery.Fill.{Sheet, sheet, one_turn, goes, turns, emptied, Filled, ahead}
use Rattle.sheet.specs.Chart.{chart_of, End, end, roomed, ended, ended_of, Ends}
use Rattle.sheet.proofs.Less.{turn_less}
use Rattle.sheet.proofs.Loop.{never, both}
use Rattle.sheet.proofs.Blocks.{to_come, over, block, begins}

module _ (s : List ℕ) where
  -- ---- enough turns are enough

  pub is_over : (n : ℕ) (m : Store) (r : Run) → r.going ≡ false → ended n s m r ≡ end r m
  unfolding ended
  is_over zero m r g = refl
  is_over (suc n) m r g = simp g

  on_one : (n : ℕ) (m : Store) (r : Run) → r.going ≡ true → ended (suc n) s m r ≡ ended n s (store_in s m (roomed r)) (run_in s m (roomed r))
  unfolding ended
  on_one n m r g = ap (λ (go : Bool). cond go (ended n s (store_in s m (roomed r)) (run_in s m (roomed r))) (end r m)) g

  falls : (m : Store) (r : Run) → r.going ≡ true → ahead s (run_in s m (roomed r)) < ahead s r
  unfolding ahead
  falls m r g = either (λ (x : Run). ahead s (run_in s m x) < ahead s r) (leb r.at 65472) (turn_less s m r g) (turn_less s m (emptied r) g)

  none : (r : Run) (go : Bool) → r.going ≡ go → ahead s r ≤ 0 → go ≡ false
  unfolding ahead
  none r true g h = absurd (let x = simp g at h in omega arith)
  none r false g h = refl

  if_going : (go : Bool) (z : End) {x y : End} → (go ≡ true → x ≡ y) → cond go x z ≡ cond go y z
  if_going true z h = h refl
  if_going false z h = refl

  enough : (n k : ℕ) (m : Store) (r : Run) → ahead s r ≤ n → ahead s r ≤ k → ended n s m r ≡ ended k s m r
  unfolding ended
  enough zero k m r h l = sym (is_over k m r (none r r.going refl h))
  enough (suc n) zero m r h l = is_over (suc n) m r (none r r.going refl l)
  enough (suc n) (suc k) m r h l =
      if_going r.going (end r m) (λ g. enough n k (store_in s m (roomed r)) (run_in s m (roomed r)) (omega (arith, falls m r g)) (omega (arith, falls m r g)))

  abbrev pub to_end : Store → Run → End
  to_end m r = ended (ahead s r) s m r

  one : (m : Store) (r : Run) → r.going ≡ true → to_end (store_in s m (roomed r)) (run_in s m (roomed r)) ≡ to_end m r
  one m r g =
      let n = ahead s r in
      enough (ahead s (run_in s m (roomed r))) n (store_in s m (roomed r)) (run_in s m (roomed r)) (omega arith) (omega (arith, falls m r g))
      ∙ sym (on_one n m r g)
      ∙ enough (suc n) n m r (omega arith) (omega arith)

  -- ---- blocks

  one_goes : (m : Store) (r : Run) → goes r ≡ true → to_end (store_in s m r) (run_in s m r) ≡ to_end m r
  one_goes m r e =
      let w = both r.going (leb r.at 65472) e in
      let same : roomed r ≡ r = ap (λ (b : Bool). cond b r (emptied r)) w.1 in
      subst (λ (x : Run). to_end (store_in s m x) (run_in s m x) ≡ to_end m r) same (one m r w.0)

  turned_end : (x : Sheet) (go : Bool) → goes x.run ≡ go → to_end (cond go (one_turn s x) x).store (cond go (one_turn s x) x).run ≡ to_end x.store x.run
  unfolding one_turn
  turned_end x false e = refl
  turned_end x true e = one_goes x.store x.run e

  turns_end : (n : ℕ) (x : Sheet) → to_end (turns n s x).store (turns n s x).run ≡ to_end x.store x.run
  unfolding turns
  turns_end zero x = refl
  turns_end (suc n) x = turned_end (turns n s x) (goes (turns n s x).run) refl ∙ turns_end n x

  -- a run whose next text begins a block
  begin_end : (m : Store) (r : Run) → r.going ≡ true → roomed r ≡ emptied r → to_end m (emptied r) ≡ to_end m r
  unfolding ahead
  begin_end m r g e =
      sym (one m (emptied r) g) ∙ ap (λ (x : Run). to_end (store_in s m x) (run_in s m x)) (sym e) ∙ one m r g

  pub block_end : (m : Store) (start : Run) (out : List ℕ) (left : Store) (r : Run) (after : List ℕ) → start.going ≡ true → roomed start ≡ emptied start → Filled s m start out left r after → to_end left r ≡ to_end m start
  block_end m start out left r after g e f =
      let t = f.turned in
      let x = turns t.count s (sheet (emptied start) m []) in
      ap (λ (y : Store). to_end y r) t.store
      ∙ ap (λ (y : Run). to_end x.store y) t.run
      ∙ turns_end t.count (sheet (emptied start) m [])
      ∙ begin_end m start g e

  -- from the start
  pub end_begins : (kind : ℕ) (m : Store) → to_end m (begun_of kind) ≡ ended_of kind m s
  unfolding ended_of begun_of drive_begun ahead start_of
  end_begins kind m = ap (λ (n : ℕ). ended n s m (begun_of kind)) (omega arith)

-- a block that is full: the next text begins another
full : (r : Run) (room : Bool) → leb r.at 65472 ≡ room → goes r ≡ false → r.going ≡ true → roomed r ≡ emptied r
full r true b e g = never (simp (g, b) at e)
full r false b e g = ap (λ (x : Bool). cond x r (emptied r)) b

-- ---- the text in the buffer

begun_stands : (out text after : List ℕ) (at : ℕ) → Written out 0 text after at → at ≤ length out → take at after ≡ text
begun_stands out text after at w h = stands out text after 0 at w (omega (arith, w.place, h))

-- ---- the blocks of a chart, one after the other

-- what was there before, what stands in the buffer, and what is to come
pub record Prints (s : List ℕ) (m : Store) (start : Run) (left : Store) (r : Run) (out : List ℕ) : Type 0 where
  pub earlier : List ℕ
  pub whole : (earlier ++ take r.at out) ++ to_come s left r ≡ to_come s m start
  pub ends : to_end s left r ≡ to_end s m start
  pub fresh : r.going ≡ true → roomed r ≡ emptied r

module _ (s : List ℕ) (m : Store) (start : Run) where
  pub nothing_yet : (kind : ℕ) (out : List ℕ) → start ≡ begun_of kind → Prints s m start m start out
  unfolding begun_of drive_begun
  nothing_yet kind out e =
      record {
        earlier = [];
        whole = ap (λ (x : Run). take x.at out ++ to_come s m start) e;
        ends = refl;
        fresh = λ _. subst (λ (x : Run). roomed x ≡ emptied x) (sym e) refl;
      }

  pub one_block : (left : Store) (r : Run) (out : List ℕ) (next-left : Store) (next : Run) (after : List ℕ) → Prints s m start left r out → r.going ≡ true → Filled s left r out next-left next after → next.at ≤ length out → Prints s m start next-left next after
  one_block left r out next-left next after was g f h =
      let b = block s left r out next-left next after f in
      let before = was.earlier ++ take r.at out in
      record {
        earlier = before;
        whole =
            ap (λ (t : List ℕ). (before ++ t) ++ to_come s next-left next) (begun_stands out b.text after next.at b.written h)
            ∙ append_assoc before b.text (to_come s next-left next)
            ∙ ap (λ (l : List ℕ). before ++ l) b.whole
            ∙ was.whole;
        ends = block_end s left r out next-left next after g (was.fresh g) f ∙ was.ends;
        fresh = full next (leb next.at 65472) refl f.over;
      }

-- the run is over: its end, and the last of the chart
module _ (kind : ℕ) (s : List ℕ) (m : Store) (start : Run) (left : Store) (r : Run) (out : List ℕ) (was : Prints s m start left r out) (begun : start ≡ begun_of kind) (done : r.going ≡ false) where
  pub all_ended : end r left ≡ ended_of kind m s
  all_ended = sym (is_over s (ahead s r) left r done) ∙ was.ends ∙ ap (to_end s m) begun ∙ end_begins s kind m

  pub all_printed : Ends (chart_of kind m s) out r.at
  all_printed =
      let here = was.earlier ++ take r.at out in
      record {
        earlier = was.earlier;
        last =
            sym (append-nil here)
            ∙ ap (λ (l : List ℕ). here ++ l) (sym (over s left r done))
            ∙ was.whole
            ∙ ap (to_come s m) begun
            ∙ begins kind s m;
      }
