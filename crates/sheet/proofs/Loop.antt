-- Turns, one after the other, and the loops over them: what holds at a loop's test, and what is left when it stops. Assumes nothing.
use Prim.Native.Nat.{ℕ, zero, suc, ◌+◌, ◌≤◌, ◌<◌}
use mathlib.Core.Path.{◌≡◌, refl, sym, ◌∙◌, ap, subst}
use mathlib.Core.Bool.{Bool, true, false, ◌&&◌, cond}
use mathlib.Core.List.{List, [], ◌++◌, append-nil, append_assoc}
use native.Mathlib.Omega.{arith}
use native.Mathlib.Nat.{zero-add, suc-add}
use lib.Dec.{leb}
use borrow.Author.Tests.{leb-true}
use Rattle.script.specs.declared.Found.{Found}
use Rattle.script.specs.Machinery.Cursor.{next_of}
use Rattle.line.specs.Text.{Written}
use Rattle.line.proofs.Join.{on}
use Rattle.line.proofs.Copy.{nothing}
use Rattle.sheet.specs.declared.Run.{Run}
use Rattle.driver.specs.Driver.{Store, store_at}
use Rattle.sheet.specs.Sheet.{said_on, run_on, said_in, run_in, store_in}
use Rattle.sheet.specs.Machinery.Fill.{Sheet, sheet, one_turn, goes, turns, ahead, Turned, Gone, emptied, Filled}
use Rattle.sheet.proofs.Less.{turn_less}

pub never : {P : Type 0} → true ≡ false → P
never e = absurd (let z : ◌≡◌ {A = Bool} true false = e in let n : ◌≡◌ {A = ℕ} 0 1 = cc in omega arith)

-- what a loop's test says
pub both : (a b : Bool) → (a && b) ≡ true → (a ≡ true) × (b ≡ true)
both true b e = (refl, e)
both false b e = never (sym e)

pub is_going : (r : Run) → goes r ≡ true → r.going ≡ true
is_going r e = (both r.going (leb r.at 65472) e).0

pub has_room : (r : Run) → goes r ≡ true → r.at ≤ 65472
has_room r e = leb-true r.at 65472 (both r.going (leb r.at 65472) e).1

-- ---- turns after turns

-- text that stands before what is said from here on
abbrev behind : List ℕ → Sheet → Sheet
behind text x = sheet x.run x.store (text ++ x.text)

turn_behind : (s text : List ℕ) (x : Sheet) (go : Bool) → cond go (one_turn s (behind text x)) (behind text x) ≡ behind text (cond go (one_turn s x) x)
unfolding one_turn
turn_behind s text x true = ap (sheet (run_in s x.store x.run) (store_in s x.store x.run)) (append_assoc text x.text (said_in s x.store x.run))
turn_behind s text x false = refl

turns_behind : (n : ℕ) (s text : List ℕ) (r : Run) (m : Store) → turns n s (sheet r m text) ≡ behind text (turns n s (sheet r m []))
unfolding turns
turns_behind zero s text r m = ap (sheet r m) (sym (append-nil text))
turns_behind (suc n) s text r m =
    let y = turns n s (sheet r m []) in
    ap (λ z. cond (goes z.run) (one_turn s z) z) (turns_behind n s text r m) ∙ turn_behind s text y (goes y.run)

turns_more : (k n : ℕ) (s : List ℕ) (x : Sheet) → turns (k + n) s x ≡ turns k s (turns n s x)
unfolding turns
turns_more zero n s x = ap (λ (j : ℕ). turns j s x) (zero-add n)
turns_more (suc k) n s x = ap (λ (j : ℕ). turns j s x) (suc-add k n) ∙ ap (λ z. cond (goes z.run) (one_turn s z) z) (turns_more k n s x)

-- ---- one turn

-- what was read, done
abbrev pub Did : Store → Run → List ℕ → Store → Run → List ℕ → Found → Type 0
Did m r out left next after found =
    (next.at ≤ r.at + 64)
    × ((next ≡ run_on m r found) × (Written out r.at (said_on m r found) after next.at × (left ≡ store_at m found.item)))

module _ (s : List ℕ) (m : Store) (r : Run) (out : List ℕ) (left : Store) (next : Run) (after : List ℕ) (found : Found) where
  pub one_turn_lem : found ≡ next_of s r.cursor → goes r ≡ true → Did m r out left next after found → Gone s m r out left next after
  unfolding turns one_turn said_in run_in store_in
  one_turn_lem read on-goes w =
      let v = subst (Did m r out left next after) read w in
      record {
        turned = record { count = 1; run = simp on-goes v.1.0; store = simp on-goes v.1.1.1; text = simp on-goes v.1.1.0 };
        within = omega (arith, v.0, has_room r on-goes);
        less = subst (λ x. ahead s x < ahead s r) (sym v.1.0) (turn_less s m r (is_going r on-goes));
      }

-- ---- a loop over turns

pub record Going (s : List ℕ) (m : Store) (start : Run) (out : List ℕ) (left : Store) (r : Run) (after : List ℕ) : Type 0 where
  pub turned : Turned s m start out left r after
  pub within : r.at ≤ 65536
  pub fewer : ahead s r ≤ ahead s start
  pub less : 0 < turned.count → ahead s r < ahead s start

module _ (s : List ℕ) (m : Store) (start : Run) (out : List ℕ) where
  abbrev first : Sheet
  first = sheet start m []

  pub at_first : start.at ≤ 65536 → Going s m start out m start out
  unfolding turns
  at_first h =
      record {
        turned = record { count = 0; run = refl; store = refl; text = nothing out start.at };
        within = h;
        fewer = omega arith;
        less = λ n. absurd (omega arith);
      }

  module _ (left : Store) (r : Run) (after : List ℕ) (now : Going s m start out left r after) where
    abbrev n : ℕ
    n = now.turned.count

    pub some_more : (next-left : Store) (next : Run) (next-after : List ℕ) → Gone s left r after next-left next next-after → Going s m start out next-left next next-after
    some_more next-left next next-after g =
        let so_far = turns n s first in
        let k = g.turned.count in
        let from-here = turns k s (sheet r left []) in
        let here : so_far ≡ sheet r left so_far.text =
        ap (λ (x : Run). sheet x so_far.store so_far.text) (sym now.turned.run) ∙ ap (λ (x : Store). sheet r x so_far.text) (sym now.turned.store) in
        let all : turns (k + n) s first ≡ behind so_far.text from-here =
        turns_more k n s first ∙ ap (turns k s) here ∙ turns_behind k s so_far.text r left in
        record {
          turned =
              record {
                count = k + n;
                run = g.turned.run ∙ ap (λ (x : Sheet). x.run) (sym all);
                store = g.turned.store ∙ ap (λ (x : Sheet). x.store) (sym all);
                text = subst (λ (x : Sheet). Written out start.at x.text next-after next.at) (sym all) (on now.turned.text g.turned.text);
              };
          within = g.within;
          fewer = omega (arith, g.less, now.fewer);
          less = λ _. omega (arith, g.less, now.fewer);
        }

    -- the loop is left, and its test held at the start
    module _ (test : Run → Bool) (began : test start ≡ true) (over : test r ≡ false) where
      some : (k : ℕ) → n ≡ k → 0 < k
      unfolding turns
      some zero e =
          let same : r ≡ start = now.turned.run ∙ ap (λ (k : ℕ). (turns k s first).run) e in
          never (sym (subst (λ x. test x ≡ true) (sym same) began) ∙ over)
      some (suc k) e = omega arith

      pub went : Gone s m start out left r after
      went = record { turned = now.turned; within = now.within; less = now.less (some n refl) }

-- a block is filled
module _ (s : List ℕ) (m : Store) (start begun : Run) (out : List ℕ) (left : Store) (r : Run) (after : List ℕ) (at-start : begun ≡ emptied start) (was : Going s m begun out left r after) (over : goes r ≡ false) where
  abbrev now : Going s m (emptied start) out left r after
  now = subst (λ x. Going s m x out left r after) at-start was

  pub at_last : Filled s m start out left r after
  at_last = record { turned = now.turned; over = over }

  pub less : start.going ≡ true → ahead s r < ahead s start
  unfolding ahead
  less g = (went s m (emptied start) out left r after now goes (simp g) over).less
