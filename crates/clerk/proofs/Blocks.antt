-- What was written out, what stands in the buffer and what is to come are together always the text. Assumes nothing.
use Prim.Native.Nat.{ℕ, zero, suc, ◌+◌, ◌≤◌, ◌<◌}
use mathlib.Core.Path.{◌≡◌, refl, sym, ◌∙◌, ap, subst}
use mathlib.Core.Bool.{Bool, true, false, cond}
use mathlib.Core.List.{List, [], ◌++◌, append-nil, append_assoc}
use native.Mathlib.Omega.{arith}
use lib.Dec.{leb}
use lib.ListN.{length, take}
use borrow.Author.Tests.{leb-true}
use Rattle.laws.proofs.Choice.{either, by_test}
use Rattle.script.specs.declared.Found.{Found}
use Rattle.script.specs.Machinery.Cursor.{start_of, next_of}
use Rattle.line.specs.Text.{Written}
use Rattle.line.proofs.Copy.{stands}
use Rattle.driver.specs.declared.Run.{Run}
use Rattle.driver.specs.Driver.{Store, store_at, begun_of as drive_begun}
use Rattle.sheet.specs.Machinery.Fill as fill
use Rattle.sheet.specs.Chart.{Ends}
use Rattle.sheet.proofs.Drive.{ahead, falls, some}
use Rattle.clerk.specs.declared.Page.{Page}
use Rattle.clerk.specs.Bus.{Told, told_from, told_of}
use Rattle.clerk.specs.Machinery.Page.{page, begun_of, roomed, said_on, page_on}
use Rattle.clerk.proofs.Turns.{is_over, on_one}

-- what is still to be told
abbrev to_come : List ℕ → ℕ → Store → Page → List ℕ
to_come s n m p = (told_from n s m p.run).text

pub begun_at : (kind : ℕ) (p : Page) → p ≡ begun_of kind → p.at ≡ 0
unfolding begun_of
begun_at kind p is = ap (λ (x : Page). x.at) is

pub record Prints (kind : ℕ) (s : List ℕ) (m : Store) (left : Store) (t : Page) (out : List ℕ) : Type 0 where
  pub earlier : List ℕ
  pub turns : ℕ
  pub enough : ahead s t.run ≤ turns
  pub whole : (earlier ++ take t.at out) ++ to_come s turns left t ≡ (told_of kind m s).text
  pub run : (told_from turns s left t.run).run ≡ (told_of kind m s).run
  pub store : (told_from turns s left t.run).store ≡ (told_of kind m s).store

module _ (kind : ℕ) (s : List ℕ) (m : Store) where
  -- nothing is read
  pub begins : (out : List ℕ) (t : Page) → t ≡ begun_of kind → Prints kind s m m t out
  unfolding begun_of drive_begun fill.ahead start_of told_of
  begins out t is =
      subst (λ (x : Page). Prints kind s m m x out) (sym is) (record {
        earlier = [];
        turns = length s + 1;
        enough = omega arith;
        whole = refl;
        run = refl;
        store = refl;
      })

  module _ (left : Store) (t : Page) (out : List ℕ) (was : Prints kind s m left t out) where
    room : Prints kind s m left (roomed t) out
    unfolding roomed
    room = by_room (leb t.at 65490)
      where
        by_room : (b : Bool) → Prints kind s m left (cond b t (page t.run 0)) out
        by_room true = was
        by_room false =
            record {
              earlier = was.earlier ++ take t.at out;
              turns = was.turns;
              enough = was.enough;
              whole = ap (λ (l : List ℕ). l ++ to_come s was.turns left t) (append-nil (was.earlier ++ take t.at out)) ∙ was.whole;
              run = was.run;
              store = was.store;
            }

    module _ (going : t.run.going ≡ true) (next : Page) (after : List ℕ) (next-left : Store) (found : Found) (read : found ≡ next_of s t.run.cursor)
        (is : next ≡ page_on left t found) (w : Written out t.at (said_on left t found) after next.at) (m-is : next-left ≡ store_at left found.item) (fits : next.at ≤ length out) where
      abbrev here : Found
      here = next_of s t.run.cursor

      abbrev x : Page
      x = page_on left t here

      is_x : next ≡ x
      is_x = is ∙ ap (page_on left t) read

      store_x : next-left ≡ store_at left here.item
      store_x = m-is ∙ ap (λ (f : Found). store_at left f.item) read

      text : take next.at after ≡ take t.at out ++ said_on left t here
      text = stands out (said_on left t found) after t.at next.at w (omega (arith, w.place, fits)) ∙ ap (λ (f : Found). take t.at out ++ said_on left t f) read

      fewer : (n : ℕ) → ahead s t.run ≤ suc n → ahead s x.run ≤ n
      fewer n h = omega (arith, h, falls s left t.run going)

      turned_by : (n : ℕ) → was.turns ≡ suc n → Prints kind s m next-left next after
      turned_by n e =
          let before = was.earlier ++ take t.at out in
          let said = said_on left t here in
          let start : to_come s (suc n) left t ≡ to_come s was.turns left t = ap (λ (k : ℕ). to_come s k left t) (sym e) in
          let told_on = sym (on_one s left t.run going n) ∙ ap (λ (k : ℕ). told_from k s left t.run) (sym e) in
          record {
            earlier = was.earlier;
            turns = n;
            enough = subst (λ (y : Page). ahead s y.run ≤ n) (sym is_x) (fewer n (subst (λ (k : ℕ). ahead s t.run ≤ k) e was.enough));
            whole =
                ap (λ (l : List ℕ). (was.earlier ++ l) ++ to_come s n next-left next) text
                ∙ ap (λ (y : Page). (was.earlier ++ (take t.at out ++ said)) ++ to_come s n next-left y) is_x
                ∙ ap (λ (y : Store). (was.earlier ++ (take t.at out ++ said)) ++ to_come s n y x) store_x
                ∙ ap (λ (l : List ℕ). l ++ to_come s n (store_at left here.item) x) (sym (append_assoc was.earlier (take t.at out) said))
                ∙ append_assoc before said (to_come s n (store_at left here.item) x)
                ∙ ap (λ (l : List ℕ). before ++ l) (ap (λ (p : Told). p.text) (sym (on_one s left t.run going n)) ∙ start)
                ∙ was.whole;
            run =
                ap (λ (y : Page). (told_from n s next-left y.run).run) is_x
                ∙ ap (λ (y : Store). (told_from n s y x.run).run) store_x
                ∙ ap (λ (p : Told). p.run) told_on
                ∙ was.run;
            store =
                ap (λ (y : Page). (told_from n s next-left y.run).store) is_x
                ∙ ap (λ (y : Store). (told_from n s y x.run).store) store_x
                ∙ ap (λ (p : Told). p.store) told_on
                ∙ was.store;
          }

      by_turns : (n : ℕ) → was.turns ≡ n → Prints kind s m next-left next after
      by_turns zero e = absurd (omega (arith, some s t.run was.turns going was.enough, e))
      by_turns (suc n) e = turned_by n e

      turned : Prints kind s m next-left next after
      turned = by_turns was.turns refl

      less : ahead s next.run < ahead s t.run
      less = subst (λ (y : Page). ahead s y.run < ahead s t.run) (sym is_x) (falls s left t.run going)

    -- the run is over: what it leaves, and the last of the text
    module _ (done : t.run.going ≡ false) where
      pub run_is : t.run ≡ (told_of kind m s).run
      run_is = ap (λ (p : Told). p.run) (sym (is_over s was.turns left t.run done)) ∙ was.run

      pub store_is : left ≡ (told_of kind m s).store
      store_is = ap (λ (p : Told). p.store) (sym (is_over s was.turns left t.run done)) ∙ was.store

      pub ends : Ends (told_of kind m s).text out t.at
      ends =
          let here = was.earlier ++ take t.at out in
          record {
            earlier = was.earlier;
            last = sym (append-nil here) ∙ ap (λ (l : List ℕ). here ++ l) (sym (ap (λ (p : Told). p.text) (is_over s was.turns left t.run done))) ∙ was.whole;
          }

-- ---- a turn of the loop: room for a line, and then the turn

roomed_fits : (t : Page) → (roomed t).at + 46 ≤ 65536
unfolding roomed
roomed_fits t =
    by_test (λ (x : Page). x.at + 46 ≤ 65536) (leb t.at 65490) (λ e. omega (arith, leb-true t.at 65490 e)) (λ e. omega arith)

same_run : (t : Page) → (roomed t).run ≡ t.run
unfolding roomed
same_run t = either (λ (x : Page). x.run ≡ t.run) (leb t.at 65490) refl refl

module _ (t roomy : Page) (is-room : roomy ≡ roomed t) where
  pub room_fits : roomy.at + 46 ≤ 65536
  room_fits = subst (λ (x : Page). x.at + 46 ≤ 65536) (sym is-room) (roomed_fits t)

  run_room : roomy.run ≡ t.run
  run_room = ap (λ (x : Page). x.run) is-room ∙ same_run t

  module _ (kind : ℕ) (s : List ℕ) (m left : Store) (out : List ℕ) (was : Prints kind s m left t out) (going : t.run.going ≡ true)
      (next : Page) (after : List ℕ) (next-left : Store) (found : Found) (read : found ≡ next_of s roomy.run.cursor)
      (is : next ≡ page_on left roomy found) (w : Written out roomy.at (said_on left roomy found) after next.at) (m-is : next-left ≡ store_at left found.item) (fits : next.at ≤ length out) where
    ready : Prints kind s m left roomy out
    ready = subst (λ (x : Page). Prints kind s m left x out) (sym is-room) (room kind s m left t out was)

    still : roomy.run.going ≡ true
    still = ap (λ (r : Run). r.going) run_room ∙ going

    pub stepped : Prints kind s m next-left next after
    stepped = turned kind s m left roomy out ready still next after next-left found read is w m-is fits

    pub step_less : ahead s next.run < ahead s t.run
    step_less = subst (λ (r : Run). ahead s next.run < ahead s r) run_room (less kind s m left roomy out ready still next after next-left found read is w m-is fits)
