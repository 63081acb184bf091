-- A change list played back is the next record, and lists no signal that stayed. Assumes nothing.
use Prim.Native.Nat.{ℕ, suc}
use mathlib.Core.Path.{◌≡◌, refl, sym, ◌∙◌, ap, subst}
use mathlib.Core.Bool.{Bool, true, false, cond}
use mathlib.Core.List.{List, [], ◌∷◌, ◌++◌, map}
use native.Mathlib.Omega.{arith}
use lib.Dec.{eqb}
use lib.ListN.{length, length-append}
use lib.Seq.{append_snoc, set_at, get_or_at}
use borrow.Author.Tests.{eqb-true, eqb-false}
use Rattle.vcd.specs.declared.Record.{Record}
use Rattle.vcd.specs.Signals.{change, values_of, changes_from, changes_of, played, run_changes, run_played, Each, Moved}

-- one value more stands before
on : (pre : List ℕ) (x k : ℕ) → length pre ≡ k → length (pre ++ (x ∷ [])) ≡ suc k
on pre x k h = omega (arith, length-append pre (x ∷ []))

-- the first signal, where the others are as they should be
play_head : (pre before now : List ℕ) (x y k : ℕ) (t : Bool) → eqb x y ≡ t → length pre ≡ k
    → ((v : ℕ) → played (pre ++ (v ∷ []) ++ before) (changes_from (suc k) before now) ≡ pre ++ (v ∷ []) ++ now)
    → played (pre ++ x ∷ before) (cond t (changes_from (suc k) before now) (change k y ∷ changes_from (suc k) before now)) ≡ pre ++ y ∷ now
unfolding played
play_head pre before now x y k true t h more =
    ap (λ l. played l (changes_from (suc k) before now)) (sym (append_snoc pre x before))
    ∙ more x
    ∙ append_snoc pre x now
    ∙ ap (λ (v : ℕ). pre ++ v ∷ now) (eqb-true x y t)
play_head pre before now x y k false t h more =
    ap (λ l. played l (changes_from (suc k) before now)) (set_at pre x before y k h ∙ sym (append_snoc pre y before))
    ∙ more y
    ∙ append_snoc pre y now

play_from : (pre before now : List ℕ) (k : ℕ) → length pre ≡ k → length before ≡ length now → played (pre ++ before) (changes_from k before now) ≡ pre ++ now
unfolding changes_from played
play_from pre [] [] k h e = refl
play_from pre [] (y ∷ now) k h e = absurd (omega arith)
play_from pre (x ∷ before) [] k h e = absurd (omega arith)
play_from pre (x ∷ before) (y ∷ now) k h e =
    play_head pre before now x y k (eqb x y) refl h (λ v. play_from (pre ++ (v ∷ [])) before now (suc k) (on pre v k h) (omega arith))

-- 02 (i): the change list played back gives the record of the tick
pub played_back : (before now : Record) → played (values_of before) (changes_of before now) ≡ values_of now
unfolding values_of
played_back before now = play_from [] (values_of before) (values_of now) 0 refl refl

-- 02 (i): of every tick of a run
pub run_played_back : (first : Record) (rest : List Record) → run_played (values_of first) (run_changes first rest) ≡ map values_of rest
unfolding run_played run_changes
run_played_back first [] = refl
run_played_back first (r ∷ rest) =
    let e = played_back first r in
    simp e (ap (λ (l : List (List ℕ)). values_of r ∷ l) (run_played_back r rest))

moved_head : (p q before now : List ℕ) (x y k : ℕ) (t : Bool) → eqb x y ≡ t → length p ≡ k → length q ≡ k
    → Each (Moved (p ++ x ∷ before) (q ++ y ∷ now)) (changes_from (suc k) before now)
    → Each (Moved (p ++ x ∷ before) (q ++ y ∷ now)) (cond t (changes_from (suc k) before now) (change k y ∷ changes_from (suc k) before now))
moved_head p q before now x y k true t g h more = more
moved_head p q before now x y k false t g h more =
    (((λ e. eqb-false x y t (sym (get_or_at p x before 0 k g) ∙ e)), get_or_at q y now 0 k h), more)

moved_from : (p q before now : List ℕ) (k : ℕ) → length p ≡ k → length q ≡ k → Each (Moved (p ++ before) (q ++ now)) (changes_from k before now)
unfolding changes_from
moved_from p q [] now k g h = tt
moved_from p q (x ∷ before) [] k g h = tt
moved_from p q (x ∷ before) (y ∷ now) k g h =
    moved_head p q before now x y k (eqb x y) refl g h
    (subst (λ l. Each (Moved l (q ++ y ∷ now)) (changes_from (suc k) before now)) (append_snoc p x before)
    (subst (λ l. Each (Moved (p ++ (x ∷ []) ++ before) l) (changes_from (suc k) before now)) (append_snoc q y now)
    (moved_from (p ++ (x ∷ [])) (q ++ (y ∷ [])) before now (suc k) (on p x k g) (on q y k h))))

-- 02 (i): no unchanged signal is listed
pub none_that_stayed : (before now : Record) → Each (Moved (values_of before) (values_of now)) (changes_of before now)
none_that_stayed before now = moved_from [] [] (values_of before) (values_of now) 0 refl refl
