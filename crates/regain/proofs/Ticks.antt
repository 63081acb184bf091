-- A tick that we write, read back. Assumes nothing.
use Prim.Native.Nat.{ℕ, zero, suc, ◌+◌, ◌-◌, ◌^◌, ◌≤◌, ◌<◌}
use mathlib.Core.Path.{◌≡◌, refl, sym, ◌∙◌, ap, subst}
use mathlib.Core.Bool.{Bool, true, false, cond}
use mathlib.Core.List.{List, [], ◌∷◌, ◌++◌, append_assoc}
use native.Mathlib.Omega.{arith}
use lib.Dec.{eqb, ltb}
use lib.ListN.{length, set, length-append}
use lib.Seq.{append_snoc, set_at}
use borrow.Author.Tests.{eqb-true, le-ltb}
use Rattle.vcd.specs.declared.Record.{Record}
use Rattle.vcd.specs.Signals.{change, width_of, values_of, Within, WithinFrom, changes_from, changes_of, all_from, all_of}
use Rattle.vcd.specs.Text.{digits_of, change_text, changes_text, mark_text}
use Rattle.vcd.proofs.Short.{digits_few}
use Rattle.viewer.proofs.Split.{blacks}
use Rattle.viewer.proofs.Digits.{fine, digits_black}
use Rattle.grammar.specs.declared.Phase.TheVariants.{Body}
use Rattle.grammar.specs.Words.{Word, lower}
use Rattle.grammar.specs.Times.{time_of}
use Rattle.grammar.specs.Grammar.{State, marked, timed, moved, in_body, head_by, listed, step_by, step}
use Rattle.grammar.specs.Reading.{Said, Tick, repeated, told_by, told, phase_after, settled}
use Rattle.regain.specs.Regained.{known}
use Rattle.regain.proofs.Takes.{Takes, both, nothing, word_takes, seen_whole}
use Rattle.regain.proofs.Numbers.{mark_time}
use Rattle.regain.proofs.Steps.{at, body, quiet_body, change_takes}

-- nothing known gets unknown
stays : (k : ℕ) → k < 8 → set known k 0 ≡ known
stays zero h = refl
stays (suc zero) h = refl
stays (suc (suc zero)) h = refl
stays (suc (suc (suc zero))) h = refl
stays (suc (suc (suc (suc zero)))) h = refl
stays (suc (suc (suc (suc (suc zero))))) h = refl
stays (suc (suc (suc (suc (suc (suc zero)))))) h = refl
stays (suc (suc (suc (suc (suc (suc (suc zero))))))) h = refl
stays (suc (suc (suc (suc (suc (suc (suc (suc k)))))))) h = absurd (omega arith)

on : (pre : List ℕ) (x k : ℕ) → length pre ≡ k → length (pre ++ (x ∷ [])) ≡ suc k
on pre x k h = omega (arith, length-append pre (x ∷ []))

abbrev knowing : List ℕ → ℕ → State
knowing v t = body v known true t

module _ (t : ℕ) where
  -- a change of the signal whose place comes next
  onto : (pre : List ℕ) (x y : ℕ) (post : List ℕ) (k : ℕ) → length pre ≡ k → k < 8 → y < 2 ^ width_of k
      → Takes 4096 (knowing (pre ++ x ∷ post) t) (change_text (change k y)) [] (knowing ((pre ++ (y ∷ [])) ++ post) t)
  onto pre x y post k h small f =
      subst (λ (s : State). Takes 4096 (knowing (pre ++ x ∷ post) t) (change_text (change k y)) [] s)
      (ap (λ (l : List ℕ). body l (set known k 0) true t) (set_at pre x post y k h ∙ sym (append_snoc pre y post)) ∙ ap (λ (u : List ℕ). body ((pre ++ (y ∷ [])) ++ post) u true t) (stays k small))
      (change_takes k y small f (pre ++ x ∷ post) known true t)

  moved_by_lem : (pre : List ℕ) (x y k : ℕ) (before now : List ℕ) (same : Bool) → eqb x y ≡ same → length pre ≡ k → k < 8 → y < 2 ^ width_of k
      → ((v : ℕ) → Takes 4096 (knowing ((pre ++ (v ∷ [])) ++ before) t) (changes_text (changes_from (suc k) before now)) [] (knowing ((pre ++ (v ∷ [])) ++ now) t))
      → Takes 4096 (knowing (pre ++ x ∷ before) t) (changes_text (cond same (changes_from (suc k) before now) (change k y ∷ changes_from (suc k) before now))) [] (knowing (pre ++ y ∷ now) t)
  unfolding changes_text
  moved_by_lem pre x y k before now true e h small f more =
      let cs = changes_text (changes_from (suc k) before now) in
      subst (λ (n : ℕ). Takes 4096 (knowing (pre ++ x ∷ before) t) cs [] (knowing (pre ++ n ∷ now) t)) (eqb-true x y e)
      (subst (λ (l : List ℕ). Takes 4096 (knowing (pre ++ x ∷ before) t) cs [] (knowing l t)) (append_snoc pre x now)
      (subst (λ (l : List ℕ). Takes 4096 (knowing l t) cs [] (knowing ((pre ++ (x ∷ [])) ++ now) t)) (append_snoc pre x before) (more x)))
  moved_by_lem pre x y k before now false e h small f more =
      let cs = changes_text (changes_from (suc k) before now) in
      subst (λ (l : List ℕ). Takes 4096 (knowing (pre ++ x ∷ before) t) (change_text (change k y) ++ cs) [] (knowing l t)) (append_snoc pre y now)
      (both (onto pre x y before k h small f) (more y))

  -- 02 (i): a later tick gives those that changed
  moved_takes : (pre before now : List ℕ) (k : ℕ) → length pre ≡ k → length before ≡ length now → k + length now ≡ 8 → WithinFrom k now
      → Takes 4096 (knowing (pre ++ before) t) (changes_text (changes_from k before now)) [] (knowing (pre ++ now) t)
  unfolding changes_text changes_from
  moved_takes pre [] [] k h l e f = nothing 4096 (knowing (pre ++ []) t)
  moved_takes pre [] (y ∷ now) k h l e f = absurd (omega arith)
  moved_takes pre (x ∷ before) [] k h l e f = absurd (omega arith)
  moved_takes pre (x ∷ before) (y ∷ now) k h l e f =
      moved_by_lem pre x y k before now (eqb x y) refl h (omega arith) f.0
      (λ v. moved_takes (pre ++ (v ∷ [])) before now (suc k) (on pre v k h) (omega arith) (omega arith) f.1)

  pub changes_take : (was now : Record) → Within now → Takes 4096 (knowing (values_of was) t) (changes_text (changes_of was now)) [] (knowing (values_of now) t)
  unfolding values_of
  changes_take was now f = moved_takes [] (values_of was) (values_of now) 0 refl refl refl f

-- 02 (i): the first tick gives every signal
pub all_take : (v u : ℕ → ℕ) (r : Record) → Within r
    → Takes 4096 (body (v 0 ∷ v 1 ∷ v 2 ∷ v 3 ∷ v 4 ∷ v 5 ∷ v 6 ∷ v 7 ∷ []) (u 0 ∷ u 1 ∷ u 2 ∷ u 3 ∷ u 4 ∷ u 5 ∷ u 6 ∷ u 7 ∷ []) true 0) (changes_text (all_of r)) [] (knowing (values_of r) 0)
unfolding changes_text all_from values_of
all_take v u r f =
    both (change_takes 0 r.cycle (omega arith) f.0 (v 0 ∷ v 1 ∷ v 2 ∷ v 3 ∷ v 4 ∷ v 5 ∷ v 6 ∷ v 7 ∷ []) (u 0 ∷ u 1 ∷ u 2 ∷ u 3 ∷ u 4 ∷ u 5 ∷ u 6 ∷ u 7 ∷ []) true 0)
    (both (change_takes 1 r.raster (omega arith) f.1.0 (r.cycle ∷ v 1 ∷ v 2 ∷ v 3 ∷ v 4 ∷ v 5 ∷ v 6 ∷ v 7 ∷ []) (0 ∷ u 1 ∷ u 2 ∷ u 3 ∷ u 4 ∷ u 5 ∷ u 6 ∷ u 7 ∷ []) true 0)
    (both (change_takes 2 r.ba (omega arith) f.1.1.0 (r.cycle ∷ r.raster ∷ v 2 ∷ v 3 ∷ v 4 ∷ v 5 ∷ v 6 ∷ v 7 ∷ []) (0 ∷ 0 ∷ u 2 ∷ u 3 ∷ u 4 ∷ u 5 ∷ u 6 ∷ u 7 ∷ []) true 0)
    (both (change_takes 3 r.aec (omega arith) f.1.1.1.0 (r.cycle ∷ r.raster ∷ r.ba ∷ v 3 ∷ v 4 ∷ v 5 ∷ v 6 ∷ v 7 ∷ []) (0 ∷ 0 ∷ 0 ∷ u 3 ∷ u 4 ∷ u 5 ∷ u 6 ∷ u 7 ∷ []) true 0)
    (both (change_takes 4 r.dma (omega arith) f.1.1.1.1.0 (r.cycle ∷ r.raster ∷ r.ba ∷ r.aec ∷ v 4 ∷ v 5 ∷ v 6 ∷ v 7 ∷ []) (0 ∷ 0 ∷ 0 ∷ 0 ∷ u 4 ∷ u 5 ∷ u 6 ∷ u 7 ∷ []) true 0)
    (both (change_takes 5 r.rc (omega arith) f.1.1.1.1.1.0 (r.cycle ∷ r.raster ∷ r.ba ∷ r.aec ∷ r.dma ∷ v 5 ∷ v 6 ∷ v 7 ∷ []) (0 ∷ 0 ∷ 0 ∷ 0 ∷ 0 ∷ u 5 ∷ u 6 ∷ u 7 ∷ []) true 0)
    (both (change_takes 6 r.vc (omega arith) f.1.1.1.1.1.1.0 (r.cycle ∷ r.raster ∷ r.ba ∷ r.aec ∷ r.dma ∷ r.rc ∷ v 6 ∷ v 7 ∷ []) (0 ∷ 0 ∷ 0 ∷ 0 ∷ 0 ∷ 0 ∷ u 6 ∷ u 7 ∷ []) true 0)
    (both (change_takes 7 r.irq (omega arith) f.1.1.1.1.1.1.1.0 (r.cycle ∷ r.raster ∷ r.ba ∷ r.aec ∷ r.dma ∷ r.rc ∷ r.vc ∷ v 7 ∷ []) (0 ∷ 0 ∷ 0 ∷ 0 ∷ 0 ∷ 0 ∷ 0 ∷ u 7 ∷ []) true 0)
    (nothing 4096 (knowing (values_of r) 0)))))))))

-- ---- a mark

module _ (v : List ℕ) (t : ℕ) (small : suc t < 18446744073709551616) where
  abbrev ds : Word
  ds = digits_of 10 19 (suc t)

  abbrev z : State
  z = at Body v known true t (suc t)

  goes : step_by (knowing v t) (35 ∷ ds) false ≡ z
  unfolding step_by listed head_by in_body lower marked timed moved
  goes = simp (mark_time (suc t) small, le-ltb (suc t) t (omega arith))

  one_unit : repeated (suc t - t) t v known ≡ Tick t v known ∷ []
  unfolding repeated
  one_unit = ap (λ (n : ℕ). repeated n t v known) (let z : suc t - t ≡ 1 = omega arith in z)

  tells : (n : ℕ) → told z.head n ≡ Tick t v known ∷ []
  unfolding told told_by
  tells n = ap (λ (l : List Said). l ++ []) one_unit

  black : blacks (35 ∷ ds) ≡ true
  unfolding blacks
  black = simp (digits_black 10 ds (fine 10 (omega arith) 19 (suc t)))

  -- 02 (i): one time unit a tick; 02 (xiii), reading 12: a later mark tells the tick before it
  pub mark_takes : Takes 4096 (knowing v t) (mark_text (suc t)) (Tick t v known ∷ []) (knowing v (suc t))
  unfolding mark_text settled phase_after
  mark_takes =
      word_takes 4096 (knowing v t) (quiet_body v known true t) 35 ds 10 black refl z (knowing v (suc t)) (Tick t v known ∷ [])
      (seen_whole 4096 (knowing v t) (35 ∷ ds) (omega (arith, digits_few 10 19 (suc t))) ∙ goes) tells refl
