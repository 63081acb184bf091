-- Where the numbers 7, 8, 9 and 10 are given, and nowhere else. Assumes nothing.
use mathlib.Core.Path.{◌≡◌, refl, sym, ◌∙◌, ap}
use mathlib.Core.Bool.{Bool, true, false, ◌&&◌, cond}
use mathlib.Core.List.{List, [], ◌∷◌, ◌++◌}
use Prim.Native.Nat.{ℕ, ◌≤◌, ◌<◌}
use native.Mathlib.Omega.{arith}
use Rattle.std.specs.Prelude.{Result, Ok, Err}
use native.Mathlib.Decide.{dec_lt}
use lib.Dec.{eqb, leb, ltb}
use lib.ListN.{length, get_or, drop}
use borrow.Author.Tests.{lt-ltb, le-ltb, le-leb, lt-leb, ne_eqb, eqb-true, eqb-false}
use Rattle.laws.specs.Bytes.{word}
use Rattle.laws.proofs.Choice.{either}
use Rattle.script.specs.declared.Step.{Step}
use Rattle.script.specs.declared.Step.TheVariants.{Tick, Write, Expand, Controls, Late, Borders, Bank, Control1, Control2}
use Rattle.script.specs.declared.Fault.{Fault}
use Rattle.script.specs.declared.Fault.TheVariants.{Early, NotAllowed, Retired}
use Rattle.script.specs.Step.{fault_number, allowed_if, step_decoded, step_of, number_of, Stands}
use Rattle.script.specs.File.{count_of, change_of, end_of, number_of_count, number_of_change, number_of_item}
use Rattle.script.proofs.Back.{same_step, written}
use Rattle.script.proofs.Allowed.{fine}

-- a number that is given exactly where something holds
pub record Exactly (number given : ℕ) (When : Type 0) : Type 0 where
  pub there : When → given ≡ number
  pub only : given ≡ number → When

-- five bytes that are there are refused with 8 alone, but for a retired kind
abbrev Judged : Result Step Fault → Type 0
Judged r = (fault : Fault) → r ≡ Err fault → fault ≡ NotAllowed

judged_if : (t : Bool) (step : Step) → Judged (allowed_if t step)
unfolding allowed_if
judged_if true step fault e = absurd (let z : ◌≡◌ {A = ℕ} 0 1 = cc in omega arith)
judged_if false step fault e = cc

judged : (kind a b c d : ℕ) → (kind ≡ 6 → ⊥) → Judged (step_decoded kind a b c d)
unfolding step_decoded
judged kind a b c d other =
    rw (ne_eqb kind 6 other)
    (either Judged (eqb kind 0) (judged_if (eqb a 0 && eqb b 0 && eqb c 0 && eqb d 0) Tick)
    (either Judged (eqb kind 1) (judged_if (eqb c 0 && eqb d 0) (Write a b))
    (either Judged (eqb kind 2) (judged_if (eqb b 0 && eqb c 0 && eqb d 0) (Expand a))
    (either Judged (eqb kind 3) (judged_if (leb (word c d) 511) (Controls a b (word c d)))
    (either Judged (eqb kind 4) (judged_if (eqb b 0 && eqb c 0 && eqb d 0) (Late a))
    (either Judged (eqb kind 5) (judged_if (eqb a 0 && eqb b 0 && eqb c 0 && eqb d 0) Borders)
    (either Judged (eqb kind 7) (judged_if (leb a 3 && eqb b 0 && eqb c 0 && eqb d 0) (Bank a))
    (either Judged (eqb kind 8) (judged_if (eqb b 0 && eqb c 0 && eqb d 0) (Control1 a))
    (either Judged (eqb kind 9) (judged_if (eqb b 0 && eqb c 0 && eqb d 0) (Control2 a))
    (λ fault e. cc))))))))))

-- 02 (vii): a retired kind is 10, whatever its fields
retired : (a b c d : ℕ) → step_decoded 6 a b c d ≡ Err Retired
unfolding step_decoded
retired a b c d = refl

judged_by : (kind a b c d : ℕ) (fault : Fault) (t : Bool) → eqb kind 6 ≡ t → step_decoded kind a b c d ≡ Err fault → fault ≡ cond t Retired NotAllowed
judged_by kind a b c d fault true q e =
    let six : step_decoded kind a b c d ≡ Err Retired = rw (eqb-true kind 6 q) (retired a b c d) in
    cc
judged_by kind a b c d fault false q e = judged kind a b c d (eqb-false kind 6 q) fault e

-- so never with 7, with 8 where the kind is not retired, and with 10 where it is
neither : (t : Bool) (fault : Fault) → fault ≡ cond t Retired NotAllowed → fault_number fault ≡ 7 → ⊥
unfolding fault_number
neither true Early e q = absurd (let z : ◌≡◌ {A = ℕ} 0 1 = cc in omega arith)
neither false Early e q = absurd (let z : ◌≡◌ {A = ℕ} 0 1 = cc in omega arith)
neither t NotAllowed e q = omega arith
neither t Retired e q = omega arith

only_ten : (t : Bool) (fault : Fault) → fault ≡ cond t Retired NotAllowed → fault_number fault ≡ 10 → t ≡ true
unfolding fault_number
only_ten true fault e q = refl
only_ten false Early e q = absurd (omega arith)
only_ten false NotAllowed e q = absurd (omega arith)
only_ten false Retired e q = absurd (let z : ◌≡◌ {A = ℕ} 0 1 = cc in omega arith)

only_eight : (t : Bool) (fault : Fault) → fault ≡ cond t Retired NotAllowed → fault_number fault ≡ 8 → t ≡ false
unfolding fault_number
only_eight false fault e q = refl
only_eight true Early e q = absurd (omega arith)
only_eight true NotAllowed e q = absurd (let z : ◌≡◌ {A = ℕ} 0 1 = cc in omega arith)
only_eight true Retired e q = absurd (omega arith)

module _ (kind a b c d : ℕ) where
  never_7 : (r : Result Step Fault) → step_decoded kind a b c d ≡ r → number_of r ≡ 7 → ⊥
  unfolding number_of fault_number
  never_7 (Ok step) q e = omega arith
  never_7 (Err fault) q e = neither (eqb kind 6) fault (judged_by kind a b c d fault (eqb kind 6) refl q) e

  is_10 : (r : Result Step Fault) → step_decoded kind a b c d ≡ r → number_of r ≡ 10 → kind ≡ 6
  unfolding number_of fault_number
  is_10 (Ok step) q e = absurd (omega arith)
  is_10 (Err fault) q e = eqb-true kind 6 (only_ten (eqb kind 6) fault (judged_by kind a b c d fault (eqb kind 6) refl q) e)

  is_8 : (r : Result Step Fault) → step_decoded kind a b c d ≡ r → number_of r ≡ 8 → kind ≡ 6 → ⊥
  unfolding number_of fault_number
  is_8 (Ok step) q e = absurd (omega arith)
  is_8 (Err fault) q e = eqb-false kind 6 (only_eight (eqb kind 6) fault (judged_by kind a b c d fault (eqb kind 6) refl q) e)

-- 01, Numbers: a step is 7 exactly where the file ends in it
pub step_7 : (s : List ℕ) → Exactly 7 (number_of (step_of s)) (length s < 5)
unfolding step_of number_of fault_number
step_7 s = record { there = λ h. simp (lt-ltb (length s) 5 h); only = λ e. by_order (dec_lt (length s) 5) e }
  where
    by_order : Dec (length s < 5) → number_of (step_of s) ≡ 7 → length s < 5
    by_order (yes h) e = h
    by_order (no h) e = absurd (never_7 (get_or s 0 0) (get_or s 1 0) (get_or s 2 0) (get_or s 3 0) (get_or s 4 0) _ refl (simp (le-ltb (length s) 5 (omega arith)) at e))

-- 01, Numbers: and so is a count
pub count_7 : (most : ℕ) (s : List ℕ) → Exactly 7 (number_of_count (count_of most s)) (length s < 2)
unfolding count_of number_of_count fault_number
count_7 most s = record { there = λ h. simp (lt-ltb (length s) 2 h); only = λ e. by_order (dec_lt (length s) 2) (ltb most (word (get_or s 0 0) (get_or s 1 0))) refl e }
  where
    by_order : Dec (length s < 2) → (t : Bool) → ltb most (word (get_or s 0 0) (get_or s 1 0)) ≡ t → number_of_count (count_of most s) ≡ 7 → length s < 2
    by_order (yes h) t q e = h
    by_order (no h) true q e = absurd (let x = simp (le-ltb (length s) 2 (omega arith), q) at e in omega arith)
    by_order (no h) false q e = absurd (let x = simp (le-ltb (length s) 2 (omega arith), q) at e in omega arith)

-- 01, Numbers: and so is a change
pub change_7 : (size : ℕ) (s : List ℕ) → Exactly 7 (number_of_change (change_of size s)) (length s < 3)
unfolding change_of number_of_change fault_number
change_7 size s = record { there = λ h. simp (lt-ltb (length s) 3 h); only = λ e. by_order (dec_lt (length s) 3) (leb size (word (get_or s 0 0) (get_or s 1 0))) refl e }
  where
    by_order : Dec (length s < 3) → (t : Bool) → leb size (word (get_or s 0 0) (get_or s 1 0)) ≡ t → number_of_change (change_of size s) ≡ 7 → length s < 3
    by_order (yes h) t q e = h
    by_order (no h) true q e = absurd (let x = simp (le-ltb (length s) 3 (omega arith), q) at e in omega arith)
    by_order (no h) false q e = absurd (let x = simp (le-ltb (length s) 3 (omega arith), q) at e in omega arith)

-- 01, Numbers: 9 exactly where bytes stand after the last step
pub end_9 : (s : List ℕ) → Exactly 9 (number_of_item (end_of s)) (0 < length s)
unfolding end_of number_of_item
end_9 [] = record { there = λ h. absurd (omega arith); only = λ e. absurd (omega arith) }
end_9 (x ∷ s) = record { there = λ h. refl; only = λ e. omega arith }

-- ---- 8

five : (s : List ℕ) → 5 ≤ length s → s ≡ get_or s 0 0 ∷ get_or s 1 0 ∷ get_or s 2 0 ∷ get_or s 3 0 ∷ get_or s 4 0 ∷ drop 5 s
five [] h = absurd (omega arith)
five (k ∷ []) h = absurd (omega arith)
five (k ∷ a ∷ []) h = absurd (omega arith)
five (k ∷ a ∷ b ∷ []) h = absurd (omega arith)
five (k ∷ a ∷ b ∷ c ∷ []) h = absurd (omega arith)
five (k ∷ a ∷ b ∷ c ∷ d ∷ s) h = refl

-- five bytes that are there are judged
decoded : (s : List ℕ) → 5 ≤ length s → step_of s ≡ step_decoded (get_or s 0 0) (get_or s 1 0) (get_or s 2 0) (get_or s 3 0) (get_or s 4 0)
unfolding step_of
decoded s h = simp (le-ltb (length s) 5 h)

-- 02 (vii): a step is 10 exactly where five bytes are there and the first is 6
pub step_10 : (s : List ℕ) → Exactly 10 (number_of (step_of s)) ((5 ≤ length s) × (get_or s 0 0 ≡ 6))
unfolding number_of fault_number
step_10 s =
    record {
      there = λ w. ap number_of (decoded s w.0) ∙ by_kind w.1;
      only = λ e. by_order (dec_lt (length s) 5) e;
    }
  where
    by_kind : get_or s 0 0 ≡ 6 → number_of (step_decoded (get_or s 0 0) (get_or s 1 0) (get_or s 2 0) (get_or s 3 0) (get_or s 4 0)) ≡ 10
    by_kind q = rw q (ap number_of (retired (get_or s 1 0) (get_or s 2 0) (get_or s 3 0) (get_or s 4 0)))

    by_order : Dec (length s < 5) → number_of (step_of s) ≡ 10 → (5 ≤ length s) × (get_or s 0 0 ≡ 6)
    by_order (yes h) e = absurd (omega (arith, (step_7 s).there h))
    by_order (no h) e =
        let there : 5 ≤ length s = omega arith in
        (there, is_10 (get_or s 0 0) (get_or s 1 0) (get_or s 2 0) (get_or s 3 0) (get_or s 4 0) _ refl (sym (ap number_of (decoded s there)) ∙ e))

-- 01, Numbers: a step is 8 exactly where five bytes are there, the kind is not retired, and they are no allowed step
module _ (s : List ℕ) (byte : get_or s 3 0 < 256) where
  refused_8 : 5 ≤ length s → (get_or s 0 0 ≡ 6 → ⊥) → (Stands s → ⊥) → (r : Result Step Fault) → step_decoded (get_or s 0 0) (get_or s 1 0) (get_or s 2 0) (get_or s 3 0) (get_or s 4 0) ≡ r → number_of r ≡ 8
  unfolding number_of fault_number
  refused_8 h other none (Ok step) e =
      absurd (none record {
        step = step;
        fine = fine (get_or s 0 0) (get_or s 1 0) (get_or s 2 0) (get_or s 3 0) (get_or s 4 0) step e;
        more = drop 5 s;
        bytes = five s h ∙ ap (λ (l : List ℕ). l ++ drop 5 s) (sym (written (get_or s 0 0) (get_or s 1 0) (get_or s 2 0) (get_or s 3 0) (get_or s 4 0) step byte e));
      })
  refused_8 h other none (Err fault) e = ap fault_number (judged (get_or s 0 0) (get_or s 1 0) (get_or s 2 0) (get_or s 3 0) (get_or s 4 0) other fault e)

  stands_0 : Stands s → number_of (step_of s) ≡ 0
  unfolding number_of fault_number
  stands_0 w = ap (λ (l : List ℕ). number_of (step_of l)) w.bytes ∙ ap number_of (same_step w.step w.more w.fine)

  pub step_8 : Exactly 8 (number_of (step_of s)) ((5 ≤ length s) × (get_or s 0 0 ≡ 6 → ⊥) × (Stands s → ⊥))
  step_8 =
      record {
        there = λ w. ap number_of (decoded s w.0) ∙ refused_8 w.0 w.1 w.2 _ refl;
        only = λ e. by_order (dec_lt (length s) 5) e;
      }
    where
      by_order : Dec (length s < 5) → number_of (step_of s) ≡ 8 → (5 ≤ length s) × (get_or s 0 0 ≡ 6 → ⊥) × (Stands s → ⊥)
      by_order (yes h) e = absurd (omega (arith, (step_7 s).there h))
      by_order (no h) e =
          let there : 5 ≤ length s = omega arith in
          (there, is_8 (get_or s 0 0) (get_or s 1 0) (get_or s 2 0) (get_or s 3 0) (get_or s 4 0) _ refl (sym (ap number_of (decoded s there)) ∙ e), λ w. omega (arith, stands_0 w))

-- 01, Numbers: a count is 8 exactly where its two bytes are there, and it is above its limit
pub count_8 : (most : ℕ) (s : List ℕ) → Exactly 8 (number_of_count (count_of most s)) ((2 ≤ length s) × (most < word (get_or s 0 0) (get_or s 1 0)))
unfolding count_of number_of_count fault_number
count_8 most s = record { there = λ h. simp (le-ltb (length s) 2 h.0, lt-ltb most _ h.1); only = λ e. by_order (dec_lt (length s) 2) (dec_lt most (word (get_or s 0 0) (get_or s 1 0))) e }
  where
    by_order : Dec (length s < 2) → Dec (most < word (get_or s 0 0) (get_or s 1 0)) → number_of_count (count_of most s) ≡ 8 → (2 ≤ length s) × (most < word (get_or s 0 0) (get_or s 1 0))
    by_order (yes h) t e = absurd (omega (arith, (count_7 most s).there h))
    by_order (no h) (yes t) e = (omega arith, t)
    by_order (no h) (no t) e = absurd (let x = simp (le-ltb (length s) 2 (omega arith), le-ltb most (word (get_or s 0 0) (get_or s 1 0)) (omega arith)) at e in omega arith)

-- 01, Numbers: a change is 8 exactly where its three bytes are there, and the address is past its memory
pub change_8 : (size : ℕ) (s : List ℕ) → Exactly 8 (number_of_change (change_of size s)) ((3 ≤ length s) × (size ≤ word (get_or s 0 0) (get_or s 1 0)))
unfolding change_of number_of_change fault_number
change_8 size s = record { there = λ h. simp (le-ltb (length s) 3 h.0, le-leb size _ h.1); only = λ e. by_order (dec_lt (length s) 3) (dec_lt (word (get_or s 0 0) (get_or s 1 0)) size) e }
  where
    by_order : Dec (length s < 3) → Dec (word (get_or s 0 0) (get_or s 1 0) < size) → number_of_change (change_of size s) ≡ 8 → (3 ≤ length s) × (size ≤ word (get_or s 0 0) (get_or s 1 0))
    by_order (yes h) t e = absurd (omega (arith, (change_7 size s).there h))
    by_order (no h) (no t) e = (omega arith, omega arith)
    by_order (no h) (yes t) e = absurd (let x = simp (le-ltb (length s) 3 (omega arith), lt-leb size (word (get_or s 0 0) (get_or s 1 0)) t) at e in omega arith)
