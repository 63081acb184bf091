-- The bus of a line by the words of its first and its last cycles. Assumes nothing.
use Prim.Native.Nat.{ℕ, zero, suc, ◌<◌, ◌≤◌, ◌+◌, ◌-◌, ◌*◌, ◌/◌, ◌^◌}
use mathlib.Core.Path.{◌≡◌, refl, ◌∙◌, sym, ap}
use mathlib.Core.Bool.{Bool, true, false, not, ◌&&◌, cond}
use native.Mathlib.Omega.{arith}
use native.Mathlib.Decide.{dec_lt}
use lib.Dec.{eqb, ltb, leb}
use lib.Bits.{bit_and, bit_xor}
use lib.Count.{ones}
use lib.IntN.{ℤ}
use borrow.Author.Tests.{lt-ltb, le-ltb, ne_eqb}
use Rattle.laws.specs.Bits.{has_bit}
use Rattle.laws.proofs.Below as Below
use Rattle.laws.proofs.Choice.{and_false, and_true, never_both}
use Rattle.schedule.specs.Kind.{Kind, the6569, the6567_r8, last_cycle}
use Rattle.schedule.specs.Requests.{mask_at}
use Rattle.schedule.proofs.Places.{last_least, last_most}
use Rattle.arbitration.specs.declared.Bus.{Bus}
use Rattle.arbitration.specs.Bus.{sprite_asks, clock_on, fresh}
use Rattle.arbitration.specs.Set.{aec≔}
use Rattle.lines.specs.Bus.{Masks, asks, waited, asked_before, held_before, low_in, count_in, fall_by, rise_by, lost_by, bus_by, bus_line}
use Rattle.waves.specs.Waves.{Wave, low_early, low_late, count_of, edge_of, four_of}
use Rattle.waves.proofs.Words.{as_wave, pad, one_more_lem, later, both, less, four_more}
use Rattle.waves.proofs.Edges.{edge_by, count_by}
use Rattle.waves.proofs.Asks.{early_asks, eleven, matrix_asks, late_asks}

abbrev pub without : ℕ → ℕ → ℕ
without a b = bit_xor a (bit_and a b)

-- ---- any line

module _ (k : Kind) (bad : Bool) (m : Masks) (b : Bus) where
  abbrev before : ℕ → ℕ → Bool
  before = asked_before k bad m b

  newest : (c : ℕ) → 1 ≤ c → asked_before k bad m b c 0 ≡ asks k bad m c
  unfolding asked_before
  newest c l = let e : c - 0 ≡ c = omega arith in rw (lt-ltb 0 c l, e)

  older : (c j : ℕ) → asked_before k bad m b (suc c) (suc j) ≡ asked_before k bad m b c j
  unfolding asked_before
  older c j = by (dec_lt j c)
    where
      x : suc c - suc j ≡ c - j
      x = omega arith

      y : suc j - suc c ≡ j - c
      y = omega arith

      by : Dec (j < c) → cond (ltb (suc j) (suc c)) (asks k bad m (suc c - suc j)) (waited b.aec (suc j - suc c)) ≡ cond (ltb j c) (asks k bad m (c - j)) (waited b.aec (j - c))
      by (yes h) = rw (lt-ltb j c h, lt-ltb (suc j) (suc c) (omega arith), x)
      by (no h) = rw (le-ltb j c (omega arith), le-ltb (suc j) (suc c) (omega arith), y)

  -- the requests of a cycle and of the three before it, each as one three cycles back
  back0 : (c : ℕ) → asked_before k bad m b (c + 3) 3 ≡ asked_before k bad m b c 0
  back0 c = let e : c + 3 ≡ suc (suc (suc c)) = omega arith in ap (λ (n : ℕ). before n 3) e ∙ older (suc (suc c)) 2 ∙ older (suc c) 1 ∙ older c 0

  back1 : (c : ℕ) → asked_before k bad m b (c + 2) 3 ≡ asked_before k bad m b c 1
  back1 c = let e : c + 2 ≡ suc (suc c) = omega arith in ap (λ (n : ℕ). before n 3) e ∙ older (suc c) 2 ∙ older c 1

  back2 : (c : ℕ) → asked_before k bad m b (c + 1) 3 ≡ asked_before k bad m b c 2
  back2 c = let e : c + 1 ≡ suc c = omega arith in ap (λ (n : ℕ). before n 3) e ∙ older c 2

  back : (c j : ℕ) → j < c → asked_before k bad m b c j ≡ asks k bad m (c - j)
  unfolding asked_before
  back c j l = rw (lt-ltb j c l)

  four_low : {n : ℕ} {w : ℕ} (c t : ℕ) → t ≡ n + 3 → Wave t (λ i. asked_before k bad m b (c + i) 3) w → Wave n (λ i. low_in k bad m b (c + i)) (four_of w)
  unfolding low_in
  four_low {n} {w} c t e x =
      let e1 : t ≡ (n + 2) + 1 = omega arith in
      let e2 : t ≡ (n + 1) + 2 = omega arith in
      as_wave (both (both (both (later 3 e x) (later {n = n + 1} 2 e2 x) (omega arith)) (later {n = n + 2} 1 e1 x) (omega arith)) x (omega arith)) (λ i. low_in k bad m b (c + i)) by
    where
      by : (i : ℕ) → i < n → (before (c + (3 + i)) 3 && before (c + (2 + i)) 3 && before (c + (1 + i)) 3 && before (c + i) 3) ≡ (before (c + i) 0 && before (c + i) 1 && before (c + i) 2 && before (c + i) 3)
      by i l =
          let p : c + (3 + i) ≡ (c + i) + 3 = omega arith in
          let q : c + (2 + i) ≡ (c + i) + 2 = omega arith in
          let r : c + (1 + i) ≡ (c + i) + 1 = omega arith in
          rw (p, q, r, back0 (c + i), back1 (c + i), back2 (c + i))

  held : (c : ℕ) → 1 ≤ c → held_before k bad m b (suc c) ≡ asks k bad m c
  unfolding held_before
  held c l = let e : suc c - 1 ≡ c = omega arith in rw (ne_eqb (suc c) 1 (λ z. omega arith), e)

  held_first : held_before k bad m b 1 ≡ b.balow
  unfolding held_before
  held_first = refl

  -- ---- cycles 1 to 11

  module _ {first : ℕ} (x : Wave 10 (λ i. sprite_asks m.before (mask_at k (suc i))) first) where
    early_word : Wave 10 (λ i. asks k bad m (suc i)) first
    early_word = as_wave x (λ i. asks k bad m (suc i)) (λ i h. sym (early_asks k bad m (suc i) (omega arith)))

    early_run : {run : ℕ} → Wave 4 (λ i. waited b.aec (3 - i)) run → Wave 14 (λ i. asked_before k bad m b (0 + i) 3) (first * 16 + run)
    unfolding asked_before
    early_run y = four_more early_word refl y (λ i. asked_before k bad m b (0 + i) 3) low high
      where
        low : (i : ℕ) → i < 4 → waited b.aec (3 - i) ≡ cond (ltb 3 (0 + i)) (asks k bad m (0 + i - 3)) (waited b.aec (3 - (0 + i)))
        low i h = let e : 0 + i ≡ i = omega arith in rw (e, le-ltb 3 i (omega arith))

        high : (i : ℕ) → i < 10 → asks k bad m (suc i) ≡ cond (ltb 3 (0 + (4 + i))) (asks k bad m (0 + (4 + i) - 3)) (waited b.aec (3 - (0 + (4 + i))))
        high i h = let e : 0 + (4 + i) - 3 ≡ suc i = omega arith in rw (lt-ltb 3 (0 + (4 + i)) (omega arith), e)

    pub early_lows : {run : ℕ} → Wave 4 (λ i. waited b.aec (3 - i)) run → Wave 11 (λ i. low_in k bad m b i) (four_of (first * 16 + run))
    early_lows y = as_wave (four_low 0 14 refl (early_run y)) (λ i. low_in k bad m b i) (λ i h. let e : 0 + i ≡ i = omega arith in ap (low_in k bad m b) e)

    early_asked : Wave 11 (λ i. asks k bad m (suc (0 + i))) first
    early_asked = as_wave (pad early_word (eleven k bad m)) (λ i. asks k bad m (suc (0 + i))) (λ i h. let e : i ≡ 0 + i = omega arith in ap (λ (j : ℕ). asks k bad m (suc j)) e)

    early_held : Wave 11 (λ i. held_before k bad m b (suc (0 + i))) (first * 2 + cond b.balow 1 0)
    early_held = one_more_lem early_word b.balow (λ i. held_before k bad m b (suc (0 + i))) (sym held_first) (λ i h. let e : suc (0 + suc i) ≡ suc (suc i) = omega arith in sym (ap (held_before k bad m b) e ∙ held (suc i) (omega arith)))

  -- ---- cycles 12 to 54

  fall_middle : (n : ℕ) → n ≤ 42 → fall_by k bad m b (12 + n) ≡ cond bad (clock_on 12 b.clock) (fall_by k bad m b 11)
  unfolding fall_by
  fall_middle zero l = rw (matrix_asks k bad m 12 (omega arith) (omega arith), held 11 (omega arith), eleven k bad m, and_true bad)
  fall_middle (suc n) l =
      let e : 12 + suc n ≡ suc (12 + n) = omega arith in
      rw (e, matrix_asks k bad m (suc (12 + n)) (omega arith) (omega arith), held (12 + n) (omega arith), matrix_asks k bad m (12 + n) (omega arith) (omega arith), never_both bad) (fall_middle n (omega arith))

  not_both : (a : Bool) → (not a && a) ≡ false
  not_both true = refl
  not_both false = refl

  rise_middle : (n : ℕ) → n ≤ 42 → rise_by k bad m b (12 + n) ≡ rise_by k bad m b 11
  unfolding rise_by
  rise_middle zero l = rw (matrix_asks k bad m 12 (omega arith) (omega arith), held 11 (omega arith), eleven k bad m, and_false (not bad))
  rise_middle (suc n) l =
      let e : 12 + suc n ≡ suc (12 + n) = omega arith in
      rw (e, matrix_asks k bad m (suc (12 + n)) (omega arith) (omega arith), held (12 + n) (omega arith), matrix_asks k bad m (12 + n) (omega arith) (omega arith), not_both bad) (rise_middle n (omega arith))

  -- cycle 11 has no request, so AEC is high up to cycle 14
  high_at : (c j : ℕ) → c ≡ 11 + j → asked_before k bad m b c j ≡ false
  high_at c j e = let p : c - j ≡ 11 = omega arith in back c j (omega arith) ∙ ap (asks k bad m) p ∙ eleven k bad m

  high_11 : low_in k bad m b 11 ≡ false
  unfolding low_in
  high_11 = rw (high_at 11 0 refl)

  high_12 : low_in k bad m b 12 ≡ false
  unfolding low_in
  high_12 = rw (high_at 12 1 refl, and_false (before 12 0))

  high_13 : low_in k bad m b 13 ≡ false
  unfolding low_in
  high_13 = rw (high_at 13 2 refl, and_false (before 13 0 && before 13 1))

  high_14 : low_in k bad m b 14 ≡ false
  unfolding low_in
  high_14 = rw (high_at 14 3 refl, and_false (before 14 0 && before 14 1 && before 14 2))

  lost_14 : lost_by k bad m b 14 ≡ lost_by k bad m b 10
  unfolding lost_by
  lost_14 = rw (high_11, high_12, high_13, high_14) (omega arith)

  all_four : (a : Bool) → (a && a && a && a) ≡ a
  all_four true = refl
  all_four false = refl

  low_middle : (c : ℕ) → 15 ≤ c → c ≤ 54 → low_in k bad m b c ≡ bad
  unfolding low_in
  low_middle c l h =
      rw (back c 0 (omega arith), back c 1 (omega arith), back c 2 (omega arith), back c 3 (omega arith), matrix_asks k bad m (c - 0) (omega arith) (omega arith), matrix_asks k bad m (c - 1) (omega arith) (omega arith), matrix_asks k bad m (c - 2) (omega arith) (omega arith), matrix_asks k bad m (c - 3) (omega arith) (omega arith))
      (all_four bad)

  counts : (a : Bool) (n : ℕ) → cond a n 0 + cond a 1 0 ≡ cond a (suc n) 0
  counts true n = omega arith
  counts false n = refl

  lost_middle : (n : ℕ) → n ≤ 40 → lost_by k bad m b (14 + n) ≡ lost_by k bad m b 10 + cond bad n 0
  unfolding lost_by
  lost_middle zero l = lost_14 ∙ none bad
    where
      none : (a : Bool) → lost_by k bad m b 10 ≡ lost_by k bad m b 10 + cond a 0 0
      none true = omega arith
      none false = omega arith
  lost_middle (suc n) l =
      let e : 14 + suc n ≡ suc (14 + n) = omega arith in
      rw (e, low_middle (suc (14 + n)) (omega arith) (omega arith), lost_middle n (omega arith)) (omega (arith, counts bad n))

-- ---- from cycle 55 on

module _ (k : Kind) where
  -- the last cycles are the first n from 55 on
  pub span : 54 + (last_cycle k - 54) ≡ last_cycle k
  span = omega (arith, last_least k)

  pub span_most : last_cycle k - 54 ≤ 11
  span_most = omega (arith, last_most k)

pub cut : (k : Kind) → Wave (last_cycle k - 54) (λ i. true) (2 ^ (last_cycle k - 54) - 1)
unfolding has_bit
cut the6569 = record { bits = Below.same_test (has_bit 511) (λ i. true) 9 tt; small = omega arith }
cut the6567_r8 = record { bits = Below.same_test (has_bit 2047) (λ i. true) 11 tt; small = omega arith }

pub matrix_run : (bad : Bool) → Wave 4 (λ i. bad) (cond bad 15 0)
unfolding has_bit
matrix_run true = record { bits = Below.same_test (has_bit 15) (λ i. true) 4 tt; small = omega arith }
matrix_run false = record { bits = Below.same_test (has_bit 0) (λ i. false) 4 tt; small = omega arith }

module _ (k : Kind) (bad : Bool) (m : Masks) (b : Bus) (alike : m.first ≡ m.after) {last : ℕ} (x : Wave (last_cycle k - 54) (λ i. sprite_asks m.after (mask_at k (55 + i))) last) where
  late_word_lem : Wave (last_cycle k - 54) (λ i. asks k bad m (55 + i)) last
  late_word_lem = as_wave x (λ i. asks k bad m (55 + i)) (λ i h. sym (late_asks k bad m alike (55 + i) (omega arith)))

  late_run : Wave (last_cycle k - 50) (λ i. asked_before k bad m b (54 + i) 3) (last * 16 + cond bad 15 0)
  late_run = four_more late_word_lem (omega (arith, last_least k)) (matrix_run bad) (λ i. asked_before k bad m b (54 + i) 3) low high
    where
      low : (i : ℕ) → i < 4 → bad ≡ asked_before k bad m b (54 + i) 3
      low i h = sym (back k bad m b (54 + i) 3 (omega arith) ∙ matrix_asks k bad m (54 + i - 3) (omega arith) (omega arith))

      high : (i : ℕ) → i < last_cycle k - 54 → asks k bad m (55 + i) ≡ asked_before k bad m b (54 + (4 + i)) 3
      high i h = let e : 54 + (4 + i) - 3 ≡ 55 + i = omega arith in sym (back k bad m b (54 + (4 + i)) 3 (omega arith) ∙ ap (asks k bad m) e)

  pub late_lows : Wave (last_cycle k - 53) (λ i. low_in k bad m b (54 + i)) (four_of (last * 16 + cond bad 15 0))
  late_lows = four_low k bad m b 54 (last_cycle k - 50) (omega (arith, last_least k)) late_run

  late_asked : Wave (last_cycle k - 54) (λ i. asks k bad m (suc (54 + i))) last
  late_asked = as_wave late_word_lem (λ i. asks k bad m (suc (54 + i))) (λ i h. let e : 55 + i ≡ suc (54 + i) = omega arith in ap (asks k bad m) e)

  late_held : Wave (last_cycle k - 54) (λ i. held_before k bad m b (suc (54 + i))) (bit_and (2 ^ (last_cycle k - 54) - 1) (last * 2 + cond bad 1 0))
  late_held =
      both (cut k)
      (one_more_lem late_word_lem bad (λ i. held_before k bad m b (suc (54 + i)))
      (sym (held k bad m b 54 (omega arith) ∙ matrix_asks k bad m 54 (omega arith) (omega arith)))
      (λ i h. let e : 54 + suc i ≡ 55 + i = omega arith in sym (ap (λ (j : ℕ). held_before k bad m b (suc j)) e ∙ held k bad m b (55 + i) (omega arith)))) (omega arith)

  abbrev kept : ℕ
  kept = bit_and (2 ^ (last_cycle k - 54) - 1) (last * 2 + cond bad 1 0)

  -- ---- the last four

  abbrev run : ℕ
  run = (last * 16 + cond bad 15 0) / 2 ^ (last_cycle k - 54)

  pub run_word_lem : Wave 4 (λ i. asked_before k bad m b (54 + (last_cycle k - 54 + i)) 3) run
  run_word_lem = later (last_cycle k - 54) (omega (arith, last_least k)) late_run

  run_3 : has_bit run 3 ≡ asked_before k bad m b (last_cycle k) 0
  run_3 = let e : 54 + (last_cycle k - 54 + 3) ≡ last_cycle k + 3 = omega (arith, last_least k) in run_word_lem.bits 3 (omega arith) ∙ ap (λ (c : ℕ). asked_before k bad m b c 3) e ∙ back0 k bad m b (last_cycle k)

  run_2 : has_bit run 2 ≡ asked_before k bad m b (last_cycle k) 1
  run_2 = let e : 54 + (last_cycle k - 54 + 2) ≡ last_cycle k + 2 = omega (arith, last_least k) in run_word_lem.bits 2 (omega arith) ∙ ap (λ (c : ℕ). asked_before k bad m b c 3) e ∙ back1 k bad m b (last_cycle k)

  run_1 : has_bit run 1 ≡ asked_before k bad m b (last_cycle k) 2
  run_1 = let e : 54 + (last_cycle k - 54 + 1) ≡ last_cycle k + 1 = omega (arith, last_least k) in run_word_lem.bits 1 (omega arith) ∙ ap (λ (c : ℕ). asked_before k bad m b c 3) e ∙ back2 k bad m b (last_cycle k)

  run_0 : has_bit run 0 ≡ asked_before k bad m b (last_cycle k) 3
  run_0 = let e : 54 + (last_cycle k - 54 + 0) ≡ last_cycle k = omega (arith, last_least k) in run_word_lem.bits 0 (omega arith) ∙ ap (λ (c : ℕ). asked_before k bad m b c 3) e

  counted : count_of run ≡ count_in k bad m b (last_cycle k)
  unfolding count_in
  counted = rw (run_3, run_2, run_1, run_0)

  ends_asking : leb 8 run ≡ asks k bad m (last_cycle k)
  unfolding has_bit
  ends_asking = top run run_word_lem.small ∙ run_3 ∙ newest k bad m b (last_cycle k) (omega (arith, last_least k))
    where
      top : (r : ℕ) → r < 16 → leb 8 r ≡ has_bit r 3
      top = Below.same_test (λ r. leb 8 r) (λ r. has_bit r 3) 16 tt

  ends_low : eqb run 15 ≡ low_in k bad m b (last_cycle k)
  unfolding low_in has_bit
  ends_low = whole run run_word_lem.small ∙ rw (run_3, run_2, run_1, run_0)
    where
      whole : (r : ℕ) → r < 16 → eqb r 15 ≡ (has_bit r 3 && has_bit r 2 && has_bit r 1 && has_bit r 0)
      whole = Below.same_test (λ r. eqb r 15) (λ r. has_bit r 3 && has_bit r 2 && has_bit r 1 && has_bit r 0) 16 tt

-- ---- the whole line

module _ (k : Kind) (bad : Bool) (m : Masks) (b : Bus) (alike : m.first ≡ m.after) {first last : ℕ} (x : Wave 10 (λ i. sprite_asks m.before (mask_at k (suc i))) first) (y : Wave (last_cycle k - 54) (λ i. sprite_asks m.after (mask_at k (55 + i))) last) where
  abbrev held_word : ℕ
  held_word = first * 2 + cond b.balow 1 0

  abbrev kept_word : ℕ
  kept_word = bit_and (2 ^ (last_cycle k - 54) - 1) (last * 2 + cond bad 1 0)

  falls : ℕ → Bool
  falls c = asks k bad m c && not (held_before k bad m b c)

  fall_step : (n : ℕ) → fall_by k bad m b (suc n) ≡ cond (falls (suc n)) (clock_on (suc n) b.clock) (fall_by k bad m b n)
  unfolding fall_by falls
  fall_step n = refl

  fall_early : fall_by k bad m b 11 ≡ edge_of (without first held_word) 0 b.clock b.fall
  unfolding fall_by falls
  fall_early = edge_by b.clock (fall_by k bad m b) falls fall_step 11 0 (without first held_word) (omega arith) (less (early_asked k bad m b x) (early_held k bad m b x))

  pub fall_line : edge_of (without last kept_word) 54 b.clock (cond bad (clock_on 12 b.clock) (edge_of (without first held_word) 0 b.clock b.fall)) ≡ fall_by k bad m b (last_cycle k)
  unfolding falls
  fall_line =
      sym (ap (fall_by k bad m b) (sym (span k))
      ∙ edge_by b.clock (fall_by k bad m b) falls fall_step (last_cycle k - 54) 54 (without last kept_word) (omega (arith, span_most k)) (less (late_asked k bad m b alike y) (late_held k bad m b alike y))
      ∙ ap (edge_of (without last kept_word) 54 b.clock) (fall_middle k bad m b 42 (omega arith) ∙ ap (cond bad (clock_on 12 b.clock)) fall_early))

  rises : ℕ → Bool
  rises c = held_before k bad m b c && not (asks k bad m c)

  swapped : (p q : Bool) → (not p && q) ≡ (q && not p)
  swapped true true = refl
  swapped true false = refl
  swapped false true = refl
  swapped false false = refl

  rise_step : (n : ℕ) → rise_by k bad m b (suc n) ≡ cond (rises (suc n)) (clock_on (suc n) b.clock) (rise_by k bad m b n)
  unfolding rise_by rises
  rise_step n = rw (swapped (asks k bad m (suc n)) (held_before k bad m b (suc n)))

  rise_early : rise_by k bad m b 11 ≡ edge_of (without held_word first) 0 b.clock b.rise
  unfolding rise_by rises
  rise_early = edge_by b.clock (rise_by k bad m b) rises rise_step 11 0 (without held_word first) (omega arith) (less (early_held k bad m b x) (early_asked k bad m b x))

  pub rise_line : edge_of (without kept_word last) 54 b.clock (edge_of (without held_word first) 0 b.clock b.rise) ≡ rise_by k bad m b (last_cycle k)
  unfolding rises
  rise_line =
      sym (ap (rise_by k bad m b) (sym (span k))
      ∙ edge_by b.clock (rise_by k bad m b) rises rise_step (last_cycle k - 54) 54 (without kept_word last) (omega (arith, span_most k)) (less (late_held k bad m b alike y) (late_asked k bad m b alike y))
      ∙ ap (edge_of (without kept_word last) 54 b.clock) (rise_middle k bad m b 42 (omega arith) ∙ rise_early))

  lost_step : (n : ℕ) → lost_by k bad m b (suc n) ≡ lost_by k bad m b n + cond (low_in k bad m b (suc n)) 1 0
  unfolding lost_by
  lost_step n = refl

  lost_none : lost_by k bad m b 0 ≡ 0
  unfolding lost_by
  lost_none = refl

  pub lost_line : {low over : ℕ} → Wave 11 (λ i. low_in k bad m b i) low → Wave (last_cycle k - 53) (λ i. low_in k bad m b (54 + i)) over
      → ones (low / 2 ^ 1) + cond bad 40 0 + ones (over / 2 ^ 1) ≡ lost_by k bad m b (last_cycle k)
  lost_line {low} {over} p q = sym (ap (lost_by k bad m b) (sym (span k)) ∙ omega (arith, late, middle, early, lost_none))
    where
      low' : Wave 10 (λ i. low_in k bad m b (suc (0 + i))) (low / 2 ^ 1)
      low' = as_wave (later 1 refl p) (λ i. low_in k bad m b (suc (0 + i))) (λ i h. let e : 1 + i ≡ suc (0 + i) = omega arith in ap (low_in k bad m b) e)

      early : lost_by k bad m b 10 ≡ lost_by k bad m b 0 + ones (low / 2 ^ 1)
      early = count_by (lost_by k bad m b) (low_in k bad m b) lost_step 10 0 (low / 2 ^ 1) low'

      middle : lost_by k bad m b 54 ≡ lost_by k bad m b 10 + cond bad 40 0
      middle = lost_middle k bad m b 40 (omega arith)

      over' : Wave (last_cycle k - 54) (λ i. low_in k bad m b (suc (54 + i))) (over / 2 ^ 1)
      over' = as_wave (later 1 (omega (arith, last_least k)) q) (λ i. low_in k bad m b (suc (54 + i))) (λ i h. let e : 54 + (1 + i) ≡ suc (54 + i) = omega arith in ap (low_in k bad m b) e)

      late : lost_by k bad m b (54 + (last_cycle k - 54)) ≡ lost_by k bad m b 54 + ones (over / 2 ^ 1)
      late = count_by (lost_by k bad m b) (low_in k bad m b) lost_step (last_cycle k - 54) 54 (over / 2 ^ 1) over'

  abbrev run_word : ℕ
  run_word = (last * 16 + cond bad 15 0) / 2 ^ (last_cycle k - 54)

  pub whole_line : {low over : ℕ} → Wave 11 (λ i. low_in k bad m b i) low → Wave (last_cycle k - 53) (λ i. low_in k bad m b (54 + i)) over
      → record {
        clock = clock_on (last_cycle k) b.clock;
        fall = edge_of (without last kept_word) 54 b.clock (cond bad (clock_on 12 b.clock) (edge_of (without first held_word) 0 b.clock b.fall));
        rise = edge_of (without kept_word last) 54 b.clock (edge_of (without held_word first) 0 b.clock b.rise);
        aec = count_of run_word;
        balow = leb 8 run_word;
        aeclow = eqb run_word 15;
        lost = ones (low / 2 ^ 1) + cond bad 40 0 + ones (over / 2 ^ 1);
      } ≡ bus_line k bad m b
  unfolding bus_by
  whole_line p q = rw (fall_line, rise_line, lost_line p q, counted k bad m b alike y, ends_asking k bad m b alike y, ends_low k bad m b alike y)

-- ---- AEC in the cycles of the slots: what the words leave out is no matter

module _ (k : Kind) (bad : Bool) (m : Masks) (b : Bus) where
  low_alike : (bad' : Bool) (m' : Masks) (b' : Bus) (c : ℕ) → ((j : ℕ) → j < 4 → asked_before k bad' m' b' c j ≡ asked_before k bad m b c j) → low_in k bad' m' b' c ≡ low_in k bad m b c
  unfolding low_in
  low_alike bad' m' b' c e = rw (e 0 (omega arith), e 1 (omega arith), e 2 (omega arith), e 3 (omega arith))

  pub early_low : (c : ℕ) → c ≤ 10 → low_early k m.before b.aec c ≡ low_in k bad m b c
  unfolding asked_before
  early_low c l = low_alike false (record { before = m.before; first = 0; after = 0 }) (aec≔ b.aec fresh) c (λ j h. by j (dec_lt j c))
    where
      by : (j : ℕ) → Dec (j < c) → cond (ltb j c) (asks k false (record { before = m.before; first = 0; after = 0 }) (c - j)) (waited b.aec (j - c)) ≡ cond (ltb j c) (asks k bad m (c - j)) (waited b.aec (j - c))
      by j (yes d) = ap (λ (v : Bool). cond (ltb j c) v (waited b.aec (j - c))) (early_asks k false (record { before = m.before; first = 0; after = 0 }) (c - j) (omega arith) ∙ sym (early_asks k bad m (c - j) (omega arith)))
      by j (no d) = rw (le-ltb j c (omega arith))

  pub late_low : m.first ≡ m.after → (i : ℕ) → low_late k bad m.after i ≡ low_in k bad m b (54 + i)
  late_low e i = low_alike bad (record { before = 0; first = m.after; after = m.after }) fresh (54 + i) (λ j h. back k bad (record { before = 0; first = m.after; after = m.after }) fresh (54 + i) j (omega arith) ∙ by j h (dec_lt (54 + i - j) 55) ∙ sym (back k bad m b (54 + i) j (omega arith)))
    where
      by : (j : ℕ) → j < 4 → Dec (54 + i - j < 55) → asks k bad (record { before = 0; first = m.after; after = m.after }) (54 + i - j) ≡ asks k bad m (54 + i - j)
      by j h (yes d) = matrix_asks k bad (record { before = 0; first = m.after; after = m.after }) (54 + i - j) (omega arith) (omega arith) ∙ sym (matrix_asks k bad m (54 + i - j) (omega arith) (omega arith))
      by j h (no d) = late_asks k bad (record { before = 0; first = m.after; after = m.after }) refl (54 + i - j) (omega arith) ∙ sym (late_asks k bad m e (54 + i - j) (omega arith))

-- AEC's two words from the requests' words
pub low_early_word : (k : Kind) (dma : ℕ) (aec : ℤ) {first run w : ℕ}
    → Wave 10 (λ i. sprite_asks dma (mask_at k (suc i))) first → Wave 4 (λ i. waited aec (3 - i)) run → w ≡ four_of (first * 16 + run)
    → Wave 11 (low_early k dma aec) w
low_early_word k dma aec x y e = rw e (early_lows k false (record { before = dma; first = 0; after = 0 }) (aec≔ aec fresh) x y)

pub low_late_word : (k : Kind) (bad : Bool) (dma : ℕ) {last run w : ℕ}
    → Wave (last_cycle k - 54) (λ i. sprite_asks dma (mask_at k (55 + i))) last → run ≡ cond bad 15 0 → w ≡ four_of (last * 16 + run)
    → Wave (last_cycle k - 53) (low_late k bad dma) w
low_late_word k bad dma x e f = rw (f, e) (late_lows k bad (record { before = 0; first = dma; after = dma }) fresh refl x)
