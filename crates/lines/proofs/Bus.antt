-- BA and AEC over a line: arbitrated cycle by cycle they are the waves. Assumes nothing.
use Prim.Native.Nat.{ℕ, zero, suc, ◌<◌, ◌+◌, ◌-◌, ◌*◌}
use mathlib.Core.Path.{◌≡◌, refl, ◌∙◌, ap}
use mathlib.Core.Bool.{Bool, true, false, ◌&&◌, cond}
use native.Mathlib.Omega.{arith}
use native.Mathlib.Decide.{dec_lt}
use lib.Dec.{ltb}
use lib.IntN.{ℤ, pos, negsuc, ◌+ℤ◌, +ℤ_assoc, +ℤ_idr, pos-+ℤ-pos}
use borrow.Author.Tests.{lt-ltb, le-ltb, ne_eqb}
use Rattle.schedule.specs.Kind.{Kind}
use Rattle.schedule.specs.Diagram.{happens, line_begins}
use Rattle.arbitration.specs.declared.Bus.{Bus}
use Rattle.arbitration.specs.Bus.{clocked, arbitrated, counted, lost_after, aec_after, low, clock_on, Counted}
use Rattle.lines.specs.Bus.{Masks, asks, waited, asked_before, held_before, low_in, count_in, fall_by, rise_by, lost_by, bus_by}
use Rattle.lines.proofs.Through.{through}

-- the counter of four requests, the newest first
abbrev counter : Bool → Bool → Bool → Bool → ℤ
counter a b c d = cond a (cond b (cond c (cond d (negsuc 0) (pos 0)) (pos 1)) (pos 2)) (pos 3)

counts : (n a b c d : Bool) → aec_after (counter a b c d) n ≡ counter n a b c
unfolding aec_after
counts false a b c d = refl
counts true false b c d = refl
counts true true false c d = refl
counts true true true false d = refl
counts true true true true false = refl
counts true true true true true = refl

lows : (a b c d : Bool) → low (counter a b c d) ≡ (a && b && c && d)
unfolding low
lows false b c d = refl
lows true false c d = refl
lows true true false d = refl
lows true true true false = refl
lows true true true true = refl

fine : (a b c d : Bool) → Counted (counter a b c d)
fine false b c d = omega arith
fine true false c d = omega arith
fine true true false d = omega arith
fine true true true false = omega arith
fine true true true true = refl

clock_none : (z : ℤ) → clock_on 0 z ≡ z
unfolding clock_on
clock_none z = +ℤ_idr z

clock_more : (n : ℕ) (z : ℤ) → clock_on 1 (clock_on n z) ≡ clock_on (suc n) z
unfolding clock_on
clock_more n z =
    let e : n * 2 + 2 ≡ suc n * 2 = omega arith in
    +ℤ_assoc z (pos (n * 2)) (pos 2) ∙ ap (λ (x : ℤ). z +ℤ x) (pos-+ℤ-pos (n * 2) 2 ∙ ap pos e)

-- the counter of a state that is taken remembers the last four
remembers : (z : ℤ) → Counted z → counter (waited z 0) (waited z 1) (waited z 2) (waited z 3) ≡ z
unfolding waited
remembers (negsuc zero) h = refl
remembers (negsuc (suc n)) h = absurd (omega arith)
remembers (pos zero) h = refl
remembers (pos (suc zero)) h = refl
remembers (pos (suc (suc zero))) h = refl
remembers (pos (suc (suc (suc zero)))) h = refl
remembers (pos (suc (suc (suc (suc n))))) h = absurd (omega arith)

module _ (k : Kind) (bad : Bool) (m : Masks) (b : Bus) where
  abbrev pub bus_step : ℕ → Bus → Bus
  bus_step c x = counted (happens line_begins c) (arbitrated (clocked 1 x) (asks k bad m c))

  -- a request seen one cycle later
  newest : (n : ℕ) → asked_before k bad m b (suc n) 0 ≡ asks k bad m (suc n)
  unfolding asked_before
  newest n = let e : suc n - 0 ≡ suc n = omega arith in rw (lt-ltb 0 (suc n) (omega arith), e)

  older : (c j : ℕ) → asked_before k bad m b (suc c) (suc j) ≡ asked_before k bad m b c j
  unfolding asked_before
  older c j = by (dec_lt j c)
    where
      x : suc c - suc j ≡ c - j
      x = omega arith

      y : suc j - suc c ≡ j - c
      y = omega arith

      by : Dec (j < c) → cond (ltb (suc j) (suc c)) (asks k bad m (suc c - suc j)) (waited b.aec (suc j - suc c)) ≡ cond (ltb j c) (asks k bad m (c - j)) (waited b.aec (j - c))
      by (yes h) = rw (lt-ltb j c h, lt-ltb (suc j) (suc c) (omega arith), x)
      by (no h) = rw (le-ltb j c (omega arith), le-ltb (suc j) (suc c) (omega arith), y)

  begins : Counted b.aec → count_in k bad m b 0 ≡ b.aec
  unfolding count_in asked_before
  begins h = remembers b.aec h

  goes : (n : ℕ) → aec_after (count_in k bad m b n) (asks k bad m (suc n)) ≡ count_in k bad m b (suc n)
  unfolding count_in
  goes n =
      rw (newest n, older n 0, older n 1, older n 2)
      (counts (asks k bad m (suc n)) (asked_before k bad m b n 0) (asked_before k bad m b n 1) (asked_before k bad m b n 2) (asked_before k bad m b n 3))

  lows_in : (n : ℕ) → low (count_in k bad m b n) ≡ low_in k bad m b n
  unfolding count_in low_in
  lows_in n = lows (asked_before k bad m b n 0) (asked_before k bad m b n 1) (asked_before k bad m b n 2) (asked_before k bad m b n 3)

  -- after n cycles; before the first BA, AEC and the lost cycles are the state's own
  abbrev after : ℕ → Bool → Bool → ℕ → Bus
  after n ba aec lost = record { clock = clock_on n b.clock; fall = fall_by k bad m b n; rise = rise_by k bad m b n; aec = count_in k bad m b n; balow = ba; aeclow = aec; lost = lost }

  on : (n : ℕ) (ba aec : Bool) (lost : ℕ) → ba ≡ held_before k bad m b (suc n) → cond (happens line_begins (suc n)) 0 lost ≡ lost_by k bad m b n
      → bus_step (suc n) (after n ba aec lost) ≡ bus_by k bad m b (suc n)
  unfolding counted lost_after arbitrated clocked fall_by rise_by lost_by bus_by
  on n ba aec lost e f = rw (goes n, lows_in (suc n), clock_more n b.clock, e, f)

  held_later : (n : ℕ) → asks k bad m (suc n) ≡ held_before k bad m b (suc (suc n))
  unfolding held_before
  held_later n = let e : suc (suc n) - 1 ≡ suc n = omega arith in rw (ne_eqb (suc (suc n)) 1 (λ z. omega arith), e)

  not_first : (n lost : ℕ) → cond (happens line_begins (suc (suc n))) 0 lost ≡ lost
  unfolding happens
  not_first n lost = rw (ne_eqb (suc (suc n)) 1 (λ z. omega arith))

  by_fields : (n : ℕ) → bus_by k bad m b n ≡ after n (asks k bad m n) (low_in k bad m b n) (lost_by k bad m b n)
  unfolding bus_by
  by_fields n = refl

  module _ (counted' : Counted b.aec) where
    nothing : b ≡ after 0 b.balow b.aeclow b.lost
    unfolding fall_by rise_by
    nothing = rw (begins counted', clock_none b.clock)

    first : b.balow ≡ held_before k bad m b 1
    unfolding held_before
    first = refl

    lost_first : cond (happens line_begins 1) 0 b.lost ≡ lost_by k bad m b 0
    unfolding happens lost_by
    lost_first = refl

    pub bus_waves : (n : ℕ) → through bus_step (suc n) b ≡ bus_by k bad m b (suc n)
    unfolding through
    bus_waves zero = ap (bus_step 1) nothing ∙ on 0 b.balow b.aeclow b.lost first lost_first
    bus_waves (suc n) =
        ap (bus_step (suc (suc n))) (bus_waves n ∙ by_fields (suc n))
        ∙ on (suc n) (asks k bad m (suc n)) (low_in k bad m b (suc n)) (lost_by k bad m b (suc n)) (held_later n) (not_first n (lost_by k bad m b (suc n)))

  pub by_low : (n : ℕ) → (bus_by k bad m b n).aeclow ≡ low_in k bad m b n
  unfolding bus_by
  by_low n = refl

  pub by_clock : (n : ℕ) → (bus_by k bad m b n).clock ≡ clock_on n b.clock
  unfolding bus_by
  by_clock n = refl

  pub by_count : (n : ℕ) → Counted (bus_by k bad m b n).aec
  unfolding bus_by count_in
  by_count n = fine (asked_before k bad m b n 0) (asked_before k bad m b n 1) (asked_before k bad m b n 2) (asked_before k bad m b n 3)
