-- The slots and the requests of a line by the place past sprite 0's first request: the same on both kinds, one computed test a kind. Assumes nothing.
use Prim.Native.Nat.{ℕ, ◌<◌, ◌≤◌}
use mathlib.Core.Path.{◌≡◌, refl}
use mathlib.Core.Bool.{Bool, true, false, ◌&&◌}
use native.Mathlib.Omega.{arith}
use borrow.Author.Tests.{lt-leb, ltb-true}
use lib.Dec.{T, eqb, eqb→eq, leb, ltb}
use Rattle.laws.proofs.Below as Below
use Rattle.laws.proofs.Choice.{by_test, right}
use Rattle.schedule.specs.Kind.{Kind, the6569, the6567_r8, last_cycle, last_line, first_pointer, pointer_slot}
use Rattle.schedule.specs.Diagram.{happens, first_phase, second_phase, mc_load, pointer_time, data_time, slot_sprite}
use Rattle.schedule.specs.Requests.{mask_at}
use Rattle.schedule.specs.Machinery.Places.{place_of, Placed, slot_at, asking_at, pointing_at, fetching_at, sprite_in, is_calm}

-- ---- bounds that both kinds keep

pub last_most : (k : Kind) → last_cycle k < 66
last_most the6569 = omega arith
last_most the6567_r8 = omega arith

pub last_least : (k : Kind) → 63 ≤ last_cycle k
last_least the6569 = omega arith
last_least the6567_r8 = omega arith

pub line_most : (k : Kind) → last_line k < 512
line_most the6569 = omega arith
line_most the6567_r8 = omega arith

-- line 0x30, which latches DEN, is none of a frame's last
pub line_least : (k : Kind) → 0x30 < last_line k
line_least the6569 = omega arith
line_least the6567_r8 = omega arith

pub first_least : (k : Kind) → 58 ≤ first_pointer k
first_least the6569 = omega arith
first_least the6567_r8 = omega arith

pub first_most : (k : Kind) → first_pointer k ≤ 59
first_most the6569 = omega arith
first_most the6567_r8 = omega arith

pub zero_first : (k : Kind) → pointer_slot k 0 ≡ first_pointer k
zero_first the6569 = refl
zero_first the6567_r8 = refl

-- ---- a test of each cycle of a line, of either kind

module _ (f : Kind → ℕ → Bool) where
  each : T (Below.all (f the6569) 1 63) → T (Below.all (f the6567_r8) 1 65) → (k : Kind) (c : ℕ) → 1 ≤ c → c ≤ last_cycle k → T (f k c)
  each t u the6569 c l h = Below.within (f the6569) 1 63 t c l (omega arith)
  each t u the6567_r8 c l h = Below.within (f the6567_r8) 1 65 u c l (omega arith)

module _ (k : Kind) {c t : ℕ} (p : Placed k c t) where
  pub mask_at_lem : asking_at t ≡ mask_at k c
  unfolding asking_at place_of mask_at
  mask_at_lem = rw p.place (eqb→eq _ _ (each (λ k c. eqb (asking_at (place_of k c)) (mask_at k c)) tt tt k c p.low p.high))

  pub pointing_at_lem : pointing_at t ≡ pointer_time k c
  unfolding pointing_at place_of pointer_time
  pointing_at_lem = rw p.place (Below.iff_eq _ _ (each (λ k c. Below.iff (pointing_at (place_of k c)) (pointer_time k c)) tt tt k c p.low p.high))

  pub fetching_at_lem : fetching_at t ≡ data_time k c
  unfolding fetching_at place_of data_time
  fetching_at_lem = rw p.place (Below.iff_eq _ _ (each (λ k c. Below.iff (fetching_at (place_of k c)) (data_time k c)) tt tt k c p.low p.high))

  pub sprite_at_lem : sprite_in t ≡ slot_sprite k c
  unfolding sprite_in place_of slot_sprite
  sprite_at_lem = rw p.place (eqb→eq _ _ (each (λ k c. eqb (sprite_in (place_of k c)) (slot_sprite k c)) tt tt k c p.low p.high))

  pub placed_small : c < 66
  placed_small = omega (arith, p.high, last_most k)

-- a slot is one of eight sprites'
pub sprite_small : (t : ℕ) → sprite_in t < 8
unfolding sprite_in
sprite_small t = by_test (λ (n : ℕ). n < 8) (slot_at t) (λ e. omega (arith, ltb-true t 19 (right (leb 3 t) (ltb t 19) e))) (λ e. omega arith)

-- outside the line nobody asks
pub asks_none_first : (k : Kind) (c : ℕ) → c < 1 → 0 ≡ mask_at k c
unfolding mask_at
asks_none_first the6569 c h = Below.same (λ c. 0) (mask_at the6569) 1 tt c h
asks_none_first the6567_r8 c h = Below.same (λ c. 0) (mask_at the6567_r8) 1 tt c h

pub asks_none_past : (k : Kind) (c : ℕ) → last_cycle k < c → 0 ≡ mask_at k c
unfolding mask_at
asks_none_past k c h = simp (lt-leb c (last_cycle k) h)

-- away from the phases of a line's end
pub record Calm (k : Kind) (c : ℕ) : Type 0 where
  pub first : happens (first_phase k) c ≡ false
  pub second : happens (second_phase k) c ≡ false
  pub load : happens (mc_load k) c ≡ false

-- what never happens in these cycles
abbrev apart : (Kind → ℕ → Bool) → Kind → ℕ → Bool
apart g k c = Below.iff (is_calm (place_of k c) && g k c) (is_calm (place_of k c) && false)

never : (g : Kind → ℕ → Bool) → T (Below.all (apart g the6569) 1 63) → T (Below.all (apart g the6567_r8) 1 65) → (k : Kind) {c t : ℕ} → Placed k c t → is_calm t ≡ true → g k c ≡ false
never g t u k {c} p e =
    rw (rw p.place at e) at (Below.iff_eq (is_calm (place_of k c) && g k c) (is_calm (place_of k c) && false) (each (apart g) t u k c p.low p.high))

pub calm : (k : Kind) {c t : ℕ} → Placed k c t → is_calm t ≡ true → Calm k c
unfolding happens is_calm place_of
calm k p e =
    record {
      first = never (λ k c. happens (first_phase k) c) tt tt k p e;
      second = never (λ k c. happens (second_phase k) c) tt tt k p e;
      load = never (λ k c. happens (mc_load k) c) tt tt k p e;
    }
