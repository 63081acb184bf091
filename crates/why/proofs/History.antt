-- The history of a run: what its ticks and its other calls keep holds along it. Assumes nothing.
use Prim.Native.Nat.{ℕ, zero, suc}
use mathlib.Core.Path.{◌≡◌, refl, sym, subst}
use mathlib.Core.Bool.{Bool, true, false, cond, true≢false}
use mathlib.Core.List.{List, [], ◌∷◌}
use lib.Dec.{eqb}
use Rattle.laws.proofs.Choice.{by_test}
use Rattle.memory.specs.Lent.{Host}
use Rattle.chip.specs.declared.Chip.{Chip}
use Rattle.chip.specs.declared.Answer.{Answer}
use Rattle.world.specs.Tick.{tick_of}
use Rattle.sequencer.specs.Tick.{tick_refusal, ticked, ticks_from}
use Rattle.sequencer.proofs.Numbers.{tick_number}
use Rattle.artwork.specs.Runs.{Call, tick, ticks, write, expand, compares, control_1, control_2, place_controls, late, done}
use Rattle.why.specs.Why.{tick_adds, ticks_add, adds, since, after}

-- ---- a tick that is refused, and one that is not

pub refused : (h : Host) (c : Chip) → eqb (ticked h c).refused 0 ≡ false → (ticked h c).chip ≡ c
unfolding ticked
refused h c e =
    let some : eqb (tick_refusal h c) 0 ≡ false = rw tick_number at e in
    simp some

pub accepted : (h : Host) (c : Chip) → eqb (ticked h c).refused 0 ≡ true → (ticked h c).chip ≡ tick_of h c
unfolding ticked
accepted h c e =
    let none : eqb (tick_refusal h c) 0 ≡ true = rw tick_number at e in
    simp none

pub refused_adds_none : (h : Host) (c : Chip) (past : List Chip) → eqb (ticked h c).refused 0 ≡ false → tick_adds h c past ≡ past
unfolding tick_adds
refused_adds_none h c past e = simp e

pub accepted_adds_one : (h : Host) (c : Chip) (past : List Chip) → eqb (ticked h c).refused 0 ≡ true → tick_adds h c past ≡ (tick_of h c ∷ past)
unfolding tick_adds
accepted_adds_one h c past e = simp (e, accepted h c e)

-- a run of ticks that has been refused stays so, and so it is one tick after the other
stays : (h : Host) (n : ℕ) (c : Chip) → eqb (ticks_from h n c).refused 0 ≡ false → eqb (ticked h (ticks_from h n c).chip).refused 0 ≡ false
unfolding ticks_from
stays h zero c e = absurd (true≢false e)
stays h (suc n) c e =
    by_test (λ (a : Answer). eqb a.refused 0 ≡ false → eqb (ticked h a.chip).refused 0 ≡ false) (eqb (ticks_from h n c).refused 0)
    (λ b f. subst (λ (d : Chip). eqb (ticked h d).refused 0 ≡ false) (sym (refused h (ticks_from h n c).chip f)) f) (λ b f. stays h n c b) e

pub one_more_lem : (h : Host) (n : ℕ) (c : Chip) → (ticks_from h (suc n) c).chip ≡ (ticked h (ticks_from h n c).chip).chip
unfolding ticks_from
one_more_lem h n c =
    by_test (λ (a : Answer). a.chip ≡ (ticked h (ticks_from h n c).chip).chip) (eqb (ticks_from h n c).refused 0)
    (λ e. refl) (λ e. sym (refused h (ticks_from h n c).chip (stays h n c e)))

-- ---- what an accepted tick keeps, and a call that has none in it, holds along a run

module _ (P : List Chip → Chip → Type 0)
    (ticks_on_lem : (h : Host) (past : List Chip) (c : Chip) → P past c → P (tick_of h c ∷ past) (tick_of h c))
    (others : (x : Call) (past : List Chip) (c : Chip) → adds x c [] ≡ [] → P past c → P past (done x c).chip) where
  along_tick : (h : Host) (past : List Chip) (c : Chip) → P past c → P (tick_adds h c past) (ticked h c).chip
  along_tick h past c p = by_refusal (eqb (ticked h c).refused 0) refl
    where
      by_refusal : (b : Bool) → eqb (ticked h c).refused 0 ≡ b → P (tick_adds h c past) (ticked h c).chip
      by_refusal true e = rw (accepted_adds_one h c past e, accepted h c e) (ticks_on_lem h past c p)
      by_refusal false e = rw (refused_adds_none h c past e, refused h c e) p

  along_ticks : (h : Host) (n : ℕ) (past : List Chip) (c : Chip) → P past c → P (ticks_add h n c past) (ticks_from h n c).chip
  unfolding ticks_add ticks_from
  along_ticks h zero past c p = p
  along_ticks h (suc n) past c p =
      subst (P (ticks_add h (suc n) c past)) (sym (one_more_lem h n c)) (along_tick h (ticks_add h n c past) (ticks_from h n c).chip (along_ticks h n past c p))

  along_call : (x : Call) (past : List Chip) (c : Chip) → P past c → P (adds x c past) (done x c).chip
  unfolding adds done
  along_call (tick h) past c p = along_tick h past c p
  along_call (ticks h n) past c p = along_ticks h n past c p
  along_call (write addr v) past c p = others (write addr v) past c refl p
  along_call (expand v) past c p = others (expand v) past c refl p
  along_call compares past c p = others compares past c refl p
  along_call (control_1 v) past c p = others (control_1 v) past c refl p
  along_call (control_2 v) past c p = others (control_2 v) past c refl p
  along_call (place_controls ctrl1 ctrl2 line) past c p = others (place_controls ctrl1 ctrl2 line) past c refl p
  along_call (late byte) past c p = others (late byte) past c refl p

  pub along : (past : List Chip) (xs : List Call) (c : Chip) → P past c → P (since past xs c) (after xs c)
  unfolding since after
  along past [] c p = p
  along past (x ∷ xs) c p = along (adds x c past) xs (done x c).chip (along_call x past c p)
