-- A run in parts: what a part holds from tick to tick, how it ends, and how a run goes on by one. Assumes nothing.
use Prim.Native.Nat.{ℕ, zero, suc, ◌+◌, ◌-◌, ◌<◌, ◌≤◌}
use mathlib.Core.Path.{◌≡◌, refl, sym, ◌∙◌, ap}
use mathlib.Core.Bool.{Bool, true, false, true≢false, ◌||◌}
use mathlib.Core.List.{[]}
use native.Mathlib.Omega.{arith}
use native.Mathlib.Decide.{dec_lt}
use native.Mathlib.Nat.{zero-add, suc-add}
use lib.Dec.{eqb, leb}
use lib.IntN.{ℤ, pos, negsuc}
use lib.Signed.{lt_z}
use borrow.Author.Tests.{le-leb, leb-false, ltb-false, eqb-false}
use Rattle.laws.specs.Clock.{last_tickable, CanTick}
use Rattle.memory.specs.Lent.{Host}
use Rattle.registers.specs.declared.Registers.{Registers}
use Rattle.access.specs.declared.Reads.{Reads}
use Rattle.access.specs.Reads.{told}
use Rattle.side.proofs.Kept.{side_clock}
use Rattle.arbitration.specs.Bus.{clock_on}
use Rattle.arbitration.proofs.Kept.{clock_on_lem}
use Rattle.chip.specs.declared.Chip.{Chip}
use Rattle.chip.specs.declared.Answer.{Answer}
use Rattle.chip.specs.Chip.{reading}
use Rattle.world.specs.World.{World, chip_of}
use Rattle.world.specs.Tick.{tick_world, tick_reads}
use Rattle.sequencer.specs.Tick.{tickable, ticks_from}
use Rattle.sequencer.specs.Machinery.Parts.{Held, Roomy, Part, tested_from}
use Rattle.sequencer.proofs.Runs.{Going, next, one_tick, begun, on, unrefused, refused_stays, tested_some}

-- room for one more tick, and what is left after it
pub room_now : (k : ℕ) (z : ℤ) → 0 < k → Roomy k z → tickable z ≡ true
unfolding tickable
room_now k (pos n) h r = le-leb n last_tickable (omega arith)
room_now k (negsuc n) h r = absurd r

pub room_next : (k : ℕ) (z : ℤ) → 0 < k → Roomy k z → Roomy (k - 1) (clock_on 1 z)
room_next k (pos n) h r = rw (clock_on_lem 1 n) (omega arith)
room_next k (negsuc n) h r = absurd r

-- how many ticks a part may do
pub fits_one : (n : ℕ) (z : ℤ) → 0 < n → CanTick z → (0 < 1) × ((1 ≤ n) × Roomy 1 z)
fits_one n (pos c) l t = (omega arith, (omega arith, omega arith))
fits_one n (negsuc c) l t = absurd t

pub fits_some : (k n : ℕ) (z : ℤ) → 0 < k → k ≤ n → k ≤ 63 → CanTick z → lt_z (pos 4611686018427387776) z ≡ false → (0 < k) × ((k ≤ n) × Roomy k z)
fits_some k n (pos c) l m f t e =
    let near : c ≤ 4611686018427387776 = ltb-false 4611686018427387776 c e in
    (l, (m, omega arith))
fits_some k n (negsuc c) l m f t e = absurd t

pub tick_clock : (h : Host) (g : Registers) (w : World) → (tick_world h g w).side.bus.clock ≡ clock_on 1 w.side.bus.clock
unfolding tick_world
tick_clock h g w = side_clock _ w.side

-- ticks after ticks: the reads are the last one's, so there is one
again : (h : Host) (c d : Chip) (a b : ℕ) → ticks_from h a c ≡ ticks_from h b d → ticks_from h (suc a) c ≡ ticks_from h (suc b) d
unfolding ticks_from
again h c d a b e = rw e

after : (h : Host) (c d : Chip) {r : Reads} (i : ℕ) → ticks_from h i c ≡ reading d r → (k : ℕ) → ticks_from h (suc k + i) c ≡ ticks_from h (suc k) d
after h c d i e zero = rw (suc-add, zero-add) (next h c d i e ∙ sym (one_tick h d))
after h c d i e (suc k) = rw suc-add (again h c d (suc k + i) (suc k) (after h c d i e k))

pub some_after : (h : Host) (c d : Chip) {r : Reads} (i k : ℕ) → ticks_from h i c ≡ reading d r → 0 < k → ticks_from h (k + i) c ≡ ticks_from h k d
some_after h c d i zero e l = absurd (omega arith)
some_after h c d i (suc k) e l = after h c d i e k

module _ (h : Host) (g : Registers) (goes : ℕ → Bool) (w₀ : World) (n : ℕ) where
  pub record Parting (w : World) (i : ℕ) (r : Reads) : Type 0 where
    pub going : Going h g w₀ n w i r
    pub room : Roomy (n - i) w.side.bus.clock
    pub first : i ≡ 0 → w.side.beam.cycle ≡ w₀.side.beam.cycle

  pub started : {r : Reads} → r ≡ told [] → Held h g w₀ → Roomy n w₀.side.bus.clock → Parting w₀ 0 r
  started e held room =
      let q : n - 0 ≡ n = omega arith in
      record { going = begun h g w₀ n e held; room = rw q room; first = λ e. refl }

  pub tickable_now : {w : World} {i : ℕ} {r : Reads} → Parting w i r → i < n → tickable w.side.bus.clock ≡ true
  tickable_now {w} {i} p l = room_now (n - i) w.side.bus.clock (omega arith) p.room

  pub further : {w v : World} {i : ℕ} {r r' : Reads} → Parting w i r → i < n → v ≡ tick_world h g w → r' ≡ told (tick_reads h g w) → Parting v (i + 1) r'
  further {w} {v} {i} p l e f = record {
    going = on h g w₀ n p.going l (tickable_now p l) e f;
    room =
        let q : n - (i + 1) ≡ (n - i) - 1 = omega arith in
        rw (q, e, tick_clock h g w) (room_next (n - i) w.side.bus.clock (omega arith) p.room);
    first = λ z. absurd (omega arith);
  }

  pub ended_at : {w : World} {i : ℕ} {r : Reads} → Parting w i r → n ≤ i → Part h g n (goes w₀.side.beam.cycle) w₀ n w r
  ended_at {w} {i} p l = record {
    within = omega arith;
    state = let q : i ≡ n = omega (arith, p.going.within) in rw (← q) p.going.state;
    held = p.going.held;
    moved = λ t z. z;
  }

  pub stopped_at : {w : World} {i : ℕ} {r : Reads} → Parting w i r → goes w.side.beam.cycle ≡ false → Part h g n (goes w₀.side.beam.cycle) w₀ i w r
  stopped_at {w} {i} p s = record {
    within = p.going.within;
    state = p.going.state;
    held = p.going.held;
    moved = λ t z. some t (dec_lt 0 i);
  }
    where
      some : goes w₀.side.beam.cycle ≡ true → Dec (0 < i) → 0 < i
      some t (yes q) = q
      some t (no q) = let k : i ≡ 0 = omega arith in absurd (true≢false (sym t ∙ ap goes (sym (p.first k)) ∙ s))

-- a run that a part carries on
pub carried : {h : Host} {g : Registers} {w₀ w v : World} {n i m k : ℕ} {r r' : Reads} → Going h g w₀ n w i r → Part h g m true w k v r' → 0 < m → m ≤ n - i → i < n → Going h g w₀ n v (i + k) r'
carried {h} {g} {w₀} {w} {v} {n} {i} {m} {k} r p some f l =
    let sum : k + i ≡ i + k = omega arith in
    record {
      within = omega (arith, p.within);
      state = rw sum at (some_after h (chip_of g w₀) (chip_of g w) i k r.state (p.moved refl some) ∙ p.state);
      held = p.held;
    }

-- ---- ticks to the line's end, and what follows them

pub beyond : (first n : ℕ) → (eqb first 0 || leb n first) ≡ false → (first ≡ 0 → ⊥) × (first < n)
beyond first n e = apart (eqb first 0) (leb n first) refl refl e
  where
    apart : (x y : Bool) → eqb first 0 ≡ x → leb n first ≡ y → (x || y) ≡ false → (first ≡ 0 → ⊥) × (first < n)
    apart false false p q e = (eqb-false first 0 p, leb-false n first q)
    apart true y p q e = absurd (true≢false e)
    apart false true p q e = absurd (true≢false e)

module _ (h : Host) (c : Chip) (first n : ℕ) (some : (first ≡ 0 → ⊥) × (first < n)) {a : Answer} (e : a ≡ tested_from h first c) where
  begins : a ≡ ticks_from h first c
  begins = e ∙ tested_some h c first some.0

  pub refused_before : (a.refused ≡ 0 → ⊥) → a ≡ ticks_from h n c
  refused_before nz = begins ∙ refused_stays h c first n (omega (arith, some.1)) (λ z. nz (ap (λ (x : Answer). x.refused) begins ∙ z))

  pub after_ticks : {b : Answer} → a.refused ≡ 0 → b ≡ ticks_from h (n - first) a.chip → b ≡ ticks_from h n c
  after_ticks z f =
      let sum : (n - first) + first ≡ n = omega (arith, some.1) in
      f ∙ sym (rw sum at (some_after h c a.chip first (n - first) (sym begins ∙ unrefused a z) (omega (arith, some.1))))
