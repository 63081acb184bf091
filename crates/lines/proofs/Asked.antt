-- Who asks for the bus in each cycle of a line. Assumes nothing.
use Prim.Native.Nat.{ℕ, zero, suc, ◌<◌, ◌≤◌, ◌+◌, ◌-◌, ◌%◌}
use mathlib.Core.Path.{◌≡◌, refl, ◌∙◌, sym, ap}
use mathlib.Core.Bool.{Bool, true, false, not, ◌&&◌, cond}
use mathlib.Core.List.{List}
use native.Mathlib.Omega.{arith}
use native.Mathlib.Decide.{dec_lt, dec_le}
use lib.Dec.{eqb, leb}
use lib.Bits.{and_zero_r, bit_and}
use lib.ListN.{get_or}
use borrow.Author.Tests.{lt-ltb, le-ltb, le-leb, lt-leb, ne_eqb}
use Rattle.laws.specs.Bits.{has_bit}
use Rattle.laws.proofs.Below as Below
use Rattle.laws.proofs.Choice.{either, and_false}
use Rattle.schedule.specs.Kind.{Kind, the6569, the6567_r8, first_pointer}
use Rattle.schedule.specs.Diagram.{happens, matrix_request, mcbase_step, first_phase, second_phase, mc_load, slot_sprite, pointer_time, data_time}
use Rattle.schedule.specs.Requests.{mask_at}
use Rattle.schedule.proofs.Places.{first_least}
use Rattle.timing.specs.Beam.{ba_output}
use Rattle.sprites.specs.declared.Sprites.{Sprites}
use Rattle.sprites.specs.Set.{display≔}
use Rattle.sprites.specs.Sprites.{fetched, show_at, mc_loaded, loaded, load_one, shown, show_one, up_to}
use Rattle.arbitration.specs.Bus.{sprite_asks, requested}
use Rattle.side.specs.Phases.{phased, step_at, first_at, second_at, load_at, slot_moved}
use Rattle.lines.specs.Bus.{Masks, masks_of, mask_in, asks}
use Rattle.lines.proofs.Through.{through, through_suc, raster_in}
use Rattle.lines.proofs.Sprites.{phase, sprite_step}

-- ---- what keeps the mask

keeps_fetch : (n bytes : ℕ) (s : Sprites) → (fetched n bytes s).dma ≡ s.dma
unfolding fetched
keeps_fetch n bytes s = either (λ (x : Sprites). x.dma ≡ s.dma) (has_bit s.dma n) refl refl

keeps_slot : (pointing fetching : Bool) (n : ℕ) (s : Sprites) → (slot_moved pointing fetching n s).dma ≡ s.dma
unfolding slot_moved
keeps_slot pointing fetching n s =
    either (λ (x : Sprites). x.dma ≡ s.dma) pointing (keeps_fetch n 1 s)
    (either (λ (x : Sprites). x.dma ≡ s.dma) fetching (keeps_fetch n 2 s) refl)

keeps_all : (one : ℕ → Sprites → Sprites) → ((n : ℕ) (s : Sprites) → (one n s).dma ≡ s.dma) → (n : ℕ) (s : Sprites) → (up_to one n s).dma ≡ s.dma
unfolding up_to
keeps_all one e zero s = refl
keeps_all one e (suc n) s = e n (up_to one n s) ∙ keeps_all one e n s

keeps_show : (line enable n y : ℕ) (s : Sprites) → (show_one line enable n y s).dma ≡ s.dma
unfolding show_one
keeps_show line enable n y s = either (λ (x : Sprites). x.dma ≡ s.dma) (has_bit s.dma n && has_bit enable n && eqb y line) refl refl

keeps_load_one : (n : ℕ) (s : Sprites) → (load_one n s).dma ≡ s.dma
unfolding load_one
keeps_load_one n s = refl

keeps_load : (raster : ℕ) (my : List ℕ) (enable : ℕ) (s : Sprites) → (mc_loaded raster my enable s).dma ≡ s.dma
unfolding mc_loaded loaded shown
keeps_load raster my enable s =
    keeps_all (show_at (raster % 256) my enable) (λ n t. keeps_show (raster % 256) enable n (get_or my n 0) t) 8 (display≔ (bit_and (up_to load_one 8 s).display (up_to load_one 8 s).dma) (up_to load_one 8 s))
    ∙ keeps_all load_one keeps_load_one 8 s

-- ---- which phases a cycle has

no_step : (c : ℕ) → (c ≡ 16 → ⊥) → happens mcbase_step c ≡ false
unfolding happens
no_step c h = ne_eqb c 16 h

module _ (k : Kind) where
  no_first : (c : ℕ) → (c ≡ first_pointer k - 3 → ⊥) → happens (first_phase k) c ≡ false
  unfolding happens
  no_first c h = ne_eqb c (first_pointer k - 3) h

  no_second : (c : ℕ) → (c ≡ first_pointer k - 2 → ⊥) → happens (second_phase k) c ≡ false
  unfolding happens
  no_second c h = ne_eqb c (first_pointer k - 2) h

  no_load : (c : ℕ) → (c ≡ first_pointer k → ⊥) → happens (mc_load k) c ≡ false
  unfolding happens
  no_load c h = ne_eqb c (first_pointer k) h

-- between the slots of sprite 7 and the first comparison no sprite asks
silent : (k : Kind) (c : ℕ) → 11 ≤ c → c + 3 < first_pointer k → mask_at k c ≡ 0
unfolding mask_at
silent the6569 c l h = Below.same_within (λ n. mask_at the6569 n) (λ n. 0) 11 44 tt c l (omega arith)
silent the6567_r8 c l h = Below.same_within (λ n. mask_at the6567_r8 n) (λ n. 0) 11 45 tt c l (omega arith)

none_asks : (k : Kind) (dma c : ℕ) → 11 ≤ c → c + 3 < first_pointer k → sprite_asks dma (mask_at k c) ≡ false
unfolding sprite_asks
none_asks k dma c l h = rw (silent k c l h, and_zero_r dma)

module _ (line raster : ℕ) (my : List ℕ) (enable yexp : ℕ) (k : Kind) (s : Sprites) where
  abbrev now : ℕ → Sprites → Sprites
  now = phase line raster my enable yexp k

  abbrev run : ℕ → Sprites
  run n = through (sprite_step line raster my enable yexp k) n s

  abbrev masks : Masks
  masks = masks_of k raster my enable yexp s

  run_suc : (n : ℕ) → (run (suc n)).dma ≡ (now (suc n) (run n)).dma
  run_suc n = ap (λ (x : Sprites). x.dma) (through_suc (sprite_step line raster my enable yexp k) n s) ∙ keeps_slot (pointer_time k (suc n)) (data_time k (suc n)) (slot_sprite k (suc n)) (now (suc n) (run n))

  run_none : run 0 ≡ s
  unfolding through
  run_none = refl

  early_phase : (c : ℕ) (x : Sprites) → c ≤ 15 → now c x ≡ x
  unfolding phased step_at first_at second_at load_at
  early_phase c x l =
      rw (no_step c (λ z. omega arith), no_first k c (λ z. omega (arith, first_least k)), no_second k c (λ z. omega (arith, first_least k)), no_load k c (λ z. omega (arith, first_least k)))

  late_phase : (c : ℕ) (x : Sprites) → first_pointer k ≤ c + 1 → (now c x).dma ≡ x.dma
  unfolding phased step_at first_at second_at load_at
  late_phase c x l =
      rw (no_step c (λ z. omega (arith, first_least k)), no_first k c (λ z. omega (arith, first_least k)), no_second k c (λ z. omega (arith, first_least k)))
      (either (λ (y : Sprites). y.dma ≡ x.dma) (happens (mc_load k) c) (keeps_load (raster_in line raster c) my enable x) refl)

  early_mask : (n : ℕ) → n ≤ 15 → (run n).dma ≡ s.dma
  early_mask zero l = ap (λ (x : Sprites). x.dma) run_none
  early_mask (suc n) l = run_suc n ∙ ap (λ (x : Sprites). x.dma) (early_phase (suc n) (run n) l) ∙ early_mask n (omega arith)

module _ (line raster : ℕ) (my : List ℕ) (enable yexp : ℕ) (s : Sprites) where
  -- in the two comparisons, and after them
  at_first : (k : Kind) → (now line raster my enable yexp k s (first_pointer k - 3) (run line raster my enable yexp k s (first_pointer k - 4))).dma ≡ (masks_of k raster my enable yexp s).first
  unfolding through happens phased step_at first_at second_at load_at slot_moved slot_sprite pointer_time data_time
  at_first the6569 = refl
  at_first the6567_r8 = refl

  at_second : (k : Kind) → (now line raster my enable yexp k s (first_pointer k - 2) (run line raster my enable yexp k s (first_pointer k - 3))).dma ≡ (masks_of k raster my enable yexp s).after
  unfolding through happens phased step_at first_at second_at load_at slot_moved slot_sprite pointer_time data_time
  at_second the6569 = refl
  at_second the6567_r8 = refl

module _ (line raster : ℕ) (my : List ℕ) (enable yexp : ℕ) (k : Kind) (s : Sprites) where
  abbrev mask_now : ℕ → ℕ
  mask_now n = (now line raster my enable yexp k s (suc n) (run line raster my enable yexp k s n)).dma

  first_now : (n : ℕ) → suc n ≡ first_pointer k - 3 → (now line raster my enable yexp k s (suc n) (run line raster my enable yexp k s n)).dma ≡ (masks line raster my enable yexp k s).first
  first_now n e = let x : n ≡ first_pointer k - 4 = omega (arith, first_least k) in rw (e, x) (at_first line raster my enable yexp s k)

  second_now : (n : ℕ) → suc n ≡ first_pointer k - 2 → (now line raster my enable yexp k s (suc n) (run line raster my enable yexp k s n)).dma ≡ (masks line raster my enable yexp k s).after
  second_now n e = let x : n ≡ first_pointer k - 3 = omega (arith, first_least k) in rw (e, x) (at_second line raster my enable yexp s k)

  late_mask : (d n : ℕ) → n + 2 ≡ first_pointer k + d → (run line raster my enable yexp k s n).dma ≡ (masks line raster my enable yexp k s).after
  late_mask zero zero e = absurd (omega (arith, first_least k))
  late_mask zero (suc n) e =
      run_suc line raster my enable yexp k s n ∙ second_now n (omega (arith, first_least k))
  late_mask (suc d) zero e = absurd (omega (arith, first_least k))
  late_mask (suc d) (suc n) e =
      run_suc line raster my enable yexp k s n
      ∙ late_phase line raster my enable yexp k s (suc n) (run line raster my enable yexp k s n) (omega arith)
      ∙ late_mask d n (omega arith)

  mask_asks : (n : ℕ) → suc n < 66 → sprite_asks (mask_now n) (mask_at k (suc n)) ≡ sprite_asks (mask_in k (masks line raster my enable yexp k s) (suc n)) (mask_at k (suc n))
  mask_asks n l = by (dec_lt (suc n) 16) (dec_lt (n + 4) (first_pointer k)) (dec_lt (n + 3) (first_pointer k)) (dec_lt (n + 2) (first_pointer k))
    where
      goal : Type 0
      goal = sprite_asks (mask_now n) (mask_at k (suc n)) ≡ sprite_asks (mask_in k (masks line raster my enable yexp k s) (suc n)) (mask_at k (suc n))

      by : Dec (suc n < 16) → Dec (n + 4 < first_pointer k) → Dec (n + 3 < first_pointer k) → Dec (n + 2 < first_pointer k) → goal
      by (yes h) b c d =
          ap (λ (x : ℕ). sprite_asks x (mask_at k (suc n))) (ap (λ (x : Sprites). x.dma) (early_phase line raster my enable yexp k s (suc n) _ (omega arith)) ∙ early_mask line raster my enable yexp k s n (omega arith))
          ∙ rw (lt-ltb (suc n) (first_pointer k - 3) (omega (arith, first_least k)))
      by (no h) (yes b) c d =
          none_asks k (mask_now n) (suc n) (omega arith) (omega arith)
          ∙ sym (none_asks k (mask_in k (masks line raster my enable yexp k s) (suc n)) (suc n) (omega arith) (omega arith))
      by (no h) (no b) (yes c) d =
          rw (le-ltb (suc n) (first_pointer k - 3) (omega arith), lt-ltb (suc n) (first_pointer k - 2) (omega arith)) (ap (λ (z : ℕ). sprite_asks z (mask_at k (suc n))) (first_now n (omega (arith, first_least k))))
      by (no h) (no b) (no c) (yes d) =
          rw (le-ltb (suc n) (first_pointer k - 3) (omega arith), le-ltb (suc n) (first_pointer k - 2) (omega arith)) (ap (λ (z : ℕ). sprite_asks z (mask_at k (suc n))) (second_now n (omega (arith, first_least k))))
      by (no h) (no b) (no c) (no d) =
          rw (le-ltb (suc n) (first_pointer k - 3) (omega arith), le-ltb (suc n) (first_pointer k - 2) (omega arith))
          (ap (λ (z : ℕ). sprite_asks z (mask_at k (suc n)))
          (late_phase line raster my enable yexp k s (suc n) (run line raster my enable yexp k s n) (omega arith)
          ∙ late_mask (n + 2 - first_pointer k) n (omega arith)))

not_not : (a : Bool) → not (not a) ≡ a
not_not true = refl
not_not false = refl

-- the matrix does not ask before the line is settled
soon : (c : ℕ) → c ≤ 2 → happens matrix_request c ≡ false
unfolding happens
soon c l = rw (lt-leb 12 c (omega arith))

matrix_asks : (bad begins : Bool) (c : ℕ) → (cond (leb 3 c) bad begins && happens matrix_request c) ≡ (bad && happens matrix_request c)
matrix_asks bad begins c = by (dec_le 3 c)
  where
    by : Dec (3 ≤ c) → (cond (leb 3 c) bad begins && happens matrix_request c) ≡ (bad && happens matrix_request c)
    by (yes h) = rw (le-leb 3 c h)
    by (no h) = rw (soon c (omega arith), and_false (cond (leb 3 c) bad begins), and_false bad)

pub asked_asks : (line raster : ℕ) (my : List ℕ) (enable yexp : ℕ) (k : Kind) (s : Sprites) (bad begins : Bool) (n : ℕ) → suc n < 66
    → requested (ba_output (cond (leb 3 (suc n)) bad begins) (suc n)) (mask_now line raster my enable yexp k s n) (mask_at k (suc n)) ≡ asks k bad (masks line raster my enable yexp k s) (suc n)
unfolding requested ba_output asks
asked_asks line raster my enable yexp k s bad begins n l =
    rw (not_not (cond (leb 3 (suc n)) bad begins && happens matrix_request (suc n)), matrix_asks bad begins (suc n), mask_asks line raster my enable yexp k s n l)
