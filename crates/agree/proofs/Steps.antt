-- Each step of the old sprites is the step of today's where every flag is as the mask has it. Assumes nothing.
use Prim.Native.Nat.{ℕ, zero, suc, ◌+◌, ◌-◌, ◌%◌, ◌^◌}
use mathlib.Core.Path.{◌≡◌, refl, sym, ap, ◌∙◌}
use mathlib.Core.Bool.{Bool, true, false, not, ◌&&◌, cond}
use mathlib.Core.List.{List}
use lib.Dec.{eqb}
use lib.Bits.{bit_xor}
use lib.ListN.{get_or}
use Rattle.laws.specs.Bits.{has_bit, with_bit, without_bit}
use Rattle.schedule.specs.Kind.{Kind}
use Rattle.schedule.specs.Diagram.{happens, mcbase_step, first_phase, second_phase, mc_load}
use Rattle.sprites.specs.declared.Sprites.{Sprites}
use Rattle.sprites.specs.Set.{sprite_mc≔, sprite_base≔, dma≔, flip≔, clear≔, prev≔, display≔, vmatch≔}
use Rattle.sprites.specs.Sprites.{sprite_at, sprite_at≔, up_to, next_base, mask_after, step_one, mcbase_stepped, starts, dma_begun, start_one, start_at, started, first_phased, second_phased, load_one, loaded, show_one, show_at, shown, mc_loaded, expand_written, fetched}
use Rattle.side.specs.Phases.{step_at, first_at, second_at, load_at, phased, slot_moved}
use Rattle.agree.specs.Was.{Flagged, up_to_was, step_one_was, mcbase_stepped_was, start_one_was, start_at_was, started_was, first_phased_was, second_phased_was, phased_was, fetched_was, slot_moved_was}
use Rattle.agree.specs.Agree.{flagged}

-- a test that goes the same way on both sides
pub same_way : {A : Type 0} (view : A → Flagged) (b : Bool) (r q : A) {x y : Flagged} → x ≡ view r → y ≡ view q → cond b x y ≡ view (cond b r q)
same_way view true r q e f = e
same_way view false r q e f = f

-- all eight, one after the other
over : (was : ℕ → Flagged → Flagged) (one : ℕ → Sprites → Sprites) → ((k : ℕ) (s : Sprites) → was k (flagged s) ≡ flagged (one k s))
    → (n : ℕ) (s : Sprites) → up_to_was was n (flagged s) ≡ flagged (up_to one n s)
unfolding up_to up_to_was
over was one e zero s = refl
over was one e (suc n) s = ap (was n) (over was one e n s) ∙ e n (up_to one n s)

-- a bit that is clear is not there to be cleared
clear_already : (m k : ℕ) (ends : Bool) → cond (has_bit m k && not ends) m (without_bit m k) ≡ cond ends (without_bit m k) m
unfolding without_bit
clear_already m k ends = by (has_bit m k) ends
  where
    by : (b e : Bool) → cond (b && not e) m (cond b (m - 2 ^ k) m) ≡ cond e (cond b (m - 2 ^ k) m) m
    by true true = refl
    by true false = refl
    by false true = refl
    by false false = refl

step_agrees : (k : ℕ) (s : Sprites) → step_one_was k (flagged s) ≡ flagged (step_one k s)
unfolding step_one_was step_one mask_after
step_agrees k s =
    let base = next_base (has_bit s.flip k) (has_bit s.clear k) (sprite_at s k).base (sprite_at s k).mc in
    ap (λ (d : ℕ). record { sprites = dma≔ d (sprite_at≔ k (sprite_base≔ base (sprite_at s k)) s); flags = d }) (clear_already s.dma k (eqb base 63))

-- clearing what is pending leaves the mask
pub mcbase_agrees : (s : Sprites) → mcbase_stepped_was (flagged s) ≡ flagged (mcbase_stepped s)
unfolding mcbase_stepped_was mcbase_stepped
mcbase_agrees s = ap (λ (x : Flagged). record { sprites = clear≔ 0 x.sprites; flags = x.flags }) (over step_one_was step_one step_agrees 8 (prev≔ s.dma s))

start_agrees : (line : ℕ) (my : List ℕ) (enable yexp k : ℕ) (s : Sprites) → start_at_was line my enable yexp k (flagged s) ≡ flagged (start_at line my enable yexp k s)
unfolding start_one_was start_one dma_begun
start_agrees line my enable yexp k s = same_way flagged (starts line enable k (get_or my k 0) s) (dma_begun k yexp s) s refl refl

started_agrees : (line : ℕ) (my : List ℕ) (enable yexp : ℕ) (s : Sprites) → started_was line my enable yexp (flagged s) ≡ flagged (started line my enable yexp s)
unfolding started_was started
started_agrees line my enable yexp s = over (start_at_was line my enable yexp) (start_at line my enable yexp) (start_agrees line my enable yexp) 8 s

pub first_agrees : (raster : ℕ) (my : List ℕ) (enable yexp : ℕ) (s : Sprites) → first_phased_was raster my enable yexp (flagged s) ≡ flagged (first_phased raster my enable yexp s)
unfolding first_phased_was first_phased
first_agrees raster my enable yexp s = started_agrees (raster % 256) my enable yexp (flip≔ (bit_xor s.flip yexp) (vmatch≔ 0 (prev≔ s.dma s)))

pub second_agrees : (raster : ℕ) (my : List ℕ) (enable yexp : ℕ) (s : Sprites) → second_phased_was raster my enable yexp (flagged s) ≡ flagged (second_phased raster my enable yexp s)
unfolding second_phased_was second_phased
second_agrees raster my enable yexp s = started_agrees (raster % 256) my enable yexp (prev≔ s.dma s)

-- the load of MC does not touch the mask
mask_over : (one : ℕ → Sprites → Sprites) → ((k : ℕ) (s : Sprites) → (one k s).dma ≡ s.dma) → (n : ℕ) (s : Sprites) → (up_to one n s).dma ≡ s.dma
unfolding up_to
mask_over one e zero s = refl
mask_over one e (suc n) s = e n (up_to one n s) ∙ mask_over one e n s

load_mask : (raster : ℕ) (my : List ℕ) (enable : ℕ) (s : Sprites) → (mc_loaded raster my enable s).dma ≡ s.dma
unfolding mc_loaded loaded shown load_one show_one
load_mask raster my enable s =
    mask_over (show_at (raster % 256) my enable) show 8 _ ∙ mask_over load_one (λ k t. refl) 8 s
  where
    show : (k : ℕ) (t : Sprites) → (show_at (raster % 256) my enable k t).dma ≡ t.dma
    show k t = by (has_bit t.dma k && has_bit enable k && eqb (get_or my k 0) (raster % 256))
      where
        by : (b : Bool) → (cond b (display≔ (with_bit t.display k) t) t).dma ≡ t.dma
        by true = refl
        by false = refl

pub load_agrees : (raster : ℕ) (my : List ℕ) (enable : ℕ) (s : Sprites) → ◌≡◌ {A = Flagged} (record { sprites = mc_loaded raster my enable s; flags = s.dma }) (flagged (mc_loaded raster my enable s))
load_agrees raster my enable s = ap (λ (d : ℕ). record { sprites = mc_loaded raster my enable s; flags = d }) (sym (load_mask raster my enable s))

pub expand_agrees : (k : Kind) (value cycle old : ℕ) (s : Sprites) → ◌≡◌ {A = Flagged} (record { sprites = expand_written k value cycle old s; flags = s.dma }) (flagged (expand_written k value cycle old s))
unfolding expand_written
expand_agrees k value cycle old s = refl

pub twice : (b : Bool) → (b && b) ≡ b
twice true = refl
twice false = refl

pub fetched_agrees : (k bytes : ℕ) (s : Sprites) → fetched_was k bytes (flagged s) ≡ flagged (fetched k bytes s)
unfolding fetched_was fetched
fetched_agrees k bytes s =
    rw (twice (has_bit s.dma k)) (same_way flagged (has_bit s.dma k) (sprite_at≔ k (sprite_mc≔ (((sprite_at s k).mc + bytes) % 64) (sprite_at s k)) s) s refl refl)

pub phased_agrees : (k : Kind) (cycle raster : ℕ) (my : List ℕ) (enable yexp : ℕ) (s : Sprites) → phased_was k cycle raster my enable yexp (flagged s) ≡ flagged (phased k cycle raster my enable yexp s)
unfolding phased_was phased step_at first_at second_at load_at
phased_agrees k cycle raster my enable yexp s = load (second (first step))
  where
    step : cond (happens mcbase_step cycle) (mcbase_stepped_was (flagged s)) (flagged s) ≡ flagged (step_at cycle s)
    step = same_way flagged (happens mcbase_step cycle) (mcbase_stepped s) s (mcbase_agrees s) refl

    first : {x : Flagged} {t : Sprites} → x ≡ flagged t → cond (happens (first_phase k) cycle) (first_phased_was raster my enable yexp x) x ≡ flagged (first_at k cycle raster my enable yexp t)
    first {x} {t} e = same_way flagged (happens (first_phase k) cycle) (first_phased raster my enable yexp t) t (ap (first_phased_was raster my enable yexp) e ∙ first_agrees raster my enable yexp t) e

    second : {x : Flagged} {t : Sprites} → x ≡ flagged t → cond (happens (second_phase k) cycle) (second_phased_was raster my enable yexp x) x ≡ flagged (second_at k cycle raster my enable yexp t)
    second {x} {t} e = same_way flagged (happens (second_phase k) cycle) (second_phased raster my enable yexp t) t (ap (second_phased_was raster my enable yexp) e ∙ second_agrees raster my enable yexp t) e

    load : {x : Flagged} {t : Sprites} → x ≡ flagged t → cond (happens (mc_load k) cycle) (record { sprites = mc_loaded raster my enable x.sprites; flags = x.flags }) x ≡ flagged (load_at k cycle raster my enable t)
    load {x} {t} e = same_way flagged (happens (mc_load k) cycle) (mc_loaded raster my enable t) t (ap (λ (y : Flagged). record { sprites = mc_loaded raster my enable y.sprites; flags = y.flags }) e ∙ load_agrees raster my enable t) e

pub slot_agrees : (pointing fetching : Bool) (n : ℕ) (s : Sprites) → slot_moved_was pointing fetching n (flagged s) ≡ flagged (slot_moved pointing fetching n s)
unfolding slot_moved_was slot_moved
slot_agrees pointing fetching n s = same_way flagged pointing (fetched n 1 s) (cond fetching (fetched n 2 s) s) (fetched_agrees n 1 s) (same_way flagged fetching (fetched n 2 s) s (fetched_agrees n 2 s) refl)
