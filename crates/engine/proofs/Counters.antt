-- The sprites over a line: the numbers that the code works out are what the line's steps leave. Assumes nothing.
use mathlib.Core.Path.{◌≡◌, refl, sym, ◌∙◌, ap}
use mathlib.Core.Bool.{Bool, true, false, not, ◌&&◌, ◌||◌, cond, or-true}
use mathlib.Core.List.{List, [], ◌∷◌}
use Prim.Native.Nat.{ℕ, zero, suc, ◌+◌, ◌-◌, ◌%◌, ◌<◌}
use native.Mathlib.Omega.{arith}
use native.Mathlib.Decide.{ℕ_discrete}
use borrow.Author.Tests.{eq-eqb, ne_eqb}
use lib.Dec.{eqb}
use lib.Bits.{bit_and, bit_or, bit_xor, and_lt, or_lt, xor_lt}
use lib.ListN.{length, get_or}
use Rattle.laws.specs.Bits.{has_bit, with_bit}
use Rattle.laws.proofs.Choice.{picks, and_true, or_false}
use Rattle.schedule.specs.Kind.{Kind, the6569, the6567_r8}
use Rattle.sprites.specs.declared.Sprite.{Sprite}
use Rattle.sprites.specs.declared.Sprites.{Sprites}
use Rattle.sprites.specs.Set.{sprite_mc≔, sprite_base≔, each≔, flip≔, vmatch≔, prev≔, display≔}
use Rattle.sprites.specs.Sprites.{none, sprite_at, sprite_at≔, up_to, step_one, mcbase_stepped, starts, dma_begun, start_one, start_at, started, first_phased, second_phased, load_one, loaded, show_one, show_at, shown, mc_loaded, fetched}
use Rattle.lines.specs.Sprites.{Slot, pointing, fetching, early_slots, late_slots, slot_moves, slots_move, sprites_stepped, sprites_first, sprites_second, sprites_loaded}
use Rattle.lines.specs.Bus.{Masks, masks_of}
use Rattle.engine.specs.Counters.{Sound, moved_by, base_by, late3, bases_of, ending_of, equal_of, settled_by, meets_of, stays_of, starts_of, dma_of, settled_of, incremented_of}
use Rattle.engine.proofs.Masks.{not_bit, and_bit, or_bit, xor_bit, other, by_bits, nth, mask_small, mask_bit}
use Rattle.engine.proofs.Views.{View, view_of, over_sound, over, step_v, step_local, start_v, start_local, load_v, load_local, show_v, show_local, fetch_v, fetch_local}

-- the slots of a list
abbrev place_of : Slot → ℕ
place_of (pointing n) = n
place_of (fetching n) = n

abbrev bytes_of : Slot → ℕ
bytes_of (pointing n) = 1
bytes_of (fetching n) = 2

abbrev Within : List Slot → Type 0
Within [] = Unit
Within (x ∷ more) = (place_of x < 8) × Within more

abbrev slot_v : Slot → ℕ → View → View
slot_v x n v = cond (eqb (place_of x) n) (fetch_v (bytes_of x) n v) v

abbrev slots_v : List Slot → ℕ → View → View
slots_v [] n v = v
slots_v (x ∷ more) n v = slots_v more n (slot_v x n v)

-- one slot, and the slots of a list
fetch_view : (m bytes n : ℕ) (s : Sprites) → m < 8 → n < 8 → Sound s → view_of (fetched m bytes s) n ≡ cond (eqb m n) (fetch_v bytes n (view_of s n)) (view_of s n)
fetch_view m bytes n s b c h = by_place (ℕ_discrete m n)
  where
    by_place : Dec (m ≡ n) → view_of (fetched m bytes s) n ≡ cond (eqb m n) (fetch_v bytes n (view_of s n)) (view_of s n)
    by_place (yes e) = rw (← e, eq-eqb m m refl) ((fetch_local bytes).here m s b h)
    by_place (no e) = rw (ne_eqb m n e) ((fetch_local bytes).others m n s b c e h)

slot_view : (x : Slot) (n : ℕ) (s : Sprites) → place_of x < 8 → n < 8 → Sound s → view_of (slot_moves x s) n ≡ slot_v x n (view_of s n)
slot_view (pointing m) n s b c h = fetch_view m 1 n s b c h
slot_view (fetching m) n s b c h = fetch_view m 2 n s b c h

slot_sound : (x : Slot) (s : Sprites) → place_of x < 8 → Sound s → Sound (slot_moves x s)
slot_sound (pointing m) s b h = (fetch_local 1).sound m s b h
slot_sound (fetching m) s b h = (fetch_local 2).sound m s b h

pub slots_sound : (xs : List Slot) (s : Sprites) → Within xs → Sound s → Sound (slots_move xs s)
slots_sound [] s w h = h
slots_sound (x ∷ more) s w h = slots_sound more (slot_moves x s) w.1 (slot_sound x s w.0 h)

pub slots_view : (xs : List Slot) (n : ℕ) (s : Sprites) → Within xs → n < 8 → Sound s → view_of (slots_move xs s) n ≡ slots_v xs n (view_of s n)
slots_view [] n s w c h = refl
slots_view (x ∷ more) n s w c h =
    slots_view more n (slot_moves x s) w.1 c (slot_sound x s w.0 h) ∙ ap (slots_v more n) (slot_view x n s w.0 c h)

pub early_within : (k : Kind) → Within (early_slots k)
early_within the6569 = (omega arith, (omega arith, (omega arith, (omega arith, (omega arith, (omega arith, (omega arith, (omega arith, (omega arith, (omega arith, tt))))))))))
early_within the6567_r8 = (omega arith, (omega arith, (omega arith, (omega arith, (omega arith, (omega arith, (omega arith, (omega arith, (omega arith, tt)))))))))

pub late_within : (k : Kind) → Within (late_slots k)
late_within the6569 = (omega arith, (omega arith, (omega arith, (omega arith, (omega arith, (omega arith, tt))))))
late_within the6567_r8 = (omega arith, (omega arith, (omega arith, (omega arith, (omega arith, (omega arith, (omega arith, tt)))))))

-- the phases, each for one sprite
abbrev cleared_v : ℕ → View → View
cleared_v n v = record { sprite = v.sprite; flip = v.flip; clear = has_bit 0 n; on = v.on; shown = v.shown }

abbrev flip_v : Bool → View → View
flip_v ye v = record { sprite = v.sprite; flip = other v.flip ye; clear = v.clear; on = v.on; shown = v.shown }

abbrev masked_v : View → View
masked_v v = record { sprite = v.sprite; flip = v.flip; clear = v.clear; on = v.on; shown = v.shown && v.on }

module _ (t : Sprites) (h : Sound t) where
  prev_sound : Sound (prev≔ t.dma t)
  prev_sound = record { eight = h.eight; flip = h.flip; dma = h.dma; display = h.display }

  stepped_sound : Sound (mcbase_stepped t)
  unfolding mcbase_stepped
  stepped_sound =
      let x = over_sound step_one step_v step_local 8 (prev≔ t.dma t) (omega arith) prev_sound in
      record { eight = x.eight; flip = x.flip; dma = x.dma; display = x.display }

  stepped_view : (n : ℕ) → n < 8 → view_of (mcbase_stepped t) n ≡ cleared_v n (step_v n (view_of t n))
  unfolding mcbase_stepped sprite_at
  stepped_view n c = ap (cleared_v n) (over step_one step_v step_local n (prev≔ t.dma t) c prev_sound)

  module _ (raster : ℕ) (my : List ℕ) (enable yexp : ℕ) (y : yexp < 256) where
    flipped : Sprites
    flipped = flip≔ (bit_xor t.flip yexp) (vmatch≔ 0 (prev≔ t.dma t))

    flipped_sound : Sound flipped
    unfolding flipped
    flipped_sound = record { eight = h.eight; flip = xor_lt 8 t.flip yexp h.flip y; dma = h.dma; display = h.display }

    first_sound : Sound (first_phased raster my enable yexp t)
    unfolding first_phased started flipped
    first_sound = over_sound (start_at (raster % 256) my enable yexp) (start_v (raster % 256) my enable yexp) (start_local (raster % 256) my enable yexp) 8 flipped (omega arith) flipped_sound

    first_view : (n : ℕ) → n < 8 → view_of (first_phased raster my enable yexp t) n ≡ start_v (raster % 256) my enable yexp n (flip_v (has_bit yexp n) (view_of t n))
    unfolding first_phased started sprite_at flipped
    first_view n c =
        over (start_at (raster % 256) my enable yexp) (start_v (raster % 256) my enable yexp) (start_local (raster % 256) my enable yexp) n flipped c flipped_sound
        ∙ rw (xor_bit t.flip yexp n)

    second_sound : Sound (second_phased raster my enable yexp t)
    unfolding second_phased started
    second_sound = over_sound (start_at (raster % 256) my enable yexp) (start_v (raster % 256) my enable yexp) (start_local (raster % 256) my enable yexp) 8 (prev≔ t.dma t) (omega arith) prev_sound

    second_view : (n : ℕ) → n < 8 → view_of (second_phased raster my enable yexp t) n ≡ start_v (raster % 256) my enable yexp n (view_of t n)
    unfolding second_phased started sprite_at
    second_view n c = over (start_at (raster % 256) my enable yexp) (start_v (raster % 256) my enable yexp) (start_local (raster % 256) my enable yexp) n (prev≔ t.dma t) c prev_sound

    masked : Sprites
    unfolding loaded
    masked = display≔ (bit_and (loaded t).display (loaded t).dma) (loaded t)

    load_sound : Sound (loaded t)
    unfolding loaded
    load_sound = over_sound load_one load_v load_local 8 t (omega arith) h

    masked_sound : Sound masked
    unfolding masked
    masked_sound = record { eight = load_sound.eight; flip = load_sound.flip; dma = load_sound.dma; display = and_lt 8 (loaded t).display (loaded t).dma load_sound.display load_sound.dma }

    loaded_sound : Sound (mc_loaded raster my enable t)
    unfolding mc_loaded shown masked
    loaded_sound = over_sound (show_at (raster % 256) my enable) (show_v (raster % 256) my enable) (show_local (raster % 256) my enable) 8 masked (omega arith) masked_sound

    masked_view : (n : ℕ) → n < 8 → view_of masked n ≡ masked_v (load_v n (view_of t n))
    unfolding masked sprite_at loaded
    masked_view n c = rw (and_bit (up_to load_one 8 t).display (up_to load_one 8 t).dma n) (ap masked_v (over load_one load_v load_local n t c h))

    loaded_view : (n : ℕ) → n < 8 → view_of (mc_loaded raster my enable t) n ≡ show_v (raster % 256) my enable n (masked_v (load_v n (view_of t n)))
    unfolding mc_loaded shown masked
    loaded_view n c =
        over (show_at (raster % 256) my enable) (show_v (raster % 256) my enable) (show_local (raster % 256) my enable) n masked c masked_sound
        ∙ ap (show_v (raster % 256) my enable n) (masked_view n c)

-- some bytes of slots, and none
abbrev moved_view : Bool → ℕ → View → View
moved_view go bytes v = record { sprite = sprite_mc≔ (moved_by (v.on && go) bytes v.sprite.mc) v.sprite; flip = v.flip; clear = v.clear; on = v.on; shown = v.shown }

module _ (sp : Sprite) (fl cl sh : Bool) (n : ℕ) where
  abbrev having : Bool → View
  having on = record { sprite = sp; flip = fl; clear = cl; on = on; shown = sh }

  none_moved : (bytes : ℕ) (on : Bool) → having on ≡ moved_view false bytes (having on)
  none_moved bytes true = refl
  none_moved bytes false = refl

  one_moved : (bytes : ℕ) (on : Bool) → fetch_v bytes n (having on) ≡ moved_view true bytes (having on)
  one_moved bytes true = refl
  one_moved bytes false = refl

  round_two : ((sp.mc + 1) % 64 + 2) % 64 ≡ (sp.mc + 3) % 64
  round_two = omega arith

  two_moved : (on : Bool) → fetch_v 2 n (fetch_v 1 n (having on)) ≡ moved_view true 3 (having on)
  two_moved true = rw round_two
  two_moved false = refl

not_moved : (n bytes : ℕ) (v : View) → v ≡ moved_view false bytes v
not_moved n bytes v = none_moved v.sprite v.flip v.clear v.shown n bytes v.on

once_moved : (bytes n : ℕ) (v : View) → fetch_v bytes n v ≡ moved_view true bytes v
once_moved bytes n v = one_moved v.sprite v.flip v.clear v.shown n bytes v.on

twice_moved : (n : ℕ) (v : View) → fetch_v 2 n (fetch_v 1 n v) ≡ moved_view true 3 v
twice_moved n v = two_moved v.sprite v.flip v.clear v.shown n v.on

-- the comparisons and the load, by what the step of MCBASE left
module _ (sp : Sprite) (base : ℕ) (fl cl sh ye : Bool) (n line : ℕ) (my : List ℕ) where
  abbrev begun_b : View → View
  begun_b v = record { sprite = sprite_base≔ 0 v.sprite; flip = cond ye false v.flip; clear = v.clear; on = true; shown = v.shown }

  abbrev start_b : Bool → Bool → View → View
  start_b en eq v = cond (not v.on && en && eq) (begun_b v) v

  abbrev show_b : Bool → Bool → View → View
  show_b en eq v = cond (v.on && en && eq) (record { sprite = v.sprite; flip = v.flip; clear = v.clear; on = v.on; shown = true }) v

  abbrev stepped : Bool → View
  stepped on = record { sprite = sprite_base≔ base sp; flip = fl; clear = cl; on = on; shown = sh }

  abbrev next_in : Bool → Bool → Bool → ℕ
  next_in on en eq = cond (en && eq && not on) 0 base

  abbrev ended : Bool → Bool → Bool → View
  ended on en eq =
      record {
        sprite = record { number = sp.number; mc = next_in on en eq; base = next_in on en eq };
        flip = cond (en && eq && not on && ye) false (other fl ye);
        clear = cl;
        on = on || (en && eq);
        shown = cond (en && eq) true (sh && on);
      }

  phases : (on en eq : Bool) → show_b en eq (masked_v (load_v n (start_b en eq (start_b en eq (flip_v ye (stepped on)))))) ≡ ended on en eq
  phases true true true = refl
  phases true true false = refl
  phases true false true = refl
  phases true false false = refl
  phases false true true = refl
  phases false true false = refl
  phases false false true = refl
  phases false false false = refl

  start_on : (on en eq : Bool) → (start_b en eq (flip_v ye (stepped on))).on ≡ (on || (en && eq))
  start_on true true true = refl
  start_on true true false = refl
  start_on true false true = refl
  start_on true false false = refl
  start_on false true true = refl
  start_on false true false = refl
  start_on false false true = refl
  start_on false false false = refl

-- the same Bools in the code's order
ends_same : (e on : Bool) → (on && not e) ≡ cond e false on
ends_same true true = refl
ends_same true false = refl
ends_same false true = refl
ends_same false false = refl

off_same : (b x : Bool) → (x && not b) ≡ cond b false x
off_same true true = refl
off_same true false = refl
off_same false x = and_true x

shown_same : (m sh on : Bool) → ((sh || m) && (on || m)) ≡ cond m true (sh && on)
shown_same true true on = or-true on
shown_same true false on = or-true on
shown_same false sh on = rw (or_false sh, or_false on)

-- what no step after the comparisons changes
record Rest : Type 0 where
  clear : ℕ
  prev : ℕ
  vmatch : ℕ

abbrev rest : Sprites → Rest
rest s = record { clear = s.clear; prev = s.prev; vmatch = s.vmatch }

unless : {A : Type 0} (f : Sprites → A) (b : Bool) (x s : Sprites) → f x ≡ f s → f (cond b x s) ≡ f s
unless f true x s e = e
unless f false x s e = refl

keep : {A : Type 0} (f : Sprites → A) (one : ℕ → Sprites → Sprites) → ((k : ℕ) (s : Sprites) → f (one k s) ≡ f s) → (m : ℕ) (s : Sprites) → f (up_to one m s) ≡ f s
unfolding up_to
keep f one e zero s = refl
keep f one e (suc m) s = e m (up_to one m s) ∙ keep f one e m s

start_keeps : (line : ℕ) (my : List ℕ) (enable yexp m : ℕ) (s : Sprites) → rest (up_to (start_at line my enable yexp) m s) ≡ rest s
unfolding start_one dma_begun
start_keeps line my enable yexp = keep rest (start_at line my enable yexp) one
  where
    one : (k : ℕ) (s : Sprites) → rest (start_at line my enable yexp k s) ≡ rest s
    one k s = unless rest (starts line enable k (get_or my k 0) s) (dma_begun k yexp s) s refl

load_keeps : (m : ℕ) (s : Sprites) → rest (up_to load_one m s) ≡ rest s
unfolding load_one
load_keeps = keep rest load_one one
  where
    one : (k : ℕ) (s : Sprites) → rest (load_one k s) ≡ rest s
    one k s = refl

show_keeps : (line : ℕ) (my : List ℕ) (enable m : ℕ) (s : Sprites) → rest (up_to (show_at line my enable) m s) ≡ rest s
unfolding show_one
show_keeps line my enable = keep rest (show_at line my enable) one
  where
    one : (k : ℕ) (s : Sprites) → rest (show_at line my enable k s) ≡ rest s
    one k s = unless rest (has_bit s.dma k && has_bit enable k && eqb (get_or my k 0) line) (display≔ (with_bit s.display k) s) s refl

abbrev rest_of : ℕ → ℕ → ℕ → Rest
rest_of c p v = record { clear = c; prev = p; vmatch = v }

loaded_keeps : (raster : ℕ) (my : List ℕ) (enable : ℕ) (s : Sprites) → rest (mc_loaded raster my enable s) ≡ rest s
unfolding mc_loaded loaded shown
loaded_keeps raster my enable s = show_keeps (raster % 256) my enable 8 (display≔ (bit_and (up_to load_one 8 s).display (up_to load_one 8 s).dma) (up_to load_one 8 s)) ∙ load_keeps 8 s

-- the load of MC starts and ends no DMA
load_dma : (m : ℕ) (s : Sprites) → (up_to load_one m s).dma ≡ s.dma
unfolding load_one
load_dma = keep (λ (s : Sprites). s.dma) load_one one
  where
    one : (k : ℕ) (s : Sprites) → (load_one k s).dma ≡ s.dma
    one k s = refl

show_dma : (line : ℕ) (my : List ℕ) (enable m : ℕ) (s : Sprites) → (up_to (show_at line my enable) m s).dma ≡ s.dma
unfolding show_one
show_dma line my enable = keep (λ (s : Sprites). s.dma) (show_at line my enable) one
  where
    one : (k : ℕ) (s : Sprites) → (show_at line my enable k s).dma ≡ s.dma
    one k s = unless (λ (x : Sprites). x.dma) (has_bit s.dma k && has_bit enable k && eqb (get_or my k 0) line) (display≔ (with_bit s.display k) s) s refl

loaded_dma : (raster : ℕ) (my : List ℕ) (enable : ℕ) (s : Sprites) → (mc_loaded raster my enable s).dma ≡ s.dma
unfolding mc_loaded loaded shown
loaded_dma raster my enable s = show_dma (raster % 256) my enable 8 (display≔ (bit_and (up_to load_one 8 s).display (up_to load_one 8 s).dma) (up_to load_one 8 s)) ∙ load_dma 8 s

second_rest : (raster : ℕ) (my : List ℕ) (enable yexp : ℕ) (s : Sprites) → rest (second_phased raster my enable yexp s) ≡ rest_of s.clear s.dma s.vmatch
unfolding second_phased started
second_rest raster my enable yexp s = start_keeps (raster % 256) my enable yexp 8 (prev≔ s.dma s)

first_rest : (raster : ℕ) (my : List ℕ) (enable yexp : ℕ) (s : Sprites) → rest (first_phased raster my enable yexp s) ≡ rest_of s.clear s.dma 0
unfolding first_phased started
first_rest raster my enable yexp s = start_keeps (raster % 256) my enable yexp 8 (flip≔ (bit_xor s.flip yexp) (vmatch≔ 0 (prev≔ s.dma s)))

step_clear : (s : Sprites) → (mcbase_stepped s).clear ≡ 0
unfolding mcbase_stepped
step_clear s = refl

-- a list of eight, and a statement of each of eight
eight_list : (l : List Sprite) → length l ≡ 8 → l ≡ (get_or l 0 none ∷ get_or l 1 none ∷ get_or l 2 none ∷ get_or l 3 none ∷ get_or l 4 none ∷ get_or l 5 none ∷ get_or l 6 none ∷ get_or l 7 none ∷ [])
eight_list (a ∷ b ∷ c ∷ d ∷ e ∷ f ∷ g ∷ h ∷ []) p = refl
eight_list (a ∷ b ∷ c ∷ d ∷ e ∷ f ∷ g ∷ h ∷ i ∷ l) p = absurd (omega arith)
eight_list (a ∷ b ∷ c ∷ d ∷ e ∷ f ∷ g ∷ []) p = absurd (omega arith)
eight_list (a ∷ b ∷ c ∷ d ∷ e ∷ f ∷ []) p = absurd (omega arith)
eight_list (a ∷ b ∷ c ∷ d ∷ e ∷ []) p = absurd (omega arith)
eight_list (a ∷ b ∷ c ∷ d ∷ []) p = absurd (omega arith)
eight_list (a ∷ b ∷ c ∷ []) p = absurd (omega arith)
eight_list (a ∷ b ∷ []) p = absurd (omega arith)
eight_list (a ∷ []) p = absurd (omega arith)
eight_list [] p = absurd (omega arith)

by_eight : (P : ℕ → Type 0) → P 0 → P 1 → P 2 → P 3 → P 4 → P 5 → P 6 → P 7 → (n : ℕ) → n < 8 → P n
by_eight P a b c d e f g h zero l = a
by_eight P a b c d e f g h (suc zero) l = b
by_eight P a b c d e f g h (suc (suc zero)) l = c
by_eight P a b c d e f g h (suc (suc (suc zero))) l = d
by_eight P a b c d e f g h (suc (suc (suc (suc zero)))) l = e
by_eight P a b c d e f g h (suc (suc (suc (suc (suc zero))))) l = f
by_eight P a b c d e f g h (suc (suc (suc (suc (suc (suc zero)))))) l = g
by_eight P a b c d e f g h (suc (suc (suc (suc (suc (suc (suc zero))))))) l = h
by_eight P a b c d e f g h (suc (suc (suc (suc (suc (suc (suc (suc n)))))))) l = absurd (omega arith)

abbrev made : List Sprite → ℕ → ℕ → ℕ → ℕ → ℕ → ℕ → Sprites
made e f c d p i v = record { each = e; flip = f; clear = c; dma = d; prev = p; display = i; vmatch = v }

alike : {e e' : List Sprite} {f f' c c' d d' p p' i i' v v' : ℕ} → e ≡ e' → f ≡ f' → c ≡ c' → d ≡ d' → p ≡ p' → i ≡ i' → v ≡ v' → made e f c d p i v ≡ made e' f' c' d' p' i' v'
alike pe pf pc pd pp pi pv = rw (pe, pf, pc, pd, pp, pi, pv)

module _ (k : Kind) (s : Sprites) (raster : ℕ) (my : List ℕ) (enable yexp : ℕ) (h : Sound s) (he : enable < 256) (hy : yexp < 256) where
  abbrev B : List ℕ
  B = bases_of k s

  abbrev line : ℕ
  line = raster % 256

  abbrev stays : ℕ
  stays = stays_of s B raster my enable yexp

  abbrev meets : ℕ
  meets = meets_of s B raster my enable yexp

  abbrev going : ℕ
  going = starts_of s B raster my enable yexp

  abbrev dma : ℕ
  dma = dma_of s B raster my enable yexp

  ending_small : ending_of B < 256
  ending_small = mask_small _ _ _ _ _ _ _ _

  stays_small : stays < 256
  stays_small = and_lt 8 s.dma (255 - ending_of B) h.dma (omega arith)

  meets_small : meets < 256
  meets_small = and_lt 8 enable (equal_of my line) he (mask_small _ _ _ _ _ _ _ _)

  going_small : going < 256
  going_small = and_lt 8 meets (255 - stays) meets_small (omega arith)

  pub dma_small : dma < 256
  dma_small = or_lt 8 stays meets stays_small meets_small

  -- the sprites as the phases find them
  abbrev before : Sprites
  before = slots_move (early_slots k) s

  before_sound : Sound before
  before_sound = slots_sound (early_slots k) s (early_within k) h

  stepped_fine : Sound (sprites_stepped k raster my enable yexp s)
  stepped_fine = stepped_sound before before_sound

  first_fine : Sound (sprites_first k raster my enable yexp s)
  first_fine = first_sound (mcbase_stepped before) stepped_fine raster my enable yexp hy

  second_fine : Sound (sprites_second k raster my enable yexp s)
  second_fine = second_sound (sprites_first k raster my enable yexp s) first_fine raster my enable yexp hy

  pub loaded_fine : Sound (sprites_loaded k raster my enable yexp s)
  loaded_fine = loaded_sound (sprites_second k raster my enable yexp s) second_fine raster my enable yexp hy

  -- what the load of MC leaves
  abbrev left : Sprites
  left = sprites_loaded k raster my enable yexp s

  pub record Facts (n b : ℕ) : Type 0 where
    pub sprite : sprite_at left n ≡ settled_by s n going b
    pub on : has_bit left.dma n ≡ has_bit dma n
    pub first : has_bit (sprites_first k raster my enable yexp s).dma n ≡ has_bit dma n
    pub flip : has_bit left.flip n ≡ has_bit (bit_and (bit_xor s.flip yexp) (255 - bit_and going yexp)) n
    pub shown : has_bit left.display n ≡ has_bit (bit_and (bit_or s.display meets) dma) n

  -- one sprite: its base by number, and its slots
  module _ (n b : ℕ) (c : n < 8) (early : Bool) (bytes : ℕ)
      (same_base : b ≡ base_by s n early bytes)
      (at_end : nth (eqb (get_or B 0 0) 63) (eqb (get_or B 1 0) 63) (eqb (get_or B 2 0) 63) (eqb (get_or B 3 0) 63) (eqb (get_or B 4 0) 63) (eqb (get_or B 5 0) 63) (eqb (get_or B 6 0) 63) (eqb (get_or B 7 0) 63) n ≡ eqb b 63)
      (at-line : nth (eqb (get_or my 0 0) line) (eqb (get_or my 1 0) line) (eqb (get_or my 2 0) line) (eqb (get_or my 3 0) line) (eqb (get_or my 4 0) line) (eqb (get_or my 5 0) line) (eqb (get_or my 6 0) line) (eqb (get_or my 7 0) line) n ≡ eqb (get_or my n 0) line)
      (early-moved : (v : View) → slots_v (early_slots k) n v ≡ moved_view early bytes v) where
    abbrev en : Bool
    en = has_bit enable n

    abbrev eq : Bool
    eq = eqb (get_or my n 0) line

    abbrev still : Bool
    still = cond (eqb b 63) false (has_bit s.dma n)

    meets_bit : has_bit meets n ≡ (en && eq)
    meets_bit = and_bit enable (equal_of my line) n ∙ ap (λ (x : Bool). en && x) (mask_bit _ _ _ _ _ _ _ _ n c ∙ at-line)

    stays_bit : has_bit stays n ≡ still
    stays_bit =
        and_bit s.dma (255 - ending_of B) n
        ∙ ap (λ (x : Bool). has_bit s.dma n && x) (not_bit (ending_of B) n ending_small c ∙ ap not (mask_bit _ _ _ _ _ _ _ _ n c ∙ at_end))
        ∙ ends_same (eqb b 63) (has_bit s.dma n)

    going_bit : has_bit going n ≡ (en && eq && not still)
    going_bit = and_bit meets (255 - stays) n ∙ rw (not_bit stays n stays_small c, meets_bit, stays_bit)

    pub dma_bit : has_bit dma n ≡ (still || (en && eq))
    dma_bit = or_bit stays meets n ∙ rw (stays_bit, meets_bit)

    flip_bit : has_bit (bit_and (bit_xor s.flip yexp) (255 - bit_and going yexp)) n ≡ cond (en && eq && not still && has_bit yexp n) false (other (has_bit s.flip n) (has_bit yexp n))
    flip_bit =
        and_bit (bit_xor s.flip yexp) (255 - bit_and going yexp) n
        ∙ rw (xor_bit s.flip yexp n, not_bit (bit_and going yexp) n (and_lt 8 going yexp going_small hy) c, and_bit going yexp n, going_bit)
        (off_same (en && eq && not still && has_bit yexp n) (other (has_bit s.flip n) (has_bit yexp n)))

    shown_bit : has_bit (bit_and (bit_or s.display meets) dma) n ≡ cond (en && eq) true (has_bit s.display n && still)
    shown_bit = and_bit (bit_or s.display meets) dma n ∙ rw (or_bit s.display meets n, dma_bit, meets_bit) (shown_same (en && eq) (has_bit s.display n) still)

    -- the phases of this sprite
    moved : Sprite
    moved = sprite_mc≔ (moved_by (has_bit s.dma n && early) bytes (sprite_at s n).mc) (sprite_at s n)

    abbrev steps_to : View
    steps_to = stepped moved b (has_bit s.flip n) (has_bit 0 n) (has_bit s.display n) (has_bit yexp n) n line my still

    steps : view_of (sprites_stepped k raster my enable yexp s) n ≡ steps_to
    unfolding moved
    steps =
        stepped_view before before_sound n c
        ∙ ap (λ (v : View). cleared_v n (step_v n v)) (slots_view (early_slots k) n s (early_within k) c h ∙ early-moved (view_of s n))
        ∙ rw (same_base)

    abbrev ends : View
    ends = ended moved b (has_bit s.flip n) (has_bit 0 n) (has_bit s.display n) (has_bit yexp n) n line my still en eq

    first_on : view_of (sprites_first k raster my enable yexp s) n ≡ start_v line my enable yexp n (flip_v (has_bit yexp n) steps_to)
    first_on = first_view (mcbase_stepped before) stepped_fine raster my enable yexp hy n c ∙ ap (λ (v : View). start_v line my enable yexp n (flip_v (has_bit yexp n) v)) steps

    loads : view_of (sprites_loaded k raster my enable yexp s) n ≡ ends
    loads =
        loaded_view (sprites_second k raster my enable yexp s) second_fine raster my enable yexp hy n c
        ∙ ap (λ (v : View). show_v line my enable n (masked_v (load_v n v))) (second_view (sprites_first k raster my enable yexp s) first_fine raster my enable yexp hy n c)
        ∙ ap (λ (v : View). show_v line my enable n (masked_v (load_v n (start_v line my enable yexp n v)))) first_on
        ∙ phases moved b (has_bit s.flip n) (has_bit 0 n) (has_bit s.display n) (has_bit yexp n) n line my still en eq

    pub facts : Facts n b
    unfolding moved
    facts =
        record {
          sprite = ap (λ (v : View). v.sprite) loads ∙ sym (rw (going_bit, picks (en && eq && not still) 0 b));
          on = ap (λ (v : View). v.on) loads ∙ sym dma_bit;
          first = ap (λ (v : View). v.on) first_on ∙ start_on moved b (has_bit s.flip n) (has_bit 0 n) (has_bit s.display n) (has_bit yexp n) n line my still en eq ∙ sym dma_bit;
          flip = ap (λ (v : View). v.flip) loads ∙ sym flip_bit;
          shown = ap (λ (v : View). v.shown) loads ∙ sym shown_bit;
        }

  -- the eight of them
  left_rest : rest left ≡ rest_of 0 (sprites_first k raster my enable yexp s).dma 0
  left_rest =
      loaded_keeps raster my enable (sprites_second k raster my enable yexp s)
      ∙ second_rest raster my enable yexp (sprites_first k raster my enable yexp s)
      ∙ ap (λ (x : Rest). rest_of x.clear (sprites_first k raster my enable yexp s).dma x.vmatch) (first_rest raster my enable yexp (sprites_stepped k raster my enable yexp s))
      ∙ ap (λ (x : ℕ). rest_of x (sprites_first k raster my enable yexp s).dma 0) (step_clear before)

  flip_small : bit_and (bit_xor s.flip yexp) (255 - bit_and going yexp) < 256
  flip_small = and_lt 8 (bit_xor s.flip yexp) (255 - bit_and going yexp) (xor_lt 8 s.flip yexp h.flip hy) (omega arith)

  shown_small : bit_and (bit_or s.display meets) dma < 256
  shown_small = and_lt 8 (bit_or s.display meets) dma (or_lt 8 s.display meets h.display meets_small) dma_small

  pub record Counts : Type 0 where
    pub same : settled_of s B raster my enable yexp ≡ left
    pub mask : left.dma ≡ dma
    pub first : (sprites_first k raster my enable yexp s).dma ≡ dma

  module _ (f0 : Facts 0 (get_or B 0 0)) (f1 : Facts 1 (get_or B 1 0)) (f2 : Facts 2 (get_or B 2 0)) (f3 : Facts 3 (get_or B 3 0)) (f4 : Facts 4 (get_or B 4 0)) (f5 : Facts 5 (get_or B 5 0)) (f6 : Facts 6 (get_or B 6 0)) (f7 : Facts 7 (get_or B 7 0)) where
    each_same : left.each ≡ (settled_of s B raster my enable yexp).each
    unfolding sprite_at
    each_same = eight_list left.each loaded_fine.eight ∙ rw (f0.sprite, f1.sprite, f2.sprite, f3.sprite, f4.sprite, f5.sprite, f6.sprite, f7.sprite)

    dma_same : left.dma ≡ dma
    dma_same =
        by_bits left.dma dma loaded_fine.dma dma_small
        (by_eight (λ n. has_bit left.dma n ≡ has_bit dma n) f0.on f1.on f2.on f3.on f4.on f5.on f6.on f7.on)

    first_same : (sprites_first k raster my enable yexp s).dma ≡ dma
    first_same =
        by_bits (sprites_first k raster my enable yexp s).dma dma first_fine.dma dma_small
        (by_eight (λ n. has_bit (sprites_first k raster my enable yexp s).dma n ≡ has_bit dma n) f0.first f1.first f2.first f3.first f4.first f5.first f6.first f7.first)

    flip_same : left.flip ≡ bit_and (bit_xor s.flip yexp) (255 - bit_and going yexp)
    flip_same =
        by_bits left.flip (bit_and (bit_xor s.flip yexp) (255 - bit_and going yexp)) loaded_fine.flip flip_small
        (by_eight (λ n. has_bit left.flip n ≡ has_bit (bit_and (bit_xor s.flip yexp) (255 - bit_and going yexp)) n) f0.flip f1.flip f2.flip f3.flip f4.flip f5.flip f6.flip f7.flip)

    shown_same_all : left.display ≡ bit_and (bit_or s.display meets) dma
    shown_same_all =
        by_bits left.display (bit_and (bit_or s.display meets) dma) loaded_fine.display shown_small
        (by_eight (λ n. has_bit left.display n ≡ has_bit (bit_and (bit_or s.display meets) dma) n) f0.shown f1.shown f2.shown f3.shown f4.shown f5.shown f6.shown f7.shown)

    settled_same : settled_of s B raster my enable yexp ≡ left
    settled_same =
        alike (sym each_same) (sym flip_same) (sym (ap (λ (x : Rest). x.clear) left_rest)) (sym dma_same)
        (sym (ap (λ (x : Rest). x.prev) left_rest ∙ first_same)) (sym shown_same_all) (sym (ap (λ (x : Rest). x.vmatch) left_rest))

    pub all : Counts
    all = record { same = settled_same; mask = dma_same; first = first_same }

abbrev alike_masks : ℕ → ℕ → ℕ → Masks
alike_masks b f a = record { before = b; first = f; after = a }

-- on the 6569 sprite 3 has both its slots where a line begins; on the 6567R8 it has its pointer slot where one ends
module _ (s : Sprites) (raster : ℕ) (my : List ℕ) (enable yexp : ℕ) (h : Sound s) (he : enable < 256) (hy : yexp < 256) where
  counts : (k : Kind) → Counts k s raster my enable yexp h he hy
  counts the6569 =
      all the6569 s raster my enable yexp h he hy
      (facts the6569 s raster my enable yexp h he hy 0 (get_or (bases_of the6569 s) 0 0) (omega arith) false 0 refl refl refl (not_moved 0 0))
      (facts the6569 s raster my enable yexp h he hy 1 (get_or (bases_of the6569 s) 1 0) (omega arith) false 0 refl refl refl (not_moved 1 0))
      (facts the6569 s raster my enable yexp h he hy 2 (get_or (bases_of the6569 s) 2 0) (omega arith) false 0 refl refl refl (not_moved 2 0))
      (facts the6569 s raster my enable yexp h he hy 3 (get_or (bases_of the6569 s) 3 0) (omega arith) true 3 refl refl refl (twice_moved 3))
      (facts the6569 s raster my enable yexp h he hy 4 (get_or (bases_of the6569 s) 4 0) (omega arith) true 3 refl refl refl (twice_moved 4))
      (facts the6569 s raster my enable yexp h he hy 5 (get_or (bases_of the6569 s) 5 0) (omega arith) true 3 refl refl refl (twice_moved 5))
      (facts the6569 s raster my enable yexp h he hy 6 (get_or (bases_of the6569 s) 6 0) (omega arith) true 3 refl refl refl (twice_moved 6))
      (facts the6569 s raster my enable yexp h he hy 7 (get_or (bases_of the6569 s) 7 0) (omega arith) true 3 refl refl refl (twice_moved 7))
  counts the6567_r8 =
      all the6567_r8 s raster my enable yexp h he hy
      (facts the6567_r8 s raster my enable yexp h he hy 0 (get_or (bases_of the6567_r8 s) 0 0) (omega arith) false 0 refl refl refl (not_moved 0 0))
      (facts the6567_r8 s raster my enable yexp h he hy 1 (get_or (bases_of the6567_r8 s) 1 0) (omega arith) false 0 refl refl refl (not_moved 1 0))
      (facts the6567_r8 s raster my enable yexp h he hy 2 (get_or (bases_of the6567_r8 s) 2 0) (omega arith) false 0 refl refl refl (not_moved 2 0))
      (facts the6567_r8 s raster my enable yexp h he hy 3 (get_or (bases_of the6567_r8 s) 3 0) (omega arith) true 2 refl refl refl (once_moved 2 3))
      (facts the6567_r8 s raster my enable yexp h he hy 4 (get_or (bases_of the6567_r8 s) 4 0) (omega arith) true 3 refl refl refl (twice_moved 4))
      (facts the6567_r8 s raster my enable yexp h he hy 5 (get_or (bases_of the6567_r8 s) 5 0) (omega arith) true 3 refl refl refl (twice_moved 5))
      (facts the6567_r8 s raster my enable yexp h he hy 6 (get_or (bases_of the6567_r8 s) 6 0) (omega arith) true 3 refl refl refl (twice_moved 6))
      (facts the6567_r8 s raster my enable yexp h he hy 7 (get_or (bases_of the6567_r8 s) 7 0) (omega arith) true 3 refl refl refl (twice_moved 7))

  pub loads_all : (k : Kind) → settled_of s (bases_of k s) raster my enable yexp ≡ sprites_loaded k raster my enable yexp s
  loads_all k = (counts k).same

  -- the first comparison's mask is the second's, which the load of MC leaves
  pub masks_same : (k : Kind) → masks_of k raster my enable yexp s ≡ record { before = s.dma; first = (sprites_loaded k raster my enable yexp s).dma; after = (sprites_loaded k raster my enable yexp s).dma }
  masks_same k =
      let m = counts k in
      ap (λ (f : ℕ). alike_masks s.dma f (sprites_second k raster my enable yexp s).dma) (m.first ∙ sym m.mask)
      ∙ ap (λ (a : ℕ). alike_masks s.dma (sprites_loaded k raster my enable yexp s).dma a) (sym (loaded_dma raster my enable (sprites_second k raster my enable yexp s)))

-- the slots change nothing but the sprites themselves
fetch_keeps : (k bytes : ℕ) (s : Sprites) → each≔ [] (fetched k bytes s) ≡ each≔ [] s
unfolding fetched
fetch_keeps k bytes s = unless (each≔ []) (has_bit s.dma k) (sprite_at≔ k (sprite_mc≔ (((sprite_at s k).mc + bytes) % 64) (sprite_at s k)) s) s refl

slot_keeps : (x : Slot) (s : Sprites) → each≔ [] (slot_moves x s) ≡ each≔ [] s
slot_keeps (pointing n) s = fetch_keeps n 1 s
slot_keeps (fetching n) s = fetch_keeps n 2 s

slots_keep : (xs : List Slot) (s : Sprites) → each≔ [] (slots_move xs s) ≡ each≔ [] s
slots_keep [] s = refl
slots_keep (x ∷ more) s = slots_keep more (slot_moves x s) ∙ slot_keeps x s

-- the sprites that have some of them
firsts : {a b c d a' b' c' d' : View} (more : List Sprite) → a ≡ a' → b ≡ b' → c ≡ c' → d ≡ d' → (a.sprite ∷ b.sprite ∷ c.sprite ∷ d.sprite ∷ more) ≡ (a'.sprite ∷ b'.sprite ∷ c'.sprite ∷ d'.sprite ∷ more)
firsts more pa pb pc pd = rw (pa, pb, pc, pd)

-- after the slots that a line ends with
module _ (s : Sprites) (h : Sound s) where
  abbrev through : List Slot → ℕ → Sprite
  through xs n = (slots_v xs n (view_of s n)).sprite

  slots_at : (xs : List Slot) (n : ℕ) → Within xs → n < 8 → sprite_at (slots_move xs s) n ≡ through xs n
  slots_at xs n w c = ap (λ (v : View). v.sprite) (slots_view xs n s w c h)

  slots_each : (xs : List Slot) → Within xs
      → (slots_move xs s).each ≡ (through xs 0 ∷ through xs 1 ∷ through xs 2 ∷ through xs 3 ∷ through xs 4 ∷ through xs 5 ∷ through xs 6 ∷ through xs 7 ∷ [])
  unfolding sprite_at
  slots_each xs w =
      eight_list (slots_move xs s).each (slots_sound xs s w h).eight
      ∙ rw (slots_at xs 0 w (omega arith), slots_at xs 1 w (omega arith), slots_at xs 2 w (omega arith), slots_at xs 3 w (omega arith), slots_at xs 4 w (omega arith), slots_at xs 5 w (omega arith), slots_at xs 6 w (omega arith), slots_at xs 7 w (omega arith))

  late_each : (k : Kind) → (slots_move (late_slots k) s).each ≡ (incremented_of (late3 k) s).each
  late_each the6569 = slots_each (late_slots the6569) (late_within the6569) ∙ firsts _ (twice_moved 0 (view_of s 0)) (twice_moved 1 (view_of s 1)) (twice_moved 2 (view_of s 2)) (not_moved 3 1 (view_of s 3))
  late_each the6567_r8 = slots_each (late_slots the6567_r8) (late_within the6567_r8) ∙ firsts _ (twice_moved 0 (view_of s 0)) (twice_moved 1 (view_of s 1)) (twice_moved 2 (view_of s 2)) (once_moved 1 3 (view_of s 3))

  pub late_slots_lem : (k : Kind) → incremented_of (late3 k) s ≡ slots_move (late_slots k) s
  late_slots_lem k = sym (ap (each≔ (slots_move (late_slots k) s).each) (slots_keep (late_slots k) s) ∙ ap (λ (x : List Sprite). each≔ x s) (late_each k))
