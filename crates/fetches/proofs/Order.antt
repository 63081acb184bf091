-- A line's slots, each by the sprites as the first of them finds them: a slot moves its own sprite's MC alone. Assumes nothing.
use Prim.Native.Nat.{ℕ, suc, ◌+◌, ◌%◌, ◌<◌, ◌≤◌}
use mathlib.Core.Path.{◌≡◌, refl, sym, ap, ◌∙◌}
use mathlib.Core.Bool.{Bool, true, false, cond}
use mathlib.Core.List.{List, [], ◌∷◌}
use native.Mathlib.Omega.{arith}
use lib.ListN.{length, length-set, set}
use lib.Seq.{get_or-set_same, get_or-set_other}
use Rattle.laws.specs.Bits.{has_bit}
use Rattle.laws.specs.Pick.{pick}
use Rattle.schedule.specs.Kind.{Kind, the6569, the6567_r8, pointer_slot, data_slot}
use Rattle.schedule.specs.Diagram.{slot_after_bus}
use Rattle.sprites.specs.declared.Sprite.{Sprite}
use Rattle.sprites.specs.declared.Sprites.{Sprites}
use Rattle.sprites.specs.Sprites.{none, sprite_at, fetched}
use Rattle.sprites.specs.Set.{sprite_mc≔, each≔}
use Rattle.picture.specs.Pen.{Latches}
use Rattle.lines.specs.Sprites.{Slot, pointing, fetching, pair, early_slots, late_slots}
use Rattle.lines.specs.Slots.{Fetch, low_at, slot_reads, slots_read}
use Rattle.fetches.specs.Fetches.{fetch_early, fetch_late, mc_moved, pointing_read, fetching_read, pair_read, sprite_read, four_five, six_seven, four_to_seven, zero_one, zero_to_two, place_early, place_late, third_early, third_late}

-- t is s but for sprites below m
pub record From (m : ℕ) (s t : Sprites) : Type 0 where
  pub masks : t.dma ≡ s.dma
  pub eight : length t.each ≡ 8
  pub later : (n : ℕ) → m ≤ n → sprite_at t n ≡ sprite_at s n

pub from_self : (m : ℕ) (s : Sprites) → length s.each ≡ 8 → From m s s
from_self m s e = record { masks = refl; eight = e; later = λ n l. refl }

-- what a slot of sprite k changes
abbrev put : ℕ → ℕ → Sprites → Sprites
put k b s = each≔ (set s.each k (sprite_mc≔ (((sprite_at s k).mc + b) % 64) (sprite_at s k))) s

fetched_masks : (k b : ℕ) (t : Sprites) → (fetched k b t).dma ≡ t.dma
unfolding fetched
fetched_masks k b t = by (has_bit t.dma k)
  where
    by : (x : Bool) → (cond x (put k b t) t).dma ≡ t.dma
    by true = refl
    by false = refl

fetched_eight : (k b : ℕ) (t : Sprites) → length (fetched k b t).each ≡ length t.each
unfolding fetched
fetched_eight k b t = by (has_bit t.dma k)
  where
    by : (x : Bool) → length (cond x (put k b t) t).each ≡ length t.each
    by true = length-set t.each k (sprite_mc≔ (((sprite_at t k).mc + b) % 64) (sprite_at t k))
    by false = refl

fetched_other : (k b n : ℕ) (t : Sprites) → k < n → sprite_at (fetched k b t) n ≡ sprite_at t n
unfolding fetched sprite_at
fetched_other k b n t l = by (has_bit t.dma k)
  where
    by : (x : Bool) → sprite_at (cond x (put k b t) t) n ≡ sprite_at t n
    by true = get_or-set_other t.each k n (sprite_mc≔ (((sprite_at t k).mc + b) % 64) (sprite_at t k)) none (λ e. omega arith)
    by false = refl

fetched_same : (k : ℕ) (t : Sprites) → k < length t.each → (sprite_at (fetched k 1 t) k).mc ≡ mc_moved (has_bit t.dma k) (sprite_at t k).mc
unfolding fetched sprite_at
fetched_same k t l = by (has_bit t.dma k)
  where
    by : (x : Bool) → (sprite_at (cond x (put k 1 t) t) k).mc ≡ cond x (((sprite_at t k).mc + 1) % 64) (sprite_at t k).mc
    by true = ap (λ (v : Sprite). v.mc) (get_or-set_same t.each k (sprite_mc≔ (((sprite_at t k).mc + 1) % 64) (sprite_at t k)) none l)
    by false = refl

-- after a slot of sprite k
pub from_next : (m k b : ℕ) {s t : Sprites} → k < m → From m s t → From m s (fetched k b t)
from_next m k b {s} {t} l h =
    record {
      masks = fetched_masks k b t ∙ h.masks;
      eight = fetched_eight k b t ∙ h.eight;
      later = λ n le. fetched_other k b n t (omega arith) ∙ h.later n le;
    }

pub from_up : (m : ℕ) {s t : Sprites} → From m s t → From (suc m) s t
from_up m h = record { masks = h.masks; eight = h.eight; later = λ n le. h.later n (omega arith) }

pub from_pair : (m : ℕ) {s t : Sprites} → From m s t → From (suc m) s (fetched m 2 (fetched m 1 t))
from_pair m h = from_next (suc m) m 2 (omega arith) (from_next (suc m) m 1 (omega arith) (from_up m h))

-- a slot by the DMA mask and the MC that it finds
module _ (k : Kind) (f : Fetch) (n : ℕ) (u : Sprites) {d m : ℕ} (masks : u.dma ≡ d) (mc : (sprite_at u n).mc ≡ m) (l : Latches) where
  point_at : slot_reads k f (pointing n) u l ≡ pointing_read n (has_bit d n) m (low_at k f.low (pointer_slot k n)) f.ptrs f.ram f.rom f.bank l
  unfolding slot_reads pointing_read
  point_at =
      ap (λ (x : ℕ). pointing_read n (has_bit x n) (sprite_at u n).mc (low_at k f.low (pointer_slot k n)) f.ptrs f.ram f.rom f.bank l) masks
      ∙ ap (λ (x : ℕ). pointing_read n (has_bit d n) x (low_at k f.low (pointer_slot k n)) f.ptrs f.ram f.rom f.bank l) mc

  fetch_at : slot_reads k f (fetching n) u l ≡ fetching_read n (has_bit d n) m (low_at k f.low (data_slot k n)) f.ram f.rom f.bank l
  unfolding slot_reads fetching_read
  fetch_at =
      ap (λ (x : ℕ). fetching_read n (has_bit x n) (sprite_at u n).mc (low_at k f.low (data_slot k n)) f.ram f.rom f.bank l) masks
      ∙ ap (λ (x : ℕ). fetching_read n (has_bit d n) x (low_at k f.low (data_slot k n)) f.ram f.rom f.bank l) mc

module _ (k : Kind) (f : Fetch) (n : ℕ) {s t : Sprites} (h : From n s t) (l : Latches) where
  mc_first : (sprite_at t n).mc ≡ (sprite_at s n).mc
  mc_first = ap (λ (v : Sprite). v.mc) (h.later n (omega arith))

  mc_second : n < 8 → (sprite_at (fetched n 1 t) n).mc ≡ mc_moved (has_bit s.dma n) (sprite_at s n).mc
  mc_second b =
      fetched_same n t (omega (arith, h.eight))
      ∙ ap (λ (x : ℕ). mc_moved (has_bit x n) (sprite_at t n).mc) h.masks
      ∙ ap (mc_moved (has_bit s.dma n)) mc_first

  pub point : slot_reads k f (pointing n) t l ≡ pointing_read n (has_bit s.dma n) (sprite_at s n).mc (low_at k f.low (pointer_slot k n)) f.ptrs f.ram f.rom f.bank l
  point = point_at k f n t h.masks mc_first l

  pub fetch : slot_reads k f (fetching n) t l ≡ fetching_read n (has_bit s.dma n) (sprite_at s n).mc (low_at k f.low (data_slot k n)) f.ram f.rom f.bank l
  fetch = fetch_at k f n t h.masks mc_first l

  both : n < 8 → slot_reads k f (fetching n) (fetched n 1 t) (slot_reads k f (pointing n) t l) ≡ pair_read n (has_bit s.dma n) (sprite_at s n).mc (low_at k f.low (pointer_slot k n)) (low_at k f.low (data_slot k n)) f.ptrs f.ram f.rom f.bank l
  unfolding pair_read
  both b = ap (slot_reads k f (fetching n) (fetched n 1 t)) point ∙ fetch_at k f n (fetched n 1 t) (fetched_masks n 1 t ∙ h.masks) (mc_second b) _

  pub pair_first : n < 8 → (more : List Slot) → slots_read k f (pair n more) t l ≡ slots_read k f more (fetched n 2 (fetched n 1 t)) (pair_read n (has_bit s.dma n) (sprite_at s n).mc (low_at k f.low (pointer_slot k n)) (low_at k f.low (data_slot k n)) f.ptrs f.ram f.rom f.bank l)
  pair_first b more = ap (slots_read k f more (fetched n 2 (fetched n 1 t))) (both b)

module _ (s : Sprites) (e : length s.each ≡ 8) (low ptrs : ℕ) (ram rom : List ℕ) (bank : ℕ) (l : Latches) where
  early_pal : four_to_seven s low 3 ptrs ram rom bank (sprite_read s low 3 1 2 ptrs ram rom bank l) ≡ slots_read the6569 (fetch_early low ptrs ram rom bank) (early_slots the6569) s l
  unfolding four_to_seven four_five six_seven pick slot_after_bus
  early_pal =
      let f = fetch_early low ptrs ram rom bank in
      let h3 = from_self 3 s e in
      let h4 = from_pair 3 h3 in
      let l4 = sprite_read s low 3 1 2 ptrs ram rom bank l in
      let h5 = from_pair 4 h4 in
      let l5 = sprite_read s low 4 2 3 ptrs ram rom bank l4 in
      let h6 = from_pair 5 h5 in
      let l6 = sprite_read s low 5 4 5 ptrs ram rom bank l5 in
      let h7 = from_pair 6 h6 in
      let l7 = sprite_read s low 6 6 7 ptrs ram rom bank l6 in
      sym (pair_first the6569 f 3 h3 l (omega arith) (pair 4 (pair 5 (pair 6 (pair 7 []))))
      ∙ pair_first the6569 f 4 h4 l4 (omega arith) (pair 5 (pair 6 (pair 7 [])))
      ∙ pair_first the6569 f 5 h5 l5 (omega arith) (pair 6 (pair 7 []))
      ∙ pair_first the6569 f 6 h6 l6 (omega arith) (pair 7 [])
      ∙ pair_first the6569 f 7 h7 l7 (omega arith) [])

  early_ntsc : four_to_seven s low 2 ptrs ram rom bank (fetching_read 3 (has_bit s.dma 3) (sprite_at s 3).mc (has_bit low 1) ram rom bank l) ≡ slots_read the6567_r8 (fetch_early low ptrs ram rom bank) (early_slots the6567_r8) s l
  unfolding four_to_seven four_five six_seven pick slot_after_bus
  early_ntsc =
      let f = fetch_early low ptrs ram rom bank in
      let h3 = from_self 3 s e in
      let h4 = from_next 4 3 2 (omega arith) (from_up 3 h3) in
      let x = fetching_read 3 (has_bit s.dma 3) (sprite_at s 3).mc (has_bit low 1) ram rom bank l in
      let h5 = from_pair 4 h4 in
      let l5 = sprite_read s low 4 2 2 ptrs ram rom bank x in
      let h6 = from_pair 5 h5 in
      let l6 = sprite_read s low 5 3 4 ptrs ram rom bank l5 in
      let h7 = from_pair 6 h6 in
      let l7 = sprite_read s low 6 5 6 ptrs ram rom bank l6 in
      sym (ap (slots_read the6567_r8 f (pair 4 (pair 5 (pair 6 (pair 7 [])))) (fetched 3 2 s)) (fetch the6567_r8 f 3 h3 l)
      ∙ pair_first the6567_r8 f 4 h4 x (omega arith) (pair 5 (pair 6 (pair 7 [])))
      ∙ pair_first the6567_r8 f 5 h5 l5 (omega arith) (pair 6 (pair 7 []))
      ∙ pair_first the6567_r8 f 6 h6 l6 (omega arith) (pair 7 [])
      ∙ pair_first the6567_r8 f 7 h7 l7 (omega arith) [])

  late_pal : zero_to_two s low 4 ptrs ram rom bank l ≡ slots_read the6569 (fetch_late low ptrs ram rom bank) (late_slots the6569) s l
  unfolding zero_to_two zero_one pick slot_after_bus
  late_pal =
      let f = fetch_late low ptrs ram rom bank in
      let h0 = from_self 0 s e in
      let h1 = from_pair 0 h0 in
      let l1 = sprite_read s low 0 4 4 ptrs ram rom bank l in
      let h2 = from_pair 1 h1 in
      let l2 = sprite_read s low 1 5 6 ptrs ram rom bank l1 in
      sym (pair_first the6569 f 0 h0 l (omega arith) (pair 1 (pair 2 []))
      ∙ pair_first the6569 f 1 h1 l1 (omega arith) (pair 2 [])
      ∙ pair_first the6569 f 2 h2 l2 (omega arith) [])

  late_ntsc : pointing_read 3 (has_bit s.dma 3) (sprite_at s 3).mc (has_bit low 10) ptrs ram rom bank (zero_to_two s low 5 ptrs ram rom bank l) ≡ slots_read the6567_r8 (fetch_late low ptrs ram rom bank) (late_slots the6567_r8) s l
  unfolding zero_to_two zero_one pick slot_after_bus
  late_ntsc =
      let f = fetch_late low ptrs ram rom bank in
      let h0 = from_self 0 s e in
      let h1 = from_pair 0 h0 in
      let l1 = sprite_read s low 0 5 5 ptrs ram rom bank l in
      let h2 = from_pair 1 h1 in
      let l2 = sprite_read s low 1 6 7 ptrs ram rom bank l1 in
      let h3 = from_pair 2 h2 in
      let l3 = sprite_read s low 2 8 9 ptrs ram rom bank l2 in
      sym (pair_first the6567_r8 f 0 h0 l (omega arith) (pair 1 (pair 2 (pointing 3 ∷ [])))
      ∙ pair_first the6567_r8 f 1 h1 l1 (omega arith) (pair 2 (pointing 3 ∷ []))
      ∙ pair_first the6567_r8 f 2 h2 l2 (omega arith) (pointing 3 ∷ [])
      ∙ point the6567_r8 f 3 h3 l3)

  pub early_slots_lem : (k : Kind) → four_to_seven s low (place_early k) ptrs ram rom bank (third_early s low k ptrs ram rom bank l) ≡ slots_read k (fetch_early low ptrs ram rom bank) (early_slots k) s l
  unfolding place_early third_early
  early_slots_lem the6569 = early_pal
  early_slots_lem the6567_r8 = early_ntsc

  pub late_slots_lem : (k : Kind) → third_late s low k ptrs ram rom bank (zero_to_two s low (place_late k) ptrs ram rom bank l) ≡ slots_read k (fetch_late low ptrs ram rom bank) (late_slots k) s l
  unfolding place_late third_late
  late_slots_lem the6569 = late_pal
  late_slots_lem the6567_r8 = late_ntsc
