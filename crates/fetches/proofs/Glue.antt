-- A line's slots from what each call of the code ensures, and the bits that they begin at. Assumes nothing.
use Prim.Native.Nat.{ℕ, ◌<◌}
use mathlib.Core.Path.{◌≡◌, ◌∙◌}
use mathlib.Core.List.{List}
use native.Mathlib.Omega.{arith}
use lib.ListN.{length}
use Rattle.schedule.specs.Kind.{Kind, the6569, the6567_r8}
use Rattle.sprites.specs.declared.Sprites.{Sprites}
use Rattle.picture.specs.Pen.{Latches}
use Rattle.lines.specs.Sprites.{early_slots, late_slots}
use Rattle.lines.specs.Slots.{slots_read}
use Rattle.fetches.specs.Fetches.{fetch_early, fetch_late, four_to_seven, zero_to_two, place_early, place_late, third_early, third_late}
use Rattle.fetches.proofs.Order.{early_slots_lem, late_slots_lem}

module _ (s : Sprites) (eight : length s.each ≡ 8) (k : Kind) (low ptrs : ℕ) (ram rom : List ℕ) (bank : ℕ) (l : Latches) {a : ℕ} {m r : Latches} where
  pub early_whole : a ≡ place_early k → m ≡ third_early s low k ptrs ram rom bank l → r ≡ four_to_seven s low a ptrs ram rom bank m → r ≡ slots_read k (fetch_early low ptrs ram rom bank) (early_slots k) s l
  early_whole p d e = e ∙ rw (p, d) (early_slots_lem s eight low ptrs ram rom bank l k)

  pub late_whole : a ≡ place_late k → m ≡ zero_to_two s low a ptrs ram rom bank l → r ≡ third_late s low k ptrs ram rom bank m → r ≡ slots_read k (fetch_late low ptrs ram rom bank) (late_slots k) s l
  late_whole p d e = e ∙ rw (d, p) (late_slots_lem s eight low ptrs ram rom bank l k)

pub early_fits : (k : Kind) → place_early k < 8
unfolding place_early
early_fits the6569 = omega arith
early_fits the6567_r8 = omega arith

pub late_fits : (k : Kind) → place_late k < 8
unfolding place_late
late_fits the6569 = omega arith
late_fits the6567_r8 = omega arith
