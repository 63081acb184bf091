-- The sprites' slots go by AEC in their own cycles alone: the two words of AEC are enough for them. Assumes nothing.
use Prim.Native.Nat.{ℕ, ◌+◌, ◌-◌, ◌<◌, ◌≤◌}
use mathlib.Core.Path.{◌≡◌, ◌∙◌, ap}
use mathlib.Core.Bool.{Bool}
use mathlib.Core.List.{List, [], ◌∷◌}
use native.Mathlib.Omega.{arith}
use Rattle.laws.specs.Bits.{has_bit}
use Rattle.schedule.specs.Kind.{Kind, the6569, the6567_r8, last_cycle}
use Rattle.schedule.proofs.Places.{last_least}
use Rattle.sprites.specs.declared.Sprites.{Sprites}
use Rattle.arbitration.specs.declared.Bus.{Bus}
use Rattle.picture.specs.Pen.{Latches}
use Rattle.lines.specs.Sprites.{Slot, cycle_of, early_slots, late_slots}
use Rattle.lines.specs.Bus.{Masks, low_in}
use Rattle.lines.specs.Slots.{slots_read}
use Rattle.waves.specs.Waves.{Wave, low_early, low_late}
use Rattle.waves.proofs.Line.{early_low, late_low}
use Rattle.fetches.specs.Fetches.{fetch_early, fetch_late}
use Rattle.fetches.proofs.Goes.{Agree, nowhere, there, goes}
use Rattle.engine.specs.Parts.{fetch_by, slots_by}

-- the slots of a list, all after one cycle and none after another
abbrev Between : Kind → ℕ → ℕ → List Slot → Type 0
Between k lo hi [] = Unit
Between k lo hi (x ∷ more) = ((lo < cycle_of k x) × (cycle_of k x ≤ hi)) × Between k lo hi more

-- two waves that are the same from one cycle to another agree where such slots look
agree : (k : Kind) (low other : ℕ → Bool) (lo hi : ℕ) → ((i : ℕ) → lo ≤ i → i ≤ hi → low i ≡ other i) → (xs : List Slot) → Between k lo hi xs → Agree k low other xs
agree k low other lo hi e [] b = nowhere
agree k low other lo hi e (x ∷ more) b =
    let c = cycle_of k x in
    there {x = x} (rw (e c (omega (arith, b.0.0)) b.0.1, e (c - 1) (omega (arith, b.0.0)) (omega (arith, b.0.1)))) (agree k low other lo hi e more b.1)

early_between : (k : Kind) → Between k 0 10 (early_slots k)
early_between the6569 = ((omega arith, omega arith), ((omega arith, omega arith), ((omega arith, omega arith), ((omega arith, omega arith), ((omega arith, omega arith), ((omega arith, omega arith), ((omega arith, omega arith), ((omega arith, omega arith), ((omega arith, omega arith), ((omega arith, omega arith), tt))))))))))
early_between the6567_r8 = ((omega arith, omega arith), ((omega arith, omega arith), ((omega arith, omega arith), ((omega arith, omega arith), ((omega arith, omega arith), ((omega arith, omega arith), ((omega arith, omega arith), ((omega arith, omega arith), ((omega arith, omega arith), tt)))))))))

late_between : (k : Kind) → Between k 54 (last_cycle k) (late_slots k)
late_between the6569 = ((omega arith, omega arith), ((omega arith, omega arith), ((omega arith, omega arith), ((omega arith, omega arith), ((omega arith, omega arith), ((omega arith, omega arith), tt))))))
late_between the6567_r8 = ((omega arith, omega arith), ((omega arith, omega arith), ((omega arith, omega arith), ((omega arith, omega arith), ((omega arith, omega arith), ((omega arith, omega arith), ((omega arith, omega arith), tt)))))))

module _ (k : Kind) (bad : Bool) (m : Masks) (b : Bus) (ptrs : ℕ) (ram rom : List ℕ) (bank : ℕ) where
  early_reads : {w : ℕ} → Wave 11 (low_early k m.before b.aec) w → (s : Sprites) (l : Latches)
      → slots_read k (record { ptrs = ptrs; ram = ram; rom = rom; bank = bank; low = λ c. has_bit w c }) (early_slots k) s l ≡ slots_read k (fetch_by k bad m b ptrs ram rom bank) (early_slots k) s l
  early_reads {w} v s l =
      goes k (fetch_by k bad m b ptrs ram rom bank) (λ c. has_bit w c) (low_in k bad m b) (early_slots k) s l
      (agree k (λ c. has_bit w c) (low_in k bad m b) 0 10 (λ i p q. v.bits i (omega (arith, q)) ∙ early_low k bad m b i q) (early_slots k) (early_between k))

  late_reads : {w : ℕ} → m.first ≡ m.after → Wave (last_cycle k - 53) (low_late k bad m.after) w → (s : Sprites) (l : Latches)
      → slots_read k (record { ptrs = ptrs; ram = ram; rom = rom; bank = bank; low = λ c. has_bit w (c - 54) }) (late_slots k) s l ≡ slots_read k (fetch_by k bad m b ptrs ram rom bank) (late_slots k) s l
  late_reads {w} e v s l =
      goes k (fetch_by k bad m b ptrs ram rom bank) (λ c. has_bit w (c - 54)) (low_in k bad m b) (late_slots k) s l
      (agree k (λ c. has_bit w (c - 54)) (low_in k bad m b) 54 (last_cycle k)
      (λ i p q. let at : 54 + (i - 54) ≡ i = omega (arith, p) in v.bits (i - 54) (omega (arith, p, q, last_least k)) ∙ late_low k bad m b e (i - 54) ∙ ap (low_in k bad m b) at) (late_slots k) (late_between k))

  pub slots_glue : (s t : Sprites) {w over : ℕ} {first l' : Latches} (l : Latches) → m.first ≡ m.after → Wave 11 (low_early k m.before b.aec) w → Wave (last_cycle k - 53) (low_late k bad m.after) over
      → first ≡ slots_read k (fetch_early w ptrs ram rom bank) (early_slots k) s l
      → l' ≡ slots_read k (fetch_late over ptrs ram rom bank) (late_slots k) t first
      → l' ≡ slots_by k (fetch_by k bad m b ptrs ram rom bank) s t l
  slots_glue s t {w} {over} {first} {l'} l e v u p q =
      q ∙ late_reads e u t first
      ∙ ap (slots_read k (fetch_by k bad m b ptrs ram rom bank) (late_slots k) t) (p ∙ early_reads v s l)
