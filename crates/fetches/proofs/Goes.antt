-- A line's slots go by AEC in their own cycles and the ones before them alone. Assumes nothing.
use Prim.Native.Nat.{ℕ, ◌-◌}
use mathlib.Core.Path.{◌≡◌, refl, ap, ◌∙◌}
use mathlib.Core.Bool.{Bool}
use mathlib.Core.List.{List, [], ◌∷◌}
use Rattle.laws.specs.Pick.{pick}
use Rattle.schedule.specs.Kind.{Kind}
use Rattle.sprites.specs.declared.Sprites.{Sprites}
use Rattle.picture.specs.Pen.{Latches}
use Rattle.lines.specs.Sprites.{Slot, pointing, fetching, cycle_of, slot_moves}
use Rattle.lines.specs.Slots.{Fetch, low_at, slot_reads, slots_read}

abbrev pub lowering : Fetch → (ℕ → Bool) → Fetch
lowering f low = record { ptrs = f.ptrs; ram = f.ram; rom = f.rom; bank = f.bank; low = low }

-- the two agree where the slots look
pub data Agree (k : Kind) (a b : ℕ → Bool) : List Slot → Type 0 where
  nowhere : Agree k a b []
  there : {x : Slot} {more : List Slot} → low_at k a (cycle_of k x) ≡ low_at k b (cycle_of k x) → Agree k a b more → Agree k a b (x ∷ more)

module _ (k : Kind) (f : Fetch) (a b : ℕ → Bool) where
  one : (x : Slot) (s : Sprites) (l : Latches) → low_at k a (cycle_of k x) ≡ low_at k b (cycle_of k x) → slot_reads k (lowering f a) x s l ≡ slot_reads k (lowering f b) x s l
  unfolding slot_reads
  one (pointing n) s l e = rw e
  one (fetching n) s l e = rw e

  pub goes : (xs : List Slot) (s : Sprites) (l : Latches) → Agree k a b xs → slots_read k (lowering f a) xs s l ≡ slots_read k (lowering f b) xs s l
  goes [] s l nowhere = refl
  goes (x ∷ more) s l (there e h) = ap (slots_read k (lowering f a) more (slot_moves x s)) (one x s l e) ∙ goes more (slot_moves x s) (slot_reads k (lowering f b) x s l) h
