-- 02 (vi): the line compared between two ticks: equal and unmatched, equal and matched, unequal. Assumes nothing.
use Prim.Native.Nat.{ℕ}
use mathlib.Core.Path.{◌≡◌, sym, ap}
use mathlib.Core.Bool.{Bool, true, false}
use borrow.Author.Tests.{eq-eqb, ne_eqb}
use Rattle.registers.specs.declared.Irq.{Irq}
use Rattle.registers.specs.Irq.{triggered}
use Rattle.raster.specs.declared.Frame.{Frame}
use Rattle.raster.specs.declared.Compared.{Compared}
use Rattle.raster.specs.Frame.{match_raises, raised, compared}
use Rattle.raster.specs.Set.{matched≔}

abbrev pub left : Frame → Irq → Compared
left f i = record { frame = f; irq = i }

module _ (f : Frame) (i : Irq) (raster compare : ℕ) where
  pub equal_raises : raster ≡ compare → f.matched ≡ false → compared f i raster compare ≡ left (matched≔ true f) (triggered i 1)
  unfolding compared match_raises raised
  equal_raises e m = rw (eq-eqb raster compare e, m)

  pub equal_stays : raster ≡ compare → f.matched ≡ true → compared f i raster compare ≡ left f i
  unfolding compared match_raises raised
  equal_stays e m = simp (eq-eqb raster compare e, m) (ap (λ (b : Bool). left (matched≔ b f) i) (sym m))

  pub unequal_clears : (raster ≡ compare → ⊥) → compared f i raster compare ≡ left (matched≔ false f) i
  unfolding compared match_raises raised
  unequal_clears n = rw (ne_eqb raster compare n)
