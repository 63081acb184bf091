-- The steps of `bus_line`, put together: a premise for each. Assumes nothing.
use Prim.Native.Nat.{ℕ, suc, ◌<◌, ◌+◌, ◌-◌, ◌*◌, ◌/◌, ◌^◌}
use mathlib.Core.Path.{◌≡◌, refl}
use mathlib.Core.Bool.{Bool, cond}
use native.Mathlib.Omega.{arith}
use lib.Dec.{eqb, leb}
use lib.Bits.{bit_and}
use lib.Count.{ones}
use lib.IntN.{ℤ}
use Rattle.schedule.specs.Kind.{Kind, last_cycle}
use Rattle.schedule.specs.Requests.{mask_at}
use Rattle.arbitration.specs.declared.Bus.{Bus}
use Rattle.arbitration.specs.Bus.{fresh, sprite_asks, clock_on}
use Rattle.lines.specs.Bus.{Masks, low_in, bus_line}
use Rattle.waves.specs.Waves.{Wave, low_early, low_late, count_of, edge_of}
use Rattle.waves.proofs.Words.{as_wave}
use Rattle.waves.proofs.Line.{without, whole_line, run_word_lem, early_low, late_low}

module _ (k : Kind) (bad : Bool) (before after : ℕ) (b : Bus) where
  abbrev masks : Masks
  masks = record { before = before; first = after; after = after }

  pub glue : {first last low over held kept fell late rose later run lost : ℕ} {clock fall rise aec : ℤ}
      → Wave 10 (λ i. sprite_asks before (mask_at k (suc i))) first
      → Wave (last_cycle k - 54) (λ i. sprite_asks after (mask_at k (55 + i))) last
      → Wave 11 (low_early k before b.aec) low
      → Wave (last_cycle k - 53) (low_late k bad after) over
      → held ≡ first * 2 + cond b.balow 1 0
      → kept ≡ bit_and (2 ^ (last_cycle k - 54) - 1) (last * 2 + cond bad 1 0)
      → fell ≡ without first held
      → late ≡ without last kept
      → fall ≡ edge_of late 54 b.clock (cond bad (clock_on 12 b.clock) (edge_of fell 0 b.clock b.fall))
      → rose ≡ without held first
      → later ≡ without kept last
      → rise ≡ edge_of later 54 b.clock (edge_of rose 0 b.clock b.rise)
      → run ≡ (last * 16 + cond bad 15 0) / 2 ^ (last_cycle k - 54)
      → aec ≡ count_of run
      → lost ≡ ones (low / 2 ^ 1) + cond bad 40 0 + ones (over / 2 ^ 1)
      → clock ≡ clock_on (last_cycle k) b.clock
      → record { clock = clock; fall = fall; rise = rise; aec = aec; balow = leb 8 run; aeclow = eqb run 15; lost = lost } ≡ bus_line k bad masks b
  glue x y p q held kept fell late fall rose later rise run aec lost clock =
      rw (clock, fall, rise, aec, lost, run, fell, late, rose, later, held, kept)
      (whole_line k bad masks b refl x y (as_wave p (λ i. low_in k bad masks b i) (λ i h. early_low k bad masks b i (omega arith))) (as_wave q (λ i. low_in k bad masks b (54 + i)) (λ i h. late_low k bad masks b refl i)))

-- a line's last four requests are four bits
pub small_run : (k : Kind) (bad : Bool) (dma : ℕ) {last run : ℕ}
    → Wave (last_cycle k - 54) (λ i. sprite_asks dma (mask_at k (55 + i))) last → run ≡ (last * 16 + cond bad 15 0) / 2 ^ (last_cycle k - 54) → run < 16
small_run k bad dma x e = rw e (run_word_lem k bad (record { before = 0; first = dma; after = dma }) fresh refl x).small
