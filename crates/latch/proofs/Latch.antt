-- The DEN latch is whether DEN was set on line 0x30, and only the frame's end changes it elsewhere. Assumes nothing.
use Prim.Native.Nat.{ℕ, suc, ◌+◌, ◌<◌, ◌≤◌}
use mathlib.Core.Path.{◌≡◌, refl, sym, ◌∙◌, ap}
use mathlib.Core.Bool.{Bool, true, false, ◌||◌}
use mathlib.Core.List.{List, [], ◌∷◌}
use native.Mathlib.Omega.{arith}
use borrow.Author.Tests.{ne_eqb}
use lib.ListN.{length}
use Rattle.laws.proofs.Choice.{or_false}
use Rattle.schedule.specs.Kind.{kind_of, last_cycle}
use Rattle.schedule.proofs.Laws.{not_begun}
use Rattle.registers.specs.declared.Controls.{Controls}
use Rattle.timing.specs.Beam.{next_cycle}
use Rattle.timing.proofs.Kept.{cycle_next, cycle_wraps, latch_added}
use Rattle.raster.specs.declared.Frame.{Frame}
use Rattle.raster.specs.declared.Swept.{Swept}
use Rattle.raster.proofs.Laws.{Stored, swept_inside, swept_stores, kept_elsewhere}
use Rattle.side.specs.declared.Side.{Side}
use Rattle.side.specs.Turn.{turned}
use Rattle.side.proofs.Kept.{side_kind, side_cycle, side_raster, side_latch, side_frame}
use Rattle.latch.specs.Latch.{ran, some_den, Before, WhetherDenWasSet, sweep_of, OnlyTheFramesEnd}

either_way : (a b : Bool) → (a || b) ≡ (b || a)
either_way true true = refl
either_way true false = refl
either_way false true = refl
either_way false false = refl

regroup : (a b c : Bool) → ((a || b) || c) ≡ (a || (b || c))
regroup true b c = refl
regroup false b c = refl

-- some way on line 0x30
record On (of : ℕ) (s : Side) (c : ℕ) (l : Bool) : Type 0 where
  pub kind : s.beam.kind ≡ of
  pub cycle : s.beam.cycle ≡ c
  pub raster : s.beam.raster ≡ 0x30
  pub ending : s.frame.ending ≡ false
  pub latch : s.beam.latch ≡ l

-- its first tick
first : (s : Side) (g : Controls) → Before s → On s.beam.kind (turned g s).side 1 g.den
first s g b =
    let k = kind_of s.beam.kind in
    let wraps : next_cycle k s.beam.cycle ≡ 1 = cycle_wraps k s.beam.cycle (omega (arith, b.cycle)) in
    let w : Stored g.den (sweep_of g s) = rw (wraps, b.raster) (swept_stores k s.frame s.irq g.compare g.den s.beam.latch b.ending) in
    record {
      kind = side_kind g s;
      cycle = side_cycle g s ∙ wraps;
      raster = side_raster g s ∙ w.raster;
      ending = ap (λ (f : Frame). f.ending) (side_frame g s) ∙ w.ending;
      latch = side_latch g s ∙ w.kept;
    }

-- and each later one
next : (kind : ℕ) (s : Side) (g : Controls) (c : ℕ) (l : Bool) → 1 ≤ c → c < last_cycle (kind_of kind) → On kind s c l → On kind (turned g s).side (c + 1) (l || g.den)
next kind s g c l low high o =
    let k = kind_of s.beam.kind in
    let on : next_cycle k s.beam.cycle ≡ c + 1 = rw (o.kind, o.cycle) (cycle_next (kind_of kind) c high) in
    let w = swept_inside k s.frame s.irq (next_cycle k s.beam.cycle) s.beam.raster g.compare g.den s.beam.latch (rw on (not_begun c low)) o.ending in
    record {
      kind = side_kind g s ∙ o.kind;
      cycle = side_cycle g s ∙ on;
      raster = side_raster g s ∙ ap (λ (x : Swept). x.raster) (sym w) ∙ o.raster;
      ending = ap (λ (f : Frame). f.ending) (side_frame g s) ∙ ap (λ (x : Swept). x.frame.ending) (sym w) ∙ o.ending;
      latch = side_latch g s ∙ ap (λ (x : Swept). x.kept) (sym w) ∙ rw (o.raster, o.latch) (latch_added g.den l ∙ either_way g.den l);
    }

-- any number of them
rest : (kind : ℕ) (more : List Controls) (s : Side) (c : ℕ) (l : Bool) → 1 ≤ c → c + length more ≤ last_cycle (kind_of kind) → On kind s c l → (ran more s).beam.latch ≡ (l || some_den more)
unfolding ran some_den
rest kind [] s c l low high o = o.latch ∙ sym (or_false l)
rest kind (g ∷ more) s c l low high o =
    rest kind more (turned g s).side (c + 1) (l || g.den) (omega arith) (omega arith) (next kind s g c l low (omega arith) o) ∙ regroup l g.den (some_den more)

pub latch_is_whether_den_was_set : WhetherDenWasSet
unfolding ran some_den
latch_is_whether_den_was_set s g more b h = rest s.beam.kind more (turned g s).side 1 g.den (omega arith) (omega arith) (first s g b)

pub elsewhere_only_the_frames_end : OnlyTheFramesEnd
elsewhere_only_the_frames_end g s e = side_latch g s ∙ kept_elsewhere (kind_of s.beam.kind) s.frame s.irq (next_cycle (kind_of s.beam.kind) s.beam.cycle) s.beam.raster g.compare g.den s.beam.latch e
