-- The line and the frame over a line: settled after two cycles. Assumes nothing.
use Prim.Native.Nat.{ℕ, zero, suc, ◌<◌, ◌≤◌}
use mathlib.Core.Path.{◌≡◌, refl, ◌∙◌, sym, ap}
use mathlib.Core.Bool.{Bool, true, false, not, ◌&&◌, ◌||◌, cond}
use native.Mathlib.Omega.{arith}
use lib.Dec.{eqb, leb}
use borrow.Author.Tests.{ne_eqb, le-leb}
use Rattle.laws.specs.Pick.{pick}
use Rattle.laws.proofs.Choice.{or_false, never_both, and_false, and_true, picks}
use Rattle.schedule.specs.Diagram.{happens}
use Rattle.schedule.proofs.Parts.{Later}
use Rattle.registers.specs.declared.Controls.{Controls}
use Rattle.timing.specs.Beam.{bad_line, latched}
use Rattle.raster.specs.declared.Swept.{Swept}
use Rattle.raster.specs.declared.Frame.{Frame}
use Rattle.raster.specs.Frame.{swept, frame_begun, frame_ended, raster_begun, match_raises, raised}
use Rattle.raster.proofs.Laws.{swept_later}
use Rattle.side.specs.declared.Side.{Side}
use Rattle.lines.specs.Begin.{kind_in, line_of, wraps_of, raster_of, matched_of, latch_of, latch_line, frame_line, irq_line, bad_begins, bad_of, rises_of}
use Rattle.lines.proofs.Through.{raster_in}
use Rattle.lines.proofs.Parts.{sweep_in, bad_in}

later : (c : ℕ) → 2 < c → Later c
unfolding happens
later c l = record { begins = ne_eqb c 1 (λ z. omega arith); wraps = ne_eqb c 2 (λ z. omega arith) }

-- DEN as it is: a line's later cycles latch nothing new
again : (on den latch : Bool) → pick on (den || (pick on den latch && true)) (pick on den latch) ≡ pick on den latch
unfolding pick
again true true latch = refl
again true false latch = refl
again false den latch = refl

latch_again : (line : ℕ) (den latch : Bool) → latched false line den (pick (eqb line 0x30) den latch) ≡ pick (eqb line 0x30) den latch
unfolding latched
latch_again line den latch = again (eqb line 0x30) den latch

latch_off : (latch : Bool) (den : Bool) → latched false 0 den latch ≡ latch
unfolding latched pick
latch_off latch den = refl

latch_stays : (wraps : Bool) (line : ℕ) (den latch : Bool) → latched false (pick wraps 0 line) den (pick (eqb line 0x30) den latch && not wraps) ≡ (pick (eqb line 0x30) den latch && not wraps)
latch_stays true line den latch = rw (picks true 0 line) (latch_off (pick (eqb line 0x30) den latch && false) den)
latch_stays false line den latch = rw (picks false 0 line, and_true (pick (eqb line 0x30) den latch)) (latch_again line den latch)

module _ (g : Controls) (s : Side) where
  -- after the first cycle
  abbrev begun : Frame
  begun = record { ending = wraps_of g s; matched = matched_of g s }

  abbrev first : Swept
  first =
      record {
        begins = true;
        line = line_of g s;
        wraps = false;
        raster = line_of g s;
        latch = latch_of g s;
        kept = latch_of g s;
        frame = begun;
        irq = raised s.irq (match_raises (matched_of g s) s.frame.matched);
      }

  -- after the second, in which a frame may end
  abbrev second : Swept
  second =
      record {
        begins = false;
        line = line_of g s;
        wraps = wraps_of g s;
        raster = raster_of g s;
        latch = latch_of g s;
        kept = latch_line g s;
        frame = frame_line g s;
        irq = irq_line g s;
      }

  -- after every later one
  abbrev settled : Swept
  settled =
      record {
        begins = false;
        line = raster_of g s;
        wraps = false;
        raster = raster_of g s;
        latch = latch_line g s;
        kept = latch_line g s;
        frame = frame_line g s;
        irq = irq_line g s;
      }

  abbrev then : ℕ → Swept → Swept
  then n x = swept (kind_in s) x.frame x.irq n x.raster g.compare g.den x.kept

  on : (n : ℕ) → sweep_in g s (suc n) ≡ then (suc n) (sweep_in g s n)
  unfolding sweep_in
  on n = refl

  latch_first : latched true (line_of g s) g.den s.beam.latch ≡ latch_of g s
  unfolding latched latch_of
  latch_first = rw (and_false s.beam.latch, or_false g.den)

  sweep_first : sweep_in g s 1 ≡ first
  unfolding sweep_in swept happens raster_begun frame_begun frame_ended pick line_of wraps_of matched_of
  sweep_first = rw (latch_first, and_true (latch_of g s), or_false (match_raises (matched_of g s) s.frame.matched))

  ended : (wraps matched : Bool) → frame_ended (record { ending = wraps; matched = matched }) wraps ≡ record { ending = false; matched = matched }
  unfolding frame_ended
  ended true matched = refl
  ended false matched = refl

  same_match : (b : Bool) → match_raises b b ≡ false
  unfolding match_raises
  same_match b = never_both b

  latch_second : latched false (line_of g s) g.den (latch_of g s) ≡ latch_of g s
  unfolding latch_of
  latch_second = latch_again (line_of g s) g.den s.beam.latch

  two : then 2 first ≡ second
  unfolding swept happens raster_begun frame_begun raster_of frame_line irq_line latch_line
  two = rw (latch_second, same_match (matched_of g s), ended (wraps_of g s) (matched_of g s))

  sweep_second : sweep_in g s 2 ≡ second
  sweep_second = on 1 ∙ ap (then 2) sweep_first ∙ two

  latch_later : latched false (raster_of g s) g.den (latch_line g s) ≡ latch_line g s
  unfolding raster_of latch_line latch_of
  latch_later = latch_stays (wraps_of g s) (line_of g s) g.den s.beam.latch

  three : (c : ℕ) → 2 < c → then c second ≡ settled
  three c l = sym (swept_later (kind_in s) (frame_line g s) (irq_line g s) c (raster_of g s) g.compare g.den (latch_line g s) (later c l)) ∙ rw latch_later

  sweep_later : (n : ℕ) → sweep_in g s (suc (suc (suc n))) ≡ settled
  sweep_later zero = on 2 ∙ ap (then 3) sweep_second ∙ three 3 (omega arith)
  sweep_later (suc n) = on (suc (suc (suc n))) ∙ ap (then (suc (suc (suc (suc n))))) (sweep_later n) ∙ three (suc (suc (suc (suc n)))) (omega arith)

  pub sweep_late : (n : ℕ) → 3 ≤ n → sweep_in g s n ≡ settled
  sweep_late zero l = absurd (omega arith)
  sweep_late (suc zero) l = absurd (omega arith)
  sweep_late (suc (suc zero)) l = absurd (omega arith)
  sweep_late (suc (suc (suc n))) l = sweep_later n

  -- what the other parts read of it
  pub raster_at : (n : ℕ) → (sweep_in g s (suc n)).raster ≡ raster_in (line_of g s) (raster_of g s) (suc n)
  raster_at zero = ap (λ (x : Swept). x.raster) sweep_first
  raster_at (suc zero) = ap (λ (x : Swept). x.raster) sweep_second
  raster_at (suc (suc n)) = rw (le-leb 2 (suc (suc (suc n))) (omega arith)) (ap (λ (x : Swept). x.raster) (sweep_later n))

  pub wraps_at : (n : ℕ) → (sweep_in g s (suc n)).wraps ≡ (eqb (suc n) 2 && wraps_of g s)
  wraps_at zero = ap (λ (x : Swept). x.wraps) sweep_first
  wraps_at (suc zero) = ap (λ (x : Swept). x.wraps) sweep_second
  wraps_at (suc (suc n)) = rw (ne_eqb (suc (suc (suc n))) 2 (λ z. omega arith)) (ap (λ (x : Swept). x.wraps) (sweep_later n))

  shut : (y : ℕ) (l : Bool) → bad_line 0 y l ≡ false
  unfolding bad_line
  shut y l = refl

  bad_wrapped : (w : Bool) (r y : ℕ) (l : Bool) → bad_line (pick w 0 r) y (l && not w) ≡ (bad_line r y l && not w)
  bad_wrapped true r y l = rw (picks true 0 r) (shut y (l && false) ∙ sym (and_false (bad_line r y l)))
  bad_wrapped false r y l = rw (picks false 0 r, and_true l, and_true (bad_line r y l))

  abbrev bad_by : Swept → Bool
  bad_by x = bad_line x.line g.yscroll x.latch

  bad_on : (n : ℕ) → bad_in g s (suc n) ≡ bad_by (sweep_in g s (suc n))
  unfolding bad_in
  bad_on n = refl

  bad_early : bad_line (line_of g s) g.yscroll (latch_of g s) ≡ bad_begins g s
  unfolding bad_begins
  bad_early = refl

  bad_late : bad_line (raster_of g s) g.yscroll (latch_line g s) ≡ bad_of g s
  unfolding raster_of latch_line bad_of bad_begins
  bad_late = bad_wrapped (wraps_of g s) (line_of g s) g.yscroll (latch_of g s)

  bad_first : bad_in g s 1 ≡ bad_begins g s
  bad_first = bad_on 0 ∙ ap bad_by sweep_first ∙ bad_early

  bad_second : bad_in g s 2 ≡ bad_begins g s
  bad_second = bad_on 1 ∙ ap bad_by sweep_second ∙ bad_early

  bad_later : (n : ℕ) → bad_in g s (suc (suc (suc n))) ≡ bad_of g s
  bad_later n = bad_on (suc (suc n)) ∙ ap bad_by (sweep_later n) ∙ bad_late

  pub bad_at : (n : ℕ) → bad_in g s (suc n) ≡ cond (leb 3 (suc n)) (bad_of g s) (bad_begins g s)
  bad_at zero = bad_first
  bad_at (suc zero) = bad_second
  bad_at (suc (suc n)) = rw (le-leb 3 (suc (suc (suc n))) (omega arith)) (bad_later n)

  bad_before : bad_in g s 0 ≡ s.beam.bad
  unfolding bad_in
  bad_before = refl

  no_rise : (b w : Bool) → ((b && not w) && not b) ≡ false
  no_rise true true = refl
  no_rise true false = refl
  no_rise false w = refl

  third : (bad_of g s && not (bad_begins g s)) ≡ false
  unfolding bad_of
  third = no_rise (bad_begins g s) (wraps_of g s)

  -- the bad line rises in the first cycle or not at all
  pub rise_at : (n : ℕ) → (bad_in g s (suc n) && not (bad_in g s n)) ≡ (eqb (suc n) 1 && rises_of g s)
  unfolding rises_of
  rise_at zero = rw (bad_first, bad_before)
  rise_at (suc zero) = rw (bad_first, bad_second) (never_both (bad_begins g s))
  rise_at (suc (suc zero)) = rw (bad_later 0, bad_second) third
  rise_at (suc (suc (suc n))) = rw (bad_later (suc n), bad_later n, ne_eqb (suc (suc (suc (suc n)))) 1 (λ z. omega arith)) (never_both (bad_of g s))
