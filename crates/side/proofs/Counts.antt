-- A tick that only counts, and any number of them: counted first and ticked once is ticked one by one. Assumes nothing.
use Prim.Native.Nat.{ℕ, suc, ◌+◌, ◌%◌, ◌<◌, ◌≤◌}
use mathlib.Core.Path.{◌≡◌, refl, sym, ◌∙◌}
use mathlib.Core.Bool.{Bool, true, false, not, ◌&&◌, cond}
use native.Mathlib.Omega.{arith}
use lib.Dec.{eqb, leb}
use lib.IntN.{pos}
use borrow.Author.Tests.{le-leb, not-true}
use Rattle.laws.specs.Bits.{has_bit}
use Rattle.laws.specs.Clock.{InRange}
use Rattle.laws.proofs.Choice.{left, right}
use Rattle.schedule.specs.Kind.{kind_of}
use Rattle.schedule.specs.Requests.{mask_at}
use Rattle.schedule.proofs.Parts.{mid, unasked, lit, slotless}
use Rattle.registers.specs.declared.Controls.{Controls}
use Rattle.timing.specs.Beam.{next_cycle, bad_line}
use Rattle.timing.specs.Set.{cycle≔}
use Rattle.timing.proofs.Kept.{cycle_on, moved, beam_moved}
use Rattle.sprites.specs.Sprites.{sprite_at}
use Rattle.arbitration.specs.declared.Bus.{Bus}
use Rattle.arbitration.specs.Bus.{clock_on, clocked}
use Rattle.arbitration.specs.Set.{clock≔, aec≔, balow≔, aeclow≔}
use Rattle.arbitration.proofs.Kept.{matrix_alone, free_count, clocked_sets, clock_on_none, clock_on_one_more}
use Rattle.rows.specs.declared.Rows.{Rows}
use Rattle.rows.specs.Rows.{vc_after, vmli_after, rows_later}
use Rattle.rows.specs.Set.{transition≔, access≔}
use Rattle.rows.proofs.Parts.{rows_mid}
use Rattle.rows.proofs.Laws.{none_missed, vc_one_more, vmli_one_more, vc_none, vmli_none}
use Rattle.side.specs.declared.Side.{Side}
use Rattle.side.specs.declared.Turned.{Turned}
use Rattle.side.specs.Set.{beam≔, bus≔, rows≔, changed≔}
use Rattle.side.specs.Turn.{turned}
use Rattle.side.specs.Machinery.Leap.{only_counts, leapt}
use Rattle.side.proofs.Parts.{border_past, sprites_mid, lit_glue}

-- the test, and where on the line it is used
pub record Counts (yscroll : ℕ) (s : Side) : Type 0 where
  pub bad : bad_line s.beam.raster yscroll s.beam.latch ≡ false
  pub line : eqb s.beam.raster 0x30 ≡ false
  pub balow : s.bus.balow ≡ false
  pub aeclow : s.bus.aeclow ≡ false
  pub transition : s.rows.transition ≡ false
  pub access : s.rows.access ≡ false
  pub low : 18 ≤ s.beam.cycle
  pub high : s.beam.cycle ≤ 53

pub counts : (yscroll : ℕ) (s : Side) → only_counts yscroll s ≡ true → 18 ≤ s.beam.cycle → s.beam.cycle ≤ 53 → Counts yscroll s
unfolding only_counts
counts yscroll s e l h =
    let a = not (bad_line s.beam.raster yscroll s.beam.latch) in
    let z = not (eqb s.beam.raster 0x30) in
    let b = not s.bus.balow in
    let c = not s.bus.aeclow in
    let d = not s.rows.transition in
    let f = not s.rows.access in
    let five = left (a && z && b && c && d) f e in
    let four = left (a && z && b && c) d five in
    let three = left (a && z && b) c four in
    let two = left (a && z) b three in
    record {
      bad = not-true (bad_line s.beam.raster yscroll s.beam.latch) (left a z two);
      line = not-true (eqb s.beam.raster 0x30) (right a z two);
      balow = not-true s.bus.balow (right (a && z) b three);
      aeclow = not-true s.bus.aeclow (right (a && z && b) c four);
      transition = not-true s.rows.transition (right (a && z && b && c) d five);
      access = not-true s.rows.access (right (a && z && b && c && d) f e);
      low = l;
      high = h;
    }

-- what such a tick leaves
abbrev pub quiet : Controls → Side → Turned
quiet g s =
    let cycle = next_cycle (kind_of s.beam.kind) s.beam.cycle in
    let rows = rows_later 1 s.rows in
    record {
      side =
          beam≔ (moved s.beam cycle g.den g.rsel g.yscroll)
          (bus≔ (aec≔ (pos 3) (balow≔ false (aeclow≔ false (clock≔ (clock_on 1 s.bus.clock) s.bus))))
          (rows≔ (transition≔ false (access≔ false rows)) (changed≔ s.irq.line s)));
      orders = record {
        cycle = cycle;
        graphics = true;
        moves = s.rows.display;
        waiting = false;
        plain = not (eqb s.rows.rc 0);
        hidden = s.border.disabled;
        vc = s.rows.vc;
        vmli = s.rows.vmli;
        rc = s.rows.rc;
        fills = false;
        place = rows.vmli;
        column = rows.vc;
        sprite = 0;
        pointing = false;
        fetching = false;
        mask = has_bit s.sprites.dma 0;
        mc = (sprite_at s.sprites 0).mc;
        low = s.bus.aeclow;
        refresh = s.refresh;
      };
    }

on_line_lem : (s : Side) (y : ℕ) → Counts y s → (leb 19 (next_cycle (kind_of s.beam.kind) s.beam.cycle) && leb (next_cycle (kind_of s.beam.kind) s.beam.cycle) 54) ≡ true
on_line_lem s y e =
    let next = cycle_on (kind_of s.beam.kind) s.beam.cycle (omega (arith, e.high)) in
    rw (next, le-leb 19 (s.beam.cycle + 1) (omega (arith, e.low)), le-leb (s.beam.cycle + 1) 54 (omega (arith, e.high))) refl

pub quiet_turn : (g : Controls) (s : Side) → Counts g.yscroll s → quiet g s ≡ turned g s
quiet_turn g s e =
    let k = kind_of s.beam.kind in
    let cycle = next_cycle k s.beam.cycle in
    let on = on_line_lem s g.yscroll e in
    let m = mid cycle on in
    let u = unasked k cycle on in
    let l = lit cycle m.graphics in
    let o = slotless k cycle m.graphics in
    lit_glue g s l o refl refl refl (border_past k cycle s.beam.raster g.den g.csel s.border l o m.past)
    (sprites_mid k cycle s.beam.raster g.my g.enable g.yexp s.sprites o m u) (beam_moved s.beam cycle g.den g.rsel g.yscroll e.line e.bad)
    (matrix_alone true s.sprites.dma (mask_at k cycle) u.asks) refl (free_count s.bus e.balow) refl refl
    (rows_mid cycle s.rows l m e.transition e.access) (none_missed _ s.pending)

-- a leap changes none of what the test looks at
pub counts_later : (g : Controls) (s : Side) (k : ℕ) → Counts g.yscroll s → s.beam.cycle + k ≤ 53 → Counts g.yscroll (leapt k s)
counts_later g s k e h = record { bad = e.bad; line = e.line; balow = e.balow; aeclow = e.aeclow; transition = e.transition; access = e.access; low = omega (arith, e.low); high = h }

-- nor does the tick
pub counts_on : (g : Controls) (s : Side) → Counts g.yscroll s → s.beam.cycle + 1 ≤ 53 → Counts g.yscroll (quiet g s).side
counts_on g s e h =
    let next = cycle_on (kind_of s.beam.kind) s.beam.cycle (omega arith) in
    record { bad = e.bad; line = e.line; balow = refl; aeclow = refl; transition = refl; access = refl; low = rw next (omega (arith, e.low)); high = rw next h }

-- what is counted after the tick, or before it
pub quiet_later : (g : Controls) (s : Side) (k : ℕ) → Counts g.yscroll s → InRange s.bus.clock → quiet g (leapt k (quiet g s).side) ≡ quiet g (leapt (suc k) s)
quiet_later g s k e r =
    let next = cycle_on (kind_of s.beam.kind) s.beam.cycle (omega (arith, e.high)) in
    let cycle : next_cycle (kind_of s.beam.kind) s.beam.cycle + k ≡ s.beam.cycle + suc k = rw next (omega arith) in
    rw (cycle, e.aeclow, clock_on_one_more k s.bus.clock r, vc_one_more k s.rows.display s.rows.vc, vmli_one_more k s.rows.display s.rows.vmli) refl

pub leap_turn : (g : Controls) (s : Side) (k : ℕ) → Counts g.yscroll s → InRange s.bus.clock → s.beam.cycle + suc k ≤ 53
    → turned g (leapt k (turned g s).side) ≡ turned g (leapt (suc k) s)
leap_turn g s k e r h =
    let next = cycle_on (kind_of s.beam.kind) s.beam.cycle (omega (arith, e.high)) in
    let q : (quiet g s).side.beam.cycle + k ≤ 53 = rw next (omega (arith, h)) in
    rw (← quiet_turn g s e)
    (sym (quiet_turn g (leapt k (quiet g s).side) (counts_later g (quiet g s).side k (counts_on g s e (omega (arith, h))) q))
    ∙ quiet_later g s k e r
    ∙ quiet_turn g (leapt (suc k) s) (counts_later g s (suc k) e h))

-- no tick at all
pub leap_none : (s : Side) → InRange s.bus.clock → s.rows.vc < 1024 → s.rows.vmli < 256 → leapt 0 s ≡ s
leap_none s r a b =
    let cycle : s.beam.cycle + 0 ≡ s.beam.cycle = omega arith in
    rw (cycle, clock_on_none s.bus.clock r, vc_none s.rows.display s.rows.vc a, vmli_none s.rows.display s.rows.vmli b) refl

-- a leap from what its calls gave
pub leap_glue : (s : Side) (k : ℕ) {bus : Bus} {rows : Rows} {wide : ℕ}
    → wide ≡ k
    → bus ≡ clocked k s.bus
    → rows ≡ rows_later k s.rows
    → beam≔ (cycle≔ (s.beam.cycle + wide) s.beam) (bus≔ bus (rows≔ rows s)) ≡ leapt k s
leap_glue s k wide bus rows = rw (wide, bus, rows, clocked_sets k s.bus)
