-- 02 (vi): two runs in other modes all along, ECM, BMM and MCM clear after each call of the one and set after each call of the other, have the same BA, AEC and interrupts.
use Prim.Native.Nat.{ℕ, zero, suc}
use mathlib.Core.Path.{◌≡◌, refl, ◌∙◌}
use mathlib.Core.Bool.{Bool, true, false}
use mathlib.Core.List.{List, [], ◌∷◌, map}
use lib.Dec.{eqb}
use Rattle.laws.specs.Bits.{has_bit}
use Rattle.laws.proofs.Choice.{either}
use Rattle.memory.specs.Lent.{Host}
use Rattle.schedule.specs.Kind.{known}
use Rattle.registers.specs.Control.{ECM, BMM, MCM}
use Rattle.side.specs.declared.Side.{Side}
use Rattle.chip.specs.declared.Chip.{Chip}
use Rattle.chip.specs.declared.Answer.{Answer}
use Rattle.chip.specs.Chip.{powered}
use Rattle.sequencer.specs.Tick.{tick_refusal, ticked, ticks_from}
use Rattle.calls.specs.Calls.{control_stored, control1_written, control2_written}
use Rattle.artwork.specs.Runs.{Call, tick, ticks, control_1, control_2, done, run, Alike, tick_alike, ticks_alike, control_1_alike, control_2_alike, Pairwise, none, more}
use Rattle.artwork.proofs.Artwork.{artwork_never_moves_a_cycle, charted}
use Rattle.artwork.proofs.Instances.{filled, filled_low, filled_high, loud, at_power_up}

-- all three mode bits of a chip's registers are clear, or all are set
pub record Bits (x : Bool) (c : Chip) : Type 0 where
  pub ecm : ECM c.regs.ctrl1 ≡ x
  pub bmm : BMM c.regs.ctrl1 ≡ x
  pub mcm : MCM c.regs.ctrl2 ≡ x

by_registers : {x : Bool} {c d : Chip} → d.regs ≡ c.regs → Bits x c → Bits x d
by_registers e b = record { ecm = rw e b.ecm; bmm = rw e b.bmm; mcm = rw e b.mcm }

-- no tick writes a register
ticked_registers : (h : Host) (c : Chip) → (ticked h c).chip.regs ≡ c.regs
unfolding ticked
ticked_registers h c = either (λ (a : Answer). a.chip.regs ≡ c.regs) (eqb (tick_refusal h c) 0) refl refl

ticks_registers : (h : Host) (n : ℕ) (c : Chip) → (ticks_from h n c).chip.regs ≡ c.regs
unfolding ticks_from
ticks_registers h zero c = refl
ticks_registers h (suc n) c =
    let before = ticks_from h n c in
    either (λ (a : Answer). a.chip.regs ≡ c.regs) (eqb before.refused 0) (ticked_registers h before.chip ∙ ticks_registers h n c) (ticks_registers h n c)

module _ {x : Bool} {c : Chip} (b : Bits x c) where
  after_1 : (v : ℕ) → ECM v ≡ x → BMM v ≡ x → Bits x (control1_written c v)
  unfolding control1_written control_stored
  after_1 v e m = record { ecm = e; bmm = m; mcm = b.mcm }

  after_2 : (v : ℕ) → MCM v ≡ x → Bits x (control2_written c v)
  unfolding control2_written control_stored
  after_2 v m = record { ecm = b.ecm; bmm = b.bmm; mcm = m }

-- the display on, 25 rows and 40 columns; a raster line above 255 from the third write on; then 38 columns
pub plain : ℕ → List Call
plain n =
    control_1 0x1B ∷ control_2 0x08 ∷ ticks (filled 0 0) n ∷ control_1 0x9B ∷ ticks (filled 0 0) n ∷ control_2 0x00 ∷ tick (filled 0 0) ∷ []

pub mixed : ℕ → List Call
mixed n =
    control_1 0x7B ∷ control_2 0x18 ∷ ticks (filled 255 3) n ∷ control_1 0xFB ∷ ticks (filled 255 3) n ∷ control_2 0x10 ∷ tick (filled 255 3) ∷ []

alike : (n : ℕ) → Pairwise Alike (plain n) (mixed n)
unfolding plain mixed has_bit
alike n =
    more (control_1_alike refl refl refl refl)
    (more (control_2_alike refl)
    (more (ticks_alike n (filled_low 0) (filled_high 255))
    (more (control_1_alike refl refl refl refl)
    (more (ticks_alike n (filled_low 0) (filled_high 255))
    (more (control_2_alike refl)
    (more (tick_alike (filled_low 0) (filled_high 255)) none))))))

-- after every call the one has no mode bit and the other all three
pub record Apart (r s : Answer) : Type 0 where
  pub clear : Bits false r.chip
  pub set : Bits true s.chip

pub modes_all_along : (kind n : ℕ) → Pairwise Apart (run (plain n) (powered kind)) (run (mixed n) (loud kind))
unfolding plain mixed run done powered loud has_bit
modes_all_along kind n =
    let p0 : Bits false (powered kind) = record { ecm = refl; bmm = refl; mcm = refl } in
    let q0 : Bits true (loud kind) = record { ecm = refl; bmm = refl; mcm = refl } in
    let p1 = after_1 p0 0x1B refl refl in
    let q1 = after_1 q0 0x7B refl refl in
    let p2 = after_2 p1 0x08 refl in
    let q2 = after_2 q1 0x18 refl in
    let p3 = by_registers (ticks_registers (filled 0 0) n _) p2 in
    let q3 = by_registers (ticks_registers (filled 255 3) n _) q2 in
    let p4 = after_1 p3 0x9B refl refl in
    let q4 = after_1 q3 0xFB refl refl in
    let p5 = by_registers (ticks_registers (filled 0 0) n _) p4 in
    let q5 = by_registers (ticks_registers (filled 255 3) n _) q4 in
    let p6 = after_2 p5 0x00 refl in
    let q6 = after_2 q5 0x10 refl in
    more (record { clear = p1; set = q1 })
    (more (record { clear = p2; set = q2 })
    (more (record { clear = p3; set = q3 })
    (more (record { clear = p4; set = q4 })
    (more (record { clear = p5; set = q5 })
    (more (record { clear = p6; set = q6 })
    (more (record { clear = by_registers (ticked_registers (filled 0 0) _) p6; set = by_registers (ticked_registers (filled 255 3) _) q6 }) none))))))

-- BA, AEC and the interrupt flags
abbrev signals : ℕ → Side → (Bool × Bool) × ℕ
signals refused s = ((s.bus.balow, s.bus.aeclow), s.irq.flags)

abbrev seen : Answer → (Bool × Bool) × ℕ
seen r = signals r.refused r.chip.side

pub same_signals : (kind n : ℕ) → known kind ≡ true → map seen (run (plain n) (powered kind)) ≡ map seen (run (mixed n) (loud kind))
same_signals kind n k = charted signals (artwork_never_moves_a_cycle (plain n) (mixed n) (alike n) (powered kind) (loud kind) (at_power_up kind k))
