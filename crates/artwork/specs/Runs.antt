-- Demand 3: two runs that differ in picture values alone have the same timing side after every call.
use Rattle.std.specs.Prelude.{ℕ, ◌<◌, ◌%◌, ◌≡◌, Bool, true, false, ◌&&◌, ◌||◌, List, [], ◌∷◌, eqb, ltb}
use Rattle.laws.specs.Bits.{has_bit}
use Rattle.memory.specs.Lent.{Host, lent_refusal}
use Rattle.registers.specs.Control.{RST8, DEN, RSEL, YSCROLL, CSEL, timed}
use Rattle.registers.specs.Registers.{one_of, between}
use Rattle.chip.specs.declared.Chip.{Chip}
use Rattle.chip.specs.declared.Answer.{Answer}
use Rattle.chip.specs.Chip.{answer}
use Rattle.chip.specs.Accept.{accepted}
use Rattle.sequencer.specs.Tick.{ticked, ticks_from}
use Rattle.calls.specs.Calls.{register_read, register_written, expand_at, compares_by, control1_written, control2_written, controls_placed, late_taken, phi1, dma_count}

-- 01, Timing side and picture side: the timing side is the chip's field `side`, whole, the interrupt and the pending place with it;
-- 02 (iv): the kind is in its beam, so that two runs share it.
-- The timing registers are what `timed` takes from the file: of ctrl1 bits 0..4 (YSCROLL 0..2, RSEL 3, DEN 4), of ctrl2 bit 3 (CSEL),
-- the compare line, the eight Y, enable, Y-expand.
pub record Together (a b : Chip) : Type 0 where
  pub left : accepted a ≡ true
  pub right : accepted b ≡ true
  pub side : a.side ≡ b.side
  pub registers : timed a.regs ≡ timed b.regs

-- the public calls that change a chip, with what each is given
pub data Call : Type 0 where
  tick : Host → Call
  ticks : Host → ℕ → Call
  write : ℕ → ℕ → Call
  expand : ℕ → Call
  compares : Call
  control_1 : ℕ → Call
  control_2 : ℕ → Call
  place_controls : ℕ → ℕ → ℕ → Call
  late : ℕ → Call

-- demand 2's own definitions
unfoldable pub done : Call → Chip → Answer
done (tick h) c = ticked h c
done (ticks h n) c = ticks_from h n c
done (write addr v) c = answer 0 (register_written c addr v)
done (expand v) c = answer 0 (expand_at c v)
done compares c = answer 0 (compares_by c)
done (control_1 v) c = answer 0 (control1_written c v)
done (control_2 v) c = answer 0 (control2_written c v)
done (place_controls ctrl1 ctrl2 line) c = controls_placed c ctrl1 ctrl2 line
done (late byte) c = late_taken c byte

-- a run: the answer to each call, the next one made on the chip that it hands back
unfoldable pub run : List Call → Chip → List Answer
run [] c = []
run (x ∷ xs) c = done x c ∷ run xs (done x c).chip

-- 01, Timing side and picture side: a write reaches the eight Y, the compare line, enable or the interrupt; 02 (v): or Y-expand; the address counts mod 64
abbrev pub timing_write : ℕ → Bool
timing_write reg = eqb reg 0x17 || ((ltb reg 0x10 && eqb (reg % 2) 1) || one_of reg (0x12 ∷ 0x15 ∷ 0x19 ∷ 0x1A ∷ []))

-- 01, Timing side and picture side: the same call at the same address, with the same timing values
pub data Alike : Call → Call → Type 0 where
  -- any bytes in memories of the legal lengths, any two banks 0..3
  tick_alike : {h k : Host} → lent_refusal h ≡ 0 → lent_refusal k ≡ 0 → Alike (tick h) (tick k)
  ticks_alike : {h k : Host} (n : ℕ) → lent_refusal h ≡ 0 → lent_refusal k ≡ 0 → Alike (ticks h n) (ticks k n)
  -- any two bytes, except where a timing register takes them
  write_alike : {v w : ℕ} (addr : ℕ) → v < 256 → w < 256 → (timing_write (addr % 64) ≡ true → v ≡ w) → Alike (write addr v) (write addr w)
  expand_alike : (v : ℕ) → Alike (expand v) (expand v)
  compares_alike : Alike compares compares
  -- 02 (vi): bit 7 of $D011 is a timing register's, bits 5 and 6 are free; so is all of $D016 but CSEL
  control_1_alike : {v w : ℕ} → RST8 v ≡ RST8 w → DEN v ≡ DEN w → RSEL v ≡ RSEL w → YSCROLL v ≡ YSCROLL w → Alike (control_1 v) (control_1 w)
  control_2_alike : {v w : ℕ} → CSEL v ≡ CSEL w → Alike (control_2 v) (control_2 w)
  -- ECM, BMM and bit 7 of ctrl1 and all of ctrl2 but CSEL are free
  place_controls_alike : {c d x y : ℕ} (line : ℕ) → DEN c ≡ DEN d → RSEL c ≡ RSEL d → YSCROLL c ≡ YSCROLL d → CSEL x ≡ CSEL y
      → Alike (place_controls c x line) (place_controls d y line)
  -- any two bytes on the CPU's bus
  late_alike : {v w : ℕ} → Alike (late v) (late w)

-- two lists of one length, place by place
pub data Pairwise {A : Type 0} (R : A → A → Type 0) : List A → List A → Type 0 where
  none : Pairwise R [] []
  more : {x y : A} {xs ys : List A} → R x y → Pairwise R xs ys → Pairwise R (x ∷ xs) (y ∷ ys)

-- two answers: refused alike, and the chips stay together
-- 02 (viii): as many reads, for the same reasons in the same order; the addresses are free
pub record Same (r s : Answer) : Type 0 where
  pub refused : r.refused ≡ s.refused
  pub together : Together r.chip s.chip
  pub first_reason : r.reads.first.reason ≡ s.reads.first.reason
  pub second_reason : r.reads.second.reason ≡ s.reads.second.reason

-- the theorem: after every call
abbrev pub NeverMovesACycle : Type 0
NeverMovesACycle = (xs ys : List Call) → Pairwise Alike xs ys → (a b : Chip) → Together a b → Pairwise Same (run xs a) (run ys b)

-- reads whose answer may differ: the colours, the eight X, what shares a byte with mode bits, and what holds no timing bit
abbrev pub picture_read : ℕ → Bool
picture_read reg =
    between 0x20 0x2E reg
    || (ltb reg 0x10 && eqb (reg % 2) 0)
    || one_of reg (0x10 ∷ 0x11 ∷ 0x16 ∷ 0x18 ∷ 0x1B ∷ 0x1C ∷ 0x1D ∷ [])

-- two answers of 0x11: alike but for BMM and ECM, bits 5 and 6; bit 7 is bit 8 of the raster line
pub record Control1 (v w : ℕ) : Type 0 where
  pub yscroll : YSCROLL v ≡ YSCROLL w
  pub rsel : RSEL v ≡ RSEL w
  pub den : DEN v ≡ DEN w
  pub raster : has_bit v 7 ≡ has_bit w 7

-- two answers of 0x16: alike in CSEL and in bits 6 and 7, which read 1
pub record Control2 (v w : ℕ) : Type 0 where
  pub csel : CSEL v ≡ CSEL w
  pub six : has_bit v 6 ≡ has_bit w 6
  pub seven : has_bit v 7 ≡ has_bit w 7

-- the questions, which change nothing: answered alike, given the same light pen bytes
pub record Answered (a b : Chip) : Type 0 where
  pub high : phi1 a ≡ phi1 b
  pub count : dma_count a ≡ dma_count b
  pub read : (addr penx peny : ℕ) → picture_read (addr % 64) ≡ false → register_read a addr penx peny ≡ register_read b addr penx peny
  -- of the two that share a byte with mode bits, the timing bits
  pub control_1 : (addr penx peny : ℕ) → addr % 64 ≡ 0x11 → Control1 (register_read a addr penx peny) (register_read b addr penx peny)
  pub control_2 : (addr penx peny : ℕ) → addr % 64 ≡ 0x16 → Control2 (register_read a addr penx peny) (register_read b addr penx peny)
