-- Traces: what the definition of the tick, `turned`, leaves in each cycle of some lines of a run from power-up.
-- `turned` stands close to the code. This is what it comes to, to be counted along the article: the rule is beside each place where a value changes.
use Rattle.std.specs.Prelude.{◌≡◌, Bool, true, false, cond, List, [], ◌∷◌, ◌++◌, ℕ, zero, suc, ◌+◌, ◌-◌, ◌*◌, replicate}
use Rattle.laws.specs.Bits.{has_bit}
use Rattle.schedule.specs.Diagram.{happens, refresh}
use Rattle.raster.specs.Refresh.{refresh_address}
use Rattle.border.specs.Border.{compared}
use Rattle.sprites.specs.Sprites.{sprite_at}
use Rattle.side.specs.declared.Side.{Side}
use Rattle.registers.specs.declared.Controls.{Controls}
use Rattle.side.specs.Set.{border≔}
use Rattle.side.specs.Turn.{fresh_side, turned}

-- The run

-- A text screen of 25 rows and 40 columns: DEN, RSEL and CSEL set, YSCROLL 3. Sprites 0, 3 and 7 are enabled, every Y is 51, and sprite 3 is Y-expanded.
abbrev pub screen : ℕ → Controls
screen compare =
    record { den = true; rsel = true; yscroll = 3; csel = true; compare = compare; my = replicate 8 51; enable = 0x89; yexp = 0x08 }

-- power-up, but the border has taken the compares of RSEL set (the call `border_compares`); the next tick is cycle 1 of the first frame
abbrev pub begun_of : ℕ → Side
begun_of kind = border≔ (compared (fresh_side kind).border true) (fresh_side kind)

-- of a 6569
abbrev pub begun : Side
begun = begun_of 0

-- n ticks on
abbrev pub later : Controls → ℕ → Side → Side
later g zero s = s
later g (suc n) s = (turned g (later g n s)).side

-- the side before line n, with an interrupt asked for on line 51; line 312 is line 0 of the second frame
abbrev pub from_power_up : ℕ → Side
from_power_up n = later (screen 51) (63 * n) begun

-- the sides after each of the next n ticks, and of so many lines
abbrev pub each : Controls → ℕ → Side → List Side
each g zero s = []
each g (suc n) s = let t = (turned g s).side in t ∷ each g n t

abbrev pub lines : ℕ → Side → List Side
lines n s = each (screen 51) (63 * n) s

-- The tables

-- one value of each of these sides, with its cycle
abbrev pub column : {A : Type 0} → (Side → A) → List Side → List (ℕ × A)
column see [] = []
column see (s ∷ rest) = (s.beam.cycle, see s) ∷ column see rest

abbrev pub staying : {A : Type 0} → ℕ → ℕ → A → List (ℕ × A)
staying zero c v = []
staying (suc n) c v = (c, v) ∷ staying n (c + 1) v

abbrev pub rising : ℕ → ℕ → ℕ → List (ℕ × ℕ)
rising zero c v = []
rising (suc n) c v = (c, v) ∷ rising n (c + 1) (v + 1)

abbrev pub falling : ℕ → ℕ → ℕ → List (ℕ × ℕ)
falling zero c v = []
falling (suc n) c v = (c, v) ∷ falling n (c + 1) (v - 1)

-- from cycle a to cycle e the value v
abbrev pub holds : {A : Type 0} → ℕ → ℕ → A → List (ℕ × A)
holds a e v = staying (e + 1 - a) a v

-- from cycle a to cycle e the values v, v + 1, v + 2 ..
abbrev pub counts : ℕ → ℕ → ℕ → List (ℕ × ℕ)
counts a e v = rising (e + 1 - a) a v

-- from cycle a to cycle e the values v, v − 1, v − 2 ..
abbrev pub counts_down : ℕ → ℕ → ℕ → List (ℕ × ℕ)
counts_down a e v = falling (e + 1 - a) a v

-- BA and AEC
abbrev pub low : Bool
low = true

abbrev pub high : Bool
high = false

-- a flip-flop, a latch, DMA and the display state
abbrev pub on : Bool
on = true

abbrev pub off : Bool
off = false

-- the display logic
pub record Row : Type 0 where
  pub display : List (ℕ × Bool)
  pub vc : List (ℕ × ℕ)
  pub vmli : List (ℕ × ℕ)
  pub rc : List (ℕ × ℕ)
  pub vcbase : List (ℕ × ℕ)

abbrev pub row_of : List Side → Row
row_of sides =
    record {
      display = column (λ s. s.rows.display) sides;
      vc = column (λ s. s.rows.vc) sides;
      vmli = column (λ s. s.rows.vmli) sides;
      rc = column (λ s. s.rows.rc) sides;
      vcbase = column (λ s. s.rows.vcbase) sides;
    }

-- one sprite
pub record One : Type 0 where
  pub dma : List (ℕ × Bool)
  pub flip : List (ℕ × Bool)
  pub mcbase : List (ℕ × ℕ)
  pub mc : List (ℕ × ℕ)

abbrev pub one_of : ℕ → List Side → One
one_of k sides =
    record {
      dma = column (λ s. has_bit s.sprites.dma k) sides;
      flip = column (λ s. has_bit s.sprites.flip k) sides;
      mcbase = column (λ s. (sprite_at s.sprites k).base) sides;
      mc = column (λ s. (sprite_at s.sprites k).mc) sides;
    }

-- the raster line, the interrupt flags, the DEN latch
abbrev pub raster_of : List Side → List (ℕ × ℕ)
raster_of sides = column (λ s. s.beam.raster) sides

abbrev pub flags_of : List Side → List (ℕ × ℕ)
flags_of sides = column (λ s. s.irq.flags) sides

abbrev pub latch_of : List Side → List (ℕ × Bool)
latch_of sides = column (λ s. s.beam.latch) sides

-- the refresh counter
abbrev pub refresh_of : List Side → List (ℕ × ℕ)
refresh_of sides = column (λ s. s.refresh) sides

-- where the refresh accesses of the next n ticks read, each with its cycle
abbrev pub refresh_reads : ℕ → Side → List (ℕ × ℕ)
refresh_reads zero s = []
refresh_reads (suc n) s =
    let t = turned (screen 51) s in
    let rest = refresh_reads n t.side in
    cond (happens refresh t.orders.cycle) ((t.orders.cycle, refresh_address t.orders.refresh) ∷ rest) rest

-- BA and AEC; the vertical and the main border flip-flop
abbrev pub bus_of : List Side → List (ℕ × (Bool × Bool))
bus_of sides = column (λ s. (s.bus.balow, s.bus.aeclow)) sides

abbrev pub border_of : List Side → List (ℕ × (Bool × Bool))
border_of sides = column (λ s. (s.border.vertical, s.border.main)) sides

-- What the ticks leave, where `before n` is the side before line n
pub record TracesOf (before : ℕ → Side) : Type 0 where
  -- Line 0
  pub raster_0 :
      raster_of (lines 1 (before 0)) ≡
      holds 1 1 311  -- Bauer 3.12, DIFFERENCES 8: line 311 stays for cycle 1
      ++ holds 2 63 0
  -- the same, with an interrupt asked for on line 0
  pub interrupt_0 :
      flags_of (each (screen 0) 63 begun) ≡
      holds 1 1 0
      ++ holds 2 63 1  -- Bauer 3.12: for line 0 the raster test is in cycle 2
  -- Lines 47 and 48
  pub latch_48 :
      latch_of (lines 2 (before 47)) ≡
      holds 1 63 off
      ++ holds 1 63 on  -- Bauer 3.5, DIFFERENCES 2: DEN counts on line 0x30, here from its cycle 1
  -- Lines 50 and 51
  pub raster_51 :
      raster_of (lines 2 (before 50)) ≡
      holds 1 63 50
      ++ holds 1 63 51  -- a line begins with cycle 1
  pub interrupt_51 :
      flags_of (lines 2 (before 50)) ≡
      holds 1 63 0
      ++ holds 1 63 1  -- Bauer 3.12: the raster test is in cycle 1
  -- Lines 50 and 51, the first of the picture: the vertical and the main border flip-flop
  pub border_opens :
      border_of (lines 2 (before 50)) ≡
      holds 1 63 (on, on)
      ++ holds 1 16 (off, on)  -- Bauer 3.9 rules 3 and 5: the top line with DEN resets the vertical one; DIFFERENCES 6: in cycle 1 already
      ++ holds 17 56 (off, off)  -- rule 6: left compare, the main one is reset
      ++ holds 57 63 (off, on)  -- rule 1: right compare, it is set
  -- Lines 250 and 251, the last of the picture and the first below it
  pub border_closes :
      border_of (lines 2 (before 250)) ≡
      holds 1 16 (off, on)
      ++ holds 17 56 (off, off)
      ++ holds 57 63 (off, on)
      ++ holds 1 63 (on, on)  -- rules 2 and 4: the bottom line sets the vertical one; DIFFERENCES 6: in cycle 1 already; rule 6: so the main one stays set
  -- Line 59, a bad line: the first of the second row of text. Line 58 left VC and VCBASE 40, RC 7 and idle state
  pub row_begins :
      row_of (lines 1 (before 59)) ≡ record {
        display = holds 1 63 on;  -- Bauer 3.7.2: display state as soon as there is a bad line
        vc =
            holds 1 13 40
            ++ holds 14 15 40  -- rule 2: VC takes VCBASE
            ++ counts 16 55 41  -- rule 4: one more after each g-access
            ++ holds 56 63 80;
        vmli =
            holds 1 13 40
            ++ holds 14 15 0  -- rule 2: VMLI is cleared
            ++ counts 16 55 1  -- rule 4
            ++ holds 56 63 40;
        rc =
            holds 1 13 7
            ++ holds 14 57 0  -- rule 2: on a bad line RC is cleared
            ++ holds 58 63 1;  -- rule 5: RC is not 7; in display state one more
        vcbase = holds 1 63 40;
      }
  -- Line 66, the last of that row
  pub row_ends :
      row_of (lines 1 (before 66)) ≡ record {
        display = holds 1 57 on ++ holds 58 63 off;  -- rule 5: RC 7 gives idle state
        vc =
            holds 1 13 80
            ++ holds 14 15 40  -- rule 2: VC takes VCBASE
            ++ counts 16 55 41  -- rule 4
            ++ holds 56 63 80;
        vmli = holds 1 13 40 ++ holds 14 15 0 ++ counts 16 55 1 ++ holds 56 63 40;
        rc = holds 1 63 7;  -- rule 2: the line is not bad; rule 5: in idle state no more
        vcbase = holds 1 57 40 ++ holds 58 63 80;  -- rule 5: RC 7, VCBASE takes VC
      }
  -- Lines 51 and 52: sprite 0, pointer and first byte in cycle 58, two bytes in 59
  pub sprite_plain :
      one_of 0 (lines 2 (before 51)) ≡ record {
        dma = holds 1 54 off ++ holds 55 63 on ++ holds 1 63 on;  -- Bauer 3.8.1 rule 3: Y equals the line in cycle 55
        flip = holds 1 63 on ++ holds 1 63 on;  -- rule 1: not expanded
        mcbase =
            holds 1 63 0
            ++ holds 1 15 0 ++ holds 16 63 3;  -- rules 7 and 8; DIFFERENCES 3: it takes MC in one step
        mc =
            holds 1 57 0
            ++ holds 58 58 1  -- rule 4: MC takes MCBASE, 0; rule 5: one more after each byte
            ++ holds 59 63 3
            ++ holds 1 57 3
            ++ holds 58 58 4  -- rule 4: MCBASE is 3
            ++ holds 59 63 6;
      }
  -- Lines 51, 52 and 53: sprite 3, pointer and first byte in cycle 1 of the next line, two bytes in 2
  pub sprite_expanded :
      one_of 3 (lines 3 (before 51)) ≡ record {
        dma = holds 1 54 off ++ holds 55 63 on ++ holds 1 63 on ++ holds 1 63 on;
        flip =
            holds 1 63 off  -- rule 2 inverts it in cycle 55, and rule 3 resets it
            ++ holds 1 54 off
            ++ holds 55 63 on  -- rule 2
            ++ holds 1 54 on
            ++ holds 55 63 off;  -- rule 2
        mcbase =
            holds 1 63 0
            ++ holds 1 63 0  -- rules 7 and 8: the flip-flop is not set
            ++ holds 1 15 0
            ++ holds 16 63 3;  -- rules 7 and 8: it is set
        mc =
            holds 1 63 0
            ++ holds 1 1 1
            ++ holds 2 57 3
            ++ holds 58 63 0  -- rule 4: MC takes MCBASE, 0 again
            ++ holds 1 1 1
            ++ holds 2 57 3
            ++ holds 58 63 3;  -- rule 4: MCBASE is 3
      }
  -- Line 72: sprite 0 after its 21 lines
  pub sprite_ends :
      one_of 0 (lines 1 (before 72)) ≡ record {
        dma = holds 1 15 on ++ holds 16 63 off;  -- rule 8: MCBASE 63 ends DMA
        flip = holds 1 63 on;
        mcbase = holds 1 15 60 ++ holds 16 63 63;
        mc = holds 1 63 63;
      }
  -- Lines 59, a bad line, and 60, which is not: BA and AEC, with sprites 0, 3 and 7
  pub bus :
      bus_of (lines 2 (before 59)) ≡
      holds 1 2 (low, low)  -- Bauer 3.6.3: sprite 3 has cycles 1 and 2
      ++ holds 3 5 (high, high)
      ++ holds 6 8 (low, high)  -- Bauer 3.6.1: BA falls three cycles before sprite 7's pointer
      ++ holds 9 10 (low, low)  -- sprite 7 has cycles 9 and 10
      ++ holds 11 11 (high, high)
      ++ holds 12 14 (low, high)  -- Bauer 3.7.2 rule 3: BA low from 12 to 54
      ++ holds 15 54 (low, low)  -- the c-accesses
      ++ holds 55 59 (low, low)  -- BA stays low for sprite 0, from three cycles before 58 to 59
      ++ holds 60 60 (high, high)
      ++ holds 61 63 (low, high)  -- three cycles before sprite 3's pointer
      -- line 60
      ++ holds 1 2 (low, low)
      ++ holds 3 5 (high, high)
      ++ holds 6 8 (low, high)
      ++ holds 9 10 (low, low)
      ++ holds 11 54 (high, high)  -- no c-accesses
      ++ holds 55 57 (low, high)  -- three cycles before sprite 0's pointer
      ++ holds 58 59 (low, low)
      ++ holds 60 60 (high, high)
      ++ holds 61 63 (low, high)
  -- Line 0 of the second frame: VCBASE and the DEN latch
  pub vcbase_312 :
      (row_of (lines 1 (before 312))).vcbase ≡
      holds 1 1 1000
      ++ holds 2 63 0  -- Bauer 3.7.2 rule 1; DIFFERENCES 8: in cycle 2
  pub latch_312 :
      latch_of (lines 1 (before 312)) ≡
      holds 1 1 on
      ++ holds 2 63 off  -- Bauer 3.5: once a frame; DIFFERENCES 8: in cycle 2
  -- Lines 50 and 51, and line 0 of the second frame: the refresh counter
  pub refresh_51 :
      refresh_of (lines 2 (before 50)) ≡
      holds 1 10 5
      ++ counts_down 11 15 4  -- Bauer 3.13: one less after each of the five r-accesses
      ++ holds 16 63 0
      ++ holds 1 10 0
      ++ counts_down 11 15 0xFF  -- 02 (xiv): 0 is followed by 0xFF
      ++ holds 16 63 0xFB
  pub refresh_312 :
      refresh_of (lines 1 (before 312)) ≡
      holds 1 1 0xE7
      ++ holds 2 10 0xFF  -- Bauer 3.13: once a frame; 02 (xiv): in cycle 2
      ++ counts_down 11 15 0xFE
      ++ holds 16 63 0xFA
  -- Lines 0 and 1, line 51, and line 0 of the second frame: the refresh accesses
  pub refresh_reads_0 :
      refresh_reads (63 * 2) (before 0) ≡
      counts_down 11 15 0x3FFF  -- Bauer 3.13: line 0 has 0x3FFF to 0x3FFB
      ++ counts_down 11 15 0x3FFA  -- and line 1 0x3FFA to 0x3FF6
  pub refresh_reads_51 :
      refresh_reads 63 (before 51) ≡
      holds 11 11 0x3F00
      ++ counts_down 12 15 0x3FFF  -- 02 (xiv): 0 is followed by 0xFF
  pub refresh_reads_312 :
      refresh_reads 63 (before 312) ≡
      counts_down 11 15 0x3FFF  -- Bauer 3.13: line 0 again

abbrev pub Traces : Type 0
Traces = TracesOf from_power_up

-- The 6567R8

-- 02 (iv): the same run on a chip of 65 cycles a line, and its lines
abbrev pub from_power_up8 : ℕ → Side
from_power_up8 n = later (screen 51) (65 * n) (begun_of 1)

abbrev pub lines8 : ℕ → Side → List Side
lines8 n s = each (screen 51) (65 * n) s

pub record TracesOf8 (before : ℕ → Side) : Type 0 where
  -- Line 0
  pub raster_0 :
      raster_of (lines8 1 (before 0)) ≡
      holds 1 1 262  -- Bauer 3.4: line 262 is the last; DIFFERENCES 8: it stays for cycle 1
      ++ holds 2 65 0
  -- Lines 0 and 1: the refresh accesses
  pub refresh_reads_0 :
      refresh_reads (65 * 2) (before 0) ≡
      counts_down 11 15 0x3FFF  -- Bauer 3.13, as on the 6569
      ++ counts_down 11 15 0x3FFA
  -- Lines 51 and 52: sprite 0, pointer and first byte in cycle 59, two bytes in 60
  pub sprite_plain :
      one_of 0 (lines8 2 (before 51)) ≡ record {
        dma = holds 1 55 off ++ holds 56 65 on ++ holds 1 65 on;  -- Bauer 3.8.1 rule 3; DIFFERENCES 30: in cycle 56
        flip = holds 1 65 on ++ holds 1 65 on;
        mcbase = holds 1 65 0 ++ holds 1 15 0 ++ holds 16 65 3;  -- rules 7 and 8 in cycle 16, as on the 6569
        mc =
            holds 1 58 0
            ++ holds 59 59 1  -- rules 4 and 5; DIFFERENCES 30: MC takes MCBASE in cycle 59
            ++ holds 60 65 3
            ++ holds 1 58 3
            ++ holds 59 59 4
            ++ holds 60 65 6;
      }
  -- Lines 51, 52 and 53: sprite 3, pointer and first byte in a line's last cycle, two bytes in the next line's first
  pub sprite_expanded :
      one_of 3 (lines8 3 (before 51)) ≡ record {
        dma = holds 1 55 off ++ holds 56 65 on ++ holds 1 65 on ++ holds 1 65 on;
        flip = holds 1 65 off ++ holds 1 55 off ++ holds 56 65 on ++ holds 1 55 on ++ holds 56 65 off;  -- rule 2, in cycle 56
        mcbase = holds 1 65 0 ++ holds 1 65 0 ++ holds 1 15 0 ++ holds 16 65 3;
        mc =
            holds 1 64 0
            ++ holds 65 65 1  -- rule 5: one byte beside the pointer
            ++ holds 1 58 3  -- and two in the next line
            ++ holds 59 64 0  -- rule 4: MC takes MCBASE, 0 again
            ++ holds 65 65 1
            ++ holds 1 58 3
            ++ holds 59 64 3
            ++ holds 65 65 4;
      }
  -- Lines 59, a bad line, and 60, which is not: BA and AEC, with sprites 0, 3 and 7
  pub bus :
      bus_of (lines8 2 (before 59)) ≡
      holds 1 1 (low, low)  -- Bauer 3.6.3: sprite 3's data
      ++ holds 2 4 (high, high)
      ++ holds 5 7 (low, high)  -- Bauer 3.6.1: BA falls three cycles before sprite 7's pointer
      ++ holds 8 9 (low, low)  -- sprite 7 has cycles 8 and 9
      ++ holds 10 11 (high, high)
      ++ holds 12 14 (low, high)  -- the matrix, as on the 6569
      ++ holds 15 54 (low, low)  -- the c-accesses
      ++ holds 55 55 (high, high)  -- one cycle for the CPU, which the 6569 has not
      ++ holds 56 58 (low, high)  -- three cycles before sprite 0's pointer
      ++ holds 59 60 (low, low)
      ++ holds 61 61 (high, high)
      ++ holds 62 64 (low, high)  -- three cycles before sprite 3's pointer
      ++ holds 65 65 (low, low)
      -- line 60
      ++ holds 1 1 (low, low)
      ++ holds 2 4 (high, high)
      ++ holds 5 7 (low, high)
      ++ holds 8 9 (low, low)
      ++ holds 10 55 (high, high)  -- no c-accesses
      ++ holds 56 58 (low, high)
      ++ holds 59 60 (low, low)
      ++ holds 61 61 (high, high)
      ++ holds 62 64 (low, high)
      ++ holds 65 65 (low, low)

abbrev pub Traces8 : Type 0
Traces8 = TracesOf8 from_power_up8
