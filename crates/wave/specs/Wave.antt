-- A chip as the dump shows it, and the tick that writes its piece.
use Rattle.std.specs.Prelude.{ℕ, ◌%◌, cond, List, ◌++◌, eqb, ltb, length, drop}
use Rattle.memory.specs.Lent.{Host}
use Rattle.chip.specs.declared.Chip.{Chip}
use Rattle.chip.specs.declared.Answer.{Answer}
use Rattle.sequencer.specs.Tick.{ticked}
use Rattle.line.specs.Line.{level_of}
use Rattle.vcd.specs.declared.Record.{Record}
use Rattle.vcd.specs.declared.Wave.{Wave}
use Rattle.vcd.specs.Text.{declarations, piece_of, wave_after}
use Rattle.wave.specs.declared.Wrote.{Wrote}
use Rattle.wave.specs.declared.Told.{Told}

-- 02 (i): the signals as a probe shows them: 0 is low, the interrupt line is low while the chip asks; the mask has eight bits
unfoldable pub record_of : Chip → Record
record_of c =
    record {
      cycle = c.side.beam.cycle;
      raster = c.side.beam.raster;
      ba = level_of c.side.bus.balow;
      aec = level_of c.side.bus.aeclow;
      dma = c.side.sprites.dma % 256;
      rc = c.side.rows.rc;
      vc = c.side.rows.vc;
      irq = level_of c.side.irq.line;
    }

-- a piece at the start of a buffer; what stands after it stays
abbrev pub over : List ℕ → List ℕ → List ℕ
over piece out = piece ++ drop (length piece) out

-- ---- the declarations

-- what a call answers, and the buffer that it leaves
pub record Declared : Type 0 where
  pub wrote : Wrote
  pub out : List ℕ

abbrev pub declared : Wrote → List ℕ → Declared
declared wrote out = record { wrote = wrote; out = out }

-- 02 (i): 13 where the buffer is shorter than the longest piece, and nothing is written
unfoldable pub declared_in : List ℕ → Declared
declared_in out =
    cond (ltb (length out) 292)
    (declared (record { refused = 13; length = 0 }) out)
    (declared (record { refused = 0; length = 292 }) (over declarations out))

-- ---- a tick

pub record Heard : Type 0 where
  pub told : Told
  pub out : List ℕ

abbrev pub heard : Told → List ℕ → Heard
heard told out = record { told = told; out = out }

abbrev pub told : ℕ → Chip → Wave → ℕ → Told
told number c w n = record { refused = number; chip = c; wave = w; length = n }

-- a tick that is done, and its piece
unfoldable pub wrote_tick : Chip → Wave → List ℕ → Heard
wrote_tick c w out =
    let r = record_of c in
    heard (told 0 c (wave_after w r) (length (piece_of w r))) (over (piece_of w r) out)

-- 02 (i): 1 to 4 as the tick gives them; 13 comes after them
unfoldable pub number_of : ℕ → ℕ → ℕ
number_of refused room = cond (eqb refused 0) (cond (ltb room 292) 13 0) refused

-- a refusal leaves chip, dump and buffer as they were
unfoldable pub heard_with : ℕ → Answer → Chip → Wave → List ℕ → Heard
heard_with number t c w out = cond (eqb number 0) (wrote_tick t.chip w out) (heard (told number c w 0) out)

abbrev pub tick_heard : Host → Chip → Wave → List ℕ → Heard
tick_heard h c w out = heard_with (number_of (ticked h c).refused (length out)) (ticked h c) c w out
