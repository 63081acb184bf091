-- The theorem at work: two runs that differ in every picture value have the same BA and AEC.
use Prim.Native.Nat.{ℕ, ◌%◌, ◌<◌}
use mathlib.Core.Path.{◌≡◌, refl, sym, ◌∙◌}
use mathlib.Core.Bool.{Bool, true, false, false≢true}
use mathlib.Core.List.{List, [], ◌∷◌, map}
use native.Mathlib.Omega.{arith}
use lib.IntN.{pos}
use lib.ListN.{replicate, length-replicate}
use Rattle.laws.specs.Bits.{has_bit}
use Rattle.laws.specs.Lists.{zeros}
use Rattle.memory.specs.Lent.{Host, host, lent_refusal}
use Rattle.memory.proofs.Lent.{lent_legal, lent_bank}
use Rattle.schedule.specs.Kind.{known, kind_of}
use Rattle.registers.specs.Read.{control_at, read_of}
use Rattle.timing.specs.Beam as Beams
use Rattle.side.specs.declared.Side.{Side}
use Rattle.side.specs.Turn.{fresh_side}
use Rattle.side.proofs.Kept.{fresh_fine}
use Rattle.chip.specs.declared.Chip.{Chip}
use Rattle.chip.specs.declared.Answer.{Answer}
use Rattle.registers.specs.Control.{timed}
use Rattle.chip.specs.Chip.{powered}
use Rattle.chip.specs.Accept.{clock_fine}
use Rattle.calls.specs.Calls.{register_read}
use Rattle.chip.proofs.Fine.{powered_accepted, fine_accepted}
use Rattle.artwork.specs.Runs.{Together, Call, tick, ticks, write, expand, compares, place_controls, late, run, timing_write, Alike, tick_alike, ticks_alike, write_alike, expand_alike, compares_alike, place_controls_alike, late_alike, Pairwise, none, more}
use Rattle.artwork.proofs.Artwork.{artwork_never_moves_a_cycle, charted}

-- memory of one byte, and a bank
pub filled : ℕ → ℕ → Host
filled v bank = host (replicate 16384 v) (replicate 4096 v) (replicate 1024 v) bank

pub filled_low : (v : ℕ) → lent_refusal (filled v 0) ≡ 0
unfolding filled
filled_low v = lent_legal (replicate 16384 v) (replicate 4096 v) (replicate 1024 v) 0 (length-replicate 16384 v) (length-replicate 4096 v) (length-replicate 1024 v) refl

pub filled_high : (v : ℕ) → lent_refusal (filled v 3) ≡ 0
unfolding filled
filled_high v = lent_legal (replicate 16384 v) (replicate 4096 v) (replicate 1024 v) 3 (length-replicate 16384 v) (length-replicate 4096 v) (length-replicate 1024 v) refl

pub filled_above : (v : ℕ) → lent_refusal (filled v 4) ≡ 2
unfolding filled
filled_above v = lent_bank (replicate 16384 v) (replicate 4096 v) (replicate 1024 v) 4 (length-replicate 16384 v) (length-replicate 4096 v) (length-replicate 1024 v) refl

-- power-up with every picture field and every picture bit of a register another
unfoldable pub loud : ℕ → Chip
loud kind =
    record {
      regs = record { mx = replicate 8 255; my = zeros 8; cols = replicate 8 15; bg = replicate 4 15; msbx = 255; enable = 0; yexp = 0; xexp = 255; prio = 255; multi = 255; mc0 = 15; mc1 = 15; ctrl1 = 0xE0; ctrl2 = 0xF7; compare = 0; ptrs = 255; border = 15 };
      side = fresh_side kind;
      picture = record {
        pen = record { ch = 0xFFF; carry = 1; gfx = 255; mode = 7; old = 7; changing = true; forced = pos 2 };
        matrix = replicate 40 0xFFF;
        pointers = replicate 8 255;
        bytes = replicate 24 255;
        words = replicate 8 0xFFFFFF;
      };
    }

pub at_power_up : (kind : ℕ) → known kind ≡ true → Together (powered kind) (loud kind)
unfolding loud powered timed has_bit
at_power_up kind k =
    record {
      left = powered_accepted kind k;
      right = fine_accepted (loud kind) (record { side = fresh_fine kind k; compare = omega arith; forced = omega arith });
      side = refl;
      registers = refl;
    }

-- reads of 0x11 and 0x16 on these two: every bit that may differ does, and no other
pub free-bits :
    (register_read (powered 0) 0x11 0 0 ≡ 0b10000000) × (register_read (loud 0) 0x11 0 0 ≡ 0b11100000)
    × (register_read (powered 0) 0x16 0 0 ≡ 0b11000000) × (register_read (loud 0) 0x16 0 0 ≡ 0b11110111)
unfolding register_read read_of control_at loud powered fresh_side Beams.fresh kind_of
free-bits = (refl, refl, refl, refl)

-- the same calls; sprite 0 is enabled at line 50, expanded, and the display is on
pub plain : ℕ → List Call
plain n =
    place_controls 0x1B 0x08 100 ∷ compares ∷ write 0x01 50 ∷ write 0x15 1 ∷ write 0x1A 1 ∷ expand 1
    ∷ write 0x00 0 ∷ write 0x10 0 ∷ write 0x18 0 ∷ write 0x1B 0 ∷ write 0x1C 0 ∷ write 0x1D 0 ∷ write 0x20 0 ∷ write 0x21 0 ∷ write 0x25 0 ∷ write 0x27 0
    ∷ ticks (filled 0 0) n ∷ late 0 ∷ tick (filled 0 0) ∷ []

pub other : ℕ → List Call
other n =
    place_controls 0xFB 0xFF 100 ∷ compares ∷ write 0x01 50 ∷ write 0x15 1 ∷ write 0x1A 1 ∷ expand 1
    ∷ write 0x00 255 ∷ write 0x10 255 ∷ write 0x18 255 ∷ write 0x1B 255 ∷ write 0x1C 255 ∷ write 0x1D 255 ∷ write 0x20 255 ∷ write 0x21 255 ∷ write 0x25 255 ∷ write 0x27 255
    ∷ ticks (filled 255 3) n ∷ late 255 ∷ tick (filled 255 3) ∷ []

-- two bytes that a picture register takes
drawn : (addr : ℕ) → timing_write (addr % 64) ≡ false → Alike (write addr 0) (write addr 255)
drawn addr f = write_alike {v = 0} {w = 255} addr (omega arith) (omega arith) (λ t. absurd (false≢true (sym f ∙ t)))

-- one byte for both
set : (addr v : ℕ) → v < 256 → Alike (write addr v) (write addr v)
set addr v b = write_alike {v = v} {w = v} addr b b (λ t. refl)

alike : (n : ℕ) → Pairwise Alike (plain n) (other n)
unfolding plain other has_bit clock_fine
alike n =
    more (place_controls_alike 100 refl refl refl refl)
    (more compares_alike
    (more (set 0x01 50 (omega arith))
    (more (set 0x15 1 (omega arith))
    (more (set 0x1A 1 (omega arith))
    (more (expand_alike 1)
    (more (drawn 0x00 refl)
    (more (drawn 0x10 refl)
    (more (drawn 0x18 refl)
    (more (drawn 0x1B refl)
    (more (drawn 0x1C refl)
    (more (drawn 0x1D refl)
    (more (drawn 0x20 refl)
    (more (drawn 0x21 refl)
    (more (drawn 0x25 refl)
    (more (drawn 0x27 refl)
    (more (ticks_alike n (filled_low 0) (filled_high 255))
    (more late_alike
    (more (tick_alike (filled_low 0) (filled_high 255)) none))))))))))))))))))

-- BA and AEC, as arbitration left them
abbrev lines : ℕ → Side → Bool × Bool
lines refused s = (s.bus.balow, s.bus.aeclow)

abbrev bus : Answer → Bool × Bool
bus r = lines r.refused r.chip.side

-- after each of the calls, however many ticks there are, on either kind
pub same_bus : (kind n : ℕ) → known kind ≡ true → map bus (run (plain n) (powered kind)) ≡ map bus (run (other n) (loud kind))
same_bus kind n k = charted lines (artwork_never_moves_a_cycle (plain n) (other n) (alike n) (powered kind) (loud kind) (at_power_up kind k))
