-- What each call makes of the timing side and the timing registers: no picture value reaches them. Assumes nothing.
use Prim.Native.Nat.{ℕ, ◌%◌}
use mathlib.Core.Path.{◌≡◌, refl, ap, subst, ◌∙◌}
use mathlib.Core.Bool.{Bool, true, false, ◌||◌, cond}
use lib.Dec.{ltb}
use Rattle.registers.specs.declared.Irq.{Irq}
use Rattle.registers.specs.Control.{RST8, DEN, RSEL, YSCROLL, CSEL, timed}
use Rattle.registers.specs.Registers.{written, line_by}
use Rattle.registers.specs.Irq.{irq_written}
use Rattle.registers.proofs.Timing.{takes, shows, written_my, written_enable, written_compare, written_ctrl1, written_ctrl2, written_yexp, irq_written_lem, read_alike, SameFile, by_one, as_one}
use Rattle.raster.specs.Frame as Raster
use Rattle.border.specs.Border.{compared}
use Rattle.sprites.specs.Sprites.{expand_written}
use Rattle.std.specs.Prelude.{Option, None, Some}
use Rattle.rows.specs.Pending.{waits}
use Rattle.side.specs.declared.Side.{Side}
use Rattle.side.specs.Set.{irq≔, frame≔, border≔, sprites≔, pending≔}
use Rattle.chip.specs.declared.Chip.{Chip}
use Rattle.schedule.specs.Kind.{kind_of}
use Rattle.chip.proofs.Fine.{accepted_taken}
use Rattle.chip.specs.Accept.{accepted}
use Rattle.chip.proofs.Level.{Level, LevelAnswers, picked}
use Rattle.calls.specs.Calls.{register_read, file_written, is_expand, register_written, expand_at, compares_by, control_stored, control1_written, control2_written, controls_placed, late_at, late_taken, phi1, dma_count}

module _ {a b : Chip} (e : Level a b) where
  file : SameFile a.regs b.regs
  file = by_one a.regs b.regs e.registers

  -- two writes of one address to the file, that bring the same where a timing register takes it
  file_level : (addr v w : ℕ) → (takes (addr % 64) ≡ true → v ≡ w) → Level (file_written a addr v) (file_written b addr w)
  unfolding file_written
  file_level addr v w same =
      record {
        side =
            ap (λ (s : Side). irq≔ (irq_written s.irq addr v) s) e.side
            ∙ ap (λ (i : Irq). irq≔ i b.side) (irq_written_lem b.side.irq addr v w same);
        registers =
            as_one (written a.regs addr v) (written b.regs addr w)
            (record {
              den = simp (written_ctrl1, file.den);
              rsel = simp (written_ctrl1, file.rsel);
              yscroll = simp (written_ctrl1, file.yscroll);
              csel = simp (written_ctrl2, file.csel);
              compare = written_compare a.regs b.regs addr v w same file.compare;
              my = written_my a.regs b.regs addr v w same file.my;
              enable = written_enable a.regs b.regs addr v w same file.enable;
              yexp = simp (written_yexp, file.yexp);
            });
      }

  pub expand_level : (v : ℕ) → Level (expand_at a v) (expand_at b v)
  unfolding expand_at timed
  expand_level v =
      record {
        side =
            ap (λ (s : Side). sprites≔ (expand_written (kind_of s.beam.kind) v s.beam.cycle a.regs.yexp s.sprites) s) e.side
            ∙ ap (λ (y : ℕ). sprites≔ (expand_written (kind_of b.side.beam.kind) v b.side.beam.cycle y b.side.sprites) b.side) file.yexp;
        registers = simp (file.den, file.rsel, file.yscroll, file.csel, file.compare, file.my, file.enable);
      }

  -- two writes of one address that bring the same where a timing register takes it, Y-expand among them
  pub write_level : (addr v w : ℕ) → ((is_expand addr || takes (addr % 64)) ≡ true → v ≡ w) → Level (register_written a addr v) (register_written b addr w)
  unfolding register_written
  write_level addr v w same = by_door (is_expand addr) refl
    where
      by_door : (x : Bool) → is_expand addr ≡ x → Level (cond (is_expand addr) (expand_at a v) (file_written a addr v)) (cond (is_expand addr) (expand_at b w) (file_written b addr w))
      by_door true x = rw (x, same (rw x)) (expand_level w)
      by_door false x = rw x (file_level addr v w (λ t. same (rw x t)))

  pub compares_level : Level (compares_by a) (compares_by b)
  unfolding compares_by
  compares_level =
      record {
        side =
            ap (λ (s : Side). border≔ (compared s.border (RSEL a.regs.ctrl1)) s) e.side
            ∙ ap (λ (r : Bool). border≔ (compared b.side.border r) b.side) file.rsel;
        registers = e.registers;
      }

  -- two values of $D011 that are alike but for ECM and BMM
  pub control_1_level : (v w : ℕ) → RST8 v ≡ RST8 w → DEN v ≡ DEN w → RSEL v ≡ RSEL w → YSCROLL v ≡ YSCROLL w → Level (control1_written a v) (control1_written b w)
  unfolding control1_written control_stored timed
  control_1_level v w high den rsel yscroll =
      let line : line_by v a.regs.compare ≡ line_by w b.regs.compare = rw (high, file.compare) in
      record {
        side =
            ap (λ (s : Side). by s v (line_by v a.regs.compare)) e.side
            ∙ ap (λ (n : ℕ). by b.side v n) line
            ∙ ap (λ (r : Bool). with b.side r (line_by w b.regs.compare)) rsel;
        registers = rw (den, rsel, yscroll, file.csel, line, file.my, file.enable, file.yexp);
      }
    where
      with : Side → Bool → ℕ → Side
      with s rsel line =
          let now = Raster.compared s.frame s.irq s.beam.raster line in
          irq≔ now.irq (frame≔ now.frame (border≔ (compared s.border rsel) s))

      by : Side → ℕ → ℕ → Side
      by s v line = with s (RSEL v) line

  -- two values of $D016 that are alike in CSEL
  pub control_2_level : (v w : ℕ) → CSEL v ≡ CSEL w → Level (control2_written a v) (control2_written b w)
  unfolding control2_written control_stored timed
  control_2_level v w csel =
      record { side = e.side; registers = rw (file.den, file.rsel, file.yscroll, csel, file.compare, file.my, file.enable, file.yexp) }

  pub controls_level : (c d x y line : ℕ) → DEN c ≡ DEN d → RSEL c ≡ RSEL d → YSCROLL c ≡ YSCROLL d → CSEL x ≡ CSEL y
      → LevelAnswers (controls_placed a c x line) (controls_placed b d y line)
  unfolding controls_placed timed
  controls_level c d x y line den rsel yscroll csel =
      picked LevelAnswers (ltb 511 line) (record { refused = refl; chip = e })
      (record { refused = refl; chip = record { side = e.side; registers = simp (den, rsel, yscroll, csel, file.my, file.enable, file.yexp) } })

  late_at_lem : (v w : ℕ) (p : Option ℕ) → Level (late_at a v p) (late_at b w p)
  late_at_lem v w None = e
  late_at_lem v w (Some p) = record { side = ap (pending≔ (waits None)) e.side; registers = e.registers }

  pub late_level : (v w : ℕ) → accepted a ≡ true → accepted b ≡ true → LevelAnswers (late_taken a v) (late_taken b w)
  unfolding late_taken
  late_level v w f g =
      rw (accepted_taken a f, accepted_taken b g)
      (record {
        refused = refl;
        chip = subst (λ (p : Option ℕ). Level (late_at a v a.side.pending.place) (late_at b w p)) (ap (λ (s : Side). s.pending.place) e.side) (late_at_lem v w a.side.pending.place);
      })

  -- the questions
  pub phi1_same : phi1 a ≡ phi1 b
  unfolding phi1
  phi1_same = simp e.side

  pub count_same : dma_count a ≡ dma_count b
  unfolding dma_count
  count_same = simp e.side

  pub read_same : (addr penx peny : ℕ) → shows (addr % 64) ≡ false → register_read a addr penx peny ≡ register_read b addr penx peny
  unfolding register_read
  read_same addr penx peny other =
      simp e.side
      (read_alike a.regs b.regs b.side.irq b.side.beam.raster addr penx peny other file.my file.enable file.yexp)
