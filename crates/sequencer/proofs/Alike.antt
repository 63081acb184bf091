-- Demand 3 for lines: two chips with the same timing side and timing registers stay so over any lines, whatever their picture sides and their hosts' memories are. Assumes nothing.
use Prim.Native.Nat.{ℕ, zero, suc}
use mathlib.Core.Path.{◌≡◌, refl, sym, ap, ◌∙◌}
use mathlib.Core.Bool.{Bool, true, false, cond}
use native.Mathlib.Omega.{arith}
use lib.Dec.{eqb}
use borrow.Author.Tests.{ne_eqb, eqb-true, eqb-false}
use Rattle.schedule.specs.Kind.{kind_of}
use Rattle.memory.specs.Lent.{Host, lent_refusal}
use Rattle.registers.specs.Control.{timed}
use Rattle.side.specs.declared.Side.{Side}
use Rattle.chip.specs.declared.Chip.{Chip}
use Rattle.chip.specs.declared.Answer.{Answer}
use Rattle.chip.specs.Chip.{answer}
use Rattle.chip.specs.Accept.{accepted}
use Rattle.chip.proofs.Level.{Level, LevelAnswers, picked}
use Rattle.lines.specs.Side.{line_side}
use Rattle.lines.specs.Whole.{line_world}
use Rattle.sequencer.specs.Line.{line_chip, at_line_end, lineable, line_refusal, lined, lines_from}
use Rattle.sequencer.proofs.Lined.{line_11_then, line_4_then, line_0_then, line_refused, line_answers, line_kept, no_lines, more_lines}

-- a line's timing side is the definition's of the timing side, whatever the host lends
line_side_lem : (h : Host) (c : Chip) → (line_chip h c).side ≡ line_side (timed c.regs) c.side
unfolding line_world
line_side_lem h c = refl

refused_by : (h : Host) (c : Chip) (n : ℕ) → line_refusal h c ≡ n → (n ≡ 0 → ⊥) → lined h c ≡ answer n c
unfolding lined
refused_by h c n e z = rw (e, ne_eqb n 0 z)

module _ {a b : Chip} (e : Level a b) where
  pub line_level : (h k : Host) → lent_refusal h ≡ 0 → lent_refusal k ≡ 0 → accepted a ≡ true → accepted b ≡ true → LevelAnswers (lined h a) (lined k b)
  line_level h k l m f g = by_cycle (at_line_end a.side) refl
    where
      step : line_side (timed a.regs) a.side ≡ line_side (timed b.regs) b.side
      step = cc

      ends : at_line_end b.side ≡ at_line_end a.side
      ends = ap (λ (s : Side). at_line_end s) (sym e.side)

      clocks : lineable (kind_of b.side.beam.kind) b.side.bus.clock ≡ lineable (kind_of a.side.beam.kind) a.side.bus.clock
      clocks = ap (λ (s : Side). lineable (kind_of s.beam.kind) s.bus.clock) (sym e.side)

      by_clock : (t : Bool) → at_line_end a.side ≡ true → lineable (kind_of a.side.beam.kind) a.side.bus.clock ≡ t → LevelAnswers (lined h a) (lined k b)
      by_clock true at t =
          rw (line_answers h a (line_0_then h a l f at t), line_answers k b (line_0_then k b m g (ends ∙ at) (clocks ∙ t)))
          (record { refused = refl; chip = record { side = line_side_lem h a ∙ step ∙ sym (line_side_lem k b); registers = e.registers } })
      by_clock false at t =
          rw (refused_by h a 4 (line_4_then h a l f at t) (λ z. omega arith), refused_by k b 4 (line_4_then k b m g (ends ∙ at) (clocks ∙ t)) (λ z. omega arith))
          (record { refused = refl; chip = e })

      by_cycle : (t : Bool) → at_line_end a.side ≡ t → LevelAnswers (lined h a) (lined k b)
      by_cycle true at = by_clock (lineable (kind_of a.side.beam.kind) a.side.bus.clock) at refl
      by_cycle false at =
          rw (refused_by h a 11 (line_11_then h a l f at) (λ z. omega arith), refused_by k b 11 (line_11_then k b m g (ends ∙ at)) (λ z. omega arith))
          (record { refused = refl; chip = e })

-- a line keeps acceptance, refused or not
module _ (h : Host) (c : Chip) (f : accepted c ≡ true) where
  lined_kept : accepted (lined h c).chip ≡ true
  lined_kept = by_number (eqb (line_refusal h c) 0) refl
    where
      by_number : (t : Bool) → eqb (line_refusal h c) 0 ≡ t → accepted (lined h c).chip ≡ true
      by_number true t = line_kept h c (eqb-true (line_refusal h c) 0 t)
      by_number false t = rw (line_refused h c (eqb-false (line_refusal h c) 0 t)) f

module _ (h k : Host) (l : lent_refusal h ≡ 0) (m : lent_refusal k ≡ 0) where
  record Both (x y : Answer) : Type 0 where
    level : LevelAnswers x y
    first : accepted x.chip ≡ true
    second : accepted y.chip ≡ true

  one_more_lem : {x y x' y' : Answer} → Both x y → x' ≡ cond (eqb x.refused 0) (lined h x.chip) x → y' ≡ cond (eqb y.refused 0) (lined k y.chip) y → Both x' y'
  one_more_lem {x} {y} {x'} {y'} before p q = rw (p, ap (λ (n : ℕ). eqb n 0) before.level.refused, q) (
      picked Both (eqb y.refused 0)
      (record {
        level = line_level before.level.chip h k l m before.first before.second;
        first = lined_kept h x.chip before.first;
        second = lined_kept k y.chip before.second;
      })
      before
      )

  both : (n : ℕ) (a b : Chip) → Level a b → accepted a ≡ true → accepted b ≡ true → Both (lines_from h n a) (lines_from k n b)
  both zero a b e f g = rw (no_lines h a, no_lines k b) (record { level = record { refused = refl; chip = e }; first = f; second = g })
  both (suc n) a b e f g = one_more_lem (both n a b e f g) (more_lines h n a) (more_lines k n b)

  pub lines_never_move_a_cycle : (n : ℕ) (a b : Chip) → Level a b → accepted a ≡ true → accepted b ≡ true → LevelAnswers (lines_from h n a) (lines_from k n b)
  lines_never_move_a_cycle n a b e f g = (both n a b e f g).level
