-- The picture side never reaches the timing side: after every call of two runs that differ in picture values alone.
use Prim.Native.Nat.{ℕ, zero, suc}
use mathlib.Core.Path.{◌≡◌, refl, subst}
use mathlib.Core.Bool.{Bool, true, false, cond}
use mathlib.Core.List.{List, [], map}
use lib.Dec.{eqb}
use Rattle.memory.specs.Lent.{Host, lent_refusal}
use Rattle.access.specs.Reads.{told}
use Rattle.side.specs.declared.Side.{Side}
use Rattle.chip.specs.declared.Chip.{Chip}
use Rattle.chip.specs.declared.Answer.{Answer}
use Rattle.chip.specs.Accept.{accepted}
use Rattle.sequencer.specs.Tick.{tickable, ticked, ticks_from}
use Rattle.chip.proofs.Level.{Level, LevelAnswers, picked}
use Rattle.sequencer.proofs.Sides.{tick_level, tick_taken, tick_late}
use Rattle.sequencer.proofs.Reported.{SameReasons, level_reasons}
use Rattle.sequencer.proofs.Kept.{tick_kept}
use Rattle.calls.proofs.Sides.{write_level, expand_level, compares_level, control_1_level, control_2_level, controls_level, late_level, phi1_same, count_same, read_same}
use Rattle.calls.proofs.Silent.{controls_silent, late_silent}
use Rattle.calls.proofs.Kept.{write_kept, expand_kept, compares_kept, control_1_kept, control_2_kept, controls_kept, late_kept}
use Rattle.artwork.specs.Runs.{Together, Call, done, run, Alike, tick_alike, ticks_alike, write_alike, expand_alike, compares_alike, control_1_alike, control_2_alike, place_controls_alike, late_alike, Pairwise, none, more, Same, NeverMovesACycle, Answered}
use Rattle.artwork.proofs.Shared.{control_1_same, control_2_same}

level : {a b : Chip} → Together a b → Level a b
level t = record { side = t.side; registers = t.registers }

-- chips that are level and accepted are together
join : {a b : Chip} → Level a b → accepted a ≡ true → accepted b ≡ true → Together a b
join e f g = record { left = f; right = g; side = e.side; registers = e.registers }

same : {r s : Answer} → LevelAnswers r s → SameReasons r.reads s.reads → accepted r.chip ≡ true → accepted s.chip ≡ true → Same r s
same e q f g = record { refused = e.refused; together = join e.chip f g; first_reason = q.0; second_reason = q.1 }

-- two answers without a read
silent : SameReasons (told []) (told [])
silent = (refl, refl)

ticked_kept : (h : Host) (c : Chip) → lent_refusal h ≡ 0 → accepted c ≡ true → accepted (ticked h c).chip ≡ true
ticked_kept h c l e = by_clock (tickable c.side.bus.clock) refl
  where
    by_clock : (t : Bool) → tickable c.side.bus.clock ≡ t → accepted (ticked h c).chip ≡ true
    by_clock true t = rw (tick_taken h c l e t) (tick_kept h c e t)
    by_clock false t = rw (tick_late h c l e t) e

tick_same : (h k : Host) → lent_refusal h ≡ 0 → lent_refusal k ≡ 0 → (a b : Chip) → Together a b → Same (ticked h a) (ticked k b)
tick_same h k l m a b t =
    same (tick_level (level t) h k l m t.left t.right) (level_reasons (level t) h k l m t.left t.right) (ticked_kept h a l t.left) (ticked_kept k b m t.right)

-- one tick more, unless one was refused
next_same : (h k : Host) → lent_refusal h ≡ 0 → lent_refusal k ≡ 0 → (r s : Answer) → Same r s
    → Same (cond (eqb r.refused 0) (ticked h r.chip) r) (cond (eqb s.refused 0) (ticked k s.chip) s)
next_same h k l m r s q =
    subst (λ (n : ℕ). Same (cond (eqb r.refused 0) (ticked h r.chip) r) (cond (eqb n 0) (ticked k s.chip) s)) q.refused
    (picked Same (eqb r.refused 0) (tick_same h k l m r.chip s.chip q.together) q)

ticks_same : (h k : Host) → lent_refusal h ≡ 0 → lent_refusal k ≡ 0 → (n : ℕ) (a b : Chip) → Together a b → Same (ticks_from h n a) (ticks_from k n b)
unfolding ticks_from
ticks_same h k l m zero a b t = record { refused = refl; together = t; first_reason = refl; second_reason = refl }
ticks_same h k l m (suc n) a b t = next_same h k l m (ticks_from h n a) (ticks_from k n b) (ticks_same h k l m n a b t)

one : {x y : Call} → Alike x y → (a b : Chip) → Together a b → Same (done x a) (done y b)
unfolding done
one (tick_alike {h} {k} l m) a b t = tick_same h k l m a b t
one (ticks_alike {h} {k} n l m) a b t = ticks_same h k l m n a b t
one (write_alike {v} {w} addr p q e) a b t =
    same (record { refused = refl; chip = write_level (level t) addr v w e }) silent (write_kept a addr v p t.left) (write_kept b addr w q t.right)
one (expand_alike v) a b t =
    same (record { refused = refl; chip = expand_level (level t) v }) silent (expand_kept a v t.left) (expand_kept b v t.right)
one compares_alike a b t =
    same (record { refused = refl; chip = compares_level (level t) }) silent (compares_kept a t.left) (compares_kept b t.right)
one (control_1_alike {v} {w} high den rsel yscroll) a b t =
    same (record { refused = refl; chip = control_1_level (level t) v w high den rsel yscroll }) silent (control_1_kept a v t.left) (control_1_kept b w t.right)
one (control_2_alike {v} {w} csel) a b t =
    same (record { refused = refl; chip = control_2_level (level t) v w csel }) silent (control_2_kept a v t.left) (control_2_kept b w t.right)
one (place_controls_alike {c} {d} {x} {y} line den rsel yscroll csel) a b t =
    same (controls_level (level t) c d x y line den rsel yscroll csel) (rw (controls_silent a c x line, controls_silent b d y line) silent) (controls_kept a c x line t.left) (controls_kept b d y line t.right)
one (late_alike {v} {w}) a b t =
    same (late_level (level t) v w t.left t.right) (rw (late_silent a v, late_silent b w) silent) (late_kept a v t.left) (late_kept b w t.right)

each : {xs ys : List Call} → Pairwise Alike xs ys → (a b : Chip) → Together a b → Pairwise Same (run xs a) (run ys b)
unfolding run
each none a b t = none
each (more {x} {y} h hs) a b t =
    let first = one h a b t in
    more first (each hs (done x a).chip (done y b).chip first.together)

pub artwork_never_moves_a_cycle : NeverMovesACycle
artwork_never_moves_a_cycle xs ys alike a b t = each alike a b t

-- the questions are answered alike, but for reads of picture registers, and of two registers in part
pub questions_alike : (a b : Chip) → Together a b → Answered a b
questions_alike a b t =
    record {
      high = phi1_same (level t);
      count = count_same (level t);
      read = read_same (level t);
      control_1 = control_1_same a b t;
      control_2 = control_2_same a b t;
    }

-- after every call of two such runs
pub questions_after_each : {rs ss : List Answer} → Pairwise Same rs ss → Pairwise (λ (r s : Answer). Answered r.chip s.chip) rs ss
questions_after_each none = none
questions_after_each (more {x} {y} h hs) = more (questions_alike x.chip y.chip h.together) (questions_after_each hs)

-- and whatever is read off the refusals and the timing sides is the same: the lines of a chart, for one
pub charted : {A : Type 0} (see : ℕ → Side → A) {rs ss : List Answer} → Pairwise Same rs ss
    → map (λ (r : Answer). see r.refused r.chip.side) rs ≡ map (λ (r : Answer). see r.refused r.chip.side) ss
charted see none = refl
charted see (more {x} {y} {xs} {ys} h hs) =
    let first : see x.refused x.chip.side ≡ see y.refused y.chip.side = cc (h.refused, h.together.side) in
    let rest = charted see hs in
    cc
