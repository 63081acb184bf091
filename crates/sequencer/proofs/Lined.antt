-- The line as a call: it is its ticks, its refusals each exactly where they are due, and what a run of lines holds. Assumes nothing.
use Prim.Native.Nat.{ℕ, zero, suc, ◌+◌, ◌-◌, ◌*◌, ◌/◌, ◌<◌, ◌≤◌}
use mathlib.Core.Path.{◌≡◌, refl, sym, ap, ◌∙◌}
use mathlib.Core.Bool.{Bool, true, false, cond}
use mathlib.Core.List.{[]}
use native.Mathlib.Omega.{arith}
use native.Mathlib.Numerals.{add-one}
use native.Mathlib.Nat.{add_comm, suc-mul, div-mul-le_self}
use lib.Dec.{eqb}
use borrow.Author.Tests.{eqb-true, eqb-false, ne_eqb}
use Rattle.laws.proofs.Choice.{by_test}
use Rattle.schedule.specs.Kind.{known, kind_of, last_cycle}
use Rattle.schedule.proofs.Places.{last_least}
use Rattle.memory.specs.Lent.{Host, lent_refusal}
use Rattle.registers.specs.declared.Registers.{Registers}
use Rattle.access.specs.declared.Reads.{Reads}
use Rattle.access.specs.Reads.{told}
use Rattle.chip.specs.declared.Chip.{Chip}
use Rattle.chip.specs.declared.Answer.{Answer}
use Rattle.chip.specs.Chip.{answer, reading}
use Rattle.chip.specs.Accept.{accepted, state_refusal}
use Rattle.chip.proofs.Fine.{taken_accepted, accepted_taken, unaccepted_3, unknown_12}
use Rattle.world.specs.World.{World, world_of, chip_of}
use Rattle.lines.specs.Whole.{line_world}
use Rattle.sequencer.specs.Tick.{ticks_from}
use Rattle.sequencer.specs.Line.{line_chip, at_line_end, lineable, line_refusal, lined, lines_from}
use Rattle.sequencer.specs.Machinery.Parts.{Held, sound_refusal, tested_from}
use Rattle.sequencer.proofs.Numbers.{run_kind}
use Rattle.sequencer.proofs.Runs.{none, only_tested, sound_passes, tested_some}
use Rattle.sequencer.proofs.Staged.{some_after}
use Rattle.sequencer.proofs.Until as Until
use Rattle.sequencer.proofs.Whole.{Whole, whole_line, held_on, line_at}

-- ---- each refusal exactly where it is due

module _ (h : Host) (c : Chip) where
  abbrev at : Bool
  at = at_line_end c.side

  abbrev can : Bool
  can = lineable (kind_of c.side.beam.kind) c.side.bus.clock

  -- 1 and 2: what is lent comes first
  pub line_lent_then : (lent_refusal h ≡ 0 → ⊥) → line_refusal h c ≡ lent_refusal h
  unfolding line_refusal
  line_lent_then e = rw (ne_eqb (lent_refusal h) 0 e)

  -- 12 and 3: then the state
  pub line_12_then : lent_refusal h ≡ 0 → known c.side.beam.kind ≡ false → line_refusal h c ≡ 12
  unfolding line_refusal
  line_12_then l e = rw (l, unknown_12 c e)

  pub line_3_then : lent_refusal h ≡ 0 → known c.side.beam.kind ≡ true → accepted c ≡ false → line_refusal h c ≡ 3
  unfolding line_refusal
  line_3_then l k e = rw (l, unaccepted_3 c k e)

  -- 11: an accepted state that is not at the last cycle of its line, whatever its clock
  pub line_11_then : lent_refusal h ≡ 0 → accepted c ≡ true → at ≡ false → line_refusal h c ≡ 11
  unfolding line_refusal
  line_11_then l e a = rw (l, accepted_taken c e, a)

  -- 4: an accepted state at the last cycle whose clock can't take all the line's ticks
  pub line_4_then : lent_refusal h ≡ 0 → accepted c ≡ true → at ≡ true → can ≡ false → line_refusal h c ≡ 4
  unfolding line_refusal
  line_4_then l e a z = rw (l, accepted_taken c e, a, z)

  pub line_0_then : lent_refusal h ≡ 0 → accepted c ≡ true → at ≡ true → can ≡ true → line_refusal h c ≡ 0
  unfolding line_refusal
  line_0_then l e a z = rw (l, accepted_taken c e, a, z)

-- what a number says of the tests before it
pub data Why (h : Host) (c : Chip) : ℕ → Type 0 where
  lent : (lent_refusal h ≡ 0 → ⊥) → Why h c (lent_refusal h)
  unknown : lent_refusal h ≡ 0 → known c.side.beam.kind ≡ false → Why h c 12
  unaccepted : lent_refusal h ≡ 0 → known c.side.beam.kind ≡ true → accepted c ≡ false → Why h c 3
  mid_line : lent_refusal h ≡ 0 → accepted c ≡ true → at_line_end c.side ≡ false → Why h c 11
  late : lent_refusal h ≡ 0 → accepted c ≡ true → at_line_end c.side ≡ true → lineable (kind_of c.side.beam.kind) c.side.bus.clock ≡ false → Why h c 4
  taken : lent_refusal h ≡ 0 → accepted c ≡ true → at_line_end c.side ≡ true → lineable (kind_of c.side.beam.kind) c.side.bus.clock ≡ true → Why h c 0

-- so each number is given only there
pub line_why : (h : Host) (c : Chip) → Why h c (line_refusal h c)
unfolding line_refusal
line_why h c =
    by_test (Why h c) (eqb (lent_refusal h) 0) (λ l. by_state (eqb-true (lent_refusal h) 0 l)) (λ l. lent (eqb-false (lent_refusal h) 0 l))
  where
    by_clock : lent_refusal h ≡ 0 → accepted c ≡ true → Why h c (cond (at_line_end c.side) (cond (lineable (kind_of c.side.beam.kind) c.side.bus.clock) 0 4) 11)
    by_clock l e =
        by_test (Why h c) (at_line_end c.side)
        (λ a. by_test (Why h c) (lineable (kind_of c.side.beam.kind) c.side.bus.clock) (λ z. taken l e a z) (λ z. late l e a z))
        (λ a. mid_line l e a)

    unfit : lent_refusal h ≡ 0 → (k a : Bool) → known c.side.beam.kind ≡ k → accepted c ≡ a → (state_refusal c ≡ 0 → ⊥) → Why h c (state_refusal c)
    unfit l true true k a z = absurd (z (accepted_taken c a))
    unfit l true false k a z = rw (unaccepted_3 c k a) (unaccepted l k a)
    unfit l false a k e z = rw (unknown_12 c k) (unknown l k)

    by_state : lent_refusal h ≡ 0 → Why h c (cond (eqb (state_refusal c) 0) (cond (at_line_end c.side) (cond (lineable (kind_of c.side.beam.kind) c.side.bus.clock) 0 4) 11) (state_refusal c))
    by_state l =
        by_test (Why h c) (eqb (state_refusal c) 0)
        (λ s. by_clock l (taken_accepted c (eqb-true (state_refusal c) 0 s)))
        (λ s. unfit l (known c.side.beam.kind) (accepted c) refl refl (eqb-false (state_refusal c) 0 s))

-- ---- what a line answers

module _ (h : Host) (c : Chip) where
  -- a refused line gives the state back unchanged
  pub line_refused : (line_refusal h c ≡ 0 → ⊥) → lined h c ≡ answer (line_refusal h c) c
  unfolding lined
  line_refused e = rw (ne_eqb (line_refusal h c) 0 e)

  pub line_answers : line_refusal h c ≡ 0 → lined h c ≡ answer 0 (line_chip h c)
  unfolding lined
  line_answers e = rw e

  pub line_number : (lined h c).refused ≡ line_refusal h c
  unfolding lined
  line_number = by_test (λ (a : Answer). a.refused ≡ line_refusal h c) (eqb (line_refusal h c) 0) (λ e. sym (eqb-true (line_refusal h c) 0 e)) (λ e. refl)

-- what is known of a state whose line is not refused
pub record Passed (h : Host) (c : Chip) : Type 0 where
  pub free : lent_refusal h ≡ 0
  pub fine : accepted c ≡ true
  pub at : at_line_end c.side ≡ true
  pub can : lineable (kind_of c.side.beam.kind) c.side.bus.clock ≡ true

by_why : {h : Host} {c : Chip} {n : ℕ} → Why h c n → n ≡ 0 → Passed h c
by_why (lent z) e = absurd (z e)
by_why (unknown l k) e = absurd (omega arith)
by_why (unaccepted l k a) e = absurd (omega arith)
by_why (mid_line l a z) e = absurd (omega arith)
by_why (late l a z t) e = absurd (omega arith)
by_why (taken l a z t) e = record { free = l; fine = a; at = z; can = t }

pub line_passes : (h : Host) (c : Chip) → line_refusal h c ≡ 0 → Passed h c
line_passes h c e = by_why (line_why h c) e

-- ---- 02 (xii): a line that is not refused is its ticks, none of which is refused

module _ (h : Host) (c : Chip) (e : line_refusal h c ≡ 0) where
  abbrev passed : Passed h c
  passed = line_passes h c e

  abbrev whole : Whole h c.regs (world_of c) passed.free passed.fine passed.at passed.can
  whole = whole_line h c.regs (world_of c) passed.free passed.fine passed.at passed.can

  pub line_is_its_ticks : ((ticks_from h (last_cycle (kind_of c.side.beam.kind)) c).refused ≡ 0) × ((lined h c).chip ≡ (ticks_from h (last_cycle (kind_of c.side.beam.kind)) c).chip)
  line_is_its_ticks =
      let s = whole.state in
      (ap (λ (a : Answer). a.refused) s, ap (λ (a : Answer). a.chip) (line_answers h c e) ∙ sym (ap (λ (a : Answer). a.chip) s))

  -- and accepted
  pub line_kept : accepted (lined h c).chip ≡ true
  line_kept = rw (line_answers h c e) whole.kept

-- ---- a run of lines

pub no_lines : (h : Host) (c : Chip) → lines_from h 0 c ≡ answer 0 c
unfolding lines_from
no_lines h c = refl

pub more_lines : (h : Host) (n : ℕ) (c : Chip) → lines_from h (suc n) c ≡ cond (eqb (lines_from h n c).refused 0) (lined h (lines_from h n c).chip) (lines_from h n c)
unfolding lines_from
more_lines h n c = refl

pub one_line : (h : Host) (c : Chip) → lines_from h 1 c ≡ lined h c
one_line h = Until.one (lined h) (lines_from h) (no_lines h) (more_lines h)

module _ (h : Host) (c : Chip) where
  -- a run of at least one line is refused at once, with the state unchanged
  pub lines_refused : (r n : ℕ) → line_refusal h c ≡ r → (r ≡ 0 → ⊥) → (n ≡ 0 → ⊥) → answer r c ≡ lines_from h n c
  unfolding lined
  lines_refused r n e nz nn = Until.refused_first (lined h) (lines_from h) (no_lines h) (more_lines h) c r n (rw (e, ne_eqb r 0 nz)) nz nn

  -- what is lent and the state come before the cycle
  sound_first : (sound_refusal h c ≡ 0 → ⊥) → line_refusal h c ≡ sound_refusal h c
  unfolding sound_refusal line_refusal
  sound_first nz = same (eqb (lent_refusal h) 0) (eqb (state_refusal c) 0) refl nz
    where
      same : (free fine : Bool) → eqb (state_refusal c) 0 ≡ fine → (cond free (state_refusal c) (lent_refusal h) ≡ 0 → ⊥)
          → cond free (cond fine (cond (at_line_end c.side) (cond (lineable (kind_of c.side.beam.kind) c.side.bus.clock) 0 4) 11) (state_refusal c)) (lent_refusal h) ≡ cond free (state_refusal c) (lent_refusal h)
      same true true e nz = absurd (nz (eqb-true (state_refusal c) 0 e))
      same true false e nz = refl
      same false fine e nz = refl

  pub lines_none : (n : ℕ) → n ≡ 0 → answer 0 c ≡ lines_from h n c
  lines_none n e = rw e (sym (no_lines h c))

  -- what is lent or the state refused, it is the refusal of the lines
  pub lines_unsound : (n : ℕ) {r : ℕ} → r ≡ sound_refusal h c → (r ≡ 0 → ⊥) → (n ≡ 0 → ⊥) → answer r c ≡ lines_from h n c
  lines_unsound n {r} e nz nn = lines_refused r n (sound_first (λ q. nz (e ∙ q)) ∙ sym e) nz nn

  -- what a call that only tests answers: refused, it is the refusal of the lines
  pub lines_tested : (n : ℕ) {a : Answer} → a ≡ tested_from h 0 c → (a.refused ≡ 0 → ⊥) → (n ≡ 0 → ⊥) → a ≡ lines_from h n c
  lines_tested n {a} e nz nn =
      let told = e ∙ only_tested h c in
      let z : (sound_refusal h c ≡ 0 → ⊥) = λ q. nz (ap (λ (b : Answer). b.refused) told ∙ q) in
      told ∙ lines_unsound n refl z nn

  -- and else nothing lent and no state is refused
  pub sound_told : {a : Answer} → a ≡ tested_from h 0 c → a.refused ≡ 0 → (lent_refusal h ≡ 0) × (accepted c ≡ true)
  sound_told {a} e z = sound_passes h c (sym (ap (λ (b : Answer). b.refused) (e ∙ only_tested h c)) ∙ z)

  pub lines_mid : (n : ℕ) → (lent_refusal h ≡ 0) × (accepted c ≡ true) → (c.side.beam.cycle ≡ last_cycle (kind_of c.side.beam.kind) → ⊥) → (n ≡ 0 → ⊥) → answer 11 c ≡ lines_from h n c
  lines_mid n p z nn = lines_refused 11 n (line_11_then h c p.0 p.1 (ne_eqb c.side.beam.cycle (last_cycle (kind_of c.side.beam.kind)) z)) (λ q. absurd (omega (arith, q))) nn

module _ (h : Host) (g : Registers) (w₀ : World) (n : ℕ) where
  pub record Lining (w : World) (i : ℕ) : Type 0 where
    pub within : i ≤ n
    pub state : lines_from h i (chip_of g w₀) ≡ answer 0 (chip_of g w)
    pub held : Held h g w
    pub at : at_line_end w.side ≡ true

  pub lining : Held h g w₀ → at_line_end w₀.side ≡ true → Lining w₀ 0
  lining held at = record { within = omega arith; state = no_lines h (chip_of g w₀); held = held; at = at }

  module _ {w : World} {i : ℕ} (r : Lining w i) where
    next_line_lem : lines_from h (suc i) (chip_of g w₀) ≡ lined h (chip_of g w)
    next_line_lem = Until.next (lined h) (lines_from h) (no_lines h) (more_lines h) (chip_of g w₀) (chip_of g w) i r.state

    pub line_on : {v : World} → i < n → lineable (kind_of w.side.beam.kind) w.side.bus.clock ≡ true → v ≡ line_world h g w → Lining v (i + 1)
    line_on {v} l can e =
        let z = line_0_then h (chip_of g w) r.held.free r.held.fine r.at can in
        record {
          within = omega arith;
          state = rw (add-one, e) (next_line_lem ∙ line_answers h (chip_of g w) z);
          held = held_on r.held r.at can e;
          at = rw e (line_at h g w);
        }

    pub no_more_lines : i < n → lineable (kind_of w.side.beam.kind) w.side.bus.clock ≡ false → answer 4 (chip_of g w) ≡ lines_from h n (chip_of g w₀)
    no_more_lines l can =
        let z = line_4_then h (chip_of g w) r.held.free r.held.fine r.at can in
        Until.ended (lined h) (lines_from h) (no_lines h) (more_lines h) (chip_of g w₀) (answer 4 (chip_of g w)) i n (next_line_lem ∙ line_refused h (chip_of g w) (λ q. absurd (omega (arith, z, q))) ∙ ap (λ (m : ℕ). answer m (chip_of g w)) z) refl l

    pub lines_done : n ≤ i → answer 0 (chip_of g w) ≡ lines_from h n (chip_of g w₀)
    lines_done l = let q : i ≡ n = omega (arith, r.within) in rw (← q) (sym r.state)

-- ---- 02 (xii): n lines that are not refused are their ticks, n times a line's, none of which is refused

module _ (h : Host) (c : Chip) where
  abbrev cycles : ℕ
  cycles = last_cycle (kind_of c.side.beam.kind)

  record AsTicks (n : ℕ) (d : Chip) : Type 0 where
    heard : Reads
    state : ticks_from h (n * cycles) c ≡ reading d heard

  one_more_lem : (n : ℕ) {d : Chip} → AsTicks n d → line_refusal h d ≡ 0 → AsTicks (suc n) (line_chip h d)
  one_more_lem n {d} before e =
      let p = line_passes h d e in
      let w = whole_line h d.regs (world_of d) p.free p.fine p.at p.can in
      let same : d.side.beam.kind ≡ c.side.beam.kind = sym (ap (λ (a : Answer). a.chip.side.beam.kind) before.state) ∙ run_kind h (n * cycles) c in
      let long : last_cycle (kind_of d.side.beam.kind) ≡ cycles = ap (λ (k : ℕ). last_cycle (kind_of k)) same in
      let some : 0 < cycles = omega (arith, last_least (kind_of c.side.beam.kind)) in
      record {
        heard = w.heard;
        state = rw (suc-mul n cycles, add_comm (n * cycles) cycles) (some_after h c d (n * cycles) cycles before.state some ∙ rw long at w.state);
      }

  -- the next of a run, from what it was before
  after : (n : ℕ) (b x : Answer) → (b.refused ≡ 0 → AsTicks n b.chip) → x ≡ cond (eqb b.refused 0) (lined h b.chip) b → x.refused ≡ 0 → AsTicks (suc n) x.chip
  after n b x ih e z = by_first (eqb b.refused 0) refl e
    where
      by_first : (t : Bool) → eqb b.refused 0 ≡ t → x ≡ cond t (lined h b.chip) b → AsTicks (suc n) x.chip
      by_first true p e =
          let r = sym (line_number h b.chip) ∙ sym (ap (λ (a : Answer). a.refused) e) ∙ z in
          rw (e ∙ line_answers h b.chip r) (one_more_lem n (ih (eqb-true b.refused 0 p)) r)
      by_first false p e = absurd (eqb-false b.refused 0 p (sym (ap (λ (a : Answer). a.refused) e) ∙ z))

  lines_ticks : (n : ℕ) → (lines_from h n c).refused ≡ 0 → AsTicks n (lines_from h n c).chip
  lines_ticks zero =
      let q : 0 * cycles ≡ 0 = omega arith in
      λ e. record { heard = told []; state = rw (q, no_lines h c) (none h c) }
  lines_ticks (suc n) = after n (lines_from h n c) (lines_from h (suc n) c) (lines_ticks n) (more_lines h n c)

  pub lines_are_their_ticks : (n : ℕ) → (lines_from h n c).refused ≡ 0 → ((ticks_from h (n * cycles) c).refused ≡ 0) × ((lines_from h n c).chip ≡ (ticks_from h (n * cycles) c).chip)
  lines_are_their_ticks n e =
      let s = (lines_ticks n e).state in
      (ap (λ (a : Answer). a.refused) s, sym (ap (λ (a : Answer). a.chip) s))

  -- ticks that go on after lines
  pub lines_then : (n k : ℕ) → (lines_from h n c).refused ≡ 0 → 0 < k → ticks_from h (k + n * cycles) c ≡ ticks_from h k (lines_from h n c).chip
  lines_then n k e some = some_after h c (lines_from h n c).chip (n * cycles) k (lines_ticks n e).state some

  -- a run of ticks with lines in it: so many of them, and the rest by ticks
  pub after_lines : (n m : ℕ) {last : ℕ} {a b : Answer} → last ≡ cycles → m * last < n → a ≡ lines_from h m c → a.refused ≡ 0 → b ≡ tested_from h (n - m * last) a.chip → b ≡ ticks_from h n c
  after_lines n m {last} {a} p l e z f =
      let some : 0 < n - m * last = omega (arith, l) in
      let sum : (n - m * last) + m * last ≡ n = omega (arith, l) in
      let went = rw (← p, sum, ← e) at (lines_then m (n - m * last) (ap (λ (x : Answer). x.refused) (sym e) ∙ z) some) in
      f ∙ tested_some h a.chip (n - m * last) (λ q. omega (arith, some, q)) ∙ sym went

-- as many lines as end before the last of n ticks
pub lines_before : (n last : ℕ) → (n ≡ 0 → ⊥) → ((n - 1) / last) * last < n
lines_before n last z = omega (arith, div-mul-le_self (n - 1) last, z)
