-- The dump of a run file, read by a viewer, is the record of each of its ticks. Assumes nothing.
use Prim.Native.Nat.{ℕ, zero, suc, ◌+◌, ◌^◌, ◌<◌, ◌≤◌}
use mathlib.Core.Path.{◌≡◌, refl, sym, ◌∙◌, ap, subst}
use mathlib.Core.Bool.{Bool, true, false}
use mathlib.Core.List.{List, [], ◌∷◌, ◌++◌, append-nil}
use native.Mathlib.Omega.{arith}
use lib.Dec.{eqb}
use lib.ListN.{length, length-append}
use borrow.Author.Tests.{eqb-true, eq-eqb}
use Rattle.laws.proofs.Choice.{either}
use Rattle.memory.specs.Lent.{Host}
use Rattle.script.specs.declared.Item.{Item}
use Rattle.script.specs.declared.Item.TheVariants as item
use Rattle.script.specs.declared.Step.{Step}
use Rattle.script.specs.declared.Step.TheVariants as step
use Rattle.script.specs.Machinery.Cursor.{next_of}
use Rattle.chip.specs.declared.Chip.{Chip}
use Rattle.world.specs.Tick.{tick_of}
use Rattle.sequencer.specs.Tick.{tick_refusal, ticked}
use Rattle.run.specs.Run.{done_of}
use Rattle.driver.specs.declared.Run.{Run}
use Rattle.driver.specs.declared.Event.{Event}
use Rattle.driver.specs.declared.Event.TheVariants as event
use Rattle.driver.specs.Driver.{Store, host_of, event_of, made_by, made_doing, made_at, made_on, store_at}
use Rattle.vcd.specs.declared.Record.{Record}
use Rattle.vcd.specs.Signals.{Within}
use Rattle.vcd.specs.Text.{refusal_text, dump_text}
use Rattle.wave.specs.Wave.{record_of}
use Rattle.sequencer.proofs.Numbers.{tick_number}
use Rattle.wave.proofs.Widths.{ticked_within}
use Rattle.tape.specs.Dump.{Played, records_by, refusal_by, played, played_of, dump_of}
use Rattle.tape.proofs.Turns.{Over, made_over, is_over}
use Rattle.viewer.specs.Words.{words_of}
use Rattle.viewer.specs.Reader.{views, start, seen_from}
use Rattle.playback.specs.Playback.{RunFileReadsBack}
use Rattle.viewer.proofs.Back.{AllWithin, text_reads_back, refused_text_reads_back}

-- ---- every record is a tick's, within the widths

ticked_chip : (h : Host) (c : Chip) → tick_refusal h c ≡ 0 → (ticked h c).chip ≡ tick_of h c
unfolding ticked
ticked_chip h c e = simp (eq-eqb (tick_refusal h c) 0 e)

tick_within : (h : Host) (c : Chip) → eqb (ticked h c).refused 0 ≡ true → Within (record_of (ticked h c).chip)
tick_within h c e =
    let none = sym (tick_number h c) ∙ eqb-true (ticked h c).refused 0 e in
    subst (λ (x : Chip). Within (record_of x)) (sym (ticked_chip h c none)) (ticked_within h c none)

step_within : (h : Host) (c : Chip) (s : Step) → eqb (done_of h c s).refused 0 ≡ true → AllWithin (records_by (event_of s) (done_of h c s).chip)
unfolding event_of records_by done_of
step_within h c step.Tick e = (tick_within h c e, tt)
step_within h c (step.Write address value) e = tt
step_within h c (step.Expand value) e = tt
step_within h c (step.Controls ctrl1 ctrl2 compare) e = tt
step_within h c (step.Late value) e = tt
step_within h c step.Borders e = tt
step_within h c (step.Bank bank) e = tt
step_within h c (step.Control1 value) e = tt
step_within h c (step.Control2 value) e = tt

did_within : (h : Host) (r : Run) (s : Step) (fine : Bool) → eqb (done_of h r.chip s).refused 0 ≡ fine
    → AllWithin (records_by (made_by r s (done_of h r.chip s)).event (made_by r s (done_of h r.chip s)).run.chip)
unfolding records_by
did_within h r s true e = simp e (step_within h r.chip s e)
did_within h r s false e = simp e tt

made_within : (m : Store) (r : Run) (i : Item) → AllWithin (records_by (made_at m r i).event (made_at m r i).run.chip)
unfolding made_at made_doing records_by
made_within m r (item.Changes memory n) = tt
made_within m r (item.Change memory address value) = tt
made_within m r (item.Steps n) = tt
made_within m r (item.Do s) = did_within (host_of m r.bank) r s (eqb (done_of (host_of m r.bank) r.chip s).refused 0) refl
made_within m r item.Done = tt
made_within m r (item.Refused number) = tt

both_within : (xs ys : List Record) → AllWithin xs → AllWithin ys → AllWithin (xs ++ ys)
both_within [] ys f g = g
both_within (x ∷ xs) ys f g = (f.0, both_within xs ys f.1 g)

-- a turn tells of one tick at most
one_at_most : (e : Event) (c : Chip) → length (records_by e c) ≤ 1
unfolding records_by
one_at_most event.Nothing c = omega arith
one_at_most (event.Steps n) c = omega arith
one_at_most event.Tick c = omega arith
one_at_most (event.Refused number) c = omega arith

-- how a dump ends
data Ending : List ℕ → Type 0 where
  plainly : Ending []
  refused : (number done : ℕ) → Ending (refusal_text number done)

ends_by : (e : Event) (go : Bool) (done : ℕ) (p : Played) → Over e go → (go ≡ false → p.refusal ≡ []) → Ending p.refusal → Ending (refusal_by e done ++ p.refusal)
unfolding refusal_by
ends_by event.Nothing go done p o h e = e
ends_by (event.Steps n) go done p o h e = e
ends_by event.Tick go done p o h e = e
ends_by (event.Refused number) go done p o h e =
    let alone : refusal_text number done ++ p.refusal ≡ refusal_text number done = ap (λ (l : List ℕ). refusal_text number done ++ l) (h o) ∙ append-nil (refusal_text number done) in
    subst Ending (sym alone) (refused number done)

-- ---- turn after turn

record Sound (n : ℕ) (p : Played) : Type 0 where
  within : AllWithin p.records
  few : length p.records ≤ n
  ends : Ending p.refusal

sound : (n : ℕ) (s : List ℕ) (m : Store) (r : Run) → Sound n (played n s m r)
unfolding played
sound zero s m r = record { within = tt; few = omega arith; ends = plainly }
sound (suc n) s m r =
    let found = next_of s r.cursor in
    let x = made_on m r found in
    let left = store_at m found.item in
    let p = played n s left x.run in
    let more = sound n s left x.run in
    let here = records_by x.event x.run.chip in
    either (Sound (suc n)) r.going
    (record {
      within = both_within here p.records (made_within m _ found.item) more.within;
      few = omega (arith, length-append here p.records, one_at_most x.event x.run.chip, more.few);
      ends = ends_by x.event x.run.going x.run.done p (made_over m _ found.item) (λ e. ap (λ (q : Played). q.refusal) (is_over s n left x.run e)) more.ends;
    })
    (record { within = tt; few = omega arith; ends = plainly })

by_ending : (rs : List Record) (tail : List ℕ) → Ending tail → AllWithin rs → length rs < 2 ^ 64 → views start (words_of (dump_text rs ++ tail)) ≡ seen_from 0 rs
by_ending rs [] plainly f h = ap (λ (t : List ℕ). views start (words_of t)) (append-nil (dump_text rs)) ∙ text_reads_back rs f h
by_ending rs tail (refused number done) f h = refused_text_reads_back rs number done f h

pub run_file_reads_back : RunFileReadsBack
unfolding dump_of played_of
run_file_reads_back kind m s h =
    let p = sound (length s + 1) s m _ in
    by_ending (played_of kind m s).records (played_of kind m s).refusal p.ends p.within (omega (arith, h, p.few))
