-- Turn after turn: what each adds to the dump. Assumes nothing.
use Prim.Native.Nat.{ℕ, zero, suc}
use mathlib.Core.Path.{◌≡◌, refl, sym, ◌∙◌, ap, subst}
use mathlib.Core.Bool.{Bool, true, false, cond}
use mathlib.Core.List.{List, [], ◌++◌, append_assoc}
use lib.Dec.{eqb}
use Rattle.script.specs.declared.Item.{Item}
use Rattle.script.specs.declared.Item.TheVariants as item
use Rattle.script.specs.declared.Step.{Step}
use Rattle.script.specs.declared.Step.TheVariants as step
use Rattle.script.specs.declared.Found.{Found}
use Rattle.script.specs.Machinery.Cursor.{next_of}
use Rattle.chip.specs.declared.Chip.{Chip}
use Rattle.run.specs.declared.Done.{Done}
use Rattle.run.specs.Run.{done_of}
use Rattle.driver.specs.declared.Run.{Run}
use Rattle.driver.specs.declared.Event.{Event}
use Rattle.driver.specs.declared.Event.TheVariants as event
use Rattle.driver.specs.declared.Made.{Made}
use Rattle.driver.specs.Driver.{Store, host_of, event_of, made_by, made_doing, made_at, made_on, store_at}
use Rattle.vcd.specs.declared.Record.{Record}
use Rattle.vcd.specs.declared.Wave.{Wave}
use Rattle.vcd.specs.Text.{piece_of, wave_after, refusal_text, ticks_text}
use Rattle.wave.specs.Wave.{record_of}
use Rattle.tape.specs.declared.Tape.{Tape}
use Rattle.tape.specs.Dump.{Played, records_by, refusal_by, first, over, played}
use Rattle.tape.specs.Machinery.Tape.{text_by, wave_by, said_on, tape_on}

-- ---- a refusal ends the run

abbrev pub Over : Event → Bool → Type 0
Over event.Nothing go = Unit {0}
Over (event.Steps n) go = Unit {0}
Over event.Tick go = Unit {0}
Over (event.Refused number) go = go ≡ false

step_over : (s : Step) (go : Bool) → Over (event_of s) go
unfolding event_of
step_over step.Tick go = tt
step_over (step.Write address value) go = tt
step_over (step.Expand value) go = tt
step_over (step.Controls ctrl1 ctrl2 compare) go = tt
step_over (step.Late value) go = tt
step_over step.Borders go = tt
step_over (step.Bank bank) go = tt
step_over (step.Control1 value) go = tt
step_over (step.Control2 value) go = tt

did_over : (r : Run) (s : Step) (d : Done) (fine : Bool) → eqb d.refused 0 ≡ fine → Over (made_by r s d).event (made_by r s d).run.going
did_over r s d true e = simp e (step_over s r.going)
did_over r s d false e = simp e refl

pub made_over : (m : Store) (r : Run) (i : Item) → Over (made_at m r i).event (made_at m r i).run.going
unfolding made_at made_doing
made_over m r (item.Changes memory n) = tt
made_over m r (item.Change memory address value) = tt
made_over m r (item.Steps n) = tt
made_over m r (item.Do s) = did_over r s (done_of (host_of m r.bank) r.chip s) (eqb (done_of (host_of m r.bank) r.chip s).refused 0) refl
made_over m r item.Done = tt
made_over m r (item.Refused number) = refl

-- ---- what a turn says comes first

said : (w : Wave) (c : Chip) (done : ℕ) (e : Event) (go : Bool) (p : Played) → Over e go → (go ≡ false → p.records ≡ [])
    → ticks_text w (records_by e c ++ p.records) ++ (refusal_by e done ++ p.refusal) ≡ text_by e c done w ++ (ticks_text (wave_by e c w) p.records ++ p.refusal)
unfolding records_by refusal_by text_by wave_by ticks_text
said w c done event.Nothing go p o h = refl
said w c done (event.Steps n) go p o h = refl
said w c done event.Tick go p o h = append_assoc (piece_of w (record_of c)) (ticks_text (wave_after w (record_of c)) p.records) p.refusal
said w c done (event.Refused number) go p o h =
    let f = refusal_text number done in
    subst (λ (l : List Record). ticks_text w l ++ (f ++ p.refusal) ≡ f ++ (ticks_text w l ++ p.refusal)) (sym (h o)) refl

module _ (s : List ℕ) where
  pub is_over : (n : ℕ) (m : Store) (r : Run) → r.going ≡ false → played n s m r ≡ over r m
  unfolding played
  is_over zero m r g = refl
  is_over (suc n) m r g = simp g

  abbrev pub to_come : ℕ → Store → Tape → List ℕ
  to_come n m t = ticks_text t.wave (played n s m t.run).records ++ (played n s m t.run).refusal

  pub over_come : (n : ℕ) (m : Store) (t : Tape) → t.run.going ≡ false → to_come n m t ≡ []
  unfolding ticks_text
  over_come n m t g = ap (λ (p : Played). ticks_text t.wave p.records ++ p.refusal) (is_over n m t.run g)

  module _ (m : Store) (r : Run) (going : r.going ≡ true) where
    abbrev found : Found
    found = next_of s r.cursor

    abbrev x : Made
    x = made_on m r found

    pub on_one : (n : ℕ) → played (suc n) s m r ≡ first x (played n s (store_at m found.item) x.run)
    unfolding played
    on_one n = ap (λ (go : Bool). cond go (first x (played n s (store_at m found.item) x.run)) (over r m)) going

  pub one : (n : ℕ) (m : Store) (t : Tape) → t.run.going ≡ true
      → to_come (suc n) m t ≡ said_on m t (next_of s t.run.cursor) ++ to_come n (store_at m (next_of s t.run.cursor).item) (tape_on m t (next_of s t.run.cursor))
  one n m t g =
      let r = t.run in
      let i = (next_of s r.cursor).item in
      let x = made_on m r (next_of s r.cursor) in
      ap (λ (p : Played). ticks_text t.wave p.records ++ p.refusal) (on_one m r g n)
      ∙ said t.wave x.run.chip x.run.done x.event x.run.going (played n s (store_at m i) x.run) (made_over m _ i) (λ e. ap (λ (p : Played). p.records) (is_over n (store_at m i) x.run e))
