-- The same on the chart's own numbers. Assumes nothing.
use Prim.Native.Nat.{ℕ}
use mathlib.Core.Path.{◌≡◌, refl, sym, ◌∙◌, ap, subst}
use mathlib.Core.Bool.{Bool, true, false, cond}
use mathlib.Core.List.{List, [], ◌∷◌, ◌++◌, map, append-nil, append_assoc}
use lib.Dec.{eqb}
use lib.IntN.{ℤ, pos}
use Rattle.laws.proofs.Choice.{either, by_test}
use Rattle.memory.specs.Lent.{Host}
use Rattle.arbitration.specs.Bus.{aec_after, low}
use Rattle.arbitration.specs.Bus as Buses
use Rattle.side.specs.Turn.{fresh_side}
use Rattle.script.specs.declared.Item.{Item}
use Rattle.script.specs.declared.Item.TheVariants as item
use Rattle.script.specs.declared.Step.{Step}
use Rattle.script.specs.declared.Step.TheVariants as step
use Rattle.script.specs.File.{run_of}
use Rattle.chip.specs.declared.Chip.{Chip}
use Rattle.chip.specs.declared.Answer.{Answer}
use Rattle.chip.specs.Chip.{powered}
use Rattle.world.specs.Tick.{tick_of}
use Rattle.sequencer.specs.Tick.{ticked}
use Rattle.artwork.specs.Runs.{Call, write, expand, compares, control_1, control_2, place_controls, late, done}
use Rattle.run.specs.Run.{done_of}
use Rattle.driver.specs.declared.Run.{Run}
use Rattle.driver.specs.declared.Made.{Made}
use Rattle.driver.specs.Driver.{Store, host_of, begun_of, event_of, made_by, made_doing, made_at, store_at}
use Rattle.line.specs.declared.Eight.{Eight}
use Rattle.line.specs.Line.{level_of, numbers_of}
use Rattle.why.specs.Why.{adds, asked}
use Rattle.sheet.specs.declared.Run.{Run as Printed}
use Rattle.sheet.specs.Sheet as Sheet
use Rattle.sheet.specs.Chart.{told, chart_of}
use Rattle.why.specs.Chart.{turns_on, text_of, line_adds, lines_of, ba_low, Explained, OnEveryChart, OnEveryRun}
use Rattle.why.proofs.History.{accepted, along}
use Rattle.why.proofs.Why.{asked_is_low, counts, falls, only_ticks_touch_the_bus, counter_from, four}

read_back : (b : Bool) → eqb (level_of b) 0 ≡ b
read_back true = refl
read_back false = refl

-- ---- a tick's line

record Told (lines : List Eight) (c : Chip) : Type 0 where
  aec : c.side.bus.aec ≡ counter_from ba_low (pos 3) lines
  each : Explained lines

numbers_ba : (c : Chip) → ba_low (numbers_of c) ≡ c.side.bus.balow
unfolding numbers_of
numbers_ba c = read_back c.side.bus.balow

numbers_aec : (c : Chip) → eqb (numbers_of c).aec 0 ≡ c.side.bus.aeclow
unfolding numbers_of
numbers_aec c = read_back c.side.bus.aeclow

told_tick : (h : Host) (lines : List Eight) (c : Chip) → Told lines c → Told (numbers_of (tick_of h c) ∷ lines) (tick_of h c)
unfolding counter_from
told_tick h lines c t = record { aec = here; each = (numbers_aec (tick_of h c) ∙ falls h c ∙ ap low here ∙ four ba_low (numbers_of (tick_of h c) ∷ lines), t.each) }
  where
    here : (tick_of h c).side.bus.aec ≡ aec_after (counter_from ba_low (pos 3) lines) (ba_low (numbers_of (tick_of h c)))
    here =
        counts h c
        ∙ ap (λ (z : ℤ). aec_after z (asked (tick_of h c))) t.aec
        ∙ ap (aec_after (counter_from ba_low (pos 3) lines)) (sym (asked_is_low h c) ∙ sym (numbers_ba (tick_of h c)))

told_on : {lines : List Eight} {c d : Chip} → d.side.bus ≡ c.side.bus → Told lines c → Told lines d
told_on same t = record { aec = rw same t.aec; each = t.each }

-- ---- runs of calls

pub on_every_run : OnEveryRun
unfolding counter_from
on_every_run xs c three =
    (along (λ (past : List Chip) (c : Chip). Told (map numbers_of past) c)
    (λ h past c t. told_tick h (map numbers_of past) c t)
    (λ x past c none t. told_on (only_ticks_touch_the_bus x c none) t)
    [] xs c (record { aec = three; each = tt })
    ).each

-- ---- run files

told_done : (h : Host) (lines : List Eight) (c : Chip) (s : Step) → eqb (done_of h c s).refused 0 ≡ true → Told lines c
    → Told (line_adds (event_of s) (done_of h c s).chip lines) (done_of h c s).chip
unfolding line_adds event_of done_of done adds
told_done h lines c step.Tick e t = rw (accepted h c e) (told_tick h lines c t)
told_done h lines c (step.Write address value) e t = told_on (only_ticks_touch_the_bus (write address value) c refl) t
told_done h lines c (step.Expand value) e t = told_on (only_ticks_touch_the_bus (expand value) c refl) t
told_done h lines c (step.Controls ctrl1 ctrl2 compare) e t = told_on (only_ticks_touch_the_bus (place_controls ctrl1 ctrl2 compare) c refl) t
told_done h lines c (step.Late value) e t = told_on (only_ticks_touch_the_bus (late value) c refl) t
told_done h lines c step.Borders e t = told_on (only_ticks_touch_the_bus compares c refl) t
told_done h lines c (step.Bank bank) e t = t
told_done h lines c (step.Control1 value) e t = told_on (only_ticks_touch_the_bus (control_1 value) c refl) t
told_done h lines c (step.Control2 value) e t = told_on (only_ticks_touch_the_bus (control_2 value) c refl) t

abbrev ToldBy : List Eight → Made → Type 0
ToldBy lines x = Told (line_adds x.event x.run.chip lines) x.run.chip

told_item : (lines : List Eight) (m : Store) (r : Run) (i : Item) → Told lines r.chip → ToldBy lines (made_at m r i)
unfolding line_adds made_at made_doing
told_item lines m r (item.Changes memory n) t = t
told_item lines m r (item.Change memory address value) t = t
told_item lines m r (item.Steps n) t = t
told_item lines m r (item.Do s) t =
    let h = host_of m r.bank in
    by_test (ToldBy lines) (eqb (done_of h r.chip s).refused 0) (λ e. told_done h lines r.chip s e t) (λ e. t)
told_item lines m r item.Done t = t
told_item lines m r (item.Refused number) t = t

told_turns : (past : List Made) (m : Store) (r : Run) (items : List Item) → Told (lines_of past) r.chip → Explained (lines_of (turns_on past m r items))
unfolding turns_on lines_of
told_turns past m r [] t = t.each
told_turns past m r (i ∷ more) t =
    let now = told_item (lines_of past) m r i t in
    either (λ (all : List Made). Explained (lines_of all)) (made_at m r i).run.going (told_turns (made_at m r i ∷ past) (store_at m i) (made_at m r i).run more now) now.each

-- the chart is the text of these turns
by_going : (going : Bool) (on over : List Made) (p here more : List ℕ) → text_of on ≡ (p ++ here) ++ more → text_of over ≡ p ++ here
    → text_of (cond going on over) ≡ p ++ (here ++ cond going more [])
by_going true on over p here more e f = e ∙ append_assoc p here more
by_going false on over p here more e f = f ∙ ap (λ (l : List ℕ). p ++ l) (sym (append-nil here))

text_turns : (past : List Made) (m : Store) (r : Printed) (items : List Item) → text_of (turns_on past m (Sheet.driven_of r) items) ≡ text_of past ++ told m r items
unfolding turns_on text_of told Sheet.said_at Sheet.run_at
text_turns past m r [] = sym (append-nil (text_of past))
text_turns past m r (i ∷ more) =
    by_going (made_at m (Sheet.driven_of r) i).run.going _ _ (text_of past) (Sheet.said_at m r i) (told (store_at m i) (Sheet.run_at m r i) more)
    (text_turns (made_at m (Sheet.driven_of r) i ∷ past) (store_at m i) (Sheet.run_at m r i) more) refl

pub on_every_chart : OnEveryChart
unfolding begun_of powered fresh_side Buses.fresh counter_from lines_of text_of chart_of Sheet.begun_of
on_every_chart kind m s = (text_turns [] m (Sheet.begun_of kind) (run_of s), told_turns [] m (begun_of kind) (run_of s) (record { aec = refl; each = tt }))
