-- 02 (x), on the chart's own numbers: AEC is 0 exactly where BA is 0 on this line of the chart and on the three before it.
use Rattle.std.specs.Prelude.{ℕ, ◌≡◌, Bool, cond, List, [], ◌∷◌, ◌++◌, map, eqb, pos}
use Rattle.script.specs.declared.Item.{Item}
use Rattle.script.specs.File.{run_of}
use Rattle.chip.specs.declared.Chip.{Chip}
use Rattle.artwork.specs.Runs.{Call}
use Rattle.driver.specs.declared.Run.{Run}
use Rattle.driver.specs.declared.Event.{Event}
use Rattle.driver.specs.declared.Event.TheVariants as event
use Rattle.driver.specs.declared.Made.{Made}
use Rattle.driver.specs.Driver.{Store, begun_of, made_at, store_at}
use Rattle.line.specs.declared.Eight.{Eight}
use Rattle.line.specs.Line.{numbers_of}
use Rattle.sheet.specs.Sheet as Sheet
use Rattle.sheet.specs.Chart.{chart_of}
use Rattle.why.specs.Why.{history, last_four}

-- ---- a run file's turns, the latest first

-- each item's, up to the one that ends the run
unfoldable pub turns_on : List Made → Store → Run → List Item → List Made
turns_on past m r [] = past
turns_on past m r (i ∷ more) =
    let x = made_at m r i in
    cond x.run.going (turns_on (x ∷ past) (store_at m i) x.run more) (x ∷ past)

-- 01, Run file: from power-up of a kind
abbrev pub turns_of : ℕ → Store → List ℕ → List Made
turns_of kind m s = turns_on [] m (begun_of kind) (run_of s)

-- 01, chart: what they say is its text
unfoldable pub text_of : List Made → List ℕ
text_of [] = []
text_of (x ∷ past) = text_of past ++ Sheet.text_of x

-- 01, chart: a tick has a line, and nothing else has
unfoldable pub line_adds : Event → Chip → List Eight → List Eight
line_adds event.Nothing c above = above
line_adds (event.Steps n) c above = above
line_adds event.Tick c above = numbers_of c ∷ above
line_adds (event.Refused number) c above = above

unfoldable pub lines_of : List Made → List Eight
lines_of [] = []
lines_of (x ∷ past) = line_adds x.event x.run.chip (lines_of past)

-- ---- the corollary

abbrev pub ba_low : Eight → Bool
ba_low l = eqb l.ba 0

-- this line and the three before it, and so each line above
abbrev pub Explained : List Eight → Type 0
Explained [] = Unit {0}
Explained (l ∷ above) = (eqb l.aec 0 ≡ last_four ba_low (l ∷ above)) × Explained above

-- of every run file: the turns whose text is its chart, and their lines
abbrev pub OnEveryChart : Type 0
OnEveryChart = (kind : ℕ) (m : Store) (s : List ℕ) → (text_of (turns_of kind m s) ≡ chart_of kind m s) × Explained (lines_of (turns_of kind m s))

-- of every run of calls, its ticks told as a chart tells them
abbrev pub OnEveryRun : Type 0
OnEveryRun = (xs : List Call) (c : Chip) → c.side.bus.aec ≡ pos 3 → Explained (map numbers_of (history xs c))
