-- A dump on its way: its text so far, turn by turn. No rules: what private functions hand on.
use Rattle.std.specs.Prelude.{ℕ, ◌+◌, cond, List, [], leb, length}
use Rattle.script.specs.declared.Found.{Found}
use Rattle.chip.specs.declared.Chip.{Chip}
use Rattle.driver.specs.declared.Run.{Run}
use Rattle.driver.specs.declared.Event.{Event}
use Rattle.driver.specs.declared.Event.TheVariants as event
use Rattle.driver.specs.declared.Made.{Made}
use Rattle.driver.specs.Driver.{Store, made_on, begun_of as drive_begun}
use Rattle.vcd.specs.declared.Wave.{Wave}
use Rattle.vcd.specs.Text.{piece_of, wave_after, refusal_text, fresh}
use Rattle.wave.specs.Wave.{record_of}
use Rattle.tape.specs.declared.Tape.{Tape}
use Rattle.tape.specs.declared.Noted.{Noted}

abbrev pub noted : Wave → ℕ → Noted
noted w at = record { wave = w; at = at }

-- 02 (i): a tick's piece, a refusal's comment
unfoldable pub text_by : Event → Chip → ℕ → Wave → List ℕ
text_by event.Nothing c done w = []
text_by (event.Steps n) c done w = []
text_by event.Tick c done w = piece_of w (record_of c)
text_by (event.Refused number) c done w = refusal_text number done

unfoldable pub wave_by : Event → Chip → Wave → Wave
wave_by event.Nothing c w = w
wave_by (event.Steps n) c w = w
wave_by event.Tick c w = wave_after w (record_of c)
wave_by (event.Refused number) c w = w

abbrev pub tape : Run → Wave → ℕ → Tape
tape r w at = record { run = r; wave = w; at = at }

-- the declarations are written
unfoldable pub begun_of : ℕ → ℕ → Tape
begun_of kind at = tape (drive_begun kind) fresh at

-- where 292 of the block's 65,536 bytes are not free, the block is written out
unfoldable pub roomed : Tape → Tape
roomed t = cond (leb t.at 65244) t (tape t.run t.wave 0)

abbrev pub said_by : Tape → Made → List ℕ
said_by t x = text_by x.event x.run.chip x.run.done t.wave

abbrev pub tape_by : Tape → Made → Tape
tape_by t x = tape x.run (wave_by x.event x.run.chip t.wave) (t.at + length (said_by t x))

abbrev pub said_on : Store → Tape → Found → List ℕ
said_on m t found = said_by t (made_on m t.run found)

abbrev pub tape_on : Store → Tape → Found → Tape
tape_on m t found = tape_by t (made_on m t.run found)
