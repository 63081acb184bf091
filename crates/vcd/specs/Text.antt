-- The text of a dump, piece by piece.
use Rattle.std.specs.Prelude.{ℕ, ◌+◌, ◌-◌, ◌%◌, true, false, cond, List, [], ◌∷◌, ◌++◌, eqb, ltb}
use Rattle.line.specs.Text.{ascii, text_of}
unfoldable pub use Rattle.line.specs.Text.{digits_of}
use Rattle.vcd.specs.declared.Record.{Record}
use Rattle.vcd.specs.declared.Wave.{Wave}
use Rattle.vcd.specs.Signals.{Change, width_of, changes_of, all_of}

-- IEEE 1364: the declarations; 02 (i): the eight signals
unfoldable pub declarations : List ℕ
declarations =
    ascii "$version Nickelplait $end\n"
    ++ ascii "$timescale 1 us $end\n"
    ++ ascii "$scope module vic $end\n"
    ++ ascii "$var wire 7 A cycle $end\n"
    ++ ascii "$var wire 9 B raster $end\n"
    ++ ascii "$var wire 1 C ba $end\n"
    ++ ascii "$var wire 1 D aec $end\n"
    ++ ascii "$var wire 8 E dma $end\n"
    ++ ascii "$var wire 3 F rc $end\n"
    ++ ascii "$var wire 10 G vc $end\n"
    ++ ascii "$var wire 1 H irq $end\n"
    ++ ascii "$upscope $end\n"
    ++ ascii "$enddefinitions $end\n"

-- the k-th capital is signal k's identifier
abbrev pub id_of : ℕ → ℕ
id_of k = 65 + k

-- IEEE 1364: a signal of one bit has its digit right before the identifier, another `b`, its digits and a space
unfoldable pub value_text : ℕ → ℕ → ℕ → List ℕ
value_text k bits v =
    cond (eqb bits 1) ((48 + v % 2) ∷ id_of k ∷ 10 ∷ []) (98 ∷ (digits_of 2 (bits - 1) v ++ (32 ∷ id_of k ∷ 10 ∷ [])))

abbrev pub change_text : Change → List ℕ
change_text c = value_text c.signal (width_of c.signal) c.value

unfoldable pub changes_text : List Change → List ℕ
changes_text [] = []
changes_text (c ∷ more) = change_text c ++ changes_text more

-- IEEE 1364: a time mark
unfoldable pub mark_text : ℕ → List ℕ
mark_text t = 35 ∷ (digits_of 10 19 t ++ (10 ∷ []))

-- 02 (i): initial values, the first tick's, at time 0
unfoldable pub first_text : Record → List ℕ
first_text now = ascii "#0\n$dumpvars\n" ++ (changes_text (all_of now) ++ ascii "$end\n")

-- 02 (i): then only the signals that changed
unfoldable pub later_text : ℕ → Record → Record → List ℕ
later_text t before now = mark_text t ++ changes_text (changes_of before now)

-- 02 (i): a run that is refused ends with a comment that says what the chart says
unfoldable pub refusal_text : ℕ → ℕ → List ℕ
refusal_text number done = ascii "$comment refused " ++ (text_of number 32 ++ (text_of done 32 ++ ascii "$end\n"))

-- ---- tick after tick

-- 02 (i): one time unit a tick; the last time of 64 bits stays
unfoldable pub next_time : ℕ → ℕ
next_time t = cond (ltb t 18446744073709551615) (t + 1) t

-- 02 (i): the first tick is at time 0
unfoldable pub time_of : Wave → ℕ
time_of w = cond w.begun (next_time w.time) 0

unfoldable pub piece_of : Wave → Record → List ℕ
piece_of w now = cond w.begun (later_text (time_of w) w.last now) (first_text now)

unfoldable pub wave_after : Wave → Record → Wave
wave_after w now = record { begun = true; time = time_of w; last = now }

-- no tick is written
unfoldable pub fresh : Wave
fresh =
    record {
      begun = false;
      time = 0;
      last = record { cycle = 0; raster = 0; ba = 0; aec = 0; dma = 0; rc = 0; vc = 0; irq = 0 };
    }

unfoldable pub ticks_text : Wave → List Record → List ℕ
ticks_text w [] = []
ticks_text w (now ∷ more) = piece_of w now ++ ticks_text (wave_after w now) more

-- 02 (i): the dump of a run's ticks; without one the declarations alone
unfoldable pub dump_text : List Record → List ℕ
dump_text records = declarations ++ ticks_text fresh records
