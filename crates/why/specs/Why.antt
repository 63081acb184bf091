-- 02 (x): why the CPU stops. After a tick AEC is low exactly where the last four ticks all asked for the bus.
use Rattle.std.specs.Prelude.{ℕ, zero, suc, ◌<◌, ◌≡◌, Bool, true, false, ◌&&◌, cond, List, [], ◌∷◌, eqb, pos, length}
use Rattle.memory.specs.Lent.{Host}
use Rattle.schedule.specs.Kind.{kind_of}
use Rattle.schedule.specs.Requests.{mask_at}
use Rattle.arbitration.specs.Bus.{requested}
use Rattle.chip.specs.declared.Chip.{Chip}
use Rattle.sequencer.specs.Tick.{ticked, ticks_from}
use Rattle.artwork.specs.Runs.{Call, tick, ticks, write, expand, compares, control_1, control_2, place_controls, late, done}

-- ---- the history of a run: the chip after each accepted tick, the latest first

-- 02 (x): a refused tick counts for nothing
unfoldable pub tick_adds : Host → Chip → List Chip → List Chip
tick_adds h c past = cond (eqb (ticked h c).refused 0) ((ticked h c).chip ∷ past) past

-- 02 (x): a run of n ticks counts as its accepted ones
unfoldable pub ticks_add : Host → ℕ → Chip → List Chip → List Chip
ticks_add h zero c past = past
ticks_add h (suc n) c past = tick_adds h (ticks_from h n c).chip (ticks_add h n c past)

-- no other call is a tick
unfoldable pub adds : Call → Chip → List Chip → List Chip
adds (tick h) c past = tick_adds h c past
adds (ticks h n) c past = ticks_add h n c past
adds (write addr v) c past = past
adds (expand v) c past = past
adds compares c past = past
adds (control_1 v) c past = past
adds (control_2 v) c past = past
adds (place_controls ctrl1 ctrl2 line) c past = past
adds (late byte) c past = past

-- a run on top of what came before it
unfoldable pub since : List Chip → List Call → Chip → List Chip
since past [] c = past
since past (x ∷ xs) c = since (adds x c past) xs (done x c).chip

abbrev pub history : List Call → Chip → List Chip
history xs c = since [] xs c

-- the chip that a run leaves
unfoldable pub after : List Call → Chip → Chip
after [] c = c
after (x ∷ xs) c = after xs (done x c).chip

-- ---- the last four

-- 02 (x); Bauer 3.6.1: a tick's request, an active BA output or a scheduled sprite with DMA, as its arbitration found them
unfoldable pub asked : Chip → Bool
asked c = requested c.side.beam.ba c.side.sprites.dma (mask_at (kind_of c.side.beam.kind) c.side.beam.cycle)

-- there are at least n, and of the last n each does
unfoldable pub last_all : {A : Type 0} → (A → Bool) → ℕ → List A → Bool
last_all does zero past = true
last_all does (suc n) [] = false
last_all does (suc n) (x ∷ past) = does x && last_all does n past

-- 02 (x); Bauer 3.6.1: three cycles of warning, and AEC falls in the fourth
abbrev pub last_four : {A : Type 0} → (A → Bool) → List A → Bool
last_four does past = last_all does 4 past

-- ---- the theorem: whatever the calls, from any state with AEC counter 3, once a tick was accepted

abbrev pub ByTheLastFour : Type 0
ByTheLastFour =
    (xs : List Call) (c : Chip) → c.side.bus.aec ≡ pos 3 → 0 < length (history xs c) → (after xs c).side.bus.aeclow ≡ last_four asked (history xs c)
