-- The signals of a dump: a tick's values, what changed from a tick to the next, and the changes played back.
use Rattle.std.specs.Prelude.{ℕ, suc, ◌<◌, ◌^◌, ◌≡◌, cond, List, [], ◌∷◌, eqb, set, get_or}
use Rattle.vcd.specs.declared.Record.{Record}

-- 02 (i): cycle, raster, BA, AEC, the DMA mask, RC, VC, the interrupt line, in the order of their declarations
unfoldable pub values_of : Record → List ℕ
values_of r =
    r.cycle ∷ r.raster ∷ r.ba ∷ r.aec ∷ r.dma ∷ r.rc ∷ r.vc ∷ r.irq ∷ []

-- 02 (i): the bits of each
unfoldable pub width_of : ℕ → ℕ
width_of k = get_or (7 ∷ 9 ∷ 1 ∷ 1 ∷ 8 ∷ 3 ∷ 10 ∷ 1 ∷ []) k 1

-- values from signal k on, each within its width
abbrev pub WithinFrom : ℕ → List ℕ → Type 0
WithinFrom k [] = Unit {0}
WithinFrom k (v ∷ more) = (v < 2 ^ width_of k) × WithinFrom (suc k) more

abbrev pub Within : Record → Type 0
Within r = WithinFrom 0 (values_of r)

-- ---- changes

-- signal k has a new value
pub record Change : Type 0 where
  pub signal : ℕ
  pub value : ℕ

abbrev pub change : ℕ → ℕ → Change
change k v = record { signal = k; value = v }

-- 02 (i): only the signals that changed, from signal k on
unfoldable pub changes_from : ℕ → List ℕ → List ℕ → List Change
changes_from k (x ∷ before) (y ∷ now) =
    cond (eqb x y) (changes_from (suc k) before now) (change k y ∷ changes_from (suc k) before now)
changes_from k [] now = []
changes_from k (x ∷ before) [] = []

abbrev pub changes_of : Record → Record → List Change
changes_of before now = changes_from 0 (values_of before) (values_of now)

-- 02 (i): at the first tick every signal, from signal k on
unfoldable pub all_from : ℕ → List ℕ → List Change
all_from k [] = []
all_from k (v ∷ more) = change k v ∷ all_from (suc k) more

abbrev pub all_of : Record → List Change
all_of r = all_from 0 (values_of r)

-- ---- played back

unfoldable pub played : List ℕ → List Change → List ℕ
played values [] = values
played values (c ∷ more) = played (set values c.signal c.value) more

-- the change list of each later tick of a run
unfoldable pub run_changes : Record → List Record → List (List Change)
run_changes before [] = []
run_changes before (now ∷ more) = changes_of before now ∷ run_changes now more

-- the values at each of them
unfoldable pub run_played : List ℕ → List (List Change) → List (List ℕ)
run_played values [] = []
run_played values (c ∷ more) = played values c ∷ run_played (played values c) more

-- what holds of each change of a list
abbrev pub Each : (Change → Type 0) → List Change → Type 0
Each P [] = Unit {0}
Each P (c ∷ more) = P c × Each P more

-- a signal has another value than before, and the value that it has now
abbrev pub Moved : List ℕ → List ℕ → Change → Type 0
Moved before now c = (get_or before c.signal 0 ≡ c.value → ⊥) × (get_or now c.signal 0 ≡ c.value)
