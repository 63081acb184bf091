-- What the steps leave as it is: a place is one of the forty, and no list changes its length. Assumes nothing.
use Prim.Native.Nat.{ℕ, ◌<◌}
use mathlib.Core.Path.{◌≡◌, refl}
use mathlib.Core.Bool.{Bool, true, false, not, ◌||◌, cond, false≢true}
use mathlib.Core.List.{List}
use native.Mathlib.Omega.{arith}
use lib.Dec.{eqb, ltb, leb}
use lib.ListN.{length, length-set, get_or}
use Rattle.laws.proofs.Choice.{either}
use Rattle.rows.specs.Pending.{place_of}
use Rattle.rows.proofs.Laws.{place_small}
use Rattle.access.specs.Matrix.{filled}
use Rattle.access.specs.Merge.{Merging, merging, previous_of, merged_at, merged, latched}
use Rattle.access.specs.Slots.{pointers_after, byte_two_after, data_after, words_after}

-- so is the place that leaks into a merge
pub previous_small : (f v : ℕ) → previous_of f v < 40
unfolding previous_of
previous_small f v =
    either (λ (p : ℕ). p < 40) (eqb f v) (omega arith)
    (either (λ (p : ℕ). p < 40) (ltb v f) (place_small _)
    (either (λ (p : ℕ). p < 40) (eqb f 0) (place_small _) (place_small _)))

-- no place filled
pub none_filled : (m : List ℕ) (vmli vc ptrs : ℕ) (ram rom colour : List ℕ) (bank : ℕ) → filled m false vmli vc ptrs ram rom colour bank ≡ m
unfolding filled
none_filled m vmli vc ptrs ram rom colour bank = refl

-- the character of an access that merges nothing
abbrev pub plain_char : List ℕ → Bool → Bool → ℕ → ℕ → ℕ
plain_char m moves hidden vmli ch = cond hidden ch (cond moves (get_or m (place_of vmli) 0) 0)

pub none_merged : (m : List ℕ) (moves hidden plain : Bool) (cycle f vmli ch carry : ℕ) → (hidden || not moves || plain) ≡ true
    → latched m moves hidden plain cycle f vmli ch carry ≡ merging (plain_char m moves hidden vmli ch) carry m
unfolding latched
none_merged m moves true plain cycle f vmli ch carry e = refl
none_merged m false false plain cycle f vmli ch carry e = refl
none_merged m true false true cycle f vmli ch carry e = refl
none_merged m true false false cycle f vmli ch carry e = absurd (false≢true e)

-- a list as long as m, and a merge that leaves such a one
abbrev Long : List ℕ → List ℕ → Type 0
Long m x = length x ≡ length m

abbrev LongM : List ℕ → Merging → Type 0
LongM m x = Long m x.matrix

pub filled_length : (m : List ℕ) (go : Bool) (vmli vc ptrs : ℕ) (ram rom colour : List ℕ) (bank : ℕ)
    → length (filled m go vmli vc ptrs ram rom colour bank) ≡ length m
unfolding filled
filled_length m go vmli vc ptrs ram rom colour bank = either (Long m) go (simp length-set) refl

merged_at_length : (m : List ℕ) (cycle f vmli old : ℕ) → length (merged_at m cycle f vmli old).matrix ≡ length m
unfolding merged_at
merged_at_length m cycle f vmli old = simp length-set

merged_length : (m : List ℕ) (cycle f vmli old : ℕ) → length (merged m cycle f vmli old).matrix ≡ length m
unfolding merged
merged_length m cycle f vmli old = either (LongM m) (leb 40 f) refl (merged_at_length m cycle f vmli old)

pub latched_length : (m : List ℕ) (moves hidden plain : Bool) (cycle f vmli ch carry : ℕ)
    → length (latched m moves hidden plain cycle f vmli ch carry).matrix ≡ length m
unfolding latched
latched_length m moves hidden plain cycle f vmli ch carry =
    either (LongM m) hidden refl
    (either (LongM m) (not moves) refl
    (either (LongM m) plain refl (merged_length m cycle f vmli carry)))

pub pointers_length : (pointers : List ℕ) (k ptrs : ℕ) (ram rom : List ℕ) (bank : ℕ)
    → length (pointers_after pointers k ptrs ram rom bank) ≡ length pointers
unfolding pointers_after
pointers_length pointers k ptrs ram rom bank = simp length-set

pub byte_two_length : (bytes : List ℕ) (k : ℕ) (first on : Bool) (mc : ℕ) (low : Bool) (ptrs : ℕ) (ram rom : List ℕ) (bank : ℕ)
    → length (byte_two_after bytes k first on mc low ptrs ram rom bank) ≡ length bytes
unfolding byte_two_after
byte_two_length bytes k first on mc low ptrs ram rom bank = simp length-set

pub data_length : (pointers bytes : List ℕ) (k : ℕ) (on : Bool) (mc : ℕ) (low : Bool) (ram rom : List ℕ) (bank : ℕ)
    → length (data_after pointers bytes k on mc low ram rom bank) ≡ length bytes
unfolding data_after
data_length pointers bytes k on mc low ram rom bank = simp length-set

pub words_length : (pointers bytes words : List ℕ) (k : ℕ) (on : Bool) (mc : ℕ) (low : Bool) (ram rom : List ℕ) (bank : ℕ)
    → length (words_after pointers bytes words k on mc low ram rom bank) ≡ length words
unfolding words_after
words_length pointers bytes words k on mc low ram rom bank = simp length-set
