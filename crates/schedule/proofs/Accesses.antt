-- The table of reads, taken apart: what a cycle reads with a graphics access, in a slot, in a refresh cycle and in the gaps, and that every cycle of the line reads once or twice, a phase each. Assumes nothing.
use mathlib.Core.Path.{◌≡◌, refl, ap, subst, sym}
use mathlib.Core.Bool.{Bool, true, false, not, ◌&&◌, ◌||◌}
use mathlib.Core.List.{List, [], ◌∷◌, ◌++◌, append-nil, map}
use mathlib.Core.Logic.{◌⊎◌, inl, inr}
use Prim.Native.Nat.{ℕ, ◌<◌, ◌≤◌}
use native.Mathlib.Omega.{arith}
use native.Mathlib.Decide.{dec_lt}
use borrow.Author.Tests.{le-leb, lt-leb, leb-true}
use lib.Dec.{T, leb, leb→le}
use lib.ListN.{length}
use Rattle.laws.proofs.Below as Below
use Rattle.laws.proofs.Choice.{left, right, and_true, and_false}
use Rattle.schedule.specs.Kind.{Kind, the6569, the6567_r8, last_cycle}
use Rattle.schedule.specs.Diagram.{happens, refresh, character_access, graphics_access, on_line, pointer_time, data_time, slot_sprite}
use Rattle.schedule.specs.Reads.{Access, pointer, byte_two, byte_one, byte_zero, refreshing, matrix, graphics, idle, Seen, phase, when, sees_two, sees_zero, accesses}
use Rattle.schedule.proofs.Places.{last_most}
use Rattle.schedule.proofs.Parts.{lit, slotless}

-- ---- which events share no cycle

-- where f holds g does not: one test a kind
module _ (f g : Kind → ℕ → Bool) where
  never : T (Below.all (λ c. Below.iff (f the6569 c && g the6569 c) false) 0 66) → T (Below.all (λ c. Below.iff (f the6567_r8 c && g the6567_r8 c) false) 0 66)
      → (k : Kind) (c : ℕ) → c < 66 → f k c ≡ true → g k c ≡ false
  never t u the6569 c b e = rw e at (Below.same_test (λ c. f the6569 c && g the6569 c) (λ c. false) 66 t c b)
  never t u the6567_r8 c b e = rw e at (Below.same_test (λ c. f the6567_r8 c && g the6567_r8 c) (λ c. false) 66 u c b)

shown : (b : Bool) → b ≡ true → T b
shown b e = subst T (sym e) tt

line_small : (k : Kind) (c : ℕ) → on_line k c ≡ true → c < 66
line_small k c e =
    let high : c ≤ last_cycle k = leb→le c (last_cycle k) (shown (leb c (last_cycle k)) (left (leb c (last_cycle k)) (leb 1 c) e)) in
    omega (arith, high, last_most k)

pointer_small : (k : Kind) (c : ℕ) → pointer_time k c ≡ true → c < 66
unfolding pointer_time
pointer_small k c e = line_small k c (left (on_line k c) _ e)

data_small : (k : Kind) (c : ℕ) → data_time k c ≡ true → c < 66
unfolding data_time
data_small k c e = line_small k c (left (on_line k c) _ e)

refresh_small : (c : ℕ) → happens refresh c ≡ true → c < 66
unfolding happens
refresh_small c e = let small : c ≤ 15 = leb→le c 15 (shown (leb c 15) (right (leb 11 c) (leb c 15) e)) in omega (arith, small)

-- a slot has neither a graphics access nor a character access, and is the one or the other
pub pointer_no_graphics : (k : Kind) (c : ℕ) → pointer_time k c ≡ true → happens graphics_access c ≡ false
unfolding pointer_time happens
pointer_no_graphics k c e = never pointer_time (λ k c. happens graphics_access c) tt tt k c (pointer_small k c e) e

pub pointer_no_character : (k : Kind) (c : ℕ) → pointer_time k c ≡ true → happens character_access c ≡ false
unfolding pointer_time happens
pointer_no_character k c e = never pointer_time (λ k c. happens character_access c) tt tt k c (pointer_small k c e) e

pub data_no_graphics : (k : Kind) (c : ℕ) → data_time k c ≡ true → happens graphics_access c ≡ false
unfolding data_time happens
data_no_graphics k c e = never data_time (λ k c. happens graphics_access c) tt tt k c (data_small k c e) e

pub data_no_character : (k : Kind) (c : ℕ) → data_time k c ≡ true → happens character_access c ≡ false
unfolding data_time happens
data_no_character k c e = never data_time (λ k c. happens character_access c) tt tt k c (data_small k c e) e

pub data_no_pointer : (k : Kind) (c : ℕ) → data_time k c ≡ true → pointer_time k c ≡ false
unfolding data_time pointer_time happens
data_no_pointer k c e = never data_time pointer_time tt tt k c (data_small k c e) e

-- no slot in a refresh cycle, and no graphics access; no refresh in a slot
pub refresh_no_pointer : (k : Kind) (c : ℕ) → happens refresh c ≡ true → pointer_time k c ≡ false
unfolding pointer_time happens
refresh_no_pointer k c e = never (λ k c. happens refresh c) pointer_time tt tt k c (refresh_small c e) e

pub refresh_no_data : (k : Kind) (c : ℕ) → happens refresh c ≡ true → data_time k c ≡ false
unfolding data_time happens
refresh_no_data k c e = never (λ k c. happens refresh c) data_time tt tt k c (refresh_small c e) e

pub refresh_no_graphics : (c : ℕ) → happens refresh c ≡ true → happens graphics_access c ≡ false
unfolding happens
refresh_no_graphics c e = never (λ k c. happens refresh c) (λ k c. happens graphics_access c) tt tt the6569 c (refresh_small c e) e

pointer_no_refresh : (k : Kind) (c : ℕ) → pointer_time k c ≡ true → happens refresh c ≡ false
unfolding pointer_time happens
pointer_no_refresh k c e = never pointer_time (λ k c. happens refresh c) tt tt k c (pointer_small k c e) e

data_no_refresh : (k : Kind) (c : ℕ) → data_time k c ≡ true → happens refresh c ≡ false
unfolding data_time happens
data_no_refresh k c e = never data_time (λ k c. happens refresh c) tt tt k c (data_small k c e) e

-- a character access has a graphics access or a refresh beside it
alone : (c : ℕ) → Dec (c < 66) → happens graphics_access c ≡ false → happens refresh c ≡ false → happens character_access c ≡ false
unfolding happens
alone c (yes h) g r =
    rw (g, r) at (Below.same_test (λ c. not (happens graphics_access c) && (not (happens refresh c) && happens character_access c)) (λ c. false) 66 tt c h)
alone c (no h) g r = simp (lt-leb c 54 (omega arith), and_false)

pub character_in_refresh : (c : ℕ) → happens graphics_access c ≡ false → happens refresh c ≡ false → happens character_access c ≡ false
character_in_refresh c g r = alone c (dec_lt c 66) g r

-- ---- what each cycle reads

-- no idle access beside another
no_idle : (xs : List Access) (l : Bool) → xs ++ when (l && false) idle ≡ xs
no_idle xs true = append-nil xs
no_idle xs false = append-nil xs

pub lit_accesses : (k : Kind) (c : ℕ) (s : Seen) → happens graphics_access c ≡ true → accesses k c s ≡ graphics ∷ when (happens character_access c && s.fills) matrix
unfolding accesses
lit_accesses k c s e =
    let slots = slotless k c e in
    rw (slots.pointing, slots.fetching, e, (lit c e).refresh)
    (ap (λ (xs : List Access). graphics ∷ xs) (no_idle (when (happens character_access c && s.fills) matrix) (on_line k c)))

pub pointer_accesses : (k : Kind) (c : ℕ) (s : Seen) → pointer_time k c ≡ true → accesses k c s ≡ pointer ∷ when (sees_two k c s) byte_two
unfolding accesses
pointer_accesses k c s e = rw (e, pointer_no_refresh k c e, pointer_no_graphics k c e, pointer_no_character k c e) (no_idle (pointer ∷ when (sees_two k c s) byte_two) (on_line k c))

pub data_accesses : (k : Kind) (c : ℕ) (s : Seen) → data_time k c ≡ true → accesses k c s ≡ byte_one ∷ when (sees_zero s) byte_zero
unfolding accesses
data_accesses k c s e =
    rw (data_no_pointer k c e, e, data_no_refresh k c e, data_no_graphics k c e, data_no_character k c e) (no_idle (byte_one ∷ when (sees_zero s) byte_zero) (on_line k c))

pub refresh_accesses : (k : Kind) (c : ℕ) (s : Seen) → happens refresh c ≡ true → accesses k c s ≡ refreshing ∷ when (happens character_access c && s.fills) matrix
unfolding accesses
refresh_accesses k c s e =
    rw (refresh_no_pointer k c e, refresh_no_data k c e, refresh_no_graphics c e, e)
    (ap (λ (xs : List Access). refreshing ∷ xs) (no_idle (when (happens character_access c && s.fills) matrix) (on_line k c)))

-- a cycle that has none of these
pub record Gap (k : Kind) (c : ℕ) : Type 0 where
  pub graphics : happens graphics_access c ≡ false
  pub pointing : pointer_time k c ≡ false
  pub fetching : data_time k c ≡ false
  pub refresh : happens refresh c ≡ false

gap_accesses : (k : Kind) (c : ℕ) (s : Seen) → Gap k c → accesses k c s ≡ when (on_line k c) idle
unfolding accesses
gap_accesses k c s g =
    rw (g.pointing, g.fetching, g.graphics, character_in_refresh c g.graphics g.refresh, g.refresh) (ap (λ (b : Bool). when b idle) (and_true (on_line k c)))

pub idle_accesses : (k : Kind) (c : ℕ) (s : Seen) → on_line k c ≡ true → Gap k c → accesses k c s ≡ idle ∷ []
idle_accesses k c s l g = rw (gap_accesses k c s g, l)

-- ---- 02 (viii): at most two; 02 (xiv): in each cycle of the line one in its first phase, and after it one in its second or none

one : (b : Bool) (a : Access) → length (when b a) ≤ 1
one true a = omega arith
one false a = omega arith

two : (x : Access) (b : Bool) (a : Access) → length (x ∷ when b a) ≤ 2
two x true a = omega arith
two x false a = omega arith

abbrev pub InPhases : List Access → Type 0
InPhases xs = (map phase xs ≡ 1 ∷ []) ⊎ (map phase xs ≡ 1 ∷ 2 ∷ [])

first_then : (x a : Access) → phase x ≡ 1 → phase a ≡ 2 → (b : Bool) → InPhases (x ∷ when b a)
first_then x a e f true = inr (rw (e, f))
first_then x a e f false = inl (rw e)

module _ (k : Kind) (c : ℕ) (s : Seen) where
  by_tests : (g p d r : Bool) → happens graphics_access c ≡ g → pointer_time k c ≡ p → data_time k c ≡ d → happens refresh c ≡ r → length (accesses k c s) ≤ 2
  by_tests true p d r eg ep ed er = rw (lit_accesses k c s eg) (two graphics (happens character_access c && s.fills) matrix)
  by_tests false true d r eg ep ed er = rw (pointer_accesses k c s ep) (two pointer (sees_two k c s) byte_two)
  by_tests false false true r eg ep ed er = rw (data_accesses k c s ed) (two byte_one (sees_zero s) byte_zero)
  by_tests false false false true eg ep ed er = rw (refresh_accesses k c s er) (two refreshing (happens character_access c && s.fills) matrix)
  by_tests false false false false eg ep ed er =
      rw (gap_accesses k c s (record { graphics = eg; pointing = ep; fetching = ed; refresh = er })) (omega (arith, one (on_line k c) idle))

  pub at_most_two : length (accesses k c s) ≤ 2
  at_most_two = by_tests (happens graphics_access c) (pointer_time k c) (data_time k c) (happens refresh c) refl refl refl refl

  phases_by_tests : on_line k c ≡ true → (g p d r : Bool) → happens graphics_access c ≡ g → pointer_time k c ≡ p → data_time k c ≡ d → happens refresh c ≡ r → InPhases (accesses k c s)
  unfolding phase
  phases_by_tests l true p d r eg ep ed er = rw (lit_accesses k c s eg) (first_then graphics matrix refl refl (happens character_access c && s.fills))
  phases_by_tests l false true d r eg ep ed er = rw (pointer_accesses k c s ep) (first_then pointer byte_two refl refl (sees_two k c s))
  phases_by_tests l false false true r eg ep ed er = rw (data_accesses k c s ed) (first_then byte_one byte_zero refl refl (sees_zero s))
  phases_by_tests l false false false true eg ep ed er = rw (refresh_accesses k c s er) (first_then refreshing matrix refl refl (happens character_access c && s.fills))
  phases_by_tests l false false false false eg ep ed er =
      rw (idle_accesses k c s l (record { graphics = eg; pointing = ep; fetching = ed; refresh = er })) (inl refl)

  pub in_phases : on_line k c ≡ true → InPhases (accesses k c s)
  in_phases l = phases_by_tests l (happens graphics_access c) (pointer_time k c) (data_time k c) (happens refresh c) refl refl refl refl

-- 02 (xiv): cycles 11 to 14 have the refresh alone; 15 has the matrix after it
refresh_alone : (k : Kind) (c : ℕ) (s : Seen) → (leb 11 c && leb c 14) ≡ true → accesses k c s ≡ refreshing ∷ []
unfolding happens
refresh_alone k c s e =
    let high : c ≤ 14 = leb-true c 14 (right (leb 11 c) (leb c 14) e) in
    rw (refresh_accesses k c s (rw (left (leb 11 c) (leb c 14) e, le-leb c 15 (omega arith))), lt-leb 15 c (omega arith))

refresh_then_matrix : (k : Kind) (s : Seen) → accesses k 15 s ≡ refreshing ∷ when s.fills matrix
unfolding happens
refresh_then_matrix k s = refresh_accesses k 15 s refl

-- ---- the article's diagrams, at the cycles where the two kinds part: the last slot, and the gap between the graphics and sprite 0's pointer

module _ (s : Seen) where
  last_slot_6569 : accesses the6569 10 s ≡ byte_one ∷ when (sees_zero s) byte_zero
  unfolding data_time
  last_slot_6569 = data_accesses the6569 10 s refl

  past_slots_6567_r8 : accesses the6567_r8 10 s ≡ idle ∷ []
  unfolding data_time pointer_time happens
  past_slots_6567_r8 = idle_accesses the6567_r8 10 s refl (record { graphics = refl; pointing = refl; fetching = refl; refresh = refl })

  first_slot_6569 : accesses the6569 58 s ≡ pointer ∷ when ((s.on && false) || s.low) byte_two
  unfolding pointer_time slot_sprite
  first_slot_6569 = pointer_accesses the6569 58 s refl

  gap_6567_r8 : accesses the6567_r8 58 s ≡ idle ∷ []
  unfolding data_time pointer_time happens
  gap_6567_r8 = idle_accesses the6567_r8 58 s refl (record { graphics = refl; pointing = refl; fetching = refl; refresh = refl })
