-- What the picture's step leaves as it is: no list changes its length, and the clock of the forced bad line stays. Assumes nothing.
use Prim.Native.Nat.{ℕ}
use mathlib.Core.Path.{◌≡◌, refl, ◌∙◌}
use mathlib.Core.Bool.{false}
use mathlib.Core.List.{List}
use native.Mathlib.Omega.{arith}
use lib.IntN.{ℤ}
use lib.ListN.{length}
use Rattle.laws.specs.Clock.{InRange}
use Rattle.laws.proofs.Choice.{either}
use Rattle.access.specs.Merge.{Merging}
use Rattle.access.proofs.Laws.{filled_length, latched_length, pointers_length, byte_two_length, data_length, words_length}
use Rattle.side.specs.declared.Orders.{Orders}
use Rattle.picture.specs.declared.Pen.{Pen}
use Rattle.picture.specs.Pen.{Latches, fresh_pen, character_of, pen_after, matrix_after, slotted}

pub character_length : (m : List ℕ) (orders : Orders) (clock : ℤ) (p : Pen) → length (character_of m orders clock p).matrix ≡ length m
unfolding character_of
character_length m orders clock p =
    either (λ (x : Merging). length x.matrix ≡ length m) orders.graphics (latched_length m _ _ _ _ _ _ _ _) refl

pub matrix_length : (m : List ℕ) (orders : Orders) (clock : ℤ) (p : Pen) (ptrs : ℕ) (ram rom colour : List ℕ) (bank : ℕ)
    → length (matrix_after m orders clock p ptrs ram rom colour bank) ≡ length m
unfolding matrix_after
matrix_length m orders clock p ptrs ram rom colour bank = filled_length _ _ _ _ _ _ _ _ _ ∙ character_length m orders clock p

pub forced_kept : (m : List ℕ) (orders : Orders) (clock : ℤ) (p : Pen) (mode ptrs : ℕ) (ram rom : List ℕ) (bank : ℕ)
    → (pen_after m orders clock p mode ptrs ram rom bank).forced ≡ p.forced
unfolding pen_after
forced_kept m orders clock p mode ptrs ram rom bank = refl

pub changing_over : (m : List ℕ) (orders : Orders) (clock : ℤ) (p : Pen) (mode ptrs : ℕ) (ram rom : List ℕ) (bank : ℕ)
    → (pen_after m orders clock p mode ptrs ram rom bank).changing ≡ false
unfolding pen_after
changing_over m orders clock p mode ptrs ram rom bank = refl

-- power-up's is in range
pub fresh_forced : InRange fresh_pen.forced
unfolding fresh_pen
fresh_forced = omega arith

module _ (p b w : List ℕ) (orders : Orders) (ptrs : ℕ) (ram rom : List ℕ) (bank : ℕ) where
  pub slotted_pointers : length (slotted p b w orders ptrs ram rom bank).pointers ≡ length p
  unfolding slotted
  slotted_pointers =
      let Long : Latches → Type 0 = λ x. length x.pointers ≡ length p in
      either Long orders.pointing (pointers_length p _ _ _ _ _) (either Long orders.fetching refl refl)

  pub slotted_bytes : length (slotted p b w orders ptrs ram rom bank).bytes ≡ length b
  unfolding slotted
  slotted_bytes =
      let Long : Latches → Type 0 = λ x. length x.bytes ≡ length b in
      either Long orders.pointing (byte_two_length b _ _ _ _ _ _ _ _ _)
      (either Long orders.fetching (data_length p b _ _ _ _ _ _ _) refl)

  pub slotted_words : length (slotted p b w orders ptrs ram rom bank).words ≡ length w
  unfolding slotted
  slotted_words =
      let Long : Latches → Type 0 = λ x. length x.words ≡ length w in
      either Long orders.pointing refl (either Long orders.fetching (words_length p b w _ _ _ _ _ _ _) refl)

-- a cycle without a slot
pub no_slot : (p b w : List ℕ) (orders : Orders) (ptrs : ℕ) (ram rom : List ℕ) (bank : ℕ)
    → orders.pointing ≡ false → orders.fetching ≡ false → ◌≡◌ {A = Latches} (record { pointers = p; bytes = b; words = w }) (slotted p b w orders ptrs ram rom bank)
unfolding slotted
no_slot p b w orders ptrs ram rom bank t u = simp (t, u)
