-- A graphics access that merges nothing leaves its own byte and character, and the next takes their place. Assumes nothing.
use Prim.Native.Nat.{ℕ}
use mathlib.Core.Path.{◌≡◌, refl, sym, ap, ◌∙◌}
use mathlib.Core.Bool.{Bool, true, false, not, ◌||◌}
use mathlib.Core.List.{List, [], ◌∷◌, map}
use lib.IntN.{ℤ}
use Rattle.laws.proofs.Choice.{picks}
use Rattle.schedule.specs.Kind.{Kind}
use Rattle.schedule.specs.Reads.{Access, pointer, byte_two, byte_one, byte_zero, refreshing, matrix, graphics, idle, reason_of, accesses}
use Rattle.memory.specs.Memory.{read_at}
use Rattle.memory.specs.declared.Found.{Found}
use Rattle.access.specs.declared.Read.{Read}
use Rattle.access.specs.Reads.{read}
use Rattle.access.specs.Merge.{merging}
use Rattle.access.specs.Graphics.{access_address}
use Rattle.access.proofs.Laws.{none_filled, plain_char, none_merged}
use Rattle.side.specs.declared.Orders.{Orders}
use Rattle.picture.specs.declared.Pen.{Pen}
use Rattle.picture.specs.Pen.{character_of, graphics_of, pen_after, matrix_after}
use Rattle.picture.specs.Reads.{seen_by, spot_of, reads_by}

-- an access in display state past row 0, or in idle state, or with output shut off; and no character access beside it
pub record Plain (orders : Orders) : Type 0 where
  pub graphics : orders.graphics ≡ true
  pub waiting : orders.waiting ≡ false
  pub fills : orders.fills ≡ false
  pub merges : (orders.hidden || not orders.moves || orders.plain) ≡ true

module _ (m : List ℕ) (orders : Orders) (clock : ℤ) (p : Pen) (e : Plain orders) where
  -- the character that it shows
  abbrev shown_by : ℕ
  shown_by = plain_char m orders.moves orders.hidden orders.vmli p.ch

  plain_character : character_of m orders clock p ≡ merging shown_by p.carry m
  unfolding character_of
  plain_character = rw e.graphics (none_merged m orders.moves orders.hidden orders.plain orders.cycle _ orders.vmli p.ch p.carry e.merges)

  pub plain_matrix : (ptrs : ℕ) (ram rom colour : List ℕ) (bank : ℕ) → matrix_after m orders clock p ptrs ram rom colour bank ≡ m
  unfolding matrix_after
  plain_matrix ptrs ram rom colour bank =
      rw (plain_character, e.fills) (none_filled m orders.place orders.column ptrs ram rom colour bank)

  module _ (mode ptrs : ℕ) (ram rom : List ℕ) (bank : ℕ) where
    plain_graphics : (ch : ℕ) → graphics_of ch orders clock p mode ptrs ram rom bank ≡ read_at ram rom bank (access_address orders.moves false mode p.old ptrs ch orders.vc orders.rc bank)
    unfolding graphics_of
    plain_graphics ch = rw (e.graphics, e.waiting)

    abbrev plain_pen : Pen
    plain_pen = record {
      ch = shown_by;
      carry = p.carry;
      gfx = (read_at ram rom bank (access_address orders.moves false mode p.old ptrs shown_by orders.vc orders.rc bank)).byte;
      mode = mode;
      old = p.old;
      changing = false;
      forced = p.forced;
    }

    plain_pen_lem : p.changing ≡ false → pen_after m orders clock p mode ptrs ram rom bank ≡ plain_pen
    unfolding pen_after
    plain_pen_lem c = rw (plain_character, plain_graphics, c, picks false mode p.old)

-- what is shown twice, with output shut off both times or neither
again : (m : List ℕ) (moves moves' hidden : Bool) (vmli vmli' ch : ℕ) → plain_char m moves hidden vmli (plain_char m moves' hidden vmli' ch) ≡ plain_char m moves hidden vmli ch
again m moves moves' true vmli vmli' ch = refl
again m moves moves' false vmli vmli' ch = refl

pub pen_again : (m : List ℕ) (orders orders' : Orders) (clock clock' : ℤ) (p : Pen) (mode ptrs : ℕ) (ram rom : List ℕ) (bank : ℕ)
    → Plain orders → Plain orders' → orders.hidden ≡ orders'.hidden → p.changing ≡ false
    → pen_after m orders clock (pen_after m orders' clock' p mode ptrs ram rom bank) mode ptrs ram rom bank ≡ pen_after m orders clock p mode ptrs ram rom bank
pen_again m orders orders' clock clock' p mode ptrs ram rom bank e e' h c =
    let p' = plain_pen m orders' clock' p e' mode ptrs ram rom bank in
    let same : plain_pen m orders clock p' e mode ptrs ram rom bank ≡ plain_pen m orders clock p e mode ptrs ram rom bank = rw (← h, again m orders.moves orders'.moves orders.hidden orders.vmli orders'.vmli p.ch) refl in
    rw (plain_pen_lem m orders' clock' p e' mode ptrs ram rom bank c)
    (plain_pen_lem m orders clock p' e mode ptrs ram rom bank refl ∙ same ∙ sym (plain_pen_lem m orders clock p e mode ptrs ram rom bank c))

-- and the next reads where it would have
reads_plain : (k : Kind) (m ps : List ℕ) (orders : Orders) (clock : ℤ) (p : Pen) (mode ptrs : ℕ) (ram rom : List ℕ) (bank : ℕ) (e : Plain orders)
    → graphics_of (character_of m orders clock p).ch orders clock p mode ptrs ram rom bank
    ≡ read_at ram rom bank (access_address orders.moves false mode p.old ptrs (shown_by m orders clock p e) orders.vc orders.rc bank)
reads_plain k m ps orders clock p mode ptrs ram rom bank e =
    rw (plain_character m orders clock p e) (plain_graphics m orders clock p e mode ptrs ram rom bank (shown_by m orders clock p e))

same_spots : (k : Kind) (m ps : List ℕ) (orders : Orders) (clock : ℤ) (p p' : Pen) (mode ptrs : ℕ) (ram rom : List ℕ) (bank : ℕ)
    → graphics_of (character_of m orders clock p').ch orders clock p' mode ptrs ram rom bank ≡ graphics_of (character_of m orders clock p).ch orders clock p mode ptrs ram rom bank
    → (l : List Access)
    → map (λ (a : Access). read (reason_of (seen_by orders) a) (spot_of m ps orders clock p' mode ptrs ram rom bank a)) l
    ≡ map (λ (a : Access). read (reason_of (seen_by orders) a) (spot_of m ps orders clock p mode ptrs ram rom bank a)) l
same_spots k m ps orders clock p p' mode ptrs ram rom bank e [] = refl
same_spots k m ps orders clock p p' mode ptrs ram rom bank e (a ∷ l) = cons_same (spot a) (same_spots k m ps orders clock p p' mode ptrs ram rom bank e l)
  where
    spot : (a : Access) → spot_of m ps orders clock p' mode ptrs ram rom bank a ≡ spot_of m ps orders clock p mode ptrs ram rom bank a
    spot pointer = refl
    spot byte_two = refl
    spot byte_one = refl
    spot byte_zero = refl
    spot refreshing = refl
    spot matrix = refl
    spot graphics = ap (λ (f : Found). f.address) e
    spot idle = refl

    cons_same : {x y : ℕ} {xs ys : List Read} → x ≡ y → xs ≡ ys → read (reason_of (seen_by orders) a) x ∷ xs ≡ read (reason_of (seen_by orders) a) y ∷ ys
    cons_same u v = rw (u, v)

pub reads_again : (k : Kind) (m ps : List ℕ) (orders orders' : Orders) (clock clock' : ℤ) (p : Pen) (mode ptrs : ℕ) (ram rom : List ℕ) (bank : ℕ)
    → Plain orders → Plain orders' → orders.hidden ≡ orders'.hidden → p.changing ≡ false
    → reads_by k m ps orders clock (pen_after m orders' clock' p mode ptrs ram rom bank) mode ptrs ram rom bank ≡ reads_by k m ps orders clock p mode ptrs ram rom bank
unfolding reads_by
reads_again k m ps orders orders' clock clock' p mode ptrs ram rom bank e e' h c =
    let p' = plain_pen m orders' clock' p e' mode ptrs ram rom bank in
    let shown : shown_by m orders clock p' e ≡ shown_by m orders clock p e = rw (← h, again m orders.moves orders'.moves orders.hidden orders.vmli orders'.vmli p.ch) refl in
    rw (plain_pen_lem m orders' clock' p e' mode ptrs ram rom bank c)
    (same_spots k m ps orders clock p p' mode ptrs ram rom bank
    (reads_plain k m ps orders clock p' mode ptrs ram rom bank e ∙ rw shown refl ∙ sym (reads_plain k m ps orders clock p mode ptrs ram rom bank e))
    (accesses k orders.cycle (seen_by orders)))
