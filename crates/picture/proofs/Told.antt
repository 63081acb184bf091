-- A tick's reads, by the table, are what the code puts together of reasons and addresses. Assumes nothing.
use Prim.Native.Nat.{ℕ, ◌<◌}
use mathlib.Core.Path.{◌≡◌, refl, sym, ap, ◌∙◌}
use mathlib.Core.Bool.{Bool, true, false, not, ◌&&◌, ◌||◌, cond}
use mathlib.Core.List.{List, [], ◌∷◌, map}
use native.Mathlib.Omega.{arith}
use lib.Dec.{eqb}
use borrow.Author.Tests.{ne_eqb}
use lib.IntN.{ℤ}
use Rattle.laws.proofs.Choice.{either}
use Rattle.schedule.specs.Kind.{Kind}
use Rattle.memory.specs.Memory.{read_at}
use Rattle.schedule.specs.Diagram.{happens, refresh, character_access, graphics_access, on_line, pointer_time, data_time, slot_sprite}
use Rattle.schedule.specs.Reads.{Access, pointer, byte_two, byte_one, byte_zero, refreshing, matrix, graphics, idle, when, sees_two, sees_zero, reason_of, accesses}
use Rattle.schedule.specs.declared.Reasons.{Reasons}
use Rattle.schedule.specs.Machinery.Reads.{seen, sprite_reason, graphics_reason, gap_reason, reasons, lit_reasons, pointer_reasons, data_reasons, gap_reasons}
use Rattle.schedule.proofs.Accesses.{Gap, lit_accesses, pointer_accesses, data_accesses, refresh_accesses, idle_accesses, pointer_no_character, data_no_character, data_no_pointer, character_in_refresh}
use Rattle.raster.specs.Refresh.{refresh_address}
use Rattle.access.specs.declared.Read.{Read}
use Rattle.access.specs.declared.Reads.{Reads}
use Rattle.access.specs.declared.Spots.{Spots}
use Rattle.memory.specs.declared.Found.{Found}
use Rattle.access.specs.Reads.{read, silent, both, told}
use Rattle.access.specs.Machinery.Noted.{read_for, reads_of, noted_of, reads_in}
use Rattle.access.proofs.Back.{Fit, read_back}
use Rattle.access.specs.Matrix.{fill_spot}
use Rattle.access.specs.Slots.{pointer_spots, data_spots}
use Rattle.side.specs.declared.Orders.{Orders}
use Rattle.picture.specs.declared.Pen.{Pen}
use Rattle.picture.specs.Pen.{graphics_of}
use Rattle.picture.specs.Reads.{seen_by, spot_of, reads_by}
use Rattle.picture.specs.Machinery.Spots.{draw_spots, spots, gap_spot, slot_noted, lit_noted, dark_noted}

-- what the orders have from the diagram
pub record Follows (k : Kind) (o : Orders) : Type 0 where
  pub line : on_line k o.cycle ≡ true
  pub graphics : o.graphics ≡ happens graphics_access o.cycle
  pub pointing : o.pointing ≡ pointer_time k o.cycle
  pub fetching : o.fetching ≡ data_time k o.cycle
  pub sprite : o.sprite ≡ slot_sprite k o.cycle
  pub fills : (happens character_access o.cycle && o.fills) ≡ o.fills

-- a list of one or two accesses, told
module _ (f : Access → Read) (x : Access) where
  pub one_or_two : (b : Bool) (y : Access) → told (map f (x ∷ when b y)) ≡ both (f x) (cond b (f y) silent)
  unfolding told
  one_or_two true y = refl
  one_or_two false y = refl

-- an address beside its reason
sprite_read_lem : (b on : Bool) (a : ℕ) → cond b (read (sprite_reason on) a) silent ≡ read_for (seen b (sprite_reason on)) a
unfolding read_for
sprite_read_lem true true a = refl
sprite_read_lem true false a = refl
sprite_read_lem false on a = refl

graphics_read : (moves : Bool) (a : ℕ) → read (graphics_reason moves) a ≡ read_for (graphics_reason moves) a
unfolding read_for
graphics_read true a = refl
graphics_read false a = refl

matrix_read : (b : Bool) (a : ℕ) → cond b (read 3 a) silent ≡ read_for (seen b 3) (cond b a 0)
unfolding read_for
matrix_read true a = refl
matrix_read false a = refl

given_read : (n a : ℕ) (y : Read) → (n ≡ 0 → ⊥) → both (read n a) y ≡ both (read_for n a) y
unfolding read_for
given_read n a y z = rw (ne_eqb n 0 z)

-- ---- what is noted is read back: reasons fit eight bits, addresses sixteen

address_small : (ram rom : List ℕ) (bank a : ℕ) → (read_at ram rom bank a).address < 0x10000
unfolding read_at
address_small ram rom bank a = omega arith

graphics_small : (ch : ℕ) (o : Orders) (clock : ℤ) (p : Pen) (mode ptrs : ℕ) (ram rom : List ℕ) (bank : ℕ) → (graphics_of ch o clock p mode ptrs ram rom bank).address < 0x10000
unfolding graphics_of
graphics_small ch o clock p mode ptrs ram rom bank = either (λ (f : Found). f.address < 0x10000) o.graphics (address_small ram rom bank _) (omega arith)

fill_small : (go : Bool) (vc ptrs : ℕ) (ram rom : List ℕ) (bank : ℕ) → fill_spot go vc ptrs ram rom bank < 0x10000
unfolding fill_spot
fill_small go vc ptrs ram rom bank = either (λ (n : ℕ). n < 0x10000) go (address_small ram rom bank _) (omega arith)

seen_small : (b : Bool) (n : ℕ) → n < 0x100 → seen b n < 0x100
seen_small b n h = either (λ (n : ℕ). n < 0x100) b h (omega arith)

sprite_small : (on : Bool) → sprite_reason on < 0x100
sprite_small on = either (λ (n : ℕ). n < 0x100) on (omega arith) (omega arith)

graphics_reason_small : (moves : Bool) → graphics_reason moves < 0x100
graphics_reason_small moves = either (λ (n : ℕ). n < 0x100) moves (omega arith) (omega arith)

gap_reason_small : (r : Bool) → gap_reason r < 0x100
gap_reason_small r = either (λ (n : ℕ). n < 0x100) r (omega arith) (omega arith)

gap_small : (r : Bool) (ref : ℕ) → gap_spot r ref < 0x10000
gap_small r ref = either (λ (n : ℕ). n < 0x10000) r (omega arith) (omega arith)

module _ (k : Kind) (m ps : List ℕ) (o : Orders) (clock : ℤ) (p : Pen) (mode ptrs : ℕ) (ram rom : List ℕ) (bank : ℕ) (follows : Follows k o) where
  -- an access as it is told, and where it reads
  abbrev one : Access → Read
  one a = read (reason_of (seen_by o) a) (spot_of m ps o clock p mode ptrs ram rom bank a)

  abbrev spot : Access → ℕ
  spot a = spot_of m ps o clock p mode ptrs ram rom bank a

  abbrev at : Spots
  at = draw_spots m o clock p mode ptrs ram rom bank

  -- ---- with a graphics access

  lit_fit : Fit (lit_reasons o.moves o.fills) at
  unfolding lit_reasons
  lit_fit = record {
    why_first = graphics_reason_small o.moves;
    why_second = seen_small o.fills 3 (omega arith);
    at_first = graphics_small _ o clock p mode ptrs ram rom bank;
    at_second = fill_small o.fills o.column ptrs ram rom bank;
  }

  lit_told : o.graphics ≡ true → told (reads_by k m ps o clock p mode ptrs ram rom bank) ≡ reads_of (lit_reasons o.moves o.fills) at
  unfolding reads_by reads_of lit_reasons reason_of fill_spot
  lit_told e =
      let lit = sym follows.graphics ∙ e in
      rw (lit_accesses k o.cycle (seen_by o) lit, follows.fills, one_or_two one graphics o.fills matrix)
      (rw (graphics_read o.moves (spot graphics), matrix_read o.fills (spot matrix)) refl)

  pub lit_reads : o.graphics ≡ true → reads_in (lit_noted o at) ≡ told (reads_by k m ps o clock p mode ptrs ram rom bank)
  unfolding lit_noted
  lit_reads e = read_back (lit_reasons o.moves o.fills) at lit_fit ∙ sym (lit_told e)

  -- ---- without one

  abbrev noted : ℕ
  noted = dark_noted o (slot_noted ps o ptrs ram rom bank) at

  -- where no character access happens none is ordered
  unfilled : happens character_access o.cycle ≡ false → o.fills ≡ false
  unfilled e = sym follows.fills ∙ rw e refl

  -- a pointer slot
  abbrev sees_two_by : Bool
  sees_two_by = (o.mask && not (eqb o.sprite 0)) || o.low

  pointer_told : pointer_time k o.cycle ≡ true → told (reads_by k m ps o clock p mode ptrs ram rom bank) ≡ both (one pointer) (cond sees_two_by (one byte_two) silent)
  unfolding reads_by
  pointer_told e = rw (pointer_accesses k o.cycle (seen_by o) e, ← follows.sprite) (one_or_two one pointer sees_two_by byte_two)

  abbrev pointer_at : Spots
  pointer_at = pointer_spots o.sprite o.mask o.mc ptrs ram rom bank

  pointer_fit : Fit (pointer_reasons (eqb o.sprite 0) o.mask o.low) pointer_at
  unfolding pointer_reasons pointer_spots
  pointer_fit = record {
    why_first = omega arith;
    why_second = seen_small sees_two_by (sprite_reason o.mask) (sprite_small o.mask);
    at_first = address_small ram rom bank _;
    at_second = address_small ram rom bank _;
  }

  pointer_code : both (one pointer) (cond sees_two_by (one byte_two) silent) ≡ reads_of (pointer_reasons (eqb o.sprite 0) o.mask o.low) pointer_at
  unfolding reads_of pointer_reasons reason_of pointer_spots
  pointer_code = rw (sprite_read_lem sees_two_by o.mask (spot byte_two)) (given_read 1 (spot pointer) _ (λ z. omega arith))

  pointer_noted : o.pointing ≡ true → o.fills ≡ false → noted ≡ noted_of (pointer_reasons (eqb o.sprite 0) o.mask o.low) pointer_at
  unfolding dark_noted slot_noted
  pointer_noted e f = rw (f, e)

  in_pointer : o.pointing ≡ true → reads_in noted ≡ told (reads_by k m ps o clock p mode ptrs ram rom bank)
  in_pointer e =
      let time = sym follows.pointing ∙ e in
      ap reads_in (pointer_noted e (unfilled (pointer_no_character k o.cycle time)))
      ∙ read_back (pointer_reasons (eqb o.sprite 0) o.mask o.low) pointer_at pointer_fit ∙ sym pointer_code ∙ sym (pointer_told time)

  -- a data slot
  data_told : data_time k o.cycle ≡ true → told (reads_by k m ps o clock p mode ptrs ram rom bank) ≡ both (one byte_one) (cond (o.mask || o.low) (one byte_zero) silent)
  unfolding reads_by
  data_told e = rw (data_accesses k o.cycle (seen_by o) e) (one_or_two one byte_one (o.mask || o.low) byte_zero)

  abbrev data_at : Spots
  data_at = data_spots ps o.sprite o.mask o.mc ram rom bank

  data_fit : Fit (data_reasons o.mask o.low) data_at
  unfolding data_reasons data_spots
  data_fit = record {
    why_first = sprite_small o.mask;
    why_second = seen_small (o.mask || o.low) (sprite_reason o.mask) (sprite_small o.mask);
    at_first = address_small ram rom bank _;
    at_second = address_small ram rom bank _;
  }

  data_code : both (one byte_one) (cond (o.mask || o.low) (one byte_zero) silent) ≡ reads_of (data_reasons o.mask o.low) data_at
  unfolding reads_of data_reasons reason_of data_spots
  data_code =
      rw (sprite_read_lem (o.mask || o.low) o.mask (spot byte_zero))
      (ap (λ (x : Read). both x (read_for (seen (o.mask || o.low) (sprite_reason o.mask)) (spot byte_zero))) (sprite_read_lem true o.mask (spot byte_one)))

  data_noted : o.pointing ≡ false → o.fetching ≡ true → o.fills ≡ false → noted ≡ noted_of (data_reasons o.mask o.low) data_at
  unfolding dark_noted slot_noted
  data_noted n e f = rw (f, n, e)

  in_data : o.pointing ≡ false → o.fetching ≡ true → reads_in noted ≡ told (reads_by k m ps o clock p mode ptrs ram rom bank)
  in_data n e =
      let time = sym follows.fetching ∙ e in
      ap reads_in (data_noted n e (unfilled (data_no_character k o.cycle time)))
      ∙ read_back (data_reasons o.mask o.low) data_at data_fit ∙ sym data_code ∙ sym (data_told time)

  -- a refresh cycle, with a character access or without
  refresh_told : happens refresh o.cycle ≡ true → told (reads_by k m ps o clock p mode ptrs ram rom bank) ≡ both (one refreshing) (cond o.fills (one matrix) silent)
  unfolding reads_by
  refresh_told e = rw (refresh_accesses k o.cycle (seen_by o) e, follows.fills) (one_or_two one refreshing o.fills matrix)

  abbrev fill_at : Spots
  fill_at = spots (refresh_address o.refresh) at.second

  fill_fit : Fit (reasons 6 3) fill_at
  fill_fit = record { why_first = omega arith; why_second = omega arith; at_first = omega arith; at_second = fill_small o.fills o.column ptrs ram rom bank }

  abbrev gap_at : Bool → Spots
  gap_at r = spots (gap_spot r o.refresh) 0

  gap_fit : (r : Bool) → Fit (gap_reasons r) (gap_at r)
  unfolding gap_reasons
  gap_fit r = record { why_first = gap_reason_small r; why_second = omega arith; at_first = gap_small r o.refresh; at_second = omega arith }

  gap_noted : {r : Bool} → o.pointing ≡ false → o.fetching ≡ false → o.fills ≡ false → happens refresh o.cycle ≡ r → noted ≡ noted_of (gap_reasons r) (gap_at r)
  unfolding dark_noted slot_noted
  gap_noted n f none e = rw (none, n, f, e)

  fill_noted : o.fills ≡ true → noted ≡ noted_of (reasons 6 3) fill_at
  unfolding dark_noted
  fill_noted e = rw e

  fill_code : o.fills ≡ true → reads_of (reasons 6 3) fill_at ≡ both (one refreshing) (cond o.fills (one matrix) silent)
  unfolding reads_of read_for reason_of fill_spot
  fill_code e = rw e

  alone_code : o.fills ≡ false → reads_of (gap_reasons true) (gap_at true) ≡ both (one refreshing) (cond o.fills (one matrix) silent)
  unfolding reads_of read_for gap_reasons reason_of
  alone_code none = rw none

  in_refresh : (b : Bool) → o.fills ≡ b → o.pointing ≡ false → o.fetching ≡ false → happens refresh o.cycle ≡ true → reads_in noted ≡ told (reads_by k m ps o clock p mode ptrs ram rom bank)
  in_refresh true q n f e = ap reads_in (fill_noted q) ∙ read_back (reasons 6 3) fill_at fill_fit ∙ fill_code q ∙ sym (refresh_told e)
  in_refresh false q n f e = ap reads_in (gap_noted n f q e) ∙ read_back (gap_reasons true) (gap_at true) (gap_fit true) ∙ alone_code q ∙ sym (refresh_told e)

  -- a cycle of the gaps
  gap_told : Gap k o.cycle → told (reads_by k m ps o clock p mode ptrs ram rom bank) ≡ both (one idle) silent
  unfolding reads_by told
  gap_told g = rw (idle_accesses k o.cycle (seen_by o) follows.line g)

  gap_code : reads_of (gap_reasons false) (gap_at false) ≡ both (one idle) silent
  unfolding reads_of read_for gap_reasons reason_of
  gap_code = refl

  in_gap : o.graphics ≡ false → o.pointing ≡ false → o.fetching ≡ false → happens refresh o.cycle ≡ false → reads_in noted ≡ told (reads_by k m ps o clock p mode ptrs ram rom bank)
  in_gap g n f e =
      let lit = sym follows.graphics ∙ g in
      ap reads_in (gap_noted n f (unfilled (character_in_refresh o.cycle lit e)) e)
      ∙ read_back (gap_reasons false) (gap_at false) (gap_fit false) ∙ gap_code
      ∙ sym (gap_told (record { graphics = lit; pointing = sym follows.pointing ∙ n; fetching = sym follows.fetching ∙ f; refresh = e }))

  by_tests : (b f r : Bool) → o.graphics ≡ false → o.pointing ≡ b → o.fetching ≡ f → happens refresh o.cycle ≡ r → reads_in noted ≡ told (reads_by k m ps o clock p mode ptrs ram rom bank)
  by_tests true f r g ep ef er = in_pointer ep
  by_tests false true r g ep ef er = in_data ep ef
  by_tests false false true g ep ef er = in_refresh o.fills refl ep ef er
  by_tests false false false g ep ef er = in_gap g ep ef er

  pub dark_reads : o.graphics ≡ false → reads_in (dark_noted o (slot_noted ps o ptrs ram rom bank) at) ≡ told (reads_by k m ps o clock p mode ptrs ram rom bank)
  dark_reads g = by_tests o.pointing o.fetching (happens refresh o.cycle) g refl refl refl
