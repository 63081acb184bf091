-- Saving loses nothing and adds nothing, and an older scene is read as the newest that it becomes.
-- `decoded` is what `decode` answers and `encoded` what `encode` writes, by their promises. Assumes nothing.
use Prim.Native.Nat.{ℕ, ◌≤◌}
use mathlib.Core.Path.{◌≡◌, refl, sym, ap, ◌∙◌}
use mathlib.Core.Bool.{Bool, true, false, ◌&&◌, ◌||◌, cond}
use mathlib.Core.List.{List}
use native.Mathlib.Omega.{arith}
use lib.Dec.{eqb}
use lib.ListN.{length}
use borrow.Author.Tests.{eq-eqb, ne_eqb}
use Rattle.laws.proofs.Choice.{either, left, right, by_test}
use Rattle.std.specs.Prelude.{Ok}
use Rattle.std.specs.Result.{is_ok}
use Rattle.chip.specs.declared.Chip.{Chip}
use Rattle.versions.specs.Versions.{byte_at, Bytes, is_version, is_newest, grown, next, sprite_flags, is_flagged, unflagged, third, renewed}
use Rattle.scene.specs.Decode.{chip_at, head_fine, early_flags, late_flags, ranges_fine, fields_fine, older_fine, no_scene, decoded, decoded_fields, decoded_newest}
use Rattle.scene.specs.Encode.{encoded}
use Rattle.scene.specs.Saved.{Saved}
use Rattle.versions.proofs.Listed.{front_listed}
use Rattle.versions.proofs.Renewed.{has_size, has_number, grown_is, renewed_newest, renewed_bytes, unflagged_is, unflagged_71, next_keeps, first_is_6569, older_has_lost_none, older_counts_from_ff}
use Rattle.scene.proofs.Back as back
use Rattle.scene.proofs.Again.{chip_again, chip_saved}

-- A chip that was saved is read back as it was, every field of it, whatever its kind.
pub decode_of_encode : (c : Chip) → Saved c → decoded (encoded c) ≡ Ok c
unfolding decoded decoded_newest decoded_fields
decode_of_encode c s = rw (renewed_newest (encoded c) (back.newest c s), back.newest c s, back.fields_fine_lem c s, back.chip_back c s)

newest_exactly : (s : List ℕ) → is_ok (decoded_newest s) ≡ (is_newest s && fields_fine s)
unfolding decoded_newest decoded_fields
newest_exactly s = by_tests (is_newest s) (fields_fine s)
  where
    by_tests : (t u : Bool) → is_ok (cond t (cond u (Ok (chip_at s)) no_scene) no_scene) ≡ (t && u)
    by_tests true true = refl
    by_tests true false = refl
    by_tests false u = refl

-- no test reads the version or what lies behind the bytes of version 1
grown_fine : (v more : ℕ) (s : List ℕ) → 308 ≤ length s → older_fine (grown v more s) ≡ older_fine s
grown_fine v more s h = ap (λ (l : List ℕ). older_fine (grown v more l)) (sym (front_listed 0 s 308 h))

grown_clear : (v more : ℕ) (s : List ℕ) → 308 ≤ length s → fields_fine (grown v more s) ≡ fields_fine s
grown_clear v more s h = ap (λ (l : List ℕ). fields_fine (grown v more l)) (sym (front_listed 0 s 308 h))

unflagged_fine : (s : List ℕ) → length s ≡ 309 → (head_fine s && early_flags s && true && late_flags s && ranges_fine s) ≡ fields_fine (unflagged s)
unfolding unflagged
unflagged_fine s h = ap (λ (l : List ℕ). fields_fine (unflagged l)) (front_listed 0 s 309 (omega arith))

-- a wild flag is no scene
wild : (head early late ranges : Bool) → false ≡ (head && early && false && late && ranges)
wild true true late ranges = refl
wild true false late ranges = refl
wild false early late ranges = refl

fourth_exactly : (s : List ℕ) → is_ok (decoded_newest (next 4 310 255 s)) ≡ ((is_version 4 310 s || is_newest s) && fields_fine s)
unfolding next
fourth_exactly s =
    by_test (λ (l : List ℕ). is_ok (decoded_newest l) ≡ ((is_version 4 310 s || is_newest s) && fields_fine s)) (is_version 4 310 s)
    (λ e. let l : length s ≡ 310 = has_size 4 310 s e in
    newest_exactly (grown 5 255 s) ∙ rw (e, grown_is 5 255 s 311 (omega arith) (omega arith)) (grown_clear 5 255 s (omega arith)))
    (λ e. newest_exactly s ∙ rw e)

-- what becomes of version 3, and which bytes are it or a later one
abbrev fifth : List ℕ → List ℕ
fifth s = next 4 310 255 (next 3 309 0 s)

abbrev is_later : List ℕ → Bool
is_later s = is_version 3 309 s || is_version 4 310 s || is_newest s

third_exactly : (s : List ℕ) → is_ok (decoded_newest (fifth s)) ≡ (is_later s && fields_fine s)
unfolding next
third_exactly s =
    by_test (λ (l : List ℕ). is_ok (decoded_newest (next 4 310 255 l)) ≡ (is_later s && fields_fine s)) (is_version 3 309 s)
    (λ e. let l : length s ≡ 309 = has_size 3 309 s e in
    fourth_exactly (grown 4 0 s) ∙ rw (e, grown_is 4 0 s 310 (omega arith) (omega arith)) (grown_clear 4 0 s (omega arith)))
    (λ e. fourth_exactly s ∙ rw e)

second_exactly : (s : List ℕ) → is_version 2 309 s ≡ true → is_ok (decoded_newest (fifth (third s))) ≡ older_fine s
unfolding third is_flagged
second_exactly s v =
    let size : length s ≡ 309 = has_size 2 309 s v in
    let number : byte_at s 3 ≡ 2 = has_number 2 309 s v in
    by_test (λ (l : List ℕ). is_ok (decoded_newest (fifth l)) ≡ older_fine s) (is_version 2 309 s && sprite_flags s)
    (λ e. let flags : sprite_flags s ≡ true = right (is_version 2 309 s) (sprite_flags s) e in
    third_exactly (unflagged s) ∙ rw (unflagged_is s size, flags) (sym (unflagged_fine s size)))
    (λ e. let flags : sprite_flags s ≡ false = rw v at e in
    third_exactly s ∙ rw (ne_eqb (length s) 310 (λ (f : length s ≡ 310). omega arith), ne_eqb (length s) 311 (λ (f : length s ≡ 311). omega arith), eq-eqb (length s) 309 size, ne_eqb (byte_at s 3) 3 (λ (f : byte_at s 3 ≡ 3). omega arith), flags) (wild (head_fine s) (early_flags s) (late_flags s) (ranges_fine s)))

by_second : (s : List ℕ) (b : Bool) → is_version 2 309 s ≡ b → is_ok (decoded_newest (fifth (third s))) ≡ cond b (older_fine s) (is_later s && fields_fine s)
unfolding third is_flagged
by_second s true v = second_exactly s v
by_second s false v = rw v (third_exactly s)

-- A list is a scene where it has a version's length and number and its head, flags, modes and pending place are fine, and nowhere else.
pub scene_exactly : (s : List ℕ) → is_ok (decoded s) ≡ cond (is_version 1 308 s || is_version 2 309 s) (older_fine s) ((is_version 3 309 s || is_version 4 310 s || is_newest s) && fields_fine s)
unfolding decoded renewed next
scene_exactly s =
    by_test (λ (l : List ℕ). is_ok (decoded_newest (fifth (third l))) ≡ cond (is_version 1 308 s || is_version 2 309 s) (older_fine s) (is_later s && fields_fine s)) (is_version 1 308 s)
    (λ e. let l : length s ≡ 308 = has_size 1 308 s e in
    second_exactly (grown 2 _ s) (grown_is 2 _ s 309 (omega arith) (omega arith)) ∙ rw e (grown_fine 2 _ s (omega arith)))
    (λ e. rw e (by_second s (is_version 2 309 s) refl))

-- what a scene has passed once it is renewed, and the chip that it holds
module _ (s : List ℕ) (c : Chip) (e : decoded s ≡ Ok c) where
  passed : (is_newest (renewed s) && fields_fine (renewed s)) ≡ true
  unfolding decoded
  passed = sym (newest_exactly (renewed s)) ∙ ap is_ok e

  newest : is_newest (renewed s) ≡ true
  newest = left (is_newest (renewed s)) (fields_fine (renewed s)) passed

  fine : fields_fine (renewed s) ≡ true
  fine = right (is_newest (renewed s)) (fields_fine (renewed s)) passed

  held : c ≡ chip_at (renewed s)
  unfolding decoded decoded_newest decoded_fields
  held =
      let read : Ok (chip_at (renewed s)) ≡ Ok c = rw (newest, fine) at e in
      cc

-- A scene, read and saved again, is the scene renewed: the same bytes where it is of the newest version.
pub encode_of_decode : (s : List ℕ) (c : Chip) → Bytes s → decoded s ≡ Ok c → encoded c ≡ renewed s
encode_of_decode s c b e = ap encoded (held s c e) ∙ chip_again (renewed s) (renewed_bytes s b) (newest s c e) (fine s c e)

-- What is read from a scene can be saved.
pub decoded_is_saved : (s : List ℕ) (c : Chip) → Bytes s → decoded s ≡ Ok c → Saved c
decoded_is_saved s c b e = rw (held s c e) (chip_saved (renewed s) (renewed_bytes s b) (newest s c e) (fine s c e))

-- A scene of version 1 is read as the chip of its renewed bytes, and that is a 6569.
pub version_1_is_6569 : (s : List ℕ) (c : Chip) → is_version 1 308 s ≡ true → decoded s ≡ Ok c → (c ≡ chip_at (renewed s)) × ((chip_at (renewed s)).side.beam.kind ≡ 0)
version_1_is_6569 s c v e = (held s c e, first_is_6569 s v)

-- 02 (ix): of a scene with a flag for each sprite the mask is taken, and the flags are not looked at: any two sets of them are the same chip.
pub flags_ignored : (s t : List ℕ) → is_flagged s ≡ true → is_flagged t ≡ true → unflagged s ≡ unflagged t → decoded s ≡ decoded t
unfolding decoded renewed next third is_flagged
flags_ignored s t f g e = second s f ∙ ap (λ (l : List ℕ). decoded_newest (fifth l)) e ∙ sym (second t g)
  where
    second : (l : List ℕ) → is_flagged l ≡ true → decoded l ≡ decoded_newest (fifth (unflagged l))
    second l f =
        let size : length l ≡ 309 = has_size 2 309 l (left (is_version 2 309 l) (sprite_flags l) f) in
        rw (ne_eqb (length l) 308 (λ (x : length l ≡ 308). omega arith), f)

-- version 3's mask stays
fifth_71 : (s : List ℕ) → byte_at (fifth s) 71 ≡ byte_at s 71
fifth_71 s = next_keeps 4 310 255 (next 3 309 0 s) 71 (omega arith) (omega arith) ∙ next_keeps 3 309 0 s 71 (omega arith) (omega arith)

pub by_the_mask : (s : List ℕ) (c : Chip) → is_version 2 309 s ≡ true → decoded s ≡ Ok c → c.side.sprites.dma ≡ byte_at s 71
unfolding renewed next third
by_the_mask s c v e =
    let size : length s ≡ 309 = has_size 2 309 s v in
    let kept : byte_at (third s) 71 ≡ byte_at s 71 = either (λ (l : List ℕ). byte_at l 71 ≡ byte_at s 71) (is_flagged s) (unflagged_71 s size) refl in
    ap (λ (x : Chip). x.side.sprites.dma) (held s c e) ∙ rw (ne_eqb (length s) 308 (λ (f : length s ≡ 308). omega arith)) (fifth_71 (third s) ∙ kept)

-- 02 (xi): of an older scene no cycle is lost
pub older_lost_none : (s : List ℕ) (c : Chip) → length s ≤ 309 → decoded s ≡ Ok c → c.side.bus.lost ≡ 0
older_lost_none s c short e = ap (λ (x : Chip). x.side.bus.lost) (held s c e) ∙ older_has_lost_none s short (newest s c e)

-- 02 (xiv): of an older scene the refresh counter is a frame's first
pub older_refresh : (s : List ℕ) (c : Chip) → length s ≤ 310 → decoded s ≡ Ok c → c.side.refresh ≡ 255
older_refresh s c short e = ap (λ (x : Chip). x.side.refresh) (held s c e) ∙ older_counts_from_ff s short (newest s c e)
