-- What is saved from a scene's chip is the scene, part by part. Assumes nothing.
use Prim.Native.Nat.{ℕ, zero, suc, ◌+◌, ◌*◌, ◌/◌, ◌%◌, ◌<◌}
use mathlib.Core.Path.{◌≡◌, refl, sym, ap, ◌∙◌}
use mathlib.Core.Bool.{Bool, true, ◌&&◌, ◌||◌}
use mathlib.Core.List.{List, [], ◌∷◌, ◌++◌}
use native.Mathlib.Omega.{arith}
use native.Mathlib.Nat.{mod-eq_of_lt}
use lib.Dec.{eqb, ltb}
use lib.ListN.{length, get_or}
use borrow.Author.Tests.{ltb-true, eqb-true}
use mir.Syntax.{w8, w64}
use mir.Val.{Fits, SFits}
use mir.Facts.{of_z-to_z, sfits_to_z}
use Rattle.laws.specs.Bytes.{low_byte, high_byte, word}
use Rattle.laws.proofs.Choice.{left, right}
use Rattle.sprites.specs.Sprites.{sprite_at}
use Rattle.scene.specs.Numbers.{bits, bit_bytes, long_at, clock_at, clock_of, aec_of}
use Rattle.versions.specs.Versions.{byte_at, Bytes, is_flag, is_newest}
use Rattle.scene.specs.Decode as read
use Rattle.scene.specs.Decode.{beam_at, registers_at, irq_at, border_at, sprites_at, words_at, matrix_at, bus_at, pen_at, side_at, picture_at, chip_at, head_fine, early_flags, sprites_clear, late_flags, ranges_fine, fields_fine}
use Rattle.scene.specs.Encode.{head_bytes, register_bytes, mask_bytes, sprite_bytes, sprite_rows, entry_bytes, rest_of, clock_bytes, clocks_bytes, encoded}
use Rattle.scene.specs.Saved.{Saved}
use Rattle.scene.proofs.Numbers.{low_again, high_again, long_again0, long_again1, long_again2, long_again3, flag_again, count_again, place_again, place_on_line, long_fits, joined_fits, joined0, joined1, joined2, joined3, joined4, joined5, joined6, joined7}
use Rattle.versions.proofs.Listed.{listing, listed}

-- ---- each test of a row of tests

abbrev tests : Bool → List Bool → Bool
tests t [] = t
tests t (u ∷ us) = tests (t && u) us

first_test : (t : Bool) (us : List Bool) → tests t us ≡ true → t ≡ true
first_test t [] e = e
first_test t (u ∷ us) e = left t u (first_test (t && u) us e)

each_test : (us : List Bool) (t : Bool) → tests t us ≡ true → (i : ℕ) → get_or us i true ≡ true
each_test [] t e i = refl
each_test (u ∷ us) t e zero = right t u (first_test (t && u) us e)
each_test (u ∷ us) t e (suc i) = each_test us (t && u) e i

module _ (s : List ℕ) (bytes : Bytes s) (newest : is_newest s ≡ true) (fine : fields_fine s ≡ true) where
  abbrev at : ℕ → ℕ
  at i = byte_at s i

  -- ---- the tests

  abbrev group_row : List Bool
  group_row = head_fine s ∷ early_flags s ∷ sprites_clear s ∷ late_flags s ∷ ranges_fine s ∷ []

  group : (i : ℕ) → get_or group_row i true ≡ true
  group = each_test group_row true fine

  abbrev head_test_row : List Bool
  head_test_row = eqb (at 0) 78 ∷ eqb (at 1) 80 ∷ eqb (at 2) 83 ∷ []

  head_test : (i : ℕ) → get_or head_test_row i true ≡ true
  head_test = each_test head_test_row true (group 0)

  abbrev early_row : List Bool
  early_row = is_flag s 8 ∷ is_flag s 9 ∷ is_flag s 11 ∷ is_flag s 12 ∷ is_flag s 13 ∷ is_flag s 58 ∷ is_flag s 59 ∷ is_flag s 60 ∷ is_flag s 61 ∷ is_flag s 62 ∷ []

  early : (i : ℕ) → get_or early_row i true ≡ true
  early = each_test early_row true (group 1)

  abbrev clear_row : List Bool
  clear_row = eqb (at 79) 0 ∷ eqb (at 91) 0 ∷ eqb (at 103) 0 ∷ eqb (at 115) 0 ∷ eqb (at 127) 0 ∷ eqb (at 139) 0 ∷ eqb (at 151) 0 ∷ eqb (at 163) 0 ∷ []

  clear : (i : ℕ) → get_or clear_row i true ≡ true
  clear = each_test clear_row true (group 2)

  abbrev late_row : List Bool
  late_row = is_flag s 257 ∷ is_flag s 258 ∷ is_flag s 259 ∷ is_flag s 260 ∷ is_flag s 261 ∷ is_flag s 262 ∷ is_flag s 265 ∷ is_flag s 271 ∷ is_flag s 272 ∷ is_flag s 273 ∷ []

  late : (i : ℕ) → get_or late_row i true ≡ true
  late = each_test late_row true (group 3)

  abbrev range_row : List Bool
  range_row = ltb (at 263) 8 ∷ ltb (at 264) 8 ∷ (eqb (at 307) 255 || ltb (at 307) 40) ∷ []

  range : (i : ℕ) → get_or range_row i true ≡ true
  range = each_test range_row true (group 4)

  -- ---- numbers of two, four and eight bytes

  low_at_lem : (k j : ℕ) → low_byte (word (at k) (at j)) ≡ at k
  low_at_lem k j = low_again (at k) (at j) (bytes k)

  high_at : (k j : ℕ) → high_byte (word (at k) (at j)) ≡ at j
  high_at k j = high_again (at k) (at j) (bytes k)

  module _ (k : ℕ) where
    long_at0 : long_at s k % 256 ≡ at k
    long_at0 = long_again0 (at k) (at (k + 1)) (at (k + 2)) (at (k + 3)) (bytes k) (bytes (k + 1)) (bytes (k + 2)) (bytes (k + 3))

    long_at1 : long_at s k / 256 % 256 ≡ at (k + 1)
    long_at1 = long_again1 (at k) (at (k + 1)) (at (k + 2)) (at (k + 3)) (bytes k) (bytes (k + 1)) (bytes (k + 2)) (bytes (k + 3))

    long_at2 : long_at s k / 65536 % 256 ≡ at (k + 2)
    long_at2 = long_again2 (at k) (at (k + 1)) (at (k + 2)) (at (k + 3)) (bytes k) (bytes (k + 1)) (bytes (k + 2)) (bytes (k + 3))

    long_at3 : long_at s k / 16777216 % 256 ≡ at (k + 3)
    long_at3 = long_again3 (at k) (at (k + 1)) (at (k + 2)) (at (k + 3)) (bytes k) (bytes (k + 1)) (bytes (k + 2)) (bytes (k + 3))

    long_below : long_at s k < 4294967296
    long_below = long_fits (at k) (at (k + 1)) (at (k + 2)) (at (k + 3)) (bytes k) (bytes (k + 1)) (bytes (k + 2)) (bytes (k + 3))

  clock_below : (k : ℕ) → Fits w64 (long_at s k + long_at s (k + 4) * 4294967296)
  clock_below k = record { fits = joined_fits (long_at s k) (long_at s (k + 4)) (long_below k) (long_below (k + 4)) }

  clock_bits : (k : ℕ) → bit_bytes (long_at s k + long_at s (k + 4) * 4294967296) ≡ at k ∷ at (k + 1) ∷ at (k + 2) ∷ at (k + 3) ∷ at (k + 4) ∷ at (k + 4 + 1) ∷ at (k + 4 + 2) ∷ at (k + 4 + 3) ∷ []
  clock_bits k =
      let l = long_at s k in
      let h = long_at s (k + 4) in
      let p = long_below k in
      λ i.
      (joined0 l h p ∙ long_at0 k) i
      ∷ (joined1 l h p ∙ long_at1 k) i
      ∷ (joined2 l h p ∙ long_at2 k) i
      ∷ (joined3 l h p ∙ long_at3 k) i
      ∷ (joined4 l h p ∙ long_at0 (k + 4)) i
      ∷ (joined5 l h p ∙ long_at1 (k + 4)) i
      ∷ (joined6 l h p ∙ long_at2 (k + 4)) i
      ∷ (joined7 l h p ∙ long_at3 (k + 4)) i
      ∷ []

  clock_at_lem : (k : ℕ) → clock_bytes (clock_at s k) ≡ at k ∷ at (k + 1) ∷ at (k + 2) ∷ at (k + 3) ∷ at (k + 4) ∷ at (k + 4 + 1) ∷ at (k + 4 + 2) ∷ at (k + 4 + 3) ∷ []
  unfolding bits clock_of
  clock_at_lem k = ap bit_bytes (of_z-to_z (clock_below k)) ∙ clock_bits k

  -- ---- the parts

  head : head_bytes (beam_at s) ≡ listing at 0 14
  head =
      simp
      (low_at_lem, high_at, eqb-true (at 0) 78 (head_test 0), eqb-true (at 1) 80 (head_test 1), eqb-true (at 2) 83 (head_test 2), eqb-true (at 3) 5 (right (eqb (length s) 311) (eqb (at 3) 5) newest), flag_again (at 8) (early 0), flag_again (at 9) (early 1), flag_again (at 11) (early 2), flag_again (at 12) (early 3), flag_again (at 13) (early 4))

  registers : register_bytes (registers_at s) ≡ listing at 14 42
  registers = simp (low_at_lem, high_at)

  masks : mask_bytes (irq_at s) (border_at s) (sprites_at s) ≡ listing at 56 19
  masks =
      simp
      (low_at_lem, high_at, flag_again (at 58) (early 5), flag_again (at 59) (early 6), flag_again (at 60) (early 7), flag_again (at 61) (early 8), flag_again (at 62) (early 9))

  matrix : entry_bytes (matrix_at s) 40 ≡ listing at 171 80
  unfolding matrix_at
  matrix = simp (low_at_lem, high_at)

  rest : rest_of (side_at s) (pen_at s) ≡ listing at 251 24
  rest =
      simp
      (low_at_lem, high_at, flag_again (at 257) (late 0), flag_again (at 258) (late 1), flag_again (at 259) (late 2), flag_again (at 260) (late 3), flag_again (at 261) (late 4), flag_again (at 262) (late 5), flag_again (at 265) (late 6), flag_again (at 271) (late 7), flag_again (at 272) (late 8), flag_again (at 273) (late 9), count_again (at 274) (bytes 274))

  clocks : clocks_bytes (bus_at s) (pen_at s).forced ≡ listing at 275 32
  clocks = λ i. clock_at_lem 275 i ++ clock_at_lem 283 i ++ clock_at_lem 291 i ++ clock_at_lem 299 i

  row : (k : ℕ) → eqb (at (k + 4)) 0 ≡ true →
      sprite_bytes (read.sprite_from s k) (at (k + 1)) (long_at s (k + 5)) (at (k + 9)) (at (k + 10)) (at (k + 11))
      ≡ at k ∷ at (k + 1) ∷ at (k + 2) ∷ at (k + 3) ∷ at (k + 4) ∷ at (k + 5) ∷ at (k + 5 + 1) ∷ at (k + 5 + 2) ∷ at (k + 5 + 3) ∷ at (k + 9) ∷ at (k + 10) ∷ at (k + 11) ∷ []
  row k e =
      λ i.
      mod-eq_of_lt (bytes k) i ∷ at (k + 1) ∷ at (k + 2) ∷ at (k + 3)
      ∷ sym (eqb-true (at (k + 4)) 0 e) i
      ∷ long_at0 (k + 5) i
      ∷ long_at1 (k + 5) i
      ∷ long_at2 (k + 5) i
      ∷ long_at3 (k + 5) i
      ∷ at (k + 9) ∷ at (k + 10) ∷ at (k + 11) ∷ []

  sprites : sprite_rows (sprites_at s) (picture_at s) 8 ≡ listing at 75 96
  unfolding sprite_at
  sprites =
      λ i.
      [] ++ row 75 (clear 0) i ++ row 87 (clear 1) i ++ row 99 (clear 2) i ++ row 111 (clear 3) i ++ row 123 (clear 4) i ++ row 135 (clear 5) i ++ row 147 (clear 6) i ++ row 159 (clear 7) i

  pub chip_again : encoded (chip_at s) ≡ s
  unfolding encoded
  chip_again =
      let parts : encoded (chip_at s) ≡ listing at 0 311 = λ i. head i ++ registers i ++ masks i ++ sprites i ++ matrix i ++ rest i ++ clocks i ++ (place_again (at 307) i ∷ at 308 ∷ mod-eq_of_lt (bytes 309) i ∷ at 310 ∷ []) in
      parts ∙ listed 0 s 311 (eqb-true (length s) 311 (left (eqb (length s) 311) (eqb (at 3) 5) newest))

  -- ---- the chip of a scene can be saved

  word_fits : (k : ℕ) → get_or (words_at s) k 0 < 4294967296
  word_fits zero = long_below 80
  word_fits (suc zero) = long_below 92
  word_fits (suc (suc zero)) = long_below 104
  word_fits (suc (suc (suc zero))) = long_below 116
  word_fits (suc (suc (suc (suc zero)))) = long_below 128
  word_fits (suc (suc (suc (suc (suc zero))))) = long_below 140
  word_fits (suc (suc (suc (suc (suc (suc zero)))))) = long_below 152
  word_fits (suc (suc (suc (suc (suc (suc (suc zero))))))) = long_below 164
  word_fits (suc (suc (suc (suc (suc (suc (suc (suc k)))))))) = omega arith

  number_fits : (k : ℕ) → (sprite_at (sprites_at s) k).number < 256
  unfolding sprite_at
  number_fits zero = bytes 75
  number_fits (suc zero) = bytes 87
  number_fits (suc (suc zero)) = bytes 99
  number_fits (suc (suc (suc zero))) = bytes 111
  number_fits (suc (suc (suc (suc zero)))) = bytes 123
  number_fits (suc (suc (suc (suc (suc zero))))) = bytes 135
  number_fits (suc (suc (suc (suc (suc (suc zero)))))) = bytes 147
  number_fits (suc (suc (suc (suc (suc (suc (suc zero))))))) = bytes 159
  number_fits (suc (suc (suc (suc (suc (suc (suc (suc k)))))))) = omega arith

  clock_fits : (k : ℕ) → SFits w64 (clock_at s k)
  unfolding clock_of
  clock_fits k = sfits_to_z (clock_below k)

  count_fits : SFits w8 (aec_of (at 274))
  unfolding aec_of
  count_fits = sfits_to_z {w = w8} (record { fits = bytes 274 })

  pub chip_saved : Saved (chip_at s)
  unfolding matrix_at
  chip_saved =
      record {
        mode = ltb-true (at 263) 8 (range 0);
        old = ltb-true (at 264) 8 (range 1);
        place = place_on_line (at 307) (range 2);
        mx = refl;
        my = refl;
        cols = refl;
        bg = refl;
        each = refl;
        number = number_fits;
        matrix = refl;
        pointers = refl;
        bytes = refl;
        words = refl;
        word = word_fits;
        lost = bytes 309;
        aec = count_fits;
        fall = clock_fits 275;
        rise = clock_fits 283;
        forced = clock_fits 291;
        clock = clock_fits 299;
      }
