-- Each step keeps the sprites fine, and the test tells whether they are. Assumes nothing.
use Prim.Native.Nat.{ℕ, zero, suc, ◌%◌, ◌^◌, ◌<◌, ◌≤◌}
use mathlib.Core.Path.{◌≡◌, refl}
use mathlib.Core.Bool.{Bool, true, ◌&&◌, ◌||◌, cond}
use mathlib.Core.List.{List}
use native.Mathlib.Omega.{arith}
use native.Mathlib.Decide.{ℕ_discrete, dec_lt}
use native.Mathlib.Nat.{not-suc-le-zero}
use borrow.Author.Tests.{eqb-true, leb-true, eq-eqb, le-leb}
use lib.Dec.{eqb, leb}
use lib.ListN.{length, get_or, length-set, get_or-eq_default}
use lib.Seq.{get_or-set_same, get_or-set_other}
use Rattle.laws.specs.Bits.{has_bit}
use Rattle.laws.proofs.Choice.{either, left, right}
use Rattle.schedule.specs.Kind.{Kind}
use Rattle.sprites.specs.declared.Sprite.{Sprite}
use Rattle.sprites.specs.declared.Sprites.{Sprites}
use Rattle.sprites.specs.Sprites.{fresh, all_fresh, none, sprite_at, sprite_at≔, up_to, in_either, in_both, crunched, next_base, step_one, mcbase_stepped, starts, dma_begun, start_one, start_at, started, first_phased, second_phased, load_one, loaded, show_one, show_at, shown, mc_loaded, expand_written, fetched}
use Rattle.sprites.specs.Fine.{FineSprite, FineSprites, fine_one, fine_test}

-- the masks do not matter
as_each : {s t : Sprites} → t.each ≡ s.each → FineSprites s → FineSprites t
unfolding sprite_at
as_each e h = record { eight = rw e h.eight; fine = λ k l. rw e (h.fine k l) }

-- a change of sprite k keeps the others
changed : {s : Sprites} {v : Sprite} (k : ℕ) → (FineSprite k (sprite_at s k) → FineSprite k v) → FineSprites s → FineSprites (sprite_at≔ k v s)
unfolding sprite_at
changed {s} {v} k f h = record { eight = rw (length-set s.each k v) h.eight; fine = λ j l. by_place j l (ℕ_discrete j k) }
  where
    by_place : (j : ℕ) → j < 8 → Dec (j ≡ k) → FineSprite j (sprite_at (sprite_at≔ k v s) j)
    by_place j l (yes e) =
        let b : k < length s.each = omega (arith, h.eight) in
        rw (e, get_or-set_same s.each k v none b) (f (h.fine k (omega arith)))
    by_place j l (no n) = rw (get_or-set_other s.each k j v none n) (h.fine j l)

-- what keeps them at every step keeps them over the first n
over : {one : ℕ → Sprites → Sprites} → ((k : ℕ) (s : Sprites) → FineSprites s → FineSprites (one k s)) → (n : ℕ) {s : Sprites} → FineSprites s → FineSprites (up_to one n s)
unfolding up_to
over keeps zero h = h
over keeps (suc n) h = keeps n _ (over keeps n h)

at_most : (b : Bool) (n : ℕ) → cond b n 0 ≤ n
at_most b n = either (λ (m : ℕ). m ≤ n) b (omega arith) (omega arith)

in_either_lem : (n a b : ℕ) → in_either n a b ≤ 2 ^ n
in_either_lem n a b = at_most (has_bit a n || has_bit b n) (2 ^ n)

in_both_lem : (n a b : ℕ) → in_both n a b ≤ 2 ^ n
in_both_lem n a b = at_most (has_bit a n && has_bit b n) (2 ^ n)

pub crunched_small : (base mc : ℕ) → crunched base mc < 64
unfolding crunched
crunched_small base mc =
    omega (arith, in_either_lem 0 base mc, in_both_lem 1 base mc, in_either_lem 2 base mc, in_both_lem 3 base mc, in_either_lem 4 base mc, in_both_lem 5 base mc)

pub base_small : (flip clearing : Bool) (base mc : ℕ) → base < 64 → mc < 64 → next_base flip clearing base mc < 64
unfolding next_base
base_small flip clearing base mc b m =
    either (λ (n : ℕ). n < 64) flip (either (λ (n : ℕ). n < 64) clearing (crunched_small base mc) m) b

fine_step_one : (k : ℕ) (s : Sprites) → FineSprites s → FineSprites (step_one k s)
unfolding step_one
fine_step_one k s h =
    as_each refl
    (changed k (λ f. record { number = f.number; mc = f.mc; base = base_small (has_bit s.flip k) (has_bit s.clear k) (sprite_at s k).base (sprite_at s k).mc f.base f.mc }) h)

pub fine_mcbase : {s : Sprites} → FineSprites s → FineSprites (mcbase_stepped s)
unfolding mcbase_stepped
fine_mcbase h = as_each refl (over fine_step_one 8 (as_each refl h))

fine_begun : (k yexp : ℕ) {s : Sprites} → FineSprites s → FineSprites (dma_begun k yexp s)
unfolding dma_begun
fine_begun k yexp h = as_each refl (changed k (λ f. record { number = f.number; mc = f.mc; base = omega arith }) h)

fine_started : (line : ℕ) (my : List ℕ) (enable yexp : ℕ) {s : Sprites} → FineSprites s → FineSprites (started line my enable yexp s)
unfolding started start_one
fine_started line my enable yexp = over one 8
  where
    one : (k : ℕ) (s : Sprites) → FineSprites s → FineSprites (start_at line my enable yexp k s)
    one k s h = either FineSprites (starts line enable k (get_or my k 0) s) (fine_begun k yexp h) h

pub fine_first : (raster : ℕ) (my : List ℕ) (enable yexp : ℕ) {s : Sprites} → FineSprites s → FineSprites (first_phased raster my enable yexp s)
unfolding first_phased
fine_first raster my enable yexp h = fine_started (raster % 256) my enable yexp (as_each refl h)

pub fine_second : (raster : ℕ) (my : List ℕ) (enable yexp : ℕ) {s : Sprites} → FineSprites s → FineSprites (second_phased raster my enable yexp s)
unfolding second_phased
fine_second raster my enable yexp h = fine_started (raster % 256) my enable yexp (as_each refl h)

fine_load_one : (k : ℕ) (s : Sprites) → FineSprites s → FineSprites (load_one k s)
unfolding load_one
fine_load_one k s h = changed k (λ f. record { number = f.number; mc = f.base; base = f.base }) h

pub fine_load : (raster : ℕ) (my : List ℕ) (enable : ℕ) {s : Sprites} → FineSprites s → FineSprites (mc_loaded raster my enable s)
unfolding mc_loaded loaded shown show_one
fine_load raster my enable h = over one 8 (as_each refl (over fine_load_one 8 h))
  where
    one : (k : ℕ) (s : Sprites) → FineSprites s → FineSprites (show_at (raster % 256) my enable k s)
    one k s h = either FineSprites (has_bit s.dma k && has_bit enable k && eqb (get_or my k 0) (raster % 256)) (as_each refl h) h

pub fine_expand : (k : Kind) (value cycle old : ℕ) {s : Sprites} → FineSprites s → FineSprites (expand_written k value cycle old s)
unfolding expand_written
fine_expand k value cycle old h = as_each refl h

pub fine_fetched : (k bytes : ℕ) {s : Sprites} → FineSprites s → FineSprites (fetched k bytes s)
unfolding fetched
fine_fetched k bytes {s} h =
    either FineSprites (has_bit s.dma k) (changed k (λ f. record { number = f.number; mc = omega arith; base = f.base }) h) h

fine_one_true : (k : ℕ) (t : Sprite) → FineSprite k t → fine_one k t ≡ true
fine_one_true k t f = rw (eq-eqb t.number k f.number, le-leb t.mc 63 (omega (arith, f.mc)), le-leb t.base 63 (omega (arith, f.base)))

fine_one_fine : (k : ℕ) (t : Sprite) → fine_one k t ≡ true → FineSprite k t
fine_one_fine k t e =
    let a = eqb t.number k in
    let b = leb t.mc 63 in
    let c = leb t.base 63 in
    let f = left (a && b) c e in
    record {
      number = eqb-true t.number k (left a b f);
      mc = omega (arith, leb-true t.mc 63 (right a b f));
      base = omega (arith, leb-true t.base 63 (right (a && b) c e));
    }

pub fine_test_true : {s : Sprites} → FineSprites s → fine_test 8 s ≡ true
unfolding fine_test
fine_test_true {s} h = first 8 (omega arith)
  where
    first : (n : ℕ) → n ≤ 8 → fine_test n s ≡ true
    first zero l = refl
    first (suc n) l = rw (first n (omega arith), fine_one_true n (sprite_at s n) (h.fine n l))

first_fine : (n : ℕ) (s : Sprites) → fine_test n s ≡ true → (k : ℕ) → k < n → FineSprite k (sprite_at s k)
unfolding fine_test
first_fine zero s e k h = absurd (not-suc-le-zero h)
first_fine (suc n) s e k h = by_place (ℕ_discrete k n) (first_fine n s (left (fine_test n s) last e) k)
  where
    last : Bool
    last = fine_one n (sprite_at s n)

    by_place : Dec (k ≡ n) → (k < n → FineSprite k (sprite_at s k)) → FineSprite k (sprite_at s k)
    by_place (yes p) below = rw p (fine_one_fine n (sprite_at s n) (right (fine_test n s) last e))
    by_place (no p) below = below (omega arith)

-- past the list's end a sprite has the number 0, so the last one's number shows that there are eight
at_least : (s : Sprites) → (sprite_at s 7).number ≡ 7 → Dec (7 < length s.each) → 8 ≤ length s.each
unfolding sprite_at
at_least s e (yes h) = omega arith
at_least s e (no h) =
    let past : get_or s.each 7 none ≡ none = get_or-eq_default s.each none (omega arith) in
    let z : ◌≡◌ {A = ℕ} 0 7 = rw past at e in
    absurd (omega arith)

pub fine_test_fine : {s : Sprites} → fine_test 8 s ≡ true → FineSprites s
fine_test_fine {s} e =
    record { eight = at_least s (first_fine 8 s e 7 (omega arith)).number (dec_lt 7 (length s.each)); fine = first_fine 8 s e }

pub fine_fresh : FineSprites all_fresh
unfolding all_fresh fresh sprite_at fine_test
fine_fresh = fine_test_fine refl
