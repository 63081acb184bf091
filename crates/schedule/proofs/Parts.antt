-- A line's two parts, the cycles with a graphics access and the others: what happens in neither and in which, computed cycle by cycle. Assumes nothing.
use mathlib.Core.Path.{◌≡◌, subst, sym}
use mathlib.Core.Bool.{Bool, true, false, not, ◌&&◌, ◌||◌}
use Prim.Native.Nat.{ℕ, ◌<◌, ◌≤◌}
use native.Mathlib.Omega.{arith}
use lib.Dec.{T, eqb, eqb→eq, leb, leb→le}
use borrow.Author.Tests.{lt-ltb}
use Rattle.laws.proofs.Below as Below
use Rattle.laws.proofs.Choice.{left, right}
use Rattle.schedule.specs.Kind.{Kind, the6569, the6567_r8}
use Rattle.schedule.specs.Diagram.{happens, line_begins, frame_ends, refresh, vc_load, access_chosen, character_access, graphics_access, access_ends, row_ends, mcbase_step, first_phase, second_phase, mc_load, main_remembered, left40, left38, right38, right40, line_ends, pointer_time, data_time, slot_sprite, slot_after_bus}
use Rattle.schedule.specs.Requests.{mask_at}
use Rattle.schedule.specs.Machinery.Stretches.{is_later, is_past, is_early, is_between, is_still}

-- two tests, and two numbers, that agree in the cycles where f holds
module _ (f : ℕ → Bool) where
  alike : (g h : ℕ → Bool) → T (Below.all (λ k. Below.iff (f k && g k) (f k && h k)) 0 66) → (c : ℕ) → c < 66 → f c ≡ true → g c ≡ h c
  alike g h t c b e = rw e at (Below.same_test (λ k. f k && g k) (λ k. f k && h k) 66 t c b)

  never : (g : ℕ → Bool) → T (Below.all (λ k. Below.iff (f k && g k) (f k && false)) 0 66) → (c : ℕ) → c < 66 → f c ≡ true → g c ≡ false
  never g t c b e = alike g (λ k. false) t c b e

  equal : (g h : ℕ → ℕ) → T (Below.all (λ k. not (f k) || eqb (g k) (h k)) 0 66) → (c : ℕ) → c < 66 → f c ≡ true → g c ≡ h c
  equal g h t c b e = eqb→eq (g c) (h c) (rw e at (Below.below (λ k. not (f k) || eqb (g k) (h k)) 66 t c b))

  -- the same of what a kind decides: one test a kind
  never_by_kind : (g : Kind → ℕ → Bool) → T (Below.all (λ n. Below.iff (f n && g the6569 n) (f n && false)) 0 66) → T (Below.all (λ n. Below.iff (f n && g the6567_r8 n) (f n && false)) 0 66)
      → (k : Kind) (c : ℕ) → c < 66 → f c ≡ true → g k c ≡ false
  never_by_kind g t u the6569 c b e = never (g the6569) t c b e
  never_by_kind g t u the6567_r8 c b e = never (g the6567_r8) u c b e

  equal_by_kind : (g : Kind → ℕ → ℕ) (h : ℕ → ℕ) → T (Below.all (λ n. not (f n) || eqb (g the6569 n) (h n)) 0 66) → T (Below.all (λ n. not (f n) || eqb (g the6567_r8 n) (h n)) 0 66)
      → (k : Kind) (c : ℕ) → c < 66 → f c ≡ true → g k c ≡ h c
  equal_by_kind g h t u the6569 c b e = equal (g the6569) h t c b e
  equal_by_kind g h t u the6567_r8 c b e = equal (g the6567_r8) h u c b e

shown : (b : Bool) → b ≡ true → T b
shown b e = subst T (sym e) tt

flipped : (b : Bool) → b ≡ false → not b ≡ true
flipped b e = rw e

pub lit_small : (c : ℕ) → happens graphics_access c ≡ true → c < 66
unfolding happens
lit_small c e = let small : c ≤ 55 = leb→le c 55 (shown (leb c 55) (right (leb 16 c) (leb c 55) e)) in omega (arith, small)

mid_small : (c : ℕ) → (leb 19 c && leb c 54) ≡ true → c < 66
mid_small c e = let high : c ≤ 54 = leb→le c 54 (shown (leb c 54) (right (leb 19 c) (leb c 54) e)) in omega (arith, high)

-- with a graphics access: no line begins, no row ends
pub record Lit (c : ℕ) : Type 0 where
  pub begins : happens line_begins c ≡ false
  pub wraps : happens frame_ends c ≡ false
  pub loads : happens vc_load c ≡ false
  pub chosen : happens access_chosen c ≡ false
  pub ends : happens row_ends c ≡ false
  pub inner : happens right38 c ≡ false
  pub outer : happens right40 c ≡ false
  pub refresh : happens refresh c ≡ false
  pub character : happens character_access c ≡ not (happens access_ends c)

pub lit : (c : ℕ) → happens graphics_access c ≡ true → Lit c
unfolding happens
lit c e =
    let b = lit_small c e in
    let g : ℕ → Bool = λ k. happens graphics_access k in
    record {
      begins = never g (λ k. happens line_begins k) tt c b e;
      wraps = never g (λ k. happens frame_ends k) tt c b e;
      loads = never g (λ k. happens vc_load k) tt c b e;
      chosen = never g (λ k. happens access_chosen k) tt c b e;
      ends = never g (λ k. happens row_ends k) tt c b e;
      inner = never g (λ k. happens right38 k) tt c b e;
      outer = never g (λ k. happens right40 k) tt c b e;
      refresh = never g (λ k. happens refresh k) tt c b e;
      character = alike g (λ k. happens character_access k) (λ k. not (happens access_ends k)) tt c b e;
    }

-- nor, on either kind, a slot, a line's end, or a phase but the first
pub record Slotless (k : Kind) (c : ℕ) : Type 0 where
  pub last : happens (line_ends k) c ≡ false
  pub second : happens (second_phase k) c ≡ false
  pub load : happens (mc_load k) c ≡ false
  pub pointing : pointer_time k c ≡ false
  pub fetching : data_time k c ≡ false
  pub after : slot_after_bus k c ≡ false
  pub sprite : slot_sprite k c ≡ 0

pub slotless : (k : Kind) (c : ℕ) → happens graphics_access c ≡ true → Slotless k c
unfolding happens pointer_time data_time slot_after_bus slot_sprite
slotless k c e =
    let b = lit_small c e in
    let g : ℕ → Bool = λ n. happens graphics_access n in
    record {
      last = never_by_kind g (λ k n. happens (line_ends k) n) tt tt k c b e;
      second = never_by_kind g (λ k n. happens (second_phase k) n) tt tt k c b e;
      load = never_by_kind g (λ k n. happens (mc_load k) n) tt tt k c b e;
      pointing = never_by_kind g (λ k n. pointer_time k n) tt tt k c b e;
      fetching = never_by_kind g (λ k n. data_time k n) tt tt k c b e;
      after = never_by_kind g (λ k n. slot_after_bus k n) tt tt k c b e;
      sprite = equal_by_kind g (λ k n. slot_sprite k n) (λ n. 0) tt tt k c b e;
    }

-- past the left compares
pub record Past (c : ℕ) : Type 0 where
  pub wide : happens left40 c ≡ false
  pub narrow : happens left38 c ≡ false
  pub kept : happens main_remembered c ≡ false

pub past : (c : ℕ) → c < 66 → is_past c ≡ true → Past c
unfolding happens is_past
past c b e =
    let g : ℕ → Bool = λ k. is_past k in
    record {
      wide = never g (λ k. happens left40 k) tt c b e;
      narrow = never g (λ k. happens left38 k) tt c b e;
      kept = never g (λ k. happens main_remembered k) tt c b e;
    }

-- no sprite asks before the last graphics access
pub no_request : (k : Kind) (c : ℕ) → happens graphics_access c ≡ true → is_early c ≡ true → mask_at k c ≡ 0
unfolding happens mask_at is_early
no_request k c g e = equal_by_kind (λ n. happens graphics_access n && is_early n) (λ k n. mask_at k n) (λ n. 0) tt tt k c (lit_small c g) (rw (g, e))

-- between the left compares and the last graphics access: nothing is stepped and nothing ends
pub record Mid (c : ℕ) : Type 0 where
  pub graphics : happens graphics_access c ≡ true
  pub past : Past c
  pub over : happens access_ends c ≡ false
  pub step : happens mcbase_step c ≡ false

pub mid : (c : ℕ) → (leb 19 c && leb c 54) ≡ true → Mid c
unfolding happens is_past
mid c e =
    let b = mid_small c e in
    let low : 19 ≤ c = leb→le 19 c (shown (leb 19 c) (left (leb 19 c) (leb c 54) e)) in
    let g : ℕ → Bool = λ k. leb 19 k && leb k 54 in
    record {
      graphics = alike g (λ k. happens graphics_access k) (λ k. true) tt c b e;
      past = past c b (lt-ltb 18 c (omega (arith, low)));
      over = never g (λ k. happens access_ends k) tt c b e;
      step = never g (λ k. happens mcbase_step k) tt c b e;
    }

-- and, on either kind, no sprite's comparison is made and no sprite asks
pub record Unasked (k : Kind) (c : ℕ) : Type 0 where
  pub first : happens (first_phase k) c ≡ false
  pub asks : mask_at k c ≡ 0

pub unasked : (k : Kind) (c : ℕ) → (leb 19 c && leb c 54) ≡ true → Unasked k c
unfolding happens mask_at
unasked k c e =
    let b = mid_small c e in
    let g : ℕ → Bool = λ n. leb 19 n && leb n 54 in
    record {
      first = never_by_kind g (λ k n. happens (first_phase k) n) tt tt k c b e;
      asks = equal_by_kind g (λ k n. mask_at k n) (λ n. 0) tt tt k c b e;
    }

-- without a graphics access: no left compare, no step of MCBASE
pub record Dark (c : ℕ) : Type 0 where
  pub wide : happens left40 c ≡ false
  pub narrow : happens left38 c ≡ false
  pub kept : happens main_remembered c ≡ false
  pub step : happens mcbase_step c ≡ false

pub dark : (c : ℕ) → c < 66 → happens graphics_access c ≡ false → Dark c
unfolding happens
dark c b e =
    let g : ℕ → Bool = λ k. not (happens graphics_access k) in
    let n = flipped (happens graphics_access c) e in
    record {
      wide = never g (λ k. happens left40 k) tt c b n;
      narrow = never g (λ k. happens left38 k) tt c b n;
      kept = never g (λ k. happens main_remembered k) tt c b n;
      step = never g (λ k. happens mcbase_step k) tt c b n;
    }

-- past the beginning of a line and the end of a frame
pub record Later (c : ℕ) : Type 0 where
  pub begins : happens line_begins c ≡ false
  pub wraps : happens frame_ends c ≡ false

pub later : (c : ℕ) → c < 66 → is_later c ≡ true → Later c
unfolding happens is_later
later c b e =
    let g : ℕ → Bool = λ k. is_later k in
    record {
      begins = never g (λ k. happens line_begins k) tt c b e;
      wraps = never g (λ k. happens frame_ends k) tt c b e;
    }

-- between the compares of a line's ends
pub record Between (k : Kind) (c : ℕ) : Type 0 where
  pub begins : happens line_begins c ≡ false
  pub inner : happens right38 c ≡ false
  pub outer : happens right40 c ≡ false
  pub last : happens (line_ends k) c ≡ false

pub between : (k : Kind) (c : ℕ) → c < 66 → is_between c ≡ true → Between k c
unfolding happens is_between
between k c b e =
    let g : ℕ → Bool = λ n. is_between n in
    record {
      begins = never g (λ k. happens line_begins k) tt c b e;
      inner = never g (λ k. happens right38 k) tt c b e;
      outer = never g (λ k. happens right40 k) tt c b e;
      last = never_by_kind g (λ k n. happens (line_ends k) n) tt tt k c b e;
    }

-- where no counter of a row moves
pub record Still (c : ℕ) : Type 0 where
  pub loads : happens vc_load c ≡ false
  pub chosen : happens access_chosen c ≡ false
  pub over : happens access_ends c ≡ false
  pub graphics : happens graphics_access c ≡ false
  pub character : happens character_access c ≡ false
  pub ends : happens row_ends c ≡ false

pub still : (c : ℕ) → c < 66 → is_still c ≡ true → Still c
unfolding happens is_still
still c b e =
    let g : ℕ → Bool = λ k. is_still k in
    record {
      loads = never g (λ k. happens vc_load k) tt c b e;
      chosen = never g (λ k. happens access_chosen k) tt c b e;
      over = never g (λ k. happens access_ends k) tt c b e;
      graphics = never g (λ k. happens graphics_access k) tt c b e;
      character = never g (λ k. happens character_access k) tt c b e;
      ends = never g (λ k. happens row_ends k) tt c b e;
    }
