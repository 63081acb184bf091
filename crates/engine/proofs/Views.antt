-- One sprite of the eight: what each step of the counters does to it, and that it leaves the others alone. Assumes nothing.
use mathlib.Core.Path.{◌≡◌, refl, sym, ◌∙◌, ap}
use mathlib.Core.Bool.{Bool, true, false, not, ◌&&◌, cond}
use mathlib.Core.List.{List}
use Prim.Native.Nat.{ℕ, zero, suc, ◌+◌, ◌%◌, ◌<◌, ◌≤◌}
use native.Mathlib.Omega.{arith}
use native.Mathlib.Decide.{ℕ_discrete}
use native.Mathlib.Nat.{not-suc-le-zero}
use borrow.Author.Tests.{eq-eqb, ne_eqb}
use lib.Dec.{eqb}
use lib.ListN.{length, get_or, set, length-set}
use lib.Seq.{get_or-set_same, get_or-set_other}
use Rattle.laws.specs.Bits.{has_bit, with_bit, without_bit}
use Rattle.laws.proofs.Choice.{either, under}
use Rattle.sprites.specs.declared.Sprite.{Sprite}
use Rattle.sprites.specs.declared.Sprites.{Sprites}
use Rattle.sprites.specs.Set.{sprite_mc≔, sprite_base≔}
use Rattle.sprites.specs.Sprites.{none, sprite_at, sprite_at≔, up_to, next_base, mask_after, step_one, starts, dma_begun, start_one, start_at, load_one, show_one, show_at, shown, fetched}
use Rattle.engine.specs.Counters.{Sound}
use Rattle.engine.proofs.Masks.{with_bit_lem, without_bit_lem, with_small, without_small}

pub record View : Type 0 where
  pub sprite : Sprite
  pub flip : Bool
  pub clear : Bool
  pub on : Bool
  pub shown : Bool

abbrev pub view_of : Sprites → ℕ → View
view_of s n = record { sprite = sprite_at s n; flip = has_bit s.flip n; clear = has_bit s.clear n; on = has_bit s.dma n; shown = has_bit s.display n }

-- a step that changes sprite k and no other
pub record Local (one : ℕ → Sprites → Sprites) (f : ℕ → View → View) : Type 0 where
  pub sound : (k : ℕ) (s : Sprites) → k < 8 → Sound s → Sound (one k s)
  pub here : (k : ℕ) (s : Sprites) → k < 8 → Sound s → view_of (one k s) k ≡ f k (view_of s k)
  pub others : (k n : ℕ) (s : Sprites) → k < 8 → n < 8 → (k ≡ n → ⊥) → Sound s → view_of (one k s) n ≡ view_of s n

-- over the first m sprites
module _ (one : ℕ → Sprites → Sprites) (f : ℕ → View → View) (l : Local one f) where
  pub over_sound : (m : ℕ) (s : Sprites) → m ≤ 8 → Sound s → Sound (up_to one m s)
  unfolding up_to
  over_sound zero s b h = h
  over_sound (suc m) s b h = l.sound m (up_to one m s) b (over_sound m s (omega arith) h)

  past : (m n : ℕ) (s : Sprites) → m ≤ n → n < 8 → Sound s → view_of (up_to one m s) n ≡ view_of s n
  unfolding up_to
  past zero n s b c h = refl
  past (suc m) n s b c h =
      l.others m n (up_to one m s) (omega arith) c (λ e. omega arith) (over_sound m s (omega arith) h) ∙ past m n s (omega arith) c h

  done : (m n : ℕ) (s : Sprites) → m ≤ 8 → n < m → Sound s → view_of (up_to one m s) n ≡ f n (view_of s n)
  unfolding up_to
  done zero n s b c h = absurd (not-suc-le-zero c)
  done (suc m) n s b c h = by_place (ℕ_discrete m n) (λ d. done m n s (omega arith) d h)
    where
      before : Sound (up_to one m s)
      before = over_sound m s (omega arith) h

      by_place : Dec (m ≡ n) → (n < m → view_of (up_to one m s) n ≡ f n (view_of s n)) → view_of (one m (up_to one m s)) n ≡ f n (view_of s n)
      by_place (yes e) earlier = rw (← e) (l.here m (up_to one m s) b before ∙ ap (f m) (past m m s (omega arith) b h))
      by_place (no e) earlier = l.others m n (up_to one m s) b (omega arith) e before ∙ earlier (omega arith)

  pub over : (n : ℕ) (s : Sprites) → n < 8 → Sound s → view_of (up_to one 8 s) n ≡ f n (view_of s n)
  over n s c h = done 8 n s (omega arith) c h

-- a sprite's record put anew
module _ (s : Sprites) (k : ℕ) (v : Sprite) (b : k < 8) (h : Sound s) where
  pub put_here : sprite_at (sprite_at≔ k v s) k ≡ v
  unfolding sprite_at
  put_here = let l : k < length s.each = omega (arith, h.eight) in get_or-set_same s.each k v none l

  pub put_other : (n : ℕ) → (k ≡ n → ⊥) → sprite_at (sprite_at≔ k v s) n ≡ sprite_at s n
  unfolding sprite_at
  put_other n e = get_or-set_other s.each k n v none (λ p. e (sym p))

  pub put_eight : length (set s.each k v) ≡ 8
  put_eight = length-set s.each k v ∙ h.eight

-- the step of MCBASE
abbrev pub base_in : View → ℕ
base_in v = next_base v.flip v.clear v.sprite.base v.sprite.mc

abbrev pub step_v : ℕ → View → View
step_v k v = record { sprite = sprite_base≔ (base_in v) v.sprite; flip = v.flip; clear = v.clear; on = cond (eqb (base_in v) 63) false v.on; shown = v.shown }

ends_here : (m k base : ℕ) → m < 256 → k < 8 → has_bit (mask_after m k base) k ≡ cond (eqb base 63) false (has_bit m k)
unfolding mask_after
ends_here m k base h b =
    under (λ (x : ℕ). has_bit x k) (eqb base 63) (without_bit m k) m
    ∙ ap (λ (x : Bool). cond (eqb base 63) x (has_bit m k)) (without_bit_lem m k k h b b ∙ rw (eq-eqb k k refl))

cond_same : {A : Type 0} (b : Bool) (x : A) → cond b x x ≡ x
cond_same true x = refl
cond_same false x = refl

ends_other : (m k n base : ℕ) → m < 256 → k < 8 → n < 8 → (k ≡ n → ⊥) → has_bit (mask_after m k base) n ≡ has_bit m n
unfolding mask_after
ends_other m k n base h b c e =
    under (λ (x : ℕ). has_bit x n) (eqb base 63) (without_bit m k) m
    ∙ ap (λ (x : Bool). cond (eqb base 63) x (has_bit m n)) (without_bit_lem m k n h b c ∙ rw (ne_eqb k n e))
    ∙ cond_same (eqb base 63) (has_bit m n)

abbrev stepped : ℕ → Sprites → Sprite
stepped k s = sprite_base≔ (base_in (view_of s k)) (sprite_at s k)

pub step_local : Local step_one step_v
unfolding step_one mask_after sprite_at
step_local =
    record {
      sound = λ k s b h. record { eight = put_eight s k (stepped k s) b h; flip = h.flip; dma = either (λ (x : ℕ). x < 256) (eqb (base_in (view_of s k)) 63) (without_small s.dma k h.dma b) h.dma; display = h.display };
      here = λ k s b h. rw (put_here s k (stepped k s) b h, ends_here s.dma k (base_in (view_of s k)) h.dma b);
      others = λ k n s b c e h. rw (put_other s k (stepped k s) b h n e, ends_other s.dma k n (base_in (view_of s k)) h.dma b c e);
    }

-- a step that is made or not
module _ (test : Sprites → ℕ → Bool) (one : ℕ → Sprites → Sprites) (g : View → ℕ → Bool) (f : ℕ → View → View) (l : Local one f)
    (same : (s : Sprites) (k : ℕ) → test s k ≡ g (view_of s k) k) where
  abbrev maybe : ℕ → Sprites → Sprites
  maybe k s = cond (test s k) (one k s) s

  abbrev maybe_v : ℕ → View → View
  maybe_v k v = cond (g v k) (f k v) v

  pub maybe_local : Local maybe maybe_v
  maybe_local =
      record {
        sound = λ k s b h. either Sound (test s k) (l.sound k s b h) h;
        here = λ k s b h. under (λ (x : Sprites). view_of x k) (test s k) (one k s) s ∙ rw (l.here k s b h, same s k);
        others = λ k n s b c e h. under (λ (x : Sprites). view_of x n) (test s k) (one k s) s ∙ rw (l.others k n s b c e h) (cond_same (test s k) (view_of s n));
      }

-- the start of DMA
abbrev pub begun_v : ℕ → ℕ → View → View
begun_v yexp k v = record { sprite = sprite_base≔ 0 v.sprite; flip = cond (has_bit yexp k) false v.flip; clear = v.clear; on = true; shown = v.shown }

flip_here : (m yexp k : ℕ) → m < 256 → k < 8 → has_bit (cond (has_bit yexp k) (without_bit m k) m) k ≡ cond (has_bit yexp k) false (has_bit m k)
flip_here m yexp k h b =
    under (λ (x : ℕ). has_bit x k) (has_bit yexp k) (without_bit m k) m
    ∙ ap (λ (x : Bool). cond (has_bit yexp k) x (has_bit m k)) (without_bit_lem m k k h b b ∙ rw (eq-eqb k k refl))

flip_other : (m yexp k n : ℕ) → m < 256 → k < 8 → n < 8 → (k ≡ n → ⊥) → has_bit (cond (has_bit yexp k) (without_bit m k) m) n ≡ has_bit m n
flip_other m yexp k n h b c e =
    under (λ (x : ℕ). has_bit x n) (has_bit yexp k) (without_bit m k) m
    ∙ ap (λ (x : Bool). cond (has_bit yexp k) x (has_bit m n)) (without_bit_lem m k n h b c ∙ rw (ne_eqb k n e))
    ∙ cond_same (has_bit yexp k) (has_bit m n)

on_here : (m k : ℕ) → m < 256 → k < 8 → has_bit (with_bit m k) k ≡ true
on_here m k h b = with_bit_lem m k k h b b ∙ rw (eq-eqb k k refl)

on_other : (m k n : ℕ) → m < 256 → k < 8 → n < 8 → (k ≡ n → ⊥) → has_bit (with_bit m k) n ≡ has_bit m n
on_other m k n h b c e = with_bit_lem m k n h b c ∙ rw (ne_eqb k n e)

begun_local : (yexp : ℕ) → Local (λ k s. dma_begun k yexp s) (begun_v yexp)
unfolding dma_begun sprite_at
begun_local yexp =
    record {
      sound = λ k s b h. record { eight = put_eight s k _ b h; flip = either (λ (x : ℕ). x < 256) (has_bit yexp k) (without_small s.flip k h.flip b) h.flip; dma = with_small s.dma k h.dma b; display = h.display };
      here = λ k s b h. rw (put_here s k (sprite_base≔ 0 (sprite_at s k)) b h, on_here s.dma k h.dma b, flip_here s.flip yexp k h.flip b);
      others = λ k n s b c e h. rw (put_other s k (sprite_base≔ 0 (sprite_at s k)) b h n e, on_other s.dma k n h.dma b c e, flip_other s.flip yexp k n h.flip b c e);
    }

abbrev pub start_v : ℕ → List ℕ → ℕ → ℕ → ℕ → View → View
start_v line my enable yexp k v = cond (not v.on && has_bit enable k && eqb (get_or my k 0) line) (begun_v yexp k v) v

pub start_local : (line : ℕ) (my : List ℕ) (enable yexp : ℕ) → Local (start_at line my enable yexp) (start_v line my enable yexp)
unfolding start_one
start_local line my enable yexp =
    maybe_local (λ s k. starts line enable k (get_or my k 0) s) (λ k s. dma_begun k yexp s)
    (λ v k. not v.on && has_bit enable k && eqb (get_or my k 0) line) (begun_v yexp) (begun_local yexp) (λ s k. refl)

-- the load of MC
abbrev pub load_v : ℕ → View → View
load_v k v = record { sprite = sprite_mc≔ v.sprite.base v.sprite; flip = v.flip; clear = v.clear; on = v.on; shown = v.shown }

pub load_local : Local load_one load_v
unfolding load_one
load_local =
    record {
      sound = λ k s b h. record { eight = put_eight s k _ b h; flip = h.flip; dma = h.dma; display = h.display };
      here = λ k s b h. rw (put_here s k _ b h);
      others = λ k n s b c e h. rw (put_other s k _ b h n e);
    }

-- display
abbrev shown_v : ℕ → View → View
shown_v k v = record { sprite = v.sprite; flip = v.flip; clear = v.clear; on = v.on; shown = true }

abbrev shown_s : ℕ → Sprites → Sprites
shown_s k s = record { each = s.each; flip = s.flip; clear = s.clear; dma = s.dma; prev = s.prev; display = with_bit s.display k; vmatch = s.vmatch }

shown_local : Local shown_s shown_v
unfolding sprite_at
shown_local =
    record {
      sound = λ k s b h. record { eight = h.eight; flip = h.flip; dma = h.dma; display = with_small s.display k h.display b };
      here = λ k s b h. rw (on_here s.display k h.display b);
      others = λ k n s b c e h. rw (on_other s.display k n h.display b c e);
    }

abbrev pub show_v : ℕ → List ℕ → ℕ → ℕ → View → View
show_v line my enable k v = cond (v.on && has_bit enable k && eqb (get_or my k 0) line) (shown_v k v) v

pub show_local : (line : ℕ) (my : List ℕ) (enable : ℕ) → Local (show_at line my enable) (show_v line my enable)
unfolding show_one
show_local line my enable =
    maybe_local (λ s k. has_bit s.dma k && has_bit enable k && eqb (get_or my k 0) line) shown_s
    (λ v k. v.on && has_bit enable k && eqb (get_or my k 0) line) shown_v shown_local (λ s k. refl)

-- a slot's bytes
abbrev pub moved_v : ℕ → ℕ → View → View
moved_v bytes k v = record { sprite = sprite_mc≔ ((v.sprite.mc + bytes) % 64) v.sprite; flip = v.flip; clear = v.clear; on = v.on; shown = v.shown }

abbrev moved_s : ℕ → ℕ → Sprites → Sprites
moved_s bytes k s = sprite_at≔ k (sprite_mc≔ (((sprite_at s k).mc + bytes) % 64) (sprite_at s k)) s

moved_local : (bytes : ℕ) → Local (moved_s bytes) (moved_v bytes)
moved_local bytes =
    record {
      sound = λ k s b h. record { eight = put_eight s k _ b h; flip = h.flip; dma = h.dma; display = h.display };
      here = λ k s b h. rw (put_here s k _ b h);
      others = λ k n s b c e h. rw (put_other s k _ b h n e);
    }

abbrev pub fetch_v : ℕ → ℕ → View → View
fetch_v bytes k v = cond v.on (moved_v bytes k v) v

pub fetch_local : (bytes : ℕ) → Local (λ k s. fetched k bytes s) (fetch_v bytes)
unfolding fetched
fetch_local bytes = maybe_local (λ s k. has_bit s.dma k) (moved_s bytes) (λ v k. v.on) (moved_v bytes) (moved_local bytes) (λ s k. refl)
