-- The sprites of a state we accept, and the test for them.
use Rattle.std.specs.Prelude.{ℕ, zero, suc, ◌<◌, ◌≤◌, ◌≡◌, Bool, true, ◌&&◌, eqb, leb, length}
use Rattle.sprites.specs.declared.Sprite.{Sprite}
use Rattle.sprites.specs.declared.Sprites.{Sprites}
use Rattle.sprites.specs.Sprites.{sprite_at}

-- 01, States we accept: sprite k numbered k, each MC and base 0..63
pub record FineSprite (k : ℕ) (t : Sprite) : Type 0 where
  pub number : t.number ≡ k
  pub mc : t.mc < 64
  pub base : t.base < 64

-- 01, States we accept: all eight
pub record FineSprites (s : Sprites) : Type 0 where
  pub eight : 8 ≤ length s.each
  pub fine : (k : ℕ) → k < 8 → FineSprite k (sprite_at s k)

-- the same as a test, of one sprite and of the first n
abbrev pub fine_one : ℕ → Sprite → Bool
fine_one k t = eqb t.number k && leb t.mc 63 && leb t.base 63

unfoldable pub fine_test : ℕ → Sprites → Bool
fine_test zero s = true
fine_test (suc n) s = fine_test n s && fine_one n (sprite_at s n)
