-- A record with one field changed: the one place that lists them all.
use Rattle.std.specs.Prelude.{ℕ, List}
use Rattle.sprites.specs.declared.Sprite.{Sprite}
use Rattle.sprites.specs.declared.Sprites.{Sprites}

abbrev pub sprite_number≔ : ℕ → Sprite → Sprite
sprite_number≔ v s = record { number = v; mc = s.mc; base = s.base }

abbrev pub sprite_mc≔ : ℕ → Sprite → Sprite
sprite_mc≔ v s = record { number = s.number; mc = v; base = s.base }

abbrev pub sprite_base≔ : ℕ → Sprite → Sprite
sprite_base≔ v s = record { number = s.number; mc = s.mc; base = v }

abbrev pub each≔ : List Sprite → Sprites → Sprites
each≔ v s = record { each = v; flip = s.flip; clear = s.clear; dma = s.dma; prev = s.prev; display = s.display; vmatch = s.vmatch }

abbrev pub flip≔ : ℕ → Sprites → Sprites
flip≔ v s = record { each = s.each; flip = v; clear = s.clear; dma = s.dma; prev = s.prev; display = s.display; vmatch = s.vmatch }

abbrev pub clear≔ : ℕ → Sprites → Sprites
clear≔ v s = record { each = s.each; flip = s.flip; clear = v; dma = s.dma; prev = s.prev; display = s.display; vmatch = s.vmatch }

abbrev pub dma≔ : ℕ → Sprites → Sprites
dma≔ v s = record { each = s.each; flip = s.flip; clear = s.clear; dma = v; prev = s.prev; display = s.display; vmatch = s.vmatch }

abbrev pub prev≔ : ℕ → Sprites → Sprites
prev≔ v s = record { each = s.each; flip = s.flip; clear = s.clear; dma = s.dma; prev = v; display = s.display; vmatch = s.vmatch }

abbrev pub display≔ : ℕ → Sprites → Sprites
display≔ v s = record { each = s.each; flip = s.flip; clear = s.clear; dma = s.dma; prev = s.prev; display = v; vmatch = s.vmatch }

abbrev pub vmatch≔ : ℕ → Sprites → Sprites
vmatch≔ v s = record { each = s.each; flip = s.flip; clear = s.clear; dma = s.dma; prev = s.prev; display = s.display; vmatch = v }
