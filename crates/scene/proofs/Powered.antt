-- The chip at power-up can be saved, of every kind. Assumes nothing.
use Prim.Native.Nat.{ℕ, zero, suc, ◌<◌}
use mathlib.Core.Path.{refl}
use lib.Dec.{lit<}
use lib.ListN.{get_or}
use Rattle.laws.specs.Lists.{zeros}
use Rattle.sprites.specs.Sprites.{fresh, all_fresh, sprite_at}
use Rattle.arbitration.specs.Bus as Buses
use Rattle.side.specs.Turn.{fresh_side}
use Rattle.picture.specs.Pen.{fresh_pen}
use Rattle.chip.specs.Chip.{powered}
use Rattle.scene.specs.Saved.{Saved}

no_word : (n k : ℕ) → get_or (zeros n) k 0 < 4294967296
no_word zero k = lit< tt
no_word (suc n) zero = lit< tt
no_word (suc n) (suc k) = no_word n k

numbered : (k : ℕ) → (sprite_at all_fresh k).number < 256
unfolding all_fresh fresh sprite_at
numbered zero = lit< tt
numbered (suc zero) = lit< tt
numbered (suc (suc zero)) = lit< tt
numbered (suc (suc (suc zero))) = lit< tt
numbered (suc (suc (suc (suc zero)))) = lit< tt
numbered (suc (suc (suc (suc (suc zero))))) = lit< tt
numbered (suc (suc (suc (suc (suc (suc zero)))))) = lit< tt
numbered (suc (suc (suc (suc (suc (suc (suc zero))))))) = lit< tt
numbered (suc (suc (suc (suc (suc (suc (suc (suc k)))))))) = lit< tt

pub powered_is_saved : (kind : ℕ) → Saved (powered kind)
unfolding powered fresh_side fresh_pen all_fresh Buses.fresh
powered_is_saved kind =
    record {
      mode = lit< tt;
      old = lit< tt;
      place = tt;
      mx = refl;
      my = refl;
      cols = refl;
      bg = refl;
      each = refl;
      number = numbered;
      matrix = refl;
      pointers = refl;
      bytes = refl;
      words = refl;
      word = no_word 8;
      lost = lit< tt;
      aec = record { sfits = lit< tt };
      fall = record { sfits = lit< tt };
      rise = record { sfits = lit< tt };
      forced = record { sfits = lit< tt };
      clock = record { sfits = lit< tt };
    }
