-- Which chips a scene can hold, and what a list of bytes is.
use Rattle.std.specs.Prelude.{ℕ, ◌<◌, ◌≡◌, length, get_or}
use Rattle.std.specs.Int.{w8, w64}
use Rattle.std.proofs.Common.{SFits}
use Rattle.sprites.specs.Sprites.{sprite_at}
use Rattle.rows.specs.Pending.{Pends}
use Rattle.chip.specs.declared.Chip.{Chip}

-- Both modes are below 8, the pending place is on the line, and a sprite's number and the lost cycles are one byte. The rest holds of every chip that a program has, by its types: its arrays have their lengths,
-- a sprite's word fits 32 bits, the AEC counter 8 and a clock 64. (The other numbers come back whatever they are, the kind too.)
pub record Saved (c : Chip) : Type 0 where
  pub mode : c.picture.pen.mode < 8
  pub old : c.picture.pen.old < 8
  pub place : Pends c.side.pending.place
  pub mx : length c.regs.mx ≡ 8
  pub my : length c.regs.my ≡ 8
  pub cols : length c.regs.cols ≡ 8
  pub bg : length c.regs.bg ≡ 4
  pub each : length c.side.sprites.each ≡ 8
  pub number : (k : ℕ) → (sprite_at c.side.sprites k).number < 256
  pub matrix : length c.picture.matrix ≡ 40
  pub pointers : length c.picture.pointers ≡ 8
  pub bytes : length c.picture.bytes ≡ 24
  pub words : length c.picture.words ≡ 8
  pub word : (k : ℕ) → get_or c.picture.words k 0 < 4294967296
  pub lost : c.side.bus.lost < 256
  pub aec : SFits w8 c.side.bus.aec
  pub fall : SFits w64 c.side.bus.fall
  pub rise : SFits w64 c.side.bus.rise
  pub forced : SFits w64 c.picture.pen.forced
  pub clock : SFits w64 c.side.bus.clock
