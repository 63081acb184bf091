-- A record with one field changed: the only place that lists every field. Written by tools/setters.
use Rattle.std.specs.Prelude.{ℕ, Bool, ℤ}
use Rattle.picture.specs.declared.Pen.{Pen}

abbrev pub ch≔ : ℕ → Pen → Pen
ch≔ v r = record { ch = v; carry = r.carry; gfx = r.gfx; mode = r.mode; old = r.old; changing = r.changing; forced = r.forced }

abbrev pub carry≔ : ℕ → Pen → Pen
carry≔ v r = record { ch = r.ch; carry = v; gfx = r.gfx; mode = r.mode; old = r.old; changing = r.changing; forced = r.forced }

abbrev pub gfx≔ : ℕ → Pen → Pen
gfx≔ v r = record { ch = r.ch; carry = r.carry; gfx = v; mode = r.mode; old = r.old; changing = r.changing; forced = r.forced }

abbrev pub mode≔ : ℕ → Pen → Pen
mode≔ v r = record { ch = r.ch; carry = r.carry; gfx = r.gfx; mode = v; old = r.old; changing = r.changing; forced = r.forced }

abbrev pub old≔ : ℕ → Pen → Pen
old≔ v r = record { ch = r.ch; carry = r.carry; gfx = r.gfx; mode = r.mode; old = v; changing = r.changing; forced = r.forced }

abbrev pub changing≔ : Bool → Pen → Pen
changing≔ v r = record { ch = r.ch; carry = r.carry; gfx = r.gfx; mode = r.mode; old = r.old; changing = v; forced = r.forced }

abbrev pub forced≔ : ℤ → Pen → Pen
forced≔ v r = record { ch = r.ch; carry = r.carry; gfx = r.gfx; mode = r.mode; old = r.old; changing = r.changing; forced = v }
