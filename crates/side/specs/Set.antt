-- A record with one field changed: the only place that lists every field. Written by tools/setters.
use Rattle.std.specs.Prelude.{ℕ, Bool}
use Rattle.registers.specs.declared.Irq.{Irq}
use Rattle.timing.specs.declared.Beam.{Beam}
use Rattle.border.specs.declared.Border.{Border}
use Rattle.sprites.specs.declared.Sprites.{Sprites}
use Rattle.arbitration.specs.declared.Bus.{Bus}
use Rattle.rows.specs.declared.Rows.{Rows}
use Rattle.rows.specs.declared.Waits.{Waits}
use Rattle.raster.specs.declared.Frame.{Frame}
use Rattle.side.specs.declared.Side.{Side}

abbrev pub irq≔ : Irq → Side → Side
irq≔ v r = record { irq = v; beam = r.beam; frame = r.frame; border = r.border; sprites = r.sprites; bus = r.bus; rows = r.rows; pending = r.pending; changed = r.changed; refresh = r.refresh }

abbrev pub beam≔ : Beam → Side → Side
beam≔ v r = record { irq = r.irq; beam = v; frame = r.frame; border = r.border; sprites = r.sprites; bus = r.bus; rows = r.rows; pending = r.pending; changed = r.changed; refresh = r.refresh }

abbrev pub frame≔ : Frame → Side → Side
frame≔ v r = record { irq = r.irq; beam = r.beam; frame = v; border = r.border; sprites = r.sprites; bus = r.bus; rows = r.rows; pending = r.pending; changed = r.changed; refresh = r.refresh }

abbrev pub border≔ : Border → Side → Side
border≔ v r = record { irq = r.irq; beam = r.beam; frame = r.frame; border = v; sprites = r.sprites; bus = r.bus; rows = r.rows; pending = r.pending; changed = r.changed; refresh = r.refresh }

abbrev pub sprites≔ : Sprites → Side → Side
sprites≔ v r = record { irq = r.irq; beam = r.beam; frame = r.frame; border = r.border; sprites = v; bus = r.bus; rows = r.rows; pending = r.pending; changed = r.changed; refresh = r.refresh }

abbrev pub bus≔ : Bus → Side → Side
bus≔ v r = record { irq = r.irq; beam = r.beam; frame = r.frame; border = r.border; sprites = r.sprites; bus = v; rows = r.rows; pending = r.pending; changed = r.changed; refresh = r.refresh }

abbrev pub rows≔ : Rows → Side → Side
rows≔ v r = record { irq = r.irq; beam = r.beam; frame = r.frame; border = r.border; sprites = r.sprites; bus = r.bus; rows = v; pending = r.pending; changed = r.changed; refresh = r.refresh }

abbrev pub pending≔ : Waits → Side → Side
pending≔ v r = record { irq = r.irq; beam = r.beam; frame = r.frame; border = r.border; sprites = r.sprites; bus = r.bus; rows = r.rows; pending = v; changed = r.changed; refresh = r.refresh }

abbrev pub changed≔ : Bool → Side → Side
changed≔ v r = record { irq = r.irq; beam = r.beam; frame = r.frame; border = r.border; sprites = r.sprites; bus = r.bus; rows = r.rows; pending = r.pending; changed = v; refresh = r.refresh }

abbrev pub refresh≔ : ℕ → Side → Side
refresh≔ v r = record { irq = r.irq; beam = r.beam; frame = r.frame; border = r.border; sprites = r.sprites; bus = r.bus; rows = r.rows; pending = r.pending; changed = r.changed; refresh = v }
