-- A record with one field changed: the only place that lists every field. Written by tools/setters.
use Rattle.std.specs.Prelude.{ℕ, Bool}
use Rattle.timing.specs.declared.Beam.{Beam}

abbrev pub kind≔ : ℕ → Beam → Beam
kind≔ v r = record { kind = v; cycle = r.cycle; raster = r.raster; den = r.den; rsel = r.rsel; yscroll = r.yscroll; latch = r.latch; bad = r.bad; rising = r.rising; ba = r.ba }

abbrev pub cycle≔ : ℕ → Beam → Beam
cycle≔ v r = record { kind = r.kind; cycle = v; raster = r.raster; den = r.den; rsel = r.rsel; yscroll = r.yscroll; latch = r.latch; bad = r.bad; rising = r.rising; ba = r.ba }

abbrev pub raster≔ : ℕ → Beam → Beam
raster≔ v r = record { kind = r.kind; cycle = r.cycle; raster = v; den = r.den; rsel = r.rsel; yscroll = r.yscroll; latch = r.latch; bad = r.bad; rising = r.rising; ba = r.ba }

abbrev pub den≔ : Bool → Beam → Beam
den≔ v r = record { kind = r.kind; cycle = r.cycle; raster = r.raster; den = v; rsel = r.rsel; yscroll = r.yscroll; latch = r.latch; bad = r.bad; rising = r.rising; ba = r.ba }

abbrev pub rsel≔ : Bool → Beam → Beam
rsel≔ v r = record { kind = r.kind; cycle = r.cycle; raster = r.raster; den = r.den; rsel = v; yscroll = r.yscroll; latch = r.latch; bad = r.bad; rising = r.rising; ba = r.ba }

abbrev pub yscroll≔ : ℕ → Beam → Beam
yscroll≔ v r = record { kind = r.kind; cycle = r.cycle; raster = r.raster; den = r.den; rsel = r.rsel; yscroll = v; latch = r.latch; bad = r.bad; rising = r.rising; ba = r.ba }

abbrev pub latch≔ : Bool → Beam → Beam
latch≔ v r = record { kind = r.kind; cycle = r.cycle; raster = r.raster; den = r.den; rsel = r.rsel; yscroll = r.yscroll; latch = v; bad = r.bad; rising = r.rising; ba = r.ba }

abbrev pub bad≔ : Bool → Beam → Beam
bad≔ v r = record { kind = r.kind; cycle = r.cycle; raster = r.raster; den = r.den; rsel = r.rsel; yscroll = r.yscroll; latch = r.latch; bad = v; rising = r.rising; ba = r.ba }

abbrev pub rising≔ : Bool → Beam → Beam
rising≔ v r = record { kind = r.kind; cycle = r.cycle; raster = r.raster; den = r.den; rsel = r.rsel; yscroll = r.yscroll; latch = r.latch; bad = r.bad; rising = v; ba = r.ba }

abbrev pub ba≔ : Bool → Beam → Beam
ba≔ v r = record { kind = r.kind; cycle = r.cycle; raster = r.raster; den = r.den; rsel = r.rsel; yscroll = r.yscroll; latch = r.latch; bad = r.bad; rising = r.rising; ba = v }
