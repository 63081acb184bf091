-- A record with one field changed: the only place that lists every field. Written by tools/setters.
use Rattle.std.specs.Prelude.{Bool}
use Rattle.raster.specs.declared.Frame.{Frame}

abbrev pub ending≔ : Bool → Frame → Frame
ending≔ v r = record { ending = v; matched = r.matched }

abbrev pub matched≔ : Bool → Frame → Frame
matched≔ v r = record { ending = r.ending; matched = v }
