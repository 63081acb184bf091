-- A record with one field changed: the only place that lists every field. Written by tools/setters.
use Rattle.std.specs.Prelude.{ℕ, Bool, Option}
use Rattle.rows.specs.declared.Rows.{Rows}
use Rattle.rows.specs.declared.Waits.{Waits}

abbrev pub vc≔ : ℕ → Rows → Rows
vc≔ v r = record { vc = v; vcbase = r.vcbase; rc = r.rc; vmli = r.vmli; display = r.display; transition = r.transition; access = r.access }

abbrev pub vcbase≔ : ℕ → Rows → Rows
vcbase≔ v r = record { vc = r.vc; vcbase = v; rc = r.rc; vmli = r.vmli; display = r.display; transition = r.transition; access = r.access }

abbrev pub rc≔ : ℕ → Rows → Rows
rc≔ v r = record { vc = r.vc; vcbase = r.vcbase; rc = v; vmli = r.vmli; display = r.display; transition = r.transition; access = r.access }

abbrev pub vmli≔ : ℕ → Rows → Rows
vmli≔ v r = record { vc = r.vc; vcbase = r.vcbase; rc = r.rc; vmli = v; display = r.display; transition = r.transition; access = r.access }

abbrev pub display≔ : Bool → Rows → Rows
display≔ v r = record { vc = r.vc; vcbase = r.vcbase; rc = r.rc; vmli = r.vmli; display = v; transition = r.transition; access = r.access }

abbrev pub transition≔ : Bool → Rows → Rows
transition≔ v r = record { vc = r.vc; vcbase = r.vcbase; rc = r.rc; vmli = r.vmli; display = r.display; transition = v; access = r.access }

abbrev pub access≔ : Bool → Rows → Rows
access≔ v r = record { vc = r.vc; vcbase = r.vcbase; rc = r.rc; vmli = r.vmli; display = r.display; transition = r.transition; access = v }

abbrev pub place≔ : Option ℕ → Waits → Waits
place≔ v r = record { place = v }
