-- A record with one field changed: the only place that lists every field. Written by tools/setters.
use Rattle.std.specs.Prelude.{ℕ, Bool, ℤ}
use Rattle.arbitration.specs.declared.Bus.{Bus}

abbrev pub clock≔ : ℤ → Bus → Bus
clock≔ v r = record { clock = v; fall = r.fall; rise = r.rise; aec = r.aec; balow = r.balow; aeclow = r.aeclow; lost = r.lost }

abbrev pub fall≔ : ℤ → Bus → Bus
fall≔ v r = record { clock = r.clock; fall = v; rise = r.rise; aec = r.aec; balow = r.balow; aeclow = r.aeclow; lost = r.lost }

abbrev pub rise≔ : ℤ → Bus → Bus
rise≔ v r = record { clock = r.clock; fall = r.fall; rise = v; aec = r.aec; balow = r.balow; aeclow = r.aeclow; lost = r.lost }

abbrev pub aec≔ : ℤ → Bus → Bus
aec≔ v r = record { clock = r.clock; fall = r.fall; rise = r.rise; aec = v; balow = r.balow; aeclow = r.aeclow; lost = r.lost }

abbrev pub balow≔ : Bool → Bus → Bus
balow≔ v r = record { clock = r.clock; fall = r.fall; rise = r.rise; aec = r.aec; balow = v; aeclow = r.aeclow; lost = r.lost }

abbrev pub aeclow≔ : Bool → Bus → Bus
aeclow≔ v r = record { clock = r.clock; fall = r.fall; rise = r.rise; aec = r.aec; balow = r.balow; aeclow = v; lost = r.lost }

abbrev pub lost≔ : ℕ → Bus → Bus
lost≔ v r = record { clock = r.clock; fall = r.fall; rise = r.rise; aec = r.aec; balow = r.balow; aeclow = r.aeclow; lost = v }
