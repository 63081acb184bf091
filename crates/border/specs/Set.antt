-- One setter for each field, or for fields that change together: the only place that lists every field.
use Rattle.std.specs.Prelude.{ℕ, Bool}
use Rattle.border.specs.declared.Border.{Border}

-- Bauer 3.9: a set vertical flip-flop also shuts off the output of the graphics
abbrev pub vertical≔ : Bool → Border → Border
vertical≔ v b = record { vertical = v; main = b.main; old = b.old; disabled = v; part40 = b.part40; part38 = b.part38; top = b.top; bottom = b.bottom }

abbrev pub main≔ : Bool → Border → Border
main≔ v b = record { vertical = b.vertical; main = v; old = b.old; disabled = b.disabled; part40 = b.part40; part38 = b.part38; top = b.top; bottom = b.bottom }

abbrev pub old≔ : Bool → Border → Border
old≔ v b = record { vertical = b.vertical; main = b.main; old = v; disabled = b.disabled; part40 = b.part40; part38 = b.part38; top = b.top; bottom = b.bottom }

abbrev pub part40≔ : ℕ → Border → Border
part40≔ v b = record { vertical = b.vertical; main = b.main; old = b.old; disabled = b.disabled; part40 = v; part38 = b.part38; top = b.top; bottom = b.bottom }

abbrev pub part38≔ : ℕ → Border → Border
part38≔ v b = record { vertical = b.vertical; main = b.main; old = b.old; disabled = b.disabled; part40 = b.part40; part38 = v; top = b.top; bottom = b.bottom }

abbrev pub compares≔ : ℕ → ℕ → Border → Border
compares≔ t u b = record { vertical = b.vertical; main = b.main; old = b.old; disabled = b.disabled; part40 = b.part40; part38 = b.part38; top = t; bottom = u }
