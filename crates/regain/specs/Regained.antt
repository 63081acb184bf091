-- What the dump of a run is to read back as.
use Rattle.std.specs.Prelude.{ℕ, suc, List, [], ◌∷◌}
use Rattle.vcd.specs.declared.Record.{Record}
use Rattle.vcd.specs.Signals.{values_of}
use Rattle.grammar.specs.Reading.{Said, Tick}

-- nothing is unknown
abbrev pub known : List ℕ
known = 0 ∷ 0 ∷ 0 ∷ 0 ∷ 0 ∷ 0 ∷ 0 ∷ 0 ∷ []

-- 02 (xiii): the records it was written from, one a tick
unfoldable pub ticks_from : ℕ → List Record → List Said
ticks_from t [] = []
ticks_from t (r ∷ more) = Tick t (values_of r) known ∷ ticks_from (suc t) more
