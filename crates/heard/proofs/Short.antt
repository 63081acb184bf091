-- 02 (xiii): a room of less than 32 bytes hears 17 at the place of the next byte, at each call. Assumes nothing.
use Prim.Native.Nat.{ℕ, zero, suc, ◌<◌}
use mathlib.Core.Path.{◌≡◌, refl, sym, ◌∙◌, ap}
use mathlib.Core.Bool.{Bool, true, false, cond}
use mathlib.Core.List.{List, [], ◌∷◌, ◌++◌}
use lib.Dec.{ltb}
use lib.ListN.{length, drop, replicate}
use borrow.Author.Tests.{lt-ltb}
use Rattle.grammar.specs.declared.Phase.TheVariants.{Done}
use Rattle.grammar.specs.Grammar.{go_to}
use Rattle.grammar.specs.Reading.{Said, Fault}
use Rattle.intake.specs.declared.Said.TheVariants as say
use Rattle.intake.specs.Machine.{Machine, machine, scan_of}
use Rattle.intake.specs.Answers.{tell_of, with_head, Next, next, answered, next_of}
use Rattle.heard.specs.Heard.{spoken_as, finished, wants_more, caller, goes_on, heard}

pub short_room : (n : ℕ) (m : Machine) (text : List ℕ) (from : ℕ) (parts : List (List ℕ)) → length m.room < 32
    → heard n (caller m text from parts) ≡ replicate n (Fault 17 m.reader.word.at)
unfolding heard next_of spoken_as finished wants_more goes_on
short_room zero m text from parts h = refl
short_room (suc n) m text from parts h =
    ap (λ (b : Bool). let x = cond b (next (tell_of (say.Refused 17 m.reader.word.at) m.reader (go_to m.reader.head Done) from) m.room m.pool) (answered (scan_of m (drop from text) from)) in
    spoken_as x.told.said x.told.tick ++ cond (finished x.told.said) [] (heard n (goes_on text parts x.told x.room x.pool)))
    (lt-ltb (length m.room) 32 h)
    ∙ ap (λ (l : List Said). Fault 17 m.reader.word.at ∷ l)
    (short_room n (machine (with_head m.reader (go_to m.reader.head Done)) m.room m.pool) text from parts h)
