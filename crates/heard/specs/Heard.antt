-- 02 (xiii): all that a reader says of a file that is lent to it in parts.
use Rattle.std.specs.Prelude.{ℕ, zero, suc, ◌≡◌, Bool, true, false, cond, List, [], ◌∷◌, ◌++◌}
use Rattle.grammar.specs.Reading.{Said, Signals, Tick, Fault}
use Rattle.intake.specs.declared.Record.{Record}
use Rattle.intake.specs.declared.Told.{Told}
use Rattle.intake.specs.declared.Said as Answer
use Rattle.intake.specs.declared.Said.TheVariants as say
use Rattle.intake.specs.Machine.{Machine, machine}
use Rattle.intake.specs.Answers.{Next, next_of, end_of}

unfoldable pub file_of : List (List ℕ) → List ℕ
file_of [] = []
file_of (p ∷ more) = p ++ file_of more

-- an answer in the grammar's words; that a part is over, and that all is told, say nothing of the file
unfoldable pub spoken_as : Answer.Said → Record → List Said
spoken_as (say.Signals n) t = Signals n ∷ []
spoken_as say.Tick t = Tick t.time t.values t.unknown ∷ []
spoken_as (say.Refused n place) t = Fault n place ∷ []
spoken_as say.More t = []
spoken_as say.End t = []

unfoldable pub finished : Answer.Said → Bool
finished say.End = true
finished say.More = false
finished (say.Signals n) = false
finished say.Tick = false
finished (say.Refused n place) = false

unfoldable pub wants_more : Answer.Said → Bool
wants_more say.More = true
wants_more say.End = false
wants_more (say.Signals n) = false
wants_more say.Tick = false
wants_more (say.Refused n place) = false

-- one who asks: the reader with its room and pool, the part at hand and the place in it, and the parts to come
pub record Caller : Type 0 where
  pub machine : Machine
  pub text : List ℕ
  pub from : ℕ
  pub parts : List (List ℕ)

abbrev pub caller : Machine → List ℕ → ℕ → List (List ℕ) → Caller
caller m text from parts = record { machine = m; text = text; from = from; parts = parts }

-- the next part is lent; after the last, the end of the file is told to the reader
unfoldable pub lent : Machine → List (List ℕ) → Caller
lent m [] = caller (end_of m) [] 0 []
lent m (p ∷ more) = caller m p 0 more

unfoldable pub goes_on : List ℕ → List (List ℕ) → Told → List ℕ → List ℕ → Caller
goes_on text parts t room pool =
    cond (wants_more t.said) (lent (machine t.reader room pool) parts) (caller (machine t.reader room pool) text t.at parts)

-- what so many calls say
unfoldable pub heard : ℕ → Caller → List Said
heard zero c = []
heard (suc n) c =
    let x = next_of c.machine c.text c.from in
    spoken_as x.told.said x.told.tick ++ cond (finished x.told.said) [] (heard n (goes_on c.text c.parts x.told x.room x.pool))

-- nothing is said after a fault
unfoldable pub Last : List Said → Type 0
Last [] = true ≡ true
Last (Fault n place ∷ more) = more ≡ []
Last (Signals n ∷ more) = Last more
Last (Tick t values unknown ∷ more) = Last more

-- what is said so far, and what is still to be said
pub record Begins (said all : List Said) : Type 0 where
  pub more : List Said
  pub whole : all ≡ said ++ more
