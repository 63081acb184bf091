-- 02 (xiii): whenever the caller stops, what was heard is the beginning of what the grammar says. Assumes nothing.
use Prim.Native.Nat.{ℕ, zero, suc, ◌+◌, ◌≤◌}
use mathlib.Core.Path.{◌≡◌, refl, sym, ◌∙◌, ap, subst}
use mathlib.Core.Bool.{Bool, true, false, cond}
use mathlib.Core.List.{List, [], ◌∷◌, ◌++◌, append_assoc}
use native.Mathlib.Omega.{arith}
use lib.ListN.{length}
use Rattle.grammar.specs.Reading.{Said, capture}
use Rattle.intake.specs.Machine.{machine}
use Rattle.intake.specs.Answers.{Next, next_of, start_of}
use Rattle.heard.specs.Heard.{file_of, spoken_as, finished, Caller, lent, goes_on, heard, Begins}
use Rattle.heard.proofs.Heard.{heard_is_the_grammar}

onward : (said s t : List Said) (x : Bool) → Begins s t → Begins (said ++ cond x [] s) (said ++ cond x [] t)
onward said s t true b = record { more = []; whole = sym (append_assoc said [] []) }
onward said s t false b =
    record { more = b.more; whole = ap (λ (l : List Said). said ++ l) b.whole ∙ sym (append_assoc said s b.more) }

-- more calls say the same, and more
pub calls_on : (n k : ℕ) (c : Caller) → n ≤ k → Begins (heard n c) (heard k c)
unfolding heard
calls_on zero k c h = record { more = heard k c; whole = refl }
calls_on (suc n) zero c h = absurd (omega arith)
calls_on (suc n) (suc k) c h =
    let x = next_of c.machine c.text c.from in
    let on = goes_on c.text c.parts x.told x.room x.pool in
    onward (spoken_as x.told.said x.told.tick) (heard n on) (heard k on) (finished x.told.said) (calls_on n k on (omega arith))

pub never_otherwise : (room pool : List ℕ) (parts : List (List ℕ)) (n : ℕ) → 32 ≤ length room
    → Begins (heard n (lent (machine start_of room pool) parts)) (capture (length room) (length pool) (file_of parts))
never_otherwise room pool parts n wide =
    let enough = n + (length (capture (length room) (length pool) (file_of parts)) + length parts + 2) in
    subst (Begins (heard n (lent (machine start_of room pool) parts))) (heard_is_the_grammar room pool parts enough wide (omega arith))
    (calls_on n enough (lent (machine start_of room pool) parts) (omega arith))
