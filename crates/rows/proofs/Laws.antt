-- What callers may know of the rows without opening them. Assumes nothing.
use Rattle.std.proofs.Common.{◌≡◌, ℕ, suc, ◌-◌, ◌<◌, Bool, true, false, not, sym, refl, ◌∙◌, arith}
use borrow.Author.Tests.{not-true, not-false}
use Rattle.laws.proofs.Choice.{either, picks}
use Rattle.schedule.specs.Diagram.{happens, first_of, character_access, vmli_counts}
use Rattle.rows.specs.declared.Waits.{Waits}
use Rattle.rows.specs.Pending.{place_of, pending_after, Pends}
use Rattle.rows.specs.Rows.{vc_after, vmli_after}
use Rattle.rows.specs.Fine.{vmli_limit}

pub place_small : (v : ℕ) → place_of v < 40
unfolding place_of
place_small v = omega arith

-- and so is the place that is pending, if there is one
pub pending_small : (missed : Bool) (vmli : ℕ) (old : Waits) → Pends old.place → Pends (pending_after missed vmli old).place
unfolding pending_after
pending_small missed vmli old h = either (λ (w : Waits). Pends w.place) missed (place_small vmli) h

-- nothing missed
pub none_missed : (vmli : ℕ) (old : Waits) → old ≡ pending_after false vmli old
unfolding pending_after
none_missed vmli old = refl

-- VMLI is far within its byte
pub limit_small : (cycle : ℕ) → cycle < 66 → vmli_limit cycle < 256
unfolding vmli_limit
limit_small cycle h = rw (picks (happens vmli_counts cycle) (cycle - first_of character_access) 40) (either (λ (n : ℕ). n < 256) (happens vmli_counts cycle) (omega arith) (omega arith))

-- VMLI's limit where it does not count, and where it does
module _ (cycle : ℕ) {counts : Bool} (e : counts ≡ happens vmli_counts cycle) where
  pub whole : not counts ≡ true → 40 ≡ vmli_limit cycle
  unfolding vmli_limit
  whole t = sym (picks (happens vmli_counts cycle) (cycle - first_of character_access) 40 ∙ simp (sym e ∙ not-true counts t))

  pub behind : not counts ≡ false → cycle - 15 ≡ vmli_limit cycle
  unfolding vmli_limit
  behind t = sym (picks (happens vmli_counts cycle) (cycle - first_of character_access) 40 ∙ simp (sym e ∙ not-false counts t))

-- one access, and k more
pub vc_one_more : (k : ℕ) (moves : Bool) (vc : ℕ) → vc_after k moves (vc_after 1 moves vc) ≡ vc_after (suc k) moves vc
unfolding vc_after
vc_one_more k true vc = omega arith
vc_one_more k false vc = refl

pub vmli_one_more : (k : ℕ) (moves : Bool) (vmli : ℕ) → vmli_after k moves (vmli_after 1 moves vmli) ≡ vmli_after (suc k) moves vmli
unfolding vmli_after
vmli_one_more k true vmli = omega arith
vmli_one_more k false vmli = refl

-- no access at all
pub vc_none : (moves : Bool) (vc : ℕ) → vc < 1024 → vc_after 0 moves vc ≡ vc
unfolding vc_after
vc_none true vc h = omega arith
vc_none false vc h = refl

pub vmli_none : (moves : Bool) (vmli : ℕ) → vmli < 256 → vmli_after 0 moves vmli ≡ vmli
unfolding vmli_after
vmli_none true vmli h = omega arith
vmli_none false vmli h = refl
