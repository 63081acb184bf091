-- The step of a cycle with a graphics access, and of one without, is the definition's: what does not happen there is left out. Assumes nothing.
use Rattle.std.proofs.Common.{◌≡◌, ℕ, Bool, true, false, not, ◌&&◌, ◌||◌, refl}
use borrow.Author.Tests.{not-true}
use Rattle.laws.proofs.Choice.{picks, and_true, and_false, or_false}
use Rattle.schedule.specs.Diagram.{happens, graphics_access, access_ends}
use Rattle.schedule.proofs.Parts.{Lit, Mid, Still}
use Rattle.rows.specs.declared.Rows.{Rows}
use Rattle.rows.specs.declared.Rowed.{Rowed}
use Rattle.rows.specs.Rows.{vc_after, vmli_after, rc_after, access_after, display_after, rowed}

once : (a b : Bool) → (not b && (a && not b)) ≡ (a && not b)
once true true = refl
once true false = refl
once false true = refl
once false false = refl

module _ (c : ℕ) (bad rising : Bool) (r : Rows) where
  pub rows_lit : {over : Bool} {next_vc next_vmli : ℕ}
      → Lit c
      → happens graphics_access c ≡ true
      → over ≡ happens access_ends c
      → next_vc ≡ vc_after 1 ((r.display || rising) && not r.transition) r.vc
      → next_vmli ≡ vmli_after 1 ((r.display || rising) && not r.transition) r.vmli
      → ◌≡◌ {A = Rowed} (record {
        rows = record { vc = next_vc; vcbase = r.vcbase; rc = r.rc; vmli = next_vmli; display = r.display || rising; transition = false; access = r.access && not over };
        vc = r.vc;
        vmli = r.vmli;
        rc = r.rc;
        graphics = true;
        moves = (r.display || rising) && not r.transition;
        waiting = r.transition;
        fetches = r.access && not over;
      }) (rowed c bad rising false r)
  unfolding rowed access_after display_after rc_after
  rows_lit l g over vc vmli =
      rw (l.loads, l.chosen, l.ends, g, l.character, ← over, picks false r.vcbase r.vc, picks false 0 r.vmli, picks false 0 r.rc, picks false 0 r.vcbase, picks false r.vc r.vcbase, and_true r.transition, and_false r.transition, once r.access _, ← vc, ← vmli)

  -- and no frame ends
  pub rows_still : (wraps : Bool) → not wraps ≡ true → Still c
      → ◌≡◌ {A = Rowed} (record {
        rows = record { vc = r.vc; vcbase = r.vcbase; rc = r.rc; vmli = r.vmli; display = r.display || rising; transition = r.transition; access = r.access };
        vc = r.vc;
        vmli = r.vmli;
        rc = r.rc;
        graphics = false;
        moves = false;
        waiting = r.transition;
        fetches = false;
      }) (rowed c bad rising wraps r)
  unfolding rowed access_after display_after rc_after vc_after vmli_after
  rows_still wraps w s =
      rw (not-true wraps w, s.loads, s.chosen, s.over, s.ends, s.graphics, s.character, picks false r.vcbase r.vc, picks false 0 r.vmli, picks false 0 r.rc, picks false 0 r.vcbase, picks false r.vc r.vcbase, and_true r.transition, and_true r.transition, and_true r.access)

-- between the left compares and the last graphics access, with nothing pending
pub rows_mid : (c : ℕ) (r : Rows) → Lit c → Mid c → r.transition ≡ false → r.access ≡ false
    → ◌≡◌ {A = Rowed} (record {
      rows = record { vc = vc_after 1 r.display r.vc; vcbase = r.vcbase; rc = r.rc; vmli = vmli_after 1 r.display r.vmli; display = r.display; transition = false; access = false };
      vc = r.vc;
      vmli = r.vmli;
      rc = r.rc;
      graphics = true;
      moves = r.display;
      waiting = false;
      fetches = false;
    }) (rowed c false false false r)
unfolding rowed access_after display_after rc_after
rows_mid c r l m t a =
    rw (t, a, or_false r.display, l.loads, l.chosen, l.ends, m.graphics, l.character, m.over, picks false r.vcbase r.vc, picks false 0 r.vmli, picks false 0 r.rc, picks false 0 r.vcbase, picks false r.vc r.vcbase, and_true r.display)
