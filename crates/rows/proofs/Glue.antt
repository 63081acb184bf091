-- The numbers that the calls gave, put together, are the definition's record. Assumes nothing.
use Rattle.std.proofs.Common.{◌≡◌, ℕ, Bool, not, ◌&&◌, ◌||◌, eqb}
use Rattle.laws.specs.Pick.{pick}
use Rattle.schedule.specs.Diagram.{happens, vc_load, access_chosen, access_ends, graphics_access, character_access, row_ends}
use Rattle.rows.specs.declared.Rows.{Rows}
use Rattle.rows.specs.declared.Rowed.{Rowed}
use Rattle.rows.specs.Rows.{vc_after, vmli_after, rc_after, access_after, display_after, rowed}

pub rows_glue : (cycle : ℕ) (bad rising wraps : Bool) (r : Rows) {loads chosen over access graphics character ends shows : Bool} {vc vmli rc based base next_vc next_vmli next_rc : ℕ}
    → loads ≡ happens vc_load cycle
    → vc ≡ pick loads r.vcbase r.vc
    → vmli ≡ pick loads 0 r.vmli
    → rc ≡ pick (loads && bad) 0 r.rc
    → chosen ≡ happens access_chosen cycle
    → over ≡ happens access_ends cycle
    → access ≡ access_after chosen over bad r.access
    → graphics ≡ happens graphics_access cycle
    → character ≡ happens character_access cycle
    → ends ≡ happens row_ends cycle
    → shows ≡ display_after ends rc bad (r.display || rising)
    → based ≡ pick wraps 0 r.vcbase
    → base ≡ pick (ends && eqb rc 7) vc based
    → next_vc ≡ vc_after 1 (graphics && (r.display || rising) && not (r.transition && not chosen)) vc
    → next_vmli ≡ vmli_after 1 (graphics && (r.display || rising) && not (r.transition && not chosen)) vmli
    → next_rc ≡ rc_after (ends && shows) rc
    → ◌≡◌ {A = Rowed} (record {
      rows = record { vc = next_vc; vcbase = base; rc = next_rc; vmli = next_vmli; display = shows; transition = (r.transition && not chosen) && not graphics; access = access };
      vc = vc;
      vmli = vmli;
      rc = rc;
      graphics = graphics;
      moves = graphics && (r.display || rising) && not (r.transition && not chosen);
      waiting = r.transition && not chosen;
      fetches = character && access;
    }) (rowed cycle bad rising wraps r)
unfolding rowed
rows_glue cycle bad rising wraps r loads vc vmli rc chosen over access graphics character ends shows based base next_vc next_vmli next_rc =
    rw (← loads, ← vc, ← vmli, ← rc, ← chosen, ← over, ← access, ← graphics, ← character, ← ends, ← shows, ← based, ← base, ← next_vc, ← next_vmli, ← next_rc)
