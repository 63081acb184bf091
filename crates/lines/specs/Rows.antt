-- VC, VCBASE, RC, VMLI and the display state over a line (Bauer 3.7.2).
use Rattle.std.specs.Prelude.{ℕ, Bool, false, not, ◌&&◌, ◌||◌, eqb}
use Rattle.laws.specs.Pick.{pick}
use Rattle.rows.specs.declared.Rows.{Rows}
use Rattle.rows.specs.Rows.{vc_after, vmli_after, rc_after}

-- Bauer 3.7.2 rule 1: a frame's end clears VCBASE
unfoldable pub base_of : Bool → Rows → ℕ
base_of wraps r = pick wraps 0 r.vcbase

-- Bauer 3.7.2 rule 2: on a bad line RC is cleared
unfoldable pub rc_of : Bool → Rows → ℕ
rc_of bad r = pick bad 0 r.rc

-- 01, tick 2: the rise of a bad line gives display state, and the forty accesses find it so; a transition that was pending is over before them
unfoldable pub shows_of : Bool → Rows → Bool
shows_of rises r = r.display || rises

-- Bauer 3.7.2 rules 2 to 5: VC from VCBASE and VMLI from 0, forty on in display state; then RC 7 gives idle state and VCBASE, and in display state RC goes up
unfoldable pub rows_line : Bool → Bool → Bool → Rows → Rows
rows_line bad rises wraps r =
    let shows = shows_of rises r in
    let base = base_of wraps r in
    let rc = rc_of bad r in
    let vc = vc_after 40 shows base in
    let goes = (shows && not (eqb rc 7)) || bad in
    record {
      vc = vc;
      vcbase = pick (eqb rc 7) vc base;
      rc = rc_after goes rc;
      vmli = vmli_after 40 shows 0;
      display = goes;
      transition = false;
      access = false;
    }
