-- VC, VCBASE, RC, VMLI and the display state (Bauer 3.7.2).
use Rattle.std.specs.Prelude.{ℕ, ◌+◌, ◌%◌, Bool, false, cond, not, ◌&&◌, ◌||◌, ◌==◌}
use Rattle.laws.specs.Pick.{pick}
use Rattle.schedule.specs.Diagram.{happens, vc_load, access_chosen, access_ends, graphics_access, character_access, row_ends}
use Rattle.rows.specs.declared.Rows.{Rows}
use Rattle.rows.specs.declared.Rowed.{Rowed}
use Rattle.rows.specs.Set.{vc≔, vmli≔}

-- 01, power-up: display Idle, transition Stable, character access off, all else 0
unfoldable pub fresh : Rows
fresh = record { vc = 0; vcbase = 0; rc = 0; vmli = 0; display = false; transition = false; access = false }

-- Bauer 3.7.2 rule 4: up by one after each access in display state, after k of them by k; VC has ten bits
unfoldable pub vc_after : ℕ → Bool → ℕ → ℕ
vc_after k moves vc = cond moves ((vc + k) % 1024) vc

unfoldable pub vmli_after : ℕ → Bool → ℕ → ℕ
vmli_after k moves vmli = cond moves ((vmli + k) % 256) vmli

-- Bauer 3.7.2 rule 5: RC up by one, three bits
unfoldable pub rc_after : Bool → ℕ → ℕ
rc_after goes rc = cond goes ((rc + 1) % 8) rc

-- departs, DIFFERENCES 1: on exactly if the line is bad where accesses are chosen, off where they end
unfoldable pub access_after : Bool → Bool → Bool → Bool → Bool
access_after chosen ends bad access = cond chosen bad (access && not ends)

-- Bauer 3.7.2 rule 5: RC 7 gives idle state; a bad line holds display state
unfoldable pub display_after : Bool → ℕ → Bool → Bool → Bool
display_after ends rc bad display = cond ends ((display && not (rc == 7)) || bad) display

-- one cycle of the display logic, and what the accesses of that cycle find
unfoldable pub rowed : ℕ → Bool → Bool → Bool → Rows → Rowed
rowed cycle bad rising wraps r =
    -- Bauer 3.7.2 rule 2
    let loads = happens vc_load cycle in
    let vc = pick loads r.vcbase r.vc in
    let vmli = pick loads 0 r.vmli in
    let rc = pick (loads && bad) 0 r.rc in
    -- 01, tick 2; departs, DIFFERENCES 27: a rise of the bad line sets Display
    let display = r.display || rising in
    let chosen = happens access_chosen cycle in
    let access = access_after chosen (happens access_ends cycle) bad r.access in
    -- DECISIONS 37: a pending transition makes one graphics access idle, and is over with it
    let graphics = happens graphics_access cycle in
    let waiting = r.transition && not chosen in
    let moves = graphics && display && not waiting in
    let ends = happens row_ends cycle in
    let shows = display_after ends rc bad display in
    record {
      rows = record {
        vc = vc_after 1 moves vc;
        -- Bauer 3.7.2 rule 5, and rule 1 at the frame's end
        vcbase = pick (ends && rc == 7) vc (pick wraps 0 r.vcbase);
        rc = rc_after (ends && shows) rc;
        vmli = vmli_after 1 moves vmli;
        display = shows;
        transition = waiting && not graphics;
        access = access;
      };
      vc = vc;
      vmli = vmli;
      rc = rc;
      graphics = graphics;
      moves = moves;
      waiting = waiting;
      fetches = happens character_access cycle && access;
    }

-- k accesses on, with nothing else of a row
abbrev pub rows_later : ℕ → Rows → Rows
rows_later k r = vc≔ (vc_after k r.display r.vc) (vmli≔ (vmli_after k r.display r.vmli) r)
