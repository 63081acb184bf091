-- A tick in a cycle with a graphics access and in one without: what their functions ask, and the orders that both hand on.
-- No rules: what private functions hand on where a tick is worked in two halves.
use Rattle.std.specs.Prelude.{ℕ, ◌<◌, ◌≡◌, Bool, true, false, not, ◌&&◌, ◌||◌, eqb}
use Rattle.schedule.specs.Diagram.{happens, graphics_access}
use Rattle.rows.specs.declared.Rowed.{Rowed}
use Rattle.side.specs.declared.Orders.{Orders}

-- a cycle with a graphics access, and a line's cycle that has none
abbrev pub Draws : ℕ → Type 0
Draws cycle = happens graphics_access cycle ≡ true

pub record Rests (cycle : ℕ) : Type 0 where
  pub small : cycle < 66
  pub dark : happens graphics_access cycle ≡ false

-- what the picture is told, but for the slot's fields and the refresh counter, which each part of a line fills in
abbrev pub orders_of : ℕ → Bool → Bool → Rowed → Bool → Orders
orders_of cycle bad hidden now aeclow =
    record {
      cycle = cycle;
      graphics = now.graphics;
      moves = now.moves;
      waiting = now.waiting;
      plain = bad || not (eqb now.rc 0);
      hidden = hidden;
      vc = now.vc;
      vmli = now.vmli;
      rc = now.rc;
      fills = now.fetches && aeclow;
      place = now.rows.vmli;
      column = now.rows.vc;
      sprite = 0;
      pointing = false;
      fetching = false;
      mask = false;
      mc = 0;
      low = false;
      refresh = 0;
    }
