-- The parts of the timing side go their own ways: what a tick leaves, and what it orders of the picture. Assumes nothing.
use Prim.Native.Nat.{ℕ, zero, suc, ◌<◌}
use mathlib.Core.Path.{◌≡◌, ◌∙◌, ap}
use mathlib.Core.Bool.{not, ◌&&◌, ◌||◌}
use native.Mathlib.Omega.{arith}
use lib.Dec.{eqb}
use Rattle.laws.specs.Bits.{has_bit}
use Rattle.laws.specs.Pick.{pick}
use Rattle.schedule.specs.Kind.{last_cycle}
use Rattle.schedule.specs.Diagram.{slot_sprite, slot_after_bus, pointer_time, data_time}
use Rattle.registers.specs.declared.Controls.{Controls}
use Rattle.timing.specs.Beam.{next_cycle, beam_turned}
use Rattle.timing.proofs.Kept.{cycle_next, cycle_wraps}
use Rattle.sprites.specs.Sprites.{sprite_at}
use Rattle.side.specs.declared.Side.{Side}
use Rattle.side.specs.declared.Orders.{Orders}
use Rattle.side.specs.declared.Turned.{Turned}
use Rattle.side.specs.Turn.{turned}
use Rattle.lines.specs.Begin.{kind_in}
use Rattle.lines.specs.Lines.{turns_on}
use Rattle.lines.proofs.Parts.{sweep_in, bad_in, border_in, sprites_in, phased_in, asked_in, bus_in, rows_in, rowed_in, pending_in, found_in, refresh_in, side_in}

module _ (g : Controls) (s : Side) where
  -- the orders of cycle n + 1
  abbrev pub orders_in : ℕ → Orders
  orders_in n =
      record {
        cycle = suc n;
        graphics = (rowed_in g s n).graphics;
        moves = (rowed_in g s n).moves;
        waiting = (rowed_in g s n).waiting;
        plain = bad_in g s (suc n) || not (eqb (rowed_in g s n).rc 0);
        hidden = (border_in g s (suc n)).disabled;
        vc = (rowed_in g s n).vc;
        vmli = (rowed_in g s n).vmli;
        rc = (rowed_in g s n).rc;
        fills = (rowed_in g s n).fetches && (bus_in g s (suc n)).aeclow;
        place = (rowed_in g s n).rows.vmli;
        column = (rowed_in g s n).rows.vc;
        sprite = slot_sprite (kind_in s) (suc n);
        pointing = pointer_time (kind_in s) (suc n);
        fetching = data_time (kind_in s) (suc n);
        mask = has_bit (phased_in g s n).dma (slot_sprite (kind_in s) (suc n));
        mc = (sprite_at (phased_in g s n) (slot_sprite (kind_in s) (suc n))).mc;
        low = pick (slot_after_bus (kind_in s) (suc n)) (bus_in g s (suc n)).aeclow (bus_in g s n).aeclow;
        refresh = found_in g s n (refresh_in g s n);
      }

  abbrev pub turn_in : ℕ → Turned
  turn_in n = record { side = side_in g s n; orders = orders_in n }

  pub turn_first : s.beam.cycle ≡ last_cycle (kind_in s) → turned g s ≡ turn_in 0
  unfolding turned beam_turned sweep_in bad_in border_in sprites_in asked_in bus_in rows_in pending_in refresh_in
  turn_first end = let e : next_cycle (kind_in s) s.beam.cycle ≡ 1 = cycle_wraps (kind_in s) s.beam.cycle (omega (arith, end)) in rw e

  pub turn_next : (n : ℕ) → suc n < last_cycle (kind_in s) → turned g (side_in g s n) ≡ turn_in (suc n)
  unfolding turned beam_turned sweep_in bad_in border_in sprites_in asked_in bus_in rows_in pending_in refresh_in
  turn_next n l = let e : next_cycle (kind_in s) (suc n) ≡ suc (suc n) = cycle_next (kind_in s) (suc n) l ∙ (omega arith) in rw e

  pub split : s.beam.cycle ≡ last_cycle (kind_in s) → (n : ℕ) → n < last_cycle (kind_in s) → turns_on g (suc n) s ≡ side_in g s n
  unfolding turns_on
  split end zero l = ap (λ (t : Turned). t.side) (turn_first end)
  split end (suc n) l = ap (λ (x : Side). (turned g x).side) (split end n (omega arith)) ∙ ap (λ (t : Turned). t.side) (turn_next n l)
