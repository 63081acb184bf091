-- A tick keeps the rows of a state we accept as such a state has them, and power-up gives some. Assumes nothing.
use Rattle.std.proofs.Common.{◌≡◌, ℕ, ◌+◌, ◌-◌, ◌<◌, ◌≤◌, Bool, true, false, cond, not, ◌&&◌, ◌||◌, refl, arith}
use native.Mathlib.Decide.{dec_lt}
use Rattle.laws.specs.Pick.{pick}
use Rattle.laws.proofs.Choice.{either, left, picks, pick_either}
use Rattle.schedule.specs.Kind.{Kind, last_cycle}
use Rattle.schedule.proofs.Places.{last_most}
use Rattle.schedule.specs.Diagram.{happens, first_of, vc_load, access_chosen, character_access, vmli_counts, graphics_access}
use Rattle.schedule.proofs.Laws.{load_alone, room, room_next, room_wraps}
use Rattle.timing.specs.Beam.{next_cycle}
use Rattle.timing.proofs.Kept.{cycle_small, cycle_next, cycle_wraps}
use Rattle.rows.specs.declared.Rows.{Rows}
use Rattle.rows.specs.Rows.{fresh, vc_after, vmli_after, rc_after, rowed}
use Rattle.rows.specs.Fine.{FineRows, vmli_limit}

-- the counters of a row
vc_kept : (moves : Bool) (n : ℕ) → n ≤ 1023 → vc_after 1 moves n ≤ 1023
unfolding vc_after
vc_kept moves n h = either (λ (m : ℕ). m ≤ 1023) moves (omega arith) h

rc_kept : (goes : Bool) (n : ℕ) → n ≤ 7 → rc_after goes n ≤ 7
unfolding rc_after
rc_kept goes n h = either (λ (m : ℕ). m ≤ 7) goes (omega arith) h

-- VMLI moves only by a graphics access g, and not where it is cleared
vmli_moves : (loads moves g : Bool) (v a b : ℕ)
    → (moves ≡ true → g ≡ true)
    → (loads ≡ true → g ≡ false)
    → (loads ≡ false → a + cond g 1 0 ≤ b)
    → v ≤ a
    → vmli_after 1 moves (pick loads 0 v) ≤ b
unfolding vmli_after
vmli_moves loads moves g v a b m l n h = rw (picks loads 0 v) (cleared loads moves m l n)
  where
    cleared : (loads moves : Bool)
        → (moves ≡ true → g ≡ true)
        → (loads ≡ true → g ≡ false)
        → (loads ≡ false → a + cond g 1 0 ≤ b)
        → vmli_after 1 moves (cond loads 0 v) ≤ b
    cleared true true m l n = let z : ◌≡◌ {A = ℕ} 0 1 = cc (m refl, l refl) in omega arith
    cleared true false m l n = omega arith
    cleared false true m l n = let k : a + 1 ≤ b = rw (m refl) at (n refl) in omega arith
    cleared false false m l n = omega (arith, n refl)

module _ (k : Kind) where
  -- the room of the next cycle
  room_kept : (c : ℕ) → c ≤ last_cycle k → happens vc_load (next_cycle k c) ≡ false → vmli_limit c + cond (happens graphics_access (next_cycle k c)) 1 0 ≤ vmli_limit (next_cycle k c)
  unfolding vmli_limit
  room_kept c h e =
      rw (picks (happens vmli_counts c) (c - first_of character_access) 40, picks (happens vmli_counts (next_cycle k c)) (next_cycle k c - first_of character_access) 40) (by_place (dec_lt c (last_cycle k)))
    where
      by_place : Dec (c < last_cycle k) → room c + cond (happens graphics_access (next_cycle k c)) 1 0 ≤ room (next_cycle k c)
      by_place (yes l) = rw (cycle_next k c l) (room_next c (omega (arith, last_most k)) (rw (cycle_next k c l) at e))
      by_place (no l) =
          let last : c ≡ last_cycle k = omega arith in
          rw (last, cycle_wraps k (last_cycle k) (omega arith)) (room_wraps k)

  vmli_kept : (c v : ℕ) (moves : Bool) → c ≤ last_cycle k → (moves ≡ true → happens graphics_access (next_cycle k c) ≡ true) → v ≤ vmli_limit c
      → vmli_after 1 moves (pick (happens vc_load (next_cycle k c)) 0 v) ≤ vmli_limit (next_cycle k c)
  vmli_kept c v moves h m l =
      vmli_moves (happens vc_load (next_cycle k c)) moves (happens graphics_access (next_cycle k c)) v (vmli_limit c) (vmli_limit (next_cycle k c)) m
      (load_alone (next_cycle k c) (cycle_small k c)) (room_kept c h) l

  -- a tick keeps the rows of a state we accept
  pub rows_kept : (c : ℕ) (bad rising wraps : Bool) (r : Rows) → c ≤ last_cycle k → FineRows c r → FineRows (next_cycle k c) (rowed (next_cycle k c) bad rising wraps r).rows
  unfolding rowed
  rows_kept c bad rising wraps r h f =
      let loads = happens vc_load (next_cycle k c) in
      let graphics = happens graphics_access (next_cycle k c) in
      let shows = r.display || rising in
      let free = not (r.transition && not (happens access_chosen (next_cycle k c))) in
      let vc : pick loads r.vcbase r.vc ≤ 1023 = pick_either (λ (m : ℕ). m ≤ 1023) loads f.vcbase f.vc in
      record {
        vc = vc_kept _ _ vc;
        vcbase = pick_either (λ (m : ℕ). m ≤ 1023) _ vc (pick_either (λ (m : ℕ). m ≤ 1023) wraps (omega arith) f.vcbase);
        rc = rc_kept _ _ (pick_either (λ (m : ℕ). m ≤ 7) (loads && bad) (omega arith) f.rc);
        vmli = vmli_kept c r.vmli (graphics && shows && free) h (λ e. left graphics shows (left (graphics && shows) free e)) f.vmli;
      }

pub fresh_fine : (cycle : ℕ) → FineRows cycle fresh
unfolding fresh
fresh_fine cycle = record { vc = omega arith; vcbase = omega arith; rc = omega arith; vmli = omega arith }
