-- What callers may know of the schedule without opening it. Assumes nothing.
use mathlib.Core.Path.{◌≡◌, subst}
use mathlib.Core.Bool.{Bool, true, false, ◌&&◌, ◌||◌, cond}
use Prim.Native.Nat.{ℕ, zero, suc, ◌+◌, ◌-◌, ◌<◌, ◌≤◌}
use native.Mathlib.Omega.{arith}
use borrow.Author.Tests.{ne_eqb}
use lib.Dec.{T, leb, leb→le}
use Rattle.laws.proofs.Choice.{either}
use Rattle.laws.proofs.Below as Below
use Rattle.schedule.specs.Kind.{Kind, the6569, the6567_r8, last_cycle}
use Rattle.schedule.specs.Diagram.{happens, first_of, line_begins, vc_load, character_access, vmli_counts, graphics_access, slot_sprite, slot_below, on_line, during, diagram, pointer_of, data_of}

below : (k : Kind) (n c : ℕ) → slot_below k n c ≤ n
below k zero c = omega arith
below k (suc n) c =
    either (λ (m : ℕ). m ≤ suc n) (during (diagram (pointer_of k n)) c || during (diagram (data_of k n)) c) (omega arith) (omega (arith, below k n c))

below_one : (k : Kind) (n c : ℕ) → slot_below k (suc n) c ≤ n
below_one k n c =
    either (λ (m : ℕ). m ≤ n) (during (diagram (pointer_of k n)) c || during (diagram (data_of k n)) c) (omega arith) (omega (arith, below k n c))

-- a slot is one of eight sprites'
pub slot_small : (k : Kind) (c : ℕ) → slot_sprite k c < 8
unfolding slot_sprite
slot_small k c = either (λ (m : ℕ). m < 8) (on_line k c) (omega (arith, below_one k 7 c)) (omega arith)

-- a line begins in no cycle after its first
pub not_begun : (c : ℕ) → 1 ≤ c → happens line_begins (c + 1) ≡ false
unfolding happens
not_begun c h = ne_eqb (c + 1) 1 (λ (e : c + 1 ≡ 1). omega arith)

-- no graphics access in the cycle that loads VC and clears VMLI
pub load_alone : (c : ℕ) → c < 66 → happens vc_load c ≡ true → happens graphics_access c ≡ false
unfolding happens
load_alone c h e = rw e at (Below.same_test (λ k. happens vc_load k && happens graphics_access k) (λ k. false) 66 tt c h)

-- how far VMLI may have counted after cycle c
abbrev pub room : ℕ → ℕ
room c = cond (happens vmli_counts c) (c - first_of character_access) 40

-- the room of cycle c, one more by a graphics access in cycle d, is within that of cycle d
abbrev within : ℕ → ℕ → Bool
within c d = leb (room c + cond (happens graphics_access d) 1 0) (room d)

unless : (a b : Bool) → T (a || b) → a ≡ false → T b
unless true b t e = absurd (subst T e t)
unless false b t e = t

-- but in the cycle that clears VMLI
pub room_next : (c : ℕ) → c < 65 → happens vc_load (c + 1) ≡ false → room c + cond (happens graphics_access (c + 1)) 1 0 ≤ room (c + 1)
unfolding happens
room_next c h e =
    leb→le _ _ (unless (happens vc_load (c + 1)) (within c (c + 1)) (Below.below (λ k. happens vc_load (k + 1) || within k (k + 1)) 65 tt c h) e)

-- and from the last cycle to the first
pub room_wraps : (k : Kind) → room (last_cycle k) + cond (happens graphics_access 1) 1 0 ≤ room 1
unfolding happens
room_wraps the6569 = omega arith
room_wraps the6567_r8 = omega arith
