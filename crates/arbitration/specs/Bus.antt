-- BA warns the CPU and AEC takes the bus (Bauer 3.6.1); how many cycles of a line it took so far (02 (xi)).
use Rattle.std.specs.Prelude.{ℕ, zero, suc, ◌+◌, ◌*◌, ◌≤◌, ◌≡◌, Bool, true, false, not, ◌&&◌, ◌||◌, cond, eqb, ℤ, pos, negsuc, ◌+ℤ◌}
use Rattle.std.specs.Int.Bits.{bit_and}
use Rattle.schedule.specs.Kind.{Kind}
use Rattle.schedule.specs.Diagram.{happens, first_phase, second_phase}
use Rattle.schedule.specs.Requests.{mask_at}
use Rattle.arbitration.specs.declared.Bus.{Bus}
use Rattle.arbitration.specs.Set.{clock≔, lost≔}

-- 01, power-up: clock 0, AEC counter 3; 02 (xi): no cycle lost
unfoldable pub fresh : Bus
fresh = record { clock = pos 0; fall = pos 0; rise = pos 0; aec = pos 3; balow = false; aeclow = false; lost = 0 }

-- 01, tick 1: clock +2, after k cycles k times
unfoldable pub clock_on : ℕ → ℤ → ℤ
clock_on k clock = clock +ℤ pos (k * 2)

unfoldable pub clocked : ℕ → Bus → Bus
clocked k b = clock≔ (clock_on k b.clock) b

-- Bauer 3.8.1: a sprite with DMA on whose slots are near, by the mask of a cycle's requests
unfoldable pub sprite_asks : ℕ → ℕ → Bool
sprite_asks dma mask = not (eqb (bit_and dma mask) 0)

-- Bauer 3.6.1: the matrix asks by a low BA output, a sprite by its DMA
unfoldable pub requested : Bool → ℕ → ℕ → Bool
requested ba dma mask = not ba || sprite_asks dma mask

-- 01, Arbitration: a request counts down to −1
abbrev pub down : ℤ → ℤ
down (negsuc n) = negsuc n
down (pos zero) = negsuc 0
down (pos (suc n)) = pos n

-- 01, Arbitration: no request sets 3; so AEC falls in the fourth cycle of a request (Bauer 3.6.1)
unfoldable pub aec_after : ℤ → Bool → ℤ
aec_after aec asked = cond asked (down aec) (pos 3)

-- 01, States we accept: AEC counter −1 to 3
abbrev pub Counted : ℤ → Type 0
Counted (pos n) = n ≤ 3
Counted (negsuc n) = n ≡ 0

-- 01, Arbitration: AEC is low below 0
unfoldable pub low : ℤ → Bool
low (negsuc n) = true
low (pos n) = false

-- 01, Arbitration: when BA falls or rises here, that edge's clock field takes the present clock
unfoldable pub arbitrated : Bus → Bool → Bus
arbitrated b asked =
    record {
      clock = b.clock;
      fall = cond (asked && not b.balow) b.clock b.fall;
      rise = cond (not asked && b.balow) b.clock b.rise;
      aec = aec_after b.aec asked;
      balow = asked;
      aeclow = low (aec_after b.aec asked);
      lost = b.lost;
    }

-- 02 (xi): 0 where a line begins, before that tick is counted; then one more where AEC is low after it
unfoldable pub lost_after : Bool → Bool → ℕ → ℕ
lost_after begins taken lost = cond begins 0 lost + cond taken 1 0

unfoldable pub counted : Bool → Bus → Bus
counted begins b = lost≔ (lost_after begins b.aeclow b.lost) b

-- 01, Arbitration: the DMA mask of the cycle before counts in the two DMA phases
unfoldable pub phi1_mask : Kind → ℕ → ℕ → ℕ → ℕ
phi1_mask k dma previous cycle = cond (happens (first_phase k) cycle || happens (second_phase k) cycle) previous dma

unfoldable pub phi1_high : Kind → Bool → ℕ → ℕ → ℕ → Bool
phi1_high k ba dma previous cycle = ba && not (sprite_asks (phi1_mask k dma previous cycle) (mask_at k cycle))
