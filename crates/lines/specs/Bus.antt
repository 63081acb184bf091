-- BA and AEC over a line (Bauer 3.6.1), as waves: what each of its cycles has.
use Rattle.std.specs.Prelude.{ℕ, zero, suc, ◌+◌, ◌-◌, Bool, true, not, ◌&&◌, ◌||◌, cond, List, eqb, ltb, ℤ, pos, negsuc}
use Rattle.schedule.specs.Kind.{Kind, last_cycle}
use Rattle.schedule.specs.Diagram.{happens, first_of, matrix_request, first_phase, second_phase}
use Rattle.schedule.specs.Requests.{mask_at}
use Rattle.sprites.specs.declared.Sprites.{Sprites}
use Rattle.arbitration.specs.declared.Bus.{Bus}
use Rattle.arbitration.specs.Bus.{sprite_asks, clock_on}
use Rattle.lines.specs.Sprites.{sprites_first, sprites_second}

-- the DMA masks of a line: before the first comparison, at it, and from the second on
pub record Masks : Type 0 where
  pub before : ℕ
  pub first : ℕ
  pub after : ℕ

-- Bauer 3.8.1 rule 3; that rule 8 ends DMA between the slots of sprite 7 and the comparisons is no matter, since there no sprite asks
abbrev pub masks_of : Kind → ℕ → List ℕ → ℕ → ℕ → Sprites → Masks
masks_of k raster my enable yexp s =
    record { before = s.dma; first = (sprites_first k raster my enable yexp s).dma; after = (sprites_second k raster my enable yexp s).dma }

abbrev pub mask_in : Kind → Masks → ℕ → ℕ
mask_in k m c = cond (ltb c (first_of (first_phase k))) m.before (cond (ltb c (first_of (second_phase k))) m.first m.after)

-- Bauer 3.6.1: in cycle c the matrix asks, or a sprite does
unfoldable pub asks : Kind → Bool → Masks → ℕ → Bool
asks k bad m c = (bad && happens matrix_request c) || sprite_asks (mask_in k m c) (mask_at k c)

-- the requests before the line, as the AEC counter remembers them: 3 none, 2 one, .. −1 four; j cycles before the last one
unfoldable pub waited : ℤ → ℕ → Bool
waited (pos n) j = ltb (n + j) 3
waited (negsuc n) j = true

module _ (k : Kind) (bad : Bool) (m : Masks) (b : Bus) where
  -- a request j cycles before cycle c
  unfoldable pub asked_before : ℕ → ℕ → Bool
  asked_before c j = cond (ltb j c) (asks k bad m (c - j)) (waited b.aec (j - c))

  -- 02 (x): AEC is low where this cycle and the three before it asked
  unfoldable pub low_in : ℕ → Bool
  low_in c = asked_before c 0 && asked_before c 1 && asked_before c 2 && asked_before c 3

  -- 01, Arbitration: how many more requests AEC waits for, after cycle c
  unfoldable pub count_in : ℕ → ℤ
  count_in c =
      cond (asked_before c 0)
      (cond (asked_before c 1) (cond (asked_before c 2) (cond (asked_before c 3) (negsuc 0) (pos 0)) (pos 1)) (pos 2))
      (pos 3)

  -- BA as the cycle before left it
  unfoldable pub held_before : ℕ → Bool
  held_before c = cond (eqb c 1) b.balow (asks k bad m (c - 1))

  -- 01, Arbitration: the clocks of BA's last fall and of its last rise, up to cycle c
  unfoldable pub fall_by : ℕ → ℤ
  fall_by zero = b.fall
  fall_by (suc n) = cond (asks k bad m (suc n) && not (held_before (suc n))) (clock_on (suc n) b.clock) (fall_by n)

  unfoldable pub rise_by : ℕ → ℤ
  rise_by zero = b.rise
  rise_by (suc n) = cond (not (asks k bad m (suc n)) && held_before (suc n)) (clock_on (suc n) b.clock) (rise_by n)

  -- 02 (xi): how many cycles of the line have AEC low, up to cycle c
  unfoldable pub lost_by : ℕ → ℕ
  lost_by zero = 0
  lost_by (suc n) = lost_by n + cond (low_in (suc n)) 1 0

  -- the bus after cycle c, and after the line
  unfoldable pub bus_by : ℕ → Bus
  bus_by c =
      record {
        clock = clock_on c b.clock;
        fall = fall_by c;
        rise = rise_by c;
        aec = count_in c;
        balow = asks k bad m c;
        aeclow = low_in c;
        lost = lost_by c;
      }

  abbrev pub bus_line : Bus
  bus_line = bus_by (last_cycle k)
