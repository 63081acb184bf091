-- The character latch, and the merge after a forced bad line (fetch.rs; departs, DIFFERENCES 11).
use Rattle.std.specs.Prelude.{ℕ, ◌-◌, ◌%◌, Bool, not, cond, List, eqb, ltb, leb, get_or, set, ℤ, pos, negsuc, ◌-ℤ◌}
use Rattle.std.specs.Int.Bits.{bit_and, bit_or}
use Rattle.rows.specs.Pending.{place_of}
use Rattle.access.specs.declared.Latch.{Latch}

-- a time as it counts here: below zero is 0, and forty or more is 40
abbrev pub up_to40 : ℤ → ℕ
up_to40 (pos n) = cond (ltb n 40) n 40
up_to40 (negsuc n) = 0

-- cycles since the forced bad line's first access
unfoldable pub since_of : ℤ → ℤ → ℕ
since_of clock forced = up_to40 (clock -ℤ forced -ℤ pos 2)

-- DECISIONS 26: the entry before, f cycles on and with v places filled
unfoldable pub previous_of : ℕ → ℕ → ℕ
previous_of f v =
    cond (eqb f v) 0
    (cond (ltb v f) (place_of ((f - 1) % (f - v)))
    (cond (eqb f 0) (place_of (v - 1)) (place_of (f - 1))))

-- the old carry is forgotten in every fourth cycle
unfoldable pub carry_of : ℕ → ℕ → ℕ → ℕ
carry_of cycle old previous = cond (eqb (cycle % 4) 3) (bit_and 0x08A6 previous) (bit_and 0x08A6 (bit_or old previous))

unfoldable pub mix_of : ℕ → ℕ → ℕ → ℕ
mix_of carry current next =
    bit_or (bit_and (bit_or carry (bit_and next 0x013F)) (bit_or current next)) (bit_and (0xFFFF - carry) (bit_and current next))

-- what the latch holds, and the matrix line
pub record Merging : Type 0 where
  pub ch : ℕ
  pub carry : ℕ
  pub matrix : List ℕ

abbrev pub latch_of : Merging → Latch
latch_of x = record { ch = x.ch; carry = x.carry }

abbrev pub merging : ℕ → ℕ → List ℕ → Merging
merging ch carry matrix = record { ch = ch; carry = carry; matrix = matrix }

unfoldable pub merged_at : List ℕ → ℕ → ℕ → ℕ → ℕ → Merging
merged_at matrix cycle f vmli old =
    let pd = get_or matrix (previous_of f vmli) 0 in
    let cd = get_or matrix (place_of vmli) 0 in
    let nd = get_or matrix (place_of f) 0 in
    let carry = carry_of cycle old pd in
    let mixed = mix_of carry cd nd in
    merging mixed carry (set (set matrix (place_of vmli) mixed) (place_of f) mixed)

unfoldable pub merged : List ℕ → ℕ → ℕ → ℕ → ℕ → Merging
merged matrix cycle f vmli old =
    cond (leb 40 f) (merging (get_or matrix (place_of vmli) 0) old matrix) (merged_at matrix cycle f vmli old)

-- Bauer 3.7.2 rule 3: an access in display state reads the matrix line at VMLI; idle clears the latch
-- DECISIONS 37: with output disabled the latch keeps what it has
unfoldable pub latched : List ℕ → Bool → Bool → Bool → ℕ → ℕ → ℕ → ℕ → ℕ → Merging
latched matrix moves hidden plain cycle f vmli ch carry =
    cond hidden (merging ch carry matrix)
    (cond (not moves) (merging 0 carry matrix)
    (cond plain (merging (get_or matrix (place_of vmli) 0) carry matrix)
    (merged matrix cycle f vmli carry)))
