-- The 6569's mask as the base had it typed, cycle by cycle, against the mask that is worked out: the same for every number. Assumes nothing.
use Prim.Native.Nat.{ℕ, ◌<◌}
use mathlib.Core.Path.{◌≡◌, sym, ◌∙◌}
use mathlib.Core.List.{List, [], ◌∷◌, ◌++◌}
use native.Mathlib.Omega.{arith}
use native.Mathlib.Decide.{dec_lt}
use lib.ListN.{get_or, replicate, get_or-eq_default}
use Rattle.laws.proofs.Below.{same}
use Rattle.schedule.specs.Kind.{the6569}
use Rattle.schedule.specs.Requests.{mask_at}
use Rattle.schedule.proofs.Places.{asks_none_past}

-- no request in 0; sprites 3 to 7 up to cycle 10; none up to 54; sprites 0 to 4 up to the line's end
abbrev pub typed : List ℕ
typed =
    0x00 ∷ 0x18 ∷ 0x38 ∷ 0x30 ∷ 0x70 ∷ 0x60 ∷ 0xE0 ∷ 0xC0 ∷ 0xC0 ∷ 0x80 ∷ 0x80 ∷ replicate 44 0
    ++ (0x01 ∷ 0x01 ∷ 0x03 ∷ 0x03 ∷ 0x07 ∷ 0x06 ∷ 0x0E ∷ 0x0C ∷ 0x1C ∷ [])

by_place : (c : ℕ) → Dec (c < 64) → mask_at the6569 c ≡ get_or typed c 0
unfolding mask_at
by_place c (yes h) = same (mask_at the6569) (λ k. get_or typed k 0) 64 tt c h
by_place c (no h) = sym (asks_none_past the6569 c (omega arith)) ∙ sym (get_or-eq_default typed 0 {n = c} (omega arith))

pub as_typed : (c : ℕ) → mask_at the6569 c ≡ get_or typed c 0
as_typed c = by_place c (dec_lt c 64)
