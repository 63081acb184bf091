-- Memory as the chip sees it: fourteen address bits in one of four banks (Bauer 3.1).
use Rattle.std.specs.Prelude.{ℕ, ◌+◌, ◌-◌, ◌*◌, ◌%◌, ◌≡◌, Bool, ◌&&◌, ◌||◌, cond, List, [], eqb, leb, ltb, length, get_or, take, drop}
use Rattle.std.specs.Borrow.{Bor}
use Rattle.memory.specs.declared.Found.{Found}

-- 01, Memory: what the host lends
pub record Lent (ram rom : List ℕ) : Type 0 where
  pub whole_ram : length ram ≡ 16384
  pub whole_rom : length rom ≡ 4096

-- Bauer 3.1; 01, Memory: the character ROM shows at 0x1000 to 0x1FFF in banks 0 and 2
unfoldable pub in_rom : ℕ → ℕ → Bool
in_rom bank address = (eqb bank 0 || eqb bank 2) && (leb 0x1000 address && leb address 0x1FFF)

-- 01, Memory: ROM there, RAM everywhere else; both clock phases read alike
-- 02 (viii): the address as it is on the bus, its fourteen bits, before ROM is chosen
unfoldable pub read_at : List ℕ → List ℕ → ℕ → ℕ → Found
read_at ram rom bank address =
    let at = address % 0x4000 in
    record { byte = cond (in_rom bank at) (get_or rom (at - 0x1000) 0) (get_or ram at 0); address = at }

-- 01, Numbers: 1 where a lent memory has another length, 2 where the bank is above 3, 0 for none
unfoldable pub block_refusal : List ℕ → List ℕ → ℕ → ℕ
block_refusal ram rom bank =
    cond (eqb (length ram) 16384) (cond (eqb (length rom) 4096) (cond (ltb 3 bank) 2 0) 1) 1

-- 01, Memory: the 64 bytes from pointer · 64 on, as the chip reads them; nothing where refused
unfoldable pub block_of : List ℕ → List ℕ → ℕ → ℕ → List ℕ
block_of ram rom pointer bank =
    let start = pointer * 64 in
    cond (eqb (block_refusal ram rom bank) 0)
    (cond (in_rom bank start) (take 64 (drop (start - 0x1000) rom)) (take 64 (drop start ram)))
    []

-- where a slice begins: which memory it is a part of, and how many bytes stand before it there; and so many bytes on
abbrev pub Place : Type 0
Place = ℕ × ℕ

abbrev pub past : Place → ℕ → Place
past place bytes = (place.0, bytes + place.1)

-- 01, Memory: the block is a part of the caller's memory. Of a lent slice, a `Bor`, `now` is its bytes and `ref_ptr` where it begins; a refused block, which has no bytes, begins where RAM does
unfoldable pub block_place : Bor (List ℕ) → Bor (List ℕ) → ℕ → ℕ → Place
block_place ram rom pointer bank =
    let start = pointer * 64 in
    cond (eqb (block_refusal ram.now rom.now bank) 0)
    (cond (in_rom bank start) (past rom.ref_ptr (start - 0x1000)) (past ram.ref_ptr start))
    ram.ref_ptr
