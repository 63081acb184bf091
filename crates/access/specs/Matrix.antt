-- Character accesses and the matrix line (Bauer 3.7.2 rule 3, 3.14.6).
use Rattle.std.specs.Prelude.{ℕ, ◌+◌, ◌*◌, ◌%◌, Bool, cond, List, get_or, set}
use Rattle.laws.specs.Pointers.{matrix_base}
use Rattle.memory.specs.Memory.{read_at}
use Rattle.rows.specs.Pending.{place_of}
use Rattle.access.specs.declared.Entry.{Entry}

-- Bauer 3.7.2 rule 3: the video matrix at VC, ten bits
abbrev pub matrix_address : ℕ → ℕ → ℕ
matrix_address ptrs vc = matrix_base ptrs + vc % 0x400

-- Bauer 3.6.2: twelve bits, the screen code and the colour nibble above it
-- 02 (viii): the code and its colour are one read, at the code's address
unfoldable pub matrix_entry : List ℕ → List ℕ → List ℕ → ℕ → ℕ → ℕ → Entry
matrix_entry ram rom colour bank ptrs vc =
    let found = read_at ram rom bank (matrix_address ptrs vc) in
    record { word = get_or colour (vc % 0x400) 0 % 16 * 256 + found.byte; address = found.address }

-- Bauer 3.7.2 rule 3: each access stores at VMLI
unfoldable pub filled : List ℕ → Bool → ℕ → ℕ → ℕ → List ℕ → List ℕ → List ℕ → ℕ → List ℕ
filled matrix go vmli vc ptrs ram rom colour bank =
    cond go (set matrix (place_of vmli) (matrix_entry ram rom colour bank ptrs vc).word) matrix

-- where it reads; 0 where there is no access
unfoldable pub fill_spot : Bool → ℕ → ℕ → List ℕ → List ℕ → ℕ → ℕ
fill_spot go vc ptrs ram rom bank = cond go (read_at ram rom bank (matrix_address ptrs vc)).address 0

-- Bauer 3.14.6; 01, Late byte: the CPU's low nibble in the high byte, 0xFF below
unfoldable pub late_word : ℕ → ℕ
late_word byte = byte % 16 * 256 + 0xFF
