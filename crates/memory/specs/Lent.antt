-- What the host lends to a call: the memory and the bank (01, Memory), and when it is refused.
use Rattle.std.specs.Prelude.{ℕ, cond, List, eqb, length, Result, Ok, Err}
use Rattle.memory.specs.declared.Host.{Host as Lends}
use Rattle.memory.specs.declared.Refusal.{Refusal}
use Rattle.memory.specs.declared.Refusal.TheVariants.{Length, Bank}
use Rattle.memory.specs.Memory.{block_refusal}

-- 01, Memory: what the host lends
pub record Host : Type 0 where
  pub ram : List ℕ
  pub rom : List ℕ
  pub colour : List ℕ
  pub bank : ℕ

abbrev pub host : List ℕ → List ℕ → List ℕ → ℕ → Host
host ram rom colour bank = record { ram = ram; rom = rom; colour = colour; bank = bank }

-- 01, Numbers: as of a block, and 1 where the colour RAM has another length
unfoldable pub lent_refusal : Host → ℕ
lent_refusal h = cond (eqb (length h.colour) 1024) (block_refusal h.ram h.rom h.bank) 1

-- 01, Numbers: 1 for a length, 2 for a bank
abbrev pub refusal_number : Refusal → ℕ
refusal_number Length = 1
refusal_number Bank = 2

-- and 0 where nothing is refused
abbrev pub refused : Result Lends Refusal → ℕ
refused (Ok h) = 0
refused (Err r) = refusal_number r

-- what is lent to a call, as the definitions have it
abbrev pub seen : Lends → Host
seen h = host h.memory.ram.now h.memory.rom.now h.colour.now h.memory.bank
