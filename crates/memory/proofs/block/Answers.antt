use mathlib.Core.Path.{sym, ◌∙◌}
use native.Mathlib.Omega.{arith}
use native.Mathlib.Nat.{add-sub_cancel_left}
use borrow.Author.Tests.{ne_eqb}
use Rattle.memory.specs.Memory.{block_of, block_place}
use Rattle.memory.proofs.Page.{in_page, ram_long, rom_long}
use Rattle.memory.proofs.block.Goals as goal

pub returns-then-block_refusal-ne0 : goal.returns-then-block_refusal-ne0
unfolding block_of block_place
returns-then-block_refusal-ne0 c =
    let no = ne_eqb _ 0 (λ e. c.if-block_refusal-ne0.true (c.block_refusal.ensures ∙ e)) in record {
      bytes = simp no;
      place = simp no;
    }

pub slice_bounds-result-end-then-in_rom : goal.slice_bounds-result-end-then-in_rom
slice_bounds-result-end-then-in_rom c = omega (arith, rom_long _ _ _ (sym c.block_refusal.ensures ∙ c.if-block_refusal-ne0.false))

pub returns-then-in_rom : goal.returns-then-in_rom
unfolding block_of block_place
returns-then-in_rom c =
    let ok = sym c.block_refusal.ensures ∙ c.if-block_refusal-ne0.false in
    let rom = rw c.wide-start.ensures at (sym c.in_rom.ensures ∙ c.if-in_rom.true) in record {
      bytes = simp (c.wide-start.ensures, ok, rom, in_page _ _ rom, add-sub_cancel_left);
      place = simp (c.wide-start.ensures, ok, rom, in_page _ _ rom);
    }

pub slice_bounds-result-end-2 : goal.slice_bounds-result-end-2
slice_bounds-result-end-2 c = omega (arith, ram_long _ _ _ (sym c.block_refusal.ensures ∙ c.if-block_refusal-ne0.false))

pub returns : goal.returns
unfolding block_of block_place
returns c =
    let ok = sym c.block_refusal.ensures ∙ c.if-block_refusal-ne0.false in
    let ram = rw c.wide-start.ensures at (sym c.in_rom.ensures ∙ c.if-in_rom.false) in record {
      bytes = simp (c.wide-start.ensures, ok, ram, add-sub_cancel_left);
      place = simp (c.wide-start.ensures, ok, ram);
    }
