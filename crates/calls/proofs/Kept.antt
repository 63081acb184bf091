-- Each call on an accepted state gives an accepted state. Assumes nothing.
use Prim.Native.Nat.{ℕ, ◌<◌}
use mathlib.Core.Path.{◌≡◌, refl}
use mathlib.Core.Bool.{true}
use borrow.Author.Tests.{ltb-false}
use lib.Dec.{eqb, ltb}
use Rattle.laws.proofs.Choice.{either, by_test}
use Rattle.registers.proofs.Kept.{compare_kept, line_small}
use Rattle.schedule.specs.Kind.{kind_of}
use Rattle.sprites.proofs.Kept.{fine_expand}
use Rattle.std.specs.Prelude.{Option, None, Some}
use Rattle.side.proofs.Kept.{side_same}
use Rattle.chip.specs.declared.Chip.{Chip}
use Rattle.chip.specs.declared.Answer.{Answer}
use Rattle.chip.specs.Accept.{accepted, state_refusal}
use Rattle.calls.specs.Calls.{file_written, is_expand, register_written, expand_at, compares_by, control_stored, control1_written, control2_written, controls_placed, late_at, late_taken}
use Rattle.chip.proofs.Fine.{accepted_fine, fine_accepted}

module _ (c : Chip) where
  -- the value is a byte
  file_kept : (addr v : ℕ) → v < 256 → accepted c ≡ true → accepted (file_written c addr v) ≡ true
  unfolding file_written
  file_kept addr v b e =
      let f = accepted_fine c e in
      fine_accepted (file_written c addr v) (record {
        side = side_same refl refl refl refl refl refl f.side.sprites f.side.place f.side;
        compare = compare_kept c.regs addr v b f.compare;
        forced = f.forced;
      })

  pub expand_kept : (v : ℕ) → accepted c ≡ true → accepted (expand_at c v) ≡ true
  unfolding expand_at
  expand_kept v e =
      let f = accepted_fine c e in
      fine_accepted (expand_at c v) (record {
        side = side_same refl refl refl refl refl refl (fine_expand (kind_of c.side.beam.kind) v c.side.beam.cycle c.regs.yexp f.side.sprites) f.side.place f.side;
        compare = f.compare;
        forced = f.forced;
      })

  pub write_kept : (addr v : ℕ) → v < 256 → accepted c ≡ true → accepted (register_written c addr v) ≡ true
  unfolding register_written
  write_kept addr v b e = either (λ (d : Chip). accepted d ≡ true) (is_expand addr) (expand_kept v e) (file_kept addr v b e)

  pub compares_kept : accepted c ≡ true → accepted (compares_by c) ≡ true
  unfolding compares_by
  compares_kept e =
      let f = accepted_fine c e in
      fine_accepted (compares_by c) (record {
        side = side_same refl refl refl refl refl refl f.side.sprites f.side.place f.side;
        compare = f.compare;
        forced = f.forced;
      })

  -- whatever is written
  pub control_1_kept : (v : ℕ) → accepted c ≡ true → accepted (control1_written c v) ≡ true
  unfolding control1_written control_stored
  control_1_kept v e =
      let f = accepted_fine c e in
      fine_accepted (control1_written c v) (record {
        side = side_same refl refl refl refl refl refl f.side.sprites f.side.place f.side;
        compare = line_small v c.regs.compare;
        forced = f.forced;
      })

  pub control_2_kept : (v : ℕ) → accepted c ≡ true → accepted (control2_written c v) ≡ true
  unfolding control2_written control_stored
  control_2_kept v e =
      let f = accepted_fine c e in
      fine_accepted (control2_written c v) (record { side = f.side; compare = f.compare; forced = f.forced })

  pub controls_kept : (ctrl1 ctrl2 compare : ℕ) → accepted c ≡ true → accepted (controls_placed c ctrl1 ctrl2 compare).chip ≡ true
  unfolding controls_placed
  controls_kept ctrl1 ctrl2 compare e =
      let f = accepted_fine c e in
      by_test (λ (a : Answer). accepted a.chip ≡ true) (ltb 511 compare) (λ t. e)
      (λ t. fine_accepted _ (record { side = f.side; compare = ltb-false 511 compare t; forced = f.forced }))

  late_at_kept : (byte : ℕ) (p : Option ℕ) → accepted c ≡ true → accepted (late_at c byte p) ≡ true
  late_at_kept byte None e = e
  late_at_kept byte (Some p) e =
      let f = accepted_fine c e in
      fine_accepted (late_at c byte (Some p)) (record {
        side = side_same refl refl refl refl refl refl f.side.sprites tt f.side;
        compare = f.compare;
        forced = f.forced;
      })

  pub late_kept : (byte : ℕ) → accepted c ≡ true → accepted (late_taken c byte).chip ≡ true
  unfolding late_taken
  late_kept byte e = either (λ (a : Answer). accepted a.chip ≡ true) (eqb (state_refusal c) 0) (late_at_kept byte c.side.pending.place e) e
