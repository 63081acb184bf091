-- The calls by their parts, in the words of the definitions. Assumes nothing.
use Prim.Native.Nat.{ℕ, ◌+◌, ◌≤◌}
use mathlib.Core.Path.{◌≡◌, refl, sym, ◌∙◌, ap}
use mathlib.Core.Bool.{Bool, true, false, cond}
use mathlib.Core.List.{List, ◌++◌}
use native.Mathlib.Omega.{arith}
use lib.Dec.{eqb, ltb}
use lib.ListN.{length, drop}
use borrow.Author.Tests.{le-ltb, ltb-false, eqb-false, eq-eqb, ne_eqb}
use Rattle.line.specs.Text.{Written, pasted}
use Rattle.chip.specs.declared.Chip.{Chip}
use Rattle.chip.specs.declared.Answer.{Answer}
use Rattle.vcd.specs.declared.Record.{Record}
use Rattle.vcd.specs.declared.Wave.{Wave}
use Rattle.vcd.specs.Text.{declarations, piece_of, wave_after}
use Rattle.line.proofs.Copy.{pasted_is}
use Rattle.vcd.proofs.Short.{declarations_292, piece_at_most_88}
use Rattle.wave.specs.declared.Told.{Told}
use Rattle.wave.specs.Wave.{record_of, over, Declared, declared, declared_in, told, Heard, heard, wrote_tick, number_of, heard_with}

module _ (text out after : List ℕ) (n : ℕ) (fits : length text ≤ length out) (w : Written out 0 text after n) where
  front : after ≡ over text out
  front =
      let none : 0 + length text ≡ length text = omega arith in
      w.text ∙ pasted_is text out 0 (omega arith) ∙ ap (λ (k : ℕ). text ++ drop k out) none

module _ (out after : List ℕ) (n : ℕ) (room : 292 ≤ length out) where
  declares : n ≡ 0 + 292 → Written out 0 declarations after n → declared (record { refused = 0; length = n }) after ≡ declared_in out
  unfolding declared_in
  declares e w =
      simp (le-ltb (length out) 292 room)
      (ap (λ (k : ℕ). declared (record { refused = 0; length = k }) after) (let z : n ≡ 292 = omega (arith, e) in z)
      ∙ ap (declared (record { refused = 0; length = 292 })) (front declarations out after n (omega (arith, declarations_292)) w))

  pub declares_both : n ≡ 0 + 292 → after ≡ pasted out 0 declarations → (record { refused = 0; length = n } ≡ (declared_in out).wrote) × (after ≡ (declared_in out).out)
  declares_both e is =
      let both = declares e (record { place = omega (arith, e, declarations_292); text = is }) in
      (ap (λ (x : Declared). x.wrote) both, ap (λ (x : Declared). x.out) both)

  pub pieces : (a : Told) (c : Chip) (v x : Wave) (r : Record) → a ≡ told 0 c x n → r ≡ record_of c → x ≡ wave_after v r → Written out 0 (piece_of v r) after n
      → heard a after ≡ wrote_tick c v out
  unfolding wrote_tick
  pieces a c v x r as-told is next w =
      let p = piece_of v r in
      ap (λ (y : Told). heard y after) as-told
      ∙ ap (λ (k : ℕ). heard (told 0 c x k) after) (let z : n ≡ length p = omega (arith, w.place) in z)
      ∙ ap (λ (y : Wave). heard (told 0 c y (length p)) after) next
      ∙ ap (heard (told 0 c (wave_after v r) (length p))) (front p out after n (omega (arith, piece_at_most_88 v r)) w)
      ∙ ap (λ (y : Record). heard (told 0 c (wave_after v y) (length (piece_of v y))) (over (piece_of v y) out)) is

-- no refusal leaves room for a piece
by_room : (refused room : ℕ) (taken short : Bool) → eqb refused 0 ≡ taken → ltb room 292 ≡ short → cond taken (cond short 13 0) refused ≡ 0 → 292 ≤ room
by_room refused room true true e s n = absurd (omega arith)
by_room refused room true false e s n = ltb-false room 292 s
by_room refused room false short e s n = absurd (eqb-false refused 0 e n)

pub has_room : (n refused room : ℕ) → n ≡ number_of refused room → n ≡ 0 → 292 ≤ room
unfolding number_of
has_room n refused room is none = by_room refused room (eqb refused 0) (ltb room 292) refl refl (sym is ∙ none)

module _ (t s : Answer) (c : Chip) (v : Wave) (out : List ℕ) (r : Told) (n : ℕ) (is : t ≡ s) (counts : n ≡ number_of t.refused (length out)) where
  whole : heard_with n t c v out ≡ heard_with (number_of s.refused (length out)) s c v out
  whole =
      ap (λ (k : ℕ). heard_with k t c v out) counts
      ∙ ap (λ (x : Answer). heard_with (number_of x.refused (length out)) x c v out) is

  refusal : (n ≡ 0 → ⊥) → r ≡ told n c v 0 → heard r out ≡ heard_with n t c v out
  unfolding heard_with
  refusal some e = simp (ne_eqb n 0 some) (ap (λ (x : Told). heard x out) e)

  piece : (after : List ℕ) → n ≡ 0 → heard r after ≡ wrote_tick t.chip v out → heard r after ≡ heard_with n t c v out
  unfolding heard_with
  piece after none e = simp (eq-eqb n 0 none) e

  pub by_refusal : (n ≡ 0 → ⊥) → r ≡ told n c v 0 → heard r out ≡ heard_with (number_of s.refused (length out)) s c v out
  by_refusal some e = refusal some e ∙ whole

  pub by_piece : (after : List ℕ) → n ≡ 0 → heard r after ≡ wrote_tick t.chip v out → heard r after ≡ heard_with (number_of s.refused (length out)) s c v out
  by_piece after none e = piece after none e ∙ whole

-- the answer and the buffer, each by itself
pub each : (r : Told) (out : List ℕ) (x : Heard) → heard r out ≡ x → (r ≡ x.told) × (out ≡ x.out)
each r out x e = (ap (λ (y : Heard). y.told) e, ap (λ (y : Heard). y.out) e)
