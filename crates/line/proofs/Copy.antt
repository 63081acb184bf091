-- A text that is copied to a place, and a text over what stood at a place, as lists. Assumes nothing.
use Prim.Native.Nat.{ℕ, ◌+◌, ◌-◌, ◌≤◌}
use mathlib.Core.Path.{◌≡◌, refl, sym, ◌∙◌, ap}
use mathlib.Core.List.{List, [], ◌∷◌, ◌++◌, append_assoc}
use native.Mathlib.Omega.{arith}
use native.Mathlib.Numerals.{add-one}
use borrow.Rule.Slice.PartMut.{put_mid}
use lib.ListN.{length, take, drop, set, length-append}
use lib.Seq.{take_at, drop-drop, length-take-le, sets, sets-eq}
use Rattle.line.specs.Text.{Written, pasted}

pub nothing : (out : List ℕ) (at : ℕ) → Written out at [] out at
unfolding pasted
nothing out at = record { place = omega arith; text = refl }

-- the stores, as lists
stores : (text out : List ℕ) (at : ℕ) → pasted out at text ≡ sets out at text
unfolding pasted
stores [] out at = refl
stores (x ∷ text) out at = stores text (set out at x) (at + 1) ∙ ap (λ (n : ℕ). sets (set out at x) n text) (add-one at)

-- what stood before the place and after the text stays
pub pasted_is : (text out : List ℕ) (at : ℕ) → at + length text ≤ length out → pasted out at text ≡ take at out ++ text ++ drop (at + length text) out
pasted_is text out at h = stores text out at ∙ sets-eq text out at h

-- a text that is copied to a place
pub copied : (out words : List ℕ) (at : ℕ) {mid : List ℕ} → mid ≡ words → at + length words ≤ length out → Written out at words (put_mid at (at + length words - at) out mid) (at + length words)
copied out words at is h =
    let n : at + length words - at ≡ length words = omega arith in
    record {
      place = refl;
      text =
          ap (λ (m : List ℕ). take at out ++ (m ++ drop (at + length words - at) (drop at out))) is
          ∙ ap (λ (k : ℕ). take at out ++ (words ++ drop k (drop at out))) n
          ∙ ap (λ (r : List ℕ). take at out ++ (words ++ r)) (drop-drop (length words) at out)
          ∙ sym (pasted_is words out at h ∙ append_assoc (take at out) words (drop (at + length words) out));
    }

-- the buffer up to the place after a text
pub stands : (out text after : List ℕ) (at next : ℕ) → Written out at text after next → at + length text ≤ length out → take next after ≡ take at out ++ text
stands out text after at next w h =
    let long : length (take at out ++ text) ≡ at + length text = length-append (take at out) text ∙ ap (λ (n : ℕ). n + length text) (length-take-le at out (omega arith)) in
    ap (λ (n : ℕ). take n after) w.place
    ∙ ap (take (at + length text)) (w.text ∙ pasted_is text out at h)
    ∙ take_at (take at out ++ text) (drop (at + length text) out) (at + length text) long
