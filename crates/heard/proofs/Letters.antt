-- A word in its room, byte by byte. Assumes nothing.
use Prim.Native.Nat.{ℕ, zero, suc, ◌+◌, ◌-◌, ◌≤◌, ◌<◌}
use mathlib.Core.Path.{◌≡◌, refl, sym, ◌∙◌, ap, subst}
use mathlib.Core.Bool.{Bool, true, false, cond}
use mathlib.Core.List.{List, [], ◌∷◌, ◌++◌}
use native.Mathlib.Omega.{arith}
use native.Mathlib.Numerals.{add-one}
use native.Mathlib.Nat.{sub-zero}
use lib.Dec.{ltb}
use lib.ListN.{length, take, drop, set, length-append, length-set}
use lib.Seq.{take_all, take-append-le, length-take-le, take-suc-set}
use borrow.Author.Tests.{ltb-true, ltb-false, lt-ltb, le-ltb}
use Rattle.grammar.specs.Grammar.{State}
use Rattle.grammar.specs.Reading.{Reading, reading, later}
use Rattle.phrase.specs.Table.{part_of}
use Rattle.intake.specs.declared.Word.{Word}
use Rattle.intake.specs.Machine.{word, grown_of, room_of}
use Rattle.heard.specs.Agrees.{SameWord}

short : (s : List ℕ) (n : ℕ) → length (take n s) < n → length s < n
short s n h = by_less (ltb (length s) n) refl
  where
    by_less : (t : Bool) → ltb (length s) n ≡ t → length s < n
    by_less true e = ltb-true (length s) n e
    by_less false e =
        let long = ltb-false (length s) n e in
        let full = length-take-le n s long in
        absurd (omega arith)

long : (s : List ℕ) (n : ℕ) → n ≤ length (take n s) → n ≤ length s
long s n h = by_less (ltb (length s) n) refl
  where
    by_less : (t : Bool) → ltb (length s) n ≡ t → n ≤ length s
    by_less false e = ltb-false (length s) n e
    by_less true e =
        let less = ltb-true (length s) n e in
        let all = ap length (take_all n s (omega arith)) in
        absurd (omega arith)

module _ (room : List ℕ) (w : Word) (r : Reading) (b : ℕ) (a : SameWord room w r) where
  abbrev more : Reading
  more = reading r.state (r.text ++ (b ∷ [])) r.start (later r.at) r.item

  one_longer : length (r.text ++ (b ∷ [])) ≡ length r.text + 1
  one_longer = length-append r.text (b ∷ [])

  grows : (t : Bool) → ltb w.len (length room) ≡ t
      → SameWord (cond t (set room w.len b) room) (cond t (word (w.len + 1) w.over w.start (later w.at) w.item) (word w.len true w.start (later w.at) w.item)) more
  grows true e =
      let less = ltb-true w.len (length room) e in
      let few = short r.text (length room) (subst (λ (n : ℕ). n < length room) a.len less) in
      let all = take_all (length room) r.text (omega arith) in
      let one = one_longer in
      let size = length-set room w.len b in
      let all' : take (length (set room w.len b)) (r.text ++ (b ∷ [])) ≡ r.text ++ (b ∷ []) = take_all (length (set room w.len b)) (r.text ++ (b ∷ [])) (omega arith) in
      let len = a.len ∙ ap length all in
      record {
        len = ap (λ (n : ℕ). n + 1) len ∙ sym one ∙ sym (ap length all');
        text = ap (λ (n : ℕ). take n (set room w.len b)) (add-one w.len) ∙ take-suc-set room w.len b less ∙ ap (λ (l : List ℕ). l ++ (b ∷ [])) (a.text ∙ all) ∙ sym all';
        over = a.over ∙ le-ltb (length room) (length r.text) (omega arith) ∙ sym (le-ltb (length (set room w.len b)) (length (r.text ++ (b ∷ []))) (omega arith));
        start = a.start;
        at = ap later a.at;
        item = a.item;
      }
  grows false e =
      let most = ltb-false w.len (length room) e in
      let many = long r.text (length room) (subst (λ (n : ℕ). length room ≤ n) a.len most) in
      let one = one_longer in
      let cut = take-append-le (length room) r.text (b ∷ []) many in
      record {
        len = a.len ∙ ap length (sym cut);
        text = a.text ∙ sym cut;
        over = sym (lt-ltb (length room) (length (r.text ++ (b ∷ []))) (omega arith));
        start = a.start;
        at = ap later a.at;
        item = a.item;
      }

  pub letter : SameWord (room_of w b room) (grown_of w (length room)) more
  unfolding room_of grown_of
  letter = grows (ltb w.len (length room)) refl

module _ (room : List ℕ) (w : Word) (r : Reading) (a : SameWord room w r) where
  fits_room : w.len ≤ length room
  fits_room = by_less (ltb (length room) w.len) refl
    where
      by_less : (t : Bool) → ltb (length room) w.len ≡ t → w.len ≤ length room
      by_less false e = ltb-false (length room) w.len e
      by_less true e =
          let more = ltb-true (length room) w.len e in
          let many = long r.text (length room) (subst (λ (n : ℕ). length room ≤ n) a.len (omega arith)) in
          let full = a.len ∙ length-take-le (length room) r.text many in
          absurd (omega arith)

  -- the word that a reader takes is the grammar's
  pub taken : part_of room 0 w.len ≡ take (length room) r.text
  unfolding part_of
  taken =
      ap (λ (t : Bool). cond (ltb w.len 0) [] (cond t [] (take (w.len - 0) room))) (le-ltb (length room) w.len fits_room)
      ∙ ap (λ (t : Bool). cond t [] (take (w.len - 0) room)) (le-ltb w.len 0 (omega arith))
      ∙ ap (λ (n : ℕ). take n room) (sub-zero w.len)
      ∙ a.text

  -- there is a word, or none
  pub is_there : 0 < length room → ltb 0 w.len ≡ ltb 0 (length r.text)
  is_there h = by_less (ltb 0 (length r.text)) refl
    where
      by_less : (t : Bool) → ltb 0 (length r.text) ≡ t → ltb 0 w.len ≡ ltb 0 (length r.text)
      by_less true e = lt-ltb 0 w.len (some (ltb (length r.text) (length room)) refl) ∙ sym e
        where
          some : (u : Bool) → ltb (length r.text) (length room) ≡ u → 0 < w.len
          some true f =
              let less = ltb-true (length r.text) (length room) f in
              let all = a.len ∙ ap length (take_all (length room) r.text (omega arith)) in
              let one = ltb-true 0 (length r.text) e in omega arith
          some false f =
              let most = ltb-false (length r.text) (length room) f in
              let full = a.len ∙ length-take-le (length room) r.text most in omega arith
      by_less false e =
          let none = ltb-false 0 (length r.text) e in
          let all = a.len ∙ ap length (take_all (length room) r.text (omega arith)) in
          le-ltb 0 w.len (omega arith) ∙ sym e
