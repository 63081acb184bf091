-- What every word keeps of a head. Assumes nothing.
use Prim.Native.Nat.{ℕ, ◌+◌, ◌-◌, ◌*◌, ◌≤◌, ◌<◌}
use mathlib.Core.Path.{◌≡◌, refl, sym, ◌∙◌, ap, subst}
use mathlib.Core.Bool.{Bool, true, false, ◌&&◌, ◌||◌, not, cond, true≢false}
use mathlib.Core.List.{List, [], ◌∷◌}
use native.Mathlib.Omega.{arith}
use lib.Dec.{eqb, ltb}
use lib.ListN.{length, take, drop, get_or}
use borrow.Author.Tests.{ltb-true, ltb-false}
use Rattle.std.specs.Prelude.{Result, Ok, Err}
use Rattle.laws.proofs.Choice.{either, by_test}
use Rattle.line.specs.Text.{ascii}
use Rattle.grammar.specs.declared.Head.{Head}
use Rattle.grammar.specs.declared.Digits.{Digits}
use Rattle.grammar.specs.declared.Phase.{Phase}
use Rattle.grammar.specs.declared.Phase.TheVariants.{Heading, Skipping, Kind, Size, Identifier, Name, Closing, Ending, Declared, Body, Aside, Valued, Done, Refused}
use Rattle.grammar.specs.Words.{Word, same, lower}
use Rattle.grammar.specs.Values.{none, broken, digits_from}
use Rattle.grammar.specs.Times.{time_by, time_on, time_from, time_of}
use Rattle.grammar.specs.Grammar.{Entry, head, go_to, in_heading, until_end, within, ours, fate, declare, judged, closing, change, changes_on, changed, apply, moved, timed, marked_at, marked, passed, section, in_body, head_by}
use Rattle.heard.specs.Agrees.{naming, Sane}

-- ---- a time has 64 bits

abbrev Small : Result ℕ ℕ → Type 0
Small (Err digits) = Unit
Small (Ok t) = t ≤ 18446744073709551615

small_by : (t : Result ℕ ℕ) (digit : ℕ) → Small (time_by t digit)
unfolding time_by
small_by (Err t) digit = either Small (ltb (t * 10 + digit) 18446744073709551616) tt tt
small_by (Ok t) digit =
    by_test Small (ltb (t * 10 + digit) 18446744073709551616)
    (λ e. let h = ltb-true (t * 10 + digit) 18446744073709551616 e in omega arith)
    (λ e. tt)

small_on : (t : Result ℕ ℕ) (b : ℕ) → Small (time_on t b)
unfolding time_on
small_on t b = either Small (ltb b 48) tt (either Small (ltb 57 b) tt (small_by t (b - 48)))

small_from : (w : Word) (t : Result ℕ ℕ) → Small t → Small (time_from t w)
unfolding time_from
small_from [] t h = h
small_from (b ∷ s) t h = small_from s (time_on t b) (small_on t b)

small_time : (w : Word) → Small (time_of w)
unfolding time_of
small_time w = small_from w (cond (ltb 0 (length w)) (Ok 0) (Err 0)) (either Small (ltb 0 (length w)) (omega arith) tt)

-- ---- the marks

abbrev goes : (h : Head) (p : Phase) → Sane h → Sane (go_to h p)
goes h p s = record { order = s.order; small = s.small }

sane_moved : (h : Head) (t : ℕ) → Sane h → t ≤ 18446744073709551615 → (h.begun && ltb t h.mark) ≡ false → Sane (moved h t)
unfolding moved
sane_moved h t s small e =
    record {
      order = by_test (λ (x : ℕ). x ≤ t) h.begun
          (λ begun. let g = ltb-false t h.mark (sym (ap (λ (b : Bool). b && ltb t h.mark) begun) ∙ e) in omega (arith, s.order))
          (λ e. omega arith);
      small = small;
    }

sane_at : (h : Head) (t : Result ℕ ℕ) (over : Bool) → Sane h → Small t → Sane (marked_at h t over)
unfolding timed
sane_at h (Err digits) over s small = goes h (Refused 14) s
sane_at h (Ok t) over s small =
    either Sane over (goes h (Refused 17) s)
    (by_test Sane (h.begun && ltb t h.mark) (λ e. goes h (Refused 16) s) (sane_moved h t s small))

sane_marked : (h : Head) (w : Word) (over : Bool) → Sane h → Sane (marked h w over)
unfolding marked
sane_marked h w over s = sane_at h (time_of w) over s (small_time w)

sane_apply : (h : Head) (d : Digits) (id : Word) (over : Bool) (table : List Entry) → Sane h → Sane (apply h d id over table)
unfolding apply changed
sane_apply h d id over table s =
    let c = changes_on (change h.values h.unknown false true) d id over table in
    either Sane (c.found && c.fine) (record { order = s.order; small = s.small }) (goes h (Refused 14) s)

sane_body : (h : Head) (w : Word) (over : Bool) (table : List Entry) → Sane h → Sane (in_body h w over table)
unfolding in_body section
sane_body h w over table s =
    let b = lower (get_or w 0 0) in
    either Sane (eqb b 35) (sane_marked h (drop 1 w) over s)
    (either Sane (eqb b 36) (either Sane (passed w) s (goes h Aside s))
    (either Sane (eqb b 98) (goes h (Valued (digits_from none (drop 1 w))) s)
    (either Sane (eqb b 114) (goes h (Valued broken) s)
    (either Sane (eqb b 115) (goes h (Valued broken) s)
    (sane_apply h (digits_from none (take 1 w)) (drop 1 w) over table s)))))

sane_until : (h : Head) (w : Word) (p : Phase) → Sane h → Sane (until_end h w p)
unfolding until_end
sane_until h w p s = either Sane (same w (ascii "$end")) (goes h p s) s

sane_within : (h : Head) (w : Word) (p : Phase) → Sane h → Sane (within h w p)
unfolding within
sane_within h w p s = either Sane (same w (ascii "$end")) (goes h (Refused 14) s) (goes h p s)

sane_heading : (h : Head) (w : Word) → Sane h → Sane (in_heading h w)
unfolding in_heading
sane_heading h w s =
    either Sane (same w (ascii "$var")) (goes h Kind s)
    (either Sane (same w (ascii "$enddefinitions")) (goes h Ending s)
    (either Sane (same w (ascii "$end")) (goes h (Refused 14) s)
    (either Sane (eqb (get_or w 0 0) 36) (goes h Skipping s) (goes h (Refused 14) s))))

sane_declare : (h : Head) (k : ℕ) → Sane h → Sane (declare h k)
unfolding declare
sane_declare h k s = either Sane (ltb k 8) (record { order = s.order; small = s.small }) s

sane_closing : (h : Head) (w : Word) (size k count : ℕ) (fits : Bool) → Sane h → Sane (closing h w size k count fits)
unfolding closing judged
sane_closing h w size k count fits s =
    either Sane (same w (ascii "$end"))
    (either Sane (eqb (fate size k count fits) 0) (goes (declare h k) Heading (sane_declare h k s)) (goes h (Refused (fate size k count fits)) s)) s

pub sane_by : (p : Phase) (h : Head) (w : Word) (over : Bool) (table : List Entry) (fits : Bool) → Sane h → Sane (head_by p h w over table fits)
unfolding head_by
sane_by Heading h w over table fits s = sane_heading h w s
sane_by Skipping h w over table fits s = sane_until h w Heading s
sane_by Kind h w over table fits s = sane_within h w Size s
sane_by Size h w over table fits s = sane_within h w _ s
sane_by (Identifier size) h w over table fits s = sane_within h w (Name size) s
sane_by (Name size) h w over table fits s = sane_within h w _ s
sane_by (Closing size k) h w over table fits s = sane_closing h w size k (length table) fits s
sane_by Ending h w over table fits s = sane_until h w Declared s
sane_by Declared h w over table fits s = s
sane_by Body h w over table fits s = sane_body h w over table s
sane_by Aside h w over table fits s = sane_until h w Body s
sane_by (Valued d) h w over table fits s = sane_apply h d w over table s
sane_by Done h w over table fits s = s
sane_by (Refused n) h w over table fits s = s

-- ---- where an identifier is at hand

abbrev Plain : Head → Type 0
Plain h = naming h.phase ≡ false

module _ (h : Head) (w : Word) (over : Bool) (table : List Entry) (plain : Plain h) where
  plain_until : (p : Phase) → naming p ≡ false → Plain (until_end h w p)
  unfolding until_end
  plain_until p e = either Plain (same w (ascii "$end")) e plain

  plain_within : (p : Phase) → naming p ≡ false → Plain (within h w p)
  unfolding within naming
  plain_within p e = either Plain (same w (ascii "$end")) refl e

  plain_apply : (d : Digits) (id : Word) → Plain (apply h d id over table)
  unfolding apply changed naming
  plain_apply d id =
      let c = changes_on (change h.values h.unknown false true) d id over table in
      either Plain (c.found && c.fine) refl refl

  plain_at : (t : Result ℕ ℕ) → Plain (marked_at h t over)
  unfolding timed moved naming
  plain_at (Err digits) = refl
  plain_at (Ok t) = either Plain over refl (either Plain (h.begun && ltb t h.mark) refl plain)

  plain_marked : (digits : Word) → Plain (marked h digits over)
  unfolding marked
  plain_marked digits = plain_at (time_of digits)

  plain_body : Plain (in_body h w over table)
  unfolding in_body section naming
  plain_body =
      let b = lower (get_or w 0 0) in
      either Plain (eqb b 35) (plain_marked (drop 1 w))
      (either Plain (eqb b 36) (either Plain (passed w) plain refl)
      (either Plain (eqb b 98) refl (either Plain (eqb b 114) refl (either Plain (eqb b 115) refl (plain_apply (digits_from none (take 1 w)) (drop 1 w))))))

  plain_heading : Plain (in_heading h w)
  unfolding in_heading naming
  plain_heading =
      either Plain (same w (ascii "$var")) refl
      (either Plain (same w (ascii "$enddefinitions")) refl (either Plain (same w (ascii "$end")) refl (either Plain (eqb (get_or w 0 0) 36) refl refl)))

-- a `$var` is at hand, from its identifier on
unfoldable pub in_var : Phase → Bool
in_var (Identifier size) = true
in_var (Name size) = true
in_var (Closing size k) = true
in_var Heading = false
in_var Skipping = false
in_var Kind = false
in_var Size = false
in_var Ending = false
in_var Declared = false
in_var Body = false
in_var Aside = false
in_var (Valued d) = false
in_var Done = false
in_var (Refused n) = false

pub plain_by : (p : Phase) (h : Head) (w : Word) (over : Bool) (table : List Entry) (fits : Bool) → Plain h → in_var p ≡ false → Plain (head_by p h w over table fits)
unfolding head_by in_var naming
plain_by Heading h w over table fits e i = plain_heading h w over table e
plain_by Skipping h w over table fits e i = plain_until h w over table e Heading refl
plain_by Kind h w over table fits e i = plain_within h w over table e Size refl
plain_by Size h w over table fits e i = plain_within h w over table e _ refl
plain_by (Identifier size) h w over table fits e i = absurd (true≢false i)
plain_by (Name size) h w over table fits e i = absurd (true≢false i)
plain_by (Closing size k) h w over table fits e i = absurd (true≢false i)
plain_by Ending h w over table fits e i = plain_until h w over table e Declared refl
plain_by Declared h w over table fits e i = e
plain_by Body h w over table fits e i = plain_body h w over table e
plain_by Aside h w over table fits e i = plain_until h w over table e Body refl
plain_by (Valued d) h w over table fits e i = plain_apply h w over table e d w
plain_by Done h w over table fits e i = e
plain_by (Refused n) h w over table fits e i = e
