-- Forty columns, each with its access and then the next character's, are the filled line and then forty columns. Assumes nothing.
use Prim.Native.Nat.{ℕ, zero, suc, ◌<◌, ◌≤◌, ◌+◌, ◌%◌}
use mathlib.Core.Path.{◌≡◌, refl, ◌∙◌, sym, ap}
use mathlib.Core.Bool.{Bool, true, false, ◌&&◌, cond}
use mathlib.Core.List.{List}
use native.Mathlib.Omega.{arith}
use native.Mathlib.Decide.{dec_lt}
use lib.Dec.{ltb}
use lib.ListN.{get_or, set}
use lib.Seq.{get_or-set_other, set-set}
use borrow.Author.Tests.{lt-ltb}
use Rattle.rows.specs.Pending.{place_of}
use Rattle.rows.specs.Rows.{vc_after, vmli_after}
use Rattle.access.specs.Merge.{Merging, merging, latched}
use Rattle.lines.specs.Columns.{places_of, matrix_line, columns_line}
use Rattle.lines.proofs.Through.{times}

module _ (W : ℕ → ℕ) (base : ℕ) (hidden : ℕ → Bool) (since : ℕ → ℕ) where
  -- VMLI and VC after j accesses
  abbrev pub vml : Bool → ℕ → ℕ
  vml shows j = times j (vmli_after 1 shows) 0

  abbrev pub vcs : Bool → ℕ → ℕ
  vcs shows j = times j (vc_after 1 shows) base

  -- column j as the tick has it: the graphics access, then the character access of the next
  abbrev pub column : Bool → Bool → Bool → ℕ → Merging → Merging
  column bad shows plain j x =
      let y = latched x.matrix shows (hidden j) plain (16 + j) (since j) (vml shows j) x.ch x.carry in
      merging y.ch y.carry (cond (bad && ltb j 39) (set y.matrix (place_of (vml shows (suc j))) (W (vcs shows (suc j)))) y.matrix)

  unfoldable pub columns : Bool → Bool → Bool → ℕ → Merging → Merging
  columns bad shows plain zero x = x
  columns bad shows plain (suc j) x = column bad shows plain j (columns bad shows plain j x)

  pub columns_none : (bad shows plain : Bool) (x : Merging) → columns bad shows plain 0 x ≡ x
  unfolding columns
  columns_none bad shows plain x = refl

  pub columns_more : (bad shows plain : Bool) (j : ℕ) (x : Merging) → columns bad shows plain (suc j) x ≡ column bad shows plain j (columns bad shows plain j x)
  unfolding columns
  columns_more bad shows plain j x = refl

  vml_on : (j : ℕ) → j < 256 → vml true j ≡ j
  unfolding vmli_after
  vml_on zero l = refl
  vml_on (suc j) l = rw (vml_on j (omega arith)) (omega arith)

  vml_off : (j : ℕ) → vml false j ≡ 0
  unfolding vmli_after
  vml_off zero = refl
  vml_off (suc j) = vml_off j

  vcs_off : (j : ℕ) → vcs false j ≡ base
  unfolding vc_after
  vcs_off zero = refl
  vcs_off (suc j) = vcs_off j

  vcs_on : (j : ℕ) → vcs true (suc j) ≡ (base + suc j) % 1024
  unfolding vc_after
  vcs_on zero = refl
  vcs_on (suc j) = rw (vcs_on j) (omega arith)

  idle : (m : List ℕ) (h p : Bool) (c f v v' ch carry : ℕ) → latched m false h p c f v ch carry ≡ latched m false h p c f v' ch carry
  unfolding latched
  idle m true p c f v v' ch carry = refl
  idle m false p c f v v' ch carry = refl

  -- no bad line: nothing is filled
  plain_line : (shows plain : Bool) (j : ℕ) → j ≤ 40 → (x : Merging) → columns false shows plain j x ≡ columns_line shows plain hidden since j x
  unfolding columns columns_line
  plain_line shows plain zero l x = refl
  plain_line true plain (suc j) l x = rw (plain_line true plain j (omega arith) x, vml_on j (omega arith))
  plain_line false plain (suc j) l x = rw (plain_line false plain j (omega arith) x) (idle _ (hidden j) plain (16 + j) (since j) (vml false j) j _ _)

  module _ (W-mod : (v : ℕ) → W (v % 1024) ≡ W v) (m : List ℕ) (ch carry : ℕ) where
    abbrev word : ℕ → ℕ
    word j = W (base + j)

    shown : (x : List ℕ) (h : Bool) (c f v a b : ℕ) → latched x true h true c f v a b ≡ merging (cond h a (get_or x (place_of v) 0)) b x
    unfolding latched
    shown x true c f v a b = refl
    shown x false c f v a b = refl

    blank : (x : List ℕ) (h : Bool) (p : Bool) (c f v a b : ℕ) → latched x false h p c f v a b ≡ merging (cond h a 0) b x
    unfolding latched
    blank x true p c f v a b = refl
    blank x false p c f v a b = refl

    place_same : (j : ℕ) → j < 40 → place_of j ≡ j
    unfolding place_of
    place_same j l = omega arith

    places_open : (n : ℕ) → places_of word (suc n) m ≡ set (places_of word n m) n (word n)
    unfolding places_of
    places_open n = refl

    -- a place that is filled stays so
    places_stay : (n j : ℕ) → j < n → get_or (places_of word n m) j 0 ≡ get_or (places_of word (suc j) m) j 0
    places_stay zero j l = absurd (omega arith)
    places_stay (suc n) j l = by (λ (k : j < n). places_stay n j k) (dec_lt j n)
      where
        by : (j < n → get_or (places_of word n m) j 0 ≡ get_or (places_of word (suc j) m) j 0) → Dec (j < n) → get_or (places_of word (suc n) m) j 0 ≡ get_or (places_of word (suc j) m) j 0
        by f (yes k) = ap (λ (x : List ℕ). get_or x j 0) (places_open n) ∙ get_or-set_other (places_of word n m) n j (word n) 0 (λ e. omega arith) ∙ f k
        by f (no k) = let e : j ≡ n = omega arith in rw e

    -- the characters shown, column after column
    chars : ℕ → ℕ
    chars zero = ch
    chars (suc j) = cond (hidden j) (chars j) (get_or (places_of word (suc j) m) j 0)

    chars_open : (j : ℕ) → chars (suc j) ≡ cond (hidden j) (chars j) (get_or (places_of word (suc j) m) j 0)
    unfolding chars
    chars_open j = refl

    abbrev full : List ℕ
    full = places_of word 40 m

    chars_none : merging ch carry full ≡ merging (chars 0) carry full
    unfolding chars
    chars_none = refl

    line_shows : (j : ℕ) → j ≤ 40 → columns_line true true hidden since j (merging ch carry full) ≡ merging (chars j) carry full
    unfolding columns_line
    line_shows zero l = chars_none
    line_shows (suc j) l =
        rw (line_shows j (omega arith), shown full (hidden j) (16 + j) (since j) j (chars j) carry, place_same j (omega arith), places_stay 40 j (omega arith))
        (ap (λ (x : ℕ). merging x carry full) (sym (chars_open j)))

    first_place : set m (place_of 0) (W base) ≡ places_of word 1 m
    unfolding places_of
    first_place = let e : base + 0 ≡ base = omega arith in rw (place_same 0 (omega arith), e)

    next_place : (j : ℕ) → j < 39 → set (places_of word (suc j) m) (place_of (vml true (suc j))) (W (vcs true (suc j))) ≡ places_of word (suc (suc j)) m
    next_place j l = rw (vml_on (suc j) (omega arith), place_same (suc j) (omega arith), vcs_on j, W-mod (base + suc j)) (sym (places_open (suc j)))

    tick_first : columns true true true 0 (merging ch carry (set m (place_of 0) (W base))) ≡ merging (chars 0) carry (places_of word 1 m)
    unfolding columns chars
    tick_first = rw first_place

    tick_next : (j : ℕ) → j < 39 → column true true true j (merging (chars j) carry (places_of word (suc j) m)) ≡ merging (chars (suc j)) carry (places_of word (suc (suc j)) m)
    tick_next j l =
        rw (
          shown (places_of word (suc j) m) (hidden j) (16 + j) (since j) (vml true j) (chars j) carry,
          lt-ltb j 39 l,
          next_place j l,
          vml_on j (omega arith),
          place_same j (omega arith),
        )
        (ap (λ (x : ℕ). merging x carry (places_of word (suc (suc j)) m)) (sym (chars_open j)))

    tick_shows : (j : ℕ) → j < 40 → columns true true true j (merging ch carry (set m (place_of 0) (W base))) ≡ merging (chars j) carry (places_of word (suc j) m)
    tick_shows zero l = tick_first
    tick_shows (suc j) l = columns_more true true true j (merging ch carry (set m (place_of 0) (W base))) ∙ ap (column true true true j) (tick_shows j (omega arith)) ∙ tick_next j (omega arith)

    tick_shown : columns true true true 40 (merging ch carry (set m (place_of 0) (W base))) ≡ merging (chars 40) carry full
    tick_shown =
        columns_more true true true 39 (merging ch carry (set m (place_of 0) (W base)))
        ∙ ap (column true true true 39) (tick_shows 39 (omega arith))
        ∙ rw (shown full (hidden 39) 55 (since 39) (vml true 39) (chars 39) carry, vml_on 39 (omega arith), place_same 39 (omega arith)) (ap (λ (x : ℕ). merging x carry full) (sym (chars_open 39)))

    -- in idle state
    abbrev once : List ℕ
    once = set m 0 (word 0)

    chars_idle : ℕ → ℕ
    chars_idle zero = ch
    chars_idle (suc j) = cond (hidden j) (chars_idle j) 0

    line_idle : (j : ℕ) → columns_line false true hidden since j (merging ch carry once) ≡ merging (chars_idle j) carry once
    unfolding columns_line chars_idle
    line_idle zero = refl
    line_idle (suc j) = rw (line_idle j, blank once (hidden j) true (16 + j) (since j) j (chars_idle j) carry)

    again : (j : ℕ) → set once (place_of (vml false (suc j))) (W (vcs false (suc j))) ≡ once
    again j = let e : base + 0 ≡ base = omega arith in rw (vml_off (suc j), place_same 0 (omega arith), vcs_off (suc j), e) (set-set m 0 (W base) (W base))

    either_same : (b : Bool) {x y : List ℕ} → x ≡ y → cond b x y ≡ y
    either_same true e = e
    either_same false e = refl

    tick_idle : (j : ℕ) → columns true false true j (merging ch carry once) ≡ merging (chars_idle j) carry once
    unfolding columns chars_idle
    tick_idle zero = refl
    tick_idle (suc j) = rw (tick_idle j, blank once (hidden j) true (16 + j) (since j) (vml false j) (chars_idle j) carry, either_same (ltb j 39) (again j))

    -- a line of ticks is the filled line and then forty columns
    pub columns_line_lem : (bad shows plain : Bool) → (bad ≡ true → plain ≡ true)
        → columns bad shows plain 40 (merging ch carry (cond bad (set m (place_of 0) (W base)) m)) ≡ columns_line shows plain hidden since 40 (merging ch carry (matrix_line word bad shows m))
    unfolding matrix_line
    columns_line_lem false shows plain e = plain_line shows plain 40 (omega arith) (merging ch carry m)
    columns_line_lem true true plain e = rw (e refl) (tick_shown ∙ sym (line_shows 40 (omega arith)))
    columns_line_lem true false plain e = rw (e refl, start) (tick_idle 40 ∙ sym (line_idle 40))
      where
        start : set m (place_of 0) (W base) ≡ once
        start = let z : base + 0 ≡ base = omega arith in rw (place_same 0 (omega arith), z)
