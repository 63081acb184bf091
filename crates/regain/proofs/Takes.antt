-- A reader takes a text: what it tells on the way, and the state in which it stands after its last word. Assumes nothing.
use Prim.Native.Nat.{ℕ, ◌≤◌, ◌<◌}
use mathlib.Core.Path.{◌≡◌, refl, sym, ◌∙◌, ap}
use mathlib.Core.Bool.{Bool, true, false, cond, ◌&&◌}
use mathlib.Core.List.{List, [], ◌∷◌, ◌++◌, append_assoc, append-nil}
use native.Mathlib.Omega.{arith}
use lib.Dec.{ltb}
use lib.ListN.{length, take, length-append}
use lib.Seq.{take_all, append_snoc}
use borrow.Author.Tests.{lt-ltb, le-ltb}
use Rattle.laws.proofs.Choice.{left, right}
use Rattle.viewer.proofs.Split.{blacks}
use Rattle.grammar.specs.declared.Head.{Head}
use Rattle.grammar.specs.Words.{Word}
use Rattle.grammar.specs.Grammar.{State, with_head, step_by, step}
use Rattle.grammar.specs.Reading.{Reading, reading, later, begins, closed, byte_on, Said, told, settled, settled_in, said_by, read_by, said_over, read_over}
use Rattle.grammar.proofs.Parts.{said_on_lem, read_on_lem}

-- from a state, at the beginning of a word, to a state, at the end of one
pub record Takes (room : ℕ) (a : State) (s : List ℕ) (out : List Said) (b : State) : Type 0 where
  pub run : (r : Reading) → r.state ≡ a → r.text ≡ [] → (said_over room r s ≡ out) × ((read_over room r s).state ≡ b) × ((read_over room r s).text ≡ [])

-- one text after the other
pub both : {room : ℕ} {a b c : State} {s t : List ℕ} {o p : List Said} → Takes room a s o b → Takes room b t p c → Takes room a (s ++ t) (o ++ p) c
both {room} {a} {b} {c} {s} {t} {o} {p} f g =
    record {
      run =
          λ r e h.
          let x = f.run r e h in
          let y = g.run (read_over room r s) x.1 x.2 in (
            said_on_lem room s t r ∙ ap (λ (l : List Said). l ++ said_over room (read_over room r s) t) x.0 ∙ ap (λ (l : List Said). o ++ l) y.0,
            ap (λ (q : Reading). q.state) (read_on_lem room s t r) ∙ y.1,
            ap (λ (q : Reading). q.text) (read_on_lem room s t r) ∙ y.2,
          );
    }

pub nothing : (room : ℕ) (a : State) → Takes room a [] [] a
unfolding said_over read_over
nothing room a = record { run = λ r e h. (refl, e, h) }

-- a state in which nothing waits to be told
pub record Quiet (a : State) : Type 0 where
  pub silent : (n : ℕ) → told a.head n ≡ []
  pub same : settled a.head ≡ a.head

unfoldable laters : ℕ → List ℕ → ℕ
laters at [] = at
laters at (b ∷ s) = laters (later at) s

-- a reading at the beginning of a word
pub as_read : (r : Reading) (a : State) → r.state ≡ a → r.text ≡ [] → r ≡ reading a [] r.start r.at r.item
as_read r a e h =
    ap (λ (s : State). reading s r.text r.start r.at r.item) e
    ∙ ap (λ (t : Word). reading a t r.start r.at r.item) h

module _ (room : ℕ) where
  module _ (a : State) (quiet : Quiet a) where
    one_byte : (b : ℕ) (t : Word) (start at item : ℕ) → ltb 32 b ≡ true → byte_on room (reading a t start at item) b ≡ reading a (t ++ (b ∷ [])) start (later at) item
    unfolding byte_on
    one_byte b t start at item p = simp p

    one_said : (b : ℕ) (t : Word) (start at item : ℕ) → ltb 32 b ≡ true → said_by room (reading a t start at item) b ≡ []
    unfolding said_by
    one_said b t start at item p = ap (λ (n : Reading). told n.state.head n.item) (one_byte b t start at item p) ∙ quiet.silent item

    stays : (t : Word) (start at item : ℕ) → settled_in (reading a t start at item) ≡ reading a t start at item
    unfolding settled_in
    stays t start at item = ap (λ (h : Head). reading (with_head a h) t start at item) quiet.same

    one_read_lem : (b : ℕ) (t : Word) (start at item : ℕ) → ltb 32 b ≡ true → read_by room (reading a t start at item) b ≡ reading a (t ++ (b ∷ [])) start (later at) item
    unfolding read_by
    one_read_lem b t start at item p = ap settled_in (one_byte b t start at item p) ∙ stays (t ++ (b ∷ [])) start (later at) item

    grown_read : (w t : Word) (start at item : ℕ) → blacks w ≡ true → read_over room (reading a t start at item) w ≡ reading a (t ++ w) start (laters at w) item
    unfolding read_over laters blacks
    grown_read [] t start at item p = ap (λ (x : Word). reading a x start at item) (sym (append-nil t))
    grown_read (b ∷ w) t start at item p =
        ap (λ (q : Reading). read_over room q w) (one_read_lem b t start at item (left (ltb 32 b) (blacks w) p))
        ∙ grown_read w (t ++ (b ∷ [])) start (later at) item (right (ltb 32 b) (blacks w) p)
        ∙ ap (λ (x : Word). reading a x start (laters (later at) w) item) (append_snoc t b w)

    grown_said : (w t : Word) (start at item : ℕ) → blacks w ≡ true → said_over room (reading a t start at item) w ≡ []
    unfolding said_over blacks
    grown_said [] t start at item p = refl
    grown_said (b ∷ w) t start at item p =
        let q = left (ltb 32 b) (blacks w) p in
        ap (λ (l : List Said). l ++ said_over room (read_by room (reading a t start at item) b) w) (one_said b t start at item q)
        ∙ ap (λ (x : Reading). said_over room x w) (one_read_lem b t start at item q)
        ∙ grown_said w (t ++ (b ∷ [])) start (later at) item (right (ltb 32 b) (blacks w) p)

    -- a word and the white byte after it
    module _ (b : ℕ) (ds : Word) (x : ℕ) (black : blacks (b ∷ ds) ≡ true) (white : ltb 32 x ≡ false) where
      abbrev w : Word
      w = b ∷ ds

      some : ltb 0 (length w) ≡ true
      some = lt-ltb 0 (length w) (omega arith)

      shut : (start at item : ℕ) → closed room (reading a w start at item) ≡ reading (step room a w) [] at at (cond (begins a.head.phase) start item)
      unfolding closed
      shut start at item = simp some

      ended : (start at item : ℕ) → byte_on room (reading a w start at item) x ≡ reading (step room a w) [] (later at) (later at) (cond (begins a.head.phase) start item)
      unfolding byte_on
      ended start at item = simp (white, shut start at item)

      module _ (z z' : State) (out : List Said) (goes : step room a w ≡ z) (tells : (n : ℕ) → told z.head n ≡ out) (rests : with_head z (settled z.head) ≡ z') where
        module _ (start at item : ℕ) where
          abbrev r₀ : Reading
          r₀ = reading a [] start at item

          abbrev at' : ℕ
          at' = laters at w

          abbrev item' : ℕ
          item' = cond (begins a.head.phase) start item

          read : read_over room r₀ w ≡ reading a w start at' item
          read = grown_read w [] start at item black

          last_byte : byte_on room (reading a w start at' item) x ≡ reading z [] (later at') (later at') item'
          last_byte = ended start at' item ∙ ap (λ (s : State). reading s [] (later at') (later at') item') goes

          last_said : said_over room (reading a w start at' item) (x ∷ []) ≡ out
          unfolding said_over said_by
          last_said =
              append-nil (said_by room (reading a w start at' item) x)
              ∙ ap (λ (n : Reading). told n.state.head n.item) last_byte
              ∙ tells item'

          last_read : read_over room (reading a w start at' item) (x ∷ []) ≡ reading z' [] (later at') (later at') item'
          unfolding read_over read_by settled_in
          last_read = ap settled_in last_byte ∙ ap (λ (s : State). reading s [] (later at') (later at') item') rests

          whole_said : said_over room r₀ (w ++ (x ∷ [])) ≡ out
          whole_said =
              said_on_lem room w (x ∷ []) r₀
              ∙ ap (λ (l : List Said). l ++ said_over room (read_over room r₀ w) (x ∷ [])) (grown_said w [] start at item black)
              ∙ ap (λ (q : Reading). said_over room q (x ∷ [])) read
              ∙ last_said

          whole_read : read_over room r₀ (w ++ (x ∷ [])) ≡ reading z' [] (later at') (later at') item'
          whole_read = read_on_lem room w (x ∷ []) r₀ ∙ ap (λ (q : Reading). read_over room q (x ∷ [])) read ∙ last_read

        pub word_takes : Takes room a (w ++ (x ∷ [])) out z'
        word_takes =
            record {
              run =
                  λ r e h.
                  let is = as_read r a e h in
                  let n₁ = r.start in
                  let n₂ = r.at in
                  let n₃ = r.item in (
                    ap (λ (q : Reading). said_over room q (w ++ (x ∷ []))) is ∙ whole_said n₁ n₂ n₃,
                    ap (λ (q : Reading). (read_over room q (w ++ (x ∷ []))).state) is ∙ ap (λ (q : Reading). q.state) (whole_read n₁ n₂ n₃),
                    ap (λ (q : Reading). (read_over room q (w ++ (x ∷ []))).text) is ∙ ap (λ (q : Reading). q.text) (whole_read n₁ n₂ n₃),
                  );
            }

-- a word that the room holds is seen whole
pub seen_whole : (room : ℕ) (a : State) (w : Word) → length w ≤ room → step room a w ≡ step_by a w false
unfolding step
seen_whole room a w h = simp (take_all room w h, le-ltb room (length w) h)
