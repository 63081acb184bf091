-- A text's words, one off the front; and a word that leaves the time lets nothing be seen. Assumes nothing.
use Prim.Native.Nat.{ℕ, ◌-◌}
use mathlib.Core.Path.{◌≡◌, refl, ◌∙◌, ap}
use mathlib.Core.Bool.{Bool, true, false, cond, ◌&&◌}
use mathlib.Core.List.{List, [], ◌∷◌, ◌++◌}
use native.Mathlib.Omega.{arith}
use lib.Dec.{ltb}
use Rattle.laws.proofs.Choice.{left, right}
use Rattle.viewer.specs.Words.{Word, goes_on, before, words_of}
use Rattle.viewer.specs.Reader.{Value, State, step, Seen, repeated, shown, views}

-- no byte of a word is white
unfoldable pub blacks : Word → Bool
blacks [] = true
blacks (b ∷ s) = ltb 32 b && blacks s

pub word_split : (ds : Word) (b x : ℕ) (rest : List ℕ) → ltb 32 b ≡ true → blacks ds ≡ true → ltb 32 x ≡ false → words_of (b ∷ (ds ++ x ∷ rest)) ≡ (b ∷ ds) ∷ words_of rest
unfolding words_of goes_on blacks before
word_split [] b x rest p q r = simp (p, r)
word_split (d ∷ ds) b x rest p q r =
    let pd = left (ltb 32 d) (blacks ds) q in
    let more = word_split ds d x rest pd (right (ltb 32 d) (blacks ds) q) r in
    ap (λ (t : Bool). cond t (cond (ltb 32 d) (before b (words_of (d ∷ (ds ++ x ∷ rest)))) ((b ∷ []) ∷ words_of (d ∷ (ds ++ x ∷ rest)))) (words_of (d ∷ (ds ++ x ∷ rest)))) p
    ∙ ap (λ (t : Bool). cond t (before b (words_of (d ∷ (ds ++ x ∷ rest)))) ((b ∷ []) ∷ words_of (d ∷ (ds ++ x ∷ rest)))) pd
    ∙ ap (before b) more

none : (n t k : ℕ) (v : List Value) → n ≡ t → repeated (n - t) t v k ≡ []
unfolding repeated
none n t k v e = ap (λ (d : ℕ). repeated d t v k) (let z : n - t ≡ 0 = omega (arith, e) in z)

by_begun : (b : Bool) (n t k : ℕ) (v : List Value) → n ≡ t → cond b (repeated (n - t) t v k) [] ≡ []
by_begun true n t k v e = none n t k v e
by_begun false n t k v e = refl

pub still : (s n : State) (w : Word) (more : List Word) → step s w ≡ n → n.time ≡ s.time → views s (w ∷ more) ≡ views n more
unfolding views shown
still s n w more e h =
    ap (λ (x : State). cond s.begun (repeated (x.time - s.time) s.time s.values s.stale) [] ++ views x more) e
    ∙ ap (λ (l : List Seen). l ++ views n more) (by_begun s.begun n.time s.time s.stale s.values h)
