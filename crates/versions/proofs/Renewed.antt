-- An older scene as the next version: its number, the byte that it gets, what it keeps, and that bytes stay bytes. Assumes nothing.
use Prim.Native.Nat.{ℕ, zero, suc, ◌+◌, ◌<◌, ◌≤◌}
use mathlib.Core.Path.{◌≡◌, refl, sym, ap, ◌∙◌}
use mathlib.Core.Bool.{true}
use mathlib.Core.List.{List, [], ◌∷◌, ◌++◌}
use native.Mathlib.Omega.{arith}
use lib.Dec.{eqb}
use lib.ListN.{length, set, length-append, length-set}
use lib.Seq.{get_or-set_same, get_or-set_other, get_or_at}
use borrow.Author.Tests.{eq-eqb, ne_eqb, eqb-true}
use Rattle.laws.proofs.Choice.{either, by_test, left, right}
use Rattle.versions.specs.Versions.{byte_at, Bytes, is_version, is_newest, grown, next, is_flagged, cleared, unflagged, third, renewed}
use Rattle.versions.proofs.Listed.{front_listed}

-- ---- what holds of each step from a version to the next

pub grown_is : (v more : ℕ) (s : List ℕ) (n : ℕ) → 3 < length s → length s + 1 ≡ n → is_version v n (grown v more s) ≡ true
grown_is v more s n h e =
    let long : length (grown v more s) ≡ n = simp (length-set, length-append) e in
    rw (eq-eqb (length (grown v more s)) n long, get_or-set_same (s ++ (more ∷ [])) 3 v 0 (simp length-append (omega arith)), eq-eqb v v)

grown_long : (v more : ℕ) (s : List ℕ) → length (grown v more s) ≡ length s + 1
grown_long v more s = simp (length-set, length-append)

grown_last : (v more : ℕ) (s : List ℕ) (n : ℕ) → 3 < n → length s ≡ n → byte_at (grown v more s) n ≡ more
grown_last v more s n h e = get_or-set_other (s ++ (more ∷ [])) 3 n v 0 (λ (f : n ≡ 3). omega arith) ∙ get_or_at s more [] 0 n e

set_bytes : (s : List ℕ) (k v : ℕ) → v < 256 → Bytes s → Bytes (set s k v)
set_bytes [] k v h b i = b i
set_bytes (x ∷ s) zero v h b zero = h
set_bytes (x ∷ s) zero v h b (suc i) = b (suc i)
set_bytes (x ∷ s) (suc k) v h b zero = b 0
set_bytes (x ∷ s) (suc k) v h b (suc i) = set_bytes s k v h (λ (j : ℕ). b (suc j)) i

last_bytes : (s : List ℕ) (v : ℕ) → v < 256 → Bytes s → Bytes (s ++ (v ∷ []))
last_bytes [] v h b zero = h
last_bytes [] v h b (suc i) = b 0
last_bytes (x ∷ s) v h b zero = b 0
last_bytes (x ∷ s) v h b (suc i) = last_bytes s v h (λ (j : ℕ). b (suc j)) i

pub next_bytes : (v size more : ℕ) (s : List ℕ) → v + 1 < 256 → more < 256 → Bytes s → Bytes (next v size more s)
unfolding next
next_bytes v size more s h m b = either Bytes (is_version v size s) (set_bytes (s ++ (more ∷ [])) 3 (v + 1) h (last_bytes s more m b)) b

cleared_bytes : (ks s : List ℕ) → Bytes s → Bytes (cleared ks s)
cleared_bytes [] s b = b
cleared_bytes (k ∷ ks) s b = cleared_bytes ks (set s k 0) (set_bytes s k 0 (omega arith) b)

pub unflagged_bytes : (s : List ℕ) → Bytes s → Bytes (unflagged s)
unfolding unflagged
unflagged_bytes s b = cleared_bytes (79 ∷ 91 ∷ 103 ∷ 115 ∷ 127 ∷ 139 ∷ 151 ∷ 163 ∷ []) (set s 3 3) (set_bytes s 3 3 (omega arith) b)

third_bytes : (s : List ℕ) → Bytes s → Bytes (third s)
unfolding third
third_bytes s b = either Bytes (is_flagged s) (unflagged_bytes s b) b

pub renewed_bytes : (s : List ℕ) → Bytes s → Bytes (renewed s)
unfolding renewed
renewed_bytes s b =
    next_bytes 4 310 _ _ (omega arith) (omega arith)
    (next_bytes 3 309 _ _ (omega arith) (omega arith) (third_bytes _ (next_bytes 1 308 _ s (omega arith) (omega arith) b)))

pub has_size : (v size : ℕ) (s : List ℕ) → is_version v size s ≡ true → length s ≡ size
has_size v size s e = eqb-true (length s) size (left (eqb (length s) size) (eqb (byte_at s 3) v) e)

pub has_number : (v size : ℕ) (s : List ℕ) → is_version v size s ≡ true → byte_at s 3 ≡ v
has_number v size s e = eqb-true (byte_at s 3) v (right (eqb (length s) size) (eqb (byte_at s 3) v) e)

-- a list of another length stays as it is
next_other : (v size more : ℕ) (s : List ℕ) → (length s ≡ size → ⊥) → next v size more s ≡ s
unfolding next
next_other v size more s ne = rw (ne_eqb (length s) size ne)

third_other : (s : List ℕ) → (length s ≡ 309 → ⊥) → third s ≡ s
unfolding third is_flagged
third_other s ne = rw (ne_eqb (length s) 309 ne)

-- renewing the newest is the identity, whatever bytes an older one gets
newest_stays : (kind lost refresh : ℕ) (s : List ℕ) → length s ≡ 311 → next 4 310 refresh (next 3 309 lost (third (next 1 308 kind s))) ≡ s
newest_stays kind lost refresh s size =
    ap (λ (l : List ℕ). next 4 310 refresh (next 3 309 lost (third l))) (next_other 1 308 kind s (λ (f : length s ≡ 308). omega arith))
    ∙ ap (λ (l : List ℕ). next 4 310 refresh (next 3 309 lost l)) (third_other s (λ (f : length s ≡ 309). omega arith))
    ∙ ap (next 4 310 refresh) (next_other 3 309 lost s (λ (f : length s ≡ 309). omega arith))
    ∙ next_other 4 310 refresh s (λ (f : length s ≡ 310). omega arith)

pub renewed_newest : (s : List ℕ) → is_newest s ≡ true → renewed s ≡ s
unfolding renewed
renewed_newest s e = newest_stays _ _ _ s (has_size 5 311 s e)

-- ---- what a byte more leaves

front_stays : (s : List ℕ) (more i : ℕ) → i < length s → byte_at (s ++ (more ∷ [])) i ≡ byte_at s i
front_stays [] more i h = absurd (omega arith)
front_stays (x ∷ s) more zero h = refl
front_stays (x ∷ s) more (suc i) h = front_stays s more i (omega arith)

-- each byte behind the version's number stays
pub next_keeps : (v size more : ℕ) (s : List ℕ) (i : ℕ) → 3 < i → i < size → byte_at (next v size more s) i ≡ byte_at s i
unfolding next
next_keeps v size more s i h k =
    by_test (λ (l : List ℕ). byte_at l i ≡ byte_at s i) (is_version v size s)
    (λ e. get_or-set_other (s ++ (more ∷ [])) 3 i (v + 1) 0 (λ (f : i ≡ 3). omega arith) ∙ front_stays s more i (omega (arith, k, has_size v size s e)))
    (λ e. refl)

next_last : (v size more : ℕ) (s : List ℕ) → 3 < size → is_version v size s ≡ true → byte_at (next v size more s) size ≡ more
unfolding next
next_last v size more s h e = rw e (grown_last (v + 1) more s size h (has_size v size s e))

-- what is no longer than a later version stays so
next_most : (v size more n : ℕ) (s : List ℕ) → size < n → length s ≤ n → length (next v size more s) ≤ n
unfolding next
next_most v size more n s h short =
    by_test (λ (l : List ℕ). length l ≤ n) (is_version v size s) (λ e. omega (arith, h, grown_long (v + 1) more s, has_size v size s e)) (λ e. short)

-- what has got longer was of the version
next_was : (v size more : ℕ) (s : List ℕ) → length s ≤ size → length (next v size more s) ≡ size + 1 → is_version v size s ≡ true
unfolding next
next_was v size more s short long =
    by_test (λ (l : List ℕ). length l ≡ size + 1 → is_version v size s ≡ true) (is_version v size s)
    (λ e f. e)
    (λ e f. absurd (omega (arith, f, short)))
    long

-- ---- what the loss of the flags leaves

unflagged_long : (s : List ℕ) → length (unflagged s) ≡ length s
unfolding unflagged
unflagged_long s = simp length-set

pub unflagged_is : (s : List ℕ) → length s ≡ 309 → is_version 3 309 (unflagged s) ≡ true
unfolding unflagged
unflagged_is s h =
    rw (eq-eqb (length (unflagged s)) 309 (simp length-set h)) (ap (λ (l : List ℕ). eqb (byte_at (unflagged l) 3) 3) (sym (front_listed 0 s 309 (omega arith))))

pub unflagged_71 : (s : List ℕ) → length s ≡ 309 → byte_at (unflagged s) 71 ≡ byte_at s 71
unfolding unflagged
unflagged_71 s h = ap (λ (l : List ℕ). byte_at (unflagged l) 71) (sym (front_listed 0 s 309 (omega arith)))

unflagged_308 : (s : List ℕ) → length s ≡ 309 → byte_at (unflagged s) 308 ≡ byte_at s 308
unfolding unflagged
unflagged_308 s h = ap (λ (l : List ℕ). byte_at (unflagged l) 308) (sym (front_listed 0 s 309 (omega arith)))

pub third_long : (s : List ℕ) → length (third s) ≡ length s
unfolding third
third_long s = either (λ (l : List ℕ). length l ≡ length s) (is_flagged s) (unflagged_long s) refl

third_308 : (s : List ℕ) → length s ≡ 309 → byte_at (third s) 308 ≡ byte_at s 308
unfolding third
third_308 s h = either (λ (l : List ℕ). byte_at l 308 ≡ byte_at s 308) (is_flagged s) (unflagged_308 s h) refl

-- ---- what an older scene gets

first_grows : (s : List ℕ) → is_version 1 308 s ≡ true → next 1 308 0 s ≡ grown 2 0 s
unfolding next
first_grows s v = rw v

-- version 1 gets the 6569's kind, and keeps it
pub first_is_6569 : (s : List ℕ) → is_version 1 308 s ≡ true → byte_at (renewed s) 308 ≡ 0
unfolding renewed
first_is_6569 s v =
    let size : length s ≡ 308 = has_size 1 308 s v in
    let second : List ℕ = grown 2 0 s in
    let long : length second ≡ 309 = has_size 2 309 second (grown_is 2 0 s 309 (omega arith) (omega arith)) in
    let last : byte_at second 308 ≡ 0 = grown_last 2 0 s 308 (omega arith) size in
    rw (first_grows s v)
    (next_keeps 4 310 _ _ 308 (omega arith) (omega arith) ∙ next_keeps 3 309 _ (third second) 308 (omega arith) (omega arith) ∙ third_308 second long ∙ last)

-- what is no longer than version 3, or a later one, stays so up to version 3
third_most : (kind n : ℕ) (s : List ℕ) → 308 < n → length s ≤ n → length (third (next 1 308 kind s)) ≤ n
third_most kind n s h short = omega (arith, third_long (next 1 308 kind s), next_most 1 308 kind n s h short)

-- what is newest in the end was version 4 before it got its refresh counter
was_fourth : (refresh : ℕ) (s : List ℕ) → length s ≤ 310 → is_newest (next 4 310 refresh s) ≡ true → is_version 4 310 s ≡ true
was_fourth refresh s short new = next_was 4 310 refresh s short (has_size 5 311 (next 4 310 refresh s) new)

fourth_lost : (lost refresh : ℕ) (s : List ℕ) → length s ≤ 309 → is_newest (next 4 310 refresh (next 3 309 lost s)) ≡ true → byte_at (next 4 310 refresh (next 3 309 lost s)) 309 ≡ lost
fourth_lost lost refresh s short new =
    let fourth = next 3 309 lost s in
    let most : length fourth ≤ 310 = next_most 3 309 lost 310 s (omega arith) (omega (arith, short)) in
    let long : length fourth ≡ 310 = has_size 4 310 fourth (was_fourth refresh fourth most new) in
    next_keeps 4 310 refresh fourth 309 (omega arith) (omega arith) ∙ next_last 3 309 lost s (omega arith) (next_was 3 309 lost s short long)

fifth_refresh : (lost refresh : ℕ) (s : List ℕ) → length s ≤ 310 → is_newest (next 4 310 refresh (next 3 309 lost s)) ≡ true → byte_at (next 4 310 refresh (next 3 309 lost s)) 310 ≡ refresh
fifth_refresh lost refresh s short new =
    let fourth = next 3 309 lost s in
    let most : length fourth ≤ 310 = next_most 3 309 lost 310 s (omega arith) short in
    next_last 4 310 refresh fourth (omega arith) (was_fourth refresh fourth most new)

-- 02 (xi): an older scene's line has lost no cycle
pub older_has_lost_none : (s : List ℕ) → length s ≤ 309 → is_newest (renewed s) ≡ true → byte_at (renewed s) 309 ≡ 0
unfolding renewed
older_has_lost_none s short new = fourth_lost 0 _ _ (third_most _ 309 s (omega arith) short) new

-- 02 (xiv): an older scene's refresh counter is a frame's first
pub older_counts_from_ff : (s : List ℕ) → length s ≤ 310 → is_newest (renewed s) ≡ true → byte_at (renewed s) 310 ≡ 255
unfolding renewed
older_counts_from_ff s short new = fifth_refresh _ 255 _ (third_most _ 310 s (omega arith) short) new
