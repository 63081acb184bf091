-- Stretches of a line in which some events never happen, on either kind: the code tests for a stretch where it would test for each event.
-- No rules: `proofs/Parts.antt` computes from the diagram what never happens in each.
use Rattle.std.specs.Prelude.{ℕ, Bool, ◌&&◌, ◌||◌, leb, ltb}

-- no line begins and no frame ends
unfoldable pub is_later : ℕ → Bool
is_later c = ltb 2 c

-- no left compare is made any more
unfoldable pub is_past : ℕ → Bool
is_past c = ltb 18 c

-- a graphics access, but not the last: no sprite asks yet
unfoldable pub is_early : ℕ → Bool
is_early c = ltb c 55

-- no compare of a line's ends
unfoldable pub is_between : ℕ → Bool
is_between c = (leb 2 c && leb c 55) || (leb 58 c && leb c 62)

-- no counter of a row moves
unfoldable pub is_still : ℕ → Bool
is_still c = (leb 3 c && leb c 13) || leb 59 c

-- the cycle after this one has a graphics access
unfoldable pub before_graphics : ℕ → Bool
before_graphics c = leb 15 c && leb c 54
