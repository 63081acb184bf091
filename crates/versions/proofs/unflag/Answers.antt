use mathlib.Core.Path.{◌≡◌, refl, ap, ◌∙◌}
use mathlib.Core.List.{List}
use Prim.Native.Nat.{ℕ, ◌+◌, ◌<◌}
use native.Mathlib.Numerals.{add-one}
use native.Mathlib.Omega.{arith}
use lib.ListN.{length, get_or, set, drop, length-set}
use lib.Seq.{drop-cons}
use Rattle.versions.specs.Versions.{cleared, unflagged}
use Rattle.versions.proofs.Parts.{put_as, put_whole}
use Rattle.versions.proofs.unflag.Goals as goal

-- the next place is cleared
one_less : (ks s : List ℕ) (i : ℕ) → i < length ks → cleared (drop (i + 1) ks) (set s (get_or ks i 0) 0) ≡ cleared (drop i ks) s
one_less ks s i h = rw (add-one, drop-cons ks i 0 h) refl

pub loop-at-preserved : goal.loop-at-preserved
loop-at-preserved c = record {
  left = one_less _ c.loop-at.out c.loop-at.at-index (omega arith) ∙ c.loop-at.invariant.left;
  size = simp length-set c.loop-at.invariant.size;
}

pub returns : goal.returns
unfolding unflagged
returns c =
    let all : c.loop-at.at-index ≡ 8 = omega arith in
    rw all at c.loop-at.invariant.left
    ∙ ap unflagged (put_whole (omega arith) (put_as c.args.bytes.now 309 c.put.ensures refl (omega arith)))
