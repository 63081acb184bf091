-- The chart of a whole run file: what each of its items says, one after the other; and what the run leaves.
use Rattle.std.specs.Prelude.{ℕ, zero, suc, ◌+◌, ◌≡◌, Bool, cond, List, [], ◌∷◌, ◌++◌, leb, length, take}
use Rattle.script.specs.declared.Item.{Item}
use Rattle.script.specs.File.{run_of}
use Rattle.sheet.specs.declared.Run.{Run}
use Rattle.driver.specs.Driver.{Store, store_at}
use Rattle.line.specs.Text.{refused_of}
use Rattle.sheet.specs.Sheet.{begun_of, said_at, run_at, run_in, store_in}
use Rattle.sheet.specs.Machinery.Fill.{emptied}

-- 01, chart: the items' text, up to the one that ends the run
unfoldable pub told : Store → Run → List Item → List ℕ
told m r [] = []
told m r (i ∷ more) = said_at m r i ++ cond (run_at m r i).going (told (store_at m i) (run_at m r i) more) []

-- 01, chart: of the run file's items, from power-up of a kind
unfoldable pub chart_of : ℕ → Store → List ℕ → List ℕ
chart_of kind m s = told m (begun_of kind) (run_of s)

-- ---- what a run leaves

pub record End : Type 0 where
  pub run : Run
  pub store : Store

abbrev pub end : Run → Store → End
end r m = record { run = r; store = m }

-- where 64 of the block's 65,536 bytes are not free, the next text begins a block
abbrev pub roomed : Run → Run
roomed r = cond (leb r.at 65472) r (emptied r)

-- a text goes on up to the last place that has room for one, and past it begins the buffer anew
abbrev pub room_of : ℕ → ℕ → ℕ
room_of last at = cond (leb at last) at 0

-- turn after turn, up to the one that ends the run
unfoldable pub ended : ℕ → List ℕ → Store → Run → End
ended zero s m r = end r m
ended (suc n) s m r = cond r.going (ended n s (store_in s m (roomed r)) (run_in s m (roomed r))) (end r m)

-- 01, Run file: from power-up. A turn reads at least a byte or is the last, so that these are enough
unfoldable pub ended_of : ℕ → Store → List ℕ → End
ended_of kind m s = ended (length s + 1) s m (begun_of kind)

-- the bytes of a buffer up to a place are the last of a chart
pub record Ends (chart out : List ℕ) (at : ℕ) : Type 0 where
  pub earlier : List ℕ
  pub last : earlier ++ take at out ≡ chart

-- 02 (vii): two charts are the same up to a refusal, which the one tells by one number and the other by another, after the same steps done;
-- a run that a step before it has ended does not come to it
pub record SameUpTo (one other : ℕ) (chart cut : List ℕ) : Type 0 where
  pub text : List ℕ
  pub reached : Bool
  pub done : ℕ
  pub here : chart ≡ text ++ cond reached (refused_of one done) []
  pub there : cut ≡ text ++ cond reached (refused_of other done) []
