-- The border's compares and the sprites' phases, each in its cycle (01, tick 3, 7, 8 and 9).
use Rattle.std.specs.Prelude.{ℕ, Bool, cond, List}
use Rattle.schedule.specs.Kind.{Kind}
use Rattle.schedule.specs.Diagram.{happens, line_begins, left40, left38, right38, right40, main_remembered, line_ends, mcbase_step, first_phase, second_phase, mc_load}
use Rattle.border.specs.Border as B
use Rattle.border.specs.declared.Border.{Border}
use Rattle.sprites.specs.Sprites.{mcbase_stepped, first_phased, second_phased, mc_loaded, fetched}
use Rattle.sprites.specs.declared.Sprites.{Sprites}

unfoldable pub begin_at : ℕ → ℕ → Bool → Border → Border
begin_at cycle raster den b = cond (happens line_begins cycle) (B.line_begun b raster den) b

unfoldable pub left40_at : ℕ → ℕ → Bool → Bool → Border → Border
left40_at cycle raster den csel b = cond (happens left40 cycle) (B.left40_passed b csel raster den) b

unfoldable pub left38_at : ℕ → ℕ → Bool → Bool → Border → Border
left38_at cycle raster den csel b = cond (happens left38 cycle) (B.left38_passed b csel raster den) b

unfoldable pub right38_at : ℕ → Bool → Border → Border
right38_at cycle csel b = cond (happens right38 cycle) (B.right38_passed b csel) b

unfoldable pub right40_at : ℕ → Bool → Border → Border
right40_at cycle csel b = cond (happens right40 cycle) (B.right40_passed b csel) b

unfoldable pub remember_at : ℕ → Border → Border
remember_at cycle b = cond (happens main_remembered cycle) (B.remembered b) b

unfoldable pub end_at : Kind → ℕ → ℕ → Bool → Border → Border
end_at k cycle raster den b = cond (happens (line_ends k) cycle) (B.line_ended b raster den) b

-- DECISIONS 23: the main border is remembered after that cycle's left compare
unfoldable pub bordered : Kind → ℕ → ℕ → Bool → Bool → Border → Border
bordered k cycle raster den csel b =
    end_at k cycle raster den
    (remember_at cycle
    (right40_at cycle csel
    (right38_at cycle csel
    (left38_at cycle raster den csel
    (left40_at cycle raster den csel
    (begin_at cycle raster den b))))))

unfoldable pub step_at : ℕ → Sprites → Sprites
step_at cycle s = cond (happens mcbase_step cycle) (mcbase_stepped s) s

unfoldable pub first_at : Kind → ℕ → ℕ → List ℕ → ℕ → ℕ → Sprites → Sprites
first_at k cycle raster my enable yexp s = cond (happens (first_phase k) cycle) (first_phased raster my enable yexp s) s

unfoldable pub second_at : Kind → ℕ → ℕ → List ℕ → ℕ → ℕ → Sprites → Sprites
second_at k cycle raster my enable yexp s = cond (happens (second_phase k) cycle) (second_phased raster my enable yexp s) s

unfoldable pub load_at : Kind → ℕ → ℕ → List ℕ → ℕ → Sprites → Sprites
load_at k cycle raster my enable s = cond (happens (mc_load k) cycle) (mc_loaded raster my enable s) s

unfoldable pub phased : Kind → ℕ → ℕ → List ℕ → ℕ → ℕ → Sprites → Sprites
phased k cycle raster my enable yexp s =
    load_at k cycle raster my enable
    (second_at k cycle raster my enable yexp
    (first_at k cycle raster my enable yexp
    (step_at cycle s)))

-- Bauer 3.8.1 rule 5: sprite n's slot, one byte beside the pointer, two in the cycle after it
unfoldable pub slot_moved : Bool → Bool → ℕ → Sprites → Sprites
slot_moved pointing fetching n s = cond pointing (fetched n 1 s) (cond fetching (fetched n 2 s) s)
