-- The text of a run on its way, turn by turn. No rules: what private functions hand on.
use Rattle.std.specs.Prelude.{ℕ, ◌+◌, cond, List, leb, length}
use Rattle.script.specs.declared.Found.{Found}
use Rattle.driver.specs.declared.Run.{Run}
use Rattle.driver.specs.declared.Made.{Made}
use Rattle.driver.specs.Driver.{Store, made_on, begun_of as drive_begun}
use Rattle.clerk.specs.declared.Page.{Page}
use Rattle.clerk.specs.Bus.{text_of}

abbrev pub page : Run → ℕ → Page
page r at = record { run = r; at = at }

-- nothing is written
unfoldable pub begun_of : ℕ → Page
begun_of kind = page (drive_begun kind) 0

-- where 46 of the block's 65,536 bytes are not free, the block is written out
unfoldable pub roomed : Page → Page
roomed p = cond (leb p.at 65490) p (page p.run 0)

abbrev pub page_by : Page → Made → Page
page_by p x = page x.run (p.at + length (text_of x))

abbrev pub said_on : Store → Page → Found → List ℕ
said_on m p found = text_of (made_on m p.run found)

abbrev pub page_on : Store → Page → Found → Page
page_on m p found = page_by p (made_on m p.run found)
