-- What a page of a space shows.
--     status_in      what a caller is told of a page in a state. None where the space is absent
--     HasPage      a page of the range
--     Foretells      what the rows of a transaction tell of a page is what stands there in the book that the next turn finds
use Rattle.std.specs.Prelude.{◌≡◌, ℕ, ◌+◌, ◌<◌, ◌≤◌, Option, Some}
use Rattle.std.specs.Option.{option_map}
use Rattle.std.specs.FinMap as map
use Rattle.corten_base.specs.Pages.{PageRange}
use Rattle.corten_base.specs.declared.numbers.Status.{Status}
use Rattle.page_map.specs.Cell.{status_of}
use Rattle.page_map.specs.State.{State}
use Rattle.row_table.specs.Books.{Learns}
use Rattle.row_table.specs.Passes.{view_of}
use Rattle.machine_plan.specs.Books.{BookData, state_of}
use Rattle.machine_plan.specs.Follows.{machine}
use Rattle.machine_plan.specs.Whole.{IsBook}
use Rattle.mm_txn.specs.Txns.{HeldRange}

abbrev pub status_in : State → ℕ → ℕ → Option Status
status_in st space page = option_map (λ cells. status_of (map.get cells page)) (map.get st.spaces space)

abbrev pub HasPage : Option PageRange → ℕ → Type 0
HasPage range page = (r : PageRange) × (range ≡ Some r) × (r.first ≤ page) × (page < r.first + r.count)

abbrev pub Foretells : HeldRange → ℕ → Option Status → Type 0
Foretells x page answer = (b : BookData) → IsBook b → Learns machine x.machine.table.layout.rows (view_of x.pass) b → answer ≡ status_in (state_of b) x.space page
