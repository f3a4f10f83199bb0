-- What the pages of an access want.
--     backing_bytes, lies_past      the bytes of what a page came from;  whether that lies wholly past the end of its file
--     moving, want_of      what a page gets that wants a frame;  and what each page wants
--     IsWant, WantsAt, WantsBeyond      what a cell wants;  the page of a space;  the last page of an access, where that is not the first
--     IsPlan, IsSomePlan      what the first page of an access wants, and what its last page does where that is another
--     IsNeed      how many frames it wants
--     from_of      the number that a page leaves, where it wants a frame
--     in_frame, laid      a page on the frame that it got, where it wanted one;  the cells once it is there
--     Brings      the pages of the access get the frames that they want
--     Made      the access is made, and stores these bytes
--     refusal_of, StopsFor      the reply with which an access is refused;  an access that is not made for this refusal, or for want of memory
--     refusal_at, refusal_beyond      for what a page refuses an access;  the last page, where that is not the first
use Rattle.std.specs.Prelude.{◌≡◌, ℕ, ◌*◌, Bool, false, cond, List, length, nat_le, slice_index, Option, Some, None, IfSome}
use Rattle.std.specs.Option.{option_map}
use Rattle.std.specs.FinMap as map
use Rattle.corten_base.specs.declared.calls.Backing.{Backing}
use Rattle.corten_base.specs.declared.calls.Backing.TheVariants.{Zero, File}
use Rattle.corten_base.specs.declared.calls.Reply.{Reply}
use Rattle.page_map.specs.declared.cell.Cell.{Cell}
use Rattle.page_map.specs.Cell.{zeros, contents, file_bytes, file_page}
use Rattle.page_map.specs.Change.{change}
use Rattle.page_map.specs.State.{AddressSpace}
use Rattle.page_map.specs.Access.{Access, first_page, refused_at}
use Rattle.space_cells.specs.declared.held.HeldPage.{HeldPage}
use Rattle.space_cells.specs.declared.held.Number.{Number}
use Rattle.space_cells.specs.declared.held.Number.TheVariants.{Frame}
use Rattle.plain_counts.specs.declared.counts.Counts.{Counts}
use Rattle.space_cells.specs.Cells.{number_of, with_held}
use Rattle.plain_spaces.specs.Reach.{last_page, beyond, brought, grants_of, making, wants, wanting, IsUserAccess, IsWhole, Makes}
use Rattle.plain_spaces.specs.declared.access.Stop.{Stop}
use Rattle.plain_spaces.specs.declared.access.Stop.TheVariants.{Refused, NoMemory}
use Rattle.plain_spaces.specs.declared.plan.Want.{Want}
use Rattle.plain_spaces.specs.declared.plan.Plan.{Plan}

abbrev pub backing_bytes : List (List ℕ) → Backing → List ℕ
backing_bytes files Zero = zeros
backing_bytes files (File file index) = file_page files file index

abbrev pub lies_past : List (List ℕ) → Backing → Bool
lies_past files Zero = false
lies_past files (File file index) = nat_le (length (file_bytes files file)) (4096 * index)

-- the number that it leaves, and the bytes that an access finds
abbrev pub moving : List (List ℕ) → Cell → Want
moving files cell = record { from = number_of cell; body = contents files cell }

abbrev pub want_of : List (List ℕ) → (ℕ → ℕ) → Bool → Cell → Option Want
want_of files owners write cell = cond (wants owners write cell) (Some (moving files cell)) None

abbrev pub IsWant : List (List ℕ) → List ℕ → Bool → Cell → Option Want → Type 0
IsWant files frames write cell want = want ≡ want_of files (slice_index frames) write cell

abbrev pub WantsAt : List (List ℕ) → List ℕ → Bool → AddressSpace → ℕ → Option Want → Type 0
WantsAt files frames write cells page want = option_map (want_of files (slice_index frames) write) (map.get cells page) ≡ Some want

abbrev pub WantsBeyond : List (List ℕ) → List ℕ → AddressSpace → Access → Option Want → Type 0
WantsBeyond files frames cells a want =
    beyond a (Some None) (option_map (want_of files (slice_index frames) a.write) (map.get cells (last_page a))) ≡ Some want

pub record IsPlan (files : List (List ℕ)) (cells : AddressSpace) (owners : ℕ → ℕ) (plan : Plan) : Type 0 where
  pub user : IsUserAccess plan.access
  pub near : option_map (want_of files owners plan.access.write) (map.get cells (first_page plan.access)) ≡ Some plan.near
  pub far : beyond plan.access (Some None) (option_map (want_of files owners plan.access.write) (map.get cells (last_page plan.access))) ≡ Some plan.far

-- by the files of any shelf
abbrev pub IsSomePlan : AddressSpace → (ℕ → ℕ) → Plan → Type 0
IsSomePlan cells owners plan = (files : List (List ℕ)) × IsPlan files cells owners plan

abbrev pub IsNeed : Plan → ℕ → Type 0
IsNeed plan n = (files : List (List ℕ)) (cells : AddressSpace) (owners : ℕ → ℕ) → IsPlan files cells owners plan → n ≡ length (wanting owners cells plan.access)

abbrev pub from_of : Option Want → Option Number
from_of None = None
from_of (Some want) = want.from

abbrev pub in_frame : ℕ → Option ℕ → Option Want → Option (ℕ × HeldPage)
in_frame page (Some frame) (Some want) = Some (page, record { number = Frame frame; bytes = want.body })
in_frame page (Some frame) None = None
in_frame page None (Some want) = None
in_frame page None None = None

abbrev pub laid : Option (ℕ × HeldPage) → AddressSpace → AddressSpace
laid None cells = cells
laid (Some e) cells = change cells e.0 1 (λ _. option_map (with_held e.1))

abbrev pub Brings : Counts → AddressSpace → AddressSpace → Plan → Type 0
Brings counts cells cells' plan =
    (files : List (List ℕ)) → IsPlan files cells (slice_index counts.frames) plan → cells' ≡ brought files (grants_of counts cells plan.access) plan.access cells

abbrev pub Made : Counts → Counts → AddressSpace → AddressSpace → List ℕ → Plan → Type 0
Made counts counts' cells cells' stored plan =
    (files : List (List ℕ)) → IsPlan files cells (slice_index counts.frames) plan → IsWhole files cells → Makes files (making plan.access stored) cells cells' counts counts'

abbrev pub refusal_of : Stop → Option Reply
refusal_of (Refused reply) = Some reply
refusal_of NoMemory = None

abbrev pub StopsFor : Option Reply → Stop → Type 0
StopsFor refusal stop = IfSome (refusal_of stop) (λ reply. refusal ≡ Some reply)

abbrev pub refusal_at : List (List ℕ) → Bool → AddressSpace → ℕ → Option Reply
refusal_at files write cells page = refused_at files write page (map.get cells page)

abbrev pub refusal_beyond : List (List ℕ) → AddressSpace → Access → Option Reply
refusal_beyond files cells a = beyond a None (refusal_at files a.write cells (last_page a))
