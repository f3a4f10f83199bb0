-- What a plan asks of the rows and the kit, and what it leaves.
--     want_by, WantsAre      what a page wants, from what a caller is told of it;  the wants of an access
--     IsFilledOut, IsFilledBy, PlansAccess      the fields of a kit that a plan fills;  what is done for an access
--     HasSeconds      the second bodies of a copy
--     IsPlannable, Needs      what a plan asks of the rows and the kit;  and of the number of rows that the call needs
--     PlansFor, PlansOn      what a plan of one call ensures
--     IsDrawn, Plans      rows of which the references of the used pages were taken out;  what it leaves
use Rattle.std.specs.Prelude.{◌≡◌, ℕ, ◌<◌, Bool, true, false, cond, List, [], ◌∷◌, Option, Some, None, IsSome, IsNone}
use Rattle.std.specs.Option.{option_map_or}
use Rattle.std.specs.List.{All, AllZip, Contains}
use Rattle.corten_base.specs.declared.calls.Backing.TheVariants as backing
use Rattle.corten_base.specs.declared.calls.Call.{Call}
use Rattle.corten_base.specs.declared.calls.Call.TheVariants as call
use Rattle.corten_base.specs.declared.numbers.Status.{Status}
use Rattle.corten_base.specs.declared.numbers.Status.TheVariants as status
use Rattle.counted_pages.specs.Pages.{CountedPage}
use Rattle.page_map.specs.Access.{first_page, page_count}
use Rattle.page_map.specs.Effect.{space_of, wanted_tables}
use Rattle.page_map.specs.State.{State, IsConsistent, levels, space_at}
use Rattle.page_map.specs.Step.{arguments}
use Rattle.page_map.specs.Tables.{need}
use Rattle.machine_plan.specs.declared.kit.Kit.{Kit}
use Rattle.machine_plan.specs.declared.kit.Want.{Want}
use Rattle.machine_plan.specs.declared.kit.Want.TheVariants as want
use Rattle.machine_plan.specs.Agrees.{HasBytes}
use Rattle.machine_plan.specs.Books.{BookData, state_of}
use Rattle.machine_plan.specs.Cover.{HasCover}
use Rattle.machine_plan.specs.Held.{ListHolds}
use Rattle.machine_plan.specs.HeldRows.{Row, RowsShown, AreOf, AreAsked}
use Rattle.machine_plan.specs.Kits.{HasRoom, IsUngranted, IsIdle, HasLists, HasFew, AreSeconds, IsFilled}
use Rattle.machine_plan.specs.Moving.{HasPieces}
use Rattle.machine_plan.specs.Uses.{access_want, wants_in, early_refusal, uses_page, zone_of}
use Rattle.range_cursor.specs.Reach.{Reach, access_of, Sees, early_of}
use Rattle.range_cursor.specs.Drawing.{frame_part, slot_part, ArePartsOf, DrawsPages, IsDrawnRow}
use Rattle.range_cursor.specs.Spaces.{user_count}

abbrev pub want_by : Bool → Status → Option Want
want_by write status.Invalid = None
want_by write (status.Anon perm) = Some (want.Fresh backing.Zero)
want_by write (status.File perm file index) = Some (want.Fresh (backing.File file index))
want_by write (status.Mapped perm frame) = cond write (Some (want.Copy frame)) None
want_by write (status.Swapped perm slot) = Some (want.Back slot)

abbrev pub wants_at : ℕ → Option Want → List (ℕ × Want)
wants_at page wanted = option_map_or (λ w. (page, w) ∷ []) wanted []

abbrev pub WantsAre : Reach → List Row → List (ℕ × Want) → Type 0
WantsAre r rows wants = (st : State) → AreAsked r.space rows (first_page (access_of r)) (page_count (access_of r)) → RowsShown st rows →
    wants ≡ wants_in (space_at st r.space) (first_page (access_of r)) (page_count (access_of r)) (access_want r.write)

-- only these fields are other ones, and so many rows are needed
abbrev pub IsFilledOut : ℕ → Kit → Kit → Type 0
IsFilledOut needed kit kit' = kit' ≡ record kit { early = kit'.early; rows_needed = needed; wants = kit'.wants; own_frames = kit'.own_frames; own_slots = kit'.own_slots; changes = kit'.changes; pieces = kit'.pieces }

-- a kit of a call that nothing refuses before its tables
abbrev pub IsFilledBy : ℕ → Kit → Kit → Type 0
IsFilledBy needed kit kit' = kit' ≡ record kit { early = None; rows_needed = needed; wants = kit'.wants; own_frames = kit'.own_frames; own_slots = kit'.own_slots; changes = kit'.changes }

-- The kit has the early refusal, and where there is none the wants, the references and how many rows are needed. The pieces of a refused call are gone.
pub record PlansAccess (r : Reach) (needed : ℕ) (files : List (List ℕ)) (rows : List Row) (kit : Kit) (rows' : List Row) (kit' : Kit) : Type 0 where
  pub early : (st : State) → Sees st r rows → st.files ≡ files → kit'.early ≡ early_of st r
  pub kit_is : IsFilledOut needed kit kit'
  pub room : HasRoom kit'
  pub few : HasFew kit'
  pub wants : IsNone kit'.early → WantsAre r rows kit'.wants.items
  pub draws : IsNone kit'.early → DrawsPages r.space (first_page (access_of r)) (page_count (access_of r)) rows rows' kit'.own_frames.items kit'.own_slots.items
  pub changes : IsNone kit'.early → kit'.changes.items ≡ []
  pub idle : IsSome kit'.early → IsIdle kit'
  pub kept : IsNone kit'.early → kit'.pieces.items ≡ kit.pieces.items
  pub unmoved : IsSome kit'.early → kit'.pieces.items ≡ []
  pub untouched : IsSome kit'.early → rows' ≡ rows

-- The calls

abbrev pub is_fork : Call → Bool
is_fork (call.Fork space) = true
is_fork _ = false

-- the kit of a copy has a second body for each reference in the rows of the space, in the order of their pages
pub record HasSeconds (b : BookData) (space depth : ℕ) (rows : List Row) (kit : Kit) : Type 0 where
  pub frames : (refs : List (ℕ × CountedPage)) → ArePartsOf frame_part space rows 16 (user_count depth) refs → AreSeconds b.frames refs kit.second_frames.items
  pub slots : (refs : List (ℕ × CountedPage)) → ArePartsOf slot_part space rows 16 (user_count depth) refs → AreSeconds b.slots refs kit.second_slots.items

-- The rows are the cover of the call's zone and are those of the state, and each body has its spare.
pub record IsPlannable (b : BookData) (thread : ℕ) (c : Call) (depth : ℕ) (files : List (List ℕ)) (rows : List Row) (kit : Kit) : Type 0 where
  pub consistent : IsConsistent (state_of b)
  pub same_levels : levels (state_of b) ≡ depth
  pub same_files : (state_of b).files ≡ files
  pub shown : RowsShown (state_of b) rows
  pub cover : IsNone (arguments (state_of b) c) → HasCover (zone_of thread c) (state_of b) (ListHolds rows)
  pub one_space : (s : ℕ) → space_of c ≡ Some s → AreOf s rows
  pub backed : is_fork c ≡ false → (x : Row) → Contains rows x → All (HasBytes b) x.content
  pub no_seconds : is_fork c ≡ false → (kit.second_frames.items ≡ []) × (kit.second_slots.items ≡ [])
  pub seconds : (s : ℕ) → c ≡ call.Fork s → HasSeconds b s depth rows kit
  pub room : HasRoom kit
  pub lists : HasLists c kit
  pub idle : IsIdle kit
  pub ungranted : IsUngranted kit
  pub pieces : IsNone (early_refusal (state_of b) thread c) → HasPieces (state_of b) thread c kit.pieces.items

-- so many rows are needed, where nothing refuses the call before its tables
abbrev pub Needs : BookData → ℕ → Call → ℕ → Type 0
Needs b thread c needed = IsNone (early_refusal (state_of b) thread c) → needed ≡ need (wanted_tables (state_of b) thread c) (state_of b).tables

abbrev pub IsDrawn : State → ℕ → Call → List Row → List Row → Type 0
IsDrawn st thread c old new = AllZip (IsDrawnRow (uses_page st thread c)) old new

pub record Plans (b : BookData) (thread : ℕ) (c : Call) (rows : List Row) (kit : Kit) (rows' : List Row) (kit' : Kit) : Type 0 where
  pub filled : IsFilled b thread c kit'
  pub drawn : IsNone kit'.early → IsDrawn (state_of b) thread c rows rows'
  pub untouched : IsSome kit'.early → rows' ≡ rows

-- what a plan of one call ensures, for each book with which the rows and the kit may be planned
abbrev pub PlansFor : ℕ → ℕ → Call → List Row → Kit → List Row → Kit → Type 0
PlansFor depth needed c rows kit rows' kit' =
    (b : BookData) (thread : ℕ) (files : List (List ℕ)) → IsPlannable b thread c depth files rows kit → Needs b thread c needed → Plans b thread c rows kit rows' kit'

-- the same for a call that names a file
abbrev pub PlansOn : List (List ℕ) → ℕ → ℕ → Call → List Row → Kit → List Row → Kit → Type 0
PlansOn files depth needed c rows kit rows' kit' = (b : BookData) (thread : ℕ) → thread < 8 → IsPlannable b thread c depth files rows kit → Needs b thread c needed → Plans b thread c rows kit rows' kit'

-- the same for a thread whose arena is known
abbrev pub PlansBy : ℕ → List (List ℕ) → ℕ → ℕ → Call → List Row → Kit → List Row → Kit → Type 0
PlansBy thread files depth needed c rows kit rows' kit' = (b : BookData) → IsPlannable b thread c depth files rows kit → Needs b thread c needed → Plans b thread c rows kit rows' kit'
