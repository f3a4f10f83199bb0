-- Calls of the plain machine that make an access.
--     IsAccess      what the definitions say of a call that makes this access to this space
--     IsAsked      whether there is such a call
--     RefusesAll      each call that makes an access is refused with a reply
--     asking      the access that stores these bytes, if there are some
--     IsAllowed, IsReady      whether nothing refuses the access;  with what its pages want, and the tables that it lacks
--     reached_cells, after_reach      the cells and the state after it
use Rattle.std.specs.Prelude.{◌≡◌, ℕ, ◌≤◌, Bool, true, false, List, [], length, None}
use Rattle.std.specs.FinMap as map
use Rattle.std.specs.FinSet as set
use Rattle.corten_base.specs.declared.calls.Call.{Call}
use Rattle.corten_base.specs.declared.calls.Reply.{Reply}
use Rattle.corten_base.specs.declared.calls.Reply.TheVariants as reply
use Rattle.table_place.specs.declared.Place.{Place}
use Rattle.page_map.specs.Alike.{unlike_tables}
use Rattle.page_map.specs.State.{State, AddressSpace, IsConsistent, frame_owners, is_present, levels, space_at, unused_frames}
use Rattle.page_map.specs.Takes.{grant}
use Rattle.page_map.specs.Tables.{missing}
use Rattle.page_map.specs.Access.{Access, after_access, outside_user_pages, refused_access, wanting_frames}
use Rattle.page_map.specs.Effect.{frame_grants, is_given_up, spaces_after, wanted_tables, wanting_frames_of, wanting_slots_of}
use Rattle.page_map.specs.Step.{arguments, no_place, no_space, no_spaces, pages, refused_unless}
use Rattle.plain_counts.specs.Levels.{Lists}
use Rattle.plain_spaces.specs.Reach.{above_pages, making, reaching}
use Rattle.plain_spaces.specs.Wants.{IsPlan}
use Rattle.plain_spaces.specs.declared.plan.Plan.{Plan}
use Rattle.mm_model.specs.Lacking.{tables_lack}
use Rattle.mm_model.specs.Steps.{Refuses}

pub record IsAccess (st : State) (c : Call) (space : ℕ) (a : Access) : Type 0 where
  pub arguments_are : arguments st c ≡ outside_user_pages (levels st) a
  pub space_is : no_space st c ≡ refused_unless (is_present st space) reply.NoSpace
  pub no_new : no_spaces st c ≡ None
  pub no_mapping : (thread : ℕ) → no_place st thread c ≡ None
  pub pages_are : pages st c ≡ refused_access st.files (space_at st space) a
  pub wanted_are : (thread : ℕ) →
      wanted_tables st thread c ≡ unlike_tables (levels st) space (after_access st.files (frame_grants st c) a (space_at st space))
  pub frames_are : wanting_frames_of st c ≡ wanting_frames st (space_at st space) a
  pub no_slots : wanting_slots_of st c ≡ []
  pub none_left : (p : Place) → is_given_up st c p ≡ false
  pub spaces_are : (thread : ℕ) →
      spaces_after st thread c ≡ map.insert st.spaces space (after_access st.files (frame_grants st c) a (space_at st space))

abbrev pub IsAsked : State → ℕ → Access → Type 0
IsAsked st space a = (c : Call) × IsAccess st c space a

abbrev pub RefusesAll : State → ℕ → ℕ → Access → Reply → Type 0
RefusesAll st space limbo a r = (c : Call) → IsAccess st c space a → Refuses st limbo c r

abbrev pub asking : ℕ → ℕ → Bool → List ℕ → Access
asking at len write bytes = making (reaching at len write) bytes

pub record IsAllowed (st : State) (space limbo : ℕ) (a : Access) : Type 0 where
  pub facts : IsConsistent st
  pub user : outside_user_pages (levels st) a ≡ None
  pub present : is_present st space ≡ true
  pub pages : refused_access st.files (space_at st space) a ≡ None
  pub tables : tables_lack st (above_pages (levels st) space a) limbo ≡ None
  pub frames : length (wanting_frames st (space_at st space) a) ≤ length (unused_frames st)

pub record IsReady (st : State) (space limbo : ℕ) (plan : Plan) (lacked : List Place) : Type 0 where
  pub allowed : IsAllowed st space limbo plan.access
  pub planned : IsPlan st.files (space_at st space) (frame_owners st) plan
  pub lists : Lists (missing (above_pages (levels st) space plan.access) st.tables) lacked

abbrev pub reached_cells : State → ℕ → Access → AddressSpace
reached_cells st space a =
    after_access st.files (grant (wanting_frames st (space_at st space) a) (unused_frames st)) a (space_at st space)

abbrev pub after_reach : State → ℕ → Access → State
after_reach st space a = record st {
  spaces = map.insert st.spaces space (reached_cells st space a);
  tables = set.union st.tables (set.from_list (unlike_tables (levels st) space (reached_cells st space a)));
}
