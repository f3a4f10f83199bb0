-- Accesses as held rows see them.
--     Reach, IsReach      1 to 4,096 bytes of a space that are read or written, where there are four or five levels
--     access_of      the same in the page map's words
--     reach_of      the access that a call makes
--     touched      the zone of its pages
--     past_end, refused_status      whether a page is a file's past its end, and why an access to it is refused, from what a caller is told of it
--     KnowsRoot      rows from which it is known whether a space is there
--     Sees      rows that have the cover of the access
--     early_of      the early refusal of an access
use Rattle.std.specs.Prelude.{◌≡◌, ℕ, ◌+◌, ◌-◌, ◌*◌, ◌/◌, ◌<◌, ◌≤◌, Bool, true, false, cond, List, [], ◌∷◌, length, nat_le, Option, Some, None, IsNone}
use Rattle.corten_base.specs.declared.numbers.Status.{Status}
use Rattle.corten_base.specs.declared.numbers.Status.TheVariants as status
use Rattle.corten_base.specs.declared.permissions.Perm.{Perm}
use Rattle.corten_base.specs.declared.calls.Call.{Call}
use Rattle.corten_base.specs.declared.calls.Call.TheVariants as call
use Rattle.corten_base.specs.declared.calls.Reply.{Reply}
use Rattle.corten_base.specs.declared.calls.Reply.TheVariants as reply
use Rattle.page_map.specs.Access.{Access, outside_user_pages, refused_access}
use Rattle.page_map.specs.Cell.{can_read, can_write, file_bytes}
use Rattle.page_map.specs.State.{State, IsConsistent, levels, space_at, is_present}
use Rattle.page_map.specs.Step.{refused_unless, first_refusal}
use Rattle.table_place.specs.Place.{root, directory}
use Rattle.tree_lock.specs.declared.zone.Zone.{Zone}
use Rattle.tree_lock.specs.declared.zone.Zone.TheVariants as zone
use Rattle.machine_plan.specs.Agrees.{IsNoTable}
use Rattle.machine_plan.specs.Cover.{HasCover}
use Rattle.machine_plan.specs.Held.{ListHolds}
use Rattle.machine_plan.specs.HeldRows.{Row, RowsShown, AreOf}

pub record Reach : Type 0 where
  pub levels : ℕ
  pub space : ℕ
  pub at : ℕ
  pub len : ℕ
  pub write : Bool

pub record IsReach (r : Reach) : Type 0 where
  pub some_levels : 4 ≤ r.levels
  pub few_levels : r.levels ≤ 5
  pub space : r.space < 64
  pub some : 0 < r.len
  pub few : r.len ≤ 4096

abbrev pub access_of : Reach → Access
access_of r = record { at = r.at; len = r.len; write = r.write; stored = [] }

-- the access that a call makes, where there are so many levels
abbrev pub reach_of : ℕ → Call → Option Reach
reach_of depth (call.Load space at len) = Some (record { levels = depth; space = space; at = at; len = len; write = false })
reach_of depth (call.Store space at bytes) = Some (record { levels = depth; space = space; at = at; len = length bytes; write = true })
reach_of depth (call.Fault space at write) = Some (record { levels = depth; space = space; at = at; len = 1; write = write })
reach_of depth (call.Map space where_to len perm what) = None
reach_of depth (call.Unmap space at len) = None
reach_of depth (call.Protect space at len perm) = None
reach_of depth call.Spawn = None
reach_of depth (call.Fork space) = None
reach_of depth (call.Exit space) = None
reach_of depth (call.SwapOut space at len) = None
reach_of depth (call.SwapIn space at len) = None
reach_of depth (call.Txn space at len ops) = None
reach_of depth (call.DontNeed space at len) = None
reach_of depth (call.Remap space at old_len new_len) = None

abbrev pub touched : Reach → Zone
touched r = zone.Pages r.space (r.at / 4096) ((r.at + r.len - 1) / 4096 + 1 - r.at / 4096) false

abbrev pub past_end : List (List ℕ) → Status → Bool
past_end files (status.File perm file index) = nat_le (length (file_bytes files file)) (4096 * index)
past_end files status.Invalid = false
past_end files (status.Anon perm) = false
past_end files (status.Mapped perm frame) = false
past_end files (status.Swapped perm slot) = false

abbrev pub refused_perm : Bool → ℕ → Perm → Option Reply → Option Reply
refused_perm write page perm other = cond (cond write (can_write perm) (can_read perm)) other (Some (reply.Denied (4096 * page)))

abbrev pub refused_status : List (List ℕ) → Bool → ℕ → Status → Option Reply
refused_status files write page status.Invalid = Some (reply.Segv (4096 * page))
refused_status files write page (status.Anon perm) = refused_perm write page perm None
refused_status files write page (status.File perm file index) = refused_perm write page perm (cond (past_end files (status.File perm file index)) (Some (reply.Bus (4096 * page))) None)
refused_status files write page (status.Mapped perm frame) = refused_perm write page perm None
refused_status files write page (status.Swapped perm slot) = refused_perm write page perm None

-- the rows are those of the state, and the directory is one of them where the space has no root
pub record KnowsRoot (st : State) (space : ℕ) (rows : List Row) : Type 0 where
  pub consistent : IsConsistent st
  pub shown : RowsShown st rows
  pub top : IsNoTable st (root (levels st) space) → ListHolds rows directory

-- the rows are those of the state, and of one space, and have the cover where the pages are user pages
pub record Sees (st : State) (r : Reach) (rows : List Row) : Type 0 where
  pub consistent : IsConsistent st
  pub same_levels : levels st ≡ r.levels
  pub shown : RowsShown st rows
  pub cover : IsNone (outside_user_pages r.levels (access_of r)) → HasCover (touched r) st (ListHolds rows)
  pub one_space : AreOf r.space rows

abbrev pub early_at : ℕ → Reach → State → Option Reply
early_at depth r st = first_refusal (outside_user_pages depth (access_of r) ∷ refused_unless (is_present st r.space) reply.NoSpace ∷ None ∷ None ∷ refused_access st.files (space_at st r.space) (access_of r) ∷ [])

abbrev pub early_of : State → Reach → Option Reply
early_of st r = early_at r.levels r st
