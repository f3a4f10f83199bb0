-- What an apply asks of the rows, the pass and the kit, and what it leaves.
--     hand_row      the number of a row of the hand
--     OnlyWords, OnlyRows      of a pass nothing but words of its rows is new;  nothing but its rows, and what is left in its hand
--     IsApplicable      what it asks
--     is_store, ShowsStores      whether a call stores;  the writing bits that are set then
--     Applied      what it leaves
use Rattle.std.specs.Prelude.{◌≡◌, ℕ, ◌+◌, ◌*◌, ◌<◌, ◌⊎◌, Bool, true, false, List, [], map, slice_index, Some}
use Rattle.std.specs.List.{Contains}
use Rattle.corten_base.specs.declared.calls.Call.{Call}
use Rattle.corten_base.specs.declared.calls.Call.TheVariants as call
use Rattle.page_map.specs.declared.cell.Cell.{Cell as PageCell}
use Rattle.page_map.specs.Cell.{perm_of, can_read, can_write}
use Rattle.page_map.specs.Effect.{space_of}
use Rattle.page_map.specs.State.{IsConsistent, cell_at}
use Rattle.row_cells.specs.declared.Cell.{Cell}
use Rattle.row_table.specs.declared.view.PassView.{PassView}
use Rattle.row_table.specs.declared.view.HandRow.{HandRow}
use Rattle.row_table.specs.declared.view.HeldRow.{HeldRow as KnownRow}
use Rattle.row_table.specs.Rule.{SameRows}
use Rattle.tree_lock.specs.Release.{HoldsExactly}
use Rattle.walk_core.specs.Core.{granted_rows}
use Rattle.walk_core.specs.Words.{leaf_write}
use Rattle.machine_plan.specs.declared.kit.Kit.{Kit}
use Rattle.machine_plan.specs.Books.{BookData, state_of}
use Rattle.machine_plan.specs.Cover.{HasLevelsOf}
use Rattle.machine_plan.specs.Held.{HeldWith, AllGiven}
use Rattle.machine_plan.specs.HeldRows.{Row, AreOf}
use Rattle.machine_plan.specs.Kits.{HasRoom, IsUngranted, IsIdle, IsFilled}
use Rattle.machine_plan.specs.Uses.{uses_page}
use Rattle.machine_plan.specs.Whole.{IsBook}
use Rattle.cursor_detach.specs.Left.{AreLeft, IsCommitted}

abbrev pub hand_row : HandRow → ℕ
hand_row x = x.row

abbrev pub is_store : Call → Bool
is_store (call.Store space at bytes) = true
is_store (call.Fault space at write) = write
is_store (call.Map space where_to len perm what) = false
is_store (call.Unmap space at len) = false
is_store (call.Protect space at len perm) = false
is_store (call.Load space at len) = false
is_store call.Spawn = false
is_store (call.Fork space) = false
is_store (call.Exit space) = false
is_store (call.SwapOut space at len) = false
is_store (call.SwapIn space at len) = false
is_store (call.Txn space at len ops) = false
is_store (call.DontNeed space at len) = false
is_store (call.Remap space at old_len new_len) = false

module _ {B E : Type 0} where
  abbrev pub OnlyWords : PassView (List Cell) B E → PassView (List Cell) B E → Type 0
  OnlyWords v w = w ≡ record v { rows = w.rows }

  abbrev pub OnlyRows : PassView (List Cell) B E → PassView (List Cell) B E → Type 0
  OnlyRows v w = w ≡ record v { core = record v.core { held = w.core.held; granted = w.core.granted }; rows = w.rows; hand = w.hand }

  -- The book b was given after a detach, with the granted rows. Where nothing was committed it is a.
  pub record IsApplicable (a b : BookData) (thread : ℕ) (c : Call) (v : PassView (List Cell) B E) (rows : List Row) (kit : Kit) : Type 0 where
    pub exact : HoldsExactly rows v.core.held v.rows
    pub rows_left : AreLeft a b thread c kit v rows
    pub given : AllGiven v
    pub not_book : v.core.has_book ≡ false
    pub consistent : IsConsistent (state_of b)
    pub same_levels : HasLevelsOf b v
    -- a leaf has 12 bits for its frame, and the counts that a commit keeps are those of the states
    pub books : IsBook a × IsBook b
    pub one_space : (s : ℕ) → space_of c ≡ Some s → AreOf s rows
    pub answered : Kit
    pub same_kit : kit ≡ record answered { gone = kit.gone }
    pub committed : IsCommitted a b thread c answered ⊎ (IsFilled a thread c answered × (b ≡ a))
    -- a sweep in the same hold changes their order
    pub hand : SameRows (map hand_row v.hand) (map (λ g. g.0) kit.rows.items)
    pub granted : SameRows (granted_rows v.core) (map (λ g. g.0) kit.rows.items)
    -- the lists of what detach and the book keep
    pub room : HasRoom kit

  -- The leaf of each page that a store wrote and that may be read and written has the writing bit.
  abbrev pub ShowsStores : BookData → ℕ → Call → PassView (List Cell) B E → Type 0
  ShowsStores b thread c w = (h : KnownRow (List Cell)) (index : ℕ) (cell : PageCell) → Contains w.rows h → h.place.level ≡ 1 → index < 512 → is_store c ≡ true
      → uses_page (state_of b) thread c h.place.space (512 * h.place.prefix + index) ≡ true → cell_at (state_of b) h.place.space (512 * h.place.prefix + index) ≡ Some cell
      → can_read (perm_of cell) ≡ true → can_write (perm_of cell) ≡ true → leaf_write (slice_index h.words index) ≡ true

  -- v is the view before
  pub record Applied (b : BookData) (thread : ℕ) (c : Call) (v w : PassView (List Cell) B E) (rows' : List Row) (kit kit' : Kit) : Type 0 where
    pub view : OnlyRows v w
    pub held : HeldWith b w rows'
    pub given : AllGiven w
    pub hand : (w.hand ≡ []) × (w.core.granted ≡ [])
    pub stored : kit.done ≡ true → ShowsStores b thread c w
    pub room : HasRoom kit'
    pub idle : IsIdle kit'
    pub ungranted : IsUngranted kit'
    pub seconds : (kit'.second_frames.items ≡ []) × (kit'.second_slots.items ≡ [])
