-- The page tables that a copy of a space needs: one for each of the space's tables that has a cell in its span.
--     is_filled      whether a cell is neither Invalid nor a link
--     IsFirstFilled      the first such cell of a row, and 512 where there is none
--     page_at      the first page below an entry
--     IsKeyOf      a row has a cell at the first page below one of its entries
--     IsFirstKey      the first such page of a row, and a number that is no page where there is none
--     CopyNeeds      how many page tables a copy needs
use Rattle.std.specs.Prelude.{◌≡◌, ℕ, ◌+◌, ◌-◌, ◌*◌, ◌^◌, ◌<◌, ◌≤◌, Bool, true, false, List, slice_get, Some}
use Rattle.page_map.specs.Spaces.{copied_tables}
use Rattle.page_map.specs.State.{State, is_present}
use Rattle.page_map.specs.Tables.{need}
use Rattle.row_cells.specs.declared.Cell.{Cell}
use Rattle.row_cells.specs.declared.Cell.TheVariants.{Invalid, Table, Anon, File, Mapped, Swapped}
use Rattle.table_place.specs.declared.Place.{Place}
use Rattle.tree_lock.specs.declared.zone.Zone.TheVariants as zone
use Rattle.machine_plan.specs.Cover.{HasCover}
use Rattle.machine_plan.specs.Held.{ListHolds}
use Rattle.machine_plan.specs.HeldRows.{Row, AreOf}
use Rattle.held_needs.specs.Found.{IsStateOf}

abbrev pub is_filled : Cell → Bool
is_filled Invalid = false
is_filled Table = false
is_filled (Anon perm) = true
is_filled (File perm file index) = true
is_filled (Mapped perm origin frame) = true
is_filled (Swapped perm origin slot) = true

abbrev pub FilledAt : List Cell → ℕ → Type 0
FilledAt cells index = (cell : Cell) × (slice_get cells index ≡ Some cell) × (is_filled cell ≡ true)

pub record IsFirstFilled (cells : List Cell) (index : ℕ) : Type 0 where
  pub few : index ≤ 512
  pub before : (i : ℕ) → i < index → FilledAt cells i → ⊥
  pub here : index < 512 → FilledAt cells index

abbrev pub page_at : Place → ℕ → ℕ
page_at p index = (512 * p.prefix + index) * 512 ^ (p.level - 1)

pub record IsKeyOf (h : Row) (page : ℕ) : Type 0 where
  pub deep : 1 ≤ h.place.level
  pub low : h.place.level < 6
  pub index : ℕ
  pub inside : index < 512
  pub filled : FilledAt h.content index
  pub page_is : page ≡ page_at h.place index

abbrev pub no_key : ℕ
no_key = 2 ^ 127

pub record IsFirstKey (h : Row) (page : ℕ) : Type 0 where
  pub least : (q : ℕ) → IsKeyOf h q → page ≤ q
  pub there : page < no_key → IsKeyOf h page

abbrev pub CopyNeeds : List Row → ℕ → Type 0
CopyNeeds rows count = (number space new : ℕ) (st : State) → IsStateOf number rows st → AreOf space rows → HasCover (zone.Space space) st (ListHolds rows)
    → is_present st space ≡ true → is_present st new ≡ false → need (copied_tables st space new) st.tables ≡ count
