-- When a page was touched last, by the whole history.
--     is_reached      whether a call accesses a page of a space
--     is_new_frame      whether a page has a frame that it did not have before
--     touches      whether an answered call touches a page, from the state before it
--     IsTouchedAt, IsLastTouch      whether the answered call at a place of a history does;  whether it is the last that does
use Rattle.std.specs.Prelude.{◌≡◌, ℕ, ◌≤◌, Bool, true, false, not, ◌&&◌, ◌||◌, List, ◌∷◌, ◌++◌, length, nat_eq, Option, Some, None}
use Rattle.std.specs.Option.{option_map_or}
use Rattle.corten_base.specs.declared.calls.Call.{Call}
use Rattle.corten_base.specs.declared.calls.Entry.{Entry}
use Rattle.table_place.specs.Range.{within}
use Rattle.page_map.specs.State.{State}
use Rattle.page_map.specs.Access.{first_page, page_count}
use Rattle.page_map.specs.Effect.{space_of, access_of}
use Rattle.page_map.specs.Memory.{is_refusal}
use Rattle.page_map.specs.History.{after, entry_step}
use Rattle.mm_model.specs.Pages.{frame_at}

-- a load, a store or a page fault of one of its bytes
abbrev pub is_reached : Call → ℕ → ℕ → Bool
is_reached c space page =
    option_map_or (nat_eq space) (space_of c) false && option_map_or (λ a. within (first_page a) (page_count a) page) (access_of c) false

-- the first is the frame before, if there was one, the second the frame now
abbrev pub is_new_frame : Option ℕ → Option ℕ → Bool
is_new_frame was None = false
is_new_frame None (Some now) = true
is_new_frame (Some was) (Some now) = not (nat_eq was now)

-- An access that was not refused touches its pages. Any call touches those that have a frame after it and did not have it before.
abbrev pub touches : State → Entry → ℕ → ℕ → Bool
touches st e space page =
    (not (is_refusal e.reply) && is_reached e.call space page) || is_new_frame (frame_at st space page) (frame_at (entry_step st e).1 space page)

-- places count from 0
pub record IsTouchedAt (st : State) (es : List Entry) (space page place : ℕ) : Type 0 where
  pub before : List Entry
  pub entry : Entry
  pub rest : List Entry
  pub parted : es ≡ before ++ entry ∷ rest
  pub counted : place ≡ length before
  pub touched : touches (after st before) entry space page ≡ true

pub record IsLastTouch (st : State) (es : List Entry) (space page place : ℕ) : Type 0 where
  pub there : IsTouchedAt st es space page place
  pub last : (other : ℕ) → IsTouchedAt st es space page other → other ≤ place
