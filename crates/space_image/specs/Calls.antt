-- The calls that build an image in space 0.
--     map_call      a mapping of so many pages at a place
--     page_calls, item_calls      the calls of a page;  of an item
--     in_turn, calls_of      the items in the order in which they are built, and the calls of all: pages in swap slots first,
--         so that a frame is left for each of them, then those with frames, then the runs
--     replies_of, left_by      the replies to calls of thread 0, and the state that they leave
use Rattle.std.specs.Prelude.{ℕ, ◌*◌, Bool, true, false, cond, List, [], ◌∷◌, ◌++◌, filter}
use Rattle.std.specs.List.{flat_map}
use Rattle.corten_base.specs.declared.permissions.Perm.{Perm}
use Rattle.corten_base.specs.declared.calls.Backing.{Backing}
use Rattle.corten_base.specs.declared.calls.Call.{Call}
use Rattle.corten_base.specs.declared.calls.Call.TheVariants as call
use Rattle.corten_base.specs.declared.calls.MapPlace.TheVariants as place
use Rattle.corten_base.specs.declared.calls.Reply.{Reply}
use Rattle.page_map.specs.Alike.{same_perm}
use Rattle.page_map.specs.State.{State}
use Rattle.page_map.specs.Step.{step}
use Rattle.image_text.specs.declared.image.Item.{Item}
use Rattle.image_text.specs.declared.image.Item.TheVariants.{Run, Page}
use Rattle.image_text.specs.declared.image.Residence.{Residence}
use Rattle.image_text.specs.declared.image.Residence.TheVariants.{Live, Out}
use Rattle.image_text.specs.Items.{is_live, is_out, whole}

-- a page is written under these permissions, and gets its own afterwards
abbrev pub read_write : Perm
read_write = record { read = true; write = true; exec = false }

abbrev pub map_call : ℕ → ℕ → Perm → Backing → Call
map_call first count perm what = call.Map 0 (place.At (4096 * first)) (4096 * count) perm what

abbrev pub protect_calls : ℕ → Perm → List Call
protect_calls page perm = cond (same_perm perm read_write) [] (call.Protect 0 (4096 * page) 4096 perm ∷ [])

abbrev pub move_calls : ℕ → Residence → List Call
move_calls page Live = []
move_calls page Out = call.SwapOut 0 (4096 * page) 4096 ∷ []

abbrev pub page_calls : ℕ → Perm → Backing → Residence → List ℕ → List Call
page_calls page perm origin residence bytes =
    map_call page 1 read_write origin ∷ call.Store 0 (4096 * page) (whole bytes) ∷ (protect_calls page perm ++ move_calls page residence)

abbrev pub item_calls : Item → List Call
item_calls (Run first count perm what) = map_call first count perm what ∷ []
item_calls (Page page perm origin residence bytes) = page_calls page perm origin residence bytes

abbrev pub is_run : Item → Bool
is_run (Run first count perm what) = true
is_run (Page page perm origin residence bytes) = false

abbrev pub in_turn : List Item → List Item
in_turn items = filter is_out items ++ filter is_live items ++ filter is_run items

abbrev pub calls_of : List Item → List Call
calls_of items = flat_map item_calls (in_turn items)

abbrev pub replies_of : State → List Call → List Reply
replies_of st [] = []
replies_of st (c ∷ cs) = (step st 0 c 0).0 ∷ replies_of (step st 0 c 0).1 cs

abbrev pub left_by : State → List Call → State
left_by st [] = st
left_by st (c ∷ cs) = left_by (step st 0 c 0).1 cs
