-- A machine that is restored.
--     entered      answered calls of thread 0
--     AreEntered      calls that were made and put down
--     is_of, calls_of_kind      whether an item is of a kind;  the calls of an item that is
--     IsBuildable      an item whose addresses are numbers of 64 bits
--     left_at_start      the state that the calls of an image leave
--     IsRestored      the history of an image
use Rattle.std.specs.Prelude.{◌≤◌, ◌^◌, Bool, cond, length, ◌≡◌, false, List, [], ◌∷◌, ◌++◌, map, All}
use Rattle.corten_base.specs.declared.calls.Call.{Call}
use Rattle.corten_base.specs.declared.calls.Entry.{Entry}
use Rattle.page_map.specs.History.{IsHistory, after}
use Rattle.page_map.specs.Memory.{is_refusal}
use Rattle.page_map.specs.State.{State, accounts, space_at, start}
use Rattle.page_map.specs.Step.{step}
use Rattle.history_lines.specs.declared.history.History.{History}
use Rattle.history_lines.specs.HistoryText.{IsAsked}
use Rattle.image_text.specs.declared.image.Item.{Item}
use Rattle.image_text.specs.Items.{AreEqualButForNumbers, bytes_of, cells_of, end_of, is_live, is_out}
use Rattle.space_image.specs.declared.restoring.Kind.{Kind}
use Rattle.space_image.specs.declared.restoring.Kind.TheVariants as Kinds
use Rattle.image_text.specs.Images.{ImageParts}
use Rattle.space_image.specs.Calls.{calls_of, is_run, item_calls, left_by}

abbrev pub entered : State → List Call → List Entry
entered st [] = []
entered st (c ∷ cs) = record { thread = 0; call = c; reply = (step st 0 c 0).0 } ∷ entered (step st 0 c 0).1 cs

pub record AreEntered (st now : State) (old new : List Entry) (cs : List Call) : Type 0 where
  pub state : now ≡ left_by st cs
  pub entries : new ≡ old ++ entered st cs

abbrev pub is_of : Kind → Item → Bool
is_of Kinds.Out = is_out
is_of Kinds.Live = is_live
is_of Kinds.Run = is_run

abbrev pub calls_of_kind : Kind → Item → List Call
calls_of_kind kind item = cond (is_of kind item) (item_calls item) []

pub record IsBuildable (item : Item) : Type 0 where
  pub small : end_of item ≤ 2 ^ 44
  pub size : length (bytes_of item) ≤ 4096

abbrev pub left_at_start : ImageParts → State
left_at_start image = left_by (start image.limits image.files) (calls_of image.items)

-- Thread 0 makes the image's calls in their order, each with the reply of the definitions, of which none is a refusal. The
-- accounts are those of the state that they leave, and space 0 has the image's map but for numbers.
pub record IsRestored (image : ImageParts) (h : History) : Type 0 where
  pub version : h.version ≡ 2
  pub limits : h.limits ≡ image.limits
  pub files : h.shelf ≡ image.files
  pub calls : map (λ e. e.call) h.entries ≡ calls_of image.items
  pub threads : All (λ e. e.thread ≡ 0) h.entries
  pub legal : IsHistory image.limits image.files h.entries
  pub not_refused : All (λ e. is_refusal e.reply ≡ false) h.entries
  pub accounts : h.accounts ≡ accounts (after (start image.limits image.files) h.entries) 0
  pub same_map : AreEqualButForNumbers (cells_of image.items) (space_at (after (start image.limits image.files) h.entries) 0)
  pub asked : All IsAsked h.entries
