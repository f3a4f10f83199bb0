-- The worked row of two calls: limits, calls and kits.
--     worked_limits      four levels, 2 frames, 4 page tables and 1 swap slot
--     map_page      a page is mapped at an address
--     IsMapKit      the kit of such a call where so many rows are needed
--     Maps      such a call is answered with such a kit
use Rattle.std.specs.Prelude.{◌≡◌, ℕ, true, false, [], ◌∷◌, None}
use Rattle.corten_base.specs.declared.numbers.Limits.{Limits}
use Rattle.corten_base.specs.declared.permissions.Perm.{Perm}
use Rattle.corten_base.specs.declared.calls.Backing.TheVariants as backing
use Rattle.corten_base.specs.declared.calls.Call.{Call}
use Rattle.corten_base.specs.declared.calls.Call.TheVariants as call
use Rattle.corten_base.specs.declared.calls.MapPlace.TheVariants as place
use Rattle.corten_base.specs.declared.calls.Reply.{Reply}
use Rattle.corten_base.specs.declared.calls.TxnOp.TheVariants as op
use Rattle.machine_plan.specs.declared.kit.Change.TheVariants as change
use Rattle.machine_plan.specs.declared.kit.Kit.{Kit}
use Rattle.machine_plan.specs.Books.{BookData}
use Rattle.machine_plan.specs.Kits.{HasRoom, IsUngranted, Commits}

abbrev pub worked_limits : Limits
worked_limits = record { levels = 4; frames = 2; tables = 4; swap = 1 }

abbrev pub read_only : Perm
read_only = record { read = true; write = false; exec = false }

abbrev pub map_page : ℕ → Call
map_page at = call.Map 0 (place.At at) 4096 read_only backing.Zero

pub record IsMapKit (at rows : ℕ) (kit : Kit) : Type 0 where
  pub room : HasRoom kit
  pub ungranted : IsUngranted kit
  pub early : kit.early ≡ None
  pub needed : kit.rows_needed ≡ rows
  pub wants : kit.wants.items ≡ []
  pub frames : kit.own_frames.items ≡ []
  pub slots : kit.own_slots.items ≡ []
  pub second_frames : kit.second_frames.items ≡ []
  pub second_slots : kit.second_slots.items ≡ []
  pub pieces : kit.pieces.items ≡ []
  pub changes : kit.changes.items ≡ change.Op (op.Map at false 4096 read_only backing.Zero) ∷ []

pub record Maps (at rows : ℕ) (a b : BookData) : Type 0 where
  pub kit : Kit
  pub kit' : Kit
  pub reply : Reply
  pub is_kit : IsMapKit at rows kit
  pub commits : Commits a 0 (map_page at) kit reply b kit'
