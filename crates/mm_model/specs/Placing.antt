-- Mappings, at the least gap of a thread's arena and elsewhere.
--     mapping_op      the mapping operation at an address
--     call_of, call_at      the call that asks for a mapping at the least gap;  at an address
--     IsPlaced      its arguments are right, its space is present, and the gap starts at this page, so that an operation may map it there
--     IsFixed      its arguments are right, its space is present, its pages don't refuse it, and they are these
use Rattle.std.specs.Prelude.{◌≡◌, ℕ, ◌+◌, ◌*◌, ◌^◌, ◌<◌, Bool, true, false, Some}
use Rattle.corten_base.specs.declared.calls.Call.{Call}
use Rattle.corten_base.specs.declared.calls.Call.TheVariants as call
use Rattle.corten_base.specs.declared.calls.MapPlace.TheVariants as place
use Rattle.corten_base.specs.declared.calls.TxnOp.{TxnOp}
use Rattle.corten_base.specs.declared.calls.TxnOp.TheVariants as op
use Rattle.table_place.specs.Place.{pages_of}
use Rattle.page_map.specs.Mapping.{gap, is_mappable}
use Rattle.page_map.specs.State.{State, is_present, levels, space_at}
use Rattle.plain_counts.specs.declared.cut.Pages.{Pages}
use Rattle.txn_plan.specs.Needs.{range_of}
use Rattle.mm_model.specs.Operations.{IsFit}
use Rattle.mm_model.specs.declared.mapping.Mapping.{Mapping}

abbrev pub mapping_op : Mapping → ℕ → Bool → TxnOp
mapping_op m at fresh = op.Map at fresh m.len m.perm m.backing

abbrev pub call_of : Mapping → Call
call_of m = call.Map m.space place.Any m.len m.perm m.backing

-- a fresh mapping needs a range without pages
abbrev pub call_at : Mapping → ℕ → Bool → Call
call_at m at false = call.Map m.space (place.At at) m.len m.perm m.backing
call_at m at true = call.Map m.space (place.New at) m.len m.perm m.backing

pub record IsPlaced (st : State) (thread : ℕ) (m : Mapping) (first : ℕ) : Type 0 where
  pub right : is_mappable (levels st) st.files m.len m.backing ≡ true
  pub present : is_present st m.space ≡ true
  pub at_gap : gap thread (space_at st m.space) (pages_of m.len) ≡ Some first
  pub fits : IsFit st m.space (mapping_op m (4096 * first) false)
  pub low : first + pages_of m.len < 2 ^ 44

pub record IsFixed (st : State) (m : Mapping) (at : ℕ) (fresh : Bool) (range : Pages) : Type 0 where
  pub fits : IsFit st m.space (mapping_op m at fresh)
  pub pages : range ≡ range_of (mapping_op m at fresh)
