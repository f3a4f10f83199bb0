-- A mapping at an address.
use Rattle.std.proofs.Common.{◌≡◌, ℕ, ◌*◌, ◌/◌, Bool, true, false, cond, Some, None, refl, ap, ◌∙◌}
use Rattle.std.specs.Prelude.{◌&&◌, is_some}
use Rattle.std.specs.Option.{unwrap_or, option_map}
use Rattle.std.specs.FinMap as map
use Rattle.corten_base.specs.declared.calls.Reply.TheVariants as reply
use Rattle.corten_base.specs.declared.calls.Why.TheVariants as why
use Rattle.table_place.specs.Place.{is_page_range, pages_of}
use Rattle.page_map.specs.Change.{least}
use Rattle.page_map.specs.Mapping.{is_mappable, refused_op}
use Rattle.page_map.specs.State.{State, AddressSpace, levels}
use Rattle.mm_model.specs.Operations.{IsFit}
use Rattle.mm_model.specs.Placing.{call_at, mapping_op}
use Rattle.mm_model.specs.declared.mapping.Mapping.{Mapping}
use Rattle.mm_model.proofs.OpSteps.{IsOp, is_op}

pub op_at : (st : State) (m : Mapping) (at : ℕ) (fresh : Bool) → IsOp st (call_at m at fresh) m.space (mapping_op m at fresh) (reply.At at)
op_at st m at false = is_op st m.space (mapping_op m at false)
op_at st m at true = is_op st m.space (mapping_op m at true)

-- a fresh mapping is refused at the least page that has a cell
pub op_refused : (cells : AddressSpace) (m : Mapping) (at : ℕ) (fresh : Bool) → refused_op (mapping_op m at fresh) cells
    ≡ option_map (λ page. why.Exists (4096 * page)) (cond fresh (least (at / 4096) (pages_of m.len) (λ page. is_some (map.get cells page))) None)
op_refused cells m at false = refl
op_refused cells m at true = refl

-- its pages don't refuse it
pub fixed_fits : (st : State) (m : Mapping) (at : ℕ) (fresh : Bool) → is_mappable (levels st) st.files m.len m.backing ≡ true → is_page_range (levels st) at m.len ≡ true →
    (cells : AddressSpace) → map.get st.spaces m.space ≡ Some cells → refused_op (mapping_op m at fresh) cells ≡ None → IsFit st m.space (mapping_op m at fresh)
fixed_fits st m at fresh mappable paged cells here allowed = record {
  right = λ i. mappable i && paged i;
  present = ap is_some here;
  allowed = ap (λ o. refused_op (mapping_op m at fresh) (unwrap_or o map.empty)) here ∙ allowed;
}
