-- Mappings.
--     fixed      the place of one at an address in the page map's words, by whether it needs pages without mappings
--     is_mapping      whether a call maps pages
--     map_call      the call that makes a mapping at a place
--     WhereMappable      what is so where its length and backing are right
--     AnswersMapped      what refuses it for a page that is mapped
use Rattle.std.specs.Prelude.{◌≡◌, ℕ, ◌*◌, Bool, true, false, cond, List, is_some, Option, None}
use Rattle.std.specs.Option.{option_map}
use Rattle.corten_base.specs.declared.calls.Call.{Call}
use Rattle.corten_base.specs.declared.calls.Call.TheVariants as call
use Rattle.corten_base.specs.declared.calls.MapPlace.{MapPlace}
use Rattle.corten_base.specs.declared.calls.MapPlace.TheVariants as place
use Rattle.corten_base.specs.declared.calls.Reply.{Reply}
use Rattle.corten_base.specs.declared.calls.Reply.TheVariants as reply
use Rattle.page_map.specs.Change.{least}
use Rattle.page_map.specs.Mapping.{is_mappable}
use Rattle.page_map.specs.State.{State, cell_at}
use Rattle.machine_plan.specs.HeldRows.{Row, RowsShown, AreAsked}
use Rattle.range_cursor.specs.declared.mapping.Mapping.{Mapping}

abbrev pub fixed : Bool → ℕ → MapPlace
fixed true at = place.New at
fixed false at = place.At at

-- It is asked of rows whose state is known later.
abbrev pub AnswersMapped : List Row → Bool → ℕ → ℕ → Option Reply → Type 0
AnswersMapped rows fresh first count answer =
    (st : State) (space : ℕ) → AreAsked space rows first count → RowsShown st rows → answer ≡ option_map (λ page. reply.Exists (4096 * page)) (cond fresh (least first count (λ page. is_some (cell_at st space page))) None)

abbrev pub map_call : Mapping → MapPlace → Call
map_call m where_to = call.Map m.space where_to m.len m.perm m.backing

abbrev pub WhereMappable : ℕ → Mapping → (List (List ℕ) → Type 0) → Type 0
WhereMappable depth m holds = (files : List (List ℕ)) → is_mappable depth files m.len m.backing ≡ true → holds files

abbrev pub is_mapping : Call → Bool
is_mapping (call.Map space where_to len perm what) = true
is_mapping _ = false
