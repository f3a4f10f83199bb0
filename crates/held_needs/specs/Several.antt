-- The page tables that accesses and transactions lack.
--     IsReached      the rows tell of each page of an access, and it is a mapped user page
--     AccessLacks      how many page tables an access lacks
--     IsWithin      the range of an operation has user pages alone, and the rows tell of its ends
--     OpsLack      how many page tables several operations lack
use Rattle.std.specs.Prelude.{◌≡◌, ℕ, true, List, None}
use Rattle.std.specs.List.{Contains, flat_map}
use Rattle.corten_base.specs.declared.calls.TxnOp.{TxnOp}
use Rattle.table_place.specs.Place.{is_page_range, is_user_page}
use Rattle.table_place.specs.Range.{within}
use Rattle.page_map.specs.Access.{Access, first_page, page_count, after_access}
use Rattle.page_map.specs.Alike.{unlike_tables}
use Rattle.page_map.specs.Effect.{cut_by_op}
use Rattle.page_map.specs.Mapping.{op_at, op_len, op_first}
use Rattle.page_map.specs.State.{State, cell_at, space_at}
use Rattle.page_map.specs.Tables.{need}
use Rattle.page_map.specs.Takes.{Grant}
use Rattle.machine_plan.specs.HeldRows.{Row, IsAsked, AreAsked}
use Rattle.held_needs.specs.Cutting.{last_of}
use Rattle.held_needs.specs.Found.{IsStateOf}
use Rattle.held_needs.specs.Operation.{range_of}

pub record IsReached (levels : ℕ) (rows : List Row) (space : ℕ) (st : State) (a : Access) : Type 0 where
  pub asked : AreAsked space rows (first_page a) (page_count a)
  pub user : (page : ℕ) → within (first_page a) (page_count a) page ≡ true → is_user_page levels page ≡ true
  pub mapped : (page : ℕ) → within (first_page a) (page_count a) page ≡ true → cell_at st space page ≡ None → ⊥

abbrev pub AccessLacks : ℕ → List Row → ℕ → ℕ → ℕ → Type 0
AccessLacks levels rows at len count = (space : ℕ) (st : State) (grants : Grant) (a : Access) → a.at ≡ at → a.len ≡ len → IsStateOf levels rows st → IsReached levels rows space st a
    → need (unlike_tables levels space (after_access st.files grants a (space_at st space))) st.tables ≡ count

pub record IsWithin (levels : ℕ) (rows : List Row) (space : ℕ) (o : TxnOp) : Type 0 where
  pub right : is_page_range levels (op_at o) (op_len o) ≡ true
  pub near : IsAsked space rows (op_first o)
  pub far : IsAsked space rows (last_of (range_of o))

abbrev pub OpsLack : ℕ → List Row → List TxnOp → ℕ → Type 0
OpsLack levels rows ops count = (space : ℕ) (st : State) → IsStateOf levels rows st → ((o : TxnOp) → Contains ops o → IsWithin levels rows space o)
    → need (flat_map (cut_by_op st space) ops) st.tables ≡ count
