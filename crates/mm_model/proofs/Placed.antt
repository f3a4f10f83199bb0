-- A mapping at the least gap of an arena, as an operation.
use Rattle.std.proofs.Common.{◌≡◌, ℕ, ◌*◌, ◌/◌, ◌%◌, ◌<◌, ◌≤◌, true, false, Some, refl, sym, ap, ◌∙◌, arith}
use Rattle.std.specs.Prelude.{◌&&◌, nat_eq, nat_lt}
use Rattle.std.proofs.lemmas.Bool.{and_parts, eq-eqb}
use Rattle.table_place.specs.Place.{is_user_range, pages_of}
use Rattle.page_map.specs.Mapping.{gap, is_backing, is_length, is_mappable}
use Rattle.page_map.specs.State.{State, is_present, levels, space_at}
use Rattle.page_map.proofs.Mappings.{gap_user, user_few}
use Rattle.plain_counts.specs.declared.cut.Pages.{Pages}
use Rattle.txn_plan.specs.Needs.{range_of}
use Rattle.mm_model.specs.Placing.{IsPlaced, mapping_op}
use Rattle.mm_model.specs.declared.mapping.Mapping.{Mapping}

first_page : (first : ℕ) → 4096 * first / 4096 ≡ first
first_page first = omega arith

module _ (st : State) (thread : ℕ) (m : Mapping) (first : ℕ) (some : 4 ≤ levels st) (known : levels st ≤ 5) (few : thread < 8)
    (right : is_mappable (levels st) st.files m.len m.backing ≡ true) (present : is_present st m.space ≡ true) (at_gap : gap thread (space_at st m.space) (pages_of m.len) ≡ Some first) where
  user_here : is_user_range (levels st) first (pages_of m.len) ≡ true
  user_here = gap_user (levels st) thread (space_at st m.space) (pages_of m.len) first some few at_gap

  aligned : nat_eq (4096 * first % 4096) 0 ≡ true
  aligned = eq-eqb (4096 * first % 4096) 0 (omega arith)

  some_len : nat_lt 0 m.len ≡ true
  some_len = (and_parts (nat_lt 0 m.len) _ (and_parts (is_length (levels st) m.len) (is_backing st.files m.backing) right).0).0

  pub is_placed : IsPlaced st thread m first
  is_placed = record {
    right = right;
    present = present;
    at_gap = at_gap;
    fits = record {
      right = λ i. right i && (aligned i && some_len i && (ap (λ n. is_user_range (levels st) n (pages_of m.len)) (first_page first) ∙ user_here) i);
      present = present;
      allowed = refl;
    };
    low = user_few (levels st) first (pages_of m.len) known user_here;
  }

pub placed_range : (m : Mapping) (first count : ℕ) → count ≡ pages_of m.len → ◌≡◌ {A = Pages} (record { first = first; count = count }) (range_of (mapping_op m (4096 * first) false))
placed_range m first count e = λ i. record { first = sym (first_page first) i; count = e i }
