-- What a mapping at the least gap of an arena is refused for, and what it leaves.
use Rattle.std.proofs.Common.{◌≡◌, ℕ, ◌*◌, Bool, true, false, cond, length, Some, None, refl, sym, ap, ◌∙◌, arith}
use Rattle.std.specs.Prelude.{Option, is_some, nat_lt}
use Rattle.std.specs.Option.{unwrap_or}
use Rattle.std.specs.FinMap as map
use Rattle.std.proofs.lemmas.Bool.{le-ltb}
use Rattle.corten_base.specs.declared.calls.Reply.{Reply}
use Rattle.corten_base.specs.declared.calls.Reply.TheVariants as reply
use Rattle.corten_base.specs.declared.calls.TxnOp.{TxnOp}
use Rattle.corten_base.specs.declared.calls.TxnOp.TheVariants as op
use Rattle.table_place.specs.Place.{pages_of}
use Rattle.page_map.specs.Alike.{unlike_tables}
use Rattle.page_map.specs.Mapping.{is_mappable, gap, after_op}
use Rattle.page_map.specs.State.{State, AddressSpace, levels, space_at, is_present, unused_frames, unused_slots}
use Rattle.page_map.specs.Tables.{changed_tables}
use Rattle.page_map.specs.Effect.{wanted_tables, state_after, answer}
use Rattle.page_map.specs.Step.{refusal, step, refused_unless, no_tables}
use Rattle.page_map.proofs.Steps.{accepted, refused, by_arguments, by_space, by_none}
use Rattle.mm_model.specs.Lacking.{tables_lack}
use Rattle.mm_model.specs.Operations.{after_operation, wanted_by}
use Rattle.mm_model.specs.Placing.{IsPlaced, call_of, mapping_op}
use Rattle.mm_model.specs.declared.mapping.Mapping.{Mapping}
use Rattle.mm_model.proofs.Refusals.{by_place, by_tables}

unless_false : (b : Bool) (r : Reply) → b ≡ false → refused_unless b r ≡ Some r
unless_false b r h = ap (λ b. refused_unless b r) h

unless_true : (b : Bool) (r : Reply) → b ≡ true → refused_unless b r ≡ None
unless_true b r h = ap (λ b. refused_unless b r) h

none_wanted : (free : ℕ) (r : Reply) → cond (nat_lt free 0) (Some r) None ≡ None
none_wanted free r = ap (λ b. cond b (Some r) None) (le-ltb free 0 (omega arith))

module _ (st : State) (thread : ℕ) (m : Mapping) (limbo : ℕ) where
  abbrev right : Bool
  right = is_mappable (levels st) st.files m.len m.backing

  abbrev cells : AddressSpace
  cells = space_at st m.space

  abbrev here : Option ℕ
  here = gap thread cells (pages_of m.len)

  -- what was found of the space and of its gap
  module _ (number count : ℕ) (found : AddressSpace) (is_number : number ≡ m.space) (there : Some found ≡ map.get st.spaces number) where
    cells_there : map.get st.spaces m.space ≡ Some found
    cells_there = ap (map.get st.spaces) (sym is_number) ∙ sym there

    pub is_there : is_present st m.space ≡ true
    is_there = ap is_some cells_there

    pub gap_there : (r : Option ℕ) → count ≡ pages_of m.len → r ≡ gap thread found count → here ≡ r
    gap_there r is_count is = (λ i. gap thread (unwrap_or (cells_there i) map.empty) (sym is_count i)) ∙ sym is

  pub not_right : right ≡ false → refusal st thread (call_of m) limbo ≡ Some reply.Einval
  not_right h = by_arguments st thread (call_of m) limbo reply.Einval (unless_false right reply.Einval h)

  module _ (is_right : right ≡ true) where
    pub no_space_there : is_present st m.space ≡ false → refusal st thread (call_of m) limbo ≡ Some reply.NoSpace
    no_space_there h = by_space st thread (call_of m) limbo reply.NoSpace (unless_true right reply.Einval is_right) (unless_false (is_present st m.space) reply.NoSpace h)

    pub no_gap_there : is_present st m.space ≡ true → here ≡ None → refusal st thread (call_of m) limbo ≡ Some reply.NoRoom
    no_gap_there present h =
        by_place st thread (call_of m) limbo reply.NoRoom
        (unless_true right reply.Einval is_right) (unless_true (is_present st m.space) reply.NoSpace present) refl (ap (λ o. refused_unless (is_some o) reply.NoRoom) h)

  module _ (first : ℕ) (placed : IsPlaced st thread m first) where
    abbrev this : TxnOp
    this = mapping_op m (4096 * first) false

    abbrev after_from : Option ℕ → AddressSpace
    after_from o = after_op (op.Map (4096 * unwrap_or o 0) false m.len m.perm m.backing) cells

    wanted_is : wanted_tables st thread (call_of m) ≡ wanted_by st m.space this
    wanted_is = ap (λ (o : Option ℕ). unlike_tables (levels st) m.space (after_from o)) placed.at_gap

    tables_are : no_tables st thread (call_of m) limbo ≡ tables_lack st (wanted_by st m.space this) limbo
    tables_are = ap (λ ps. tables_lack st ps limbo) wanted_is

    answer_is : answer st thread (call_of m) ≡ reply.At (4096 * first)
    unfolding answer
    answer_is = ap (λ (o : Option ℕ). reply.At (4096 * unwrap_or o 0)) placed.at_gap

    -- the state after it
    after_is : state_after st thread (call_of m) ≡ after_operation st m.space this
    unfolding state_after
    after_is =
        ap (λ (o : Option ℕ). record st {
          spaces = map.insert st.spaces m.space (after_from o);
          tables = changed_tables (λ _. false) (unlike_tables (levels st) m.space (after_from o)) st.tables;
        }) placed.at_gap

    pub placed_lacks : (r : Reply) → tables_lack st (wanted_by st m.space this) limbo ≡ Some r → (r, st) ≡ step st thread (call_of m) limbo
    placed_lacks r h = sym (refused st thread (call_of m) limbo r (by_tables st thread (call_of m) limbo r
        (unless_true right reply.Einval placed.right) (unless_true (is_present st m.space) reply.NoSpace placed.present) refl (ap (λ o. refused_unless (is_some o) reply.NoRoom) placed.at_gap) refl
        (tables_are ∙ h)))

    passes : tables_lack st (wanted_by st m.space this) limbo ≡ None → refusal st thread (call_of m) limbo ≡ None
    passes h = by_none st thread (call_of m) limbo (record {
      arguments = unless_true right reply.Einval placed.right;
      space = unless_true (is_present st m.space) reply.NoSpace placed.present;
      spaces = refl;
      place = ap (λ o. refused_unless (is_some o) reply.NoRoom) placed.at_gap;
      pages = refl;
      tables = tables_are ∙ h;
      frames = none_wanted (length (unused_frames st)) (reply.NoFrames (length (unused_frames st)) 0);
      swap = none_wanted (length (unused_slots st)) (reply.NoSwap (length (unused_slots st)) 0);
    })

    pub placed_step : tables_lack st (wanted_by st m.space this) limbo ≡ None → (reply.At (4096 * first), after_operation st m.space this) ≡ step st thread (call_of m) limbo
    placed_step h = sym (accepted st thread (call_of m) limbo (passes h) ∙ (λ i. (answer_is i, after_is i)))
