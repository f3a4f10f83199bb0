-- Operations of a transaction, judged on what held rows tell.
--     asked_part      the rows tell of a part of a range
--     address_of      the address of a page
--     right_part      an operation that keeps to a range has a part of it
--     by_right, by_wrong      why an operation is refused whose arguments are right, or wrong
--     txn_early, undone_told      what refuses a transaction;  what the rows tell of its operations
--     ops_more, ops_room      operations that are listed as changes
use Rattle.std.specs.Prelude.{◌≡◌, ℕ, ◌+◌, ◌*◌, ◌/◌, ◌%◌, ◌^◌, ◌<◌, ◌≤◌, true, false, cond, List, [], ◌∷◌, ◌++◌, length, map, take, Option, Some}
use Rattle.std.specs.Option.{option_map, option_or}
use Rattle.std.proofs.Common.{get_or, sym, ◌∙◌, ap, subst, arith}
use Rattle.std.proofs.Math.Nat.{mod-eq_of_lt}
use Rattle.std.proofs.lemmas.List.{take_more, map-append, append_assoc, length-append, length-map, length-take-le}
use Rattle.std.proofs.lemmas.Bool.{and_parts, and_from, le-leb, lt-ltb, leb-true}
use Rattle.corten_base.specs.declared.calls.Call.TheVariants as call
use Rattle.corten_base.specs.declared.calls.Reply.{Reply}
use Rattle.corten_base.specs.declared.calls.Reply.TheVariants as reply
use Rattle.corten_base.specs.declared.calls.TxnOp.{TxnOp}
use Rattle.corten_base.specs.declared.calls.Why.{Why}
use Rattle.corten_base.specs.declared.calls.Why.TheVariants as why
use Rattle.page_map.specs.Mapping.{op_first, op_pages, is_right, is_right_within, refused_op, why_undone, undone}
use Rattle.page_map.specs.State.{State, AddressSpace, levels, space_at, is_present}
use Rattle.page_map.specs.Step.{refused_unless}
use Rattle.page_map.proofs.Range.{inside as inside_range}
use Rattle.table_place.specs.Place.{is_page_range, pages_of}
use Rattle.table_place.specs.Range.{lies_in}
use Rattle.machine_plan.specs.declared.kit.Change.{Change}
use Rattle.machine_plan.specs.declared.kit.Change.TheVariants as change
use Rattle.machine_plan.specs.HeldRows.{Row, AreAsked, RowsShown}
use Rattle.machine_plan.specs.Uses.{early_refusal}
use Rattle.range_cursor.specs.PageRanges.{range_refusal}
use Rattle.range_cursor.specs.Transactions.{AnswersUndone}
use Rattle.range_cursor.proofs.Asking.{first_three}

pub asked_part : (space : ℕ) (rows : List Row) (first n f m : ℕ) → first ≤ f → f + m ≤ first + n → AreAsked space rows first n → AreAsked space rows f m
asked_part space rows first n f m low high asked page h =
    let at = inside_range f m page h in
    asked page (and_from _ _ (le-leb first page (omega (arith, at.0, low))) (lt-ltb page (first + n) (omega (arith, at.1, high))))

pub address_of : (page : ℕ) → page < 2 ^ 45 → page * 4096 % 2 ^ 64 ≡ 4096 * page
address_of page h = mod-eq_of_lt (omega (arith, h)) ∙ omega arith

module _ (depth : ℕ) (files : List (List ℕ)) (first count : ℕ) (o : TxnOp) where
  pub right_part : (space : ℕ) (rows : List Row) → is_right_within depth files first count o ≡ true → AreAsked space rows first count → AreAsked space rows (op_first o) (op_pages o)
  right_part space rows right asked =
      let lies = and_parts _ _ (and_parts (is_right depth files o) (lies_in (op_first o) (op_pages o) first count) right).1 in
      asked_part space rows first count (op_first o) (op_pages o) (leb-true _ _ lies.0) (leb-true _ _ lies.1) asked

  pub by_right : (cells : AddressSpace) (answer : Option Why) → is_right_within depth files first count o ≡ true → answer ≡ refused_op o cells → answer ≡ why_undone (is_right_within depth files first count) o cells
  by_right cells answer right is = is ∙ ap (λ b. cond b (refused_op o cells) (Some why.Einval)) (sym right)

  pub by_wrong : (cells : AddressSpace) → is_right_within depth files first count o ≡ false → Some why.Einval ≡ why_undone (is_right_within depth files first count) o cells
  by_wrong cells wrong = ap (λ b. cond b (refused_op o cells) (Some why.Einval)) (sym wrong)

abbrev pub undone_reply : State → ℕ → ℕ → ℕ → List TxnOp → Option Reply
undone_reply st space at len ops = option_map (λ (u : ℕ × Why). reply.Undone u.0 u.1) (undone (is_right_within (levels st) st.files (at / 4096) (pages_of len)) 1 ops (space_at st space))

pub txn_early : (st : State) (thread space at len : ℕ) (ops : List TxnOp) → early_refusal st thread (call.Txn space at len ops) ≡ option_or (range_refusal st (levels st) space at len) (undone_reply st space at len ops)
txn_early st thread space at len ops = first_three (refused_unless (is_page_range (levels st) at len) reply.Einval) (refused_unless (is_present st space) reply.NoSpace) (undone_reply st space at len ops)

pub undone_told : (st : State) (rows : List Row) (depth : ℕ) (files : List (List ℕ)) (space at len first n : ℕ) (ops : List TxnOp) (o : Option Reply) → levels st ≡ depth → st.files ≡ files → first ≡ at / 4096 → n ≡ pages_of len
    → AnswersUndone rows depth files first n ops o → AreAsked space rows (at / 4096) (pages_of len) → RowsShown st rows → undone_reply st space at len ops ≡ o
undone_told st rows depth files space at len first n ops o l f a b answers asked shown =
    (λ i. option_map (λ (u : ℕ × Why). reply.Undone u.0 u.1) (undone (is_right_within (l i) (f i) (at / 4096) (pages_of len)) 1 ops (space_at st space)))
    ∙ sym (subst (λ x. AnswersUndone rows depth files (at / 4096) x ops o) b (subst (λ x. AnswersUndone rows depth files x n ops o) a answers) space st asked shown)

-- one operation more is listed
pub ops_more : (now old : List Change) (ops : List TxnOp) (i : ℕ) (d : TxnOp) → i < length ops → now ≡ old ++ map change.Op (take i ops) → now ++ change.Op (get_or ops i d) ∷ [] ≡ old ++ map change.Op (take (i + 1) ops)
ops_more now old ops i d h is =
    ap (λ l. l ++ change.Op (get_or ops i d) ∷ []) is
    ∙ append_assoc old (map change.Op (take i ops)) (change.Op (get_or ops i d) ∷ [])
    ∙ ap (λ l. old ++ l) (sym (ap (map change.Op) (take_more ops i d h) ∙ map-append change.Op (take i ops) (get_or ops i d ∷ [])))

-- there is room for it
pub ops_room : (now old : List Change) (ops : List TxnOp) (i : ℕ) → i < length ops → length old + length ops ≤ 16 → now ≡ old ++ map change.Op (take i ops) → length now < 16
ops_room now old ops i h few is =
    omega (arith, ap length is, length-append old (map change.Op (take i ops)), length-map (take i ops) change.Op, length-take-le i ops (omega (arith, h)), h, few)
