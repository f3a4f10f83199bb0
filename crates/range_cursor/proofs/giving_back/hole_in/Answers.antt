use Rattle.std.specs.Prelude.{◌≡◌, ℕ, ◌*◌, ◌%◌, ◌^◌, ◌<◌, List, is_none, Option, Some}
use Rattle.std.proofs.Common.{sym, ◌∙◌, ap, subst, arith}
use Rattle.std.proofs.Math.Nat.{mod-eq_of_lt}
use Rattle.corten_base.specs.declared.calls.Reply.TheVariants as reply
use Rattle.page_map.specs.Change.{least}
use Rattle.page_map.specs.State.{State, cell_at}
use Rattle.page_map.specs.Step.{hole_reply}
use Rattle.page_map.proofs.Least.{least_passes}
use Rattle.table_place.proofs.Spans.{user_end}
use Rattle.machine_plan.specs.HeldRows.{Row, RowsShown, AreAsked}
use Rattle.range_cursor.proofs.giving_back.hole_in.Goals as goal

small : (page : ℕ) → page < 2 ^ 44 → page * 4096 % 2 ^ 64 ≡ 4096 * page
small page h = mod-eq_of_lt (omega (arith, h)) ∙ omega arith

-- the same range by other numbers
told : (rows : List Row) (f n first count : ℕ) (o : Option ℕ) → f ≡ first → n ≡ count → ((space : ℕ) (st : State) → AreAsked space rows f n → RowsShown st rows → o ≡ least f n (λ page. is_none (cell_at st space page)))
    → (space : ℕ) (st : State) → AreAsked space rows first count → RowsShown st rows → o ≡ least first count (λ page. is_none (cell_at st space page))
told rows f n first count o a b answers =
    subst (λ x. (space : ℕ) (st : State) → AreAsked space rows first x → RowsShown st rows → o ≡ least first x (λ page. is_none (cell_at st space page))) b
    (subst (λ x. (space : ℕ) (st : State) → AreAsked space rows x n → RowsShown st rows → o ≡ least x n (λ page. is_none (cell_at st space page))) a answers)

pub returns-in-Some : goal.returns-in-Some
returns-in-Some c st space asked shown =
    let is = told c.args.held.now.rows c.first.result c.count.result c.args.range.first c.args.range.count c.first_hole.result c.first.ensures.value c.count.ensures.value c.first_hole.ensures space st asked shown in
    let inside = least_passes c.args.range.first c.args.range.count (λ page. is_none (cell_at st space page)) c.in-Some.page (sym is ∙ c.in-Some.is) in
    ap (λ n. Some (reply.Hole n)) (small c.in-Some.page (omega (arith, inside.1, user_end 5 c.args.range.first c.args.range.count c.first.ensures.user.user))) ∙ ap hole_reply (sym c.in-Some.is ∙ is)

pub returns-in-None : goal.returns-in-None
returns-in-None c st space asked shown =
    let is = told c.args.held.now.rows c.first.result c.count.result c.args.range.first c.args.range.count c.first_hole.result c.first.ensures.value c.count.ensures.value c.first_hole.ensures space st asked shown in
    ap hole_reply (sym c.in-None.is ∙ is)
