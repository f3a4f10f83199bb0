use Rattle.std.specs.Prelude.{◌+◌, ◌-◌, ◌*◌, List, Some}
use Rattle.std.specs.Option.{option_map}
use Rattle.std.proofs.Common.{◌≡◌, ℕ, sym, ap, ◌∙◌, arith}
use Rattle.corten_base.specs.declared.calls.TxnOp.{TxnOp}
use Rattle.corten_base.specs.declared.calls.Why.TheVariants as why
use Rattle.machine_plan.specs.HeldRows.{Row, AreAsked}
use Rattle.page_map.specs.Mapping.{op_first, op_pages, after_ops}
use Rattle.page_map.specs.State.{space_at}
use Rattle.txn_plan.proofs.Judging.{refused_map, refused_protect, found_below, fresh_below}
use Rattle.range_cursor.proofs.Undone.{asked_part, address_of}
use Rattle.range_cursor.proofs.judging.refused_after.Goals as goal

-- the range of an operation by other numbers
here : (space : ℕ) (rows : List Row) (o : TxnOp) (first count : ℕ) → first ≡ op_first o → count ≡ op_pages o → AreAsked space rows (op_first o) (op_pages o) → AreAsked space rows first (first + count - first)
here space rows o first count a b asked = asked_part space rows (op_first o) (op_pages o) first (first + count - first) (omega (arith, a)) (omega (arith, a, b)) asked

pub returns-in-Some : goal.returns-in-Some
returns-in-Some c space st asked shown =
    let first = c.first_page-first.result in
    let count = c.page_count.result in
    let is = c.in-Some.ensures space st (here space c.args.held.now.rows c.args.op.now first count c.first_page-first.ensures.page c.page_count.ensures.count asked) shown in
    ap (λ n. Some (why.Exists n)) (address_of c.in-Some.page (omega (arith, fresh_below c.in-Map.fresh _ first count c.in-Some.page is, c.first_page-first.ensures.page, c.page_count.ensures.count, c.requires)))
    ∙ ap (option_map (λ page. why.Exists (4096 * page))) is
    ∙ sym (refused_map (after_ops c.args.done.now (space_at st space)) c.args.op.now _ _ c.first_page-first.ensures.page c.page_count.ensures.count _ _ _ _ _ c.in-Map.is)

pub returns-in-None : goal.returns-in-None
returns-in-None c space st asked shown =
    let is = c.in-None.ensures space st (here space c.args.held.now.rows c.args.op.now c.first_page-first.result c.page_count.result c.first_page-first.ensures.page c.page_count.ensures.count asked) shown in
    ap (option_map (λ page. why.Exists (4096 * page))) is
    ∙ sym (refused_map (after_ops c.args.done.now (space_at st space)) c.args.op.now _ _ c.first_page-first.ensures.page c.page_count.ensures.count _ _ _ _ _ c.in-Map.is)

pub returns-in-Some-least_after : goal.returns-in-Some-least_after
returns-in-Some-least_after c space st asked shown =
    let first = c.first_page-first.result in
    let count = c.page_count.result in
    let is = c.in-Some-least_after.ensures space st (here space c.args.held.now.rows c.args.op.now first count c.first_page-first.ensures.page c.page_count.ensures.count asked) shown in
    ap (λ n. Some (why.Hole n)) (address_of c.in-Some-least_after.page (omega (arith, found_below _ first count c.in-Some-least_after.page is, c.first_page-first.ensures.page, c.page_count.ensures.count, c.requires)))
    ∙ ap (option_map (λ page. why.Hole (4096 * page))) is
    ∙ sym (refused_protect (after_ops c.args.done.now (space_at st space)) c.args.op.now _ _ c.first_page-first.ensures.page c.page_count.ensures.count _ _ _ c.in-Protect.is)

pub returns-in-None-least_after : goal.returns-in-None-least_after
returns-in-None-least_after c space st asked shown =
    let is = c.in-None-least_after.ensures space st (here space c.args.held.now.rows c.args.op.now c.first_page-first.result c.page_count.result c.first_page-first.ensures.page c.page_count.ensures.count asked) shown in
    ap (option_map (λ page. why.Hole (4096 * page))) is
    ∙ sym (refused_protect (after_ops c.args.done.now (space_at st space)) c.args.op.now _ _ c.first_page-first.ensures.page c.page_count.ensures.count _ _ _ c.in-Protect.is)
