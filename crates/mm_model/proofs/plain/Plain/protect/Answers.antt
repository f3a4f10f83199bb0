use Rattle.std.proofs.Common.{◌≡◌, ◌+◌, ◌*◌, ◌/◌, ◌^◌, true, Some, None, refl, sym, ap, subst, ◌∙◌, arith}
use Rattle.std.specs.Prelude.{IfOk, is_none, is_some, nat_le, nat_lt}
use Rattle.std.specs.Option.{option_copied, option_map, unwrap_or}
use Rattle.std.specs.FinMap as map
use Rattle.std.proofs.lemmas.Bool.{ltb-true, and_parts}
use Rattle.corten_base.specs.declared.calls.Call.TheVariants as call
use Rattle.corten_base.specs.declared.calls.Reply.TheVariants as reply
use Rattle.corten_base.specs.declared.calls.TxnOp.{TxnOp}
use Rattle.corten_base.specs.declared.calls.TxnOp.TheVariants as op
use Rattle.corten_base.specs.declared.calls.Why.TheVariants as why
use Rattle.table_place.specs.Place.{is_page_range, pages_of}
use Rattle.page_map.specs.Change.{least}
use Rattle.page_map.specs.Mapping.{hole}
use Rattle.page_map.specs.State.{State, levels}
use Rattle.page_map.proofs.Least.{least_passes}
use Rattle.mm_model.specs.Lacking.{tables_lack}
use Rattle.mm_model.specs.Operations.{IsFit, wanted_by}
use Rattle.mm_model.specs.Steps.{IsStepBeside}
use Rattle.mm_model.proofs.OpCalls.{no_range, wrong, absent, stopped, lacking, operated, named_beside, stopped_step}
use Rattle.mm_model.proofs.OpSteps.{is_op}
use Rattle.mm_model.proofs.plain.Plain.protect.Goals as goal
use Rattle.mm_model.proofs.plain.Plain.protect.Goals.{After-get, After-hole, After-of_bytes}

pub returns-in_default-clause-ok : goal.returns-in_default-clause-ok
returns-in_default-clause-ok c = λ thread.
    let c_op : TxnOp = op.Protect c.args.at c.args.len c.args.perm in
    wrong c.args.self.now (call.Protect c.args.space c.args.at c.args.len c.args.perm) c.args.space c_op reply.Ok (is_op c.args.self.now c.args.space c_op) thread c.args.limbo
    (ap (λ st. is_page_range (levels st) c.args.at c.args.len) (sym c.self.view_is) ∙ no_range (is_page_range c.self.inside.limits.levels c.args.at c.args.len) c.in_default.ensures.some.1)

-- the first page without a cell, in the words of the definitions
abbrev holes_are : (c : After-hole) → c.hole.result ≡ least (c.args.at / 4096) (pages_of c.args.len) (λ page. is_none (map.get c.in-Some-get.cells.now page))
holes_are c = c.hole.ensures ∙ (λ i. least ((c.first-first.ensures.value ∙ ap (λ r. r.first) c.in-Some.ensures.value) i) ((c.count-count.ensures.value ∙ ap (λ r. r.count) c.in-Some.ensures.value) i)
    (λ page. is_none (map.get c.in-Some-get.cells.now page)))

-- the range is right, and the cells of the space
right : (c : After-of_bytes) → is_page_range c.self.inside.limits.levels c.args.at c.args.len ≡ true → is_page_range (levels c.args.self.now) c.args.at c.args.len ≡ true
right c h = ap (λ st. is_page_range (levels st) c.args.at c.args.len) (sym c.self.view_is) ∙ h

there : (c : After-get) → map.get c.args.self.now.spaces c.number-number.result ≡ option_copied c.get.result
there c = ap (λ (st : State). map.get st.spaces c.number-number.result) (sym c.self.view_is) ∙ sym c.get.ensures

here : (c : After-hole) → map.get c.args.self.now.spaces c.number-number.result ≡ Some c.in-Some-get.cells.now
here c = ap (λ (st : State). map.get st.spaces c.number-number.result) (sym c.self.view_is) ∙ sym c.in-Some-get.ensures

-- the same of the space under its other name
named : (c : After-hole) → map.get c.args.self.now.spaces c.args.space ≡ Some c.in-Some-get.cells.now
named c = ap (map.get c.args.self.now.spaces) (sym c.number-number.ensures.value) ∙ here c

pub returns-in_default-get-clause-ok : goal.returns-in_default-get-clause-ok
returns-in_default-get-clause-ok c = λ thread.
    let at = goal.at.returns-in_default-get-clause-ok c in
    let this = op.Protect c.args.at c.args.len c.args.perm in
    absent c.args.self.now (call.Protect c.args.space c.args.at c.args.len c.args.perm) c.args.space this reply.Ok (is_op c.args.self.now c.args.space this) thread c.args.limbo (right at.After-of_bytes (c.in-Some.ensures.some.0 refl))
    (ap (map.get c.args.self.now.spaces) (sym c.number-number.ensures.value) ∙ there at.After-get ∙ ap option_copied c.in_default-get.is)

pub overflow_mul-result : goal.overflow_mul-result
overflow_mul-result c =
    let user = c.first-first.ensures.user.user in
    let below = ltb-true (c.in-Some.range.first + c.in-Some.range.count) (2 ^ 44) (and_parts (nat_le 16 c.in-Some.range.first) (nat_lt (c.in-Some.range.first + c.in-Some.range.count) (2 ^ 44)) user).1 in
    let at = (least_passes c.first-first.result c.count-count.result (λ page. is_none (map.get c.in-Some-get.cells.now page)) c.in-Some-hole.hole (sym c.hole.ensures ∙ c.in-Some-hole.is)).1 in
    omega (arith, at, below, c.first-first.ensures.value, c.count-count.ensures.value)

pub returns-in-Some-hole-clause-ok : goal.returns-in-Some-hole-clause-ok
returns-in-Some-hole-clause-ok c = λ thread.
    let at = goal.at.returns-in-Some-hole-clause-ok c in
    let this = op.Protect c.args.at c.args.len c.args.perm in
    stopped c.args.self.now (call.Protect c.args.space c.args.at c.args.len c.args.perm) c.args.space this reply.Ok (is_op c.args.self.now c.args.space this) thread c.args.limbo (right at.After-of_bytes (c.in-Some.ensures.some.0 refl))
    c.in-Some-get.cells.now (named at.After-hole) (why.Hole (4096 * c.in-Some-hole.hole)) (ap (option_map (λ page. why.Hole (4096 * page))) (sym (holes_are at.After-hole) ∙ c.in-Some-hole.is))

pub operate-requires-clause-range : goal.operate-requires-clause-range
operate-requires-clause-range c = c.pages_in.ensures.pages ∙ (λ i. record { first = (c.in-Some.ensures.value i).first; count = (c.in-Some.ensures.value i).count })

-- nothing refuses it but page tables
fits : (c : After-hole) → is_page_range (levels c.args.self.now) c.args.at c.args.len ≡ true → c.hole.result ≡ None → IsFit c.args.self.now c.number-number.result (op.Protect c.args.at c.args.len c.args.perm)
fits c h e = record {
  right = h;
  present = ap is_some (here c);
  allowed = ap (λ o. option_map (λ page. why.Hole (4096 * page)) (hole (unwrap_or o map.empty) c.args.at c.args.len)) (here c) ∙ ap (option_map (λ page. why.Hole (4096 * page))) (sym (holes_are c) ∙ e);
}

pub returns-in-Ok-clause-ok : goal.returns-in-Ok-clause-ok
returns-in-Ok-clause-ok c =
    let at = goal.at.returns-in-Ok-clause-ok c in
    let n = c.number-number.result in
    let this = op.Protect c.args.at c.args.len c.args.perm in
    named_beside c.args.limbo n c.args.space c.number-number.ensures.value (λ n. call.Protect n c.args.at c.args.len c.args.perm) c.args.self.now c.operate.new.self reply.Ok (λ thread.
    ap (λ st. (reply.Ok, st)) c.in-Ok.ensures.ok
    ∙ operated c.args.self.now (call.Protect n c.args.at c.args.len c.args.perm) n this reply.Ok (is_op c.args.self.now n this) thread c.args.limbo
    (fits at.After-hole (right at.After-of_bytes (c.in-Some.ensures.some.0 refl)) c.in_default-hole.is) c.in-Ok.ensures.enough)

pub returns-in-Err-clause-ok : goal.returns-in-Err-clause-ok
returns-in-Err-clause-ok c =
    let at = goal.at.returns-in-Err-clause-ok c in
    let st = c.args.self.now in
    let n = c.number-number.result in
    let this = op.Protect c.args.at c.args.len c.args.perm in
    subst (λ next. IfOk c.refusal.result (IsStepBeside c.args.limbo st next (call.Protect c.args.space c.args.at c.args.len c.args.perm))) (sym c.in-Err.ensures.kept)
    (subst (λ n. IfOk c.refusal.result (IsStepBeside c.args.limbo st st (call.Protect n c.args.at c.args.len c.args.perm))) c.number-number.ensures.value
    (stopped_step st c.args.limbo (call.Protect n c.args.at c.args.len c.args.perm) c.in-Err.stop c.refusal.result c.refusal.ensures {P = λ r. tables_lack st (wanted_by st n this) c.args.limbo ≡ Some r} c.in-Err.ensures.refused
    (λ r lacks thread. lacking st (call.Protect n c.args.at c.args.len c.args.perm) n this reply.Ok (is_op st n this) thread c.args.limbo (fits at.After-hole (right at.After-of_bytes (c.in-Some.ensures.some.0 refl)) c.in_default-hole.is) r lacks)))
