use Rattle.std.proofs.Common.{◌≡◌, ℕ, ◌+◌, ◌*◌, ◌/◌, ◌<◌, ◌^◌, Bool, true, false, cond, Some, None, refl, sym, ap, subst, ◌∙◌, arith}
use Rattle.std.specs.Prelude.{Option, ◌&&◌, is_some, nat_le, nat_lt}
use Rattle.std.specs.Option.{option_copied, option_map}
use Rattle.std.specs.FinMap as map
use Rattle.std.proofs.lemmas.Bool.{ltb-true, and_parts}
use Rattle.corten_base.specs.declared.calls.TxnOp.TheVariants as op
use Rattle.corten_base.specs.declared.calls.Why.TheVariants as why
use Rattle.table_place.specs.Place.{is_page_range, pages_of}
use Rattle.page_map.specs.Change.{least}
use Rattle.page_map.specs.Mapping.{is_right, refused_op}
use Rattle.page_map.specs.State.{State, AddressSpace}
use Rattle.page_map.specs.Step.{refusal}
use Rattle.page_map.proofs.Least.{least_passes}
use Rattle.corten_base.specs.declared.calls.Reply.TheVariants as reply
use Rattle.mm_model.specs.Placing.{IsFixed, call_at}
use Rattle.mm_model.proofs.Fixed.{op_at, op_refused, fixed_fits}
use Rattle.mm_model.proofs.OpCalls.{no_range}
use Rattle.mm_model.proofs.OpSteps.{refused_wrong, refused_absent, refused_by}
use Rattle.mm_model.proofs.plain.Plain.fixed_place.Goals as goal
use Rattle.mm_model.proofs.plain.Plain.fixed_place.Goals.{After-is_right, After-of_bytes, After-get, After-mapped_page}

-- the state of the machine
abbrev now : After-is_right → State
now c = record { spaces = c.self.inside.spaces; tables = c.self.inside.tables; limits = c.self.inside.limits; files = c.self.inside.shelf }

pub returns-then-not-is_right-clause-refused : goal.returns-then-not-is_right-clause-refused
returns-then-not-is_right-clause-refused c = λ thread limbo.
    let st = now (goal.at.returns-then-not-is_right-clause-refused c).After-is_right in
    let m = c.args.mapping.now in
    sym (ap (λ st. refusal st thread (call_at m c.args.at c.args.fresh) limbo) c.self.view_is)
    ∙ refused_wrong st (call_at m c.args.at c.args.fresh) m.space (op.Map c.args.at c.args.fresh m.len m.perm m.backing) (reply.At c.args.at) (op_at st m c.args.at c.args.fresh) thread limbo
    (ap (λ b. b && is_page_range c.self.inside.limits.levels c.args.at m.len) (sym c.is_right.ensures ∙ c.if-not-is_right.true))

pub returns-in_default-clause-refused : goal.returns-in_default-clause-refused
returns-in_default-clause-refused c = λ thread limbo.
    let st = now (goal.at.returns-in_default-clause-refused c).After-is_right in
    let m = c.args.mapping.now in
    sym (ap (λ st. refusal st thread (call_at m c.args.at c.args.fresh) limbo) c.self.view_is)
    ∙ refused_wrong st (call_at m c.args.at c.args.fresh) m.space (op.Map c.args.at c.args.fresh m.len m.perm m.backing) (reply.At c.args.at) (op_at st m c.args.at c.args.fresh) thread limbo
    (λ i. (sym c.is_right.ensures ∙ c.if-not-is_right.false) i && no_range (is_page_range c.self.inside.limits.levels c.args.at m.len) c.in_default.ensures.some.1 i)

-- the arguments are right
abbrev right : (c : After-get) → is_right c.self.inside.limits.levels c.self.inside.shelf (op.Map c.args.at c.args.fresh c.args.mapping.now.len c.args.mapping.now.perm c.args.mapping.now.backing) ≡ true
right c = λ i. (sym c.is_right.ensures ∙ c.if-not-is_right.false) i && c.in-Some.ensures.some.0 refl i

pub returns-in_default-get-clause-refused : goal.returns-in_default-get-clause-refused
returns-in_default-get-clause-refused c = λ thread limbo.
    let at = goal.at.returns-in_default-get-clause-refused c in
    let st = now at.After-is_right in
    let m = c.args.mapping.now in
    sym (ap (λ st. refusal st thread (call_at m c.args.at c.args.fresh) limbo) c.self.view_is)
    ∙ refused_absent st (call_at m c.args.at c.args.fresh) m.space (op.Map c.args.at c.args.fresh m.len m.perm m.backing) (reply.At c.args.at) (op_at st m c.args.at c.args.fresh) thread limbo
    (right at.After-get) (ap (map.get c.self.inside.spaces) (sym c.number-space.ensures.value) ∙ sym c.get.ensures ∙ ap option_copied c.in_default-get.is)

-- the range and the cells, in the words of the definitions
abbrev first_is : (c : After-mapped_page) → c.first.result ≡ c.args.at / 4096
first_is c = c.first.ensures.value ∙ ap (λ r. r.first) c.in-Some.ensures.value

abbrev count_is : (c : After-mapped_page) → c.count.result ≡ pages_of c.args.mapping.now.len
count_is c = c.count.ensures.value ∙ ap (λ r. r.count) c.in-Some.ensures.value

abbrev here : (c : After-mapped_page) → map.get c.self.inside.spaces c.args.mapping.now.space ≡ Some c.in-Some-get.cells.now
here c = ap (map.get c.self.inside.spaces) (sym c.number-space.ensures.value) ∙ sym c.in-Some-get.ensures

abbrev refused_is : (c : After-mapped_page) → refused_op (op.Map c.args.at c.args.fresh c.args.mapping.now.len c.args.mapping.now.perm c.args.mapping.now.backing) c.in-Some-get.cells.now
    ≡ option_map (λ page. why.Exists (4096 * page)) c.mapped_page.result
refused_is c =
    op_refused c.in-Some-get.cells.now c.args.mapping.now c.args.at c.args.fresh
    ∙ (λ i. option_map (λ page. why.Exists (4096 * page)) (cond c.args.fresh (least (sym (first_is c) i) (sym (count_is c) i) (λ page. is_some (map.get c.in-Some-get.cells.now page))) None))
    ∙ ap (option_map (λ page. why.Exists (4096 * page))) (sym c.mapped_page.ensures)

-- the least page is one of the range
found : (fresh : Bool) (first count page : ℕ) (cells : AddressSpace) → Some page ≡ cond fresh (least first count (λ page. is_some (map.get cells page))) None → page < first + count
found true first count page cells e = (least_passes first count (λ page. is_some (map.get cells page)) page (sym e)).1
found false first count page cells e = absurd (none e)
  where
    none : ◌≡◌ {A = Option ℕ} (Some page) None → ⊥
    none e = cc

pub overflow_mul-result : goal.overflow_mul-result
overflow_mul-result c =
    let user = c.first.ensures.user.user in
    let below = ltb-true (c.in-Some.range.first + c.in-Some.range.count) (2 ^ 44) (and_parts (nat_le 16 c.in-Some.range.first) (nat_lt (c.in-Some.range.first + c.in-Some.range.count) (2 ^ 44)) user).1 in
    let at = found c.args.fresh c.first.result c.count.result c.in-Some-mapped_page.page c.in-Some-get.cells.now c.in-Some-mapped_page.ensures in
    omega (arith, at, below, c.first.ensures.value, c.count.ensures.value)

pub returns-in-Some-mapped_page-clause-refused : goal.returns-in-Some-mapped_page-clause-refused
returns-in-Some-mapped_page-clause-refused c = λ thread limbo.
    let at = goal.at.returns-in-Some-mapped_page-clause-refused c in
    let st = now at.After-is_right in
    let m = c.args.mapping.now in
    sym (ap (λ st. refusal st thread (call_at m c.args.at c.args.fresh) limbo) c.self.view_is)
    ∙ refused_by st (call_at m c.args.at c.args.fresh) m.space (op.Map c.args.at c.args.fresh m.len m.perm m.backing) (reply.At c.args.at) (op_at st m c.args.at c.args.fresh) thread limbo
    (right at.After-get) c.in-Some-get.cells.now (here at.After-mapped_page) (why.Exists (4096 * c.in-Some-mapped_page.page))
    (refused_is at.After-mapped_page ∙ ap (option_map (λ page. why.Exists (4096 * page))) c.in-Some-mapped_page.is)

pub returns-in-None-clause-fixed : goal.returns-in-None-clause-fixed
returns-in-None-clause-fixed c =
    let at = goal.at.returns-in-None-clause-fixed c in
    let st = now at.After-is_right in
    let m = c.args.mapping.now in
    subst (λ st. IsFixed st m c.args.at c.args.fresh c.pages_in.result) c.self.view_is (record {
      fits = fixed_fits st m c.args.at c.args.fresh (sym c.is_right.ensures ∙ c.if-not-is_right.false) (c.in-Some.ensures.some.0 refl) c.in-Some-get.cells.now (here at.After-mapped_page)
          (refused_is at.After-mapped_page ∙ ap (option_map (λ page. why.Exists (4096 * page))) c.in-None.is);
      pages = c.pages_in.ensures.pages ∙ (λ i. record { first = (c.in-Some.ensures.value i).first; count = (c.in-Some.ensures.value i).count });
    })
