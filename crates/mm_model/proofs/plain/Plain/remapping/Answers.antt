use Rattle.std.proofs.Common.{◌≡◌, ℕ, ◌+◌, ◌*◌, ◌/◌, ◌≤◌, ◌^◌, Bool, true, false, Some, refl, sym, ap, subst, ◌∙◌, arith}
use Rattle.std.specs.Prelude.{◌&&◌, is_none, nat_le, nat_lt}
use Rattle.std.specs.Option.{option_copied}
use Rattle.std.specs.FinMap as map
use Rattle.std.proofs.lemmas.Bool.{and_parts, ltb-true}
use Rattle.corten_base.specs.declared.calls.Call.TheVariants as call
use Rattle.corten_base.specs.declared.calls.Reply.{Reply}
use Rattle.corten_base.specs.declared.calls.Reply.TheVariants as reply
use Rattle.table_place.specs.Place.{is_page_range, pages_of}
use Rattle.page_map.specs.Change.{least}
use Rattle.page_map.specs.Mapping.{is_length}
use Rattle.page_map.specs.Remap.{resize_of}
use Rattle.page_map.specs.State.{State}
use Rattle.page_map.specs.Step.{refusal}
use Rattle.page_map.proofs.Least.{least_passes}
use Rattle.plain_spaces.specs.Resizing.{length_of}
use Rattle.plain_spaces.specs.declared.resizing.Resize.{Resize}
use Rattle.mm_model.proofs.OpCalls.{no_range}
use Rattle.mm_model.proofs.Remapped.{wrong, absent, few_pages, has_hole, no_place, no_room, place_found, too_far}
use Rattle.mm_model.proofs.plain.Plain.remapping.Goals as goal
use Rattle.mm_model.proofs.plain.Plain.remapping.Goals.{After-of_bytes, After-get, After-get-known}

-- the state of the machine
abbrev now : After-of_bytes → State
now c = record { spaces = c.self.inside.spaces; tables = c.self.inside.tables; limits = c.self.inside.limits; files = c.self.inside.shelf }

-- what is said of it is said of the machine
said : (c : After-of_bytes) (says : Reply) → ((limbo : ℕ) → refusal (now c) c.args.thread (call.Remap c.args.space c.args.at c.args.old_len c.args.new_len) limbo ≡ Some says) →
    (limbo : ℕ) → refusal c.args.self.now c.args.thread (call.Remap c.args.space c.args.at c.args.old_len c.args.new_len) limbo ≡ Some says
said c says h = subst (λ st. (limbo : ℕ) → refusal st c.args.thread (call.Remap c.args.space c.args.at c.args.old_len c.args.new_len) limbo ≡ Some says) c.self.view_is h

never : (b : Bool) → (b && false) ≡ false
never true = refl
never false = refl

pub returns-in_default-clause-refused : goal.returns-in_default-clause-refused
returns-in_default-clause-refused c =
    let at = (goal.at.returns-in_default-clause-refused c).After-of_bytes in
    let l = c.self.inside.limits.levels in
    said at reply.Einval (λ limbo. wrong (now at) c.args.thread c.args.space c.args.at c.args.old_len c.args.new_len limbo
    (ap (λ b. b && is_length l c.args.new_len) (no_range (is_page_range l c.args.at c.args.old_len) c.in_default.ensures.some.1)))

pub returns-then-not-is_length-clause-refused : goal.returns-then-not-is_length-clause-refused
returns-then-not-is_length-clause-refused c =
    let at = (goal.at.returns-then-not-is_length-clause-refused c).After-of_bytes in
    let l = c.self.inside.limits.levels in
    said at reply.Einval (λ limbo. wrong (now at) c.args.thread c.args.space c.args.at c.args.old_len c.args.new_len limbo
    (ap (λ b. is_page_range l c.args.at c.args.old_len && b) (sym c.if-not-is_length.ensures) ∙ never (is_page_range l c.args.at c.args.old_len)))

-- the arguments are right
right : (c : After-get) → (is_page_range c.self.inside.limits.levels c.args.at c.args.old_len && is_length c.self.inside.limits.levels c.args.new_len) ≡ true
right c = λ i. c.in-Some.ensures.some.0 refl i && sym c.if-not-is_length.ensures i

pub returns-in_default-get-clause-refused : goal.returns-in_default-get-clause-refused
returns-in_default-get-clause-refused c =
    let at = goal.at.returns-in_default-get-clause-refused c in
    said at.After-of_bytes reply.NoSpace (λ limbo. absent (now at.After-of_bytes) c.args.thread c.args.space c.args.at c.args.old_len c.args.new_len limbo (right at.After-get)
    (ap (map.get c.self.inside.spaces) (sym c.number-number.ensures.value) ∙ sym c.get.ensures ∙ ap option_copied c.in_default-get.is))

-- the range and the cells, in the words of the definitions
abbrev first_is : (c : After-get-known) → c.first.result ≡ c.args.at / 4096
first_is c = c.first.ensures.value ∙ ap (λ r. r.first) c.in-Some.ensures.value

abbrev old_is : (c : After-get-known) → c.count.result ≡ pages_of c.args.old_len
old_is c = c.count.ensures.value ∙ ap (λ r. r.count) c.in-Some.ensures.value

abbrev range : After-get-known → Resize
range c = record { first = c.first.result; old = c.count.result; new = c.pages.result }

lengths : (c : After-get-known) → length_of (range c) ≡ resize_of c.args.at c.args.old_len c.args.new_len
lengths c = λ i. record { first = first_is c i; old = old_is c i; new = c.pages.ensures.count i }

abbrev here : (c : After-get-known) → map.get c.self.inside.spaces c.args.space ≡ Some c.in-Some-get.cells.now
here c = ap (map.get c.self.inside.spaces) (sym c.number-number.ensures.value) ∙ sym c.in-Some-get.ensures

few : (c : After-get-known) → c.pages.result ≤ 2 ^ 45
few c = omega (arith, c.pages.ensures.count, few_pages c.self.inside.limits.levels c.args.new_len c.self.invariant.state.few_levels (sym c.if-not-is_length.ensures))

pub find_place-requires-clause-few : goal.find_place-requires-clause-few
find_place-requires-clause-few c = few (goal.at.find_place-requires-clause-few c).After-get-known

pub is_too_far-requires-clause-few : goal.is_too_far-requires-clause-few
is_too_far-requires-clause-few c = few (goal.at.is_too_far-requires-clause-few c).After-get-known

pub returns-in_default-find_place-clause-refused : goal.returns-in_default-find_place-clause-refused
returns-in_default-find_place-clause-refused c =
    let at = goal.at.returns-in_default-find_place-clause-refused c in
    let known = at.After-get-known in
    said at.After-of_bytes reply.NoRoom (λ limbo. no_room (now at.After-of_bytes) c.args.thread c.args.space c.args.at c.args.old_len c.args.new_len limbo (right at.After-get) c.in-Some-get.cells.now (here known)
    (no_place c.self.inside.limits.levels c.args.thread c.in-Some-get.cells.now (range known) (resize_of c.args.at c.args.old_len c.args.new_len) (lengths known) c.in_default-find_place.ensures.none))

pub returns-then-is_too_far-clause-refused : goal.returns-then-is_too_far-clause-refused
returns-then-is_too_far-clause-refused c =
    let at = goal.at.returns-then-is_too_far-clause-refused c in
    let known = at.After-get-known in
    said at.After-of_bytes reply.NoRoom (λ limbo. no_room (now at.After-of_bytes) c.args.thread c.args.space c.args.at c.args.old_len c.args.new_len limbo (right at.After-get) c.in-Some-get.cells.now (here known)
    (too_far c.self.inside.limits.levels c.args.thread c.in-Some-get.cells.now (range known) (resize_of c.args.at c.args.old_len c.args.new_len) (lengths known) (sym c.is_too_far.ensures ∙ c.if-is_too_far.true)))

pub overflow_mul-result : goal.overflow_mul-result
overflow_mul-result c =
    let user = c.first.ensures.user.user in
    let below = ltb-true (c.in-Some.range.first + c.in-Some.range.count) (2 ^ 44) (and_parts (nat_le 16 c.in-Some.range.first) (nat_lt (c.in-Some.range.first + c.in-Some.range.count) (2 ^ 44)) user).1 in
    let low = (least_passes c.first.result c.count.result (λ page. is_none (map.get c.in-Some-get.cells.now page)) c.in-Some-hole.hole (sym c.hole.ensures ∙ c.in-Some-hole.is)).1 in
    omega (arith, low, below, c.first.ensures.value, c.count.ensures.value)

pub returns-in-Some-hole-clause-refused : goal.returns-in-Some-hole-clause-refused
returns-in-Some-hole-clause-refused c =
    let at = goal.at.returns-in-Some-hole-clause-refused c in
    let known = at.After-get-known in
    let cells = c.in-Some-get.cells.now in
    said at.After-of_bytes (reply.Hole (4096 * c.in-Some-hole.hole)) (λ limbo. has_hole (now at.After-of_bytes) c.args.thread c.args.space c.args.at c.args.old_len c.args.new_len limbo (right at.After-get) cells (here known)
    (place_found c.self.inside.limits.levels c.args.thread cells (range known) (resize_of c.args.at c.args.old_len c.args.new_len) (lengths known) c.in-Some-find_place.placing c.in-Some-find_place.ensures.some
    (sym c.is_too_far.ensures ∙ c.if-is_too_far.false)) c.in-Some-hole.hole
    ((λ i. least (sym (first_is known) i) (sym (old_is known) i) (λ page. is_none (map.get cells page))) ∙ sym c.hole.ensures ∙ c.in-Some-hole.is))
