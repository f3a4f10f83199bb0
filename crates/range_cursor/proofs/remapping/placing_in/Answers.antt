use Rattle.std.specs.Prelude.{Some, None, is_some}
use Rattle.std.proofs.Common.{sym, ◌∙◌, ap}
use Rattle.corten_base.specs.Pages.{PageRange}
use Rattle.held_spans.proofs.Moved.{range_is}
use Rattle.range_cursor.proofs.RangePlans.{hole_told}
use Rattle.range_cursor.proofs.Resizes.{wrong_length, resize_knows, old_asked, placed_is, no_room, holed, clear, not_lacking}
use Rattle.page_map.specs.State.{space_at}
use Rattle.page_map.specs.Remap.{resize_of}
use Rattle.range_cursor.proofs.remapping.placing_in.Goals as goal

pub returns-then-not-is_length-clause-refused : goal.returns-then-not-is_length-clause-refused
returns-then-not-is_length-clause-refused c st sees =
    wrong_length st c.args.levels c.args.thread c.args.space c.args.at c.args.old_len c.args.new_len c.args.held.now.rows sees (c.of_bytes.ensures.some.0 (ap is_some c.in-Some.is)) (sym c.is_length.ensures.value ∙ c.if-not-is_length.true)

pub returns-in-None-clause-refused : goal.returns-in-None-clause-refused
returns-in-None-clause-refused c st sees =
    let right = c.of_bytes.ensures.some.0 (ap is_some c.in-Some.is) in
    let length = sym c.is_length.ensures.value ∙ c.if-not-is_length.false in
    let knows = resize_knows st c.args.levels c.args.thread c.args.space c.args.at c.args.old_len c.args.new_len c.args.held.now.rows sees right length in
    let there = sym (c.is_present.ensures st knows) ∙ c.if-not-is_present.false in
    let same = range_is c.args.at c.args.old_len c.args.new_len c.in-Some.old c.first.result c.count.result c.pages.result c.in-Some.ensures.value c.first.ensures.value c.count.ensures.value c.pages.ensures in
    no_room st c.args.levels c.args.thread c.args.space c.args.at c.args.old_len c.args.new_len c.args.held.now.rows sees right length there
    (placed_is st c.args.levels c.args.thread c.args.space c.args.at c.args.old_len c.args.new_len c.args.held.now.rows sees right length there (record { first = c.first.result; old = c.count.result; new = c.pages.result }) same None c.in-None.ensures.answers)

pub returns-in-Some-hole_in-clause-refused : goal.returns-in-Some-hole_in-clause-refused
returns-in-Some-hole_in-clause-refused c st sees =
    let right = c.of_bytes.ensures.some.0 (ap is_some c.in-Some.is) in
    let length = sym c.is_length.ensures.value ∙ c.if-not-is_length.false in
    let knows = resize_knows st c.args.levels c.args.thread c.args.space c.args.at c.args.old_len c.args.new_len c.args.held.now.rows sees right length in
    let there = sym (c.is_present.ensures st knows) ∙ c.if-not-is_present.false in
    let same = range_is c.args.at c.args.old_len c.args.new_len c.in-Some.old c.first.result c.count.result c.pages.result c.in-Some.ensures.value c.first.ensures.value c.count.ensures.value c.pages.ensures in
    let placed = placed_is st c.args.levels c.args.thread c.args.space c.args.at c.args.old_len c.args.new_len c.args.held.now.rows sees right length there (record { first = c.first.result; old = c.count.result; new = c.pages.result }) same
    (Some c.in-Some-find_place.placing) c.in-Some-find_place.ensures.answers in
    holed st c.args.levels c.args.thread c.args.space c.args.at c.args.old_len c.args.new_len c.args.held.now.rows sees right length there
    (not_lacking c.args.levels c.args.thread (space_at st c.args.space) (resize_of c.args.at c.args.old_len c.args.new_len) c.in-Some-find_place.placing placed) c.in-Some-hole_in.reply
    (hole_told st c.args.held.now.rows c.args.space c.args.at c.args.old_len c.in-Some.old.first c.in-Some.old.count c.hole_in.result (ap (λ (x : PageRange). x.first) c.in-Some.ensures.value) (ap (λ (x : PageRange). x.count) c.in-Some.ensures.value) c.hole_in.ensures
    (old_asked st c.args.levels c.args.thread c.args.space c.args.at c.args.old_len c.args.new_len c.args.held.now.rows sees right length there) sees.shown ∙ c.in-Some-hole_in.is)

pub returns-in-None-hole_in-clause-granted : goal.returns-in-None-hole_in-clause-granted
returns-in-None-hole_in-clause-granted c st sees =
    let right = c.of_bytes.ensures.some.0 (ap is_some c.in-Some.is) in
    let length = sym c.is_length.ensures.value ∙ c.if-not-is_length.false in
    let knows = resize_knows st c.args.levels c.args.thread c.args.space c.args.at c.args.old_len c.args.new_len c.args.held.now.rows sees right length in
    let there = sym (c.is_present.ensures st knows) ∙ c.if-not-is_present.false in
    let same = range_is c.args.at c.args.old_len c.args.new_len c.in-Some.old c.first.result c.count.result c.pages.result c.in-Some.ensures.value c.first.ensures.value c.count.ensures.value c.pages.ensures in
    let placed = placed_is st c.args.levels c.args.thread c.args.space c.args.at c.args.old_len c.args.new_len c.args.held.now.rows sees right length there (record { first = c.first.result; old = c.count.result; new = c.pages.result }) same
    (Some c.in-Some-find_place.placing) c.in-Some-find_place.ensures.answers in (
      clear st c.args.levels c.args.thread c.args.space c.args.at c.args.old_len c.args.new_len c.args.held.now.rows sees right length there
          (not_lacking c.args.levels c.args.thread (space_at st c.args.space) (resize_of c.args.at c.args.old_len c.args.new_len) c.in-Some-find_place.placing placed)
          (hole_told st c.args.held.now.rows c.args.space c.args.at c.args.old_len c.in-Some.old.first c.in-Some.old.count c.hole_in.result (ap (λ (x : PageRange). x.first) c.in-Some.ensures.value) (ap (λ (x : PageRange). x.count) c.in-Some.ensures.value) c.hole_in.ensures
          (old_asked st c.args.levels c.args.thread c.args.space c.args.at c.args.old_len c.args.new_len c.args.held.now.rows sees right length there) sees.shown ∙ c.in-None-hole_in.is),
      placed,
    )
