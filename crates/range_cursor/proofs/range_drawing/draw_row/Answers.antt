use Rattle.std.specs.Prelude.{◌≡◌, ℕ, ◌+◌, ◌-◌, ◌<◌, ◌≤◌, List, slice_index_or}
use Rattle.std.proofs.Common.{sym, ◌∙◌, ap, arith}
use Rattle.machine_plan.specs.HeldRows.{Row}
use Rattle.range_cursor.specs.Drawing.{IsAtPlace, leaf_place}
use Rattle.range_cursor.specs.Ranges.{NoneFrom}
use Rattle.range_cursor.proofs.Ranges.{one_row, draws_behind, draws_empty, few_frames_behind, few_slots_behind}
use Rattle.range_cursor.proofs.Taken.{any_default}
use Rattle.range_cursor.proofs.range_drawing.draw_row.Goals as goal
use Rattle.range_cursor.proofs.range_drawing.draw_row.Goals.{After-used}

has_row : (c : After-used) (page : ℕ) → c.max-start.result ≤ page → page < c.min-stop.result → IsAtPlace c.args.held.now.rows (leaf_place c.args.at.space page) c.args.place
has_row c page low high =
    one_row c.args.held.now.rows c.args.place c.args.at.space c.args.at.prefix page c.rows.ensures.order c.requires.inside c.requires.row
    (omega (arith, low, high, c.max-start.ensures, c.min-stop.ensures))

none_there : (c : After-used) → NoneFrom c.args.at.space c.args.held.now.rows c.args.next c.max-start.result
none_there c page x low high held = c.requires.none (omega (arith, c.max-start.ensures, c.min-stop.ensures, c.if-start-stop.false)) page x low (omega (arith, low, high, c.max-start.ensures)) held

pub draw_pages-requires-clause-row : goal.draw_pages-requires-clause-row
draw_pages-requires-clause-row c = has_row (goal.at.draw_pages-requires-clause-row c).After-used

pub draw_pages-requires-clause-few_frames : goal.draw_pages-requires-clause-few_frames
draw_pages-requires-clause-few_frames c =
    few_frames_behind c.args.at.space c.args.next c.max-start.result c.min-stop.result c.args.end c.args.held.now.rows c.args.frames.now.items (omega (arith, c.max-start.ensures)) (omega (arith, c.if-start-stop.false)) (omega (arith, c.min-stop.ensures))
    (none_there (goal.at.draw_pages-requires-clause-few_frames c).After-used) c.requires.few_frames

pub draw_pages-requires-clause-few_slots : goal.draw_pages-requires-clause-few_slots
draw_pages-requires-clause-few_slots c =
    few_slots_behind c.args.at.space c.args.next c.max-start.result c.min-stop.result c.args.end c.args.held.now.rows c.args.slots.now.items (omega (arith, c.max-start.ensures)) (omega (arith, c.if-start-stop.false)) (omega (arith, c.min-stop.ensures))
    (none_there (goal.at.draw_pages-requires-clause-few_slots c).After-used) c.requires.few_slots

pub returns-then-used-gt0-clause-draws : goal.returns-then-used-gt0-clause-draws
returns-then-used-gt0-clause-draws c =
    draws_behind c.args.at.space c.args.next c.max-start.result c.min-stop.result c.args.held.now.rows c.draw_pages.new.held.rows c.args.frames.now.items c.draw_pages.new.frames.items c.args.slots.now.items c.draw_pages.new.slots.items
    (omega (arith, c.max-start.ensures)) (omega (arith, c.if-start-stop.false)) (none_there (goal.at.returns-then-used-gt0-clause-draws c).After-used) c.draw_pages.ensures.draws

pub returns-else-used-gt0-clause-draws : goal.returns-else-used-gt0-clause-draws
returns-else-used-gt0-clause-draws c =
    let rows = c.args.held.now.rows in
    let place : ℕ = c.args.place in
    let from : c.max-start.result + (c.min-stop.result - c.max-start.result) ≡ c.min-stop.result = omega (arith, c.if-start-stop.false) in
    draws_behind c.args.at.space c.args.next c.max-start.result c.min-stop.result rows rows c.args.frames.now.items c.args.frames.now.items c.args.slots.now.items c.args.slots.now.items
    (omega (arith, c.max-start.ensures)) (omega (arith, c.if-start-stop.false)) (none_there (goal.at.returns-else-used-gt0-clause-draws c).After-used)
    (draws_empty c.args.at.space c.max-start.result (c.min-stop.result - c.max-start.result) rows place (slice_index_or c.rows.result.now place c.index-rows-place.result).content
    (λ page low high. has_row (goal.at.returns-else-used-gt0-clause-draws c).After-used page low (omega (arith, high, from)))
    c.used.ensures.whole
    (λ d. ap (λ (x : Row). x.content) (any_default rows place d c.index-rows-place.result c.requires.inside ∙ ap (λ (xs : List Row). slice_index_or xs place c.index-rows-place.result) (sym c.rows.ensures.list)))
    (omega (arith, c.used.ensures.value, c.if-used-gt0.false)) c.args.frames.now.items c.args.slots.now.items)
