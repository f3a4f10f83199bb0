use Rattle.std.specs.Prelude.{◌≡◌, ℕ, ◌+◌, ◌-◌, []}
use Rattle.std.proofs.Common.{sym, ◌∙◌, subst, arith}
use Rattle.range_cursor.specs.Drawing.{reaches}
use Rattle.range_cursor.specs.Ranges.{DrawsOn}
use Rattle.range_cursor.proofs.Ranges.{draws_on, behind_on, draws_end, few_frames_on, few_slots_on}
use Rattle.range_cursor.proofs.range_drawing.draw_range.Goals as goal

pub draw_at-next-requires-clause-few_frames : goal.draw_at-next-requires-clause-few_frames
draw_at-next-requires-clause-few_frames c =
    few_frames_on c.args.space c.args.first c.loop-place.next c.args.end c.args.held.now.rows c.loop-place.held.rows c.args.frames.now.items c.loop-place.frames.items c.requires.few c.requires.no_frames c.loop-place.invariant.low
    c.loop-place.invariant.draws.drawn c.loop-place.invariant.draws.frames_are

pub draw_at-next-requires-clause-few_slots : goal.draw_at-next-requires-clause-few_slots
draw_at-next-requires-clause-few_slots c =
    few_slots_on c.args.space c.args.first c.loop-place.next c.args.end c.args.held.now.rows c.loop-place.held.rows c.args.slots.now.items c.loop-place.slots.items c.requires.few c.requires.no_slots c.loop-place.invariant.low
    c.loop-place.invariant.draws.drawn c.loop-place.invariant.draws.slots_are

pub loop-place-preserved : goal.loop-place-preserved
loop-place-preserved c =
    let was = c.loop-place.invariant in
    let did = c.draw_at-next.ensures in
    let first : ℕ = c.args.first in
    let next : ℕ = c.loop-place.next in
    let next' : ℕ = c.draw_at-next.result in
    let at : first + (next - first) ≡ next = omega (arith, was.low) in
    let all : next - first + (next' - next) ≡ next' - first = omega (arith, was.low, did.low) in
    record {
      low = omega (arith, was.low, did.low);
      high = did.high;
      count = was.count ∙ sym did.draws.drawn.as_many;
      draws = subst (λ n. DrawsOn c.args.space first n c.args.held.now.rows c.draw_at-next.new.held.rows c.args.frames.now.items c.draw_at-next.new.frames.items c.args.slots.now.items c.draw_at-next.new.slots.items) all
          (draws_on c.args.space first (next - first) (next' - next) c.args.held.now.rows c.loop-place.held.rows c.draw_at-next.new.held.rows c.args.frames.now.items c.loop-place.frames.items c.draw_at-next.new.frames.items
          c.args.slots.now.items c.loop-place.slots.items c.draw_at-next.new.slots.items was.draws
          (subst (λ q. DrawsOn c.args.space q (next' - next) c.loop-place.held.rows c.draw_at-next.new.held.rows c.loop-place.frames.items c.draw_at-next.new.frames.items c.loop-place.slots.items c.draw_at-next.new.slots.items) (sym at) did.draws));
      behind = behind_on (reaches c.args.space next (next' - next)) c.args.space (c.loop-place.place + 1) next' c.args.end c.loop-place.held.rows c.draw_at-next.new.held.rows did.draws.drawn did.behind;
      frame_room = did.frame_room;
      slot_room = did.slot_room;
      room = did.room ∙ was.room;
    }

pub returns-clause-draws : goal.returns-clause-draws
returns-clause-draws c =
    let was = c.loop-place.invariant in
    draws_end c.args.space c.args.first c.loop-place.next c.args.end c.args.held.now.rows c.loop-place.held.rows c.loop-place.frames.items c.loop-place.slots.items was.low was.high
    (subst (λ l. DrawsOn c.args.space c.args.first (c.loop-place.next - c.args.first) c.args.held.now.rows c.loop-place.held.rows l c.loop-place.frames.items [] c.loop-place.slots.items) c.requires.no_frames (subst (λ l. DrawsOn c.args.space c.args.first (c.loop-place.next - c.args.first) c.args.held.now.rows c.loop-place.held.rows c.args.frames.now.items c.loop-place.frames.items l c.loop-place.slots.items) c.requires.no_slots was.draws))
    (λ j d page less inside low high. was.behind j d page (omega (arith, less, was.count, c.loop-place-test.false)) inside low high)
