use Rattle.std.proofs.Common.{◌*◌, List, refl, ap, ◌∙◌, arith}
use Rattle.std.specs.Prelude.{slice_get}
use Rattle.std.specs.Option.{option_map_or}
use Rattle.corten_base.specs.declared.calls.Reply.TheVariants as reply
use Rattle.machine_plan.specs.declared.kit.Change.{Change}
use Rattle.book.specs.Rearranging.{from_in, to_in}
use Rattle.book.proofs.Ending.{may_enter, kept_so, commits_so}
use Rattle.book.proofs.Resized.{may_carry, place, frames_near_so, slots_near_so, remap_answers, remap_settles}
use Rattle.book.proofs.book.Book.resize.Goals as goal

pub carry-requires-clause-may : goal.carry-requires-clause-may
carry-requires-clause-may c = may_carry _ _ c.self.view_is c.args.thread c.args.call c.args.kit.now c.self.invariant.book c.requires.sum c.requires.filled c.requires.accepted c.requires.kind

pub carry-requires-clause-frames : goal.carry-requires-clause-frames
carry-requires-clause-frames c = frames_near_so _ _ c.self.view_is c.args.thread c.args.call c.args.kit.now c.self.invariant.book c.requires.sum c.requires.filled c.requires.accepted c.requires.kind c.requires.thread c.moved-first.result.0 c.moved-first.result.1
    (c.moved-first.ensures.from ∙ ap (λ (changes : List Change). option_map_or from_in (slice_get changes 0) 0) c.as_slice.ensures.value) (c.moved-first.ensures.to ∙ ap (λ (changes : List Change). option_map_or to_in (slice_get changes 0) 0) c.as_slice.ensures.value)

pub carry-requires-clause-slots : goal.carry-requires-clause-slots
carry-requires-clause-slots c = slots_near_so _ _ c.self.view_is c.args.thread c.args.call c.args.kit.now c.self.invariant.book c.requires.sum c.requires.filled c.requires.accepted c.requires.kind c.requires.thread c.moved-first.result.0 c.moved-first.result.1
    (c.moved-first.ensures.from ∙ ap (λ (changes : List Change). option_map_or from_in (slice_get changes 0) 0) c.as_slice.ensures.value) (c.moved-first.ensures.to ∙ ap (λ (changes : List Change). option_map_or to_in (slice_get changes 0) 0) c.as_slice.ensures.value)

pub carry-requires-clause-fits : goal.carry-requires-clause-fits
carry-requires-clause-fits c =
    let at = place _ _ c.self.view_is c.args.thread c.args.call c.args.kit.now c.self.invariant.book c.requires.sum c.requires.filled c.requires.accepted c.requires.kind c.requires.thread c.moved-first.result.0 c.moved-first.result.1
    (c.moved-first.ensures.from ∙ ap (λ (changes : List Change). option_map_or from_in (slice_get changes 0) 0) c.as_slice.ensures.value) (c.moved-first.ensures.to ∙ ap (λ (changes : List Change). option_map_or to_in (slice_get changes 0) 0) c.as_slice.ensures.value) in
    omega (arith, at.fits)

pub overflow_mul-at : goal.overflow_mul-at
overflow_mul-at c =
    let at = place _ _ c.self.view_is c.args.thread c.args.call c.args.kit.now c.self.invariant.book c.requires.sum c.requires.filled c.requires.accepted c.requires.kind c.requires.thread c.moved-first.result.0 c.moved-first.result.1
    (c.moved-first.ensures.from ∙ ap (λ (changes : List Change). option_map_or from_in (slice_get changes 0) 0) c.as_slice.ensures.value) (c.moved-first.ensures.to ∙ ap (λ (changes : List Change). option_map_or to_in (slice_get changes 0) 0) c.as_slice.ensures.value) in
    omega (arith, at.fits)

pub enter-ticket-requires : goal.enter-ticket-requires
enter-ticket-requires c =
    may_enter _ _ c.self.view_is c.args.thread c.args.call c.args.kit.now c.carry.new.kit _ _ _ c.self.invariant c.requires.sum c.requires.filled c.requires.accepted c.requires.room (c.carry.ensures.lists c.requires.filled.room)

pub invariant_of-self : goal.invariant_of-self
invariant_of-self c =
    let from = c.moved-first.ensures.from ∙ ap (λ (changes : List Change). option_map_or from_in (slice_get changes 0) 0) c.as_slice.ensures.value in
    let to = c.moved-first.ensures.to ∙ ap (λ (changes : List Change). option_map_or to_in (slice_get changes 0) 0) c.as_slice.ensures.value in
    let again = reply.At (4096 * c.moved-first.result.1) in
    kept_so _ _ c.self.view_is c.args.thread c.args.call c.args.kit.now c.carry.new.kit _ _ _ _ again again _ _ _ c.self.invariant c.requires.sum c.requires.filled c.requires.accepted
    (remap_answers _ _ c.self.view_is c.args.thread c.args.call c.args.kit.now c.self.invariant.book c.requires.sum c.requires.filled c.requires.accepted c.requires.kind c.requires.thread _ _ from to)
    (remap_settles _ _ c.self.view_is c.args.thread c.args.call c.args.kit.now c.self.invariant.book c.requires.sum c.requires.filled c.requires.accepted c.requires.kind c.requires.thread _ _ from to _ _ _ c.carry.ensures)
    c.enter-ticket.ensures.enters _ _ c.requires.thread c.requires.room c.enter-ticket.ensures.places c.enter-ticket.ensures.room

pub returns-clause-commits : goal.returns-clause-commits
returns-clause-commits c =
    let from = c.moved-first.ensures.from ∙ ap (λ (changes : List Change). option_map_or from_in (slice_get changes 0) 0) c.as_slice.ensures.value in
    let to = c.moved-first.ensures.to ∙ ap (λ (changes : List Change). option_map_or to_in (slice_get changes 0) 0) c.as_slice.ensures.value in
    let again = reply.At (4096 * c.moved-first.result.1) in
    commits_so _ _ c.self.view_is c.args.thread c.args.call c.args.kit.now c.carry.new.kit _ _ _ _ again again _ _ _ c.self.invariant c.requires.sum c.requires.filled c.requires.accepted
    (remap_answers _ _ c.self.view_is c.args.thread c.args.call c.args.kit.now c.self.invariant.book c.requires.sum c.requires.filled c.requires.accepted c.requires.kind c.requires.thread _ _ from to)
    (remap_settles _ _ c.self.view_is c.args.thread c.args.call c.args.kit.now c.self.invariant.book c.requires.sum c.requires.filled c.requires.accepted c.requires.kind c.requires.thread _ _ from to _ _ _ c.carry.ensures)
    c.enter-ticket.ensures.enters refl
