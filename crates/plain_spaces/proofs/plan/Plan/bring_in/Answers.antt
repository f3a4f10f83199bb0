use Rattle.std.proofs.Common.{◌≡◌, ℕ, ◌+◌, ◌-◌, ◌≤◌, cond, length, sym, ap, subst, ◌∙◌}
use Rattle.std.specs.Prelude.{is_some, slice_index, slice_set, IfSome, IfNone}
use Rattle.page_map.specs.Access.{first_page}
use Rattle.plain_counts.specs.declared.counts.Counts.{Counts}
use Rattle.plain_counts.specs.Counts.{Follow}
use Rattle.plain_counts.specs.Owners.{unused_of}
use Rattle.plain_spaces.specs.Numbers.{IsCarried, LeavesAny}
use Rattle.plain_spaces.specs.Reach.{last_page}
use Rattle.plain_spaces.specs.Wants.{in_frame, laid}
use Rattle.plain_spaces.proofs.Plans.{count_wanting}
use Rattle.plain_spaces.proofs.Brought.{enough_near, enough_far, none_taken, both_laid, all_brought}
use Rattle.plain_spaces.proofs.Taken.{IsTaken, taken_is, is_back, near_is_carried, far_is_carried, both_follow}
use Rattle.plain_spaces.proofs.plan.Plan.bring_in.Goals as goal
use Rattle.plain_spaces.proofs.plan.Plan.bring_in.Goals.{After-from_of-near_from, After-take_frame-near_frame, After-take_frame-far_frame, After-lay_both}

-- how many frames are wanted
abbrev counted : (c : After-from_of-near_from) → cond (is_some c.args.self.near) 1 0 + cond (is_some c.args.self.far) 1 0 ≤ length (unused_of c.args.counts.now.frames)
counted c =
    let plan = c.requires.planned.1 in
    subst (λ n. n ≤ length (unused_of c.args.counts.now.frames))
    (count_wanting c.requires.planned.0 c.args.cells.now (slice_index c.args.counts.now.frames) c.args.self.access plan.user.some plan.user.few c.args.self.near c.args.self.far plan.near plan.far)
    c.requires.enough

-- the first page gets a frame if it wants one, and so does the last
abbrev near_takes : (c : After-take_frame-near_frame) → is_some c.take_frame-near_frame.result ≡ is_some c.args.self.near
near_takes c = c.take_frame-near_frame.ensures.some ∙ c.is_some.ensures

abbrev far_takes : (c : After-take_frame-far_frame) → is_some c.take_frame-far_frame.result ≡ is_some c.args.self.far
far_takes c = c.take_frame-far_frame.ensures.some ∙ c.is_some-2.ensures

-- where nothing was taken, the unused numbers are the same
abbrev kept : (c : After-take_frame-near_frame) → IfNone c.take_frame-near_frame.result (unused_of c.take_frame-near_frame.new.frames ≡ unused_of c.args.counts.now.frames)
kept c = none_taken c.take_frame-near_frame.result unused_of _ _ c.take_frame-near_frame.ensures.none

pub take_frame-near_frame-requires : goal.take_frame-near_frame-requires
take_frame-near_frame-requires c = λ e. enough_near (is_some c.args.self.near) (is_some c.args.self.far) _ (counted (goal.at.take_frame-near_frame-requires c).After-from_of-near_from) (sym c.is_some.ensures ∙ e)

pub take_frame-far_frame-requires : goal.take_frame-far_frame-requires
take_frame-far_frame-requires c = λ e.
    let at = goal.at.take_frame-far_frame-requires c in
    enough_far (is_some c.args.self.near) (is_some c.args.self.far) c.take_frame-near_frame.result _ _ (near_takes at.After-take_frame-near_frame) c.take_frame-near_frame.ensures.taken (kept at.After-take_frame-near_frame)
    (counted at.After-from_of-near_from) (sym c.is_some-2.ensures ∙ e)

-- the counts after each frame was taken
abbrev one : (c : After-take_frame-near_frame) → IsTaken c.take_frame-near_frame.result c.args.counts.now.frames c.take_frame-near_frame.new.frames
one c = taken_is _ _ _ c.take_frame-near_frame.ensures.unused c.take_frame-near_frame.ensures.count c.take_frame-near_frame.ensures.none

abbrev two : (c : After-take_frame-far_frame) → IsTaken c.take_frame-far_frame.result c.take_frame-near_frame.new.frames c.take_frame-far_frame.new.frames
two c = taken_is _ _ _ c.take_frame-far_frame.ensures.unused c.take_frame-far_frame.ensures.count c.take_frame-far_frame.ensures.none

abbrev both : After-take_frame-far_frame → Counts
both c = record { frames = c.take_frame-far_frame.new.frames; slots = c.args.counts.now.slots }

-- the pages as they are laid
abbrev pages : (c : After-lay_both) → laid c.in_frame-far_page.result (laid c.in_frame-near_page.result c.args.cells.now)
    ≡ laid (in_frame (last_page c.args.self.access) c.take_frame-far_frame.result c.args.self.far) (laid (in_frame (first_page c.args.self.access) c.take_frame-near_frame.result c.args.self.near) c.args.cells.now)
pages c = (λ i. laid ((c.in_frame-far_page.ensures ∙ ap (λ p. in_frame p c.take_frame-far_frame.result c.args.self.far) c.last.ensures.value) i)
    (laid ((c.in_frame-near_page.ensures ∙ ap (λ p. in_frame p c.take_frame-near_frame.result c.args.self.near) c.first.ensures.value) i) c.args.cells.now))

pub leave-requires : goal.leave-requires
leave-requires c =
    let at = goal.at.leave-requires c in
    let plan = c.requires.planned.1 in
    subst (λ o. IfSome o (IsCarried (both at.After-take_frame-far_frame))) (sym c.from_of-near_from.ensures)
    (near_is_carried c.requires.planned.0 c.args.cells.now (slice_index c.args.counts.now.frames) c.args.self.access plan.user.some plan.user.few c.args.self.near c.args.self.far _ _ plan.near plan.far
    (near_takes at.After-take_frame-near_frame) (far_takes at.After-take_frame-far_frame) c.args.counts.now _ _ c.requires.counted (one at.After-take_frame-near_frame) (two at.After-take_frame-far_frame))

pub leave-requires-in-Ok : goal.leave-requires-in-Ok
leave-requires-in-Ok c =
    let at = goal.at.leave-requires-in-Ok c in
    let plan = c.requires.planned.1 in
    subst (λ o. IfSome o (IsCarried c.leave.new.counts)) (sym c.from_of-far_from.ensures)
    (far_is_carried c.requires.planned.0 c.args.cells.now (slice_index c.args.counts.now.frames) c.args.self.access plan.user.some plan.user.few c.args.self.near c.args.self.far _ _ plan.near plan.far
    (near_takes at.After-take_frame-near_frame) (far_takes at.After-take_frame-far_frame) c.args.counts.now _ _ c.requires.counted (one at.After-take_frame-near_frame) (two at.After-take_frame-far_frame)
    c.leave.new.counts (subst (λ o. LeavesAny o (both at.After-take_frame-far_frame) c.leave.new.counts) c.from_of-near_from.ensures c.leave.ensures))

pub returns-in-Ok-clause-cells : goal.returns-in-Ok-clause-cells
returns-in-Ok-clause-cells c = λ files plan.
    let at = goal.at.returns-in-Ok-clause-cells c in
    c.in-Ok.ensures.ok ∙ pages at.After-lay_both
    ∙ all_brought files c.args.cells.now (slice_index c.args.counts.now.frames) c.args.self.access plan.user.some plan.user.few c.args.self.near c.args.self.far _ _ plan.near plan.far
    (near_takes at.After-take_frame-near_frame) (far_takes at.After-take_frame-far_frame) (unused_of c.args.counts.now.frames) (unused_of c.take_frame-near_frame.new.frames) (unused_of c.take_frame-far_frame.new.frames)
    c.take_frame-near_frame.ensures.taken (kept at.After-take_frame-near_frame) c.take_frame-far_frame.ensures.taken

pub returns-in-Ok-clause-counts : goal.returns-in-Ok-clause-counts
returns-in-Ok-clause-counts c =
    let at = goal.at.returns-in-Ok-clause-counts c in
    let plan = c.requires.planned.1 in
    let files = c.requires.planned.0 in
    let owners : ℕ → ℕ = slice_index c.args.counts.now.frames in
    let a = c.args.self.access in
    subst (Follow c.args.counts.now c.leave-in-Ok.new.counts c.args.cells.now)
    (sym (c.in-Ok.ensures.ok ∙ pages at.After-lay_both
    ∙ both_laid files c.args.cells.now owners a plan.user.some plan.user.few c.args.self.near c.args.self.far _ _ plan.near plan.far (near_takes at.After-take_frame-near_frame) (far_takes at.After-take_frame-far_frame)))
    (both_follow files c.args.cells.now owners a plan.user.some plan.user.few c.args.self.near c.args.self.far _ _ plan.near plan.far (near_takes at.After-take_frame-near_frame) (far_takes at.After-take_frame-far_frame)
    c.args.counts.now _ _ c.requires.counted (one at.After-take_frame-near_frame) (two at.After-take_frame-far_frame)
    c.leave.new.counts (subst (λ o. LeavesAny o (both at.After-take_frame-far_frame) c.leave.new.counts) c.from_of-near_from.ensures c.leave.ensures)
    c.leave-in-Ok.new.counts (subst (λ o. LeavesAny o c.leave.new.counts c.leave-in-Ok.new.counts) c.from_of-far_from.ensures c.leave-in-Ok.ensures))

pub returns-in-Err-clause-kept : goal.returns-in-Err-clause-kept
returns-in-Err-clause-kept c =
    let near = c.take_frame-near_frame in
    let far = c.take_frame-far_frame in
    let back = c.give_back.new.frames in
    let last = c.give_back-in-Err.new.frames in
    let first_back : back ≡ near.new.frames = is_back far.result near.new.frames far.new.frames back far.ensures.unused far.ensures.count far.ensures.none c.give_back.ensures.some c.give_back.ensures.none in
    let both_back : last ≡ c.args.counts.now.frames = is_back near.result c.args.counts.now.frames near.new.frames last near.ensures.unused near.ensures.count near.ensures.none
    (subst (λ l. IfSome near.result (λ n. last ≡ slice_set l n (slice_index l n - 1))) first_back c.give_back-in-Err.ensures.some) (subst (λ l. IfNone near.result (last ≡ l)) first_back c.give_back-in-Err.ensures.none) in
    record { same_cells = c.in-Err.ensures.err; same_counts = (λ i. record { frames = both_back i; slots = c.args.counts.now.slots }) }
