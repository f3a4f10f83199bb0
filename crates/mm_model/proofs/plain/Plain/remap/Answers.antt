use Rattle.std.proofs.Common.{◌≡◌, sym, ap, subst, ◌∙◌}
use Rattle.std.specs.Prelude.{None, Result, IfOk, IfSome}
use Rattle.std.specs.declared.alloc.AllocError.{AllocError}
use Rattle.corten_base.specs.declared.calls.Call.TheVariants as call
use Rattle.corten_base.specs.declared.calls.Reply.{Reply}
use Rattle.corten_base.specs.declared.calls.Reply.TheVariants as reply
use Rattle.page_map.specs.State.{levels, space_at}
use Rattle.page_map.specs.Step.{step}
use Rattle.page_map.proofs.Steps.{refused}
use Rattle.plain_spaces.specs.Wants.{refusal_of}
use Rattle.plain_spaces.specs.declared.access.Stop.{Stop}
use Rattle.plain_spaces.specs.declared.access.Stop.TheVariants.{Refused, NoMemory}
use Rattle.mm_model.specs.Lacking.{stopped, tables_lack}
use Rattle.mm_model.specs.Remapping.{IsRemapping, MayRemap, after_remap, wanted_at}
use Rattle.mm_model.proofs.Remapped.{address_low, remap_lacks, remap_made, starts_at}
use Rattle.mm_model.proofs.plain.Plain.remap.Goals as goal
use Rattle.mm_model.proofs.plain.Plain.remap.Goals.{In-Ok}

-- what is known of the range, under the number of its space
abbrev is : (c : In-Ok) → IsRemapping c.args.self.now c.args.thread c.number-number.result c.args.at c.args.old_len c.args.new_len c.in-Ok.remapping
is c =
    subst (λ n. IsRemapping c.args.self.now c.args.thread n c.args.at c.args.old_len c.args.new_len c.in-Ok.remapping) (sym c.number-number.ensures.value)
    (subst (λ st. IsRemapping st c.args.thread c.args.space c.args.at c.args.old_len c.args.new_len c.in-Ok.remapping) c.note_full_pages.ensures c.in-Ok.ensures.placed)

pub remap_to-requires-clause-may : goal.remap_to-requires-clause-may
remap_to-requires-clause-may c =
    let at = (goal.at.remap_to-requires-clause-may c).In-Ok in
    subst (λ st. MayRemap st c.number-number.result c.in-Ok.remapping) (sym c.note_full_pages.ensures)
    (record { thread = c.args.thread; at = c.args.at; old_len = c.args.old_len; new_len = c.args.new_len; few = c.requires.thread; is = is at })

pub returns-in-Err-clause-ok : goal.returns-in-Err-clause-ok
returns-in-Err-clause-ok c =
    (λ i. (c.in-Err.refused, c.note_full_pages.ensures i))
    ∙ sym (refused c.args.self.now c.args.thread (call.Remap c.args.space c.args.at c.args.old_len c.args.new_len) c.args.limbo c.in-Err.refused (rw (sym c.note_full_pages.ensures) (c.in-Err.ensures.refused c.args.limbo)))

pub address-requires : goal.address-requires
address-requires c =
    let st = c.note_full_pages.new.self in
    let r = c.in-Ok.remapping in
    address_low (levels st) c.args.thread (space_at st c.args.space) r.resize c.args.at r.placing c.requires.thread c.ranges.at.fits c.in-Ok.ensures.placed.placed

pub returns-in-Ok-remap_to-clause-ok : goal.returns-in-Ok-remap_to-clause-ok
returns-in-Ok-remap_to-clause-ok c =
    let st = c.note_full_pages.new.self in
    let space = c.args.space in
    let r = c.in-Ok.remapping in
    let placed = c.in-Ok.ensures.placed in
    let enough = subst (λ n. tables_lack st (wanted_at st n r) c.args.limbo ≡ None) c.number-number.ensures.value c.in-Ok-remap_to.ensures.enough in
    (λ i. (reply.At (c.address.ensures i), (c.in-Ok-remap_to.ensures.ok ∙ ap (λ n. after_remap st n r) c.number-number.ensures.value) i))
    ∙ remap_made st c.args.thread space c.args.at c.args.old_len c.args.new_len r placed c.args.limbo (starts_at st c.args.thread space c.args.at c.args.old_len c.args.new_len r placed) enough
    ∙ ap (λ st. step st c.args.thread (call.Remap space c.args.at c.args.old_len c.args.new_len) c.args.limbo) c.note_full_pages.ensures

-- what stops it refuses it, or wants memory
replied : {P Q : Reply → Type 0} (stop : Stop) → ((says : Reply) → P says → Q says) → IfSome (refusal_of stop) P → IfOk (stopped stop) Q
replied (Refused says) f h = f says h
replied NoMemory f h = tt

pub returns-in-Err-remap_to-clause-ok : goal.returns-in-Err-remap_to-clause-ok
returns-in-Err-remap_to-clause-ok c =
    let st = c.note_full_pages.new.self in
    let space = c.args.space in
    let r = c.in-Ok.remapping in
    let this = call.Remap space c.args.at c.args.old_len c.args.new_len in
    subst (λ (o : Result Reply AllocError). IfOk o (λ says. (says, c.remap_to.new.self) ≡ step c.args.self.now c.args.thread this c.args.limbo)) (sym c.refusal.ensures)
    (replied c.in-Err-remap_to.stop (λ says lacks.
    ap (λ st. (says, st)) c.in-Err-remap_to.ensures.kept
    ∙ remap_lacks st c.args.thread space c.args.at c.args.old_len c.args.new_len r c.in-Ok.ensures.placed c.args.limbo says (ap (λ n. tables_lack st (wanted_at st n r) c.args.limbo) (sym c.number-number.ensures.value) ∙ lacks)
    ∙ ap (λ st. step st c.args.thread this c.args.limbo) c.note_full_pages.ensures) c.in-Err-remap_to.ensures.refused)
