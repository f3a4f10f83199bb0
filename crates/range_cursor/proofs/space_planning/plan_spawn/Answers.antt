use Rattle.std.specs.Prelude.{◌∷◌, [], ◌++◌}
use Rattle.std.proofs.Common.{sym, ◌∙◌, ap}
use Rattle.machine_plan.specs.declared.kit.Kit.{Kit}
use Rattle.machine_plan.specs.declared.kit.Change.TheVariants as change
use Rattle.machine_plan.specs.Books.{state_of}
use Rattle.range_cursor.proofs.RangePlans.{begun_by, changed_by}
use Rattle.range_cursor.proofs.SpacePlans.{spawn_knows, spawn_full, spawn_granted}
use Rattle.range_cursor.proofs.space_planning.plan_spawn.Goals as goal

pub returns-in-None : goal.returns-in-None
returns-in-None c = record {
  plans = λ b thread files may needs.
      let rows = c.args.held.now.rows in
      let k0 = c.args.kit.now in
      let all = spawn_knows b thread c.args.levels c.args.needed files rows k0 may in
      spawn_full b thread c.args.levels c.args.needed files rows k0 c.refuse.new.kit may (sym (c.least_space.ensures (state_of b) all) ∙ c.in-None.is) c.refuse.ensures.kit c.refuse.ensures.none;
}

pub returns-in-Some : goal.returns-in-Some
returns-in-Some c = record {
  plans = λ b thread files may needs.
      let rows = c.args.held.now.rows in
      let k0 = c.args.kit.now in
      let k1 = c.begin.new.kit in
      let k2 = c.note_change.new.kit in
      let all = spawn_knows b thread c.args.levels c.args.needed files rows k0 may in
      spawn_granted b thread c.args.levels c.args.needed files rows k0 c.in-Some.space k2 may needs c.requires.few (sym (c.least_space.ensures (state_of b) all) ∙ c.in-Some.is)
      (changed_by c.args.needed k0 k1 k2 (begun_by c.args.needed k0 k1 c.begin.ensures.kit) c.note_change.ensures.kit) c.note_change.ensures.room
      (ap (λ (k : Kit). k.own_frames.items) c.note_change.ensures.kit ∙ ap (λ (k : Kit). k.own_frames.items) c.begin.ensures.kit ∙ may.idle.frames)
      (ap (λ (k : Kit). k.own_slots.items) c.note_change.ensures.kit ∙ ap (λ (k : Kit). k.own_slots.items) c.begin.ensures.kit ∙ may.idle.slots)
      (ap (λ (k : Kit). k.wants.items) c.note_change.ensures.kit ∙ ap (λ (k : Kit). k.wants.items) c.begin.ensures.kit ∙ may.idle.wants)
      (c.note_change.ensures.changes ∙ ap (λ l. l ++ change.Spawn c.in-Some.space ∷ []) (ap (λ (k : Kit). k.changes.items) c.begin.ensures.kit ∙ may.idle.changes));
}
