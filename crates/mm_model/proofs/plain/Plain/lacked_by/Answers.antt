use Rattle.std.proofs.Common.{sym, subst}
use Rattle.page_map.specs.State.{levels}
use Rattle.plain_counts.specs.Levels.{Lists}
use Rattle.plain_spaces.specs.Reach.{above_pages, lacked}
use Rattle.mm_model.proofs.AccessSteps.{none_listed}
use Rattle.mm_model.proofs.plain.Plain.lacked_by.Goals as goal

pub returns-then-frames-eq0 : goal.returns-then-frames-eq0
returns-then-frames-eq0 c =
    let st = c.args.self.now in
    subst (Lists (lacked (levels st) c.args.space c.args.access st.tables)) (sym c.new.ensures.items)
    (none_listed (above_pages (levels st) c.args.space c.args.access) st.tables (c.requires.there c.if-frames-eq0.true))
