use Rattle.std.proofs.Common.{List, sym, subst}
use Rattle.std.specs.Prelude.{Option}
use Rattle.table_place.specs.declared.Place.{Place}
use Rattle.page_map.specs.State.{levels}
use Rattle.page_map.specs.Tables.{missing}
use Rattle.plain_counts.specs.Levels.{Lists}
use Rattle.plain_counts.specs.declared.cut.Pages.{Pages}
use Rattle.mm_model.specs.Operations.{cut_in}
use Rattle.mm_model.proofs.Lacks.{nothing_lists}
use Rattle.mm_model.proofs.plain.Plain.missing_in.Goals as goal

pub returns-in-None : goal.returns-in-None
returns-in-None c =
    let P : Option Pages × List Place → Type 0 = λ x. Lists (missing (cut_in (levels c.args.self.now) c.args.space x.0) c.args.self.now.tables) x.1 in
    subst P (λ i. (sym c.in-None.is i, sym c.new.ensures.items i)) (nothing_lists c.args.self.now.tables)
