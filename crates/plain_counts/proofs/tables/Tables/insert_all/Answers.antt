use Rattle.std.proofs.Common.{ap, ◌∙◌}
use Rattle.std.specs.FinSet as set
use Rattle.page_map.proofs.Places.{place_total, place_exact}
use Rattle.plain_counts.proofs.Missing.{taken_out}
use Rattle.plain_counts.proofs.tables.Tables.insert_all.Goals as goal

pub returns-in-Err-clause-err : goal.returns-in-Err-clause-err
returns-in-Err-clause-err c =
    let some = c.in-Err.ensures.err in
    c.remove_all.ensures
    ∙ ap (λ s. set.difference s (set.from_list c.args.places.now)) some.1
    ∙ taken_out place_total place_exact c.args.self.now c.args.places.now some.0 c.requires.absent
