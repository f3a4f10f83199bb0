use Rattle.std.proofs.Common.{List, take, take_all, get_or, sym, ap, subst, ◌∙◌, arith}
use Rattle.std.specs.List.{flat_map}
use Rattle.std.specs.FinSet as set
use Rattle.std.proofs.lemmas.List.{take_more}
use Rattle.table_place.specs.declared.Place.{Place}
use Rattle.table_place.specs.Place.{cut_by}
use Rattle.page_map.specs.Tables.{missing}
use Rattle.plain_counts.specs.declared.cut.Pages.{Pages}
use Rattle.plain_counts.specs.Levels.{Lists}
use Rattle.plain_counts.proofs.Noted.{if_ok, noted_none, none_listed, range_noted, first_noted}
use Rattle.plain_counts.proofs.tables.Tables.missing_cut.Goals as goal

pub loop-pages-init : goal.loop-pages-init
loop-pages-init c = c.new-found.ensures ∙ noted_none c.args.self.now set.empty

pub loop-pages-preserved : goal.loop-pages-preserved
loop-pages-preserved c =
    let none : Pages = record { first = 0; count = 0 } in
    let here = get_or c.args.ranges.now c.loop-pages.pages-index none in
    let cut : Pages → List Place = λ r. cut_by c.args.levels c.args.space r.first r.count in
    range_noted cut c.args.self.now set.empty c.loop-pages.found c.note_range.new.found (take c.loop-pages.pages-index c.args.ranges.now) here c.loop-pages.invariant c.in_ok-note_range.ensures
    ∙ ap (λ rs. set.union set.empty (missing (flat_map cut rs) c.args.self.now)) (sym (take_more c.args.ranges.now c.loop-pages.pages-index none c.loop-pages-test.true))

pub returns : goal.returns
returns c =
    let cut : Pages → List Place = λ r. cut_by c.args.levels c.args.space r.first r.count in
    let all = take_all c.loop-pages.pages-index c.args.ranges.now (omega arith) in
    let found = first_noted cut c.args.self.now c.loop-pages.found c.args.ranges.now
    (c.loop-pages.invariant ∙ ap (λ rs. set.union set.empty (missing (flat_map cut rs) c.args.self.now)) all) in
    if_ok (λ v. Lists c.loop-pages.found v.items) (λ v. Lists (missing (flat_map cut c.args.ranges.now) c.args.self.now) v.items)
    (λ v h. subst (λ s. Lists s v.items) found h) c.list.result c.list.ensures

pub returns-then-len-eq0 : goal.returns-then-len-eq0
returns-then-len-eq0 c =
    let cut : Pages → List Place = λ r. cut_by c.args.levels c.args.space r.first r.count in
    let all = take_all c.loop-pages.pages-index c.args.ranges.now (omega arith) in
    let found = first_noted cut c.args.self.now c.loop-pages.found c.args.ranges.now
    (c.loop-pages.invariant ∙ ap (λ rs. set.union set.empty (missing (flat_map cut rs) c.args.self.now)) all) in
    none_listed c.loop-pages.found _ c.new.result.items found (sym c.len.ensures ∙ c.if-len-eq0.true) c.new.ensures.items
