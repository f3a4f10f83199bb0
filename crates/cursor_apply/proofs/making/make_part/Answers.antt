use Rattle.std.proofs.Common.{◌≡◌, ℕ, ◌+◌, ◌-◌, ◌*◌, ◌<◌, ◌≤◌, refl, ◌∙◌, subst, arith}
use Rattle.row_table.specs.Passes.{view_of}
use Rattle.cursor_apply.specs.Changing.{MakesEntry, behind_at}
use Rattle.cursor_apply.proofs.Passing.{starts, may_next, next}
use Rattle.cursor_apply.proofs.making.make_part.Goals as goal

pub loop-index-init : goal.loop-index-init
loop-index-init g c = record {
  table = refl;
  same = refl;
  passing = starts c.args.change.making c.args.change.first c.args.place c.args.row c.args.part.from c.args.part.from c.args.cells.now (view_of c.args.pass.now) (omega arith) c.requires.may;
}

pub make_entry-requires-clause-may : goal.make_entry-requires-clause-may
make_entry-requires-clause-may g c κs within =
    let inside : c.loop-index.index < 512 = omega arith in
    may_next c.args.change.making c.args.change.first c.args.place c.args.row c.args.part.from c.loop-index.index (view_of c.args.pass.now) c.args.cells.now (view_of c.loop-index.pass) c.loop-index.cells c.loop-index.invariant.passing inside

pub loop-index-preserved : goal.loop-index-preserved
loop-index-preserved g c =
    let inside : c.loop-index.index < 512 = omega arith in
    let same : (512 * c.args.place.prefix + c.from.result) * c.entry_pages-pages.result - c.args.change.first ≡ behind_at c.args.change.first c.args.place c.loop-index.index =
    (λ i. (512 * c.args.place.prefix + c.from.ensures i) * c.entry_pages-pages.ensures.value i - c.args.change.first) in
    record {
      table = c.make_entry.ensures.table ∙ c.loop-index.invariant.table;
      same = c.make_entry.ensures.same ∙ c.loop-index.invariant.same;
      passing = next c.args.change.making c.args.change.first c.args.place c.args.row c.args.part.from c.loop-index.index (view_of c.args.pass.now) c.args.cells.now (view_of c.loop-index.pass) c.loop-index.cells
          c.loop-index.invariant.passing (view_of c.make_entry.new.pass) c.make_entry.new.cells c.loop-index.auto.index inside
          (subst (λ (n : ℕ). MakesEntry c.args.change.making n c.args.row c.args.place.level c.loop-index.index c.loop-index.cells (view_of c.loop-index.pass) c.make_entry.new.cells (view_of c.make_entry.new.pass)) same c.make_entry.ensures.makes);
    }
