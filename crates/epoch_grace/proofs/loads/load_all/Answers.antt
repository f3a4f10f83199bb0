use Rattle.std.proofs.Common.{◌+◌, ℕ, ap, ◌∙◌, arith, subst, sym, slice_set, take}
use Rattle.row_layout.specs.declared.places.Layout.{Layout}
use Rattle.row_table.specs.declared.view.PassView.{PassView}
use Rattle.row_table.specs.Passes.{view_of, layout_of}
use Rattle.epoch_grace.proofs.Loaded.{LoadedTo, loaded_one, loaded_stand}
use Rattle.epoch_grace.proofs.loads.load_all.Goals as goal

pub sample-requires-clause-outside : goal.sample-requires-clause-outside
sample-requires-clause-outside g c κs within =
    ap (λ (v : PassView g.row.P-Row.Denot g.row.P-Book.Denot g.row.P-Entry.Denot). v.core.stand) c.loop-other.invariant.2.after ∙ (loaded_stand 0 (take c.loop-other.other c.loop-other.numbers) (view_of c.args.pass.now) ∙ c.requires.outside)

pub loop-other-preserved : goal.loop-other-preserved
loop-other-preserved g c = let few = c.layout.ensures.sizes in let below = c.loop-other-test.true in let same = ap (λ (k : Layout). k.passes) c.layout.ensures.layout in (
  c.sample.ensures.table ∙ c.loop-other.invariant.0,
  c.sample.ensures.same ∙ c.loop-other.invariant.1,
  subst (λ (i : ℕ). LoadedTo g.P.Plan.meaning (layout_of c.args.iron.now) (view_of c.args.pass.now) (view_of c.sample.new.self) (c.loop-other.other + 1) (slice_set c.loop-other.numbers i c.sample.result)) (sym c.from.ensures)
      (loaded_one g.P.Plan.meaning (layout_of c.args.iron.now) (view_of c.args.pass.now) (view_of c.loop-other.pass) (view_of c.sample.new.self) c.loop-other.other c.sample.result c.loop-other.numbers c.loop-other.invariant.2
      (omega arith) c.sample.ensures.layout c.sample.ensures.places c.sample.ensures.samples.0 c.sample.ensures.samples.1),
)
