use Rattle.std.proofs.Common.{◌≡◌, ℕ, List, [], ◌∷◌, length, refl, sym, ap, subst, ◌∙◌, arith}
use Rattle.std.specs.Prelude.{slice_index}
use Rattle.std.specs.Option.{option_map}
use Rattle.std.proofs.lemmas.Bool.{eqb-true, eqb-false}
use Rattle.page_map.specs.Access.{first_page, page_count}
use Rattle.page_map.specs.Change.{change}
use Rattle.page_map.specs.Takes.{grant}
use Rattle.plain_counts.specs.Counts.{Follow}
use Rattle.plain_counts.specs.Owners.{unused_of}
use Rattle.plain_spaces.specs.Reach.{making, stored_at, wanting}
use Rattle.plain_spaces.proofs.Made.{brought_after, stored_after, stored_follow}
use Rattle.plain_spaces.proofs.plan.Plan.make.Goals as goal

nothing : (xs : List ℕ) → length xs ≡ 0 → xs ≡ []
nothing [] e = refl
nothing (x ∷ xs) e = absurd (omega (arith, e))

pub returns-then-is_empty-clause-made : goal.returns-then-is_empty-clause-made
returns-then-is_empty-clause-made c = λ files plan whole. record {
  cells_are = c.in_ok-bring_in.ensures.cells files plan
      ∙ brought_after files c.args.cells.now (making c.args.self.access c.args.stored.now) (grant (wanting (slice_index c.args.counts.now.frames) c.args.cells.now c.args.self.access) (unused_of c.args.counts.now.frames))
      (nothing c.args.stored.now (eqb-true _ 0 (sym c.if-is_empty.ensures)));
  counts_follow = c.in_ok-bring_in.ensures.counts;
}

pub write-requires-clause-len : goal.write-requires-clause-len
write-requires-clause-len c = c.requires.stored (omega (arith, eqb-false _ 0 (sym c.if-is_empty.ensures)))

pub returns-clause-made : goal.returns-clause-made
returns-clause-made c = λ files plan whole.
    let a = c.args.self.access in
    record {
      cells_are = c.write.ensures
          ∙ ap (λ cells. change cells (first_page a) (page_count a) (λ page. option_map (stored_at a.at c.args.stored.now page))) (c.in_ok-bring_in.ensures.cells files plan)
          ∙ stored_after files c.args.cells.now a c.args.stored.now (grant (wanting (slice_index c.args.counts.now.frames) c.args.cells.now a) (unused_of c.args.counts.now.frames))
          plan.user.some plan.user.few (c.requires.stored (omega (arith, eqb-false _ 0 (sym c.if-is_empty.ensures)))) whole;
      counts_follow = subst (Follow c.args.counts.now c.bring_in.new.counts c.args.cells.now) (sym c.write.ensures)
          (stored_follow a.at c.args.stored.now c.args.cells.now c.bring_in.new.cells (first_page a) (page_count a) c.args.counts.now c.bring_in.new.counts c.in_ok-bring_in.ensures.counts);
    }
