use Rattle.std.proofs.Common.{◌≡◌, true, [], ◌∷◌, sym, ap, ◌∙◌, subst, arith}
use Rattle.walk_core.specs.Guards.{IsMarked}
use Rattle.row_layout.specs.declared.limbo.Sampled.{Sampled}
use Rattle.row_table.specs.Passes.{view_of, layout_of}
use Rattle.reuse_uses.specs.Kept.{View, HasRoot}
use Rattle.reuse_uses.proofs.Lists.{may_deposit}
use Rattle.reuse_uses.proofs.Roots.{is_marked, marked_on, kept_loaded, kept_turned, loaded_found, sampled_on, not_in_limbo, put_away}
use Rattle.reuse_uses.proofs.steps.put_away.Goals as goal

pub retire-sampled-requires-clause-marked : goal.retire-sampled-requires-clause-marked
retire-sampled-requires-clause-marked c κs = is_marked (view_of c.args.pass) c.args.row c.requires.root c.requires.other

pub turn-requires-clause-free : goal.turn-requires-clause-free
turn-requires-clause-free c κs = (loaded_found _ _ _ c.retire-sampled.ensures.loads).1 ∙ c.requires.root.has_not

pub give-requires-clause-may : goal.give-requires-clause-may
give-requires-clause-may c κs =
    let t = c.in-Got.ensures.turns in let s : Sampled = c.retire-sampled.result in
    let row_is : s.row ≡ c.args.row = ap (λ (x : Sampled). x.row) c.retire-sampled.ensures.fresh in
    let marked : IsMarked (view_of c.retire-sampled.new.pass).core s.row = subst (IsMarked (view_of c.retire-sampled.new.pass).core) (sym row_is)
    (marked_on (view_of c.args.pass) (view_of c.retire-sampled.new.pass) c.args.row (kept_loaded _ _ _ c.retire-sampled.ensures.loads) (is_marked (view_of c.args.pass) c.args.row c.requires.root c.requires.other)) in record {
      old = c.in-Got.stock;
      found = ap (λ (v : View). v.found) t.1;
      may = may_deposit (layout_of c.args.iron.now) (view_of c.turn.new.self) c.in-Got.stock c.deposit.new.self s (ap (λ (v : View). v.core.has_book) t.1) (λ q. let o = t.0.once q in omega arith) c.if-not-deposit.ensures
          (not_in_limbo (layout_of c.args.iron.now).rows (view_of c.retire-sampled.new.pass) c.in-Got.stock s.row marked.0 t.0)
          (marked_on (view_of c.retire-sampled.new.pass) (view_of c.turn.new.self) s.row (kept_turned _ _ c.in-Got.stock t.1) marked)
          (sampled_on (layout_of c.args.iron.now).passes (view_of c.retire-sampled.new.pass) (view_of c.turn.new.self) c.in-Got.stock _ t.1 c.retire-sampled.ensures.sampled);
    }

pub returns : goal.returns
returns c =
    let t = c.in-Got.ensures.turns in let s : Sampled = c.retire-sampled.result in
    let row_is : s.row ≡ c.args.row = ap (λ (x : Sampled). x.row) c.retire-sampled.ensures.fresh in (
      c.give.ensures.table ∙ (c.in-Got.ensures.table ∙ (c.retire-sampled.ensures.table ∙ c.requires.table)),
      put_away (layout_of c.args.iron.now) (layout_of c.args.iron.now).rows (view_of c.args.pass) (view_of c.retire-sampled.new.pass) (view_of c.turn.new.self) (view_of c.give.new.self) c.in-Got.stock c.deposit.new.self s _
          (subst (λ r. HasRoot (view_of c.args.pass) 0 (1 ∷ []) [] (r ∷ []) true) (sym row_is) c.requires.root) (λ e. c.requires.other (sym row_is ∙ e)) c.retire-sampled.ensures.loads t.0 t.1 c.if-not-deposit.ensures c.give.ensures.gives,
    )
