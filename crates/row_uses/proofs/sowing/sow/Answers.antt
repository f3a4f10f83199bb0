use Rattle.std.proofs.Common.{ap}
use Rattle.row_layout.specs.declared.places.Layout.{Layout}
use Rattle.row_table.specs.Passes.{view_of, layout_of}
use Rattle.row_uses.specs.Sown.{View}
use Rattle.row_uses.proofs.SownSteps.{is_unsown, may_give_back, may_prepare, may_link, may_release_linked, small, child_fits, is_sown}
use Rattle.row_uses.proofs.sowing.sow.Goals as goal

pub returns-in-Held-clause-sows : goal.returns-in-Held-clause-sows
returns-in-Held-clause-sows c = λ may. let t = c.in-Held.ensures.turns in (t.1, t.2)

pub give-requires-clause-may : goal.give-requires-clause-may
give-requires-clause-may c κs = let t = c.in-Got.ensures.turns in record {
  old = c.in-Got.book;
  found = ap (λ (v : View). v.found) t.1;
  may = may_give_back _ _ _ _ _ _ _ _ _ _ c.requires.may t.0 c.layout.ensures.sizes.1 t.1 c.draw-drawn.ensures;
}

pub returns-in-Err-clause-sows : goal.returns-in-Err-clause-sows
returns-in-Err-clause-sows c = λ may. let t = c.in-Got.ensures.turns in
    is_unsown (layout_of c.args.iron.now) _ _ _ _ _ may.known _ _ c.in-Err.lack (ap (λ (k : Layout). k.rows) c.in-Got.ensures.layout) may.alone t.0 t.1 c.give.ensures.gives c.in-Err.ensures

pub set_up-requires-clause-guard : goal.set_up-requires-clause-guard
set_up-requires-clause-guard c κs = let t = c.in-Got.ensures.turns in may_prepare _ _ _ _ _ _ _ _ _ _ _ c.requires.may t.0 c.layout.ensures.sizes.1 t.1 c.in-Ok.ensures c.give.ensures.gives

pub link_word-word-requires : goal.link_word-word-requires
link_word-word-requires c = let t = c.in-Got.ensures.turns in let v = view_of c.turn.new.self in
    (small _ v v _ _ _ _ _ _ _ _ c.requires.may t.0 c.layout.ensures.sizes.1 t.1 c.in-Ok.ensures, c.in-Ok.ensures.few)

pub set_entry-requires-clause-guard : goal.set_entry-requires-clause-guard
set_entry-requires-clause-guard c κs = let t = c.in-Got.ensures.turns in let o = c.open_row.ensures.opens in let v = view_of c.open_row.new.self in
    may_link _ _ _ _ _ _ _ _ _ _ _ c.requires.may t.0 c.layout.ensures.sizes.1 t.1 c.in-Ok.ensures c.give.ensures.gives _ _ c.set_up.ensures.sets_up o.0 o.2 v v _ c.link_word-word.ensures

pub release-requires-clause-linked : goal.release-requires-clause-linked
release-requires-clause-linked c κs = let t = c.in-Got.ensures.turns in let o = c.open_row.ensures.opens in let v = view_of c.set_entry.new.self in
    may_release_linked _ _ _ _ _ _ _ _ _ _ _ c.requires.may t.0 c.layout.ensures.sizes.1 t.1 c.in-Ok.ensures c.give.ensures.gives _ _ c.set_up.ensures.sets_up o.0 o.2 _ v _ c.link_word-word.ensures c.set_entry.ensures.sets

pub release-requires-clause-fits : goal.release-requires-clause-fits
release-requires-clause-fits c κs = let t = c.in-Got.ensures.turns in let o = c.open_row.ensures.opens in let v = view_of c.set_entry.new.self in
    child_fits _ _ _ _ _ _ _ _ _ _ _ c.requires.may t.0 c.layout.ensures.sizes.1 t.1 c.in-Ok.ensures c.give.ensures.gives _ _ c.set_up.ensures.sets_up o.0 o.2 _ v _ c.link_word-word.ensures c.set_entry.ensures.sets

pub returns-clause-sows : goal.returns-clause-sows
returns-clause-sows c = λ may. let t = c.in-Got.ensures.turns in let o = c.open_row.ensures.opens in
    is_sown _ _ _ _ _ _ _ _ _ _ _ may t.0 c.layout.ensures.sizes.1 t.1 c.in-Ok.ensures c.give.ensures.gives _ _ c.set_up.ensures.sets_up o.0 o.2 _ _ _ c.link_word-word.ensures c.set_entry.ensures.sets c.release.ensures.releases
