use Rattle.std.proofs.Common.{sym, ap, refl}
use Rattle.row_layout.specs.declared.places.Layout.{Layout}
use Rattle.row_table.specs.Passes.{view_of, layout_of}
use Rattle.row_uses.specs.Sown.{View}
use Rattle.row_uses.proofs.SownSteps.{is_unsown}
use Rattle.row_uses.proofs.SownPair.{may_give_both, small_a, small_b, few_a, two_rows, not_linked, may_prepare_a, may_prepare_b, may_link_a, may_release_a, fits_a, may_link_b, may_release_b, fits_b, are_sown}
use Rattle.row_uses.proofs.sowing.sow_both.Goals as goal

pub returns-in-Held-clause-sows : goal.returns-in-Held-clause-sows
returns-in-Held-clause-sows c = λ may. let t = c.in-Held.ensures.turns in (t.1, t.2)

pub give-requires-clause-may : goal.give-requires-clause-may
give-requires-clause-may c κs = let t = c.in-Got.ensures.turns in record {
  old = c.in-Got.book;
  found = ap (λ (v : View). v.found) t.1;
  may = may_give_both _ _ _ _ _ _ _ _ _ _ c.requires.may t.0 c.layout.ensures.sizes.1 t.1 c.draw_both-drawn.ensures;
}

pub returns-in-Err-clause-sows : goal.returns-in-Err-clause-sows
returns-in-Err-clause-sows c = λ may. let t = c.in-Got.ensures.turns in
    is_unsown (layout_of c.args.iron.now) _ _ _ _ _ may.one.known _ _ c.in-Err.lack (ap (λ (k : Layout). k.rows) c.in-Got.ensures.layout) may.one.alone t.0 t.1 c.give.ensures.gives c.in-Err.ensures

pub set_up-requires-clause-guard : goal.set_up-requires-clause-guard
set_up-requires-clause-guard c κs = let t = c.in-Got.ensures.turns in
    may_prepare_b _ _ _ _ _ _ c.args.first c.args.second c.in-Ok.both.0 c.in-Ok.both.1 _ c.requires.may t.0 c.layout.ensures.sizes.1 t.1 c.in-Ok.ensures c.give.ensures.gives

pub set_up-requires-2-clause-guard : goal.set_up-requires-2-clause-guard
set_up-requires-2-clause-guard c κs = let t = c.in-Got.ensures.turns in let v = view_of c.set_up.new.self in
    may_prepare_a _ _ _ _ _ _ c.args.first c.args.second c.in-Ok.both.0 c.in-Ok.both.1 _ c.requires.may t.0 c.layout.ensures.sizes.1 t.1 c.in-Ok.ensures c.give.ensures.gives _ (Rattle.row_table.specs.Openings.prepared v c.in-Ok.both.0.0 c.args.first.place c.in-Ok.both.0.1)
    c.set_up.ensures.sets_up refl

pub link_word-word-requires : goal.link_word-word-requires
link_word-word-requires c = let t = c.in-Got.ensures.turns in let v = view_of c.turn.new.self in (
  small_a _ v v _ _ _ c.args.first c.args.second c.in-Ok.both.0 c.in-Ok.both.1 _ c.requires.may t.0 c.layout.ensures.sizes.1 t.1 c.in-Ok.ensures,
  few_a _ v v _ _ _ c.args.first c.args.second c.in-Ok.both.0 c.in-Ok.both.1 _ c.requires.may t.0 c.layout.ensures.sizes.1 t.1 c.in-Ok.ensures,
)

pub set_entry-requires-clause-guard : goal.set_entry-requires-clause-guard
set_entry-requires-clause-guard c κs = let t = c.in-Got.ensures.turns in let o = c.open_row.ensures.opens in let v = view_of c.open_row.new.self in
    may_link_a _ _ _ _ _ _ c.args.first c.args.second c.in-Ok.both.0 c.in-Ok.both.1 _ c.requires.may t.0 c.layout.ensures.sizes.1 t.1 c.in-Ok.ensures c.give.ensures.gives _ _ c.set_up.ensures.sets_up c.set_up-2.ensures.sets_up _ v v o.0 o.2 _ c.link_word-word.ensures

pub release-requires-clause-linked : goal.release-requires-clause-linked
release-requires-clause-linked c κs = let t = c.in-Got.ensures.turns in let o = c.open_row.ensures.opens in let v = view_of c.set_entry.new.self in
    may_release_a _ _ _ _ _ _ c.args.first c.args.second c.in-Ok.both.0 c.in-Ok.both.1 _ c.requires.may t.0 c.layout.ensures.sizes.1 t.1 c.in-Ok.ensures c.give.ensures.gives _ _ c.set_up.ensures.sets_up c.set_up-2.ensures.sets_up _ _ v o.0 o.2 _ c.link_word-word.ensures
    c.set_entry.ensures.sets

pub release-requires-clause-fits : goal.release-requires-clause-fits
release-requires-clause-fits c κs = let t = c.in-Got.ensures.turns in let o = c.open_row.ensures.opens in let v = view_of c.set_entry.new.self in
    fits_a _ _ _ _ _ _ c.args.first c.args.second c.in-Ok.both.0 c.in-Ok.both.1 _ c.requires.may t.0 c.layout.ensures.sizes.1 t.1 c.in-Ok.ensures c.give.ensures.gives _ _ c.set_up.ensures.sets_up c.set_up-2.ensures.sets_up _ _ v o.0 o.2 _ c.link_word-word.ensures
    c.set_entry.ensures.sets

pub open_row-requires-2-clause-guard : goal.open_row-requires-2-clause-guard
open_row-requires-2-clause-guard c κs = let t = c.in-Got.ensures.turns in let v = view_of c.turn.new.self in
    let apart = two_rows _ v v _ _ _ c.args.first c.args.second c.in-Ok.both.0 c.in-Ok.both.1 _ c.requires.may t.0 c.layout.ensures.sizes.1 t.1 c.in-Ok.ensures in
    let unlinked = not_linked _ v v _ _ _ c.args.first c.args.second c.in-Ok.both.0 c.in-Ok.both.1 _ c.requires.may t.0 c.layout.ensures.sizes.1 t.1 c.in-Ok.ensures _ c.link_word-word.ensures in
    c.release.ensures.others _ (λ e. apart (sym e)) (c.set_entry.ensures.others _ (λ _. unlinked) (c.open_row.ensures.others _ (λ e. apart (sym e)) (c.set_up-2.ensures.others _ (λ e. apart (sym e)) c.set_up.ensures.may_open)))

pub link_word-word-requires-2 : goal.link_word-word-requires-2
link_word-word-requires-2 c = let t = c.in-Got.ensures.turns in let v = view_of c.turn.new.self in
    (small_b _ v v _ _ _ c.args.first c.args.second c.in-Ok.both.0 c.in-Ok.both.1 _ c.requires.may t.0 c.layout.ensures.sizes.1 t.1 c.in-Ok.ensures, c.in-Ok.ensures.few)

pub set_entry-requires-2-clause-guard : goal.set_entry-requires-2-clause-guard
set_entry-requires-2-clause-guard c κs = let t = c.in-Got.ensures.turns in let o = c.open_row.ensures.opens in let p = c.open_row-2.ensures.opens in let v = view_of c.open_row-2.new.self in
    may_link_b _ _ _ _ _ _ c.args.first c.args.second c.in-Ok.both.0 c.in-Ok.both.1 _ c.requires.may t.0 c.layout.ensures.sizes.1 t.1 c.in-Ok.ensures c.give.ensures.gives _ _ c.set_up.ensures.sets_up c.set_up-2.ensures.sets_up _ _ _ o.0 o.2 _ c.link_word-word.ensures
    c.set_entry.ensures.sets c.release.ensures.releases _ v v p.0 p.2 _ c.link_word-word-2.ensures

pub release-requires-2-clause-linked : goal.release-requires-2-clause-linked
release-requires-2-clause-linked c κs = let t = c.in-Got.ensures.turns in let o = c.open_row.ensures.opens in let p = c.open_row-2.ensures.opens in let v = view_of c.set_entry-2.new.self in
    may_release_b _ _ _ _ _ _ c.args.first c.args.second c.in-Ok.both.0 c.in-Ok.both.1 _ c.requires.may t.0 c.layout.ensures.sizes.1 t.1 c.in-Ok.ensures c.give.ensures.gives _ _ c.set_up.ensures.sets_up c.set_up-2.ensures.sets_up _ _ _ o.0 o.2 _ c.link_word-word.ensures
    c.set_entry.ensures.sets c.release.ensures.releases _ _ v p.0 p.2 _ c.link_word-word-2.ensures c.set_entry-2.ensures.sets

pub release-requires-2-clause-fits : goal.release-requires-2-clause-fits
release-requires-2-clause-fits c κs = let t = c.in-Got.ensures.turns in let o = c.open_row.ensures.opens in let p = c.open_row-2.ensures.opens in let v = view_of c.set_entry-2.new.self in
    fits_b _ _ _ _ _ _ c.args.first c.args.second c.in-Ok.both.0 c.in-Ok.both.1 _ c.requires.may t.0 c.layout.ensures.sizes.1 t.1 c.in-Ok.ensures c.give.ensures.gives _ _ c.set_up.ensures.sets_up c.set_up-2.ensures.sets_up _ _ _ o.0 o.2 _ c.link_word-word.ensures
    c.set_entry.ensures.sets c.release.ensures.releases _ _ v p.0 p.2 _ c.link_word-word-2.ensures c.set_entry-2.ensures.sets

pub returns-clause-sows : goal.returns-clause-sows
returns-clause-sows c = λ may. let t = c.in-Got.ensures.turns in let o = c.open_row.ensures.opens in let p = c.open_row-2.ensures.opens in
    are_sown _ _ _ _ _ _ c.args.first c.args.second c.in-Ok.both.0 c.in-Ok.both.1 _ may t.0 c.layout.ensures.sizes.1 t.1 c.in-Ok.ensures c.give.ensures.gives _ _ c.set_up.ensures.sets_up c.set_up-2.ensures.sets_up _ _ _ o.0 o.2 _ c.link_word-word.ensures
    c.set_entry.ensures.sets c.release.ensures.releases _ _ _ p.0 p.2 _ c.link_word-word-2.ensures c.set_entry-2.ensures.sets c.release-2.ensures.releases
