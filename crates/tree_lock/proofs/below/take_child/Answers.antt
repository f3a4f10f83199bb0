use Rattle.std.proofs.Common.{◌≡◌, sym, refl, lit<, inr, subst, true}
use Rattle.table_place.specs.declared.Place.{Place}
use Rattle.table_place.specs.Place.{is_place}
use Rattle.row_table.specs.Passes.{view_of}
use Rattle.tree_lock.proofs.Positions.{spelled_table}
use Rattle.tree_lock.proofs.Taking.{may_look, looked_held, sees_word, child_is_table, links_row, once_before, right_before, new_rows, new_places, room_for, gets_child, misses_child}
use Rattle.tree_lock.proofs.below.take_child.Goals as goal

pub look-word-requires-clause-guard : goal.look-word-requires-clause-guard
look-word-requires-clause-guard g c κs within = may_look c.args.levels (view_of c.args.pass.now) c.args.at _ c.requires.list c.requires.at

pub returns-in-None-clause-takes : goal.returns-in-None-clause-takes
returns-in-None-clause-takes g c =
    let looks = c.look-word.ensures.looks in
    (c.look-word.result, sees_word c.args.levels _ _ c.args.at c.args.index _ c.requires.levels c.requires.outside c.requires.at looks, c.in-None.ensures, looked_held c.args.levels _ _ c.args.at c.args.index _ c.requires.levels c.requires.outside c.requires.at looks, refl)

pub place_below-place-requires-clause-child : goal.place_below-place-requires-clause-child
place_below-place-requires-clause-child g c = child_is_table c.args.levels _ _ c.args.at c.args.index _ c.requires.levels c.requires.outside c.requires.at c.look-word.ensures.looks c.in-Some.ensures.0

pub grab-requires-clause-guard : goal.grab-requires-clause-guard
grab-requires-clause-guard g c κs within = inr (links_row c.args.levels _ _ c.args.at c.args.index _ c.requires.levels c.requires.outside c.requires.at c.look-word.ensures.looks c.requires.inside c.in-Some.ensures.0 c.in-Some.link.row c.in-Some.ensures.1)

pub insert-requires-clause-room : goal.insert-requires-clause-room
insert-requires-clause-room g c =
    let looks = c.look-word.ensures.looks in let f = c.in-Got.ensures.grabs.0 in
    let now = looked_held c.args.levels _ _ c.args.at c.args.index _ c.requires.levels c.requires.outside c.requires.at looks in
    let right = right_before c.args.levels _ _ c.args.at c.args.index _ c.in-Some.link.row now f in
    room_for c.args.levels (view_of c.args.pass.now) _ c.in-Some.link.row _ c.requires.list c.requires.there right.0 (once_before c.args.levels _ _ c.args.at c.args.index _ c.in-Some.link.row now f.once) right.1 c.requires.room

pub insert-requires-clause-spelled : goal.insert-requires-clause-spelled
insert-requires-clause-spelled g c =
    let table = child_is_table c.args.levels _ _ c.args.at c.args.index _ c.requires.levels c.requires.outside c.requires.at c.look-word.ensures.looks c.in-Some.ensures.0 in
    spelled_table c.args.levels c.place_below-place.result c.requires.levels.0 (subst (λ (p : Place). is_place c.args.levels p ≡ true) (sym c.place_below-place.ensures) table)

pub insert-requires-clause-new_row : goal.insert-requires-clause-new_row
insert-requires-clause-new_row g c =
    let looks = c.look-word.ensures.looks in let f = c.in-Got.ensures.grabs.0 in
    let now = looked_held c.args.levels _ _ c.args.at c.args.index _ c.requires.levels c.requires.outside c.requires.at looks in
    new_rows c.args.levels (view_of c.args.pass.now) _ c.in-Some.link.row c.requires.list (once_before c.args.levels _ _ c.args.at c.args.index _ c.in-Some.link.row now f.once)

pub insert-requires-clause-new_place : goal.insert-requires-clause-new_place
insert-requires-clause-new_place g c = new_places c.args.levels (view_of c.args.pass.now) _ c.place_below-place.result c.args.at.place c.args.index c.requires.list c.requires.fresh c.requires.inside c.place_below-place.ensures

pub unreachable-requires : goal.unreachable-requires
unreachable-requires g c =
    let t = c.in-Stale.ensures.grabs in
    t.3.unlinked (links_row c.args.levels _ _ c.args.at c.args.index _ c.requires.levels c.requires.outside c.requires.at c.look-word.ensures.looks c.requires.inside c.in-Some.ensures.0 c.in-Some.link.row c.in-Some.ensures.1)

pub returns-in-Got-clause-takes : goal.returns-in-Got-clause-takes
returns-in-Got-clause-takes g c =
    let looks = c.look-word.ensures.looks in let t = c.in-Got.ensures.grabs in let link = c.in-Some.ensures in
    let now = looked_held c.args.levels _ _ c.args.at c.args.index _ c.requires.levels c.requires.outside c.requires.at looks in
    let sees = sees_word c.args.levels _ _ c.args.at c.args.index _ c.requires.levels c.requires.outside c.requires.at looks in
    gets_child c.args.levels _ _ _ _ _ c.args.at c.args.index _ c.in-Some.link.row c.in-Some.link.generation c.place_below-place.result c.requires.levels c.requires.at now sees link.0 link.1 c.place_below-place.ensures c.requires.inside
    t.0 c.in-Got.content t.2 link.2 (child_is_table c.args.levels _ _ c.args.at c.args.index _ c.requires.levels c.requires.outside c.requires.at looks link.0) c.insert.ensures.inserted

pub returns-in-Held-clause-takes : goal.returns-in-Held-clause-takes
returns-in-Held-clause-takes g c =
    let looks = c.look-word.ensures.looks in let t = c.in-Held.ensures.grabs in let link = c.in-Some.ensures in
    let now = looked_held c.args.levels _ _ c.args.at c.args.index _ c.requires.levels c.requires.outside c.requires.at looks in
    let sees = sees_word c.args.levels _ _ c.args.at c.args.index _ c.requires.levels c.requires.outside c.requires.at looks in
    misses_child c.args.levels _ _ _ _ _ c.args.at c.args.index _ c.in-Some.link.row c.in-Some.link.generation c.place_below-place.result c.requires.levels c.requires.at now sees link.0 link.1 c.place_below-place.ensures c.requires.inside
    c.requires.fresh c.requires.list.exact.shown t.1 c.in-Held.seat t.2 t.3 t.4 refl
