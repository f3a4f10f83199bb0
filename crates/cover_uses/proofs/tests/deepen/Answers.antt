use Rattle.std.proofs.Common.{◌≡◌, ℕ, Bool, false, List, [], ◌∷◌, sym, ap, ◌∙◌, inr, get_or}
use Rattle.table_place.specs.declared.Place.{Place}
use Rattle.row_layout.specs.declared.places.Layout.{Layout}
use Rattle.row_table.specs.Passes.{view_of}
use Rattle.row_uses.specs.Sown.{View}
use Rattle.tree_lock.specs.declared.held.HeldRow.{HeldRow}
use Rattle.cover_uses.proofs.Deepening.{one_of, holds_it, may_sow, kept_after, exact_still, each_still, idle_after}
use Rattle.cover_uses.proofs.tests.deepen.Goals as goal

pub look-requires-clause-guard : goal.look-requires-clause-guard
look-requires-clause-guard c κs =
    let x : HeldRow Bool = get_or c.rows-rows.result.now 0 (record { row = 0; place = record { space = 0; level = 0; prefix = 0 }; generation = 0; content = false }) in
    let one : c.try_cover.new.held.rows ≡ x ∷ [] = sym c.rows-rows.ensures.list ∙ one_of c.rows-rows.result.now (record { row = 0; place = record { space = 0; level = 0; prefix = 0 }; generation = 0; content = false }) c.if-rows-ne1.false in
    let held = c.in-Held.ensures.tries.1 in
    inr (holds_it _ _ (view_of c.args.pass.now) (view_of c.try_cover.new.pass) x c.try_cover.new.held.rows one c.requires.idle held)

pub sow-sown-requires-clause-may : goal.sow-sown-requires-clause-may
sow-sown-requires-clause-may c =
    let x : HeldRow Bool = get_or c.rows-rows.result.now 0 (record { row = 0; place = record { space = 0; level = 0; prefix = 0 }; generation = 0; content = false }) in
    let one : c.try_cover.new.held.rows ≡ x ∷ [] = sym c.rows-rows.ensures.list ∙ one_of c.rows-rows.result.now (record { row = 0; place = record { space = 0; level = 0; prefix = 0 }; generation = 0; content = false }) c.if-rows-ne1.false in
    let held = c.in-Held.ensures.tries.1 in
    let fits = c.in_ok-index.ensures in
    let may = may_sow _ _ (view_of c.args.pass.now) (view_of c.try_cover.new.pass) x c.try_cover.new.held.rows one c.requires.idle held (view_of c.look.new.self) c.in_ok-index.index c.look.result c.look.ensures.looks
    c.if-look-ne0.false fits.2 (ap (λ (k : Layout). k.levels) c.in-Held.ensures.layout) fits.0 fits.1 c.in_ok-index.child fits.3 c.an_entry_leads_to_a_child.ensures.place in
    may

pub release_all-requires-clause-exact : goal.release_all-requires-clause-exact
release_all-requires-clause-exact c κs =
    let x : HeldRow Bool = get_or c.rows-rows.result.now 0 (record { row = 0; place = record { space = 0; level = 0; prefix = 0 }; generation = 0; content = false }) in
    let one : c.try_cover.new.held.rows ≡ x ∷ [] = sym c.rows-rows.ensures.list ∙ one_of c.rows-rows.result.now (record { row = 0; place = record { space = 0; level = 0; prefix = 0 }; generation = 0; content = false }) c.if-rows-ne1.false in
    let held = c.in-Held.ensures.tries.1 in
    let fits = c.in_ok-index.ensures in
    let may = may_sow _ _ (view_of c.args.pass.now) (view_of c.try_cover.new.pass) x c.try_cover.new.held.rows one c.requires.idle held (view_of c.look.new.self) c.in_ok-index.index c.look.result c.look.ensures.looks
    c.if-look-ne0.false fits.2 (ap (λ (k : Layout). k.levels) c.in-Held.ensures.layout) fits.0 fits.1 c.in_ok-index.child fits.3 c.an_entry_leads_to_a_child.ensures.place in
    let keeps = kept_after (view_of c.look.new.self) (view_of c.sow-sown.new.pass) x.row c.in_ok-index.index c.in_ok-index.child c.sow-sown.result c.sow-sown.ensures.sows may in
    exact_still _ _ (view_of c.args.pass.now) (view_of c.try_cover.new.pass) x c.try_cover.new.held.rows one c.requires.idle held (view_of c.look.new.self) c.in_ok-index.index c.look.result c.look.ensures.looks (view_of c.sow-sown.new.pass) keeps.0 keeps.1

pub release_all-requires-clause-each : goal.release_all-requires-clause-each
release_all-requires-clause-each c κs =
    let x : HeldRow Bool = get_or c.rows-rows.result.now 0 (record { row = 0; place = record { space = 0; level = 0; prefix = 0 }; generation = 0; content = false }) in
    let one : c.try_cover.new.held.rows ≡ x ∷ [] = sym c.rows-rows.ensures.list ∙ one_of c.rows-rows.result.now (record { row = 0; place = record { space = 0; level = 0; prefix = 0 }; generation = 0; content = false }) c.if-rows-ne1.false in
    let held = c.in-Held.ensures.tries.1 in
    let fits = c.in_ok-index.ensures in
    let may = may_sow _ _ (view_of c.args.pass.now) (view_of c.try_cover.new.pass) x c.try_cover.new.held.rows one c.requires.idle held (view_of c.look.new.self) c.in_ok-index.index c.look.result c.look.ensures.looks
    c.if-look-ne0.false fits.2 (ap (λ (k : Layout). k.levels) c.in-Held.ensures.layout) fits.0 fits.1 c.in_ok-index.child fits.3 c.an_entry_leads_to_a_child.ensures.place in
    let keeps = kept_after (view_of c.look.new.self) (view_of c.sow-sown.new.pass) x.row c.in_ok-index.index c.in_ok-index.child c.sow-sown.result c.sow-sown.ensures.sows may in
    each_still _ _ (view_of c.args.pass.now) (view_of c.try_cover.new.pass) x c.try_cover.new.held.rows one c.requires.idle held (view_of c.look.new.self) c.in_ok-index.index c.look.result c.look.ensures.looks (view_of c.sow-sown.new.pass) keeps.0 keeps.1 c.in-Held.ensures.release

pub returns : goal.returns
returns c =
    let x : HeldRow Bool = get_or c.rows-rows.result.now 0 (record { row = 0; place = record { space = 0; level = 0; prefix = 0 }; generation = 0; content = false }) in
    let one : c.try_cover.new.held.rows ≡ x ∷ [] = sym c.rows-rows.ensures.list ∙ one_of c.rows-rows.result.now (record { row = 0; place = record { space = 0; level = 0; prefix = 0 }; generation = 0; content = false }) c.if-rows-ne1.false in
    let held = c.in-Held.ensures.tries.1 in
    let fits = c.in_ok-index.ensures in
    let may = may_sow _ _ (view_of c.args.pass.now) (view_of c.try_cover.new.pass) x c.try_cover.new.held.rows one c.requires.idle held (view_of c.look.new.self) c.in_ok-index.index c.look.result c.look.ensures.looks
    c.if-look-ne0.false fits.2 (ap (λ (k : Layout). k.levels) c.in-Held.ensures.layout) fits.0 fits.1 c.in_ok-index.child fits.3 c.an_entry_leads_to_a_child.ensures.place in
    let keeps = kept_after (view_of c.look.new.self) (view_of c.sow-sown.new.pass) x.row c.in_ok-index.index c.in_ok-index.child c.sow-sown.result c.sow-sown.ensures.sows may in (
      c.release_all.ensures.table ∙ (c.sow-sown.ensures.table ∙ (c.look.ensures.table ∙ (c.in-Held.ensures.table ∙ c.requires.table))),
      idle_after _ _ (view_of c.args.pass.now) (view_of c.try_cover.new.pass) x c.try_cover.new.held.rows one c.requires.idle held (view_of c.look.new.self) c.in_ok-index.index c.look.result c.look.ensures.looks (view_of c.sow-sown.new.pass) keeps.0 keeps.1 (view_of c.release_all.new.pass) c.release_all.ensures.releases,
      c.release_all.ensures.empty.0,
      c.release_all.ensures.empty.1 ∙ c.in-Held.ensures.room,
    )
