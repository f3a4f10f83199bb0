use Rattle.std.proofs.Common.{◌<◌, ℕ, List, length, sym, subst, ap, ◌∙◌, arith}
use Rattle.tree_lock.specs.declared.held.HeldRow.{HeldRow}
use Rattle.tree_lock.specs.Held.{HeldList, IsHeldList, IsInOrder, IsRank}
use Rattle.tree_lock.proofs.Rows.{insert_done}
use Rattle.tree_lock.proofs.held.Held.insert.Goals as goal

pub rank-at-requires-clause-order : goal.rank-at-requires-clause-order
rank-at-requires-clause-order g c = subst IsInOrder (sym c.as_slice.ensures.value) c.self.invariant.order

pub invariant_of-self : goal.invariant_of-self
invariant_of-self g c =
    let e = c.insert.ensures in
    let room = subst (λ (h : HeldList g.row.R.Denot). length h.rows < h.room) (sym c.self.view_is) c.requires.room in
    let less : c.self.inside.rows.len < c.self.inside.rows.cap = let len = c.self.inside.rows.ok.0 in omega arith in
    let rank = subst (λ (l : List (HeldRow g.row.R.Denot)). IsRank c.args.row.place l c.rank-at.result) c.as_slice.ensures.value c.rank-at.ensures in
    subst (λ (n : ℕ). IsHeldList c.insert.new.self.items n) (sym (e.in_place less).1.0)
    (insert_done _ c.rank-at.result c.args.row c.self.inside.rows.items c.insert.new.self.items _ _ c.self.view_is (e.succeeds less) e.items c.self.invariant rank e.by_index.0 e.by_index.1 e.by_index.2 c.requires.spelled c.requires.new_row).1

pub returns : goal.returns
returns g c =
    let e = c.insert.ensures in
    let room = subst (λ (h : HeldList g.row.R.Denot). length h.rows < h.room) (sym c.self.view_is) c.requires.room in
    let less : c.self.inside.rows.len < c.self.inside.rows.cap = let len = c.self.inside.rows.ok.0 in omega arith in
    let rank = subst (λ (l : List (HeldRow g.row.R.Denot)). IsRank c.args.row.place l c.rank-at.result) c.as_slice.ensures.value c.rank-at.ensures in
    record {
      inserted = (insert_done _ c.rank-at.result c.args.row c.self.inside.rows.items c.insert.new.self.items _ _ c.self.view_is (e.succeeds less) e.items c.self.invariant rank e.by_index.0 e.by_index.1 e.by_index.2 c.requires.spelled c.requires.new_row).0;
      room = (e.in_place less).1.0 ∙ ap (λ (h : HeldList g.row.R.Denot). h.room) c.self.view_is;
    }
