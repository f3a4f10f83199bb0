-- The end of a transaction that is abandoned.
use Rattle.std.proofs.Common.{◌≡◌, ◌≤◌, List, [], Option, None, Some, refl, sym, ap, ◌∙◌, subst}
use Rattle.corten_base.specs.Pages.{PageRange}
use Rattle.row_cells.specs.declared.Cell.{Cell}
use Rattle.row_table.specs.Passes.{view_of, kit_of, table_of}
use Rattle.tree_lock.specs.Held.{HeldList}
use Rattle.tree_lock.specs.Release.{emptied, HoldsExactly}
use Rattle.tree_lock.specs.Tries.{IsSameBut}
use Rattle.machine_plan.specs.Cover.{View}
use Rattle.mm_txn.specs.Machines.{MachinePass}
use Rattle.mm_txn.specs.Txns.{HeldRange, Holds, IsOpen}
use Rattle.mm_txn.specs.Beginning.{Abandons}

module _ (x : HeldRange) (opened : IsOpen x) where
  pub exact : (r : PageRange) → x.range ≡ Some r → HoldsExactly x.list.rows (view_of x.pass).core.held (view_of x.pass).rows
  exact r some = (subst (λ (o : Option PageRange). Holds x.space o (view_of x.pass) x.list.rows) some opened.holds).listed.exact

  nothing : x.range ≡ None → ((view_of x.pass).core.held ≡ []) × (x.list.rows ≡ [])
  nothing none = subst (λ (o : Option PageRange). Holds x.space o (view_of x.pass) x.list.rows) none opened.holds

  module _ (q' : MachinePass) where
    pub given_none : x.range ≡ None → kit_of q' ≡ Some (x.kit, x.list) → (view_of q' ≡ view_of x.pass) × (table_of q' ≡ table_of x.pass) → Abandons x q'
    given_none none kit same = let empty = nothing none in record {
      back = (
        same.1 ∙ opened.member,
        (
          record {
            outside = ap (λ (v : View). v.core.stand) same.0 ∙ opened.outside;
            held = ap (λ (v : View). v.core.held) same.0 ∙ empty.0;
            granted = ap (λ (v : View). v.core.granted) same.0 ∙ opened.granted;
            unlinked = ap (λ (v : View). v.core.unlinked) same.0 ∙ opened.unlinked;
            has_not = ap (λ (v : View). v.core.has_book) same.0 ∙ opened.has_not;
          },
          ((x.kit, x.list), kit, (opened.plain.0, opened.plain.1, opened.plain.2, opened.plain.3, empty.1, opened.room)),
        ),
      );
      same = subst (λ (w : View). IsSameBut (view_of x.pass) w) (sym same.0) refl;
      epoch = ap (λ (v : View). v.epoch) same.0;
    }

    module _ (q : MachinePass) (new : HeldList (List Cell)) (table : table_of q ≡ table_of x.pass) (empty : (new.rows ≡ []) × (new.room ≡ x.list.room)) (gone : view_of q ≡ emptied (view_of x.pass)) where
      pub given_some : kit_of q' ≡ Some (x.kit, new) → (view_of q' ≡ view_of q) × (table_of q' ≡ table_of q) → Abandons x q'
      given_some kit same = let now : view_of q' ≡ emptied (view_of x.pass) = same.0 ∙ gone in record {
        back = (
          same.1 ∙ (table ∙ opened.member),
          (
            record {
              outside = ap (λ (v : View). v.core.stand) now ∙ opened.outside;
              held = ap (λ (v : View). v.core.held) now;
              granted = ap (λ (v : View). v.core.granted) now ∙ opened.granted;
              unlinked = ap (λ (v : View). v.core.unlinked) now ∙ opened.unlinked;
              has_not = ap (λ (v : View). v.core.has_book) now ∙ opened.has_not;
            },
            ((x.kit, new), kit, (opened.plain.0, opened.plain.1, opened.plain.2, opened.plain.3, empty.0, subst (λ n. x.machine.table.layout.rows ≤ n) (sym empty.1) opened.room)),
          ),
        );
        same = subst (λ (w : View). IsSameBut (view_of x.pass) w) (sym now) refl;
        epoch = ap (λ (v : View). v.epoch) now;
      }
