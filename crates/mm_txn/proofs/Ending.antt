-- What a closed machine is, from what its table is closed into.
use Rattle.std.proofs.Common.{Vec, Global, ◌≡◌, ℕ, ◌≤◌, List, [], ◌∷◌, length, map, sym, refl, ap, ◌∙◌, subst, arith}
use Rattle.std.specs.Prelude.{◌↔◌, Some}
use Rattle.std.specs.List.{All, Contains}
use Rattle.std.proofs.lemmas.List.Elements.{All-head}
use Rattle.std.proofs.lemmas.Option.{same_Some}
use Rattle.page_map.specs.State.{IsWithinLimits}
use Rattle.corten_base.specs.declared.numbers.Limits.{Limits}
use Rattle.walk_core.specs.Lists.{times}
use Rattle.walk_core.proofs.RowLists.{times-nil, in_head, in_map}
use Rattle.row_layout.specs.declared.places.Layout.{Layout}
use Rattle.corten_base.specs.declared.calls.Entry.{Entry}
use Rattle.row_cells.specs.declared.Cell.{Cell}
use Rattle.row_table.specs.declared.view.PassView.{PassView}
use Rattle.row_table.specs.Passes.{TableModel, iron_model, model_of, view_of, number_of, table_of}
use Rattle.row_table.specs.Close.{HasAll, IsClosed, IsGoodEnd}
use Rattle.epoch_grace.proofs.Stocked.{rows_put}
use Rattle.machine_plan.specs.Books.{BookData, RowSum}
use Rattle.machine_plan.specs.Follows.{machine, IsFixed}
use Rattle.machine_plan.specs.Whole.{IsBook}
use Rattle.book_sweep.specs.Freeing.{AreOnce, FreesLimbo}
use Rattle.mm_txn.specs.declared.closed.Closed.{Closed}
use Rattle.mm_txn.specs.declared.closed.CloseAnswer.{CloseAnswer}
use Rattle.mm_txn.specs.declared.closed.CloseAnswer.TheVariants as answer
use Rattle.mm_txn.specs.declared.machine.Machine.{Machine}
use Rattle.mm_txn.specs.Fit.{IsFit}
use Rattle.mm_txn.specs.Machines.{MachinePass, MachineIron, IsMade}
use Rattle.mm_txn.specs.Ending.{Ends, Views}

-- the book at the start of its table, as a pass knows it
pub origin_known : (p : MachinePass) → (view_of p).origin ≡ (table_of p).origin
unfolding model_of
origin_known p = refl

-- Its lists

pub once_at_end : (k : Layout) (words : List ℕ) (b : BookData) → IsGoodEnd machine k words b → AreOnce b
once_at_end k words b good r = omega (arith, good.once r, ap (times r) (rows_put b.limbo))

-- The journal and the sums

module _ (t : TableModel BookData) (views : Views) (words epochs : List ℕ) (rows : List (List Cell)) (old new : BookData) (closed : IsClosed machine t.layout views words epochs rows old) (frees : FreesLimbo old new) (sums : RowSum old ↔ RowSum new) where
  fixed_on : (first : BookData) → IsFixed first old → IsFixed first new
  fixed_on first fixed = record {
    limits = ap (λ (b : BookData). b.limits) frees.same ∙ fixed.limits;
    files = ap (λ (b : BookData). b.files) frees.same ∙ fixed.files;
    room = ap (λ (b : BookData). b.room) frees.same ∙ fixed.room;
    sum = (λ s. sums.0 (fixed.sum.0 s), λ s. fixed.sum.1 (sums.1 s));
  }

  pub ends : IsBook new → (first : BookData) → RowSum first → (v : PassView (List Cell) BookData Entry) → Contains views v → v.origin ≡ Some first → Ends t views new epochs
  ends is_book first sum v there at = record {
    is_book = is_book;
    limbo = ap (λ (b : BookData). b.limbo) frees.same;
    sum = sums.0 (((closed.knows v there).1.fixed first at).sum.0 sum);
    all_epochs = closed.all_epochs;
    even = closed.even;
    knows = λ u here. let o = closed.knows u here in (
      o.0,
      record {
        same_epoch = o.1.same_epoch;
        fixed = λ f is. fixed_on f (o.1.fixed f is);
        seen = subst (λ (j : List Entry). Rattle.row_table.specs.Rule.StartsWith j u.seen) (sym (ap (λ (b : BookData). b.journal) frees.same)) o.1.seen;
        mine = o.1.mine ∙ ap (λ (j : List Entry). Rattle.row_table.specs.Rule.own_places machine u.number j) (sym (ap (λ (b : BookData). b.journal) frees.same));
      },
    );
  }

pub has_origin : (t : MachineIron) → (b : BookData) × ((iron_model t).table.origin ≡ Some b)
unfolding iron_model
has_origin t = (t.table.shared.key.origin.value, refl)

-- a list with all passes of a table has one
member : (t : TableModel BookData) (ps : List MachinePass) → 1 ≤ t.layout.passes → HasAll t.layout.passes (map (λ p. number_of p) ps) → All (λ p. table_of p ≡ t) ps → (p : MachinePass) × Contains ps p × (table_of p ≡ t)
member t [] some all members = absurd (omega (arith, all 0 (omega (arith, some)), times-nil 0))
member t (p ∷ ps) some all members = (p, in_head p ps, All-head (λ p. table_of p ≡ t) p ps members)

pub closed_ends : (t : MachineIron) (ps : List MachinePass) (words epochs : List ℕ) (rows : List (List Cell)) (old new : BookData) → 1 ≤ (iron_model t).table.layout.passes → All (λ p. table_of p ≡ (iron_model t).table) ps
    → HasAll (iron_model t).table.layout.passes (map (λ p. number_of p) ps) → IsClosed machine (iron_model t).table.layout (map (λ p. view_of p) ps) words epochs rows old → FreesLimbo old new → RowSum old ↔ RowSum new → IsBook new
    → ((b : BookData) → (iron_model t).table.origin ≡ Some b → RowSum b) → Ends (iron_model t).table (map (λ p. view_of p) ps) new epochs
closed_ends t ps words epochs rows old new some members all closed frees sums is_book sum =
    let first = has_origin t in let one = member (iron_model t).table ps some all members in
    ends (iron_model t).table (map (λ p. view_of p) ps) words epochs rows old new closed frees sums is_book first.0 (sum first.0 first.1) (view_of one.0) (in_map (λ p. view_of p) ps one.0 one.1)
    (origin_known one.0 ∙ (ap (λ (k : TableModel BookData). k.origin) one.2 ∙ first.1))

-- Answers

pub same_closed : (c d : Closed) → answer.Closed c ≡ answer.Closed d → c ≡ d
same_closed c d same = ap inner same
  where
    inner : CloseAnswer → Closed
    inner (answer.Closed x) = x
    inner (answer.NotAll m back) = d

pub same_machine : (m n : Machine) (ps qs : Vec MachinePass Global) → answer.NotAll m ps ≡ answer.NotAll n qs → (m ≡ n) × (ps ≡ qs)
same_machine m n ps qs same = (ap first same, ap second same)
  where
    first : CloseAnswer → Machine
    first (answer.Closed x) = n
    first (answer.NotAll x back) = x

    second : CloseAnswer → Vec MachinePass Global
    second (answer.Closed x) = qs
    second (answer.NotAll x back) = back

-- A machine that was made

pub fit_of_made : (limits greatest : Limits) (files : List (List ℕ)) (entries passes n : ℕ) (t : TableModel BookData) (ps : List MachinePass) → IsMade limits files entries passes t ps → IsWithinLimits greatest → limits.levels ≡ greatest.levels → n ≡ length files → IsFit t greatest n
fit_of_made limits greatest files entries passes n t ps made within levels count = record {
  within = within;
  same_levels = ap (λ (k : Layout). k.levels) made.layout ∙ levels;
  sum = λ b at. subst RowSum (is b at) made.starts.sum;
  book_levels = λ b at. ap (λ (x : BookData). x.limits.levels) (sym (is b at)) ∙ (ap (λ (l : Limits). l.levels) made.starts.same_limits ∙ sym (ap (λ (k : Layout). k.levels) made.layout));
  shelf = λ b at. ap (λ (x : BookData). length x.files) (sym (is b at)) ∙ (ap length made.starts.files ∙ sym count);
}
  where
    is : (b : BookData) → t.origin ≡ Some b → made.origin ≡ b
    is b at = same_Some made.origin b (sym made.at_start ∙ at)
