-- A call from the turn to the release.
--     has_origin      the book at the start of a table
--     covered_then, levels_then      what a plan asks, once a turn got the book
--     may_enter      what a commit asks, after the plan
--     outcome_on      the answer, as the pass knows it after the release
--     is_idle, same_pass      the pass then
use Rattle.std.specs.Prelude.{◌≡◌, ℕ, ◌+◌, ◌<◌, ◌≤◌, [], List, length, Option, Some, Result, Ok, Err}
use Rattle.std.proofs.Common.{sym, refl, ◌∙◌, ap, subst, arith}
use Rattle.corten_base.specs.declared.calls.Call.{Call}
use Rattle.corten_base.specs.declared.calls.Entry.{Entry}
use Rattle.corten_base.specs.declared.numbers.Limits.{Limits}
use Rattle.page_map.specs.History.{IsHistory}
use Rattle.book.specs.declared.commit.Answered.{Answered}
use Rattle.book.specs.declared.commit.JournalFull.{JournalFull}
use Rattle.row_layout.specs.declared.places.Layout.{Layout}
use Rattle.row_layout.specs.Places.{IsLayout}
use Rattle.row_table.specs.Books.{turned}
use Rattle.row_table.specs.Close.{IsIdle}
use Rattle.row_table.specs.declared.table.Iron.{Iron}
use Rattle.row_table.specs.Passes.{iron_model, origin_of}
use Rattle.machine_plan.specs.declared.kit.Kit.{Kit}
use Rattle.machine_plan.specs.Books.{BookData}
use Rattle.machine_plan.specs.Follows.{machine}
use Rattle.machine_plan.specs.HeldRows.{Row}
use Rattle.call_steps.specs.Ready.{View, IsCovered}
use Rattle.call_steps.specs.Turned.{HasTurned}
use Rattle.call_steps.specs.Planned.{HasPlanned}
use Rattle.call_steps.specs.Steps.{HasEntered}
use Rattle.call_steps.specs.Given.{RemovesNone, MayEnter, IsSamePass, HasAnswered, IsFull, Outcome, HasGiven}
use Rattle.call_steps.specs.Finished.{IsDone}
use Rattle.call_steps.specs.Transacting.{IsOutside, FitsTable, CoversTable}

module _ {P R B K E : Type 0} where
  pub has_origin : (t : Iron P R B K E) → (b : B) × (origin_of t ≡ Some b)
  unfolding iron_model
  has_origin t = (t.table.shared.key.origin.value, refl)

-- v: the pass before its turn, u: after it, which found the book old
module _ (k : Layout) (sizes : IsLayout k) (c : Call) (v u : View) (old : BookData) (rows : List Row) (kit : Kit) (first : BookData) (at : v.origin ≡ Some first) (outside : IsOutside v) (fits : FitsTable k first) (covers : CoversTable (Some first) c v rows) (turned_to : HasTurned k v old u) where
  pub number_low : v.number < 8
  number_low =
      let less = turned_to.learns.right.number in
      let l = ap (λ (x : Layout). x.passes) turned_to.layout in
      let few = sizes.3 in
      omega (arith, less, l, few)

  files_are : length first.files ≡ length old.files
  files_are = ap (λ (x : List (List ℕ)). length x) (sym (turned_to.learns.fixed first at).files)

  pub covered_then : IsCovered (length old.files) v.number c v rows
  covered_then = subst (λ (n : ℕ). IsCovered n v.number c v rows) files_are (covers first refl turned_to.learns.right)

  pub levels_then : old.limits.levels ≡ k.levels
  levels_then = ap (λ (x : Limits). x.levels) (turned_to.learns.fixed first at).limits ∙ fits.levels

  pub may_enter : (w : View) (m : BookData) (rows' : List Row) (kit' : Kit) → RemovesNone c → HasPlanned k v.number c u old rows kit w m rows' kit' → MayEnter k v.number c v w m rows' kit'
  may_enter w m rows' kit' removes planned = record {
    old = old;
    rows = rows;
    kit = kit;
    number = refl;
    few = number_low;
    layout = turned_to.layout;
    table_rows = sizes.1;
    levels = levels_then;
    learns = turned_to.learns;
    sum = (turned_to.learns.fixed first at).sum.0 fits.sum;
    nothing = (outside.granted, outside.unlinked);
    covered = covered_then;
    planned = subst (λ (x : View). HasPlanned k v.number c x old rows kit w m rows' kit') turned_to.view planned;
    removes = removes;
  }

-- e: the pass after the give, z: after the release
module _ (thread : ℕ) (c : Call) (v e z : View) (done : IsDone e z) where
  pub outcome_on : (r : Result Answered JournalFull) → Outcome thread c v e r → Outcome thread c v z r
  outcome_on (Ok a) o = record {
    entered = record { others = o.entered.others; seen = done.seen ∙ o.entered.seen; mine = done.mine ∙ o.entered.mine };
    ticket = o.ticket;
    place = o.place;
    legal = λ first at. subst (λ (l : List Entry). IsHistory first.limits first.files l) (sym done.seen) (o.legal first at);
  }
  outcome_on (Err full) o = record {
    seen = (o.seen.0, done.seen ∙ o.seen.1);
    mine = done.mine ∙ o.mine;
    full = λ first at. ap (λ (l : List Entry). length l) done.seen ∙ o.full first at;
    legal = λ first at. subst (λ (l : List Entry). IsHistory first.limits first.files l) (sym done.seen) (o.legal first at);
  }

  module _ (k : Layout) (rows : List Row) (kit : Kit) (outside : IsOutside v) (given : HasGiven k thread c v e rows kit) where
    pub is_idle : IsIdle z
    is_idle = record {
      outside = done.same.stand ∙ (given.same.stand ∙ outside.outside);
      held = done.held;
      granted = done.granted;
      unlinked = done.unlinked ∙ given.unlinked;
      has_not = done.has_book ∙ given.applicable.not_book;
    }

    pub same_pass : IsSamePass v z
    same_pass = record {
      number = done.same.number ∙ given.same.number;
      layout = done.same.layout ∙ given.same.layout;
      origin = done.same.origin ∙ given.same.origin;
      epoch = done.same.epoch ∙ given.same.epoch;
      stand = done.same.stand ∙ given.same.stand;
    }
