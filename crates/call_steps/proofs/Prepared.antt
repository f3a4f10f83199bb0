-- A plan, and a sweep where rows are wanting.
--     once_found      no row stands twice in the lists of the book that a turn found
--     only_turned, only_loaded, only_on      of what a pass knows nothing but its samples is new: after nothing, and after a load of all epoch words
--     keeps_only      so it has the same rows
--     few_refs      the rows of a cover have few references
--     has_planned      the plan of the swept book
use Rattle.std.specs.Prelude.{◌≡◌, ℕ, ◌+◌, ◌<◌, ◌≤◌, ◌↔◌, List, map, length, Some}
use Rattle.std.specs.List.{All}
use Rattle.std.proofs.Common.{sym, refl, ◌∙◌, ap, subst, arith}
use Rattle.corten_base.specs.declared.calls.Call.{Call}
use Rattle.corten_base.specs.declared.numbers.Limits.{Limits}
use Rattle.page_map.specs.State.{State}
use Rattle.row_layout.specs.declared.places.Layout.{Layout}
use Rattle.row_table.specs.Blocked.{IsBlocked}
use Rattle.row_table.specs.Books.{Learns, turned}
use Rattle.walk_core.specs.declared.pass.GrantedRow.{GrantedRow}
use Rattle.walk_core.specs.Core.{unlinked_rows}
use Rattle.walk_core.specs.Guards.{put_rows}
use Rattle.walk_core.specs.Lists.{Has}
use Rattle.epoch_grace.specs.Loads.{Loads}
use Rattle.epoch_grace.proofs.Loaded.{loaded_same}
use Rattle.epoch_grace.proofs.Stocked.{rows_put}
use Rattle.book.specs.Kept.{IsTableRow}
use Rattle.book.proofs.Counted.{state_limits}
use Rattle.book_sweep.proofs.Kept.{row_small}
use Rattle.row_layout.specs.declared.limbo.Sampled.{Sampled}
use Rattle.machine_plan.specs.declared.kit.Kit.{Kit}
use Rattle.machine_plan.specs.Books.{BookData, state_of, RowSum, free_rows_within, put_of}
use Rattle.machine_plan.specs.Follows.{machine}
use Rattle.machine_plan.specs.Held.{HeldWith}
use Rattle.machine_plan.specs.HeldRows.{Row}
use Rattle.machine_plan.specs.Kits.{IsSwept}
use Rattle.machine_plan.specs.Whole.{IsBook}
use Rattle.machine_plan.proofs.Whole.{book_is_consistent}
use Rattle.range_cursor.specs.Plans.{IsPlannable, Plans}
use Rattle.range_cursor.specs.Ranges.{HasFewRefs}
use Rattle.range_cursor.proofs.Few.{rows_have_few}
use Rattle.call_steps.specs.Ready.{View, IsCovered, IsPrepared, KeepsRows}
use Rattle.call_steps.specs.Turned.{HasTurned, OnlySamples}
use Rattle.call_steps.specs.Swept.{IsOnce, IsSweptTo}
use Rattle.call_steps.specs.Planned.{HasPlanned}
use Rattle.call_steps.proofs.Planned.{held_then, rows_shown}
use Rattle.call_steps.proofs.Swept.{held_swept, held_kept}
use Rattle.call_steps.proofs.Law.{gives_plan}

pub once_found : (count : ℕ) (v : View) (old : BookData) → Learns machine count v old → IsOnce old
once_found count v old learns q = let o = learns.once q in omega (arith, o)

pub limbo_below : (tables limit : ℕ) (limbo : List Sampled) → tables < limit → All (IsTableRow tables) limbo → (q : ℕ) → Has (put_rows (map put_of limbo)) q → q < limit
limbo_below tables limit limbo less all q has = let small = row_small tables limbo q all (subst (λ (l : List ℕ). Has l q) (rows_put limbo) has) in omega (arith, small, less)

-- ---- what a pass knows

pub only_none : (v : View) → OnlySamples v v
only_none v = record { view = refl; rows = refl }

pub only_loaded : (v w : View) (numbers : List ℕ) → Loads machine v numbers w → OnlySamples v w
only_loaded v w numbers loads =
    let s = loaded_same 0 numbers v in
    let e = loads.after ∙ s.after in
    record {
      view = e ∙ (λ i. record v { core = record v.core { unlinked = sym (ap (λ (u : View). u.core.unlinked) e) i; samples = sym (ap (λ (u : View). u.core.samples) e) i } });
      rows = ap (λ (u : View). unlinked_rows u.core) e ∙ s.rows;
    }

pub keeps_only : (v w : View) → OnlySamples v w → KeepsRows v w
keeps_only v w o = record {
  number = ap (λ (u : View). u.number) o.view;
  layout = ap (λ (u : View). u.layout) o.view;
  rows = ap (λ (u : View). u.rows) o.view;
  held = ap (λ (u : View). u.core.held) o.view;
  hand = ap (λ (u : View). u.hand) o.view;
  granted = ap (λ (u : View). u.core.granted) o.view;
  unlinked = o.rows;
}

-- ---- the plan

-- the pass v, whose turn found the book old, knows u
module _ (k : Layout) (thread : ℕ) (c : Call) (v u : View) (old : BookData) (rows : List Row) (turned_to : HasTurned k v old u) (covered : IsCovered (length old.files) thread c v rows) (is_old : IsBook old) (levels : old.limits.levels ≡ k.levels) where
  same_layout : v.layout.levels ≡ k.levels
  same_layout = ap (λ (x : Layout). x.levels) turned_to.layout

  held_old : HeldWith old (turned machine v old) rows
  held_old = held_then (length old.files) k.rows k.levels old thread c v rows is_old levels same_layout refl covered turned_to.learns

  pub few_refs : HasFewRefs rows
  few_refs =
      let frames = is_old.within.frames in
      let swap = is_old.within.swap in
      let same = state_limits old in
      rows_have_few (state_of old) rows (book_is_consistent old is_old) (omega (arith, frames, ap (λ (l : Limits). l.frames) same)) (omega (arith, swap, ap (λ (l : Limits). l.swap) same)) (rows_shown old (turned machine v old) rows held_old)

  pub has_planned : (w : View) (m : BookData) (kit : Kit) (rows' : List Row) (kit' : Kit) → IsBook m → IsPrepared thread c rows kit → ((b : BookData) → IsPlannable b thread c k.levels old.files rows kit → Plans b thread c rows kit rows' kit')
      → OnlySamples u w → IsSweptTo k w old m → RowSum old ↔ RowSum m → IsSwept m kit' → (free_rows_within m < kit'.rows_needed → All (λ s. IsBlocked k.passes w.core (put_of s)) m.limbo) → HasPlanned k thread c u old rows kit w m rows' kit'
  has_planned w m kit rows' kit' is_m ready plans samples swept sum blockers blocked =
      let both = gives_plan (length old.files) k.rows k.levels old m thread c v rows kit is_old is_m swept.same levels same_layout refl covered turned_to.learns ready in
      let files : m.files ≡ old.files = ap (λ (b : BookData). b.files) swept.same in
      record {
        books = (is_old, is_m);
        samples = samples;
        swept = swept;
        sum = sum;
        held = held_kept m u w rows (keeps_only u w samples) (subst (λ (x : View). HeldWith m x rows) (sym turned_to.view) both.0);
        plans = plans m (subst (λ (fs : List (List ℕ)). IsPlannable m thread c k.levels fs rows kit) files both.1);
        blockers = blockers;
        blocked = blocked;
      }
