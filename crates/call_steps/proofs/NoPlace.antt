-- The give of a book whose journal had no place for the call.
--     givable      the book may be given as it was found, or swept
--     has_given      what is left then
--     is_full      the pass has seen a full journal
use Rattle.std.specs.Prelude.{◌≡◌, ℕ, ◌<◌, ◌≤◌, true, List, [], ◌∷◌, ◌++◌, map, length, Some}
use Rattle.std.specs.List.{Contains}
use Rattle.std.proofs.Common.{sym, refl, ◌∙◌, ap, subst, arith, append-nil, inl, inr}
use Rattle.std.proofs.lemmas.Bool.{true≢false}
use Rattle.std.proofs.lemmas.List.{length-append}
use Rattle.std.proofs.lemmas.Option.{same_Some}
use Rattle.corten_base.specs.declared.calls.Call.{Call}
use Rattle.corten_base.specs.declared.calls.Entry.{Entry}
use Rattle.corten_base.specs.declared.numbers.Limits.{Limits}
use Rattle.page_map.specs.History.{IsHistory}
use Rattle.row_layout.specs.declared.places.Layout.{Layout}
use Rattle.row_table.specs.Books.{region, gave, taken_rows, put_list, MayGive, Gives, IsGivable}
use Rattle.row_table.specs.Rule.{SameRows, own_places}
use Rattle.walk_core.specs.declared.lists.PutRow.{PutRow}
use Rattle.walk_core.specs.Events.{unlinked_after_give}
use Rattle.walk_core.specs.Guards.{put_rows}
use Rattle.walk_core.specs.Lists.{times, Has}
use Rattle.walk_core.proofs.RowLists.{times-nil}
use Rattle.machine_plan.specs.declared.kit.Kit.{Kit}
use Rattle.machine_plan.specs.Books.{BookData, state_of, free_list, put_of}
use Rattle.machine_plan.specs.Follows.{machine, Follows, IsFixed}
use Rattle.machine_plan.specs.HeldRows.{Row}
use Rattle.machine_plan.proofs.Following.{same_follows}
use Rattle.machine_plan.proofs.Whole.{book_is_consistent}
use Rattle.cursor_apply.specs.Applying.{IsApplicable}
use Rattle.call_steps.specs.Ready.{View, KeepsRows}
use Rattle.call_steps.specs.Given.{MayEnter, IsSamePass, IsFull, HasGiven}
use Rattle.call_steps.proofs.Committing as committing
use Rattle.call_steps.proofs.Giving.{same_taken, taken_apart}
use Rattle.call_steps.proofs.Joined.{exact_given, left_given, all_given, layout_is, hand_same, granted_same}
use Rattle.call_steps.proofs.Law.{gives_give}
use Rattle.call_steps.proofs.Planned.{left_by_plan, exact_after_plan, space_after_plan}

-- two journals of one length plus one entry are not the same
no_entry : (es : List Entry) (e : Entry) → es ≡ es ++ e ∷ [] → ⊥
no_entry es e same = let l = ap length same in let long = length-append es (e ∷ []) in omega (arith, l, long)

module _ (k : Layout) (thread : ℕ) (c : Call) (v w : View) (m : BookData) (rows : List Row) (kit : Kit) (may : MayEnter k thread c v w m rows kit) where
  abbrev old : BookData
  old = may.old

  same_m : m ≡ record may.old { free = m.free; limbo = m.limbo }
  same_m = may.planned.swept.same

  journal_m : m.journal ≡ may.old.journal
  journal_m = ap (λ (x : BookData). x.journal) same_m

  fixed : IsFixed may.old m
  fixed = record {
    limits = ap (λ (x : BookData). x.limits) same_m;
    files = ap (λ (x : BookData). x.files) same_m;
    room = ap (λ (x : BookData). x.room) same_m;
    sum = may.planned.sum;
  }

  follows : Follows (region w) may.old m
  follows = same_follows (region w) may.old m (inl journal_m) (committing.state_m k thread c v w m rows kit may) (ap (λ (x : BookData). x.frames) same_m) (ap (λ (x : BookData). x.slots) same_m)
      (let e = ap (λ (x : BookData). x.next_generation) same_m in omega (arith, e)) fixed

  limbo_is : map put_of m.limbo ≡ map put_of m.limbo ++ []
  limbo_is = sym (append-nil (map put_of m.limbo))

  no_fresh : (q : ℕ) → Has (put_rows []) q → times q (put_rows (map put_of may.old.limbo)) ≡ 0
  no_fresh q has = let z = times-nil q in absurd (omega (arith, has, z))

  no_new : (entry : Entry) → m.journal ≡ may.old.journal ++ entry ∷ [] → ⊥
  no_new entry e = no_entry may.old.journal entry (sym journal_m ∙ e)

  may_give_m : MayGive machine k w may.old m
  may_give_m =
      gives_give k w may.old m m may.planned.swept (committing.once_old k thread c v w m rows kit may) [] limbo_is 0 refl no_fresh (committing.has_book k thread c v w m rows kit may) follows
      (λ entry e. absurd (no_new entry e)) (λ shown entry e x has. absurd (no_new entry e))
      (λ q. let z = times-nil q in omega (arith, z)) (λ q has. let z = times-nil q in absurd (omega (arith, has, z))) tt

  pub givable : IsGivable machine k w m
  givable = record { old = may.old; found = committing.found_is k thread c v w m rows kit may; may = may_give_m }

  kit_none : kit.rows.items ≡ []
  kit_none = may.planned.plans.filled.ungranted.rows

  taken_are : SameRows (taken_rows machine may.old m) (map (λ (x : ℕ × ℕ). x.0) kit.rows.items)
  taken_are q = same_taken k w may.old m m may.planned.swept (committing.once_old k thread c v w m rows kit may) [] limbo_is 0 refl no_fresh q ∙ ap (λ (l : List (ℕ × ℕ)). times q (map (λ (x : ℕ × ℕ). x.0) l)) (sym kit_none)

  apart : (q : ℕ) → Has w.core.held q → times q (taken_rows machine may.old m) ≡ 0
  apart q has =
      let same = ap (times q) (committing.keeps k thread c v w m rows kit may).held in
      taken_apart k w may.old m m may.planned.swept (committing.once_old k thread c v w m rows kit may) [] limbo_is 0 refl no_fresh q (may.learns.apart q (omega (arith, same, has)))

  module _ (e : View) (gives : Gives machine w m e) where
    old_is : gives.old ≡ may.old
    old_is = same_Some gives.old may.old (sym gives.found ∙ committing.found_is k thread c v w m rows kit may)

    after : e ≡ gave machine w may.old m gives.grants.generation
    after = gives.after ∙ ap (λ (x : BookData). gave machine w x m gives.grants.generation) old_is

    same_rows : KeepsRows w w
    same_rows = record { number = refl; layout = refl; rows = refl; held = refl; hand = refl; granted = refl; unlinked = refl }

    exact_w : Rattle.tree_lock.specs.Release.HoldsExactly rows w.core.held w.rows
    exact_w = exact_after_plan m thread c w may.rows rows may.kit kit kit may.planned.held may.planned.plans refl

    applicable : IsApplicable m m thread c e rows kit
    applicable = record {
      exact = exact_given w w e may.old m gives.grants.generation same_rows after rows exact_w;
      rows_left = left_given w w e may.old m gives.grants.generation same_rows after m m thread c kit kit rows refl apart exact_w (left_by_plan m thread c w may.rows rows may.kit kit kit may.planned.held may.planned.plans refl);
      given = all_given w w e may.old m gives.grants.generation same_rows after;
      not_book = ap (λ (u : View). u.core.has_book) after;
      consistent = book_is_consistent m may.planned.books.1;
      same_levels = ap (λ (x : Layout). x.levels) (layout_is w w e may.old m gives.grants.generation same_rows after) ∙ committing.levels_m k thread c v w m rows kit may;
      books = (may.planned.books.1, may.planned.books.1);
      one_space = space_after_plan m thread c w may.rows rows may.kit kit kit may.planned.held may.planned.plans refl may.covered.one_space;
      answered = kit;
      same_kit = refl;
      committed = inr (may.planned.plans.filled, refl);
      hand = hand_same w w e may.old m gives.grants.generation same_rows after (map (λ (x : ℕ × ℕ). x.0) kit.rows.items) (committing.hand_none k thread c v w m rows kit may) taken_are;
      granted = granted_same w w e may.old m gives.grants.generation same_rows after (map (λ (x : ℕ × ℕ). x.0) kit.rows.items) (committing.granted_none k thread c v w m rows kit may) taken_are;
      room = may.planned.plans.filled.room;
    }

    not_done : kit.done ≡ true → ⊥
    not_done done = true≢false (sym done ∙ may.planned.plans.filled.ungranted.not_done)

    same_pass : IsSamePass v e
    same_pass = record {
      number = ap (λ (u : View). u.number) after ∙ ap (λ (u : View). u.number) may.planned.samples.view;
      layout = ap (λ (u : View). u.layout) after ∙ ap (λ (u : View). u.layout) may.planned.samples.view;
      origin = ap (λ (u : View). u.origin) after ∙ ap (λ (u : View). u.origin) may.planned.samples.view;
      epoch = ap (λ (u : View). u.epoch) after ∙ ap (λ (u : View). u.epoch) may.planned.samples.view;
      stand = ap (λ (u : View). u.core.stand) after ∙ ap (λ (u : View). u.core.stand) may.planned.samples.view;
    }

    pub has_given : HasGiven k thread c v e rows kit
    has_given = record {
      a = m;
      b = m;
      g = m;
      applicable = applicable;
      linkable = λ done. absurd (not_done done);
      room = λ done. absurd (not_done done);
      made = refl;
      last = ap (λ (u : View). u.last) after;
      same = same_pass;
      unlinked = ap (λ (u : View). u.core.unlinked) after ∙ ap (unlinked_after_give (put_list machine may.old m)) (committing.unlinked_none k thread c v w m rows kit may);
    }

    seen_is : e.seen ≡ m.journal
    seen_is = ap (λ (u : View). u.seen) after

    number_w : w.number ≡ v.number
    number_w = committing.number_is k thread c v w m rows kit may ∙ sym may.number

    pub is_full : length m.journal ≡ m.room → IsFull v e
    is_full full = record {
      seen = (may.learns.seen.0, seen_is ∙ (journal_m ∙ may.learns.seen.1));
      mine = ap (λ (u : View). u.mine) after ∙ ((λ i. own_places machine (number_w i) (journal_m i)) ∙ sym may.learns.mine);
      full = λ first at. ap length seen_is ∙ (full ∙ (fixed.room ∙ (may.learns.fixed first at).room));
      legal = λ first at. let f = may.learns.fixed first at in subst (λ (l : List Entry). IsHistory first.limits first.files l) (sym seen_is)
          (subst (λ (x : Limits). IsHistory x first.files m.journal) (fixed.limits ∙ f.limits) (subst (λ (x : List (List ℕ)). IsHistory m.limits x m.journal) (fixed.files ∙ f.files) may.planned.books.1.legal));
    }
