-- The give after a commit, and what it leaves.
--     one_of      what is true of each element
--     swept_on, blocked_on      what a sweep left, and readers of rows, as another view with the same samples shows them
--     has_d, givable      the pass after the detach has the book, which it may give
--     has_given      what is left then
--     answered      the pass has seen its own entry
use Rattle.std.specs.Prelude.{◌≡◌, ℕ, ◌+◌, ◌<◌, ◌≤◌, Bool, true, false, List, [], ◌∷◌, ◌++◌, map, take, drop, length, slice_index, Option, Some, None, IsNone, is_some}
use Rattle.std.specs.List.{All, Contains}
use Rattle.std.proofs.Common.{sym, refl, ◌∙◌, ap, subst, arith, append-nil, inl, inr}
use Rattle.std.proofs.lemmas.Bool.{true≢false}
use Rattle.std.proofs.lemmas.List.{length-append, length-map}
use mathlib.Core.Logic.{dite}
use native.Mathlib.Decide.{ℕ_discrete}
use Rattle.std.proofs.lemmas.Option.{same_Some}
use Rattle.corten_base.specs.declared.calls.Call.{Call}
use Rattle.corten_base.specs.declared.calls.Entry.{Entry}
use Rattle.corten_base.specs.declared.calls.Reply.{Reply}
use Rattle.corten_base.specs.declared.numbers.Limits.{Limits}
use Rattle.book.specs.declared.commit.Answered.{Answered}
use Rattle.page_map.specs.Effect.{wanted_tables}
use Rattle.page_map.specs.History.{IsHistory}
use Rattle.page_map.specs.Step.{refusal}
use Rattle.page_map.proofs.Steps.{passed}
use Rattle.row_layout.specs.declared.places.Layout.{Layout}
use Rattle.row_layout.specs.declared.limbo.Sampled.{Sampled}
use Rattle.row_table.specs.Blocked.{IsBlocked}
use Rattle.row_table.specs.Books.{gave, taken_rows, put_list, MayGive, Gives, IsGivable}
use Rattle.row_table.specs.Rule.{SameRows, own_places}
use Rattle.row_table.proofs.Turns.{contained_map}
use Rattle.row_table.proofs.Views.{row_had}
use Rattle.tree_lock.specs.Held.{row_numbers}
use Rattle.tree_lock.specs.Release.{HoldsExactly}
use Rattle.walk_core.specs.declared.lists.PutRow.{PutRow}
use Rattle.walk_core.specs.declared.pass.UnlinkedRow.{UnlinkedRow}
use Rattle.walk_core.specs.Core.{sample_of}
use Rattle.walk_core.specs.Events.{newly_unlinked, unlinked_after_give}
use Rattle.walk_core.specs.Guards.{put_rows, IsOver}
use Rattle.walk_core.specs.Lists.{times, Has, IsDistinct}
use Rattle.walk_core.proofs.RowLists.{times-nil, times-append, in_head, in_map, has_contained}
use Rattle.walk_core.proofs.Stepped.{length-missing}
use Rattle.machine_plan.specs.declared.kit.Kit.{Kit}
use Rattle.machine_plan.specs.Books.{BookData, state_of, RowSum, free_list, free_rows_within, put_of}
use Rattle.machine_plan.specs.Cover.{HasLevelsOf}
use Rattle.machine_plan.specs.Follows.{machine, Follows}
use Rattle.machine_plan.specs.Given.{IsRemoved}
use Rattle.machine_plan.specs.HeldRows.{Row}
use Rattle.machine_plan.specs.Kits.{Commits}
use Rattle.machine_plan.specs.Limbo.{shows_limbo}
use Rattle.machine_plan.specs.Whole.{IsBook}
use Rattle.cursor_detach.specs.Detaching.{IsDetachable, Detached}
use Rattle.cursor_detach.proofs.Started.{row_with}
use Rattle.cursor_apply.specs.Applying.{IsApplicable}
use Rattle.cursor_apply.specs.Linking.{IsLinkable}
use Rattle.call_steps.specs.Ready.{View, KeepsRows}
use Rattle.call_steps.specs.Swept.{IsOnce, IsSweptTo}
use Rattle.call_steps.specs.Steps.{HasEntered}
use Rattle.call_steps.specs.Joints.{IsGiven}
use Rattle.call_steps.specs.Given.{MayEnter, IsSamePass, HasAnswered, HasGiven}
use Rattle.call_steps.proofs.Committing as committing
use Rattle.call_steps.proofs.Committing.{none_gone, MayBecome}
use Rattle.call_steps.proofs.Counting.{as_many_granted}
use Rattle.call_steps.proofs.Follow.{names_thread, journal_is}
use Rattle.call_steps.proofs.Giving.{same_taken, taken_apart}
use Rattle.call_steps.proofs.Joined.{hand_same, granted_same}
use Rattle.call_steps.proofs.Law.{gives_apply, gives_links, gives_give, gives_entry}
use Rattle.call_steps.proofs.Showing.{all_blocked, same_limbo}

-- a list without a member
empty_of : {X : Type 0} (xs : List X) → ((x : X) → Contains xs x → ⊥) → xs ≡ []
empty_of [] none = refl
empty_of (x ∷ xs) none = absurd (none x (in_head x xs))

pub one_of : {X : Type 0} (P : X → Type 0) (xs : List X) → All P xs → (x : X) → Contains xs x → P x
one_of P xs all x has = subst P has.2 (all has.0 x has.1)

-- the samples are those of w
pub swept_on : (k : Layout) (w d : View) (old m : BookData) → d.core.samples ≡ w.core.samples → IsSweptTo k w old m → IsSweptTo k d old m
swept_on k w d old m same s = record {
  same = s.same;
  keep = s.keep;
  limbo = s.limbo;
  free = s.free;
  unread = λ q has. let u = s.unread q has in record {
    kept = u.kept;
    in_limbo = u.in_limbo;
    is = u.is;
    over = λ x inside. subst (λ (l : List (Option _)). IsOver (sample_of l x) (slice_index u.kept.samples x)) (sym same) (u.over x inside);
  };
}

pub blocked_on : (n : ℕ) (w d : View) (x : PutRow) → d.core.samples ≡ w.core.samples → IsBlocked n w.core x → IsBlocked n d.core x
blocked_on n w d x same b = record {
  blocker = b.blocker;
  there = b.there;
  odd = b.odd;
  bounds = b.bounds;
  sampled = ap (λ l. sample_of l b.blocker) same ∙ b.sampled;
  same = b.same;
}

-- what the book may become, and the pass d that may give it
module _ (k : Layout) (thread : ℕ) (c : Call) (v w : View) (m : BookData) (rows : List Row) (kit : Kit) (may : MayEnter k thread c v w m rows kit) (b : BookData) (kit2 : Kit) (r : Reply) (commits : Commits m thread c kit r b kit2) (is_b : IsBook b)
    (d : View) (rows' : List Row) (kit3 : Kit) (detached : Detached m b thread c w d rows rows' kit2 kit3) where
  becomes : MayBecome k thread c v w m rows kit may b kit2 d
  becomes = committing.becomes k thread c v w m rows kit may b kit2 r commits is_b d detached.leaves

  samples_are : d.core.samples ≡ w.core.samples
  samples_are = ap (λ (u : View). u.core.samples) detached.view

  swept_d : IsSweptTo k d may.old m
  swept_d = swept_on k w d may.old m samples_are may.planned.swept

  limbo_is : map put_of b.limbo ≡ map put_of m.limbo ++ []
  limbo_is = same_limbo m b thread c kit kit2 r may.planned.books.1 (committing.sum_m k thread c v w m rows kit may) may.planned.plans.filled commits ∙ sym (append-nil (map put_of m.limbo))

  no_fresh : (q : ℕ) → Has (put_rows []) q → times q (put_rows (map put_of may.old.limbo)) ≡ 0
  no_fresh q has = let z = times-nil q in absurd (omega (arith, has, z))

  pub has_d : d.core.has_book ≡ true
  has_d = ap (λ (u : View). u.core.has_book) detached.view ∙ committing.has_book k thread c v w m rows kit may

  number_d : d.number ≡ thread
  number_d = ap (λ (u : View). u.number) detached.view ∙ committing.number_is k thread c v w m rows kit may

  found_d : d.found ≡ Some may.old
  found_d = ap (λ (u : View). u.found) detached.view ∙ committing.found_is k thread c v w m rows kit may

  journal_b : b.journal ≡ may.old.journal ++ record { thread = thread; call = c; reply = r } ∷ []
  journal_b = journal_is may.old m b b thread c kit kit2 r may.planned.swept.same commits refl

  all_readers : free_rows_within m < kit.rows_needed → (x : PutRow) → Contains (map put_of m.limbo) x → IsBlocked k.passes d.core x
  all_readers few x has =
      let o = contained_map put_of m.limbo x has in
      subst (λ (y : PutRow). IsBlocked k.passes d.core y) o.2 (blocked_on k.passes w d (put_of o.0) samples_are (one_of (λ (s : Sampled). IsBlocked k.passes w.core (put_of s)) m.limbo (may.planned.blocked few) o.0 o.1))

  may_give_b : MayGive machine k d may.old b
  may_give_b =
      let g = becomes in
      gives_give k d may.old m b swept_d (committing.once_old k thread c v w m rows kit may) [] limbo_is g.n g.free no_fresh has_d g.follows (names_thread may.old m b b thread c kit kit2 r may.planned.swept.same commits refl d number_d)
      (all_blocked m b thread c kit kit2 r may.planned.books.1 (committing.sum_m k thread c v w m rows kit may) may.planned.plans.filled commits may.old b k.passes d journal_b (limbo_is ∙ append-nil (map put_of m.limbo)) all_readers)
      (λ q. let z = times-nil q in omega (arith, z)) (λ q has. let z = times-nil q in absurd (omega (arith, has, z))) tt

  pub givable : IsGivable machine k d b
  givable = record { old = may.old; found = found_d; may = may_give_b }

  gone_none : kit3.gone.items ≡ []
  gone_none = empty_of kit3.gone.items (λ row has. let o = (detached.gone row).0 has in none_gone m b thread c kit kit2 r commits may.removes o.0.place o.3)

  unlinked_d : d.core.unlinked ≡ []
  unlinked_d = detached.unlinked ∙ (λ i. committing.unlinked_none k thread c v w m rows kit may i ++ map newly_unlinked (gone_none i))

  hand_d : d.hand ≡ []
  hand_d = ap (λ (u : View). u.hand) detached.view ∙ committing.hand_none k thread c v w m rows kit may

  granted_d : d.core.granted ≡ []
  granted_d = ap (λ (u : View). u.core.granted) detached.view ∙ committing.granted_none k thread c v w m rows kit may

  rows_kept : kit3.rows.items ≡ kit2.rows.items
  rows_kept = ap (λ (x : Kit). x.rows.items) detached.kit_is

  taken_are : SameRows (taken_rows machine may.old b) (map (λ (x : ℕ × ℕ). x.0) kit3.rows.items)
  taken_are q =
      let g = becomes in
      same_taken k d may.old m b swept_d (committing.once_old k thread c v w m rows kit may) [] limbo_is g.n g.free no_fresh q
      ∙ ap (times q) (sym g.rows_are ∙ ap (map (λ (x : ℕ × ℕ). x.0)) (sym rows_kept))

  -- the rows of d are rows of v
  held_before : (q : ℕ) → Has d.core.held q → Has v.core.held q
  held_before q has =
      let in_list = detached.exact.held q in
      let o = row_with rows' q (omega (arith, has, in_list)) in
      let f = detached.from o.0 o.1 in
      let ready = committing.may_detach_it k thread c v w m rows kit may b kit2 r commits in
      let at : Has (row_numbers rows) q = subst (λ (n : ℕ). Has (row_numbers rows) n) (f.2 ∙ o.2) (has_contained (row_numbers rows) f.0.row (in_map (λ (x : Row). x.row) rows f.0 f.1)) in
      let e = ready.exact.held q in
      let same = ap (times q) (committing.keeps k thread c v w m rows kit may).held in
      omega (arith, at, e, same)

  apart : (q : ℕ) → Has d.core.held q → times q (taken_rows machine may.old b) ≡ 0
  apart q has =
      let g = becomes in
      taken_apart k d may.old m b swept_d (committing.once_old k thread c v w m rows kit may) [] limbo_is g.n g.free no_fresh q (may.learns.apart q (held_before q has))

  -- ---- after the give
  module _ (e : View) (gives : Gives machine d b e) (once' : IsDistinct (row_numbers rows')) where
    old_is : gives.old ≡ may.old
    old_is = same_Some gives.old may.old (sym gives.found ∙ found_d)

    after : e ≡ gave machine d may.old b gives.grants.generation
    after = gives.after ∙ ap (λ (x : BookData). gave machine d x b gives.grants.generation) old_is

    same_rows : KeepsRows d d
    same_rows = record { number = refl; layout = refl; rows = refl; held = refl; hand = refl; granted = refl; unlinked = refl }

    ready : IsDetachable m b thread c w rows kit2
    ready = committing.may_detach_it k thread c v w m rows kit may b kit2 r commits

    levels_b : HasLevelsOf b w
    levels_b = committing.levels_m k thread c v w m rows kit may ∙ ap (λ (l : Limits). l.levels) (sym commits.limits.0)

    given : IsGiven m b thread c w d d e rows rows' kit2 kit3 may.old b gives.grants.generation
    given = record { ready = ready; detached = detached; keeps = same_rows; after = after; apart = apart }

    pub applicable : IsApplicable m b thread c e rows' kit3
    applicable = gives_apply m b thread c w d d e rows rows' kit2 kit3 may.old b gives.grants.generation may.planned.books.1 is_b levels_b given
        (hand_same d d e may.old b gives.grants.generation same_rows after (map (λ (x : ℕ × ℕ). x.0) kit3.rows.items) hand_d taken_are)
        (granted_same d d e may.old b gives.grants.generation same_rows after (map (λ (x : ℕ × ℕ). x.0) kit3.rows.items) granted_d taken_are)

    pub unlinked_e : e.core.unlinked ≡ []
    unlinked_e = ap (λ (u : View). u.core.unlinked) after ∙ ap (unlinked_after_give (put_list machine may.old b)) unlinked_d

    -- a call that is done was not refused
    not_refused : kit3.done ≡ true → refusal (state_of m) thread c (length m.limbo) ≡ None
    not_refused done = go (refusal (state_of m) thread c (length m.limbo)) refl
      where
        go : (o : Option Reply) → refusal (state_of m) thread c (length m.limbo) ≡ o → o ≡ None
        go None x = refl
        go (Some why) x = absurd (true≢false (sym done ∙ (ap (λ (y : Kit). y.done) detached.kit_is ∙ (ap (λ (y : Kit). y.done) (commits.refused (ap is_some x)).same_kit ∙ may.planned.plans.filled.ungranted.not_done))))

    once_rows : IsDistinct (row_numbers rows)
    once_rows q = let x = ready.exact.held q in let o = may.learns.right.once q in let same = ap (times q) (committing.keeps k thread c v w m rows kit may).held in omega (arith, x, o, same)

    same_layout : w.layout ≡ k
    same_layout = (committing.keeps k thread c v w m rows kit may).layout ∙ may.layout

    in_table : (q : ℕ) → Has (taken_rows machine may.old b) q → q < k.rows
    in_table q has =
        let t = gives.grants.there q (subst (λ (x : BookData). Has (taken_rows machine x b) q) (sym old_is) has) in
        let l = ap (λ (x : Layout). x.rows) (ap (λ (u : View). u.layout) detached.view ∙ same_layout) in
        omega (arith, t, l)

    pub linkable : kit3.done ≡ true → IsLinkable m b thread c e rows' kit3
    linkable done =
        let none = not_refused done in
        gives_links m b thread c w d d e rows rows' kit2 kit3 may.old b gives.grants.generation given none
        (committing.shows k thread c v w m rows kit may (ap is_some (passed (state_of m) thread c (length m.limbo) none).arguments))
        once_rows once' k.rows hand_d granted_d unlinked_e may.table_rows taken_are
        (λ q has. let low = gives.grants.low q (subst (λ (x : BookData). Has (taken_rows machine x b) q) (sym old_is) has) in let same = ap (λ (x : BookData). x.next_generation) old_is in omega (arith, low, same))
        in_table (ap (λ (x : BookData). x.next_generation) (sym may.planned.swept.same)) refl
        (ap length rows_kept ∙ as_many_granted m b thread c kit kit2 r may.planned.books.1 (committing.sum_m k thread c v w m rows kit may) may.planned.plans.filled commits none)

    -- ---- the rows of the list and the granted ones are rows of the table, each once

    abbrev numbers : List ℕ
    numbers = map (λ (x : ℕ × ℕ). x.0) kit3.rows.items

    held_e : (q : ℕ) → times q (row_numbers rows') ≡ times q d.core.held
    held_e q = detached.exact.held q

    at_most_once : (q : ℕ) → times q (row_numbers rows' ++ numbers) ≤ 1
    at_most_once q =
        let both = times-append q (row_numbers rows') numbers in
        let o = once' q in
        let t = taken_are q in
        let s = held_e q in
        let once_taken : times q (taken_rows machine may.old b) ≤ 1 = may_give_b.guard.taken_once q in
        dite (ℕ_discrete (times q d.core.held) 0) (λ z. omega (arith, both, t, s, z, once_taken)) (λ nz. let a = apart q (omega (arith, nz)) in omega (arith, both, o, t, a))

    held_below : kit3.done ≡ true → (q : ℕ) → Has d.core.held q → q < k.rows
    held_below done q has =
        let none = not_refused done in
        let shows = committing.shows k thread c v w m rows kit may (ap is_some (passed (state_of m) thread c (length m.limbo) none).arguments) in
        let same = ap (times q) (committing.keeps k thread c v w m rows kit may).held in
        let in_w : Has w.core.held q = (let h = held_before q has in omega (arith, same, h)) in
        let at = row_had w.rows q (subst (λ (l : List ℕ). Has l q) (sym ready.exact.shown) in_w) in
        let low = (shows.covers.each at.0 at.1).there in
        let l = ap (λ (x : Layout). x.rows) same_layout in
        omega (arith, low, at.2, l)

    pub fit_in_table : kit3.done ≡ true → length rows' + length kit3.rows.items ≤ k.rows
    fit_in_table done =
        let few = length-missing (row_numbers rows' ++ numbers) (k.rows + 1) k.rows at_most_once (λ q high. none_from q (omega (arith, high))) (omega arith) (none_from k.rows (omega arith)) in
        let both = length-append (row_numbers rows') numbers in
        let first = length-map rows' (λ (x : Row). x.row) in
        let second = length-map kit3.rows.items (λ (x : ℕ × ℕ). x.0) in
        omega (arith, few, both, first, second)
      where
        none_from : (q : ℕ) → k.rows ≤ q → times q (row_numbers rows' ++ numbers) ≡ 0
        none_from q high =
            let both = times-append q (row_numbers rows') numbers in
            let t = taken_are q in
            let s = held_e q in
            let none_held : times q d.core.held ≡ 0 = dite (ℕ_discrete (times q d.core.held) 0) (λ z. z) (λ nz. let low = held_below done q (omega (arith, nz)) in absurd (omega (arith, low, high))) in
            let none_taken : times q (taken_rows machine may.old b) ≡ 0 = dite (ℕ_discrete (times q (taken_rows machine may.old b)) 0) (λ z. z) (λ nz. let low = in_table q (omega (arith, nz)) in absurd (omega (arith, low, high))) in
            omega (arith, both, t, s, none_held, none_taken)

    same_pass : IsSamePass v e
    same_pass = record {
      number = ap (λ (u : View). u.number) after ∙ (ap (λ (u : View). u.number) detached.view ∙ ap (λ (u : View). u.number) may.planned.samples.view);
      layout = ap (λ (u : View). u.layout) after ∙ (ap (λ (u : View). u.layout) detached.view ∙ ap (λ (u : View). u.layout) may.planned.samples.view);
      origin = ap (λ (u : View). u.origin) after ∙ (ap (λ (u : View). u.origin) detached.view ∙ ap (λ (u : View). u.origin) may.planned.samples.view);
      epoch = ap (λ (u : View). u.epoch) after ∙ (ap (λ (u : View). u.epoch) detached.view ∙ ap (λ (u : View). u.epoch) may.planned.samples.view);
      stand = ap (λ (u : View). u.core.stand) after ∙ (ap (λ (u : View). u.core.stand) detached.view ∙ ap (λ (u : View). u.core.stand) may.planned.samples.view);
    }

    pub has_given : HasGiven k thread c v e rows' kit3
    has_given = record {
      a = m;
      b = b;
      g = b;
      applicable = applicable;
      linkable = linkable;
      room = fit_in_table;
      made = refl;
      last = ap (λ (u : View). u.last) after;
      same = same_pass;
      unlinked = unlinked_e;
    }

    seen_is : e.seen ≡ b.journal
    seen_is = ap (λ (u : View). u.seen) after

    pub entered : HasEntered v e (record { thread = thread; call = c; reply = r })
    entered = gives_entry v d e k.rows may.old b gives.grants.generation (record { thread = thread; call = c; reply = r }) may.learns (number_d ∙ sym may.number) after journal_b (sym may.number)

    at_place : length may.old.journal ≡ length (v.seen ++ entered.others)
    at_place =
        let own : Entry = record { thread = thread; call = c; reply = r } in
        let same : length ((v.seen ++ entered.others) ++ own ∷ []) ≡ length (may.old.journal ++ own ∷ []) = ap length (sym entered.seen ∙ (seen_is ∙ journal_b)) in
        let first = length-append (v.seen ++ entered.others) (own ∷ []) in
        let second = length-append may.old.journal (own ∷ []) in
        omega (arith, same, first, second)

    fixed : (first : BookData) → v.origin ≡ Some first → (b.limits ≡ first.limits) × (b.files ≡ first.files) × (m.room ≡ first.room)
    fixed first at =
        let f = may.learns.fixed first at in (
          commits.limits.0 ∙ (ap (λ (x : BookData). x.limits) may.planned.swept.same ∙ f.limits),
          commits.limits.1 ∙ (ap (λ (x : BookData). x.files) may.planned.swept.same ∙ f.files),
          ap (λ (x : BookData). x.room) may.planned.swept.same ∙ f.room,
        )

    -- a ticket that was drawn for this reply
    pub answered : (a : Answered) → r ≡ a.reply → a.ticket ≡ length m.journal → (length m.journal ≡ m.room → ⊥) → HasAnswered thread c v e a
    answered a reply ticket not_full = record {
      entered = record { others = entered.others; seen = entered.seen ∙ (λ i. (v.seen ++ entered.others) ++ record { thread = thread; call = c; reply = reply i } ∷ []); mine = entered.mine };
      ticket = ticket ∙ (ap (λ (x : BookData). length x.journal) may.planned.swept.same ∙ at_place);
      place = λ first at. let f = (fixed first at).2 in let fits = may.planned.books.1.fits in dite (ℕ_discrete (length m.journal) m.room) (λ z. absurd (not_full z)) (λ nz. omega (arith, f, fits, ticket, nz));
      legal = λ first at. let f = fixed first at in subst (λ (l : List Entry). IsHistory first.limits first.files l) (sym seen_is) (subst (λ (x : Limits). IsHistory x first.files b.journal) f.0 (subst (λ (x : List (List ℕ)). IsHistory b.limits x b.journal) f.1 is_b.legal));
    }
