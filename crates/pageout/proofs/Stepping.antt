-- What is kept of a history, after one answered call more.
use Rattle.std.proofs.Common.{◌≡◌, ℕ, ◌+◌, ◌<◌, ◌≤◌, Bool, true, false, cond, not, List, [], ◌∷◌, ◌++◌, length, length-append, take, drop, get_or, refl, sym, ap, subst, ◌∙◌}
use Rattle.std.proofs.lemmas.List.{take-append-drop, take_more, drop_more}
use Rattle.std.specs.Prelude.{Option, Some, None, ◌&&◌, nat_eq}
use Rattle.std.specs.Option.{unwrap_or, option_and_then}
use Rattle.std.specs.Ordering.{nat_cmp}
use Rattle.std.specs.Cmp.{nat_cmp_total, unsigned_tied}
use Rattle.std.specs.FinMap as map
use Rattle.std.specs.FinMap.{get-insert, get-empty}
use Rattle.corten_base.specs.declared.calls.Call.{Call}
use Rattle.corten_base.specs.declared.calls.Entry.{Entry}
use Rattle.corten_base.specs.declared.calls.Reply.{Reply}
use Rattle.corten_base.specs.declared.numbers.Limits.{Limits}
use Rattle.page_map.specs.Cell.{AddressSpace, frame_of}
use Rattle.page_map.specs.State.{State, IsConsistent, IsWithinLimits, linked, start}
use Rattle.page_map.specs.Memory.{is_refusal}
use Rattle.page_map.specs.Step.{step}
use Rattle.page_map.specs.History.{IsLegal, IsHistory, after, entry_step, limbo_of}
use Rattle.page_map.proofs.Histories.{legal_join, legal_rest}
use Rattle.page_map.proofs.Start.{start_is_consistent}
use Rattle.page_map.proofs.StepKeeps.{step_keeps}
use Rattle.mm_model.specs.Pages.{frame_at, frame_in}
use Rattle.mm_model.specs.Served.{IsServed}
use Rattle.pageout.specs.declared.ages.Ages.{Ages}
use Rattle.pageout.specs.declared.marks.Key.{Key}
use Rattle.pageout.specs.declared.work.Work.{Work}
use Rattle.pageout.specs.Touches.{is_reached}
use Rattle.pageout.specs.Index.{key_of, mark_at}
use Rattle.pageout.specs.Work.{in_work, refreshed, settled, no_work, work_of}
use Rattle.pageout.specs.Ages.{AreAgesOf, IsMark, IsRight, IsSame, answered, mark_of}
use Rattle.pageout.proofs.LastTouches.{after_more, kept_mark, next_mark}
use Rattle.pageout.proofs.Works.{no_pages, access_is, work_place, others_stay}

-- no page has a frame at the start
start_unmapped : (limits : Limits) (files : List (List ℕ)) (s p : ℕ) → frame_at (start limits files) s p ≡ None
unfolding start
start_unmapped limits files s p =
    ap (λ (o : Option AddressSpace). frame_in (unwrap_or o map.empty) p)
    (get-insert nat_cmp_total map.empty 0 map.empty s ∙ (λ i. cond (unsigned_tied s 0 i) (Some map.empty) (get-empty nat_cmp s i)))
    ∙ either (nat_eq s 0)
  where
    none : frame_in map.empty p ≡ None
    none = ap (option_and_then frame_of) (get-empty nat_cmp p)

    either : (b : Bool) → frame_in (unwrap_or (cond b (Some map.empty) None) map.empty) p ≡ None
    either true = none
    either false = none

-- with no work left the marks are those of the index
pub settled_marks : (ages : Ages) (place : ℕ) → ages.work ≡ no_work place → (s p : ℕ) → mark_of ages s p ≡ mark_at ages.index.marks (key_of s p)
settled_marks ages place done s p =
    ap (λ w. settled ages.index.marks w ages.plain s p) done
    ∙ ap (λ b. cond b (refreshed place false (mark_at ages.index.marks (key_of s p)) (frame_at ages.plain s p)) (mark_at ages.index.marks (key_of s p))) (no_pages place s p)

module _ (limits : Limits) (files : List (List ℕ)) where
  pub start_ages : (ages : Ages) → IsWithinLimits limits → ages.plain ≡ start limits files → ages.place ≡ 0 → ages.work ≡ no_work 0 → ((q : Key) → mark_at ages.index.marks q ≡ None) → AreAgesOf limits files [] ages
  start_ages ages fit begins first done none = record {
    legal = tt;
    state = begins;
    place = first;
    facts = subst IsConsistent (sym begins) (start_is_consistent limits files fit.some_levels fit.few_levels fit.some_table);
    marks = λ s p. subst (IsMark (start limits files) [] s p) (sym (settled_marks ages 0 done s p ∙ none (key_of s p))) (start_unmapped limits files s p);
  }

  pub same_ages : (es : List Entry) (old new : Ages) → IsSame old new → AreAgesOf limits files es old → AreAgesOf limits files es new
  same_ages es old new same was = record {
    legal = was.legal;
    state = same.plain ∙ was.state;
    place = same.place ∙ was.place;
    facts = subst IsConsistent (sym same.plain) was.facts;
    marks = λ s p. subst (IsMark (start limits files) es s p) (sym (same.marks s p)) (was.marks s p);
  }

  module _ (es : List Entry) (ages next : Ages) (thread limbo place : ℕ) (c : Call) (r : Reply) (was : AreAgesOf limits files es ages) (done : ages.work ≡ no_work place) (few : thread < 8) (served : IsServed c)
      (room : linked ages.plain + limbo ≤ ages.plain.limits.tables) (shown : limbo ≡ limbo_of r) (goes : (r, next.plain) ≡ step ages.plain thread c limbo)
      (same : next.index.marks ≡ ages.index.marks) (work_is : next.work ≡ work_of c r ages.place) (counted : next.place ≡ ages.place + 1) where
    abbrev st : State
    st = start limits files

    abbrev e : Entry
    e = answered thread c r

    -- the step from the state that the history leaves
    stepped : step ages.plain thread c limbo ≡ entry_step (after st es) e
    stepped = (λ i. step (was.state i) thread c (shown i))

    next_state : next.plain ≡ (entry_step (after st es) e).1
    next_state = ap (λ (x : Reply × State). x.1) (goes ∙ stepped)

    legal_next : IsLegal (after st es) (e ∷ [])
    legal_next = (
      subst (λ s. linked s + limbo_of r ≤ s.limits.tables) was.state (subst (λ n. linked ages.plain + n ≤ ages.plain.limits.tables) shown room),
      ap (λ (x : Reply × State). x.0) (goes ∙ stepped),
      tt,
    )

    index_mark : (s p : ℕ) → mark_at next.index.marks (key_of s p) ≡ mark_of ages s p
    index_mark s p = ap (λ m. mark_at m (key_of s p)) same ∙ sym (settled_marks ages place done s p)

    reached : (s p : ℕ) (b : Bool) → in_work next.work s p ≡ b → (not (is_refusal r) && is_reached c s p) ≡ (b && next.work.is_access)
    reached s p b h = access_is c r ages.place s p served ∙ sym (λ i. in_work (work_is i) s p && (work_is i).is_access) ∙ ap (λ a. a && next.work.is_access) h

    now_is : (s p : ℕ) → frame_at (entry_step (after st es) e).1 s p ≡ frame_at next.plain s p
    now_is s p = ap (λ x. frame_at x s p) (sym next_state)

    place_is : next.work.place ≡ length es
    place_is = ap (λ (w : Work). w.place) work_is ∙ work_place c r ages.place ∙ was.place

    stays : (s p : ℕ) → in_work next.work s p ≡ false → frame_at (entry_step (after st es) e).1 s p ≡ frame_at (after st es) s p
    stays s p out =
        let told = ap (λ (x : Reply × State). x.0) goes in
        let after_step = ap (λ (x : Reply × State). x.1) goes in
        now_is s p ∙ ap (λ x. frame_at x s p) after_step
        ∙ others_stay ages.plain thread limbo ages.place c few served was.facts s p (ap (λ x. in_work (work_of c x ages.place) s p) (sym told) ∙ ap (λ w. in_work w s p) (sym work_is) ∙ out)
        ∙ ap (λ x. frame_at x s p) was.state

    marked : (s p : ℕ) (b : Bool) → in_work next.work s p ≡ b → IsMark st (es ++ e ∷ []) s p
        (cond b (refreshed next.work.place next.work.is_access (mark_at next.index.marks (key_of s p)) (frame_at next.plain s p)) (mark_at next.index.marks (key_of s p)))
    marked s p true h =
        subst (λ n. IsMark st (es ++ e ∷ []) s p (refreshed n next.work.is_access (mark_at next.index.marks (key_of s p)) (frame_at next.plain s p))) (sym place_is)
        (next_mark st es e s p next.work.is_access (mark_at next.index.marks (key_of s p)) (frame_at next.plain s p) (reached s p true h) (now_is s p)
        (subst (IsMark st es s p) (sym (index_mark s p)) (was.marks s p)))
    marked s p false h = kept_mark st es e s p (mark_at next.index.marks (key_of s p)) (reached s p false h) (stays s p h) (subst (IsMark st es s p) (sym (index_mark s p)) (was.marks s p))

    pub next_ages : AreAgesOf limits files (es ++ e ∷ []) next
    next_ages = record {
      legal = legal_join st es (e ∷ []) was.legal legal_next;
      state = next_state ∙ sym (after_more st es e 0 0);
      place = counted ∙ ap (λ n. n + 1) was.place ∙ sym (length-append es (e ∷ []));
      facts = subst IsConsistent (sym (ap (λ (x : Reply × State). x.1) goes)) (step_keeps ages.plain thread limbo c few was.facts);
      marks = λ s p. marked s p (in_work next.work s p) refl;
    }

-- ---- a whole history

pub entry_right : (limits : Limits) (files : List (List ℕ)) (es : List Entry) (i : ℕ) (x : Entry) (ages : Ages) → IsHistory limits files es → i < length es → x ≡ get_or es i x → AreAgesOf limits files (take i es) ages → IsRight ages x
entry_right limits files es i x ages legal inside is are =
    let whole : IsLegal (start limits files) (take i es ++ drop i es) = subst (IsLegal (start limits files)) (sym (take-append-drop i es)) legal in
    let next : drop i es ≡ x ∷ drop (i + 1) es = drop_more es i x inside ∙ ap (λ y. y ∷ drop (i + 1) es) (sym is) in
    let rest : IsLegal (after (start limits files) (take i es)) (x ∷ drop (i + 1) es) = subst (IsLegal (after (start limits files) (take i es))) next (legal_rest (start limits files) (take i es) (drop i es) whole) in
    record {
      room = subst (λ s. linked s + limbo_of x.reply ≤ s.limits.tables) (sym are.state) rest.0;
      reply = rest.1 ∙ ap (λ s. (entry_step s x).0) (sym are.state);
    }

pub one_entry_more : (es : List Entry) (i : ℕ) (x : Entry) → i < length es → x ≡ get_or es i x → take i es ++ x ∷ [] ≡ take (i + 1) es
one_entry_more es i x inside is = ap (λ y. take i es ++ y ∷ []) is ∙ sym (take_more es i x inside)
