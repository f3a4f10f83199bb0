-- What the commit of an access does before its end: frames are taken and filled, and bytes may be stored in them.
use Rattle.std.proofs.Common.{◌≡◌, ℕ, ◌+◌, ◌≤◌, Bool, true, false, cond, not, List, [], ◌∷◌, length, refl, sym, ap, subst, ◌∙◌, arith}
use Rattle.std.specs.Prelude.{Some, None, is_some, nat_eq, map}
use Rattle.std.specs.List.{AllByRecursion, filter, range_with_len, zip}
use Rattle.std.specs.Ordering.{nat_cmp, is_eq}
use Rattle.std.specs.FinMap.{find}
use Rattle.std.specs.Vec.{vec_capacity}
use Rattle.std.proofs.lemmas.List.{append-nil}
use Rattle.std.proofs.lemmas.List.Sums.{sum_by-cons}
use Rattle.corten_base.specs.declared.calls.Call.{Call}
use Rattle.corten_base.specs.declared.calls.Entry.{Entry}
use Rattle.corten_base.specs.declared.numbers.Limits.{Limits}
use Rattle.counted_pages.specs.Pages.{PageCounts, CountedPage, HasSpare}
use Rattle.shares.specs.Counts.{count_of}
use Rattle.page_map.specs.declared.cell.Cell.{Cell}
use Rattle.page_map.specs.Access.{Access}
use Rattle.page_map.specs.Cell.{frame_of, slot_of, contents, written}
use Rattle.page_map.specs.Effect.{frame_grants, slot_grants, wanting_frames_of}
use Rattle.page_map.specs.History.{after, entry_step, limbo_of}
use Rattle.page_map.specs.State.{State, start, unused_frames}
use Rattle.page_map.specs.Step.{refusal}
use Rattle.page_map.specs.Takes.{Grant, granted}
use Rattle.page_map.proofs.OwnCalls.{files_stay}
use Rattle.page_map.proofs.Steps.{passed, Passed}
use Rattle.machine_plan.specs.declared.kit.Kit.{Kit}
use Rattle.machine_plan.specs.declared.kit.Want.{Want}
use Rattle.machine_plan.specs.Books.{BookData, state_of, RowSum}
use Rattle.machine_plan.specs.Kits.{HasRoom, Refs, AreBacked, IsFilled, IsPlanned, IsUsed, KeepsOthers}
use Rattle.machine_plan.specs.Uses.{Ref, refs_of, shown_ref, shown_refs}
use Rattle.machine_plan.specs.Whole.{IsBook}
use Rattle.book.specs.Balance.{times, InBalance}
use Rattle.book.specs.Filling.{bytes_of, file_sources, has_page}
use Rattle.book.specs.Granting.{unused_in, numbered, AreUsed}
use Rattle.book.specs.Settling.{Settles}
use Rattle.book.specs.Taking.{takes_frame, wanting}
use Rattle.book.specs.Touching.{MayFill, Fills}
use Rattle.book.proofs.AccessCalls.{IsAccessCall, touched_in, used_is, list_sorted, wants_are, pages_enough, kept_are, new_are, kept_slots, new_slots}
use Rattle.book.proofs.Counted.{state_limits}
use Rattle.book.proofs.Ending.{planned, held_frames, held_slots}
use Rattle.book.proofs.FilledBytes.{bytes_in_turn, filled_shown, bytes_found}
use Rattle.book.proofs.Leaving.{unused_times}
use Rattle.book.proofs.Refusing.{frame_pages}
use Rattle.book.proofs.References.{with_bytes}
use Rattle.book.proofs.Wants.{used_wants}

-- the files of a book are those of its state
after_files : (st : State) (es : List Entry) → (after st es).files ≡ st.files
after_files st [] = refl
after_files st (e ∷ es) = after_files (entry_step st e).1 es ∙ files_stay st e.thread (limbo_of e.reply) e.call

pub state_files : (b : BookData) → (state_of b).files ≡ b.files
unfolding state_of start
state_files b = after_files (start b.limits b.files) b.journal

-- Lists of references

times_first : (n : ℕ) (r : Ref) (refs : List Ref) → times n (r ∷ refs) ≡ cond (nat_eq r.1.0 n) 1 0 + times n refs
times_first n r refs = sum_by-cons (λ (x : Ref). cond (nat_eq x.1.0 n) 1 0) r refs

times_bytes : (n : ℕ) (bytes : ℕ → List ℕ → List ℕ) (refs : List Ref) → times n (map (with_bytes bytes) refs) ≡ times n refs
times_bytes n bytes [] = refl
times_bytes n bytes (r ∷ refs) = omega (arith, times_first n (with_bytes bytes r) (map (with_bytes bytes) refs), times_first n r refs, times_bytes n bytes refs)

times_numbered : (n : ℕ) (bytes : ℕ × ℕ → List ℕ) (refs : Refs) → times n (map (λ (g : ℕ × ℕ). (g.0, (g.1, bytes g))) (map numbered refs)) ≡ times n (shown_refs refs)
times_numbered n bytes [] = refl
times_numbered n bytes (r ∷ refs) =
    omega (arith, times_first n (r.0, (r.1.number, bytes (numbered r))) (map (λ (g : ℕ × ℕ). (g.0, (g.1, bytes g))) (map numbered refs)), times_first n (shown_ref r) (shown_refs refs), times_numbered n bytes refs)

times_fewer : (n : ℕ) (p : ℕ × CountedPage → Bool) (refs : Refs) → times n (shown_refs (filter p refs)) ≤ times n (shown_refs refs)
times_fewer n p [] = omega arith
times_fewer n p (r ∷ refs) = go (p r) (times_fewer n p refs)
  where
    go : (b : Bool) → times n (shown_refs (filter p refs)) ≤ times n (shown_refs refs) → times n (shown_refs (cond b (r ∷ filter p refs) (filter p refs))) ≤ times n (shown_refs (r ∷ refs))
    go true h = omega (arith, h, times_first n (shown_ref r) (shown_refs (filter p refs)), times_first n (shown_ref r) (shown_refs refs))
    go false h = omega (arith, h, times_first n (shown_ref r) (shown_refs refs))

shown_picked : (q : ℕ → Bool) (refs : Refs) → shown_refs (filter (λ r. q r.0) refs) ≡ filter (λ (r : Ref). q r.0) (shown_refs refs)
shown_picked q [] = refl
shown_picked q (r ∷ refs) = go (q r.0) (shown_picked q refs)
  where
    go : (b : Bool) → shown_refs (filter (λ r. q r.0) refs) ≡ filter (λ (r : Ref). q r.0) (shown_refs refs) →
        shown_refs (cond b (r ∷ filter (λ r. q r.0) refs) (filter (λ r. q r.0) refs)) ≡ cond b (shown_ref r ∷ filter (λ (r : Ref). q r.0) (shown_refs refs)) (filter (λ (r : Ref). q r.0) (shown_refs refs))
    go true h = ap (λ (rs : List Ref). shown_ref r ∷ rs) h
    go false h = h

abbrev shown_with : (ℕ → List ℕ) → ℕ × ℕ → Ref
shown_with bytes g = (g.0, (g.1, bytes g.0))

page_shown : (refs : Refs) (gs : List (ℕ × ℕ)) (bytes : ℕ → List ℕ) → shown_refs refs ≡ map (shown_with bytes) gs → (p : ℕ) → has_page refs p ≡ is_some (granted gs p)
page_shown refs gs bytes is p = of_shown refs ∙ ap (λ (rs : List Ref). is_some (find nat_cmp p rs)) is ∙ of_grants gs
  where
    of_shown : (refs : Refs) → is_some (find nat_cmp p refs) ≡ is_some (find nat_cmp p (shown_refs refs))
    of_shown [] = refl
    of_shown (r ∷ refs) = go (is_eq (nat_cmp p r.0)) (of_shown refs)
      where
        go : (b : Bool) → is_some (find nat_cmp p refs) ≡ is_some (find nat_cmp p (shown_refs refs)) → is_some (cond b (Some r.1) (find nat_cmp p refs)) ≡ is_some (cond b (Some (shown_ref r).1) (find nat_cmp p (shown_refs refs)))
        go true h = refl
        go false h = h

    of_grants : (gs : List (ℕ × ℕ)) → is_some (find nat_cmp p (map (shown_with bytes) gs)) ≡ is_some (find nat_cmp p gs)
    of_grants [] = refl
    of_grants (g ∷ gs) = go (is_eq (nat_cmp p g.0)) (of_grants gs)
      where
        go : (b : Bool) → is_some (find nat_cmp p (map (shown_with bytes) gs)) ≡ is_some (find nat_cmp p gs) →
            is_some (cond b (Some (shown_with bytes g).1) (find nat_cmp p (map (shown_with bytes) gs))) ≡ is_some (cond b (Some g.1) (find nat_cmp p gs))
        go true h = refl
        go false h = h

filter_same : (q p : ℕ → Bool) (refs : Refs) → ((k : ℕ) → q k ≡ p k) → filter (λ r. q r.0) refs ≡ filter (λ r. p r.0) refs
filter_same q p [] same = refl
filter_same q p (r ∷ refs) same = λ i. cond (same r.0 i) (r ∷ filter_same q p refs same i) (filter_same q p refs same i)

bytes_twice : (w : ℕ → List ℕ → List ℕ) (bytes : ℕ → List ℕ) (gs : List (ℕ × ℕ)) → map (with_bytes w) (map (λ (g : ℕ × ℕ). (g.0, (g.1, bytes g.0))) gs) ≡ map (λ (g : ℕ × ℕ). (g.0, (g.1, w g.0 (bytes g.0)))) gs
bytes_twice w bytes [] = refl
bytes_twice w bytes (g ∷ gs) = ap (λ (rs : List Ref). (g.0, (g.1, w g.0 (bytes g.0))) ∷ rs) (bytes_twice w bytes gs)

module _ (a : BookData) (thread : ℕ) (c : Call) (kit : Kit) (is : IsBook a) (sum : RowSum a) (filled : IsFilled a thread c kit) (none : refusal (state_of a) thread c (length a.limbo) ≡ None) (space : ℕ) (acc : Access) (x : IsAccessCall (state_of a) thread c space acc) where
  abbrev st : State
  st = state_of a

  plan : IsPlanned a thread c kit
  plan = planned a thread c kit is sum filled none

  pub pass : Passed st thread c (length a.limbo)
  pass = passed st thread c (length a.limbo) none

  abbrev grants : Grant
  grants = frame_grants st c

  unused_are : unused_in a.frames.counts ≡ unused_frames st
  unused_are = λ i. filter (λ n. nat_eq (is.counts.frames n i) 0) (range_with_len 0 ((is.frames ∙ sym (ap (λ (l : Limits). l.frames) (state_limits a))) i))

  wanting_are : wanting (takes_frame a.frames.counts) kit.wants.items ≡ wanting_frames_of st c
  wanting_are = ap (wanting (takes_frame a.frames.counts)) plan.wants ∙ frame_pages a is c

  frames_ready : AreBacked a.frames kit.own_frames.items × (kit.second_frames.items ≡ [])
  frames_ready = x.ready a.frames kit.own_frames.items kit.second_frames.items plan.frames_ready

  slots_ready : AreBacked a.slots kit.own_slots.items × (kit.second_slots.items ≡ [])
  slots_ready = x.ready a.slots kit.own_slots.items kit.second_slots.items plan.slots_ready

  pub may_fill_at : MayFill a.frames a.slots kit
  may_fill_at = record {
    used = subst (λ (ws : List (ℕ × Want)). AreUsed a.frames.counts ws) (sym plan.wants) (used_wants a is c);
    enough = omega (arith, pages_enough st thread c space acc x pass.frames, ap length wanting_are, ap length unused_are);
    none = filled.ungranted.frames;
    room = omega (arith, filled.few.wants, filled.room.frames);
    gives = record {
      held_frames = held_frames a thread c kit is sum filled none;
      held_slots = held_slots a thread c kit is sum filled none;
      backed_frames = frames_ready.0;
      backed_slots = slots_ready.0;
    };
  }

  abbrev touched_list : List (ℕ × Cell)
  touched_list = touched_in (Rattle.page_map.specs.State.space_at st space) acc

  pub own_are : shown_refs kit.own_frames.items ≡ refs_of frame_of touched_list
  own_are = plan.frames ∙ ap (refs_of frame_of) (used_is st thread c space acc x)

  slots_are : shown_refs kit.own_slots.items ≡ refs_of slot_of touched_list
  slots_are = plan.slots ∙ ap (refs_of slot_of) (used_is st thread c space acc x)

  abbrev pub bytes : ℕ → List ℕ
  bytes = bytes_in_turn (file_sources a.files kit.wants.items) (bytes_of kit.own_frames.items) (bytes_of kit.own_slots.items)

  pub bytes_are : AllByRecursion (λ (e : ℕ × Cell). contents st.files e.1 ≡ bytes e.0) touched_list
  bytes_are = subst (λ (files : List (List ℕ)). AllByRecursion (λ (e : ℕ × Cell). contents st.files e.1 ≡ bytes_in_turn (file_sources files kit.wants.items) (bytes_of kit.own_frames.items) (bytes_of kit.own_slots.items) e.0) touched_list) (state_files a)
      (bytes_found st.files acc.write touched_list kit.own_frames.items kit.own_slots.items kit.wants.items (list_sorted st thread c space acc x) own_are slots_are (plan.wants ∙ wants_are st thread c space acc x))

  module _ (pool area : PageCounts) (mid : Kit) (f : Fills a.files a.frames a.slots kit pool area mid) where
    taken_are : map numbered f.taken ≡ grants
    taken_are = sym (append-nil (map numbered f.taken)) ∙ f.takes.granted ∙ (λ i. zip (wanting_are i) (unused_are i))

    pub frames_shown : shown_refs mid.frames.items ≡ map (λ (g : ℕ × ℕ). (g.0, (g.1, bytes g.0))) grants
    frames_shown = filled_shown f.mid (file_sources a.files kit.wants.items) (bytes_of kit.own_frames.items) (bytes_of kit.own_slots.items) f.taken mid.frames.items f.fresh f.filled ∙ ap (map (λ (g : ℕ × ℕ). (g.0, (g.1, bytes g.0)))) taken_are

    pub left_shown : shown_refs mid.own_frames.items ≡ filter (λ (r : Ref). not (is_some (granted grants r.0))) (refs_of frame_of touched_list)
    left_shown =
        ap shown_refs (f.left ∙ filter_same (λ k. not (has_page mid.frames.items k)) (λ k. not (is_some (granted grants k))) kit.own_frames.items (λ k. ap not (page_shown mid.frames.items grants bytes frames_shown k)))
        ∙ shown_picked (λ k. not (is_some (granted grants k))) kit.own_frames.items
        ∙ ap (filter (λ (r : Ref). not (is_some (granted grants r.0)))) own_are

    pub taken_times : (n : ℕ) → times n (shown_refs mid.frames.items) ≡ times n (shown_refs f.taken)
    taken_times n = ap (times n) (filled_shown f.mid (file_sources a.files kit.wants.items) (bytes_of kit.own_frames.items) (bytes_of kit.own_slots.items) f.taken mid.frames.items f.fresh f.filled) ∙ times_numbered n (λ g. bytes g.0) f.taken

    pub none_taken : (n : ℕ) → 1 ≤ count_of a.frames.counts n → times n (shown_refs mid.frames.items) ≡ 0
    none_taken n owned = none_more n (f.takes.balance.counts n) (f.takes.owned n owned) (taken_times n)
      where
        none_more : (n : ℕ) → count_of f.mid.counts n + times n [] ≡ count_of a.frames.counts n + times n [] + times n (shown_refs f.taken) → count_of f.mid.counts n ≡ count_of a.frames.counts n →
            times n (shown_refs mid.frames.items) ≡ times n (shown_refs f.taken) → times n (shown_refs mid.frames.items) ≡ 0
        none_more n e g h = omega (arith, e, g, h)

    pub fewer_left : (n : ℕ) → times n (shown_refs mid.own_frames.items) ≤ times n (shown_refs kit.own_frames.items)
    fewer_left n = omega (arith, times_fewer n (λ r. not (has_page mid.frames.items r.0)) kit.own_frames.items, ap (λ (rs : Refs). times n (shown_refs rs)) f.left)

    slots_others : KeepsOthers a.slots area (IsUsed st thread c slot_of)
    slots_others = record {
      counts = λ n owned apart. same n (f.slots.balance.counts n) (ap (times n) plan.slots ∙ unused_times slot_of n st thread c apart) (ap (λ (rs : Refs). times n (shown_refs rs)) f.no_slots);
      spares = λ n owned apart. f.slots.spares n;
      shared = λ n owned. f.slots.spares n;
    }
      where
        same : (n : ℕ) → count_of area.counts n + times n (shown_refs kit.own_slots.items) ≡ count_of a.slots.counts n + times n (shown_refs mid.own_slots.items) + times n [] → times n (shown_refs kit.own_slots.items) ≡ 0 →
            times n (shown_refs mid.own_slots.items) ≡ times n (shown_refs []) → count_of area.counts n ≡ count_of a.slots.counts n
        same n e g h = omega (arith, e, g, h)

    -- and after bytes were stored
    module _ (pool' : PageCounts) (last : Kit) (own : shown_refs last.own_frames.items ≡ map (with_bytes (written acc.at acc.stored)) (shown_refs mid.own_frames.items)) (came : shown_refs last.frames.items ≡ map (with_bytes (written acc.at acc.stored)) (shown_refs mid.frames.items))
        (counts : pool'.counts ≡ pool.counts) (spares : (n : ℕ) → times n (shown_refs mid.own_frames.items) ≡ 0 → times n (shown_refs mid.frames.items) ≡ 0 → HasSpare pool n → HasSpare pool' n)
        (shared : (n : ℕ) → 2 ≤ count_of a.frames.counts n → HasSpare pool n → HasSpare pool' n) (own_backed : AreBacked pool' last.own_frames.items) (came_backed : AreBacked pool' last.frames.items)
        (own_room : vec_capacity mid.own_frames ≤ vec_capacity last.own_frames) (came_room : vec_capacity mid.frames ≤ vec_capacity last.frames)
        (same_kit : last ≡ record mid { bytes = last.bytes; copy = last.copy; own_frames = last.own_frames; frames = last.frames }) where
      own_times : (n : ℕ) → times n (shown_refs last.own_frames.items) ≡ times n (shown_refs mid.own_frames.items)
      own_times n = ap (times n) own ∙ times_bytes n (written acc.at acc.stored) (shown_refs mid.own_frames.items)

      came_times : (n : ℕ) → times n (shown_refs last.frames.items) ≡ times n (shown_refs f.taken)
      came_times n = ap (times n) came ∙ times_bytes n (written acc.at acc.stored) (shown_refs mid.frames.items) ∙ taken_times n

      balance : InBalance a.frames pool' (shown_refs kit.own_frames.items) (shown_refs last.own_frames.items) (shown_refs last.frames.items)
      balance = record {
        numbers = ap length counts ∙ f.frames.balance.numbers ∙ f.takes.balance.numbers;
        counts = λ n. both n (ap (λ (l : List ℕ). count_of l n) counts) (f.frames.balance.counts n) (f.takes.balance.counts n) (own_times n) (came_times n);
      }
        where
          both : (n : ℕ) → count_of pool'.counts n ≡ count_of pool.counts n → count_of pool.counts n + times n (shown_refs kit.own_frames.items) ≡ count_of f.mid.counts n + times n (shown_refs mid.own_frames.items) + times n [] →
              count_of f.mid.counts n + times n [] ≡ count_of a.frames.counts n + times n [] + times n (shown_refs f.taken) → times n (shown_refs last.own_frames.items) ≡ times n (shown_refs mid.own_frames.items) →
              times n (shown_refs last.frames.items) ≡ times n (shown_refs f.taken) →
              count_of pool'.counts n + times n (shown_refs kit.own_frames.items) ≡ count_of a.frames.counts n + times n (shown_refs last.own_frames.items) + times n (shown_refs last.frames.items)
          both n p g t o e = omega (arith, p, g, t, o, e)

      frames_others : KeepsOthers a.frames pool' (IsUsed st thread c frame_of)
      frames_others = record {
        counts = λ n owned apart. same n (ap (λ (l : List ℕ). count_of l n) counts) (f.frames.balance.counts n) (f.takes.owned n owned) (no_own n apart) (fewer_left n);
        spares = λ n owned apart had. spares n (none_left n (no_own n apart) (fewer_left n)) (none_taken n owned) (f.frames.spares n (f.takes.spares n owned had));
        shared = λ n owned had. shared n owned (f.frames.spares n (f.takes.spares n (omega (arith, owned)) had));
      }
        where
          no_own : (n : ℕ) → (IsUsed st thread c frame_of n → ⊥) → times n (shown_refs kit.own_frames.items) ≡ 0
          no_own n apart = ap (times n) plan.frames ∙ unused_times frame_of n st thread c apart

          none_left : (n : ℕ) → times n (shown_refs kit.own_frames.items) ≡ 0 → times n (shown_refs mid.own_frames.items) ≤ times n (shown_refs kit.own_frames.items) → times n (shown_refs mid.own_frames.items) ≡ 0
          none_left n e h = omega (arith, e, h)

          same : (n : ℕ) → count_of pool'.counts n ≡ count_of pool.counts n → count_of pool.counts n + times n (shown_refs kit.own_frames.items) ≡ count_of f.mid.counts n + times n (shown_refs mid.own_frames.items) + times n [] →
              count_of f.mid.counts n ≡ count_of a.frames.counts n → times n (shown_refs kit.own_frames.items) ≡ 0 → times n (shown_refs mid.own_frames.items) ≤ times n (shown_refs kit.own_frames.items) → count_of pool'.counts n ≡ count_of a.frames.counts n
          same n p g o z w = omega (arith, p, g, o, z, w)

      no_slots_left : last.own_slots.items ≡ []
      no_slots_left = ap (λ (k : Kit). k.own_slots.items) same_kit ∙ f.no_slots

      no_slots_came : last.slots.items ≡ []
      no_slots_came = ap (λ (k : Kit). k.slots.items) same_kit ∙ ap (λ (k : Kit). k.slots.items) f.same_kit ∙ filled.ungranted.slots

      empty_backed : (counts : PageCounts) (refs : Refs) → refs ≡ [] → AreBacked counts refs
      empty_backed counts refs e = subst (λ (refs : Refs). AreBacked counts refs) (sym e) (λ k d inside. absurd (omega (arith, inside)))

      slots_balance : InBalance a.slots area (shown_refs kit.own_slots.items) (shown_refs last.own_slots.items) (shown_refs last.slots.items)
      slots_balance = subst (λ (x : Refs × Refs). InBalance a.slots area (shown_refs kit.own_slots.items) (shown_refs x.0) (shown_refs x.1)) (λ i. (sym (ap (λ (k : Kit). k.own_slots.items) same_kit) i, sym no_slots_came i)) f.slots.balance

      room : HasRoom last
      room =
          let k = filled.room in
          let m = f.same_kit in
          let l = same_kit in
          record {
            wants = omega (arith, k.wants, ap (λ (k : Kit). vec_capacity k.wants) m, ap (λ (k : Kit). vec_capacity k.wants) l);
            own_frames = omega (arith, k.own_frames, f.own_room, own_room);
            own_slots = omega (arith, k.own_slots, f.slots_room, ap (λ (k : Kit). vec_capacity k.own_slots) l);
            second_frames = omega (arith, k.second_frames, ap (λ (k : Kit). vec_capacity k.second_frames) m, ap (λ (k : Kit). vec_capacity k.second_frames) l);
            second_slots = omega (arith, k.second_slots, ap (λ (k : Kit). vec_capacity k.second_slots) m, ap (λ (k : Kit). vec_capacity k.second_slots) l);
            frames = omega (arith, k.frames, f.frames_room, came_room);
            slots = omega (arith, k.slots, ap (λ (k : Kit). vec_capacity k.slots) m, ap (λ (k : Kit). vec_capacity k.slots) l);
            rows = omega (arith, k.rows, ap (λ (k : Kit). vec_capacity k.rows) m, ap (λ (k : Kit). vec_capacity k.rows) l);
            gone = omega (arith, k.gone, ap (λ (k : Kit). vec_capacity k.gone) m, ap (λ (k : Kit). vec_capacity k.gone) l);
            changes = omega (arith, k.changes, ap (λ (k : Kit). vec_capacity k.changes) m, ap (λ (k : Kit). vec_capacity k.changes) l);
          }

      pub settles_at : Settles a thread c kit pool' area last
      settles_at = record {
        frames = balance;
        slots = slots_balance;
        left_frames = own ∙ ap (map (with_bytes (written acc.at acc.stored))) left_shown ∙ sym (kept_are st thread c space acc x pass.frames);
        left_slots = ap shown_refs no_slots_left ∙ sym (kept_slots st thread c space acc x pass.frames (slot_grants st c));
        new_frames = came ∙ ap (map (with_bytes (written acc.at acc.stored))) frames_shown ∙ bytes_twice (written acc.at acc.stored) bytes grants ∙ sym (new_are st thread c space acc x pass.frames bytes bytes_are);
        new_slots = ap shown_refs no_slots_came ∙ sym (new_slots st thread c space acc x pass.frames (slot_grants st c));
        backed = (own_backed, came_backed, empty_backed area last.own_slots.items no_slots_left, empty_backed area last.slots.items no_slots_came);
        seconds = (ap (λ (k : Kit). k.second_frames.items) same_kit ∙ ap (λ (k : Kit). k.second_frames.items) f.same_kit ∙ frames_ready.1, ap (λ (k : Kit). k.second_slots.items) same_kit ∙ ap (λ (k : Kit). k.second_slots.items) f.same_kit ∙ slots_ready.1);
        frames_kept = frames_others;
        slots_kept = slots_others;
        lists = record {
          needed = ap (λ (k : Kit). k.rows_needed) same_kit ∙ ap (λ (k : Kit). k.rows_needed) f.same_kit;
          rows = ap (λ (k : Kit). k.rows.items) same_kit ∙ ap (λ (k : Kit). k.rows.items) f.same_kit;
          gone = ap (λ (k : Kit). k.gone.items) same_kit ∙ ap (λ (k : Kit). k.gone.items) f.same_kit;
          changes = ap (λ (k : Kit). k.changes.items) same_kit ∙ ap (λ (k : Kit). k.changes.items) f.same_kit;
          early = ap (λ (k : Kit). k.early) same_kit ∙ ap (λ (k : Kit). k.early) f.same_kit;
          pieces = ap (λ (k : Kit). k.pieces.items) same_kit ∙ ap (λ (k : Kit). k.pieces.items) f.same_kit;
          wants = ap (λ (k : Kit). k.wants.items) same_kit ∙ ap (λ (k : Kit). k.wants.items) f.same_kit;
          room = room;
        };
      }
