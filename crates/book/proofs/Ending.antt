-- The end of a commit that nothing refuses.
use Rattle.std.proofs.Common.{◌≡◌, ℕ, ◌+◌, ◌<◌, ◌≤◌, Bool, true, false, cond, length, refl, sym, ap, subst, ◌∙◌, arith}
use mathlib.Core.Bool.{true≢false}
use Rattle.std.specs.Prelude.{Option, Some, None, is_some, map, nat_le, nat_lt}
use Rattle.std.specs.List.{count_by}
use Rattle.std.specs.Option.{option_or}
use Rattle.std.proofs.lemmas.List.Sums.{count_by-le-length}
use Rattle.corten_base.specs.declared.numbers.Limits.{Limits}
use Rattle.corten_base.specs.declared.calls.Call.{Call}
use Rattle.corten_base.specs.declared.calls.Reply.{Reply}
use Rattle.counted_pages.specs.Pages.{PageCounts}
use Rattle.page_map.specs.Cell.{frame_of, slot_of}
use Rattle.page_map.specs.State.{State, linked}
use Rattle.page_map.specs.Step.{refusal, step, no_tables}
use Rattle.page_map.specs.Effect.{state_after, answer, frame_grants, slot_grants, wanted_tables}
use Rattle.page_map.specs.Tables.{need}
use Rattle.page_map.specs.History.{limbo_of}
use Rattle.page_map.proofs.Steps.{passed, accepted, by_none, not_none}
use Rattle.machine_plan.specs.declared.kit.Kit.{Kit}
use Rattle.machine_plan.specs.Books.{BookData, state_of, free_rows_within, RowSum}
use Rattle.machine_plan.specs.Local.{CountsAre}
use Rattle.machine_plan.specs.Whole.{IsBook}
use Rattle.machine_plan.specs.Kits.{HasRoom, IsFilled, IsPlanned, IsGranted, Commits, kept_cells, new_cells}
use Rattle.machine_plan.specs.Uses.{refs_of, shown_refs}
use Rattle.book.specs.Balance.{times, AreHeld}
use Rattle.book.specs.Pieces.{rows_in}
use Rattle.book.specs.Kept.{IsKept}
use Rattle.book.specs.Entries.{Ledger, ledger_of, with_ledger, MayEnter, Enters}
use Rattle.book.specs.Settling.{SameLists, Settles}
use Rattle.book.proofs.Counted.{state_limits}
use Rattle.book.proofs.Shown.{answer_shows}
use Rattle.book.proofs.Refusing.{in_parts, no_tables_fewer}
use Rattle.book.proofs.Entering.{entry_of, next_state, next_book}
use Rattle.book.proofs.After.{counts_after}
use Rattle.book.proofs.LeastRows.{rows_left}
use Rattle.book.proofs.Leaving.{held_times}
use Rattle.book.proofs.Blockers.{tells_none, rows_unblocked}

-- where nothing refuses, the tables are there
tables_fit : (st : State) (thread : ℕ) (c : Call) (limbo : ℕ) → no_tables st thread c limbo ≡ None → linked st + need (wanted_tables st thread c) st.tables + limbo ≤ st.limits.tables
tables_fit st thread c limbo h = go (nat_lt st.limits.tables (linked st + need (wanted_tables st thread c) st.tables + limbo)) refl h
  where
    at_most : {a b : ℕ} → nat_lt a b ≡ false → b ≤ a
    at_most e = grind (arith, Rattle.std.proofs.lemmas.Bool.Decides.nat_tests, e)

    go : (b : Bool) → nat_lt st.limits.tables (linked st + need (wanted_tables st thread c) st.tables + limbo) ≡ b → cond b (Some (Rattle.corten_base.specs.declared.calls.Reply.TheVariants.NoTables (linked st) limbo (need (wanted_tables st thread c) st.tables))) None ≡ None →
        linked st + need (wanted_tables st thread c) st.tables + limbo ≤ st.limits.tables
    go true e g = absurd (not_none g)
    go false e g = at_most e

no_early : (a b : Option Reply) → option_or a b ≡ None → a ≡ None
no_early None b h = refl
no_early (Some r) b h = absurd (not_none h)

-- What is known of a book and a kit that a plan filled for an accepted call.
module _ (a : BookData) (thread : ℕ) (c : Call) (kit : Kit) (is : IsBook a) (sum : RowSum a) (filled : IsFilled a thread c kit) (none : refusal (state_of a) thread c (length a.limbo) ≡ None) where
  abbrev st : State
  st = state_of a

  pub planned : IsPlanned a thread c kit
  planned = filled.planned (ap is_some (filled.early ∙ no_early _ _ (sym (in_parts (state_of a) thread c (length a.limbo)) ∙ none)))

  fits : kit.rows_needed + linked (state_of a) + length a.limbo ≤ a.limits.tables
  fits =
      let p = passed (state_of a) thread c (length a.limbo) none in
      let t = tables_fit (state_of a) thread c (length a.limbo) p.tables in
      let l : a.limits.tables ≡ (state_of a).limits.tables = sym (ap (λ (l : Limits). l.tables) (state_limits a)) in
      omega (arith, t, l, planned.rows)

  granted_fit : kit.rows_needed ≤ free_rows_within a
  granted_fit = omega (arith, fits, sum)

  pub goes : (r : Reply) → r ≡ answer (state_of a) thread c → step (state_of a) thread c (limbo_of r) ≡ (r, state_after (state_of a) thread c)
  goes r is_answer =
      let p = passed (state_of a) thread c (length a.limbo) none in
      let fewer = by_none (state_of a) thread c 0 (record { arguments = p.arguments; space = p.space; spaces = p.spaces; place = p.place; pages = p.pages; tables = no_tables_fewer (state_of a) thread c (length a.limbo) p.tables; frames = p.frames; swap = p.swap }) in
      let shows : limbo_of r ≡ 0 = ap limbo_of is_answer ∙ answer_shows (state_of a) thread c in
      ap (step (state_of a) thread c) shows ∙ accepted (state_of a) thread c 0 fewer ∙ (λ i. (sym is_answer i, state_after (state_of a) thread c))

  held : (own refs owned count : ℕ) → own ≡ refs → refs ≤ owned → count ≡ owned → own ≤ count
  held own refs owned count e h g = omega (arith, e, h, g)

  pub held_frames : AreHeld a.frames (shown_refs kit.own_frames.items)
  held_frames = record { each = λ n. held (times n (shown_refs kit.own_frames.items)) _ _ _ (ap (times n) planned.frames) (held_times frame_of n (state_of a) thread c) (is.counts.frames n) }

  pub held_slots : AreHeld a.slots (shown_refs kit.own_slots.items)
  held_slots = record { each = λ n. held (times n (shown_refs kit.own_slots.items)) _ _ _ (ap (times n) planned.slots) (held_times slot_of n (state_of a) thread c) (is.counts.slots n) }

  pub may_enter_at : (above journal_room limbo_room : ℕ) → IsKept a above journal_room limbo_room → length a.journal < a.room → (mid : Kit) → SameLists kit mid → MayEnter (ledger_of a) journal_room mid
  may_enter_at above journal_room limbo_room kept free mid same =
      let shorter : count_by (λ row. nat_le row a.limits.tables) (rows_in a.free) ≤ length (rows_in a.free) = count_by-le-length (λ row. nat_le row a.limits.tables) (rows_in a.free) in
      record {
        place = omega (arith, free, kept.journal);
        below = kept.below;
        enough = omega (arith, shorter, granted_fit, same.needed);
        few = omega (arith, fits, is.within.tables, same.needed);
        none = same.rows ∙ filled.ungranted.rows;
        room = same.room.rows;
        drawn = omega (arith, is.drawn, is.fits, is.places);
        few_in_limbo = omega (arith, sum, is.within.tables);
        tells = kept.tells;
      }

  -- what follows from what the call did to counts and kit, and from the end
  module _ (pool area : PageCounts) (mid : Kit) (l : Ledger) (kit' : Kit) (r : Reply) (settles : Settles a thread c kit pool area mid) (is_answer : r ≡ answer (state_of a) thread c) (enters : Enters (entry_of thread c r) (ledger_of a) mid l kit') where
    abbrev b : BookData
    b = with_ledger a pool area l

    next : state_of b ≡ state_after st thread c
    next = next_state a thread c r (state_after st thread c) (goes r is_answer) b refl refl enters.journal

    counts : CountsAre b
    counts = counts_after a b thread c (length a.limbo) none next is.counts _ _ _ _ _ _ settles.frames settles.slots
        planned.frames settles.left_frames settles.new_frames planned.slots settles.left_slots settles.new_slots

    pub kept_at : (above journal_room limbo_room places rows : ℕ) → thread < 8 → length a.journal < a.room → IsKept a above journal_room limbo_room → journal_room ≤ places → rows ≡ limbo_room → IsKept b above places rows
    kept_at above journal_room limbo_room places rows few free kept grown same =
        let shows : limbo_of r ≡ 0 = ap limbo_of is_answer ∙ answer_shows st thread c in
        let needed = settles.lists.needed in
        let rest : free_rows_within b + mid.rows_needed ≡ free_rows_within a =
        ap (λ n. n + mid.rows_needed) ((λ i. count_by (λ row. nat_le row a.limits.tables) (enters.free i))) ∙ rows_left a.limits.tables a.free mid.rows_needed (omega (arith, granted_fit, needed)) in
        record {
          book = next_book a thread c r (state_after st thread c) (goes r is_answer) b few is (omega (arith, shows, sum)) free refl refl refl enters.journal counts settles.frames.numbers settles.slots.numbers
              (omega (arith, enters.generation, fits, is.within.tables, needed));
          aside = omega (arith, kept.aside, enters.fewer, rest);
          below = enters.below;
          journal = omega (arith, kept.journal, grown);
          limbo = omega (arith, kept.limbo, same);
          tells = tells_none _ _ enters.limbo;
          rows = rows_unblocked _ _ _ enters.limbo kept.rows;
          enough = omega (arith, kept.enough, enters.limit);
        }

    room_after : HasRoom kit'
    room_after =
        let e = enters.same_kit in
        let m = settles.lists.room in
        let rows = enters.room in
        subst (λ (k : Kit). HasRoom k) (sym e) (record {
          wants = m.wants;
          own_frames = m.own_frames;
          own_slots = m.own_slots;
          second_frames = m.second_frames;
          second_slots = m.second_slots;
          frames = m.frames;
          slots = m.slots;
          rows = omega (arith, m.rows, rows);
          gone = m.gone;
          changes = m.changes;
        })

    granted : IsGranted a thread c kit b (record mid { rows = kit'.rows; done = true })
    granted = record {
      done = refl;
      own_frames = settles.left_frames ∙ ap (λ (s : State). refs_of frame_of (kept_cells st s thread c (frame_grants st c))) (sym next);
      own_slots = settles.left_slots ∙ ap (λ (s : State). refs_of slot_of (kept_cells st s thread c (slot_grants st c))) (sym next);
      frames = settles.new_frames ∙ ap (λ (s : State). refs_of frame_of (new_cells st s thread c (frame_grants st c))) (sym next);
      slots = settles.new_slots ∙ ap (λ (s : State). refs_of slot_of (new_cells st s thread c (slot_grants st c))) (sym next);
      backed = settles.backed;
      rows = enters.rows ∙ ap (λ n. Rattle.std.specs.List.zip (Rattle.std.specs.Prelude.take n (rows_in a.free)) (Rattle.std.specs.List.range_with_len a.next_generation n)) settles.lists.needed;
      free = enters.free ∙ ap (λ n. Rattle.std.specs.Prelude.drop n (rows_in a.free)) settles.lists.needed;
      limit = enters.limit;
      generation = enters.generation ∙ ap (λ n. a.next_generation + n) settles.lists.needed;
      seconds = settles.seconds;
      frames_kept = settles.frames_kept;
      slots_kept = settles.slots_kept;
    }

    pub commits_at : Commits a thread c kit r b kit'
    commits_at = record {
      journal = enters.journal;
      is_step = (λ i. (is_answer i, next i)) ∙ sym (accepted st thread c (length a.limbo) none);
      limits = (refl, refl, refl);
      limbo = enters.limbo;
      room = room_after;
      unlinked = ap (λ (k : Kit). k.gone.items) enters.same_kit ∙ settles.lists.gone ∙ filled.ungranted.gone;
      same = (ap (λ (k : Kit). k.changes.items) enters.same_kit ∙ settles.lists.changes, ap (λ (k : Kit). k.early) enters.same_kit ∙ settles.lists.early, ap (λ (k : Kit). k.pieces.items) enters.same_kit ∙ settles.lists.pieces, ap (λ (k : Kit). k.wants.items) enters.same_kit ∙ settles.lists.wants);
      refused = λ some. absurd (true≢false (sym some ∙ ap is_some none));
      accepted = λ _. subst (λ (k : Kit). IsGranted a thread c kit b k) (sym enters.same_kit) granted;
    }

-- The same for a book by what clauses see of it
pub may_enter : (a now : BookData) → a ≡ now → (thread : ℕ) (c : Call) (kit mid : Kit) (above journal_room limbo_room : ℕ) → IsKept a above journal_room limbo_room → RowSum now → IsFilled now thread c kit → refusal (state_of now) thread c (length now.limbo) ≡ None →
    length now.journal < now.room → SameLists kit mid → MayEnter (ledger_of a) journal_room mid
may_enter a now same thread c kit mid above journal_room limbo_room kept sum filled none free lists =
    may_enter_at a thread c kit kept.book (subst (λ (x : BookData). RowSum x) (sym same) sum) (subst (λ (x : BookData). IsFilled x thread c kit) (sym same) filled)
    (subst (λ (x : BookData). refusal (state_of x) thread c (length x.limbo) ≡ None) (sym same) none) above journal_room limbo_room kept (subst (λ (x : BookData). length x.journal < x.room) (sym same) free) mid lists

module _ (a now : BookData) (same : a ≡ now) (thread : ℕ) (c : Call) (kit mid kit' : Kit) (pool area : PageCounts) (l : Ledger) (r again : Reply) (kept_above kept_journal kept_limbo : ℕ) (kept : IsKept a kept_above kept_journal kept_limbo) (sum : RowSum now) (filled : IsFilled now thread c kit)
    (none : refusal (state_of now) thread c (length now.limbo) ≡ None) (is_answer : r ≡ answer (state_of now) thread c) (settles : Settles a thread c kit pool area mid) (enters : Enters (entry_of thread c r) (ledger_of a) mid l kit') where
  sum_a : RowSum a
  sum_a = subst (λ (x : BookData). RowSum x) (sym same) sum

  filled_a : IsFilled a thread c kit
  filled_a = subst (λ (x : BookData). IsFilled x thread c kit) (sym same) filled

  none_a : refusal (state_of a) thread c (length a.limbo) ≡ None
  none_a = subst (λ (x : BookData). refusal (state_of x) thread c (length x.limbo) ≡ None) (sym same) none

  answer_a : r ≡ answer (state_of a) thread c
  answer_a = is_answer ∙ ap (λ (x : BookData). answer (state_of x) thread c) (sym same)

  pub kept_so : (places rows : ℕ) → thread < 8 → length now.journal < now.room → kept_journal ≤ places → rows ≡ kept_limbo → IsKept (with_ledger a pool area l) kept_above places rows
  kept_so places rows few free grown same_room =
      kept_at a thread c kit kept.book sum_a filled_a none_a pool area mid l kit' r settles answer_a enters kept_above kept_journal kept_limbo places rows few (subst (λ (x : BookData). length x.journal < x.room) (sym same) free) kept grown same_room

  pub commits_so : r ≡ again → Commits now thread c kit again (with_ledger a pool area l) kit'
  commits_so same_reply =
      subst (λ (x : BookData). Commits x thread c kit again (with_ledger a pool area l) kit') same
      (subst (λ (q : Reply). Commits a thread c kit q (with_ledger a pool area l) kit') same_reply (commits_at a thread c kit kept.book sum_a filled_a none_a pool area mid l kit' r settles answer_a enters))

-- the reply to a call that nothing refuses shows no rows in limbo
pub accepted_shows : (a b : BookData) (thread : ℕ) (c : Call) (kit : Kit) (r : Reply) (kit' : Kit) → refusal (state_of a) thread c (length a.limbo) ≡ None → Commits a thread c kit r b kit' → limbo_of r ≡ 0
accepted_shows a b thread c kit r kit' none commits =
    ap (λ (x : Reply × State). limbo_of x.0) (commits.is_step ∙ accepted (state_of a) thread c (length a.limbo) none) ∙ answer_shows (state_of a) thread c
