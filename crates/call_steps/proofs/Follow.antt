-- The book after a commit may follow the one that the turn found.
--     fixed_by      the limits, the files, the places and the truth of the row sum stay
--     follows_accepted, follows_refused      after a call that was accepted, and one that was refused
--     names_thread      the new entry names the thread
use Rattle.std.specs.Prelude.{◌≡◌, ℕ, ◌+◌, ◌<◌, List, [], ◌∷◌, ◌++◌, length, is_some, Some, None}
use Rattle.std.proofs.Common.{sym, ◌∙◌, ap, subst, arith, inr}
use Rattle.corten_base.specs.declared.calls.Call.{Call}
use Rattle.corten_base.specs.declared.calls.Entry.{Entry}
use Rattle.corten_base.specs.declared.calls.Reply.{Reply}
use Rattle.counted_pages.specs.Pages.{PageCounts}
use Rattle.page_map.specs.Cell.{frame_of, slot_of}
use Rattle.page_map.specs.State.{State}
use Rattle.page_map.specs.Step.{refusal, step}
use Rattle.row_cells.specs.declared.Cell.{Cell}
use Rattle.row_table.specs.declared.view.HeldRow.{HeldRow as KnownRow}
use Rattle.row_table.specs.Books.{region}
use Rattle.tree_lock.specs.Held.{row_numbers}
use Rattle.tree_lock.specs.Linked.{ShowsCover}
use Rattle.walk_core.specs.Lists.{IsDistinct}
use Rattle.machine_plan.specs.declared.kit.Kit.{Kit}
use Rattle.machine_plan.specs.Agrees.{Agrees}
use Rattle.machine_plan.specs.Books.{BookData, state_of, RowSum}
use Rattle.machine_plan.specs.Cover.{HeldAgree, HasLevelsOf}
use Rattle.machine_plan.specs.Follows.{Follows, IsFixed}
use Rattle.machine_plan.specs.Given.{Leaves}
use Rattle.machine_plan.specs.Held.{HeldWith}
use Rattle.machine_plan.specs.HeldRows.{Row}
use Rattle.machine_plan.specs.Kits.{Commits, IsUsed, KeepsOthers}
use Rattle.machine_plan.specs.Local.{CountsAre}
use Rattle.machine_plan.specs.Uses.{zone_of}
use Rattle.machine_plan.specs.Whole.{IsBook}
use Rattle.machine_plan.proofs.Following.{same_follows}
use Rattle.machine_plan.proofs.Giving.{commit_follows}
use Rattle.machine_plan.proofs.Whole.{book_is_consistent}
use Rattle.cursor_detach.proofs.Started.{listed, one_known}
use Rattle.call_steps.specs.Ready.{View}
use Rattle.call_steps.proofs.Swept.{state_swept}

last_same : (xs : List Entry) (x y : Entry) → xs ++ x ∷ [] ≡ xs ++ y ∷ [] → x ≡ y
last_same [] x y e = cc
last_same (z ∷ xs) x y e = last_same xs x y (tail e)
  where
    tail : {a : Entry} {l k : List Entry} → a ∷ l ≡ a ∷ k → l ≡ k
    tail same = cc

held_agree : (m : BookData) (v : View) (rows : List Row) → IsDistinct (row_numbers rows) → HeldWith m v rows → HeldAgree m v
held_agree m v rows once held h has =
    let l = listed rows v held.exact h has in
    let x = held.each l.0 l.1 in
    let same = one_known rows v held.exact once x.known h x.held has (x.same_row ∙ l.2) in
    (l.0.content, subst (λ (y : KnownRow (List Cell)). Agrees m y.place y.words l.0.content) same x.agrees)

-- old was found, a sweep or none made m of it, a commit made b, and g is given
module _ (old m b g : BookData) (thread : ℕ) (c : Call) (kit kit' : Kit) (r : Reply) (same : m ≡ record old { free = m.free; limbo = m.limbo }) (commits : Commits m thread c kit r b kit') (given : g ≡ record b { free = g.free; limbo = g.limbo }) where
  state_old : state_of m ≡ state_of old
  state_old = state_swept old m same

  state_g : state_of g ≡ state_of b
  state_g = state_swept b g given

  pub fixed_by : RowSum old → RowSum g → IsFixed old g
  fixed_by before after = record {
    limits = ap (λ (x : BookData). x.limits) given ∙ (commits.limits.0 ∙ ap (λ (x : BookData). x.limits) same);
    files = ap (λ (x : BookData). x.files) given ∙ (commits.limits.1 ∙ ap (λ (x : BookData). x.files) same);
    room = ap (λ (x : BookData). x.room) given ∙ (commits.limits.2 ∙ ap (λ (x : BookData). x.room) same);
    sum = (λ _. after, λ _. before);
  }

  abbrev entry : Entry
  entry = record { thread = thread; call = c; reply = r }

  pub journal_is : g.journal ≡ old.journal ++ entry ∷ []
  journal_is = ap (λ (x : BookData). x.journal) given ∙ (commits.journal ∙ ap (λ (x : BookData). x.journal ++ entry ∷ []) same)

  pub names_thread : (v : View) → v.number ≡ thread → (other : Entry) → g.journal ≡ old.journal ++ other ∷ [] → other.thread ≡ v.number
  names_thread v number other e = sym (ap (λ (x : Entry). x.thread) (last_same old.journal entry other (sym journal_is ∙ e))) ∙ sym number

  pub follows_accepted : (v d : View) (rows : List Row) → thread < 8 → IsBook old → CountsAre g → HasLevelsOf old v → IsDistinct (row_numbers rows) → HeldWith old v rows → ShowsCover v.layout (zone_of thread c) v → refusal (state_of m) thread c (length m.limbo) ≡ None
      → Leaves (state_of b) v d → RowSum old → RowSum g → Follows (region d) old g
  follows_accepted v d rows few is counts levels once held shows none leaves before after =
      let granted = commits.accepted (ap is_some none) in
      let next : state_of b ≡ (step (state_of m) thread c (length m.limbo)).1 = ap (λ (x : Reply × State). x.1) commits.is_step in
      let frames_b : g.frames ≡ b.frames = ap (λ (x : BookData). x.frames) given in
      let slots_b : g.slots ≡ b.slots = ap (λ (x : BookData). x.slots) given in
      let frames_m : m.frames ≡ old.frames = ap (λ (x : BookData). x.frames) same in
      let slots_m : m.slots ≡ old.slots = ap (λ (x : BookData). x.slots) same in
      let rises : b.next_generation ≡ m.next_generation + kit.rows_needed = granted.generation in
      let first : m.next_generation ≡ old.next_generation = ap (λ (x : BookData). x.next_generation) same in
      let last : g.next_generation ≡ b.next_generation = ap (λ (x : BookData). x.next_generation) given in
      commit_follows old g thread c (length m.limbo) entry v d few (book_is_consistent old is) levels (held_agree old v rows once held) shows
      (ap (λ (s : State). refusal s thread c (length m.limbo)) (sym state_old) ∙ none)
      (state_g ∙ (next ∙ ap (λ (s : State). (step s thread c (length m.limbo)).1) state_old))
      (subst (λ (s : State). Leaves s v d) (sym state_g) leaves)
      is.counts counts
      (subst (λ (s : State). KeepsOthers old.frames g.frames (IsUsed s thread c frame_of)) state_old
      (subst (λ (x : PageCounts). KeepsOthers x g.frames (IsUsed (state_of m) thread c frame_of)) frames_m
      (subst (λ (x : PageCounts). KeepsOthers m.frames x (IsUsed (state_of m) thread c frame_of)) (sym frames_b) granted.frames_kept)))
      (subst (λ (s : State). KeepsOthers old.slots g.slots (IsUsed s thread c slot_of)) state_old
      (subst (λ (x : PageCounts). KeepsOthers x g.slots (IsUsed (state_of m) thread c slot_of)) slots_m
      (subst (λ (x : PageCounts). KeepsOthers m.slots x (IsUsed (state_of m) thread c slot_of)) (sym slots_b) granted.slots_kept)))
      journal_is (omega (arith, rises, first, last)) (fixed_by before after)

  pub follows_refused : (d : View) (why : Reply) → refusal (state_of m) thread c (length m.limbo) ≡ Some why → state_of b ≡ state_of m → RowSum old → RowSum g → Follows (region d) old g
  follows_refused d why e state before after =
      let is = commits.refused (ap is_some e) in
      let first : b.next_generation ≡ m.next_generation = ap (λ (x : BookData). x.next_generation) is.book in
      let second : m.next_generation ≡ old.next_generation = ap (λ (x : BookData). x.next_generation) same in
      let last : g.next_generation ≡ b.next_generation = ap (λ (x : BookData). x.next_generation) given in
      same_follows (region d) old g (inr (entry, journal_is)) (state_g ∙ (state ∙ state_old))
      (ap (λ (x : BookData). x.frames) given ∙ (ap (λ (x : BookData). x.frames) is.book ∙ ap (λ (x : BookData). x.frames) same))
      (ap (λ (x : BookData). x.slots) given ∙ (ap (λ (x : BookData). x.slots) is.book ∙ ap (λ (x : BookData). x.slots) same))
      (omega (arith, first, second, last)) (fixed_by before after)
