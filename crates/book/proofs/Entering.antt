-- An entry joins the journal.
use Rattle.std.proofs.Common.{◌≡◌, ℕ, ◌+◌, ◌^◌, ◌<◌, ◌≤◌, List, [], ◌∷◌, ◌++◌, length, refl, sym, ap, subst, ◌∙◌, arith}
use Rattle.std.specs.Prelude.{Some, map}
use Rattle.std.specs.List.{AllByRecursion}
use Rattle.std.proofs.lemmas.List.{length_push}
use Rattle.corten_base.specs.declared.numbers.Limits.{Limits}
use Rattle.corten_base.specs.declared.calls.Call.{Call}
use Rattle.corten_base.specs.declared.calls.Entry.{Entry}
use Rattle.corten_base.specs.declared.calls.Reply.{Reply}
use Rattle.page_map.specs.State.{State, start, linked, frame_owners, slot_owners}
use Rattle.page_map.specs.Step.{step, refusal}
use Rattle.page_map.specs.History.{IsHistory, after, limbo_of}
use Rattle.page_map.proofs.Histories.{legal_join, after_append}
use Rattle.page_map.proofs.Steps.{refused}
use Rattle.row_layout.specs.declared.limbo.Sampled.{Sampled}
use Rattle.machine_plan.specs.Books.{BookData, state_of, RowSum, unblocked}
use Rattle.machine_plan.specs.Local.{CountsAre}
use Rattle.machine_plan.specs.Whole.{IsBook}
pub use Rattle.book.specs.Entries.{entry_of}
use Rattle.book.specs.Kept.{IsKept}
use Rattle.book.proofs.Counted.{state_limits}
use Rattle.book.proofs.Refusing.{refused_again}
use Rattle.book.proofs.Blockers.{tells_none, rows_unblocked}

all_join : (P : Entry → Type 0) (es : List Entry) (e : Entry) → AllByRecursion P es → P e → AllByRecursion P (es ++ e ∷ [])
all_join P [] e h g = (g, tt)
all_join P (x ∷ es) e h g = (h.0, all_join P es e h.1 g)

module _ (a : BookData) (thread : ℕ) (c : Call) (r : Reply) (next : State) (goes : step (state_of a) thread c (limbo_of r) ≡ (r, next)) where
  pub next_state : (b : BookData) → b.limits ≡ a.limits → b.files ≡ a.files → b.journal ≡ a.journal ++ entry_of thread c r ∷ [] → state_of b ≡ next
  unfolding state_of
  next_state b limits files journal =
      (λ i. after (start (limits i) (files i)) (journal i))
      ∙ after_append (start a.limits a.files) a.journal (entry_of thread c r ∷ [])
      ∙ ap (λ (p : Reply × State). p.1) goes

  pub next_legal : IsBook a → linked (state_of a) + limbo_of r ≤ a.limits.tables → IsHistory a.limits a.files (a.journal ++ entry_of thread c r ∷ [])
  unfolding state_of
  next_legal is room =
      let limits = state_limits a in
      legal_join (start a.limits a.files) a.journal (entry_of thread c r ∷ []) is.legal
      (omega (arith, room, ap (λ (l : Limits). l.tables) limits), sym (ap (λ (p : Reply × State). p.0) goes), tt)

  pub next_book : (b : BookData) → thread < 8 → IsBook a → linked (state_of a) + limbo_of r ≤ a.limits.tables → length a.journal < a.room →
      b.limits ≡ a.limits → b.files ≡ a.files → b.room ≡ a.room → b.journal ≡ a.journal ++ entry_of thread c r ∷ [] → CountsAre b →
      length b.frames.counts ≡ length a.frames.counts → length b.slots.counts ≡ length a.slots.counts → b.next_generation ≤ a.next_generation + 1023 → IsBook b
  next_book b few is room free limits files places journal counts frames slots drawn =
      let long : length b.journal ≡ length a.journal + 1 = ap length journal ∙ length_push a.journal (entry_of thread c r) in
      let lims = ap (λ (l : Limits). l.frames) limits in
      let sw = ap (λ (l : Limits). l.swap) limits in
      record {
        legal = subst (λ (x : Limits × (List (List ℕ) × List Entry)). IsHistory x.0 x.1.0 x.1.1) (λ i. (sym limits i, (sym files i, sym journal i))) (next_legal is room);
        threads = subst (λ (es : List Entry). AllByRecursion (λ (e : Entry). e.thread < 8) es) (sym journal) (all_join (λ (e : Entry). e.thread < 8) a.journal (entry_of thread c r) is.threads few);
        within = subst (λ (l : Limits). Rattle.page_map.specs.State.IsWithinLimits l) (sym limits) is.within;
        counts = counts;
        frames = frames ∙ is.frames ∙ sym lims;
        slots = slots ∙ is.slots ∙ sym sw;
        fits = omega (arith, long, free, places);
        places = omega (arith, is.places, places);
        drawn = omega (arith, long, is.drawn, drawn);
      }

-- the limbo of a book is short
pub few_in_limbo : (a now : BookData) → a ≡ now → IsBook a → RowSum now → length a.limbo < 2 ^ 32
few_in_limbo a now same is sum = few (subst (λ (x : BookData). RowSum x) (sym same) sum)
  where
    few : RowSum a → length a.limbo < 2 ^ 32
    few sum_a = omega (arith, sum_a, is.within.tables)

-- a refusal
pub record Refuses (a : BookData) (thread : ℕ) (c : Call) (r : Reply) (above journal_room limbo_room : ℕ) (b : BookData) : Type 0 where
  pub kept : IsKept b above journal_room limbo_room
  pub same : state_of b ≡ state_of a

pub refused_entry : (a : BookData) (thread : ℕ) (c : Call) (r : Reply) (above journal_room limbo_room room : ℕ) → thread < 8 → IsKept a above journal_room limbo_room → journal_room ≤ room → RowSum a → length a.journal < a.room →
    refusal (state_of a) thread c (length a.limbo) ≡ Some r → Refuses a thread c r above room limbo_room (record a { journal = a.journal ++ entry_of thread c r ∷ []; limbo = map unblocked a.limbo })
refused_entry a thread c r above journal_room limbo_room room few is grown sum free refuses =
    let again = refused_again (state_of a) thread c (length a.limbo) r refuses in
    let goes = refused (state_of a) thread c (limbo_of r) r again.again in
    let b : BookData = record a { journal = a.journal ++ entry_of thread c r ∷ []; limbo = map unblocked a.limbo } in
    let same : state_of b ≡ state_of a = next_state a thread c r (state_of a) goes b refl refl refl in
    let counts : CountsAre b = record {
      frames = λ n. is.book.counts.frames n ∙ ap (λ (s : State). frame_owners s n) (sym same);
      slots = λ n. is.book.counts.slots n ∙ ap (λ (s : State). slot_owners s n) (sym same);
    } in
    record {
      kept = record {
        book = next_book a thread c r (state_of a) goes b few is.book (omega (arith, again.few, sum)) free refl refl refl refl counts refl refl (omega arith);
        aside = is.aside;
        below = is.below;
        journal = omega (arith, is.journal, grown);
        limbo = is.limbo;
        tells = tells_none a.limbo _ refl;
        rows = rows_unblocked _ a.limbo _ refl is.rows;
        enough = is.enough;
      };
      same = same;
    }

pub refuses_so : (a now : BookData) → a ≡ now → (thread : ℕ) (c : Call) (r : Reply) (above journal_room limbo_room room rows : ℕ) (items : List Entry) (limbo : List Sampled) → items ≡ a.journal ++ entry_of thread c r ∷ [] → limbo ≡ map unblocked a.limbo → thread < 8 → IsKept a above journal_room limbo_room →
    journal_room ≤ room → rows ≡ limbo_room → RowSum now → length now.journal < now.room → refusal (state_of now) thread c (length now.limbo) ≡ Some r →
    IsKept (record a { journal = items; limbo = limbo }) above room rows × (state_of (record a { journal = items; limbo = limbo }) ≡ state_of now)
refuses_so a now same thread c r above journal_room limbo_room room rows items limbo pushed free_of_blockers few is grown same_room sum free refuses =
    let all = refused_entry now thread c r above journal_room limbo_room room few (subst (λ (x : BookData). IsKept x above journal_room limbo_room) same is) grown sum free refuses in
    let e : record now { journal = now.journal ++ entry_of thread c r ∷ []; limbo = map unblocked now.limbo } ≡ record a { journal = items; limbo = limbo } = λ i. record (sym same i) {
      journal = (ap (λ (x : BookData). x.journal ++ entry_of thread c r ∷ []) (sym same) ∙ sym pushed) i;
      limbo = (ap (λ (x : BookData). map unblocked x.limbo) (sym same) ∙ sym free_of_blockers) i;
    } in
    (subst (λ (n : ℕ). IsKept (record a { journal = items; limbo = limbo }) above room n) (sym same_room) (subst (λ (x : BookData). IsKept x above room limbo_room) e all.kept), ap state_of (sym e) ∙ all.same)
