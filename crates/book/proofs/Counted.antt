-- The counts of a book and the unused numbers of its state.
use Rattle.std.proofs.Common.{◌≡◌, ℕ, suc, ◌+◌, ◌-◌, Bool, true, false, cond, List, [], ◌∷◌, length, get_or, refl, sym, ap, subst, ◌∙◌, arith}
use Rattle.std.specs.Prelude.{nat_eq}
use Rattle.std.specs.List.{All, filter, range_with_len}
use Rattle.std.proofs.lemmas.List.Sums.{sum_by-cons}
use Rattle.corten_base.specs.declared.calls.Entry.{Entry}
use Rattle.corten_base.specs.declared.numbers.Limits.{Limits}
use Rattle.row_layout.specs.declared.limbo.Sampled.{Sampled}
use Rattle.shares.specs.Counts.{count_of, unused_count}
use Rattle.corten_base.specs.declared.numbers.Accounts.{Accounts}
use Rattle.page_map.specs.State.{State, start, unused, unused_frames, unused_slots, frame_owners, slot_owners, linked, accounts}
use Rattle.page_map.specs.History.{after, entry_step}
use Rattle.page_map.proofs.Steps.{by_step}
use Rattle.page_map.specs.Effect.{state_after}
use Rattle.machine_plan.specs.Books.{BookData, state_of, free_rows_within, RowSum}
use Rattle.machine_plan.specs.Whole.{IsBook}
use Rattle.book.specs.Entries.{FirstTells}
use Rattle.book.specs.Kept.{IsKept, IsTableRow}

same_after : (st : State) (thread limbo : ℕ) (c : _) → (Rattle.page_map.specs.Step.step st thread c limbo).1.limits ≡ st.limits
unfolding state_after
same_after st thread limbo c = by_step (λ (next : State). next.limits ≡ st.limits) st thread c limbo refl (λ _. refl)

after_limits : (st : State) (es : List Entry) → (after st es).limits ≡ st.limits
after_limits st [] = refl
after_limits st (e ∷ es) = after_limits (entry_step st e).1 es ∙ same_after st e.thread (Rattle.page_map.specs.History.limbo_of e.reply) e.call

pub state_limits : (b : BookData) → (state_of b).limits ≡ b.limits
unfolding state_of start
state_limits b = after_limits (start b.limits b.files) b.journal

-- how many numbers of a list of counts are unused
length_unused : (f : ℕ → ℕ) (low : ℕ) (counts : List ℕ) → ((k : ℕ) → get_or counts k 0 ≡ f (low + k)) → unused_count counts ≡ length (filter (λ n. nat_eq (f n) 0) (range_with_len low (length counts)))
length_unused f low [] same = refl
length_unused f low (x ∷ counts) same =
    go (nat_eq (f low) 0) refl (ap (λ n. nat_eq n 0) (same 0 ∙ ap f (plus_zero low))) (length_unused f (low + 1) counts (λ k. same (suc k) ∙ ap f (shift low k)))
  where
    plus_zero : (a : ℕ) → a + 0 ≡ a
    plus_zero a = omega arith

    shift : (a k : ℕ) → a + suc k ≡ (a + 1) + k
    shift a k = omega arith

    go : (b : Bool) → nat_eq (f low) 0 ≡ b → nat_eq x 0 ≡ nat_eq (f low) 0 → unused_count counts ≡ length (filter (λ n. nat_eq (f n) 0) (range_with_len (low + 1) (length counts))) →
        unused_count (x ∷ counts) ≡ length (cond b (low ∷ filter (λ n. nat_eq (f n) 0) (range_with_len (low + 1) (length counts))) (filter (λ n. nat_eq (f n) 0) (range_with_len (low + 1) (length counts))))
    go true e g rest = let here : ◌≡◌ {A = ℕ} (cond (nat_eq x 0) 1 0) 1 = ap (λ b. cond b 1 0) (g ∙ e) in omega (arith, sum_by-cons (λ count. cond (nat_eq count 0) 1 0) x counts, here, rest)
    go false e g rest = let here : ◌≡◌ {A = ℕ} (cond (nat_eq x 0) 1 0) 0 = ap (λ b. cond b 1 0) (g ∙ e) in omega (arith, sum_by-cons (λ count. cond (nat_eq count 0) 1 0) x counts, here, rest)

unused_is : (f : ℕ → ℕ) (limit : ℕ) (counts : List ℕ) → length counts ≡ limit → ((n : ℕ) → count_of counts n ≡ f n) → unused_count counts ≡ length (unused f limit)
unused_is f limit counts long same = length_unused f 0 counts (λ k. same k ∙ ap f (zero_plus k)) ∙ ap (λ n. length (unused f n)) long
  where
    zero_plus : (k : ℕ) → k ≡ 0 + k
    zero_plus k = omega arith

pub free_frames : (b : BookData) → IsBook b → unused_count b.frames.counts ≡ length (unused_frames (state_of b))
free_frames b is = unused_is (frame_owners (state_of b)) (state_of b).limits.frames b.frames.counts (is.frames ∙ sym (ap (λ (l : Limits). l.frames) (state_limits b))) is.counts.frames

pub free_slots : (b : BookData) → IsBook b → unused_count b.slots.counts ≡ length (unused_slots (state_of b))
free_slots b is = unused_is (slot_owners (state_of b)) (state_of b).limits.swap b.slots.counts (is.slots ∙ sym (ap (λ (l : Limits). l.swap) (state_limits b))) is.counts.slots

-- another limbo
pub with_limbo : (b : BookData) (list : List Sampled) (above journal_room limbo_room room : ℕ) → room ≡ limbo_room → FirstTells list → All (IsTableRow b.limits.tables) list → IsKept b above journal_room limbo_room → IsKept (record b { limbo = list }) above journal_room room
unfolding state_of
with_limbo b list above journal_room limbo_room room same tells rows is = record {
  book = record {
    legal = is.book.legal;
    threads = is.book.threads;
    within = is.book.within;
    counts = record { frames = is.book.counts.frames; slots = is.book.counts.slots };
    frames = is.book.frames;
    slots = is.book.slots;
    fits = is.book.fits;
    places = is.book.places;
    drawn = is.book.drawn;
  };
  aside = is.aside;
  below = is.below;
  journal = is.journal;
  limbo = omega (arith, is.limbo, same);
  tells = tells;
  rows = rows;
  enough = is.enough;
}

accounts_of : (b : BookData) → IsBook b → RowSum b → (frames_free swap_free rows : ℕ) → frames_free ≡ unused_count b.frames.counts → swap_free ≡ unused_count b.slots.counts → rows ≡ free_rows_within b →
    ◌≡◌ {A = Accounts} (record {
      frames = b.limits.frames;
      frames_free = frames_free;
      frames_mapped = b.limits.frames - frames_free;
      swap = b.limits.swap;
      swap_free = swap_free;
      swap_used = b.limits.swap - swap_free;
      tables = b.limits.tables;
      linked = b.limits.tables - length b.limbo - rows;
      limbo = length b.limbo;
    }) (accounts (state_of b) (length b.limbo))
unfolding accounts
accounts_of b is sum frames_free swap_free rows frames slots free =
    let limits : b.limits ≡ (state_of b).limits = sym (state_limits b) in
    let f : frames_free ≡ length (unused_frames (state_of b)) = frames ∙ free_frames b is in
    let s : swap_free ≡ length (unused_slots (state_of b)) = slots ∙ free_slots b is in
    let l : b.limits.tables - length b.limbo - rows ≡ linked (state_of b) = omega (arith, sum, free) in
    λ i. record {
      frames = (limits i).frames;
      frames_free = f i;
      frames_mapped = (limits i).frames - f i;
      swap = (limits i).swap;
      swap_free = s i;
      swap_used = (limits i).swap - s i;
      tables = (limits i).tables;
      linked = l i;
      limbo = length b.limbo;
    }

pub accounts_are : (b now : BookData) → b ≡ now → IsBook b → RowSum now → (frames_free swap_free rows limbo : ℕ) → frames_free ≡ unused_count b.frames.counts → swap_free ≡ unused_count b.slots.counts → rows ≡ free_rows_within now → limbo ≡ length b.limbo →
    ◌≡◌ {A = Accounts} (record {
      frames = b.limits.frames;
      frames_free = frames_free;
      frames_mapped = b.limits.frames - frames_free;
      swap = b.limits.swap;
      swap_free = swap_free;
      swap_used = b.limits.swap - swap_free;
      tables = b.limits.tables;
      linked = b.limits.tables - limbo - rows;
      limbo = limbo;
    }) (accounts (state_of now) (length now.limbo))
accounts_are b now same is sum frames_free swap_free rows limbo frames slots free long =
    (λ i. record {
      frames = b.limits.frames;
      frames_free = frames_free;
      frames_mapped = b.limits.frames - frames_free;
      swap = b.limits.swap;
      swap_free = swap_free;
      swap_used = b.limits.swap - swap_free;
      tables = b.limits.tables;
      linked = b.limits.tables - long i - rows;
      limbo = long i;
    })
    ∙ accounts_of b is (subst (λ (x : BookData). RowSum x) (sym same) sum) frames_free swap_free rows frames slots (free ∙ ap free_rows_within (sym same))
    ∙ ap (λ (x : BookData). accounts (state_of x) (length x.limbo)) same
