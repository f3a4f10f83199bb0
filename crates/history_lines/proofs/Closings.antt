-- The accounts of states that legal histories reach.
use Rattle.std.proofs.Common.{◌≡◌, ℕ, ◌+◌, ◌<◌, ◌≤◌, List, [], ◌∷◌, length, refl, sym, ap, subst, ◌∙◌, arith}
use Rattle.std.specs.List.{All, range_with_len}
use Rattle.std.specs.Prelude.{nat_eq}
use Rattle.std.proofs.lemmas.List.Sums.{length-filter, count_by-le-length}
use Rattle.std.proofs.lemmas.List.FromFn.{length-range_with_len}
use Rattle.std.proofs.lemmas.List.Elements.{All-weaker}
use Rattle.corten_base.specs.declared.calls.Entry.{Entry}
use Rattle.corten_base.specs.declared.calls.Call.{Call}
use Rattle.corten_base.specs.declared.calls.Call.TheVariants as call
use Rattle.corten_base.specs.declared.numbers.Limits.{Limits}
use Rattle.corten_base.specs.declared.numbers.Accounts.{Accounts}
use Rattle.page_map.specs.State.{State, start, accounts, linked, unused, frame_owners, slot_owners, IsConsistent}
use Rattle.page_map.specs.Step.{step}
use Rattle.page_map.specs.Effect.{state_after}
use Rattle.page_map.specs.History.{IsHistory, after, entry_step, limbo_of}
use Rattle.page_map.proofs.Steps.{by_step}
use Rattle.page_map.proofs.Start.{start_is_consistent}
use Rattle.page_map.proofs.Bytewise.{keeps_along}
use Rattle.page_map.proofs.Recalled.{each_of}
use Rattle.mm_script.specs.ScriptText.{AreLimits, AreFiles}
use Rattle.history_lines.specs.declared.header.Header.{Header}
use Rattle.history_lines.specs.declared.history.History.{History}
use Rattle.history_lines.specs.Accounting.{frames_counts, swap_counts, HasLevels, IsHeader, AreAccounts}
use Rattle.history_lines.specs.HistoryText.{since, IsEntry, IsEntryOf, HasText}
use Rattle.history_lines.specs.Checking.{AreRight, IsLegalHistory}
use Rattle.history_lines.specs.Wrong.{AreTablesRight}

-- no step changes the limits
pub step_limits : (st : State) (thread : ℕ) (c : Call) (limbo : ℕ) → (step st thread c limbo).1.limits ≡ st.limits
unfolding state_after
step_limits st thread c limbo = by_step (λ (s : State). s.limits ≡ st.limits) st thread c limbo refl (λ passed. refl)

after_limits : (st : State) (es : List Entry) → (after st es).limits ≡ st.limits
after_limits st [] = refl
after_limits st (e ∷ es) = after_limits (entry_step st e).1 es ∙ step_limits st e.thread e.call (limbo_of e.reply)

pub start_limits : (limits : Limits) (files : List (List ℕ)) → (start limits files).limits ≡ limits
unfolding start
start_limits limits files = refl

-- the state that a history's entries leave
abbrev pub final : Limits → List (List ℕ) → List Entry → State
final limits files es = after (start limits files) es

pub final_limits : (limits : Limits) (files : List (List ℕ)) (es : List Entry) → (final limits files es).limits ≡ limits
final_limits limits files es = after_limits (start limits files) es ∙ start_limits limits files

-- four levels or five
pub few_levels : (v l : ℕ) → HasLevels v l → (4 ≤ l) × (l ≤ 5)
few_levels v l (HasLevels.four is) = (omega (arith, is), omega (arith, is))
few_levels v l (HasLevels.five is version) = (omega (arith, is), omega (arith, is))

pub final_is_consistent : (head : Header) (files : List (List ℕ)) (es : List Entry) → IsHeader head → All (IsEntryOf head.version) es → IsConsistent (final head.limits files es)
final_is_consistent head files es hh he =
    let levels = few_levels head.version head.limits.levels hh.levels in
    keeps_along (start head.limits files) es (each_of (λ (e : Entry). e.thread < 8) es (All-weaker (IsEntryOf head.version) (λ (e : Entry). e.thread < 8) (λ e h. omega (arith, h.entry.thread.1)) es he))
    (start_is_consistent head.limits files levels.0 levels.1 hh.limits.tables.0)

pub few_unused : (owners : ℕ → ℕ) (limit : ℕ) → length (unused owners limit) ≤ limit
few_unused owners limit =
    let all : List ℕ = range_with_len 0 limit in
    let some = length-filter (λ n. nat_eq (owners n) 0) all in
    let few = count_by-le-length (λ n. nat_eq (owners n) 0) all in
    let long = length-range_with_len 0 limit in
    omega (arith, some, few, long)

accounts_fit : (st : State) → IsConsistent st → AreLimits st.limits → AreAccounts (accounts st 0)
unfolding accounts
accounts_fit st ok h =
    let frames = few_unused (frame_owners st) st.limits.frames in
    let slots = few_unused (slot_owners st) st.limits.swap in
    let tables : linked st ≤ st.limits.tables = ok.tables in
    record {
      frames = record { whole = omega (arith, h.frames.1); second = omega (arith, h.frames.1, frames); third = omega (arith, h.frames.1) };
      swap = record { whole = omega (arith, h.swap.1); second = omega (arith, h.swap.1, slots); third = omega (arith, h.swap.1) };
      tables = record { whole = omega (arith, h.tables.1); second = omega (arith, h.tables.1, tables); third = omega arith };
    }

-- a legal list of entries with the accounts that belong to it
abbrev pub closed : Header → List (List ℕ) → List Entry → History
closed head files es = record { version = head.version; limits = head.limits; shelf = files; entries = es; accounts = accounts (final head.limits files es) 0 }

pub closed_has_text : (head : Header) (files : List (List ℕ)) (es : List Entry) → IsHeader head → AreFiles files → All (IsEntryOf head.version) es → HasText (closed head files es)
closed_has_text head files es hh hfs he = record {
  head = hh;
  files = hfs;
  entries = he;
  accounts = accounts_fit (final head.limits files es) (final_is_consistent head files es hh he) (subst AreLimits (sym (final_limits head.limits files es)) hh.limits);
}

pub own_accounts : (st : State) → IsConsistent st → AreRight st (accounts st 0)
unfolding accounts
own_accounts st ok = record { counts = refl; fits = let tables : linked st ≤ st.limits.tables = ok.tables in omega (arith, tables) }

pub closed_is_legal : (head : Header) (files : List (List ℕ)) (es : List Entry) → IsHeader head → All (IsEntryOf head.version) es → IsHistory head.limits files es → IsLegalHistory (closed head files es)
closed_is_legal head files es hh he legal = record { entries = legal; accounts = own_accounts (final head.limits files es) (final_is_consistent head files es hh he) }

-- version 2 has every call
since_known : (c : Call) → since c ≤ 2
since_known (call.DontNeed space at len) = omega arith
since_known (call.Remap space at old_len new_len) = omega arith
since_known _ = omega arith

pub entry_of_two : (e : Entry) → IsEntry e → IsEntryOf 2 e
entry_of_two e h = record { entry = h; known = since_known e.call }

-- the answered calls of any version
pub entries_of_any : (v : ℕ) (es : List Entry) → All (IsEntryOf v) es → All IsEntry es
entries_of_any v es h = All-weaker (IsEntryOf v) IsEntry (λ e is. is.entry) es h

pub entries_of_two : (es : List Entry) → All IsEntry es → All (IsEntryOf 2) es
entries_of_two es h = All-weaker IsEntry (IsEntryOf 2) entry_of_two es h

-- accounts that are right line by line are right, and the other way round
pub right_accounts : (st : State) (a : Accounts) → frames_counts a ≡ frames_counts (accounts st 0) → swap_counts a ≡ swap_counts (accounts st 0) → AreTablesRight st a → AreRight st a
unfolding accounts
right_accounts st a f s t = record {
  counts = λ i. record {
    frames = (f i).whole;
    frames_free = (f i).second;
    frames_mapped = (f i).third;
    swap = (s i).whole;
    swap_free = (s i).second;
    swap_used = (s i).third;
    tables = t.tables i;
    linked = t.linked_tables i;
    limbo = a.limbo;
  };
  fits = t.fits;
}

pub right_frames : (st : State) (a : Accounts) → AreRight st a → frames_counts a ≡ frames_counts (accounts st 0)
unfolding accounts
right_frames st a h = ap frames_counts h.counts

pub right_swap : (st : State) (a : Accounts) → AreRight st a → swap_counts a ≡ swap_counts (accounts st 0)
unfolding accounts
right_swap st a h = ap swap_counts h.counts

pub right_tables : (st : State) (a : Accounts) → AreRight st a → AreTablesRight st a
unfolding accounts
right_tables st a h = record {
  tables = ap (λ (b : Accounts). b.tables) h.counts;
  linked_tables = ap (λ (b : Accounts). b.linked) h.counts;
  fits = h.fits;
}

-- the line of page tables, beside the machine's own accounts
pub tables_from_own : (st : State) (own a : Accounts) → own ≡ accounts st 0 → (a.tables ≡ own.tables) × (a.linked ≡ own.linked) × (own.linked + a.limbo ≤ own.tables) → AreTablesRight st a
unfolding accounts
tables_from_own st own a is h =
    let tables : own.tables ≡ st.limits.tables = ap (λ (b : Accounts). b.tables) is in
    let links : own.linked ≡ linked st = ap (λ (b : Accounts). b.linked) is in
    record { tables = h.0 ∙ tables; linked_tables = h.1 ∙ links; fits = subst (λ n. n + a.limbo ≤ st.limits.tables) links (subst (λ n. own.linked + a.limbo ≤ n) tables h.2) }

pub own_from_tables : (st : State) (own a : Accounts) → own ≡ accounts st 0 → AreTablesRight st a → (a.tables ≡ own.tables) × (a.linked ≡ own.linked) × (own.linked + a.limbo ≤ own.tables)
unfolding accounts
own_from_tables st own a is h =
    let tables : own.tables ≡ st.limits.tables = ap (λ (b : Accounts). b.tables) is in
    let links : own.linked ≡ linked st = ap (λ (b : Accounts). b.linked) is in
    (h.tables ∙ sym tables, h.linked_tables ∙ sym links, subst (λ n. n + a.limbo ≤ own.tables) (sym links) (subst (λ n. linked st + a.limbo ≤ n) (sym tables) h.fits))
