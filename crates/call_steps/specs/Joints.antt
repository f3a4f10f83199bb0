-- How the contracts of the steps of a call join, for every call but a copy. The pass knew `v0` when it had its cover, `v` with the book, `d` after the detach, `e` with samples, `w` after the give, and `x` after the apply. The book `old` was found, `m` is it after a sweep or none, `b` the book after the commit, and `g` the one that was given.
--     GivesPlan      the turn gives what a plan asks
--     GivesDetach      a plan and a commit give what a detach asks
--     IsGiven      a detach and a give
--     GivesApply      they give what an apply asks, where the hand has the granted rows
--     GivesLinks      and what it asks of new tables
--     GivesRelease      an apply gives what the release asks
--     GivesSum      the rows of the book add up after the commit and the deposits
--     GivesFollow      the book may follow
--     GivesSweep      a sweep leaves what a give asks of it
--     GivesTaken      a give grants the rows that the commit took
--     GivesShown      rows in limbo that the entry shows have readers
--     GivesGive      the book may be given
--     GivesEntry      the pass has seen its own entry
use Rattle.std.specs.Prelude.{◌≡◌, ℕ, ◌<◌, ◌≤◌, ◌++◌, ◌∷◌, [], List, map, length, Some, None, IsNone, true, take, drop}
use Rattle.std.specs.FinSet as set
use Rattle.corten_base.specs.declared.calls.Call.{Call}
use Rattle.corten_base.specs.declared.calls.Entry.{Entry}
use Rattle.corten_base.specs.declared.calls.Reply.{Reply}
use Rattle.page_map.specs.Effect.{space_of, is_given_up, wanted_tables}
use Rattle.page_map.specs.Step.{arguments, refusal}
use Rattle.page_map.specs.Tables.{need}
use Rattle.row_layout.specs.declared.limbo.Sampled.{Sampled}
use Rattle.row_table.specs.Books.{Learns, turned, gave, taken_rows, region, book_core, MayGive}
use Rattle.row_table.specs.Rule.{SameRows}
use Rattle.tree_lock.specs.Held.{row_numbers}
use Rattle.tree_lock.specs.Linked.{ShowsCover}
use Rattle.tree_lock.specs.Release.{HoldsExactly, MayReleaseAll}
use Rattle.walk_core.specs.Core.{granted_rows}
use Rattle.walk_core.specs.Lists.{times, Has, IsDistinct}
use Rattle.machine_plan.specs.declared.kit.Kit.{Kit}
use Rattle.machine_plan.specs.Books.{BookData, state_of, RowSum, free_list, free_rows_within, put_of}
use Rattle.machine_plan.specs.Cover.{HasCover, HasLevelsOf}
use Rattle.machine_plan.specs.Follows.{machine, Follows}
use Rattle.machine_plan.specs.Given.{Leaves}
use Rattle.machine_plan.specs.Held.{HeldWith, ListHolds}
use Rattle.machine_plan.specs.HeldRows.{Row, AreOf}
use Rattle.machine_plan.specs.Kits.{IsFilled, Commits}
use Rattle.machine_plan.specs.Local.{CountsAre}
use Rattle.machine_plan.specs.Uses.{zone_of}
use Rattle.machine_plan.specs.Whole.{IsBook}
use Rattle.range_cursor.specs.Plans.{IsPlannable, Plans}
use Rattle.cursor_detach.specs.Left.{IsCommitted}
use Rattle.cursor_detach.specs.Detaching.{IsDetachable, Detached}
use Rattle.cursor_apply.specs.Applying.{hand_row, IsApplicable, Applied}
use Rattle.cursor_apply.specs.Linking.{IsLinkable}
use Rattle.std.specs.List.{Contains, AllByRecursion}
use Rattle.walk_core.specs.declared.lists.PutRow.{PutRow}
use Rattle.walk_core.specs.Guards.{put_rows, AreMarked, MayPut, IsUnread}
use Rattle.row_layout.specs.declared.places.Layout.{Layout}
use Rattle.row_table.specs.Blocked.{IsBlocked}
use Rattle.machine_plan.specs.Limbo.{shows_limbo}
use Rattle.epoch_grace.specs.Sweeping.{swept_rows}
use Rattle.book_sweep.specs.Sweeping.{SweepsBook}
use Rattle.call_steps.specs.Swept.{IsOnce, IsSweptTo}
use Rattle.call_steps.specs.Ready.{View, IsCovered, IsPrepared, KeepsRows, IsMadeOf}
use Rattle.call_steps.specs.Steps.{HasEntered}

-- a plan is made of the found book or of the swept one
abbrev pub GivesPlan : Type 0
GivesPlan = (files count depth : ℕ) (old m : BookData) (thread : ℕ) (c : Call) (v0 : View) (rows : List Row) (kit : Kit) → IsBook old → IsBook m → IsMadeOf m old → old.limits.levels ≡ depth → v0.layout.levels ≡ depth → length old.files ≡ files
    → IsCovered files thread c v0 rows → Learns machine count v0 old → IsPrepared thread c rows kit
    → HeldWith m (turned machine v0 old) rows × IsPlannable m thread c depth m.files rows kit

-- planned: the kit after the plan, kit: after the commit
abbrev pub GivesDetach : Type 0
GivesDetach = (m b : BookData) (thread : ℕ) (c : Call) (v : View) (rows rows' : List Row) (before planned kit : Kit) → thread < 8 → IsBook m → HasLevelsOf m v → HeldWith m v rows → Plans m thread c rows before rows' planned → kit.early ≡ planned.early
    → ((s : ℕ) → space_of c ≡ Some s → AreOf s rows) → length rows ≤ 1024
    → (IsNone (arguments (state_of m) c) → ShowsCover v.layout (zone_of thread c) v × HasCover (zone_of thread c) (state_of m) (ListHolds rows)) → IsCommitted m b thread c kit → IsDetachable m b thread c v rows' kit

pub record IsGiven (m b : BookData) (thread : ℕ) (c : Call) (v d e w : View) (rows rows' : List Row) (kit kit' : Kit) (old g : BookData) (generation : ℕ → ℕ) : Type 0 where
  pub ready : IsDetachable m b thread c v rows kit
  pub detached : Detached m b thread c v d rows rows' kit kit'
  pub keeps : KeepsRows d e
  pub after : w ≡ gave machine e old g generation
  -- no row that the pass holds is granted
  pub apart : (r : ℕ) → Has d.core.held r → times r (taken_rows machine old g) ≡ 0

abbrev pub GivesApply : Type 0
GivesApply = (m b : BookData) (thread : ℕ) (c : Call) (v d e w : View) (rows rows' : List Row) (kit kit' : Kit) (old g : BookData) (generation : ℕ → ℕ) → IsBook m → IsBook b → HasLevelsOf b v → IsGiven m b thread c v d e w rows rows' kit kit' old g generation
    → SameRows (map hand_row w.hand) (map (λ (x : ℕ × ℕ). x.0) kit'.rows.items) → SameRows (granted_rows w.core) (map (λ (x : ℕ × ℕ). x.0) kit'.rows.items) → IsApplicable m b thread c w rows' kit'

abbrev pub GivesLinks : Type 0
GivesLinks = (m b : BookData) (thread : ℕ) (c : Call) (v d e w : View) (rows rows' : List Row) (kit kit' : Kit) (old g : BookData) (generation : ℕ → ℕ) → IsGiven m b thread c v d e w rows rows' kit kit' old g generation → refusal (state_of m) thread c (length m.limbo) ≡ None
    → ShowsCover v.layout (zone_of thread c) v → IsDistinct (row_numbers rows) → IsDistinct (row_numbers rows') → (table_rows : ℕ) → d.hand ≡ [] → d.core.granted ≡ [] → w.core.unlinked ≡ [] → table_rows ≤ 1024
    → SameRows (taken_rows machine old g) (map (λ (x : ℕ × ℕ). x.0) kit'.rows.items) → ((r : ℕ) → Has (taken_rows machine old g) r → generation r < old.next_generation) → ((r : ℕ) → Has (taken_rows machine old g) r → r < table_rows)
    → old.next_generation ≡ m.next_generation → g.next_generation ≡ b.next_generation → length kit'.rows.items ≡ need (wanted_tables (state_of m) thread c) (state_of m).tables → IsLinkable m b thread c w rows' kit'

abbrev pub GivesRelease : Type 0
GivesRelease = (b g : BookData) (thread : ℕ) (c : Call) (w x : View) (rows : List Row) (kit kit' : Kit) → IsMadeOf g b → Applied b thread c w x rows kit kit' → w.last ≡ Some g → MayReleaseAll machine rows x × HoldsExactly rows x.core.held x.rows

abbrev pub GivesSum : Type 0
GivesSum = (m b : BookData) (thread : ℕ) (c : Call) (kit kit' : Kit) (r : Reply) → IsBook m → RowSum m → IsFilled m thread c kit → Commits m thread c kit r b kit' → refusal (state_of m) thread c (length m.limbo) ≡ None
    → (g : BookData) (gone : List Sampled) → g ≡ record b { limbo = b.limbo ++ gone } → length gone ≡ set.len (set.retain (state_of m).tables (is_given_up (state_of m) c)) → RowSum g

abbrev pub GivesFollow : Type 0
GivesFollow = (old m b g : BookData) (thread : ℕ) (c : Call) (kit kit' : Kit) (r : Reply) (v d : View) (rows : List Row) → IsMadeOf m old → Commits m thread c kit r b kit' → IsMadeOf g b → thread < 8 → IsBook old → CountsAre g → HasLevelsOf old v → IsDistinct (row_numbers rows) → HeldWith old v rows
    → ShowsCover v.layout (zone_of thread c) v → refusal (state_of m) thread c (length m.limbo) ≡ None → Leaves (state_of b) v d → RowSum old → RowSum g → Follows (region d) old g

abbrev pub GivesEntry : Type 0
GivesEntry = (v e w : View) (count : ℕ) (old g : BookData) (generation : ℕ → ℕ) (entry : Entry) → Learns machine count v old → e.number ≡ v.number → w ≡ gave machine e old g generation → g.journal ≡ old.journal ++ entry ∷ [] → entry.thread ≡ v.number → HasEntered v w entry

-- each row in limbo is one of the table's
abbrev pub GivesSweep : Type 0
GivesSweep = (k : Layout) (v w : View) (old m : BookData) → IsOnce old → ((q : ℕ) → Has (put_rows (map put_of old.limbo)) q → q < old.free.limit) → SweepsBook v old w m
    → ((row : ℕ) → Has (swept_rows old.limbo m.limbo) row → IsUnread k.passes (map put_of old.limbo) w.core row) → IsSweptTo k w old m

-- n rows were granted, and the rows of put came into limbo
abbrev pub GivesTaken : Type 0
GivesTaken = (k : Layout) (v : View) (old m g : BookData) → IsSweptTo k v old m → IsOnce old → (put : List PutRow) → map put_of g.limbo ≡ map put_of m.limbo ++ put → (n : ℕ) → free_list g ≡ drop n (free_list m)
    → ((q : ℕ) → Has (put_rows put) q → times q (put_rows (map put_of old.limbo)) ≡ 0) → SameRows (taken_rows machine old g) (take n (free_list m))

abbrev pub GivesShown : Type 0
GivesShown = (m b : BookData) (thread : ℕ) (c : Call) (kit kit' : Kit) (r : Reply) → IsBook m → RowSum m → IsFilled m thread c kit → Commits m thread c kit r b kit' → (old g : BookData) (passes : ℕ) (v : View)
    → g.journal ≡ old.journal ++ record { thread = thread; call = c; reply = r } ∷ [] → map put_of g.limbo ≡ map put_of m.limbo → (free_rows_within m < kit.rows_needed → (x : PutRow) → Contains (map put_of m.limbo) x → IsBlocked passes v.core x)
    → shows_limbo g ≡ true → (entry : Entry) → g.journal ≡ old.journal ++ entry ∷ [] → (x : PutRow) → Contains (map put_of g.limbo) x → IsBlocked passes v.core x

abbrev pub GivesGive : Type 0
GivesGive = (k : Layout) (v : View) (old m g : BookData) → IsSweptTo k v old m → IsOnce old → (put : List PutRow) → map put_of g.limbo ≡ map put_of m.limbo ++ put → (n : ℕ) → free_list g ≡ drop n (free_list m)
    → ((q : ℕ) → Has (put_rows put) q → times q (put_rows (map put_of old.limbo)) ≡ 0) → v.core.has_book ≡ true → Follows (region v) old g → ((entry : Entry) → g.journal ≡ old.journal ++ entry ∷ [] → entry.thread ≡ v.number)
    → (shows_limbo g ≡ true → (entry : Entry) → g.journal ≡ old.journal ++ entry ∷ [] → (x : PutRow) → Contains (map put_of g.limbo) x → IsBlocked k.passes v.core x)
    → IsDistinct (put_rows put) → AreMarked v.core put → AllByRecursion (MayPut (book_core machine k old) v.core) put → MayGive machine k v old g
