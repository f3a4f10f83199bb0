-- What a turn and a give make of what a pass knows, and what they ask and tell.
--     IsHeldAt, IsBelow, region      the positions of a pass's rows, those of the linked rows below them that it does not hold, and its region
--     book_core      a core of which nothing but the book's lists is known
--     swept_rows, put_list, taken_rows, give_of      the three lists of a give, by the books before and after, and the event
--     MayGive      when a pass may give the second book, where its turn found the first
--     turned, waited, gave      the pass after a turn that got the book, after one that did not, and after a give
--     Learns      what a turn that got the book tells
--     TurnSays, TurnTells, Grants, GiveSays, GiveTells      what a step tells its seat
--     Turns, Gives, IsGivable      what a turn answers, what a give does, and when it may
use Rattle.std.specs.Prelude.{◌≡◌, ◌≢◌, ℕ, ◌+◌, ◌<◌, ◌≤◌, not, true, false, List, [], ◌∷◌, ◌++◌, map, slice_index, None, Some}
use Rattle.std.specs.List.{Contains, filter}
use Rattle.atomic_table.specs.Table.{Step, rest}
use Rattle.table_place.specs.declared.Place.{Place}
use Rattle.table_place.specs.Place.{entry_place, has_page}
use Rattle.walk_core.specs.declared.event.Event.{Event}
use Rattle.walk_core.specs.declared.event.Event.TheVariants.{Give}
use Rattle.walk_core.specs.declared.lists.PutRow.{PutRow}
use Rattle.walk_core.specs.Words.{is_link, link_row, held_by}
use Rattle.walk_core.specs.Lists.{times, Has, among, minus}
use Rattle.walk_core.specs.Core.{Core, no_samples, times_in_hand}
use Rattle.walk_core.specs.Events.{newly_granted, unlinked_after_give, free_after, limbo_after}
use Rattle.walk_core.specs.Guards.{Guard, put_rows}
use Rattle.row_layout.specs.declared.places.Layout.{Layout}
use Rattle.row_table.specs.declared.plan.Content.TheVariants.{Book}
use Rattle.row_table.specs.declared.answers.Turned.{Turned}
use Rattle.row_table.specs.declared.answers.Turned.TheVariants.{Got, Held}
use Rattle.row_table.specs.declared.view.PassView.{PassView}
use Rattle.row_table.specs.declared.view.HeldRow.{HeldRow}
use Rattle.row_table.specs.declared.view.HandRow.{HandRow}
use Rattle.row_table.specs.Plan.{Meaning, Region}
use Rattle.row_table.specs.Rule.{Slot, Seat, StartsWith, SameRows, view, own_places, core_of, Agrees}
use Rattle.row_table.specs.Vacant.{vacant_entries}
use Rattle.row_table.specs.Known.{IsAnother, IsRight}
use Rattle.row_table.specs.Moves.{NotInHand}
use Rattle.row_table.specs.Blocked.{IsBlocked}

abbrev pub given : {R : Type 0} → HeldRow R → HeldRow R
given h = record h { is_given = true; vacant = vacant_entries h.words }

module _ {R B E : Type 0} where
  -- The region of a pass

  abbrev pub IsHeldAt : PassView R B E → Place → Type 0
  IsHeldAt v p = (h : HeldRow R) × Contains v.rows h × NotInHand v h.row × (h.place ≡ p)

  pub record IsBelow (v : PassView R B E) (p : Place) : Type 0 where
    pub linker : HeldRow R
    pub held : Contains v.rows linker
    pub index : ℕ
    pub inside : index < 512
    pub link : is_link (slice_index linker.words index) ≡ true
    pub child_held : ¬ Has v.core.held (link_row (slice_index linker.words index))
    pub place : p ≡ entry_place v.layout.levels linker.place index

  abbrev pub region : PassView R B E → Region
  region v = record {
    holds = IsHeldAt v;
    has = λ space page. ((p : Place) × IsHeldAt v p × (has_page p space page ≡ true)) × ((p : Place) → IsBelow v p → has_page p space page ≡ false);
  }

  -- the pass after a turn that found the word n, which is not 0
  abbrev pub waited : PassView R B E → ℕ → PassView R B E
  waited v n = record v { turn = Some n }

  module _ (M : Meaning R B E) where
    -- The lists of a give

    abbrev pub book_core : Layout → B → Core
    book_core k book = core_of M k [] [] (M.free book) book

    abbrev pub swept_rows : B → B → List ℕ
    swept_rows old new = minus (put_rows (M.limbo new)) (put_rows (M.limbo old))

    abbrev pub put_list : B → B → List PutRow
    put_list old new = filter (λ k. not (among (put_rows (M.limbo old)) k.row)) (M.limbo new)

    abbrev pub taken_rows : B → B → List ℕ
    taken_rows old new = minus (M.free new) (M.free old ++ swept_rows old new)

    abbrev pub give_of : ℕ → B → B → Event
    give_of p old new = Give p (put_list old new) (swept_rows old new) (taken_rows old new)

    pub record MayGive (k : Layout) (v : PassView R B E) (old new : B) : Type 0 where
      pub follows : M.may_follow (region v) old new
      pub names : (entry : E) → M.journal new ≡ M.journal old ++ entry ∷ [] → M.thread entry ≡ v.number
      pub guard : Guard (book_core k old) v.core (give_of v.number old new)
      pub free : SameRows (free_after (give_of v.number old new) (M.free old)) (M.free new)
      pub limbo : M.limbo new ≡ limbo_after (give_of v.number old new) (M.limbo old)
      -- where there is a new entry and it shows the limbo, each row in limbo has a reader
      pub blocked : M.shows_limbo new ≡ true → (entry : E) → M.journal new ≡ M.journal old ++ entry ∷ [] → (x : PutRow) → Contains (M.limbo new) x → IsBlocked k.passes v.core x

    -- What the pass knows afterwards

    abbrev pub turned : PassView R B E → B → PassView R B E
    turned v book = record v { core = record v.core { has_book = true; samples = no_samples }; found = Some book; seen = M.journal book; turn = Some 0 }

    -- the rows that a give grants, by the generation of each
    abbrev pub hand_rows : (ℕ → ℕ) → B → B → List ℕ → List HandRow
    hand_rows generation old new rows = map (λ r. record { row = r; generation = generation r; low = M.next_generation old; high = M.next_generation new; place = None }) rows

    abbrev pub gave : PassView R B E → B → B → (ℕ → ℕ) → PassView R B E
    gave v old new generation = record v {
      core = record v.core { has_book = false; granted = v.core.granted ++ map newly_granted (taken_rows old new); unlinked = unlinked_after_give (put_list old new) v.core.unlinked };
      rows = map given v.rows;
      hand = v.hand ++ hand_rows generation old new (taken_rows old new);
      found = None;
      last = Some new;
      seen = M.journal new;
      mine = own_places M v.number (M.journal new);
    }

    -- What the steps tell

    -- of a book that was got, where there are so many rows: it goes on from what the pass knows, and its rows are in no other list and not held by the pass
    pub record Learns (rows : ℕ) (v : PassView R B E) (book : B) : Type 0 where
      pub right : IsRight v
      pub seen : StartsWith (M.journal book) v.seen
      pub mine : v.mine ≡ own_places M v.number (M.journal book)
      pub fixed : (first : B) → v.origin ≡ Some first → M.same_fixed first book
      pub agree : (h : HeldRow R) → Contains v.rows h → NotInHand v h.row → Agrees M book v.last h
      pub hand : (x : HandRow) → Contains v.hand x → x.high ≤ M.next_generation book
      pub once : (r : ℕ) → times r (M.free book) + times r (put_rows (M.limbo book)) + times_in_hand r v.core ≤ 1
      pub there : (r : ℕ) → rows ≤ r → times r (M.free book) + times r (put_rows (M.limbo book)) ≡ 0
      pub apart : (r : ℕ) → Has v.core.held r → times r (M.free book) + times r (put_rows (M.limbo book)) ≡ 0

    -- of a turn that found n, where the book's slot is behind so many rows
    abbrev pub TurnSays : Seat R B E → ℕ → Seat R B E → ℕ → Type 0
    TurnSays m n m' rows = (n ≡ 0 → (book : B) × Learns rows (view m) book × (m' ≡ (turned (view m) book ∷ [], (rows, Some (Book book)) ∷ m.1)))
        × (n ≢ 0 → IsRight (view m) × (s : ℕ) × (n ≡ held_by s) × (n ≤ 255) × IsAnother (view m) s × (m' ≡ (waited (view m) n ∷ [], m.1)))

    abbrev pub TurnTells : Step (Slot R B) → Seat R B E → ℕ → Seat R B E → Type 0
    TurnTells st m n m' = (rows : ℕ) → st.slots ≡ rows + 1 → TurnSays m n m' rows

    -- the generation of each row that a give grants is below the next one that the turn found, and the row is one of so many
    pub record Grants (rows : ℕ) (old new : B) : Type 0 where
      pub generation : ℕ → ℕ
      pub low : (r : ℕ) → Has (taken_rows old new) r → generation r < M.next_generation old
      pub there : (r : ℕ) → Has (taken_rows old new) r → r < rows

    -- of a give of the second book, where the turn found the first
    abbrev pub GiveSays : Seat R B E → Seat R B E → B → B → Type 0
    GiveSays m m' old new = (grants : Grants (view m).layout.rows old new) × (m' ≡ (gave (view m) old new grants.generation ∷ [], rest m.1))

    abbrev pub GiveTells : Step (Slot R B) → Seat R B E → ℕ → Seat R B E → Type 0
    GiveTells st m n m' = (rows : ℕ) (old new : B) → (view m).found ≡ Some old → m.1 ≡ (rows, Some (Book new)) ∷ rest m.1 → GiveSays m m' old new

    -- What the calls answer

    abbrev pub Turns : ℕ → PassView R B E → Turned B → PassView R B E → Type 0
    Turns rows v (Got book) w = Learns rows v book × (w ≡ turned v book)
    Turns rows v (Held holder) w = IsRight v × IsAnother v holder × (w ≡ waited v (held_by holder))

    pub record Gives (v : PassView R B E) (new : B) (w : PassView R B E) : Type 0 where
      pub old : B
      pub found : v.found ≡ Some old
      pub grants : Grants v.layout.rows old new
      pub after : w ≡ gave v old new grants.generation

    -- the book that the pass has may be given in this form
    pub record IsGivable (k : Layout) (v : PassView R B E) (new : B) : Type 0 where
      pub old : B
      pub found : v.found ≡ Some old
      pub may : MayGive k v old new
