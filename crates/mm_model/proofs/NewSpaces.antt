-- A new space: what its numbers do to the counts, and what stays as it was.
use Rattle.std.proofs.Common.{◌≡◌, ℕ, ◌+◌, Bool, true, false, cond, not, ◌&&◌, List, [], ◌∷◌, length, Bor, refl, sym, ap, subst, take_all, ◌∙◌, arith}
use mathlib.Core.Bool.{true≢false}
use Rattle.std.specs.Prelude.{Option, Some, None, IsSome, is_some}
use Rattle.std.specs.Option.{option_map_or, option_copied, unwrap_or}
use Rattle.std.specs.List.{count_by}
use Rattle.std.specs.Ordering.{nat_cmp}
use Rattle.std.specs.Cmp.{nat_cmp_total, nat_eq_equiv, unsigned_tied}
use Rattle.std.specs.FinMap as fin
use Rattle.std.specs.FinMap.{get, get-empty, get-insert}
use Rattle.std.specs.FinSet as set
use Rattle.std.specs.FinSet.{same_set, contains-difference, contains-empty, contains-from_list, len-empty, len-insert}
use Rattle.table_place.specs.declared.Place.{Place}
use Rattle.table_place.specs.Place.{place_cmp, root}
use Rattle.page_map.specs.declared.cell.Cell.{Cell}
use Rattle.page_map.specs.Cell.{frame_of, slot_of}
use Rattle.page_map.specs.State.{State, AddressSpace, IsConsistent, levels, space_at, carries, owners}
use Rattle.page_map.specs.Tables.{Tables, missing}
use Rattle.page_map.specs.Spaces.{copied_tables}
use Rattle.page_map.proofs.NeedOfCopies.{copies_missing}
use Rattle.page_map.proofs.Places.{place_total, place_exact}
use Rattle.page_map.proofs.Steps.{not_none}
use Rattle.page_map.proofs.Owners.{same_some}
use Rattle.page_map.proofs.Wanted.{is_wanted, root_is}
use Rattle.page_map.proofs.Weights.{weight_insert}
use Rattle.plain_counts.specs.Fronts.{AreFull}
use Rattle.plain_counts.specs.Levels.{Lists}
use Rattle.plain_counts.specs.declared.counts.Counts.{Counts}
use Rattle.plain_counts.specs.Counts.{carried, IsCounted, AreCounted}
use Rattle.plain_counts.proofs.Missing.{taken_out}
use Rattle.plain_spaces.specs.Copies.{IsRoomy, AreRoomy, JoinsAll, JoinAll}
use Rattle.mm_model.specs.Plain.{IsSound, owner_counts}
use Rattle.mm_model.specs.NewSpaces.{with_space, AreOwned, MayMake}
use Rattle.mm_model.proofs.Carried.{AreBelow, counts_long, counts_from, counted_at, each_count}
use Rattle.mm_model.proofs.Full.{still_full, cells_stay}

-- ---- counts

-- the cells of a space that was absent count for the numbers that they carry
pub owners_join : (number_of : Cell → Option ℕ) (st : State) (new : ℕ) (cells : AddressSpace) (tables : Tables) (n : ℕ) → get st.spaces new ≡ None →
    owners number_of (record st { spaces = fin.insert st.spaces new cells; tables = tables }) n ≡ owners number_of st n + carried number_of n cells
unfolding owners
owners_join number_of st new cells tables n absent =
    let w : AddressSpace → ℕ = λ cells. count_by (carries number_of n) (fin.values cells) in
    let none : option_map_or w (get st.spaces new) 0 ≡ 0 = ap (λ o. option_map_or w o 0) absent in
    omega (arith, weight_insert nat_cmp_total w st.spaces new cells, none)

module _ (number_of : Cell → Option ℕ) (st : State) (limit : ℕ) (counts : List ℕ) (are : counts ≡ owner_counts (owners number_of st) limit) where
  module _ (below : AreBelow number_of st limit) where
    pub owned_counted : (cells : AddressSpace) → AreOwned number_of (owners number_of st) cells → IsCounted number_of counts cells
    owned_counted cells owned = record { each = λ n. omega (arith, owned.owned n, each_count number_of st limit counts are below n) }

    pub owned_roomy : (cells : AddressSpace) → AreOwned number_of (owners number_of st) cells → IsRoomy number_of counts cells
    owned_roomy cells owned = record { each = λ n. omega (arith, owned.few n, each_count number_of st limit counts are below n) }

  pub joined_counts : (new : ℕ) (cells : AddressSpace) (tables : Tables) (after : List ℕ) → get st.spaces new ≡ None → JoinsAll number_of counts after cells →
      after ≡ owner_counts (owners number_of (record st { spaces = fin.insert st.spaces new cells; tables = tables })) limit
  joined_counts new cells tables after absent joins =
      counts_from (owners number_of (record st { spaces = fin.insert st.spaces new cells; tables = tables })) limit after (joins.numbers ∙ counts_long (owners number_of st) limit counts are)
      (λ n h. omega (arith, joins.counts n, counted_at (owners number_of st) limit counts are n h, owners_join number_of st new cells tables n absent))

-- ---- fronts

pub born_full : (st : State) (new : ℕ) (cells : AddressSpace) (tables : Tables) (fronts : List ℕ) → get st.spaces new ≡ None → AreFull st fronts → AreFull (record st { spaces = fin.insert st.spaces new cells; tables = tables }) fronts
born_full st new cells tables fronts absent full =
    still_full st (record st { spaces = fin.insert st.spaces new cells; tables = tables }) fronts (cells_stay st new cells tables (λ q there. absurd (nothing q there))) full
  where
    nothing : (q : ℕ) → IsSome (get (space_at st new) q) → ⊥
    nothing q there = true≢false (sym (subst (λ o. IsSome o) (ap (λ (o : Option AddressSpace). get (unwrap_or o fin.empty) q) absent ∙ get-empty nat_cmp q) there))

-- ---- tables

-- tables of a space that is absent are not there
pub absent_apart : (st : State) (new : ℕ) (wanted : List Place) → IsConsistent st → get st.spaces new ≡ None → ((q : Place) → is_wanted wanted q ≡ true → q.space ≡ new) →
    missing wanted st.tables ≡ set.from_list wanted
absent_apart st new wanted ok absent mine = same_set place_total place_exact _ _ (λ q.
    contains-difference place_total (set.from_list wanted) st.tables q
    ∙ go q (set.contains (set.from_list wanted) q) (set.contains st.tables q) (sym (contains-from_list place_total wanted q)) refl)
  where
    go : (q : Place) (a b : Bool) → is_wanted wanted q ≡ a → set.contains st.tables q ≡ b → (a && not b) ≡ a
    go q false b ea eb = refl
    go q true false ea eb = refl
    go q true true ea eb = absurd (true≢false (sym (ok.absent q eb) ∙ ap (λ n. is_some (get st.spaces n)) (mine q ea) ∙ ap is_some absent))

-- the root alone
root_missing : (st : State) (new : ℕ) → IsConsistent st → get st.spaces new ≡ None → missing (root (levels st) new ∷ []) st.tables ≡ set.from_list (root (levels st) new ∷ [])
root_missing st new ok absent = absent_apart st new (root (levels st) new ∷ []) ok absent (λ q h. ap (λ (p : Place). p.space) (root_is (levels st) new q h))

root_once : (st : State) (new : ℕ) → IsConsistent st → get st.spaces new ≡ None → 1 ≡ set.len (missing (root (levels st) new ∷ []) st.tables)
root_once st new ok absent = sym (ap set.len (root_missing st new ok absent) ∙ len-insert place_total set.empty (root (levels st) new) ∙ (λ i. cond (contains-empty place_cmp (root (levels st) new) i) (len-empty place_cmp i) (len-empty place_cmp i + 1)))

pub root_listed : (st : State) (new : ℕ) (items : List Place) → IsConsistent st → get st.spaces new ≡ None → items ≡ root (levels st) new ∷ [] → Lists (missing (root (levels st) new ∷ []) st.tables) items
root_listed st new items ok absent is =
    subst (Lists (missing (root (levels st) new ∷ []) st.tables)) (sym is) (record { same = sym (root_missing st new ok absent); once = root_once st new ok absent })

-- those of a copy
pub copies_listed : (st : State) (space new : ℕ) (items : List Place) → IsConsistent st → get st.spaces new ≡ None → Lists (set.from_list (copied_tables st space new)) items → Lists (missing (copied_tables st space new) st.tables) items
copies_listed st space new items ok absent lists = subst (λ s. Lists s items) (sym (copies_missing st space ok new (ap is_some absent))) lists

-- tables that were put in and are taken out again
pub taken_back : (tables put left : Tables) (items : List Place) → set.difference tables (set.from_list items) ≡ tables → put ≡ set.union tables (set.from_list items) → left ≡ set.difference put (set.from_list items) → left ≡ tables
taken_back tables put left items apart put_is is =
    is ∙ ap (λ s. set.difference s (set.from_list items)) (put_is ∙ ap (λ ps. set.union tables (set.from_list ps)) (sym (take_all (length items) items (omega arith))))
    ∙ taken_out place_total place_exact tables items (length items) apart

-- ---- what the machine keeps

module _ (st : State) (new : ℕ) (cells : AddressSpace) (tables : List Place) (counts : Counts) (fronts : List ℕ) (may : MayMake st new cells tables) (sound : IsSound st counts fronts) where
  pub counted_in : AreCounted counts cells
  counted_in = record {
    frames = owned_counted frame_of st st.limits.frames counts.frames sound.frame_counts sound.state.frames cells may.frames;
    slots = owned_counted slot_of st st.limits.swap counts.slots sound.slot_counts sound.state.slots cells may.slots;
  }

  pub roomy_in : AreRoomy counts cells
  roomy_in = record {
    frames = owned_roomy frame_of st st.limits.frames counts.frames sound.frame_counts sound.state.frames cells may.frames;
    slots = owned_roomy slot_of st st.limits.swap counts.slots sound.slot_counts sound.state.slots cells may.slots;
  }

  abbrev with_tables : Tables
  with_tables = set.union st.tables (set.from_list tables)

  made_sound : (counts' : Counts) → JoinAll counts counts' cells → IsSound (with_space st new cells tables) counts' fronts
  made_sound counts' join = record {
    state = may.keeps;
    limits = sound.limits;
    frame_counts = joined_counts frame_of st st.limits.frames counts.frames sound.frame_counts new cells with_tables counts'.frames may.absent join.frames;
    slot_counts = joined_counts slot_of st st.limits.swap counts.slots sound.slot_counts new cells with_tables counts'.slots may.absent join.slots;
    full = born_full st new cells with_tables fronts may.absent sound.full;
  }

  module _ (put : Tables) (put_is : put ≡ with_tables) where
    pub is_made : (spaces : fin.FinMap nat_cmp AddressSpace) → spaces ≡ fin.insert st.spaces new cells → record st { spaces = spaces; tables = put } ≡ with_space st new cells tables
    is_made spaces is = λ i. record st { spaces = is i; tables = put_is i }

    pub made_is_sound : (spaces : fin.FinMap nat_cmp AddressSpace) → spaces ≡ fin.insert st.spaces new cells → (counts' : Counts) → JoinAll counts counts' cells → IsSound (record st { spaces = spaces; tables = put }) counts' fronts
    made_is_sound spaces is counts' join = subst (λ (n : State). IsSound n counts' fronts) (sym (is_made spaces is)) (made_sound counts' join)

    -- without memory they are taken out again
    pub back : (left : Tables) → left ≡ set.difference put (set.from_list tables) → left ≡ st.tables
    back left is = taken_back st.tables put left tables may.apart put_is is

-- ---- what was just put in

pub get_inserted : {X : Type 0} (m : fin.FinMap nat_cmp X) (k : ℕ) (x : X) → get (fin.insert m k x) k ≡ Some x
get_inserted m k x = get-insert nat_cmp_total m k x k ∙ ap (λ b. cond b (Some x) (get m k)) (unsigned_tied k k ∙ nat_eq_equiv.refl k)

pub borrowed : {X : Type 0} (r : Option (Bor X)) (x : X) → option_copied r ≡ Some x → IsSome r
borrowed None x e = absurd (not_none (sym e))
borrowed (Some b) x e = refl

pub lent_is : {X : Type 0} (r : Option (Bor X)) (b : Bor X) (x : X) → r ≡ Some b → option_copied r ≡ Some x → b.now ≡ x
lent_is r b x is e = same_some (sym (ap option_copied is) ∙ e)
