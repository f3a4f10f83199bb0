-- The step of a call that makes an access.
use Rattle.std.proofs.Common.{◌≡◌, ℕ, ◌<◌, Bool, true, false, cond, List, [], ◌∷◌, length, refl, sym, ap, subst, ◌∙◌, arith}
use mathlib.Core.Bool.{true≢false}
use Rattle.std.specs.Prelude.{Option, Some, None, IsSome, is_some, nat_lt}
use Rattle.std.specs.List.{list_any}
use Rattle.std.specs.Option.{option_or}
use Rattle.std.specs.Ordering.{nat_cmp, eq_by_cmp}
use Rattle.std.proofs.lemmas.Bool.{le-ltb, lt-ltb}
use Rattle.std.specs.FinMap as fin
use Rattle.std.specs.FinMap.{get}
use Rattle.std.specs.FinSet as set
use Rattle.std.specs.FinSet.{empty_of_len, len-empty}
use Rattle.corten_base.specs.declared.calls.Call.{Call}
use Rattle.corten_base.specs.declared.calls.Call.TheVariants as call
use Rattle.corten_base.specs.declared.calls.Reply.{Reply}
use Rattle.corten_base.specs.declared.calls.Reply.TheVariants as reply
use Rattle.table_place.specs.declared.Place.{Place}
use Rattle.table_place.specs.Place.{place_cmp}
use Rattle.table_place.specs.Range.{within}
use Rattle.page_map.specs.declared.cell.Cell.{Cell}
use Rattle.page_map.specs.declared.cell.Cell.TheVariants.{Anon, File, Mapped, Swapped}
use Rattle.page_map.specs.Alike.{unlike_tables}
use Rattle.page_map.specs.State.{State, AddressSpace, IsConsistent, levels, is_present, space_at, unused_frames, unused_slots}
use Rattle.page_map.specs.Takes.{grant}
use Rattle.page_map.specs.Tables.{Tables, missing, need, changed_tables}
use Rattle.page_map.specs.Access.{Access, first_page, page_count, outside_user_pages, refused_access, refused_at, wanting_frames, after_access, loaded}
use Rattle.page_map.specs.Effect.{frame_grants, is_given_up, state_after, answer}
use Rattle.page_map.specs.Step.{step, refusal, first_refusal, refused_unless, no_tables, no_swap}
use Rattle.page_map.proofs.Places.{place_total, place_exact}
use Rattle.page_map.proofs.Evaluate.{union_empty, difference_empty}
use Rattle.page_map.proofs.Growth.{all_stay}
use Rattle.page_map.proofs.Least.{unanswered}
use Rattle.page_map.proofs.Alike.{has_no_number}
use Rattle.page_map.proofs.Grants.{key_chosen}
use Rattle.page_map.proofs.NeedLaws.{needs_none}
use Rattle.page_map.proofs.NeedOf.{access_lack, numbered_lack}
use Rattle.page_map.proofs.Range.{inside}
use Rattle.page_map.proofs.Steps.{accepted, refused, not_none}
use Rattle.page_map.proofs.TablesAfter.{changed_with}
use Rattle.plain_counts.specs.Levels.{Lists}
use Rattle.plain_spaces.specs.Reach.{above_pages, reaching, storing, wanting, wants}
use Rattle.mm_model.specs.Accesses.{IsAccess, IsAllowed, after_reach}
use Rattle.mm_model.specs.Steps.{Refuses}
use Rattle.mm_model.specs.Lacking.{tables_lack}
use Rattle.mm_model.proofs.Lacks.{lack_same}

pub load_access : (st : State) (space at len : ℕ) → IsAccess st (call.Load space at len) space (reaching at len false)
load_access st space at len = record {
  arguments_are = refl;
  space_is = refl;
  no_new = refl;
  no_mapping = λ _. refl;
  pages_are = refl;
  wanted_are = λ _. refl;
  frames_are = refl;
  no_slots = refl;
  none_left = λ _. refl;
  spaces_are = λ _. refl;
}

pub store_access : (st : State) (space at : ℕ) (bytes : List ℕ) → IsAccess st (call.Store space at bytes) space (storing at bytes)
store_access st space at bytes = record {
  arguments_are = refl;
  space_is = refl;
  no_new = refl;
  no_mapping = λ _. refl;
  pages_are = refl;
  wanted_are = λ _. refl;
  frames_are = refl;
  no_slots = refl;
  none_left = λ _. refl;
  spaces_are = λ _. refl;
}

pub fault_access : (st : State) (space at : ℕ) (write : Bool) → IsAccess st (call.Fault space at write) space (reaching at 1 write)
fault_access st space at write = record {
  arguments_are = refl;
  space_is = refl;
  no_new = refl;
  no_mapping = λ _. refl;
  pages_are = refl;
  wanted_are = λ _. refl;
  frames_are = refl;
  no_slots = refl;
  none_left = λ _. refl;
  spaces_are = λ _. refl;
}

or_none : {A : Type 0} (o : Option A) → option_or o None ≡ o
or_none None = refl
or_none (Some x) = refl

-- a list of none needs none
pub no_need : (wanted : List Place) → wanted ≡ [] → (tables : Tables) → need wanted tables ≡ 0
no_need wanted none tables = ap (λ w. set.len (set.difference (set.from_list w) tables)) none ∙ ap set.len (difference_empty place_total place_exact tables) ∙ len-empty place_cmp

-- a page that refuses no access has a cell
has_cell : (files : List (List ℕ)) (write : Bool) (page : ℕ) (o : Option Cell) → refused_at files write page o ≡ None → IsSome o
has_cell files write page None e = absurd (not_none e)
has_cell files write page (Some c) e = refl

-- the pages of an access that is not refused have cells
pub page_there : (files : List (List ℕ)) (cells : AddressSpace) (a : Access) → refused_access files cells a ≡ None → (q : ℕ) → within (first_page a) (page_count a) q ≡ true → IsSome (get cells q)
page_there files cells a none q w =
    has_cell files a.write q (get cells q)
    (unanswered (λ page. refused_at files a.write page (get cells page)) (first_page a) (page_count a) none q (inside (first_page a) (page_count a) q w).0 (inside (first_page a) (page_count a) q w).1)

pub pages_there : (st : State) (space : ℕ) (a : Access) → refused_access st.files (space_at st space) a ≡ None → (q : ℕ) → within (first_page a) (page_count a) q ≡ true → get (space_at st space) q ≡ None → ⊥
pages_there st space a none q w gone = true≢false (sym (subst (λ o. IsSome o) gone (page_there st.files (space_at st space) a none q w)))

-- where none is needed, none comes and none goes
pub same_wanted : (given_up : Place → Bool) → ((p : Place) → given_up p ≡ false) → (wanted : List Place) (tables : Tables) → need wanted tables ≡ 0 → changed_tables given_up wanted tables ≡ tables
same_wanted given_up none wanted tables no_more =
    changed_with given_up tables wanted (λ p h. absurd (true≢false (sym h ∙ none p)))
    ∙ (λ i. set.union (all_stay given_up none [] tables i) (empty_of_len (missing wanted tables) no_more i))
    ∙ union_empty place_total place_exact tables

-- ---- accesses that want no frame

-- a page that wants no frame has one
framed : (owners : ℕ → ℕ) (write : Bool) (o : Option Cell) (c : Cell) → o ≡ Some c → wants owners write c ≡ false → has_no_number o ≡ false
framed owners write o (Mapped perm origin frame bytes) is e = ap has_no_number is
framed owners write o (Anon perm) is e = absurd (true≢false e)
framed owners write o (File perm file index) is e = absurd (true≢false e)
framed owners write o (Swapped perm origin slot bytes) is e = absurd (true≢false e)

all_framed : (owners : ℕ → ℕ) (cells : AddressSpace) (a : Access) → length (wanting owners cells a) ≡ 0 → ((q : ℕ) → within (first_page a) (page_count a) q ≡ true → get cells q ≡ None → ⊥) →
    (q : ℕ) → within (first_page a) (page_count a) q ≡ true → has_no_number (get cells q) ≡ false
all_framed owners cells a none there q w = go (get cells q) refl
  where
    no_key : (ks : List ℕ) → length ks ≡ 0 → list_any (eq_by_cmp nat_cmp q) ks ≡ true → ⊥
    no_key [] none h = true≢false (sym h)
    no_key (k ∷ ks) none h = absurd (omega (arith, none))

    unwanted : (c : Cell) → get cells q ≡ Some c → (b : Bool) → wants owners a.write c ≡ b → wants owners a.write c ≡ false
    unwanted c e false t = t
    unwanted c e true t = absurd (no_key (wanting owners cells a) none (key_chosen (first_page a) (page_count a) (wants owners a.write) cells q c e w t))

    go : (o : Option Cell) → get cells q ≡ o → has_no_number (get cells q) ≡ false
    go None e = absurd (there q w e)
    go (Some c) e = framed owners a.write (get cells q) c e (unwanted c e (wants owners a.write c) refl)

-- then all tables above its pages are there
pub none_lacked : (st : State) (space : ℕ) (a : Access) (owners : ℕ → ℕ) → IsConsistent st → refused_access st.files (space_at st space) a ≡ None → length (wanting owners (space_at st space) a) ≡ 0 →
    missing (above_pages (levels st) space a) st.tables ≡ set.empty
none_lacked st space a owners ok pages none =
    sym (numbered_lack st space ok (space_at st space) (first_page a) (page_count a) (λ _ _. refl) (all_framed owners (space_at st space) a none (pages_there st space a pages)))
    ∙ empty_of_len (missing (unlike_tables (levels st) space (space_at st space)) st.tables) (needs_none st space ok (space_at st space) (λ _ _. refl))

-- and nothing lists those that are missing
pub none_listed : (wanted : List Place) (tables : Tables) → missing wanted tables ≡ set.empty → Lists (missing wanted tables) []
none_listed wanted tables none = subst (λ s. Lists s []) (sym none) (record { same = refl; once = sym (len-empty place_cmp) })

-- too few frames
abbrev short : ℕ → ℕ → Option Reply
short free wanted = cond (nat_lt free wanted) (Some (reply.NoFrames free wanted)) None

module _ (st : State) (c : Call) (space : ℕ) (a : Access) (is : IsAccess st c space a) where
  abbrev by_pages : Option Reply
  by_pages = refused_access st.files (space_at st space) a

  abbrev free : ℕ
  free = length (unused_frames st)

  abbrev wanted : ℕ
  wanted = length (wanting_frames st (space_at st space) a)

  module _ (thread limbo : ℕ) where
    pub tables_are : IsConsistent st → ((q : ℕ) → within (first_page a) (page_count a) q ≡ true → get (space_at st space) q ≡ None → ⊥) →
        no_tables st thread c limbo ≡ tables_lack st (above_pages (levels st) space a) limbo
    tables_are ok mapped =
        ap (λ ps. tables_lack st ps limbo) (is.wanted_are thread)
        ∙ lack_same st (unlike_tables (levels st) space (after_access st.files (frame_grants st c) a (space_at st space))) (above_pages (levels st) space a) limbo
        (access_lack st space (frame_grants st c) a ok mapped)

    no_swap_wanted : no_swap st c ≡ None
    no_swap_wanted =
        ap (λ l. cond (nat_lt (length (unused_slots st)) (length l)) (Some (reply.NoSwap (length (unused_slots st)) (length l))) None) is.no_slots
        ∙ ap (λ b. cond b (Some (reply.NoSwap (length (unused_slots st)) 0)) None) (le-ltb (length (unused_slots st)) 0 (omega arith))

    refusal_is : refusal st thread c limbo
        ≡ option_or (outside_user_pages (levels st) a) (option_or (refused_unless (is_present st space) reply.NoSpace) (option_or by_pages (option_or (no_tables st thread c limbo) (short free wanted))))
    unfolding refusal
    refusal_is =
        (λ i. first_refusal (is.arguments_are i ∷ is.space_is i ∷ is.no_new i ∷ is.no_mapping thread i ∷ is.pages_are i ∷ no_tables st thread c limbo ∷ short free (length (is.frames_are i)) ∷ no_swap_wanted i ∷ []))
        ∙ ap (λ o. option_or (outside_user_pages (levels st) a) (option_or (refused_unless (is_present st space) reply.NoSpace) (option_or by_pages (option_or (no_tables st thread c limbo) o)))) (or_none (short free wanted))

    after_is : after_reach st space a ≡ state_after st thread c
    unfolding state_after
    after_is =
        let cells : (keys : List ℕ) → AddressSpace = λ keys. after_access st.files (grant keys (unused_frames st)) a (space_at st space) in
        sym (λ i. record st {
          spaces = (is.spaces_are thread ∙ ap (λ keys. fin.insert st.spaces space (cells keys)) is.frames_are) i;
          tables = (ap (λ ps. changed_tables (is_given_up st c) ps st.tables) (is.wanted_are thread ∙ ap (λ keys. unlike_tables (levels st) space (cells keys)) is.frames_are)
              ∙ ap (λ s. set.union s (set.from_list (unlike_tables (levels st) space (cells (wanting_frames st (space_at st space) a))))) (all_stay (is_given_up st c) is.none_left [] st.tables)) i;
        })

    pub passes : IsAllowed st space limbo a → refusal st thread c limbo ≡ None
    passes allowed = refusal_is
        ∙ (λ i. option_or (allowed.user i) (option_or (refused_unless (allowed.present i) reply.NoSpace) (option_or (allowed.pages i) (option_or ((tables_are allowed.facts (pages_there st space a allowed.pages) ∙ allowed.tables) i) (short free wanted)))))
        ∙ ap (λ b. cond b (Some (reply.NoFrames free wanted)) None) (le-ltb free wanted allowed.frames)

    -- the call that nothing refuses
    pub step_made : IsAllowed st space limbo a → (st' : State) → st' ≡ after_reach st space a → (r : Reply) → r ≡ answer st thread c → (r, st') ≡ step st thread c limbo
    step_made allowed st' after r says = (λ i. (says i, (after ∙ after_is) i)) ∙ sym (accepted st thread c limbo (passes allowed))

    pub step_refused : (r : Reply) → Refuses st limbo c r → (st' : State) → st' ≡ st → (r, st') ≡ step st thread c limbo
    step_refused r h st' same = (λ i. (r, same i)) ∙ sym (refused st thread c limbo r (h thread))

  module _ (limbo : ℕ) where
    abbrev later : ℕ → Option Reply
    later thread = option_or (no_tables st thread c limbo) (short free wanted)

    pub refused_outside : (r : Reply) → outside_user_pages (levels st) a ≡ Some r → Refuses st limbo c r
    refused_outside r e thread =
        refusal_is thread limbo ∙ ap (λ o. option_or o (option_or (refused_unless (is_present st space) reply.NoSpace) (option_or by_pages (later thread)))) e

    module _ (user : outside_user_pages (levels st) a ≡ None) where
      pub refused_absent : get st.spaces space ≡ None → Refuses st limbo c reply.NoSpace
      refused_absent absent thread =
          refusal_is thread limbo ∙ (λ i. option_or (user i) (option_or (refused_unless (is_some (absent i)) reply.NoSpace) (option_or by_pages (later thread))))

      module _ (present : is_present st space ≡ true) where
        pub refused_pages : (r : Reply) → by_pages ≡ Some r → Refuses st limbo c r
        refused_pages r e thread =
            refusal_is thread limbo ∙ (λ i. option_or (user i) (option_or (refused_unless (present i) reply.NoSpace) (option_or (e i) (later thread))))

        module _ (ok : IsConsistent st) (allowed : by_pages ≡ None) where
          pub refused_tables : (r : Reply) → tables_lack st (above_pages (levels st) space a) limbo ≡ Some r → Refuses st limbo c r
          refused_tables r e thread =
              refusal_is thread limbo
              ∙ (λ i. option_or (user i) (option_or (refused_unless (present i) reply.NoSpace) (option_or (allowed i) (option_or ((tables_are thread limbo ok (pages_there st space a allowed) ∙ e) i) (short free wanted)))))

          pub refused_frames : tables_lack st (above_pages (levels st) space a) limbo ≡ None → free < wanted → Refuses st limbo c (reply.NoFrames free wanted)
          refused_frames enough less thread =
              refusal_is thread limbo
              ∙ (λ i. option_or (user i) (option_or (refused_unless (present i) reply.NoSpace) (option_or (allowed i) (option_or ((tables_are thread limbo ok (pages_there st space a allowed) ∙ enough) i)
              (cond (lt-ltb free wanted less i) (Some (reply.NoFrames free wanted)) None)))))

pub load_answer : (st : State) (thread space at len : ℕ) → reply.Bytes (loaded st.files (space_at st space) (reaching at len false)) ≡ answer st thread (call.Load space at len)
unfolding answer
load_answer st thread space at len = refl

pub store_answer : (st : State) (thread space at : ℕ) (bytes : List ℕ) → reply.Ok ≡ answer st thread (call.Store space at bytes)
unfolding answer
store_answer st thread space at bytes = refl

pub fault_answer : (st : State) (thread space at : ℕ) (write : Bool) → reply.Ok ≡ answer st thread (call.Fault space at write)
unfolding answer
fault_answer st thread space at write = refl
