-- A call that builds: nothing refuses it, and it leaves the map that has one item more.
--     subset_len      a set of tables that is part of another has no more
--     allowed, Holds      the tables that an image wants;  what holds of the state when some items are built
--     Building      what the definitions make of a call that puts these cells into space 0
--     Built, builds      that it is accepted, and what holds afterwards
use Rattle.std.proofs.Common.{◌≡◌, ℕ, ◌+◌, ◌<◌, ◌≤◌, Bool, true, false, cond, not, ◌&&◌, List, length, refl, sym, ap, subst, ◌∙◌, arith, inl, inr}
use mathlib.Core.Bool.{true≢false}
use Rattle.std.specs.Prelude.{Some, None, nat_eq, nat_lt}
use Rattle.std.specs.FinMap as map
use Rattle.std.specs.FinSet as set
use Rattle.std.specs.FinSet.{same_set, len-insert, contains-insert, contains-retain, contains-from_list}
use Rattle.std.specs.Ordering.{eq_by_cmp}
use Rattle.std.proofs.lemmas.Bool.{eqb-true, false_from_ne_true, ltb-true, or_right}
use Rattle.corten_base.specs.declared.calls.Call.{Call}
use Rattle.corten_base.specs.declared.calls.Reply.{Reply}
use Rattle.table_place.specs.declared.Place.{Place}
use Rattle.table_place.specs.Place.{place_cmp, root, span_first, span_count}
use Rattle.page_map.specs.Alike.{is_alike, is_unlike, unlike_tables}
use Rattle.page_map.specs.Effect.{answer, is_given_up, spaces_after, state_after, wanted_tables, wanting_frames_of, wanting_slots_of}
use Rattle.page_map.specs.Memory.{is_refusal}
use Rattle.page_map.specs.State.{AddressSpace, IsConsistent, State, is_present, levels, linked, space_at, unused_frames, unused_slots}
use Rattle.page_map.specs.Step.{arguments, no_place, no_space, no_spaces, pages, step}
use Rattle.page_map.specs.Tables.{Tables, changed_tables, need}
use Rattle.page_map.proofs.Cells.{changed, present_changed, spaces_changed}
use Rattle.page_map.proofs.Evaluate.{alike}
use Rattle.page_map.proofs.Growth.{grown_len, retained_fewer, whence}
use Rattle.page_map.proofs.Places.{place_exact, place_total}
use Rattle.page_map.proofs.Replies.{answer_accepts}
use Rattle.page_map.proofs.StepKeeps.{after_keeps}
use Rattle.page_map.proofs.Steps.{Passed, accepted, by_none}
use Rattle.page_map.proofs.TableLaws.{listed_unlike, unlike_listed}
use Rattle.image_text.specs.declared.image.Item.{Item}
use Rattle.image_text.specs.Items.{AreEqualButForNumbers, cells_of}
use Rattle.image_text.specs.Images.{ImageParts, unlike_count}
use Rattle.space_image.proofs.InOrder.{InOrder}
use Rattle.space_image.proofs.PartSpans.{IsPartOf, alike_kept, alike_same}

pub subset_len : (s t : Tables) → ((p : Place) → set.contains s p ≡ true → set.contains t p ≡ true) → set.len s ≤ set.len t
subset_len s t sub = few (ap set.len same) (retained_fewer t keep)
  where
    keep : Place → Bool
    keep p = set.contains s p

    few : {a b c : ℕ} → a ≡ b → a ≤ c → b ≤ c
    few e h = omega (arith, e, h)

    both : (a b : Bool) → (b ≡ true → a ≡ true) → (a && b) ≡ b
    both true b h = refl
    both false false h = refl
    both false true h = absurd (true≢false (sym (h refl)))

    same : set.retain t keep ≡ s
    same = same_set place_total place_exact _ _ (λ q. contains-retain t keep q (alike place_total place_exact keep q) ∙ both (set.contains t q) (set.contains s q) (sub q))

-- the root's, and those whose spans are not alike in the image
abbrev pub allowed : ImageParts → Tables
allowed image = set.insert (set.from_list {R = place_cmp} (unlike_tables image.limits.levels 0 (cells_of image.items))) (root image.limits.levels 0)

allowed_few : (image : ImageParts) → set.len (allowed image) ≤ 1 + unlike_count image.limits.levels (cells_of image.items)
allowed_few image = go _ (len-insert place_total (set.from_list (unlike_tables image.limits.levels 0 (cells_of image.items))) (root image.limits.levels 0))
  where
    n : ℕ
    n = unlike_count image.limits.levels (cells_of image.items)

    go : (b : Bool) → set.len (allowed image) ≡ cond b n (n + 1) → set.len (allowed image) ≤ 1 + n
    go true e = omega (arith, e)
    go false e = omega (arith, e)

pub record Holds (image : ImageParts) (made : List Item) (st : State) : Type 0 where
  pub ok : IsConsistent st
  pub limits : st.limits ≡ image.limits
  pub files : st.files ≡ image.files
  pub present : is_present st 0 ≡ true
  pub alone : (s : ℕ) → is_present st s ≡ true → s ≡ 0
  pub tables : (p : Place) → set.contains st.tables p ≡ true → set.contains (allowed image) p ≡ true
  pub cells : AreEqualButForNumbers (cells_of made) (space_at st 0)

pub record Building (st : State) (c : Call) (cells : AddressSpace) : Type 0 where
  pub arguments : arguments st c ≡ None
  pub space : no_space st c ≡ None
  pub spaces : no_spaces st c ≡ None
  pub place : no_place st 0 c ≡ None
  pub pages : pages st c ≡ None
  pub frames : length (wanting_frames_of st c) ≤ length (unused_frames st)
  pub slots : length (wanting_slots_of st c) ≤ length (unused_slots st)
  pub wanted : wanted_tables st 0 c ≡ unlike_tables (levels st) 0 cells
  pub kept : (p : Place) → is_given_up st c p ≡ false
  pub spaces_are : spaces_after st 0 c ≡ map.insert st.spaces 0 cells

pub record Built (image : ImageParts) (made : List Item) (st : State) (c : Call) : Type 0 where
  pub not_refused : is_refusal (step st 0 c 0).0 ≡ false
  pub holds : Holds image made (step st 0 c 0).1

not_less : (a b : ℕ) → b ≤ a → nat_lt a b ≡ false
not_less a b h = false_from_ne_true _ (λ t. absurd (omega (arith, h, ltb-true a b t)))

never : (r : Reply) (t : Bool) → t ≡ false → cond t (Some r) None ≡ None
never r false e = refl
never r true e = absurd (true≢false e)

module _ (image : ImageParts) (order : InOrder None image.items) (room : 1 + unlike_count image.limits.levels (cells_of image.items) ≤ image.limits.tables)
    (made : List Item) (st : State) (holds : Holds image made st) (c : Call) (cells : AddressSpace) (b : Building st c cells)
    (more : List Item) (part : IsPartOf image.items order (cells_of more)) (same : AreEqualButForNumbers (cells_of more) cells) where
  same_levels : levels st ≡ image.limits.levels
  same_levels = ap (λ l. l.levels) holds.limits

  -- a table whose span is not alike afterwards is one that the image wants
  wants : (p : Place) → set.contains (set.from_list {R = place_cmp} (unlike_tables (levels st) 0 cells)) p ≡ true → set.contains (allowed image) p ≡ true
  wants p h =
      let at = unlike_listed (levels st) 0 cells p h in
      let unlike : is_unlike (cells_of image.items) p ≡ true = go (is_alike (cells_of image.items) (span_first p) (span_count p)) refl at.3 in
      let high : p.level < image.limits.levels = subst (λ n. p.level < n) same_levels at.2 in
      let few : image.limits.levels ≤ 5 = subst (λ n. n ≤ 5) same_levels holds.ok.few_levels in
      contains-insert place_total (set.from_list (unlike_tables image.limits.levels 0 (cells_of image.items))) (root image.limits.levels 0) p
      ∙ or_right (eq_by_cmp place_cmp p (root image.limits.levels 0)) _ (listed_unlike image.limits.levels 0 (cells_of image.items) p few at.0 at.1 high unlike)
    where
      go : (t : Bool) → is_alike (cells_of image.items) (span_first p) (span_count p) ≡ t → is_unlike cells p ≡ true → not t ≡ true
      go false e unlike = refl
      go true e unlike = absurd (true≢false (sym unlike ∙ ap not
          (alike_same (cells_of more) cells (span_first p) (span_count p) same (alike_kept image.items order (cells_of more) part (span_first p) (span_count p) e))))

  abbrev tables_then : Tables
  tables_then = changed_tables (is_given_up st c) (wanted_tables st 0 c) st.tables

  within_allowed : (p : Place) → set.contains tables_then p ≡ true → set.contains (allowed image) p ≡ true
  within_allowed p h = elim (whence (is_given_up st c) (wanted_tables st 0 c) st.tables p h) [
    | inl old ↦ holds.tables p old.0
    | inr new ↦ wants p (ap (λ ps. set.contains (set.from_list {R = place_cmp} ps) p) (sym b.wanted) ∙ contains-from_list place_total (wanted_tables st 0 c) p ∙ new)
  ]

  enough : linked st + need (wanted_tables st 0 c) st.tables ≤ st.limits.tables
  enough =
      let grown = grown_len (is_given_up st c) b.kept (wanted_tables st 0 c) st.tables in
      let few = subset_len tables_then (allowed image) within_allowed in
      let same_tables : st.limits.tables ≡ image.limits.tables = ap (λ l. l.tables) holds.limits in
      omega (arith, grown, few, allowed_few image, room, same_tables)

  passed : Passed st 0 c 0
  passed = record {
    arguments = b.arguments;
    space = b.space;
    spaces = b.spaces;
    place = b.place;
    pages = b.pages;
    tables = never _ _ (not_less st.limits.tables (linked st + need (wanted_tables st 0 c) st.tables + 0) (omega (arith, enough)));
    frames = never _ _ (not_less (length (unused_frames st)) (length (wanting_frames_of st c)) b.frames);
    swap = never _ _ (not_less (length (unused_slots st)) (length (wanting_slots_of st c)) b.slots);
  }

  state_is : state_after st 0 c ≡ changed st 0 cells tables_then
  unfolding state_after
  state_is = λ i. record st { spaces = b.spaces_are i; tables = tables_then }

  step_is : step st 0 c 0 ≡ (answer st 0 c, changed st 0 cells tables_then)
  step_is = accepted st 0 c 0 (by_none st 0 c 0 passed) ∙ (λ i. (answer st 0 c, state_is i))

  holds_then : Holds image more (changed st 0 cells tables_then)
  holds_then = record {
    ok = subst IsConsistent state_is (after_keeps st 0 0 c (omega arith) holds.ok passed);
    limits = holds.limits;
    files = holds.files;
    present = present_changed st 0 cells tables_then 0;
    alone = λ s h. one s (nat_eq s 0) refl (sym (present_changed st 0 cells tables_then s) ∙ h);
    tables = within_allowed;
    cells = subst (AreEqualButForNumbers (cells_of more)) (sym (spaces_changed st 0 cells tables_then 0)) same;
  }
    where
      one : (s : ℕ) (t : Bool) → nat_eq s 0 ≡ t → cond t true (is_present st s) ≡ true → s ≡ 0
      one s true e h = eqb-true s 0 e
      one s false e h = holds.alone s h

  pub builds : Built image more st c
  builds = record {
    not_refused = ap (λ (r : Reply × State). is_refusal r.0) step_is ∙ answer_accepts st 0 c;
    holds = subst (λ (r : Reply × State). Holds image more r.1) (sym step_is) holds_then;
  }
