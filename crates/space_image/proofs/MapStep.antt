-- The calls that build items, as the definitions have them.
--     map_builds      a mapping at a place
--     store_builds      a store of a page's bytes
--     protect_builds      other permissions of a page
--     out_builds      a page that goes to a swap slot
use Rattle.std.proofs.Common.{◌≡◌, ℕ, ◌+◌, ◌-◌, ◌*◌, ◌/◌, ◌≤◌, Bool, true, false, cond, not, List, length, refl, sym, ap, ◌∙◌, arith}
use mathlib.Core.Bool.{true≢false}
use Rattle.std.specs.Prelude.{Option, Some, None, is_none, is_some}
use Rattle.std.specs.Option.{option_map}
use Rattle.std.specs.FinMap as map
use Rattle.std.proofs.lemmas.Bool.{and_from}
use Rattle.corten_base.specs.declared.permissions.Perm.{Perm}
use Rattle.corten_base.specs.declared.calls.Backing.{Backing}
use Rattle.corten_base.specs.declared.calls.Call.{Call}
use Rattle.corten_base.specs.declared.calls.Call.TheVariants as call
use Rattle.corten_base.specs.declared.calls.Reply.{Reply}
use Rattle.corten_base.specs.declared.calls.Reply.TheVariants as reply
use Rattle.corten_base.specs.declared.calls.TxnOp.TheVariants as op
use Rattle.table_place.specs.Place.{is_page_range, is_user_page, is_user_range}
use Rattle.page_map.specs.declared.cell.Cell.{Cell}
use Rattle.page_map.specs.Access.{Access, after_access, refused_at, wanting_frames, wants_frame}
use Rattle.page_map.specs.Alike.{unlike_tables}
use Rattle.page_map.specs.Cell.{AddressSpace, backed, with_perm}
use Rattle.page_map.specs.Change.{change, earliest, keys_in, least}
use Rattle.page_map.specs.Effect.{cells_after, frame_grants, slot_grants}
use Rattle.corten_base.specs.declared.calls.Why.TheVariants as why
use Rattle.page_map.specs.Effect.{wanting_slots_of}
use Rattle.page_map.specs.Mapping.{after_op, hole, is_backing, is_right}
use Rattle.page_map.specs.State.{State, is_present, levels, space_at, unused_frames, unused_slots}
use Rattle.page_map.specs.Step.{refused_unless, reply_why}
use Rattle.page_map.specs.Swap.{goes_out, moved_to, out_to}
use Rattle.space_image.specs.Calls.{map_call}
use Rattle.space_image.proofs.Building.{Building}
use Rattle.space_image.proofs.OnePage.{earliest_one, first_page_is, is_range, one_key, pages_are, right_length}

unless : (b : Bool) (r : Reply) → b ≡ true → refused_unless b r ≡ None
unless true r h = refl
unless false r h = absurd (true≢false (sym h))

-- ---- a mapping at a place

abbrev pub mapped : AddressSpace → ℕ → ℕ → Perm → Backing → AddressSpace
mapped cells first count perm what = change cells first count (λ page _. Some (backed what perm (page - first)))

module _ (st : State) (first count : ℕ) (perm : Perm) (what : Backing) where
  map_cells : cells_after st 0 (map_call first count perm what) ≡ mapped (space_at st 0) first count perm what
  unfolding after_op
  map_cells = λ i. mapped (space_at st 0) (first_page_is first i) (pages_are count i) perm what

  pub map_builds : 1 ≤ levels st → is_present st 0 ≡ true → is_user_range (levels st) first count ≡ true → 1 ≤ count → is_backing st.files what ≡ true →
      Building st (map_call first count perm what) (mapped (space_at st 0) first count perm what)
  map_builds low present user some right = record {
    arguments = unless (is_right (levels st) st.files (op.Map (4096 * first) false (4096 * count) perm what)) reply.Einval
        (and_from _ _ (and_from _ _ (right_length (levels st) first count low some user) right) (is_range (levels st) first count some user));
    space = unless (is_present st 0) reply.NoSpace present;
    spaces = refl;
    place = refl;
    pages = refl;
    frames = omega arith;
    slots = omega arith;
    wanted = ap (unlike_tables (levels st) 0) map_cells;
    kept = λ p. refl;
    spaces_are = ap (map.insert st.spaces 0) map_cells;
  }

-- ---- a store of a whole page

abbrev pub store_call : ℕ → List ℕ → Call
store_call page bytes = call.Store 0 (4096 * page) bytes

abbrev pub storing : ℕ → List ℕ → Access
storing page bytes = record { at = 4096 * page; len = length bytes; write = true; stored = bytes }

abbrev pub stored : State → ℕ → List ℕ → AddressSpace
stored st page bytes = after_access st.files (frame_grants st (store_call page bytes)) (storing page bytes) (space_at st 0)

pub one_page : (page len : ℕ) → len ≡ 4096 → (4096 * page + len - 1) / 4096 + 1 - 4096 * page / 4096 ≡ 1
one_page page len e = omega (arith, e)

module _ (st : State) (page : ℕ) (bytes : List ℕ) (whole : length bytes ≡ 4096) where
  wanted_frames : length (wanting_frames st (space_at st 0) (storing page bytes)) ≡ length (keys_in (space_at st 0) page 1 (wants_frame st true))
  wanted_frames = λ i. length (keys_in (space_at st 0) (first_page_is page i) (one_page page (length bytes) whole i) (wants_frame st true))

  pub store_builds : is_present st 0 ≡ true → is_user_page (levels st) page ≡ true → refused_at st.files true page (map.get (space_at st 0) page) ≡ None → 1 ≤ length (unused_frames st) →
      Building st (store_call page bytes) (stored st page bytes)
  store_builds present user right free = record {
    arguments = ap (option_map (λ q. reply.Segv (4096 * q)))
        ((λ i. least (first_page_is page i) (one_page page (length bytes) whole i) (λ q. not (is_user_page (levels st) q)))
        ∙ earliest_one page (λ n. cond (not (is_user_page (levels st) n)) (Some n) None)
        ∙ ap (λ b. cond (not b) (Some page) None) user);
    space = unless (is_present st 0) reply.NoSpace present;
    spaces = refl;
    place = refl;
    pages = (λ i. earliest (first_page_is page i) (one_page page (length bytes) whole i) (λ q. refused_at st.files true q (map.get (space_at st 0) q)))
        ∙ earliest_one page (λ q. refused_at st.files true q (map.get (space_at st 0) q)) ∙ right;
    frames = omega (arith, wanted_frames, one_key (wants_frame st true) (space_at st 0) page, free);
    slots = omega arith;
    wanted = refl;
    kept = λ p. refl;
    spaces_are = refl;
  }

-- ---- other permissions of a page

abbrev pub protect_call : ℕ → Perm → Call
protect_call page perm = call.Protect 0 (4096 * page) 4096 perm

abbrev pub protected : AddressSpace → ℕ → Perm → AddressSpace
protected cells page perm = change cells page 1 (λ _. option_map (with_perm perm))

one_range : (levels page : ℕ) → is_user_page levels page ≡ true → is_page_range levels (4096 * page) 4096 ≡ true
one_range levels page user = is_range levels page 1 (omega arith) user

module _ (st : State) (page : ℕ) (perm : Perm) where
  protect_cells : cells_after st 0 (protect_call page perm) ≡ protected (space_at st 0) page perm
  unfolding after_op
  protect_cells = λ i. protected (space_at st 0) (first_page_is page i) perm

  no_hole : is_some (map.get (space_at st 0) page) ≡ true → hole (space_at st 0) (4096 * page) 4096 ≡ None
  no_hole there =
      (λ i. least (first_page_is page i) 1 (λ q. is_none (map.get (space_at st 0) q)))
      ∙ earliest_one page (λ n. cond (is_none (map.get (space_at st 0) n)) (Some n) None)
      ∙ go (map.get (space_at st 0) page) there
    where
      go : (o : Option Cell) → is_some o ≡ true → ◌≡◌ {A = Option ℕ} (cond (is_none o) (Some page) None) None
      go None h = absurd (true≢false (sym h))
      go (Some c) h = refl

  pub protect_builds : is_present st 0 ≡ true → is_user_page (levels st) page ≡ true → is_some (map.get (space_at st 0) page) ≡ true →
      Building st (protect_call page perm) (protected (space_at st 0) page perm)
  protect_builds present user there = record {
    arguments = unless (is_page_range (levels st) (4096 * page) 4096) reply.Einval (one_range (levels st) page user);
    space = unless (is_present st 0) reply.NoSpace present;
    spaces = refl;
    place = refl;
    pages = ap (λ o. option_map reply_why (option_map (λ q. why.Hole (4096 * q)) o)) (no_hole there);
    frames = omega arith;
    slots = omega arith;
    wanted = ap (unlike_tables (levels st) 0) protect_cells;
    kept = λ p. refl;
    spaces_are = ap (map.insert st.spaces 0) protect_cells;
  }

-- ---- a page that goes to a swap slot

abbrev pub out_call : ℕ → Call
out_call page = call.SwapOut 0 (4096 * page) 4096

abbrev pub gone_out : State → ℕ → AddressSpace
gone_out st page = moved_to out_to (slot_grants st (out_call page)) (4096 * page / 4096) 1 (space_at st 0)

module _ (st : State) (page : ℕ) where
  wanted_slots : length (wanting_slots_of st (out_call page)) ≡ length (keys_in (space_at st 0) page 1 (goes_out st))
  wanted_slots = λ i. length (keys_in (space_at st 0) (first_page_is page i) 1 (goes_out st))

  pub few_slots : 1 ≤ length (unused_slots st) → length (wanting_slots_of st (out_call page)) ≤ length (unused_slots st)
  few_slots free = omega (arith, wanted_slots, one_key (goes_out st) (space_at st 0) page, free)

  pub out_builds : is_present st 0 ≡ true → is_user_page (levels st) page ≡ true → 1 ≤ length (unused_slots st) → Building st (out_call page) (gone_out st page)
  out_builds present user free = record {
    arguments = unless (is_page_range (levels st) (4096 * page) 4096) reply.Einval (one_range (levels st) page user);
    space = unless (is_present st 0) reply.NoSpace present;
    spaces = refl;
    place = refl;
    pages = refl;
    frames = omega arith;
    slots = few_slots free;
    wanted = refl;
    kept = λ p. refl;
    spaces_are = refl;
  }
