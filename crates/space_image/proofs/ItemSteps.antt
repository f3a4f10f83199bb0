-- The calls of an item: none is refused, and they leave the map that has the item.
--     AreBuilt      calls of which none is refused, and what holds after them
--     ImageFacts      what the grammar says of an image's items
--     Room      an item for which there are a frame and a slot
--     item_built      the calls of one item
use Rattle.std.proofs.Common.{◌≡◌, ℕ, ◌+◌, ◌-◌, ◌*◌, ◌^◌, ◌<◌, ◌≤◌, Bool, true, false, cond, List, [], ◌∷◌, ◌++◌, length, refl, sym, ap, subst, ◌∙◌, arith, inl, inr}
use Rattle.std.specs.Prelude.{Some, None, All, is_some}
use Rattle.std.specs.List.{filter}
use Rattle.std.proofs.lemmas.Bool.{and_from, le-leb, lt-ltb}
use Rattle.std.proofs.lemmas.List.{length-append}
use Rattle.std.proofs.lemmas.List.Elements.{All-append, All-cons, All-nil, filter-append}
use Rattle.corten_base.specs.declared.permissions.Perm.{Perm}
use Rattle.corten_base.specs.declared.calls.Backing.{Backing}
use Rattle.corten_base.specs.declared.calls.Backing.TheVariants as backing
use Rattle.corten_base.specs.declared.calls.Call.{Call}
use Rattle.table_place.specs.Place.{is_user_page, is_user_range}
use Rattle.page_map.specs.Access.{refused_at}
use Rattle.page_map.specs.Alike.{same_perm}
use Rattle.page_map.specs.Cell.{backed, file_bytes}
use Rattle.page_map.specs.Mapping.{is_backing}
use Rattle.page_map.specs.Memory.{is_refusal}
use Rattle.page_map.specs.State.{State, levels, space_at}
use Rattle.page_map.specs.Step.{step}
use Rattle.page_map.proofs.Alike.{same_perms}
use Rattle.image_text.specs.declared.image.Item.{Item}
use Rattle.image_text.specs.declared.image.Item.TheVariants.{Run, Page}
use Rattle.image_text.specs.declared.image.Residence.{Residence}
use Rattle.image_text.specs.declared.image.Residence.TheVariants.{Live, Out}
use Rattle.image_text.specs.Items.{bytes_of, cells_of, count_of, first_of, is_live, is_out, whole}
use Rattle.image_text.specs.Images.{ImageParts, IsBacked, IsPageOrigin, IsRunBacking, unlike_count}
use Rattle.space_image.specs.Calls.{is_run, item_calls, left_by, map_call, protect_calls, read_write, replies_of}
use Rattle.space_image.proofs.Building.{Building, Built, Holds, builds}
use Rattle.space_image.proofs.Covered.{In, covers, in_either}
use Rattle.space_image.proofs.InOrder.{InOrder, some_pages}
use Rattle.space_image.proofs.MapStep.{gone_out, map_builds, mapped, out_builds, out_call, protect_builds, protect_call, protected, store_builds, store_call, stored}
use Rattle.space_image.proofs.PageCells.{cell_there, kept_there, length_whole, map_same, may_store, out_same, protect_same, store_same}
use Rattle.space_image.proofs.PartSpans.{IsPartOf, part_of, part_over}
use Rattle.space_image.proofs.UnusedNumbers.{frame_left, slot_left}

-- ---- calls one after another

pub record AreBuilt (image : ImageParts) (made : List Item) (st : State) (cs : List Call) : Type 0 where
  pub none_refused : All (λ r. is_refusal r ≡ false) (replies_of st cs)
  pub holds : Holds image made (left_by st cs)

pub nothing : (image : ImageParts) (made : List Item) (st : State) → Holds image made st → AreBuilt image made st []
nothing image made st holds = record { none_refused = All-nil (λ r. is_refusal r ≡ false); holds = holds }

pub first_then : (image : ImageParts) (between made : List Item) (st : State) (c : Call) (cs : List Call) → Built image between st c → AreBuilt image made (step st 0 c 0).1 cs → AreBuilt image made st (c ∷ cs)
first_then image between made st c cs one rest = record {
  none_refused = All-cons (λ r. is_refusal r ≡ false) (step st 0 c 0).0 (replies_of (step st 0 c 0).1 cs) one.not_refused rest.none_refused;
  holds = rest.holds;
}

pub replies_both : (st : State) (cs ds : List Call) → replies_of st (cs ++ ds) ≡ replies_of st cs ++ replies_of (left_by st cs) ds
replies_both st [] ds = refl
replies_both st (c ∷ cs) ds = ap (λ rs. (step st 0 c 0).0 ∷ rs) (replies_both (step st 0 c 0).1 cs ds)

pub left_both : (st : State) (cs ds : List Call) → left_by st (cs ++ ds) ≡ left_by (left_by st cs) ds
left_both st [] ds = refl
left_both st (c ∷ cs) ds = left_both (step st 0 c 0).1 cs ds

pub some_then : (image : ImageParts) (between made : List Item) (st : State) (cs ds : List Call) → AreBuilt image between st cs → AreBuilt image made (left_by st cs) ds → AreBuilt image made st (cs ++ ds)
some_then image between made st cs ds some rest = record {
  none_refused = subst (All (λ r. is_refusal r ≡ false)) (sym (replies_both st cs ds)) (All-append (λ r. is_refusal r ≡ false) (replies_of st cs) (replies_of (left_by st cs) ds) some.none_refused rest.none_refused);
  holds = subst (Holds image made) (sym (left_both st cs ds)) rest.holds;
}

-- ---- what the grammar says

pub record ImageFacts (image : ImageParts) : Type 0 where
  pub order : InOrder None image.items
  pub some_levels : 1 ≤ image.limits.levels
  pub room : 1 + unlike_count image.limits.levels (cells_of image.items) ≤ image.limits.tables
  pub user : (x : Item) → In x image.items → is_user_range image.limits.levels (first_of x) (count_of x) ≡ true
  pub backed_by : (x : Item) → In x image.items → IsBacked image.files x
  pub size : (x : Item) → In x image.items → length (bytes_of x) ≤ 4096
  -- a page of a file stands in its first 64 KiB
  pub near : (file index : ℕ) → 4096 * index < length (file_bytes image.files file) → index ≤ 2 ^ 40

-- there are a frame and a slot for it
pub record Room (image : ImageParts) (made : List Item) (x : Item) : Type 0 where
  pub listed : In x image.items
  pub made_listed : (y : Item) → In y made → In y image.items
  pub frame : is_run x ≡ false → length (filter is_live made) < image.limits.frames
  pub slot : is_out x ≡ true → length (filter is_out made) < image.limits.swap

module _ (image : ImageParts) (facts : ImageFacts image) where
  run_backing : (files : List (List ℕ)) (what : Backing) → IsRunBacking files what → is_backing files what ≡ true
  run_backing files backing.Zero h = refl
  run_backing files (backing.File file index) h = and_from _ _ (lt-ltb file (length files) h.0) (le-leb index (2 ^ 40) h.1)

  page_backing : (what : Backing) → IsPageOrigin image.files what → is_backing image.files what ≡ true
  page_backing backing.Zero h = refl
  page_backing (backing.File file index) h = and_from _ _ (lt-ltb file (length image.files) h.0) (le-leb index (2 ^ 40) (facts.near file index h.1))

  before_end : (what : Backing) → IsPageOrigin image.files what → (file index : ℕ) → what ≡ backing.File file index → 4096 * index < length (file_bytes image.files file)
  before_end what h file index is = (subst (IsPageOrigin image.files) is h).1

  module _ (made : List Item) (st : State) (holds : Holds image made st) where
    same_levels : levels st ≡ image.limits.levels
    same_levels = ap (λ l. l.levels) holds.limits

    low_levels : 1 ≤ levels st
    low_levels = subst (λ n. 1 ≤ n) (sym same_levels) facts.some_levels

    -- a mapping of some pages, as the definitions have it
    pub mapping : (first count : ℕ) (perm : Perm) (what : Backing) → is_user_range image.limits.levels first count ≡ true → 1 ≤ count → is_backing image.files what ≡ true →
        Building st (map_call first count perm what) (mapped (space_at st 0) first count perm what)
    mapping first count perm what user some right =
        map_builds st first count perm what low_levels holds.present (ap (λ n. is_user_range n first count) same_levels ∙ user) some (ap (λ files. is_backing files what) holds.files ∙ right)

    pub user_page : (page : ℕ) → is_user_range image.limits.levels page 1 ≡ true → is_user_page (levels st) page ≡ true
    user_page page user = ap (λ n. is_user_range n page 1) same_levels ∙ user

  -- ---- a run

  with_listed : (xs : List Item) (x : Item) → In x image.items → ((y : Item) → In y xs → In y image.items) → (y : Item) → In y (xs ++ x ∷ []) → In y image.items
  with_listed xs x there all y h = elim (in_either y xs (x ∷ []) h) [
    | inl old ↦ all y old
    | inr last ↦ elim last [ inl same ↦ subst (λ (z : Item). In z image.items) (sym same) there | inr none ↦ absurd none ]
  ]

  run_built : (xs : List Item) (st : State) → Holds image xs st → (first count : ℕ) (perm : Perm) (what : Backing) → Room image xs (Run first count perm what) →
      AreBuilt image (xs ++ Run first count perm what ∷ []) st (item_calls (Run first count perm what))
  run_built xs st holds first count perm what room =
      let x = Run first count perm what in
      let b = mapping xs st holds first count perm what (facts.user x room.listed) (some_pages None image.items facts.order x room.listed) (run_backing image.files what (facts.backed_by x room.listed)) in
      let one = builds image facts.order facts.room xs st holds (map_call first count perm what) (mapped (space_at st 0) first count perm what) b (xs ++ x ∷ [])
      (part_of image.items facts.order (xs ++ x ∷ []) (with_listed xs x room.listed room.made_listed)) (map_same xs first count perm what (space_at st 0) holds.cells) in
      first_then image (xs ++ x ∷ []) (xs ++ x ∷ []) st (map_call first count perm what) [] one (nothing image (xs ++ x ∷ []) (step st 0 (map_call first count perm what) 0).1 one.holds)

  -- ---- a page

  module _ (xs : List Item) (page : ℕ) (perm : Perm) (origin : Backing) (residence : Residence) (bytes : List ℕ) (room : Room image xs (Page page perm origin residence bytes)) where
    abbrev x : Item
    x = Page page perm origin residence bytes

    abbrev mapped_page : List Item
    mapped_page = xs ++ Run page 1 read_write origin ∷ []

    abbrev live_page : Perm → List Item
    live_page p = xs ++ Page page p origin Live bytes ∷ []

    abbrev out_page : List Item
    out_page = xs ++ Page page perm origin Out bytes ∷ []

    over_it : (y : Item) → ((q : ℕ) → covers y q ≡ covers x q) → IsPartOf image.items facts.order (cells_of (xs ++ y ∷ []))
    over_it y same = part_over image.items facts.order xs room.made_listed x y room.listed refl same

    -- no item of the kind more
    as_many : (kind : Item → Bool) (y : Item) → kind y ≡ false → length (filter kind (xs ++ y ∷ [])) ≡ length (filter kind xs)
    as_many kind y other =
        ap length (filter-append kind xs (y ∷ []) ∙ ap (λ b. filter kind xs ++ cond b (y ∷ []) []) other) ∙ length-append (filter kind xs) [] ∙ zero (length (filter kind xs))
      where
        zero : (n : ℕ) → n + 0 ≡ n
        zero n = omega arith

    map_step : (st : State) → Holds image xs st → Built image mapped_page st (map_call page 1 read_write origin)
    map_step st holds =
        builds image facts.order facts.room xs st holds (map_call page 1 read_write origin) (mapped (space_at st 0) page 1 read_write origin)
        (mapping xs st holds page 1 read_write origin (facts.user x room.listed) (omega arith) (page_backing origin (facts.backed_by x room.listed)))
        mapped_page (over_it (Run page 1 read_write origin) (λ q. refl)) (map_same xs page 1 read_write origin (space_at st 0) holds.cells)

    store_step : (st : State) → Holds image mapped_page st → Built image (live_page read_write) st (store_call page (whole bytes))
    store_step st holds =
        let few = facts.size x room.listed in
        let same_frames : st.limits.frames ≡ image.limits.frames = ap (λ l. l.frames) holds.limits in
        let free = frame_left image mapped_page st holds (omega (arith, same_frames, as_many is_live (Run page 1 read_write origin) refl, room.frame refl)) in
        let here = cell_there xs page read_write origin (space_at st 0) holds.cells in
        builds image facts.order facts.room mapped_page st holds (store_call page (whole bytes)) (stored st page (whole bytes))
        (store_builds st page (whole bytes) (length_whole bytes few) holds.present (user_page mapped_page st holds page (facts.user x room.listed))
        (ap (refused_at st.files true page) here ∙ (λ i. refused_at (holds.files i) true page (Some (backed origin read_write (page - page)))) ∙ may_store image.files origin page (before_end origin (facts.backed_by x room.listed))) free)
        (live_page read_write) (over_it (Page page read_write origin Live bytes) (λ q. refl)) (store_same xs st holds.ok page origin bytes few holds.cells)

    protect_step : (st : State) → Holds image (live_page read_write) st → Built image (live_page perm) st (protect_call page perm)
    protect_step st holds =
        let has = kept_there xs page read_write origin bytes (space_at st 0) holds.cells in
        builds image facts.order facts.room (live_page read_write) st holds (protect_call page perm) (protected (space_at st 0) page perm)
        (protect_builds st page perm holds.present (user_page (live_page read_write) st holds page (facts.user x room.listed)) (ap is_some has.here))
        (live_page perm) (over_it (Page page perm origin Live bytes) (λ q. refl)) (protect_same xs page read_write perm origin bytes (space_at st 0) holds.cells)

    out_step : is_out x ≡ true → (st : State) → Holds image (live_page perm) st → Built image out_page st (out_call page)
    out_step out st holds =
        let same_swap : st.limits.swap ≡ image.limits.swap = ap (λ l. l.swap) holds.limits in
        let free = slot_left image (live_page perm) st holds (omega (arith, same_swap, as_many is_out (Page page perm origin Live bytes) refl, room.slot out)) in
        builds image facts.order facts.room (live_page perm) st holds (out_call page) (gone_out st page)
        (out_builds st page holds.present (user_page (live_page perm) st holds page (facts.user x room.listed)) free)
        out_page (over_it (Page page perm origin Out bytes) (λ q. refl)) (out_same xs st holds.ok holds.alone page perm origin bytes holds.cells free)

    protects_built : (st : State) → Holds image (live_page read_write) st → AreBuilt image (live_page perm) st (protect_calls page perm)
    protects_built st holds = go (same_perm perm read_write) refl
      where
        go : (b : Bool) → same_perm perm read_write ≡ b → AreBuilt image (live_page perm) st (cond b [] (protect_call page perm ∷ []))
        go true e = nothing image (live_page perm) st (subst (λ p. Holds image (live_page p) st) (sym (same_perms perm read_write e)) holds)
        go false e = (let one = protect_step st holds in first_then image (live_page perm) (live_page perm) st (protect_call page perm) [] one (nothing image (live_page perm) (step st 0 (protect_call page perm) 0).1 one.holds))

    -- all but a move to a swap slot
    pub front_built : (st : State) → Holds image xs st → AreBuilt image (live_page perm) st (map_call page 1 read_write origin ∷ store_call page (whole bytes) ∷ protect_calls page perm)
    front_built st holds =
        let first = map_step st holds in
        let st1 = (step st 0 (map_call page 1 read_write origin) 0).1 in
        let second = store_step st1 first.holds in
        let st2 = (step st1 0 (store_call page (whole bytes)) 0).1 in
        first_then image mapped_page (live_page perm) st (map_call page 1 read_write origin) (store_call page (whole bytes) ∷ protect_calls page perm) first
        (first_then image (live_page read_write) (live_page perm) st1 (store_call page (whole bytes)) (protect_calls page perm) second (protects_built st2 second.holds))

    pub out_built : is_out x ≡ true → (st : State) → Holds image (live_page perm) st → AreBuilt image out_page st (out_call page ∷ [])
    out_built out st holds =
        let one = out_step out st holds in
        first_then image out_page out_page st (out_call page) [] one (nothing image out_page (step st 0 (out_call page) 0).1 one.holds)

  pub item_built : (xs : List Item) (x : Item) → Room image xs x → (st : State) → Holds image xs st → AreBuilt image (xs ++ x ∷ []) st (item_calls x)
  item_built xs (Run first count perm what) room st holds = run_built xs st holds first count perm what room
  item_built xs (Page page perm origin Live bytes) room st holds =
      let front = front_built xs page perm origin Live bytes room st holds in
      let cs = map_call page 1 read_write origin ∷ store_call page (whole bytes) ∷ protect_calls page perm in
      some_then image (xs ++ Page page perm origin Live bytes ∷ []) (xs ++ Page page perm origin Live bytes ∷ []) st cs [] front (nothing image (xs ++ Page page perm origin Live bytes ∷ []) (left_by st cs) front.holds)
  item_built xs (Page page perm origin Out bytes) room st holds =
      let front = front_built xs page perm origin Out bytes room st holds in
      let cs = map_call page 1 read_write origin ∷ store_call page (whole bytes) ∷ protect_calls page perm in
      some_then image (xs ++ Page page perm origin Live bytes ∷ []) (xs ++ Page page perm origin Out bytes ∷ []) st cs (out_call page ∷ []) front (out_built xs page perm origin Out bytes room refl (left_by st cs) front.holds)
