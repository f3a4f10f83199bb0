-- What the calls of an item leave in space 0, but for numbers.
--     same_put      cells that have an item's at its pages, and those of the items before it elsewhere
--     cell_there, kept_there      what stands at a page of the last item
--     map_same, store_same, protect_same, out_same      the cells after each call
--     may_store      that a store is not refused at a page that was mapped
use Rattle.std.proofs.Common.{◌≡◌, ℕ, ◌+◌, ◌-◌, ◌*◌, ◌/◌, ◌<◌, ◌≤◌, Bool, true, false, cond, List, [], ◌∷◌, ◌++◌, length, take, drop, refl, sym, ap, subst, ◌∙◌, arith}
use mathlib.Core.Bool.{true≢false}
use Rattle.std.specs.Prelude.{Option, Some, None, is_some, nat_le}
use Rattle.std.specs.Option.{option_map, option_or}
use Rattle.std.specs.FinMap as map
use Rattle.std.proofs.lemmas.Bool.{eq-eqb, false_from_ne_true, leb-true}
use Rattle.std.proofs.lemmas.List.{drop_all, length-append, length-drop, length-replicate, take_all}
use Rattle.corten_base.specs.declared.permissions.Perm.{Perm}
use Rattle.corten_base.specs.declared.calls.Backing.{Backing}
use Rattle.corten_base.specs.declared.calls.Backing.TheVariants as backing
use Rattle.corten_base.specs.declared.calls.Reply.TheVariants as reply
use Rattle.table_place.specs.Range.{within}
use Rattle.table_place.proofs.Tables.{to_range}
use Rattle.page_map.specs.declared.cell.Cell.{Cell}
use Rattle.page_map.specs.declared.cell.Cell.TheVariants.{Anon, File, Mapped, Swapped}
use Rattle.page_map.specs.Access.{after_access, refused_at, touched}
use Rattle.page_map.specs.Cell.{AddressSpace, backed, backing_of, contents, file_bytes, frame_of, perm_of, slot_of, with_perm, written, zeros}
use Rattle.page_map.specs.Change.{change}
use Rattle.page_map.specs.Effect.{frame_grants, slot_grants, wanting_slots_of}
use Rattle.page_map.specs.State.{IsConsistent, State, frame_owners, is_present, space_at, unused_slots}
use Rattle.page_map.specs.Swap.{goes_out, moved, moved_to, out_to}
use Rattle.page_map.specs.Takes.{granted}
use Rattle.page_map.proofs.Grants.{granted_each, key_chosen}
use Rattle.page_map.proofs.Range.{get-change, inside}
use Rattle.image_text.specs.declared.image.Item.{Item}
use Rattle.image_text.specs.declared.image.Item.TheVariants.{Run, Page}
use Rattle.image_text.specs.declared.image.Residence.TheVariants.{Live, Out}
use Rattle.image_text.specs.Items.{AreEqualButForNumbers, cell_at, cells_of, count_of, first_of, whole, without_number}
use Rattle.space_image.specs.Calls.{read_write}
use Rattle.space_image.proofs.Covered.{covers, found, found_more, get_cells}
use Rattle.space_image.proofs.OnePage.{first_page_is, one_owner}
use Rattle.space_image.proofs.MapStep.{few_slots, gone_out, mapped, one_page, out_call, protected, store_call, stored, storing}

some_some : {A : Type 0} {x y : A} → ◌≡◌ {A = Option A} (Some x) (Some y) → x ≡ y
some_some e = cc

none_some : {A : Type 0} {x : A} → ◌≡◌ {A = Option A} None (Some x) → ⊥
none_some e = cc

-- ---- an item that is put over others

module _ (xs made : List Item) (y : Item) (sp : AddressSpace) (same : AreEqualButForNumbers (cells_of made) sp)
    (away : (q : ℕ) → covers y q ≡ false → map.get (cells_of made) q ≡ found xs q) (f : ℕ → Option Cell → Option Cell)
    (puts : (q : ℕ) → covers y q ≡ true → option_map without_number (f q (map.get sp q)) ≡ Some (without_number (cell_at y q))) where
  pub same_put : AreEqualButForNumbers (cells_of (xs ++ y ∷ [])) (change sp (first_of y) (count_of y) f)
  same_put q =
      ap (option_map without_number) (get_cells (xs ++ y ∷ []) q ∙ found_more xs y q)
      ∙ go (covers y q) refl
      ∙ ap (option_map without_number) (sym (get-change sp (first_of y) (count_of y) f q))
    where
      go : (b : Bool) → covers y q ≡ b → option_map without_number (option_or (cond b (Some (cell_at y q)) None) (found xs q)) ≡ option_map without_number (cond b (f q (map.get sp q)) (map.get sp q))
      go true cov = sym (puts q cov)
      go false out = ap (option_map without_number) (sym (away q out)) ∙ same q

-- where one item was put over others, they are found at the other pages
pub away_from : (xs : List Item) (z y : Item) → ((q : ℕ) → covers z q ≡ covers y q) → (q : ℕ) → covers y q ≡ false → map.get (cells_of (xs ++ z ∷ [])) q ≡ found xs q
away_from xs z y over q out =
    get_cells (xs ++ z ∷ []) q ∙ found_more xs z q ∙ ap (λ b. option_or (cond b (Some (cell_at z q)) None) (found xs q)) (over q ∙ out)

-- ---- what stands at a page of the last item

covers_page : (page : ℕ) → within page 1 page ≡ true
covers_page page = to_range page 1 page (omega arith) (omega arith)

only_page : (page q : ℕ) → within page 1 q ≡ true → q ≡ page
only_page page q cov = let at = inside page 1 q cov in omega (arith, at.0, at.1)

pub seen_there : (xs : List Item) (y : Item) (sp : AddressSpace) (q : ℕ) → AreEqualButForNumbers (cells_of (xs ++ y ∷ [])) sp → covers y q ≡ true →
    option_map without_number (map.get sp q) ≡ Some (without_number (cell_at y q))
seen_there xs y sp q same cov =
    sym (same q) ∙ ap (option_map without_number) (get_cells (xs ++ y ∷ []) q ∙ found_more xs y q ∙ ap (λ b. option_or (cond b (Some (cell_at y q)) None) (found xs q)) cov)

no_frame : (what : Backing) (perm : Perm) (i : ℕ) → frame_of (backed what perm i) ≡ None
no_frame backing.Zero perm i = refl
no_frame (backing.File file index) perm i = refl

no_slot : (what : Backing) (perm : Perm) (i : ℕ) → slot_of (backed what perm i) ≡ None
no_slot backing.Zero perm i = refl
no_slot (backing.File file index) perm i = refl

pub plain_same : (what : Backing) (perm : Perm) (i : ℕ) → without_number (backed what perm i) ≡ backed what perm i
plain_same backing.Zero perm i = refl
plain_same (backing.File file index) perm i = refl

-- a cell that is one without a number but for its number has none
pub unnumbered : (c : Cell) (what : Backing) (perm : Perm) (i : ℕ) → without_number c ≡ without_number (backed what perm i) → c ≡ backed what perm i
unnumbered (Anon p) what perm i e = e ∙ plain_same what perm i
unnumbered (File p file index) what perm i e = e ∙ plain_same what perm i
unnumbered (Mapped p origin frame bytes) what perm i e = absurd (none_some (sym (no_frame what perm i) ∙ sym (ap frame_of (e ∙ plain_same what perm i))))
unnumbered (Swapped p origin slot bytes) what perm i e = absurd (none_some (sym (no_slot what perm i) ∙ sym (ap slot_of (e ∙ plain_same what perm i))))

pub record IsThere (sp : AddressSpace) (page : ℕ) (c : Cell) : Type 0 where
  pub here : map.get sp page ≡ Some c

-- the page that was mapped
pub cell_there : (xs : List Item) (page : ℕ) (perm : Perm) (what : Backing) (sp : AddressSpace) → AreEqualButForNumbers (cells_of (xs ++ Run page 1 perm what ∷ [])) sp →
    map.get sp page ≡ Some (backed what perm (page - page))
cell_there xs page perm what sp same = go (map.get sp page) refl (seen_there xs (Run page 1 perm what) sp page same (covers_page page))
  where
    go : (o : Option Cell) → map.get sp page ≡ o → option_map without_number o ≡ Some (without_number (backed what perm (page - page))) → map.get sp page ≡ Some (backed what perm (page - page))
    go None e h = absurd (none_some h)
    go (Some c) e h = e ∙ ap Some (unnumbered c what perm (page - page) (some_some h))

-- a page with a frame
pub record HasFrame (sp : AddressSpace) (page : ℕ) (perm : Perm) (origin : Backing) (bytes : List ℕ) : Type 0 where
  pub frame : ℕ
  pub here : map.get sp page ≡ Some (Mapped perm origin frame bytes)

pub kept_there : (xs : List Item) (page : ℕ) (perm : Perm) (origin : Backing) (bytes : List ℕ) (sp : AddressSpace) → AreEqualButForNumbers (cells_of (xs ++ Page page perm origin Live bytes ∷ [])) sp →
    HasFrame sp page perm origin (whole bytes)
kept_there xs page perm origin bytes sp same = go (map.get sp page) refl (seen_there xs (Page page perm origin Live bytes) sp page same (covers_page page))
  where
    framed : (c : Cell) → map.get sp page ≡ Some c → without_number c ≡ Mapped perm origin 0 (whole bytes) → HasFrame sp page perm origin (whole bytes)
    framed (Anon p) e h = absurd (none_some (ap frame_of h))
    framed (File p file index) e h = absurd (none_some (ap frame_of h))
    framed (Swapped p o slot b) e h = absurd (none_some (ap frame_of h))
    framed (Mapped p o frame b) e h = record {
      frame = frame;
      here = e ∙ (λ i. Some (Mapped (ap perm_of h i) (ap backing_of h i) frame (ap (contents []) h i)));
    }

    go : (o : Option Cell) → map.get sp page ≡ o → option_map without_number o ≡ Some (Mapped perm origin 0 (whole bytes)) → HasFrame sp page perm origin (whole bytes)
    go None e h = absurd (none_some h)
    go (Some c) e h = framed c e (some_some h)

-- ---- a mapping

pub map_same : (xs : List Item) (first count : ℕ) (perm : Perm) (what : Backing) (sp : AddressSpace) → AreEqualButForNumbers (cells_of xs) sp →
    AreEqualButForNumbers (cells_of (xs ++ Run first count perm what ∷ [])) (mapped sp first count perm what)
map_same xs first count perm what sp same =
    same_put xs xs (Run first count perm what) sp same (λ q out. get_cells xs q) (λ q _. Some (backed what perm (q - first))) (λ q cov. refl)

-- ---- a store

perm_of_backed : (what : Backing) (perm : Perm) (i : ℕ) → perm_of (backed what perm i) ≡ perm
perm_of_backed backing.Zero perm i = refl
perm_of_backed (backing.File file index) perm i = refl

backing_of_backed : (what : Backing) (perm : Perm) (page : ℕ) → backing_of (backed what perm (page - page)) ≡ what
backing_of_backed backing.Zero perm page = refl
backing_of_backed (backing.File file index) perm page = ap (backing.File file) (same index page)
  where
    same : (k p : ℕ) → k + (p - p) ≡ k
    same k p = omega arith

length_zeros : length zeros ≡ 4096
unfolding zeros
length_zeros = length-replicate {A = ℕ} 4096 0

pub length_whole : (bytes : List ℕ) → length bytes ≤ 4096 → length (whole bytes) ≡ 4096
length_whole bytes few = length-append bytes (drop (length bytes) zeros) ∙ sum (length (drop (length bytes) zeros)) (length-drop (length bytes) zeros)
  where
    sum : (n : ℕ) → n ≡ length zeros - length bytes → length bytes + n ≡ 4096
    sum n e = omega (arith, e, length_zeros, few)

append_nothing : (xs : List ℕ) → xs ++ [] ≡ xs
append_nothing [] = refl
append_nothing (x ∷ xs) = ap (λ ys. x ∷ ys) (append_nothing xs)

-- all bytes of a page are written
written_whole : (page : ℕ) (bytes old : List ℕ) → length bytes ≡ 4096 → length old ≡ 4096 → written (4096 * page) bytes page old ≡ bytes
written_whole page bytes old all full =
    (λ i. take (zero_is i) old ++ take (4096 - zero_is i) (drop (zero_is i) bytes) ++ drop (end_is i) old)
    ∙ (λ i. take_all 4096 bytes few_bytes i ++ drop_all 4096 old few_old i)
    ∙ append_nothing bytes
  where
    zero_is : 4096 * page - 4096 * page ≡ 0
    zero_is = omega arith

    end_is : 4096 * page + length bytes - 4096 * page ≡ 4096
    end_is = omega (arith, all)

    few_bytes : length bytes ≤ 4096
    few_bytes = omega (arith, all)

    few_old : length old ≤ 4096
    few_old = omega (arith, full)

-- a page that was mapped to be written, and that begins before its file's end
pub may_store : (files : List (List ℕ)) (what : Backing) (page : ℕ) → ((file index : ℕ) → what ≡ backing.File file index → 4096 * index < length (file_bytes files file)) →
    refused_at files true page (Some (backed what read_write (page - page))) ≡ None
may_store files backing.Zero page before = refl
may_store files (backing.File file index) page before =
    ap (λ b. cond b (Some (reply.Bus (4096 * page))) None) (false_from_ne_true (nat_le (length (file_bytes files file)) (4096 * (index + (page - page)))) (λ t.
    absurd (omega (arith, leb-true (length (file_bytes files file)) (4096 * (index + (page - page))) t, before file index refl))))

module _ (xs : List Item) (st : State) (ok : IsConsistent st) (page : ℕ) (what : Backing) (bytes : List ℕ) (few : length bytes ≤ 4096)
    (same : AreEqualButForNumbers (cells_of (xs ++ Run page 1 read_write what ∷ [])) (space_at st 0)) where
  abbrev sp : AddressSpace
  sp = space_at st 0

  here : map.get sp page ≡ Some (backed what read_write (page - page))
  here = cell_there xs page read_write what sp same

  stored_at : (q : ℕ) → within page 1 q ≡ true →
      option_map without_number (option_map (touched st.files (frame_grants st (store_call page (whole bytes))) (storing page (whole bytes)) q) (map.get sp q)) ≡ Some (Mapped read_write what 0 (whole bytes))
  stored_at q cov =
      let at = only_page page q cov in
      let c = backed what read_write (page - page) in
      ap (λ k. option_map without_number (option_map (touched st.files (frame_grants st (store_call page (whole bytes))) (storing page (whole bytes)) k) (map.get sp k))) at
      ∙ ap (λ o. option_map without_number (option_map (touched st.files (frame_grants st (store_call page (whole bytes))) (storing page (whole bytes)) page) o)) here
      ∙ (λ i. Some (Mapped (perm_of_backed what read_write (page - page) i) (backing_of_backed what read_write page i) 0
      (written_whole page (whole bytes) (contents st.files c) (length_whole bytes few) (ok.bytes 0 page c here) i)))

  pub store_same : AreEqualButForNumbers (cells_of (xs ++ Page page read_write what Live bytes ∷ [])) (stored st page (whole bytes))
  unfolding after_access
  store_same = subst (AreEqualButForNumbers (cells_of (xs ++ Page page read_write what Live bytes ∷ [])))
      (λ i. change sp (sym (first_page_is page) i) (sym (one_page page (length (whole bytes)) (length_whole bytes few)) i)
      (λ q. option_map (touched st.files (frame_grants st (store_call page (whole bytes))) (storing page (whole bytes)) q)))
      (same_put xs (xs ++ Run page 1 read_write what ∷ []) (Page page read_write what Live bytes) sp same
      (away_from xs (Run page 1 read_write what) (Page page read_write what Live bytes) (λ q. refl))
      (λ q. option_map (touched st.files (frame_grants st (store_call page (whole bytes))) (storing page (whole bytes)) q)) stored_at)

-- ---- other permissions

module _ (xs : List Item) (page : ℕ) (old perm : Perm) (what : Backing) (bytes : List ℕ) (sp : AddressSpace)
    (same : AreEqualButForNumbers (cells_of (xs ++ Page page old what Live bytes ∷ [])) sp) where
  pub protect_same : AreEqualButForNumbers (cells_of (xs ++ Page page perm what Live bytes ∷ [])) (protected sp page perm)
  protect_same = same_put xs (xs ++ Page page old what Live bytes ∷ []) (Page page perm what Live bytes) sp same
      (away_from xs (Page page old what Live bytes) (Page page perm what Live bytes) (λ q. refl)) (λ q. option_map (with_perm perm))
      (λ q cov.
      let at = only_page page q cov in
      let has = kept_there xs page old what bytes sp same in
      ap (λ k. option_map without_number (option_map (with_perm perm) (map.get sp k))) at ∙ ap (λ o. option_map without_number (option_map (with_perm perm) o)) has.here)

-- ---- a move to a swap slot

module _ (xs : List Item) (st : State) (ok : IsConsistent st) (alone : (s : ℕ) → is_present st s ≡ true → s ≡ 0) (page : ℕ) (perm : Perm) (what : Backing) (bytes : List ℕ)
    (same : AreEqualButForNumbers (cells_of (xs ++ Page page perm what Live bytes ∷ [])) (space_at st 0)) (free : 1 ≤ length (unused_slots st)) where
  abbrev at_zero : AddressSpace
  at_zero = space_at st 0

  has : HasFrame at_zero page perm what (whole bytes)
  has = kept_there xs page perm what bytes at_zero same

  one : goes_out st (Mapped perm what has.frame (whole bytes)) ≡ true
  one = eq-eqb (frame_owners st has.frame) 1 (one_owner frame_of st alone ok.shared_frames page has.frame (Mapped perm what has.frame (whole bytes)) has.here refl)

  granted_slot : is_some (granted (slot_grants st (out_call page)) page) ≡ true
  granted_slot = granted_each page (wanting_slots_of st (out_call page)) (unused_slots st) (few_slots st page free)
      (key_chosen (4096 * page / 4096) 1 (goes_out st) at_zero page (Mapped perm what has.frame (whole bytes)) has.here (ap (λ k. within k 1 page) (first_page_is page) ∙ covers_page page) one)

  moved_at : (q : ℕ) → within page 1 q ≡ true →
      option_map without_number (option_map (moved out_to (granted (slot_grants st (out_call page)) q)) (map.get at_zero q)) ≡ Some (Swapped perm what 0 (whole bytes))
  moved_at q cov =
      ap (λ k. option_map without_number (option_map (moved out_to (granted (slot_grants st (out_call page)) k)) (map.get at_zero k))) (only_page page q cov)
      ∙ ap (λ o. option_map without_number (option_map (moved out_to (granted (slot_grants st (out_call page)) page)) o)) has.here
      ∙ go (granted (slot_grants st (out_call page)) page) granted_slot
    where
      go : (o : Option ℕ) → is_some o ≡ true → ◌≡◌ {A = Option Cell} (Some (without_number (moved out_to o (Mapped perm what has.frame (whole bytes))))) (Some (Swapped perm what 0 (whole bytes)))
      go None h = absurd (true≢false (sym h))
      go (Some n) h = refl

  pub out_same : AreEqualButForNumbers (cells_of (xs ++ Page page perm what Out bytes ∷ [])) (gone_out st page)
  unfolding moved_to
  out_same = subst (AreEqualButForNumbers (cells_of (xs ++ Page page perm what Out bytes ∷ [])))
      (λ i. change at_zero (sym (first_page_is page) i) 1 (λ q. option_map (moved out_to (granted (slot_grants st (out_call page)) q))))
      (same_put xs (xs ++ Page page perm what Live bytes ∷ []) (Page page perm what Out bytes) at_zero same
      (away_from xs (Page page perm what Live bytes) (Page page perm what Out bytes) (λ q. refl))
      (λ q. option_map (moved out_to (granted (slot_grants st (out_call page)) q))) moved_at)
