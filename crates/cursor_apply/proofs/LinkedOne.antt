-- One granted row is linked: what each step asks, and what all have done.
--     up_is, mark_is, mark_fits      the row above, and the mark that stood there
--     opened_so, may_store      the pass after the row was opened, and what the link asks
--     has_linked      what is left
use Rattle.std.specs.Prelude.{◌≡◌, ℕ, ◌+◌, ◌*◌, ◌-◌, ◌^◌, ◌<◌, ◌≤◌, not, Bool, true, false, cond, List, [], ◌∷◌, ◌++◌, map, nat_eq, slice_get, slice_index_or, Some}
use Rattle.std.specs.List.{Contains, filter}
use Rattle.std.proofs.Common.{sym, refl, ◌∙◌, ap, subst, arith, inr, eq-eqb}
use Rattle.std.proofs.lemmas.Bool.{true≢false}
use Rattle.std.proofs.lemmas.List.Elements.{Contains-append_left, Contains-append_right, Contains-get_or}
use Rattle.std.proofs.Math.Nat.{mul_comm}
use Rattle.walk_core.specs.declared.event.SetPart.{SetPart}
use Rattle.walk_core.specs.declared.event.SetPart.TheVariants.{Position, Generation}
use Rattle.walk_core.specs.declared.pass.GrantedRow.{GrantedRow}
use Rattle.walk_core.specs.Core.{unlinked_rows}
use Rattle.walk_core.specs.Events.{with_part, granted_after_part}
use Rattle.walk_core.specs.Lists.{times}
use Rattle.walk_core.specs.Words.{is_link, link_row, link_word}
use Rattle.walk_core.proofs.RowLists.{in_head, in_map}
use Rattle.walk_core.proofs.Spellings.{link_row-link_word, link_generation-link_word, is_link-link_word}
use Rattle.row_table.specs.declared.view.PassView.{PassView}
use Rattle.row_table.specs.declared.view.HandRow.{HandRow}
use Rattle.row_table.specs.declared.view.HeldRow.{HeldRow as KnownRow}
use Rattle.row_table.specs.Links.{with_word, with_link, link_set, word_set, entry_set, LinksHand, MaySetEntry, Sets}
use Rattle.row_table.specs.Moves.{NotInHand}
use Rattle.row_table.specs.Openings.{with_place, with_number, prepared, opened, opened_row, IsSetUp}
use Rattle.row_table.proofs.Hands.{same_maps}
use Rattle.row_cells.specs.declared.Cell.{Cell}
use Rattle.table_place.specs.declared.Place.{Place}
use Rattle.table_place.specs.Place.{entry_place, span_count}
use Rattle.table_place.proofs.Entries.{level_of}
use Rattle.table_place.proofs.Spans.{span_up}
use Rattle.tree_lock.specs.Held.{IsInOrder}
use Rattle.machine_plan.specs.HeldRows.{Row}
use Rattle.cursor_detach.specs.Cutting.{above_place, above_index, IsRowAt}
use Rattle.cursor_detach.proofs.Positions.{leads_there, index_inside}
use Rattle.cursor_detach.proofs.RowLists.{one_place}
use Rattle.cursor_apply.specs.Linking.{FitsIn, MayLinkAt, linked_view}

-- ---- lists

-- what a test leaves out may be changed before
dropped_same : {X : Type 0} (t : X → Bool) (f : X → X) (xs : List X) → ((x : X) → t (f x) ≡ t x) → ((x : X) → t x ≡ true → f x ≡ x) → filter t (map f xs) ≡ filter t xs
dropped_same t f [] tests each = refl
dropped_same {X} t f (x ∷ xs) tests each = go (t x) refl (dropped_same t f xs tests each)
  where
    go : (b : Bool) → t x ≡ b → filter t (map f xs) ≡ filter t xs → cond (t (f x)) (f x ∷ filter t (map f xs)) (filter t (map f xs)) ≡ cond (t x) (x ∷ filter t xs) (filter t xs)
    go true e rest = (λ i. cond ((tests x ∙ e) i) (f x ∷ filter t (map f xs)) (filter t (map f xs))) ∙ ((λ i. each x e i ∷ rest i) ∙ sym (λ i. cond (e i) (x ∷ filter t xs) (filter t xs)))
    go false e rest = (λ i. cond ((tests x ∙ e) i) (f x ∷ filter t (map f xs)) (filter t (map f xs))) ∙ (rest ∙ sym (λ i. cond (e i) (x ∷ filter t xs) (filter t xs)))

-- a row that is left out may be changed before
not_same : (a r : ℕ) → not (nat_eq a r) ≡ true → nat_eq a r ≡ false
not_same a r e = go (nat_eq a r) e
  where
    go : (b : Bool) → not b ≡ true → b ≡ false
    go false e = refl
    go true e = absurd (true≢false (sym e))

placed_left : (row : ℕ) (p : Place) (xs : List HandRow) → filter (λ x. not (nat_eq x.row row)) (map (with_place row p) xs) ≡ filter (λ x. not (nat_eq x.row row)) xs
placed_left row p xs = dropped_same (λ x. not (nat_eq x.row row)) (with_place row p) xs
    (λ x. ap (λ n. not (nat_eq n row)) (same x (nat_eq x.row row)))
    (λ x e. ap (λ b. cond b (record x { place = Some p }) x) (not_same x.row row e))
  where
    same : (x : HandRow) (b : Bool) → (cond b (record x { place = Some p }) x).row ≡ x.row
    same x true = refl
    same x false = refl

numbered_left : (row generation : ℕ) (xs : List HandRow) → filter (λ x. not (nat_eq x.row row)) (map (with_number row generation) xs) ≡ filter (λ x. not (nat_eq x.row row)) xs
numbered_left row generation xs = dropped_same (λ x. not (nat_eq x.row row)) (with_number row generation) xs
    (λ x. ap (λ n. not (nat_eq n row)) (same x (nat_eq x.row row)))
    (λ x e. ap (λ b. cond b (record x { generation = generation }) x) (not_same x.row row e))
  where
    same : (x : HandRow) (b : Bool) → (cond b (record x { generation = generation }) x).row ≡ x.row
    same x true = refl
    same x false = refl

part_row : (part : SetPart) (g : GrantedRow) (b : Bool) → (cond b (with_part part g) g).row ≡ g.row
part_row (Position p) g true = refl
part_row (Generation n) g true = refl
part_row (Position p) g false = refl
part_row (Generation n) g false = refl

granted_left : (row : ℕ) (part : SetPart) (gs : List GrantedRow) → filter (λ g. not (nat_eq g.row row)) (granted_after_part row part gs) ≡ filter (λ g. not (nat_eq g.row row)) gs
granted_left row part gs = dropped_same (λ g. not (nat_eq g.row row)) (λ g. cond (nat_eq g.row row) (with_part part g) g) gs
    (λ g. ap (λ n. not (nat_eq n row)) (part_row part g (nat_eq g.row row)))
    (λ g e. ap (λ b. cond b (with_part part g) g) (not_same g.row row e))

granted_same : (row : ℕ) (part : SetPart) (gs : List GrantedRow) → map (λ (g : GrantedRow). g.row) (granted_after_part row part gs) ≡ map (λ (g : GrantedRow). g.row) gs
granted_same row part = same_maps (λ (g : GrantedRow). cond (nat_eq g.row row) (with_part part g) g) (λ (g : GrantedRow). g.row) (λ (g : GrantedRow). g.row) (λ g. part_row part g (nat_eq g.row row))

-- ---- the step

module _ {B E : Type 0} (levels row generation : ℕ) (p : Place) (rows : List Row) (v : PassView (List Cell) B E) (may : MayLinkAt levels row generation p rows v) (few : levels < 6) where
  abbrev index : ℕ
  index = above_index levels p

  pub inside : index < 512
  inside = index_inside levels p may.place

  pub above_there : (x : Row) × Contains rows x × (x.place ≡ above_place levels p)
  above_there = (may.up, may.there, may.is_up)

  depth : (1 ≤ p.level) × (p.level ≤ levels)
  depth = level_of levels p may.place

  -- a mark of a span is one of so many pages at each of 512 entries
  span_of : 512 * 512 ^ (p.level - 1) ≡ span_count p
  span_of =
      let same : p.level - 1 + 1 ≡ p.level = (let low = depth.0 in omega (arith, low)) in
      mul_comm 512 (512 ^ (p.level - 1)) ∙ (sym (span_up (p.level - 1)) ∙ ap (λ k. 512 ^ k) same)

  module _ (order : IsInOrder rows) (at : ℕ) (is_at : IsRowAt (above_place levels p) rows at) where
    at_there : Contains rows is_at.row
    at_there = subst (Contains rows) (is_at.is is_at.row) (Contains-get_or rows at is_at.row is_at.inside)

    pub up_is : is_at.row ≡ may.up
    up_is = one_place rows is_at.row may.up order at_there may.there (is_at.place ∙ sym may.is_up)

    pub content_is : (content : List Cell) → ((d : Row) → (slice_index_or rows at d).content ≡ content) → content ≡ is_at.row.content
    content_is content told = sym (told is_at.row) ∙ ap (λ (x : Row). x.content) (is_at.is is_at.row)

    the_mark : slice_get is_at.row.content index ≡ Some may.mark
    the_mark = ap (λ (x : Row). slice_get x.content index) up_is ∙ may.marked

    pub mark_is : (content : List Cell) (n : ℕ) (m : Cell) → content ≡ is_at.row.content → n ≡ index → slice_get content n ≡ Some m → (slice_get is_at.row.content index ≡ Some m) × (m ≡ may.mark)
    mark_is content n m same at_index found =
        let there : slice_get is_at.row.content index ≡ Some m = (λ i. slice_get (sym same i) (sym at_index i)) ∙ found in
        let both : Some m ≡ Some may.mark = sym there ∙ the_mark in
        (there, cc)

    pub mark_fits : (m : Cell) (pages : ℕ) → m ≡ may.mark → pages ≡ 512 ^ (p.level - 1) → FitsIn m (512 * pages)
    mark_fits m pages same are = subst (λ (x : Cell). FitsIn x (512 * pages)) (sym same) (subst (λ n. FitsIn may.mark (512 * n)) (sym are) (subst (λ n. FitsIn may.mark n) (sym span_of) may.fits))

  -- ---- the view

  abbrev ready : HandRow
  ready = record may.may.known { place = Some p; generation = generation }

  ready_there : Contains (prepared v row p generation).hand ready
  ready_there = subst (Contains (prepared v row p generation).hand) is (in_map (with_number row generation) (map (with_place row p) v.hand) (with_place row p may.may.known) (in_map (with_place row p) v.hand may.may.known may.may.in_hand))
    where
      one : with_place row p may.may.known ≡ record may.may.known { place = Some p }
      one = ap (λ b. cond b (record may.may.known { place = Some p }) may.may.known) (eq-eqb may.may.known.row row may.may.same_row)

      is : with_number row generation (with_place row p may.may.known) ≡ ready
      is = ap (with_number row generation) one ∙ ap (λ b. cond b ready (record may.may.known { place = Some p })) (eq-eqb may.may.known.row row may.may.same_row)

  module _ (w : PassView (List Cell) B E) (at : IsSetUp (prepared v row p generation) row) (opens : w ≡ opened (prepared v row p generation) row at.place at.known.generation) where
    is_ready : ready ≡ at.known
    is_ready = at.only ready ready_there may.may.same_row

    place_is : at.place ≡ p
    place_is = let e : Some at.place ≡ Some p = sym at.is_set ∙ ap (λ (x : HandRow). x.place) (sym is_ready) in cc

    generation_is : at.known.generation ≡ generation
    generation_is = ap (λ (x : HandRow). x.generation) (sym is_ready)

    opened_now : w ≡ opened (prepared v row p generation) row p generation
    opened_now = opens ∙ (λ i. opened (prepared v row p generation) row (place_is i) (generation_is i))

  pub opened_so : (v1 w : PassView (List Cell) B E) → v1 ≡ prepared v row p generation → (at : IsSetUp v1 row) → w ≡ opened v1 row at.place at.known.generation → w ≡ opened (prepared v row p generation) row p generation
  opened_so v1 w e = subst (λ (u : PassView (List Cell) B E). (at : IsSetUp u row) → w ≡ opened u row at.place at.known.generation → w ≡ opened (prepared v row p generation) row p generation) (sym e) (λ at opens. opened_now w at opens)

  module _ (w : PassView (List Cell) B E) (is_open : w ≡ opened (prepared v row p generation) row p generation) where
    abbrev open_now : PassView (List Cell) B E
    open_now = opened (prepared v row p generation) row p generation

    abbrev word : ℕ
    word = link_word row generation

    is_link_now : is_link word ≡ true
    is_link_now = is_link-link_word row generation may.small may.low

    row_now : link_row word ≡ row
    row_now = link_row-link_word row generation may.small

    linker_now : Contains open_now.rows may.linker
    linker_now = Contains-append_left v.rows (opened_row row p generation ∷ []) may.linker may.linker_held

    still_linked : NotInHand open_now may.up.row
    still_linked = ap (λ (l : List ℕ). times may.up.row l + times may.up.row (unlinked_rows v.core))
        (granted_same row (Generation generation) (granted_after_part row (Position p) v.core.granted) ∙ granted_same row (Position p) v.core.granted) ∙ may.linked

    leads : p ≡ entry_place v.layout.levels may.linker.place index
    leads = sym (leads_there levels p few may.place) ∙ (λ i. entry_place (sym may.same_levels i) ((sym may.is_up ∙ sym may.linker_place) i) index)

    links_hand : LinksHand open_now may.linker index word
    links_hand = record {
      link = is_link_now;
      child = opened_row row p generation;
      is_open = Contains-append_right v.rows (opened_row row p generation ∷ []) (opened_row row p generation) (in_head (opened_row row p generation) []);
      child_row = sym row_now;
      hand_row = ready;
      granted = ready_there;
      same_row = may.may.same_row ∙ sym row_now;
      place = leads;
      generation = sym (link_generation-link_word row generation may.small);
    }

    may_set : MaySetEntry open_now may.up.row index word
    may_set = record {
      linker = may.linker;
      held = linker_now;
      same_row = may.linker_row;
      linked = still_linked;
      inside = inside;
      old = may.free;
      new = inr (inr links_hand);
    }

    pub may_store : (upper n word' : ℕ) → upper ≡ may.up.row → n ≡ index → word' ≡ word → MaySetEntry w upper n word'
    may_store upper n word' one two three =
        subst (λ (u : PassView (List Cell) B E). MaySetEntry u upper n word') (sym is_open)
        (subst (λ k. MaySetEntry open_now k n word') (sym one) (subst (λ k. MaySetEntry open_now may.up.row k word') (sym two) (subst (λ k. MaySetEntry open_now may.up.row index k) (sym three) may_set)))

    pub has_linked : (upper n word' : ℕ) (z : PassView (List Cell) B E) → upper ≡ may.up.row → n ≡ index → word' ≡ word → Sets upper n word' w z
        → (linker : KnownRow (List Cell)) → Contains v.rows linker → linker.row ≡ may.up.row → z ≡ linked_view v linker index row p generation
    has_linked upper n word' z one two three sets linker held same =
        sets linker (subst (λ (u : PassView (List Cell) B E). Contains u.rows linker) (sym is_open) (Contains-append_left v.rows (opened_row row p generation ∷ []) linker held)) (same ∙ sym one)
        ∙ ((λ i. entry_set (is_open i) linker (two i) (three i))
        ∙ (ap (λ b. cond b (link_set open_now linker index word) (word_set open_now linker.row index word)) is_link_now
        ∙ (ap (λ b. record open_now {
          core = record open_now.core { granted = cond b (filter (λ g. not (nat_eq g.row (link_row word))) open_now.core.granted) open_now.core.granted };
          rows = map (λ h. with_link linker index (link_row word) (with_word linker.row index word h)) open_now.rows;
          hand = filter (λ x. not (nat_eq x.row (link_row word))) open_now.hand;
        }) is_link_now
        ∙ ((λ i. record open_now {
          core = record open_now.core { granted = filter (λ g. not (nat_eq g.row (row_now i))) open_now.core.granted };
          rows = map (λ h. with_link linker index (row_now i) (with_word linker.row index word h)) open_now.rows;
          hand = filter (λ x. not (nat_eq x.row (row_now i))) open_now.hand;
        })
        ∙ (λ i. record v {
          core = record v.core { held = v.core.held ++ row ∷ []; granted = granted_now i };
          rows = map (λ h. with_link linker index row (with_word linker.row index word h)) (v.rows ++ opened_row row p generation ∷ []);
          hand = hand_now i;
        })))))
      where
        granted_now : filter (λ g. not (nat_eq g.row row)) (granted_after_part row (Generation generation) (granted_after_part row (Position p) v.core.granted)) ≡ filter (λ g. not (nat_eq g.row row)) v.core.granted
        granted_now = granted_left row (Generation generation) (granted_after_part row (Position p) v.core.granted) ∙ granted_left row (Position p) v.core.granted

        hand_now : filter (λ x. not (nat_eq x.row row)) (map (with_number row generation) (map (with_place row p) v.hand)) ≡ filter (λ x. not (nat_eq x.row row)) v.hand
        hand_now = numbered_left row generation (map (with_place row p) v.hand) ∙ placed_left row p v.hand
