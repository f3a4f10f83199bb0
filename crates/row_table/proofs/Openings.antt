-- Set up and open row keep the rule.
use Rattle.std.proofs.Common.{◌≡◌, ◌≢◌, ℕ, ◌+◌, ◌*◌, ◌<◌, ◌≤◌, ◌^◌, ◌⊎◌, eqb, cond, true, false, Bool, List, [], ◌∷◌, ◌++◌, map, length, get_or, set, sym, refl, ap, ◌∙◌, subst, ⊎_elim, arith, length-set, get_or-set_same, get_or-set_other, eq-eqb, ne_eqb, Some}
use Rattle.std.specs.List.{Contains}
use Rattle.std.proofs.lemmas.List.{map-append}
use Rattle.std.proofs.lemmas.List.Elements.{Contains-push_cases}
use mathlib.Core.Option.{some, none}
use mathlib.Core.Logic.{dite}
use native.Mathlib.Decide.{ℕ_discrete}
use lib.ListN.{get_elem?}
use Rattle.atomic_table.specs.Table.{Allows, step, keeps, takes}
use Rattle.atomic_table.proofs.Lists.{set_else}
use Rattle.table_place.specs.declared.Place.{Place}
use Rattle.table_place.specs.Place.{is_place}
use Rattle.walk_core.specs.declared.event.Event.TheVariants.{SetUp, OpenRow}
use Rattle.walk_core.specs.declared.event.SetPart.{SetPart}
use Rattle.walk_core.specs.declared.event.SetPart.TheVariants.{Position, Generation}
use Rattle.walk_core.specs.declared.pass.PassCore.{PassCore}
use Rattle.walk_core.specs.Words.{entry_at, lock_at, position_at, generation_at, position_word, place_shown, stale}
use Rattle.walk_core.specs.Lists.{times, Has}
use Rattle.walk_core.specs.Core.{Core, pass_at, granted_rows, granted_at, set_up, times_in_hand, times_out}
use Rattle.walk_core.specs.Events.{granted_after_part, place_of}
use Rattle.walk_core.specs.Guards.{MayWrite}
use Rattle.walk_core.proofs.RowLists.{granted_found, has_part, in_map}
use Rattle.walk_core.proofs.Facts.{hand-le-out, hand_there}
use Rattle.walk_core.proofs.KeepsRows.{part_keeps_rows, is_place_low, prefix_low}
use Rattle.walk_core.proofs.Spellings.{place_shown-position_word}
use Rattle.row_layout.specs.declared.places.Layout.{Layout}
use Rattle.row_layout.specs.Places.{IsLayout}
use Rattle.row_table.specs.declared.view.PassView.{PassView}
use Rattle.row_table.specs.declared.view.HeldRow.{HeldRow}
use Rattle.row_table.specs.declared.view.HandRow.{HandRow}
use Rattle.row_table.specs.declared.plan.Content.TheVariants.{Row}
use Rattle.row_table.specs.Plan.{Meaning}
use Rattle.row_table.specs.Vacant.{blank_words, KeepsVacant}
use Rattle.row_table.specs.Rows.{row_words, place_at, lock_of, generation_of}
use Rattle.row_table.specs.Rule.{Seat, Table, view, IsOne, row_part, hand_part, hand_state, granted_state, core_of, IsHeldRow, IsHandRow, Knows, Holds}
use Rattle.row_table.specs.Openings.{with_place, with_number, opened_row, placed, numbered, prepared, opened, MaySetUp, PlaceTells, NumberTells, MayOpen, IsSetUp, OpenSays, OpenTells}
use Rattle.row_table.proofs.Shown.{same_on, lock_shows}
use Rattle.row_table.proofs.Hands.{rows_granted, states_placed, states_numbered, found_set_up, set_in_hand}
use Rattle.row_table.proofs.Frames.{moved_here, knows_shown, contents_locked}
use Rattle.row_table.proofs.Views.{pass_is}
use Rattle.row_table.proofs.Turns.{contained_map}
use Rattle.row_table.proofs.Beside.{hand_stale, not_part, unique_part, hand_once, us, others_show, epochs_stay, moved_beside, no_other_hand}

-- the words of a row without entries
pub blank_is : (ws : List ℕ) (r : ℕ) → ((i : ℕ) → i < 512 → get_or ws (entry_at r i) 0 ≡ 0) → row_words ws r ≡ blank_words
unfolding row_words blank_words
blank_is ws r zeros = same_on (λ (j : ℕ). get_or ws (entry_at r j) 0) (λ (j : ℕ). 0) 0 512 (λ i less. zeros i (omega arith))

-- a position that may be set up has a spelling
pub low_levels : (k l : Layout) → l ≡ k → (k.levels ≡ 4) ⊎ (k.levels ≡ 5) → l.levels ≤ 5
low_levels k l same four_or_five = let e = ap (λ (y : Layout). y.levels) same in ⊎_elim (λ (f : k.levels ≡ 4). omega arith) (λ (f : k.levels ≡ 5). omega arith) four_or_five

pub few_levels : {k l : Layout} → IsLayout k → l ≡ k → l.levels ≤ 5
few_levels {k} {l} is same = let e = ap (λ (y : Layout). y.levels) same in let high = is.5 in omega arith

pub is_spelled : (k : Layout) (q : Place) → k.levels ≤ 5 → is_place k.levels q ≡ true → (q.space < 64) × (q.level < 8) × (q.prefix < 2 ^ 45)
is_spelled k q most right = let low = is_place_low k.levels q right in let small = low.1 in (low.0, omega arith, prefix_low k.levels q most right)

pub spelled_is : (k : Layout) (q : Place) (x : ℕ) → k.levels ≤ 5 → is_place k.levels q ≡ true → x ≡ position_word q → place_shown x ≡ q
spelled_is k q x most right is = let low = is_spelled k q most right in ap place_shown is ∙ place_shown-position_word q low.0 low.1

module _ {R B E : Type 0} (M : Meaning R B E) where
  -- what the rule says of a row of the pass's hand that it does not hold
  record IsClosedHand (k : Layout) (first : B) (s : Table R B E) (h : Holds M k first s) (v : PassView R B E) (r : ℕ) : Type 0 where
    pub there : r < k.rows
    pub closed : lock_of s.words r ≡ stale
    pub in_hand : 1 ≤ times_in_hand r (pass_at (core_of M k s.words h.passes h.free h.book) v.number)

  closed_hand : (k : Layout) (first : B) (s : Table R B E) (h : Holds M k first s) (v : PassView R B E) → get_elem? h.passes v.number ≡ some v → (r : ℕ) → Has (granted_rows v.core) r → times r v.core.held ≡ 0 → IsClosedHand k first s h v r
  closed_hand k first s h v mine r granted closed =
      let c : Core = core_of M k s.words h.passes h.free h.book in let is = pass_is M k first s h v mine in
      let there = (h.knows v.number v mine).there in
      let hand : 1 ≤ times_in_hand r (pass_at c v.number) = (let same = ap (times_in_hand r) is in omega arith) in
      record {
        there = hand_there h.good v.number r there hand;
        closed = hand_stale c v.number r h.good there hand (ap (λ (u : PassCore). times r u.held) is ∙ closed);
        in_hand = hand;
      }

  -- The row r of the hand v is changed by f, and nothing else of what the pass knows but the granted rows

  prepared_knows : (k : Layout) (first : B) (ws : List ℕ) (r j n : ℕ) → r < k.rows → j < 515 → j ≢ 512 → (b : B) (v : PassView R B E) (part : SetPart) (f : HandRow → HandRow)
      → times r v.core.held ≡ 0 → Knows M k first ws b v → ((x : HandRow) → (f x).row ≡ x.row) → map hand_state (map f v.hand) ≡ map granted_state (granted_after_part r part v.core.granted)
      → ((x : HandRow) → Contains v.hand x → IsHandRow M k (set ws (515 * r + j) n) b (f x))
      → ((x : HandRow) → Contains v.hand x → (p : Place) → (f x).place ≡ Some p → place_at (set ws (515 * r + j) n) x.row ≡ p)
      → Knows M k first (set ws (515 * r + j) n) b (record v { core = record v.core { granted = granted_after_part r part v.core.granted }; hand = map f v.hand })
  prepared_knows k first ws r j n less near no_lock b v part f unheld old same_row states hand placed_in =
      let shows = others_show M k ws r j n less near no_lock in
      let same : (q : ℕ) → times_in_hand q (record v.core { granted = granted_after_part r part v.core.granted }) ≡ times_in_hand q v.core
      = λ q. (let t = ap (times q) (part_keeps_rows r part v.core.granted) in omega arith) in
      record {
        there = old.there;
        layout = old.layout;
        epoch = epochs_stay M k ws r j n less near no_lock v.number ∙ old.epoch;
        held = old.held;
        rows = λ x i. let o = old.rows x i in let z = shows x.row (not_part row_part v.rows v.core.held r old.held unheld x i) in
            record { there = o.there; shown = z.words ∙ o.shown; place = z.place ∙ o.place; generation = z.generation ∙ o.generation; agrees = λ out. o.agrees (sym (same x.row) ∙ out) };
        granted = states;
        hand = λ y i. let o = contained_map f v.hand y i in subst (IsHandRow M k (set ws (515 * r + j) n) b) o.2 (hand o.0 o.1);
        vacant = λ x i out. old.vacant x i (sym (same x.row) ∙ out);
        placed = λ y i. let o = contained_map f v.hand y i in
            subst (λ (u : HandRow). (p : Place) → u.place ≡ Some p → place_at (set ws (515 * r + j) n) u.row ≡ p) o.2
            (λ p e. ap (place_at (set ws (515 * r + j) n)) (same_row o.0) ∙ placed_in o.0 o.1 p e);
        found = old.found;
        origin = old.origin;
        seen = old.seen;
        mine = old.mine;
      }

  -- the pass after a step of the event on the word j of the row
  set_part : (k : Layout) (first : B) (s : Table R B E) (h : Holds M k first s) (id : ℕ) (v : PassView R B E) (part : SetPart) (f : HandRow → HandRow) (r j n : ℕ)
      → get_elem? s.views id ≡ some (v ∷ []) → place_of k.rows k.passes (SetUp v.number r part) ≡ 515 * r + j → j < 515 → j ≢ 512
      → Rattle.walk_core.specs.Events.part_word part ≡ n → Has (granted_rows v.core) r → times r v.core.held ≡ 0
      → MayWrite (core_of M k s.words h.passes h.free h.book) r part
      → generation_of (set s.words (515 * r + j) n) r < M.next_generation h.book
      → Knows M k first (set s.words (515 * r + j) n) h.book (record v { core = record v.core { granted = granted_after_part r part v.core.granted }; hand = map f v.hand })
      → Holds M k first (record { words = set s.words (515 * r + j) n; homes = s.homes; views = set s.views id (record v { core = record v.core { granted = granted_after_part r part v.core.granted }; hand = map f v.hand } ∷ []) })
  set_part k first s h id v part f r j n me at near no_lock number granted unheld value low knows =
      let mine : get_elem? h.passes v.number ≡ some v = (h.seats id (v ∷ []) me 0 v refl).0 in
      let closed = closed_hand k first s h v mine r granted unheld in
      let w : PassView R B E = record v { core = record v.core { granted = granted_after_part r part v.core.granted }; hand = map f v.hand } in
      moved_beside M k first s h id v w (SetUp v.number r part) r j n me refl refl (record { granted = granted; closed = closed.closed; value = value }) refl refl refl
      ((λ i. set s.words (at i) (number i))) closed.there near no_lock
      (λ z. let c = closed.closed in omega arith) low (no_other_hand M k first s h v mine r closed.in_hand closed.closed) knows

  -- Set up

  generation_stays : (ws : List ℕ) (r n q : ℕ) → generation_of (set ws (515 * r + 513) n) q ≡ generation_of ws q
  generation_stays ws r n q = get_or-set_other ws (515 * r + 513) (generation_at q) n 0 (λ e. omega arith)

  with_place_row : (r : ℕ) (q : Place) (x : HandRow) → (with_place r q x).row ≡ x.row
  with_place_row r q x = go (eqb x.row r)
    where
      go : (b : Bool) → (cond b (record x { place = Some q }) x).row ≡ x.row
      go true = refl
      go false = refl

  with_place_known : (k : Layout) (us : List ℕ) (b : B) (r : ℕ) (q : Place) (x : HandRow) → IsHandRow M k us b x → IsHandRow M k us b (with_place r q x)
  with_place_known k us b r q x old = go (eqb x.row r)
    where
      go : (t : Bool) → IsHandRow M k us b (cond t (record x { place = Some q }) x)
      go true = record { there = old.there; shown = old.shown; below = old.below; fresh = old.fresh }
      go false = old

  pub places : (k : Layout) (first : B) (slots id : ℕ) (m : Seat R B E) (n r : ℕ) (q : Place) (known : HandRow) → IsOne n m → Contains (view m).hand known → known.row ≡ r → times r (view m).core.held ≡ 0 → is_place (view m).layout.levels q ≡ true
      → Allows (Holds M k first) slots id m (position_at r) (λ _. position_word q) (λ _. PlaceTells (step slots (position_at r) (position_word q) 0 none) m (position_word q))
  places k first slots id m n r q known one in_hand same_row unheld right s h long me _ =
      let v : PassView R B E = view m in
      let me' : get_elem? s.views id ≡ some (v ∷ []) = me ∙ ap some one.0 in
      let mine : get_elem? h.passes v.number ≡ some v = (h.seats id (v ∷ []) me' 0 v refl).0 in
      let know = h.knows v.number v mine in
      let granted : Has (granted_rows v.core) r = subst (Has (granted_rows v.core)) same_row (subst (λ (l : List ℕ). Has l known.row) (rows_granted v.hand v.core.granted know.granted) (has_part hand_part v.hand known in_hand)) in
      let closed = closed_hand k first s h v mine r granted unheld in let less = closed.there in
      let wide = h.good.sizes.words in
      let near : position_at r < length s.words = omega arith in
      let word : ℕ = position_word q in let shown : Place = place_shown word in
      let path : shown ≡ q = spelled_is v.layout q word (low_levels k v.layout know.layout h.good.sizes.bounds.some_levels) right refl in
      let right_here : is_place k.levels q ≡ true = subst (λ (y : Layout). is_place y.levels q ≡ true) know.layout right in
      let ws : List ℕ = set s.words (515 * r + 513) word in
      let at : place_at ws r ≡ shown = ap place_shown (get_or-set_same s.words (position_at r) word 0 near) in
      let w : PassView R B E = placed v r shown in (
        w ∷ [],
        keeps,
        tt,
        set_part k first s h id v (Position shown) (with_place r shown) r 513 word me' refl (omega arith) (λ e. omega arith) (ap position_word path) granted unheld (ap (is_place k.levels) path ∙ right_here)
            (subst (λ (g : ℕ). g < M.next_generation h.book) (sym (generation_stays s.words r word r)) (h.generations r less))
            (prepared_knows k first s.words r 513 word less (omega arith) (λ e. omega arith) h.book v (Position shown) (with_place r shown) unheld know (with_place_row r shown) (states_placed r shown v.hand v.core.granted know.granted)
            (λ x i. let o = know.hand x i in with_place_known k ws h.book r shown x (record { there = o.there; shown = generation_stays s.words r word x.row ∙ o.shown; below = o.below; fresh = o.fresh }))
            (λ x i p e. dite (ℕ_discrete x.row r)
            (λ z. let is : Some shown ≡ Some p = ap (λ (t : Bool). (cond t (record x { place = Some shown }) x).place) (sym (eq-eqb x.row r z)) ∙ e in let same : shown ≡ p = cc in ap (place_at ws) z ∙ (at ∙ same))
            (λ ne. (others_show M k s.words r 513 word less (omega arith) (λ y. omega arith) x.row ne).place ∙ know.placed x i p (ap (λ (t : Bool). (cond t (record x { place = Some shown }) x).place) (sym (ne_eqb x.row r ne)) ∙ e)))),
        λ row same. let e : r ≡ row = omega arith in ap (λ (y : ℕ). (placed v y shown ∷ [], m.1)) e,
      )

  with_number_row : (r g : ℕ) (x : HandRow) → (with_number r g x).row ≡ x.row
  with_number_row r g x = go (eqb x.row r)
    where
      go : (b : Bool) → (cond b (record x { generation = g }) x).row ≡ x.row
      go true = refl
      go false = refl

  with_number_place : (r g : ℕ) (x : HandRow) → (with_number r g x).place ≡ x.place
  with_number_place r g x = go (eqb x.row r)
    where
      go : (b : Bool) → (cond b (record x { generation = g }) x).place ≡ x.place
      go true = refl
      go false = refl

  pub numbers : (k : Layout) (first : B) (slots id : ℕ) (m : Seat R B E) (n r g : ℕ) (known : HandRow) → IsOne n m → Contains (view m).hand known → known.row ≡ r → times r (view m).core.held ≡ 0 → known.generation < g → g < known.high
      → Allows (Holds M k first) slots id m (generation_at r) (λ _. g) (λ _. NumberTells (step slots (generation_at r) g 0 none) m g)
  numbers k first slots id m n r g known one in_hand same_row unheld above high s h long me _ =
      let v : PassView R B E = view m in
      let me' : get_elem? s.views id ≡ some (v ∷ []) = me ∙ ap some one.0 in
      let mine : get_elem? h.passes v.number ≡ some v = (h.seats id (v ∷ []) me' 0 v refl).0 in
      let know = h.knows v.number v mine in
      let c : Core = core_of M k s.words h.passes h.free h.book in
      let granted : Has (granted_rows v.core) r = subst (Has (granted_rows v.core)) same_row (subst (λ (l : List ℕ). Has l known.row) (rows_granted v.hand v.core.granted know.granted) (has_part hand_part v.hand known in_hand)) in
      let closed = closed_hand k first s h v mine r granted unheld in let less = closed.there in
      let wide = h.good.sizes.words in
      let near : generation_at r < length s.words = omega arith in
      let ws : List ℕ = set s.words (515 * r + 514) g in
      let at : generation_of ws r ≡ g = get_or-set_same s.words (generation_at r) g 0 near in
      let its = know.hand known in_hand in let fresh = its.fresh in let shown = its.shown in
      let now : generation_of s.words r ≡ known.generation = ap (generation_of s.words) (sym same_row) ∙ shown in
      let once : (x : HandRow) → Contains v.hand x → x.row ≡ r → x ≡ known = λ x i e. unique_part hand_part v.hand x known i in_hand (e ∙ sym same_row) (hand_once M k first s h v mine x.row) in
      let place_stays : (q : ℕ) → place_at ws q ≡ place_at s.words q = λ q. ap place_shown (get_or-set_other s.words (515 * r + 514) (position_at q) g 0 (λ e. omega arith)) in
      let w : PassView R B E = numbered v r g in (
        w ∷ [],
        keeps,
        tt,
        set_part k first s h id v (Generation g) (with_number r g) r 514 g me' refl (omega arith) (λ e. omega arith) refl granted unheld (omega arith) (omega arith)
            (prepared_knows k first s.words r 514 g less (omega arith) (λ e. omega arith) h.book v (Generation g) (with_number r g) unheld know (with_number_row r g) (states_numbered r g v.hand v.core.granted know.granted)
            (λ x i. let o = know.hand x i in dite (ℕ_discrete x.row r)
            (λ z. let is = once x i z in subst (IsHandRow M k ws h.book) (ap (λ (t : Bool). cond t (record x { generation = g }) x) (sym (eq-eqb x.row r z)))
            (record { there = o.there; shown = ap (generation_of ws) z ∙ at; below = (let b = ap (λ (y : HandRow). y.high) is in omega arith); fresh = o.fresh }))
            (λ ne. subst (IsHandRow M k ws h.book) (ap (λ (t : Bool). cond t (record x { generation = g }) x) (sym (ne_eqb x.row r ne)))
            (record { there = o.there; shown = (others_show M k s.words r 514 g less (omega arith) (λ y. omega arith) x.row ne).generation ∙ o.shown; below = o.below; fresh = o.fresh })))
            (λ x i p e. place_stays x.row ∙ know.placed x i p (sym (with_number_place r g x) ∙ e))),
        λ row same. let e : r ≡ row = omega arith in ap (λ (y : ℕ). (numbered v y g ∷ [], m.1)) e,
      )

  -- Open row

  -- what the words show of a row that was set up is what the hand says of it
  record ShowsSetUp (words : List ℕ) (v : PassView R B E) (r : ℕ) : Type 0 where
    pub at : IsSetUp v r
    pub place : place_at words r ≡ at.place
    pub generation : generation_of words r ≡ at.known.generation

  set_up_row : (k : Layout) (first : B) (s : Table R B E) (h : Holds M k first s) (v : PassView R B E) → get_elem? h.passes v.number ≡ some v → (r : ℕ) → granted_at v.core r ≡ set_up r → ShowsSetUp s.words v r
  set_up_row k first s h v mine r both_set =
      let know = h.knows v.number v mine in
      let its = set_in_hand r v.hand v.core.granted know.granted both_set in let x : HandRow = its.0 in
      record {
        at = record {
          known = x;
          in_hand = its.1;
          same_row = its.2;
          only = λ y i e. unique_part hand_part v.hand y x i its.1 (e ∙ sym its.2) (hand_once M k first s h v mine y.row);
          place = its.3.0;
          is_set = its.3.1;
        };
        place = ap (place_at s.words) (sym its.2) ∙ know.placed x its.1 its.3.0 its.3.1;
        generation = ap (generation_of s.words) (sym its.2) ∙ (know.hand x its.1).shown;
      }

  opened_knows : (k : Layout) (first : B) (ws us : List ℕ) (b : B) (v : PassView R B E) (r : ℕ) (q : Place) (g : ℕ) → place_at ws r ≡ q → generation_of ws r ≡ g → Rattle.row_table.proofs.Shown.ShowSame k ws us → r < k.rows → row_words ws r ≡ blank_words → 1 ≤ times_in_hand r v.core
      → Knows M k first ws b v → Knows M k first us b (opened v r q g)
  opened_knows k first ws us b v r q g at_place with_generation shows less blank in_hand old =
      let now = knows_shown M k first ws us b v shows old in
      let x : HeldRow R = opened_row r q g in
      let w : PassView R B E = opened v r q g in
      let z = shows.rows r less in record {
        there = now.there;
        layout = now.layout;
        epoch = now.epoch;
        held = map-append row_part v.rows (x ∷ []) ∙ ap (λ (l : List ℕ). l ++ r ∷ []) now.held;
        rows = λ y i. ⊎_elim
            (λ (j : Contains v.rows y). let o = now.rows y j in record { there = o.there; shown = o.shown; place = o.place; generation = o.generation; agrees = o.agrees })
            (λ (e : x ≡ y). subst (λ (u : HeldRow R). IsHeldRow M k us b w u) e (record { there = less; shown = z.words ∙ blank; place = z.place ∙ at_place; generation = z.generation ∙ with_generation; agrees = λ out. absurd (omega arith) }))
            (Contains-push_cases v.rows x y i);
        granted = now.granted;
        hand = now.hand;
        vacant = λ y i. ⊎_elim (now.vacant y)
            (λ (e : x ≡ y). subst (λ (u : HeldRow R). times_in_hand u.row v.core ≡ 0 → KeepsVacant M k.levels b v.last u) e (λ out. absurd (omega arith)))
            (Contains-push_cases v.rows x y i);
        placed = now.placed;
        found = now.found;
        origin = now.origin;
        seen = now.seen;
        mine = now.mine;
      }

  pub opens : (k : Layout) (first : B) (slots id : ℕ) (m : Seat R B E) (n r : ℕ) → IsOne n m → MayOpen (view m) r
      → Allows (Holds M k first) slots id m (lock_at r) (λ _. n + 1) (λ _. OpenTells M (step slots (lock_at r) (n + 1) 0 none) m (n + 1))
  opens k first slots id m n r one may s h long me _ =
      let v : PassView R B E = view m in
      let me' : get_elem? s.views id ≡ some (v ∷ []) = me ∙ ap some one.0 in
      let mine : get_elem? h.passes v.number ≡ some v = (h.seats id (v ∷ []) me' 0 v refl).0 in
      let know = h.knows v.number v mine in
      let c : Core = core_of M k s.words h.passes h.free h.book in
      let granted : Has (granted_rows v.core) r = granted_found r v.core.granted (record { row = r; has_position = true; has_generation = true }) may.both_set in
      let closed = closed_hand k first s h v mine r granted may.closed in let less = closed.there in
      let wide = h.good.sizes.words in let few = h.good.sizes.bounds.count_high in let all = h.good.sizes.passes in
      let near : lock_at r < length s.words = omega arith in
      let there = know.there in let number = one.1 in
      let hand : 1 ≤ times_in_hand r v.core = omega arith in
      let in_hand = closed.in_hand in
      let out : 1 ≤ times_out c r = (let part = hand-le-out c v.number r (omega arith) in omega arith) in
      let shows = lock_shows k s.words r (n + 1) less in
      let t = h.contents.others r less closed.closed in
      let found = set_up_row k first s h v mine r may.both_set in let at = found.at in
      let w : PassView R B E = opened v r at.place at.known.generation in (
        w ∷ [],
        takes r (Some (Row t.0)),
        t.1,
        moved_here M k first s h id v w (OpenRow n r) (set s.homes r none) me' (sym one.1) refl (record { both_set = may.both_set; closed = closed.closed }) refl refl refl (length-set s.homes r none)
            (contents_locked M k s.words h.book r (n + 1) s.homes (set s.homes r none) less near h.contents
            (λ q ne. set_else s.homes r q none ne)
            (record { linked = λ z. absurd (omega arith); others = λ z. absurd (omega arith) }))
            shows
            (opened_knows k first s.words (set s.words (lock_at r) (n + 1)) h.book v r at.place at.known.generation found.place found.generation shows less (blank_is s.words r (λ i inside. h.good.links.empty r i less inside out)) hand know),
        λ row same. let e : r ≡ row = omega arith in subst (OpenSays M m (w ∷ [], (r, Some (Row t.0)) ∷ m.1)) e (at, t.0, t.2, refl {a = (w ∷ [], (r, Some (Row t.0)) ∷ m.1)}),
      )

  -- the same where the place and the number are known by equations

  pub places_at : (k : Layout) (first : B) (slots id : ℕ) (m : Seat R B E) (n r i x : ℕ) (q : Place) (known : HandRow) → i ≡ position_at r → x ≡ position_word q → IsOne n m → Contains (view m).hand known → known.row ≡ r → times r (view m).core.held ≡ 0 → is_place (view m).layout.levels q ≡ true
      → Allows (Holds M k first) slots id m i (λ _. x) (λ _. PlaceTells (step slots i x 0 none) m x)
  places_at k first slots id m n r i x q known at is one in_hand same_row unheld right =
      subst (λ (j : ℕ). Allows (Holds M k first) slots id m j (λ _. x) (λ _. PlaceTells (step slots j x 0 none) m x)) (sym at)
      (subst (λ (y : ℕ). Allows (Holds M k first) slots id m (position_at r) (λ _. y) (λ _. PlaceTells (step slots (position_at r) y 0 none) m y)) (sym is)
      (places k first slots id m n r q known one in_hand same_row unheld right))

  pub numbers_at : (k : Layout) (first : B) (slots id : ℕ) (m : Seat R B E) (n r i g : ℕ) (known : HandRow) → i ≡ generation_at r → IsOne n m → Contains (view m).hand known → known.row ≡ r → times r (view m).core.held ≡ 0 → known.generation < g → g < known.high
      → Allows (Holds M k first) slots id m i (λ _. g) (λ _. NumberTells (step slots i g 0 none) m g)
  numbers_at k first slots id m n r i g known at one in_hand same_row unheld above high =
      subst (λ (j : ℕ). Allows (Holds M k first) slots id m j (λ _. g) (λ _. NumberTells (step slots j g 0 none) m g)) (sym at) (numbers k first slots id m n r g known one in_hand same_row unheld above high)

  pub opens_at : (k : Layout) (first : B) (slots id : ℕ) (m : Seat R B E) (n r i a : ℕ) → i ≡ lock_at r → a ≡ n → IsOne n m → MayOpen (view m) r
      → Allows (Holds M k first) slots id m i (λ _. a + 1) (λ _. OpenTells M (step slots i (a + 1) 0 none) m (a + 1))
  opens_at k first slots id m n r i a at is one may =
      subst (λ (j : ℕ). Allows (Holds M k first) slots id m j (λ _. a + 1) (λ _. OpenTells M (step slots j (a + 1) 0 none) m (a + 1))) (sym at)
      (subst (λ (b : ℕ). Allows (Holds M k first) slots id m (lock_at r) (λ _. b + 1) (λ _. OpenTells M (step slots (lock_at r) (b + 1) 0 none) m (b + 1))) (sym is)
      (opens k first slots id m n r one may))

  -- What the calls need

  -- a row that was set up may be opened
  pub may_open : (v : PassView R B E) (r n : ℕ) (q : Place) (known : HandRow) → map hand_part v.hand ≡ granted_rows v.core → Contains v.hand known → known.row ≡ r → times r v.core.held ≡ 0 → MayOpen (prepared v r q n) r
  may_open v r n q known rows in_hand same_row closed = record {
    both_set = found_set_up r n q v.core.granted (subst (Has (granted_rows v.core)) same_row (subst (λ (l : List ℕ). Has l known.row) rows (has_part hand_part v.hand known in_hand)));
    closed = closed;
  }

  with_place_same : (r : ℕ) (q : Place) (x : HandRow) → ((with_place r q x).generation ≡ x.generation) × ((with_place r q x).high ≡ x.high)
  with_place_same r q x = go (eqb x.row r)
    where
      go : (b : Bool) → ((cond b (record x { place = Some q }) x).generation ≡ x.generation) × ((cond b (record x { place = Some q }) x).high ≡ x.high)
      go true = (refl, refl)
      go false = (refl, refl)

  -- after the position was written
  pub numbers_next : (k : Layout) (first : B) (slots id : ℕ) (m m' : Seat R B E) (n r i g : ℕ) (q p : Place) → i ≡ generation_at r → IsOne n m → MaySetUp (view m) r p g → m' ≡ (placed (view m) r q ∷ [], m.1)
      → Allows (Holds M k first) slots id m' i (λ _. g) (λ _. NumberTells (step slots i g 0 none) m' g)
  numbers_next k first slots id m m' n r i g q p at one may is =
      let x : HandRow = with_place r q may.known in let same = with_place_same r q may.known in
      subst (λ (y : Seat R B E). Allows (Holds M k first) slots id y i (λ _. g) (λ _. NumberTells (step slots i g 0 none) y g)) (sym is)
      (numbers_at k first slots id (placed (view m) r q ∷ [], m.1) n r i g x at (refl, one.1) (in_map (with_place r q) (view m).hand may.known may.in_hand) (with_place_row r q may.known ∙ may.same_row) may.closed
      (let a = may.above in let e = same.0 in omega arith) (let a = may.high in let e = same.1 in omega arith))
