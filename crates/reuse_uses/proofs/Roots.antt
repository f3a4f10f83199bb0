-- What a pass has after each of its calls.
use Rattle.std.proofs.Common.{◌≡◌, ◌≢◌, ℕ, ◌+◌, ◌*◌, ◌^◌, ◌<◌, eqb, cond, not, Bool, true, false, List, [], ◌∷◌, ◌++◌, map, length, get_or, set, inr, sym, refl, ap, ◌∙◌, subst, ⊎_elim, arith, eq-eqb, ne_eqb, get_or-set_same, length-set, Some, None}
use Rattle.std.specs.List.{Contains, filter}
use Rattle.std.proofs.lemmas.List.{map-append}
use Rattle.std.proofs.lemmas.List.Elements.{Contains-append_left, Contains-append_right}
use Rattle.table_place.specs.declared.Place.{Place}
use Rattle.table_place.specs.Place.{directory, entry_place, is_place}
use Rattle.walk_core.specs.declared.lists.PutRow.{PutRow}
use Rattle.walk_core.specs.declared.event.SetPart.TheVariants.{Position, Generation}
use Rattle.walk_core.specs.declared.pass.GrantedRow.{GrantedRow}
use Rattle.walk_core.specs.declared.pass.UnlinkedRow.{UnlinkedRow}
use Rattle.walk_core.specs.Words.{is_link, link_row, link_generation, link_word}
use Rattle.walk_core.specs.Lists.{times, Has, without, among, minus}
use Rattle.walk_core.specs.Core.{unlinked_rows}
use Rattle.walk_core.specs.Events.{top, newly_granted, newly_unlinked, granted_after_part, granted_after_entry, stand_after_look}
use Rattle.walk_core.specs.Guards.{StandsOn, put_rows, IsMarked, IsSampled, IsUnread}
use Rattle.walk_core.proofs.RowLists.{times-nil, times-cons_other, times-append, times_one_same, times_one_other, head_or_later, in_head, in_tail, in_map}
use Rattle.walk_core.proofs.Spellings.{link_word_is, link_row-link_word, link_generation-link_word, is_link-link_word, zero_no_link}
use Rattle.row_layout.specs.declared.places.Layout.{Layout}
use Rattle.row_table.specs.declared.view.HeldRow.{HeldRow}
use Rattle.row_table.specs.declared.view.HandRow.{HandRow}
use Rattle.row_table.specs.Vacant.{blank_words}
use Rattle.row_table.specs.Moves.{grabbed, got, released, Finds, Fits, NotInHand}
use Rattle.row_table.specs.Crossings.{entered, left}
use Rattle.row_table.specs.Looks.{looked_at, Reads}
use Rattle.row_table.specs.Books.{given, hand_rows, taken_rows, put_list, turned, Learns, Gives}
use Rattle.row_table.specs.Openings.{with_place, with_number, opened_row, prepared, opened, MaySetUp, IsSetUp}
use Rattle.row_table.specs.Links.{with_word, newly_linked, with_link, link_set, word_set, entry_cut, MaySetEntry, Sets, MayUnlink, Unlinks}
use Rattle.row_table.specs.Close.{IsIdle}
use Rattle.row_cells.specs.declared.Cell.{Cell}
use Rattle.row_cells.specs.Cells.{blank}
use Rattle.row_layout.specs.declared.limbo.Sampled.{Sampled}
use Rattle.epoch_grace.specs.Sweeping.{Sweeps}
use Rattle.epoch_grace.specs.Loads.{Loads}
use Rattle.epoch_grace.proofs.Loaded.{loaded_same}
use Rattle.epoch_grace.proofs.Gives.{map_filter, minus_none}
use Rattle.reuse_plan.specs.Stock.{StockData, put_of, store, IsStocked, Draws, deposited}
use Rattle.reuse_uses.specs.Kept.{View, HasRoot, HasGrant, HasGraft}
use Rattle.reuse_uses.proofs.Lists.{IsOnce, draw_put, draw_taken, put_put, put_taken, sweep_put, sweep_taken}
use Rattle.row_table.proofs.Blank.{blank_zero}

-- The link of entry 0 of row 0: row 1, the root of space 0, with generation 1
abbrev pub root_link : ℕ
root_link = 4198919

pub root_is_link : is_link root_link ≡ true
unfolding is_link link_word
root_is_link = refl

root_is_one : link_row root_link ≡ 1
root_is_one = refl

-- The pass takes row 1

-- where the first look led it
stands_there : (v1 v2 : View) (n : ℕ) (p : Place) → v1.core.stand ≡ Some top → v2 ≡ looked_at v1 0 p 0 n → n ≡ root_link
    → v2.core.stand ≡ Some (record { row = 1; place = entry_place v1.layout.levels directory 0; generation = link_generation root_link })
stands_there v1 v2 n p at e is =
    ap (λ (v : View). v.core.stand) e ∙ ((λ j. stand_after_look v1.layout.levels 0 0 (is j) (at j))
    ∙ ap (λ (b : Bool). cond b (Some (record { row = 1; place = entry_place v1.layout.levels directory 0; generation = link_generation root_link })) (Some top)) root_is_link)

pub stands_on_root : (v1 v2 : View) (n : ℕ) (p : Place) → v1.core.stand ≡ Some top → v2 ≡ looked_at v1 0 p 0 n → n ≡ root_link → StandsOn v2.core 1
stands_on_root v1 v2 n p at e is = (record { row = 1; place = entry_place v1.layout.levels directory 0; generation = link_generation root_link }, stands_there v1 v2 n p at e is, refl)

pub holds_it : (v2 v3 v4 : View) (f : Finds 1 v2) (x : List Cell) → v3 ≡ got v2 1 f.place f.generation f.words x → v4 ≡ left v3 → Has v4.core.held 1
holds_it v2 v3 v4 f x e3 e4 = let same = ap (times 1) (ap (λ (v : View). v.core.held) e4 ∙ ap (λ (v : View). v.core.held) e3) in let more = times-append 1 v2.core.held (1 ∷ []) in let one = times_one_same 1 1 refl in omega arith

pub took : (v0 v1 v2 v3 v4 v5 : View) (n m : ℕ) (x : List Cell) (p : Place) → v0.layout.levels ≡ 4 → IsIdle v0 → v1 ≡ entered v0 → v2 ≡ looked_at v1 0 p 0 n → n ≡ root_link → (f : Finds 1 v2) → v3 ≡ got v2 1 f.place f.generation f.words x → v4 ≡ left v3
    → (r : Reads v4 1 5 m) → v5 ≡ looked_at v4 1 r.place 5 m → m ≡ 0 → HasRoot v5 0 (1 ∷ []) [] [] false
took v0 v1 v2 v3 v4 v5 n m x p levels idle e1 e2 is f e3 e4 r e5 z =
    let g : HeldRow (List Cell) = grabbed 1 f.place f.generation f.words x in
    let here : Contains v4.rows g = subst (λ (l : List (HeldRow (List Cell))). Contains l g) (sym (ap (λ (v : View). v.rows) e4 ∙ ap (λ (v : View). v.rows) e3)) (Contains-append_right v2.rows (g ∷ []) g (in_head g [])) in
    let stand = stands_there v1 v2 n p (ap (λ (v : View). v.core.stand) e1) e2 is in
    let layout : v5.layout ≡ v1.layout = ap (λ (v : View). v.layout) e5 ∙ (ap (λ (v : View). v.layout) e4 ∙ (ap (λ (v : View). v.layout) e3 ∙ ap (λ (v : View). v.layout) e2)) in
    record {
      four = ap (λ (y : Layout). y.levels) (layout ∙ ap (λ (v : View). v.layout) e1) ∙ levels;
      row_one = g;
      there = subst (λ (l : List (HeldRow (List Cell))). Contains l g) (sym (ap (λ (v : View). v.rows) e5)) here;
      number = refl;
      place = f.known.of_stand _ stand refl ∙ ap (λ (y : Layout). entry_place y.levels directory 0) (sym layout);
      word_five = sym (r.holds g here refl) ∙ z;
      is_given = refl;
      last = λ e. absurd (cc);
      held = ap (λ (v : View). v.core.held) e5 ∙ (ap (λ (v : View). v.core.held) e4 ∙ (ap (λ (v : View). v.core.held) e3 ∙ ap (λ (l : List ℕ). l ++ 1 ∷ []) (ap (λ (v : View). v.core.held) e2 ∙ (ap (λ (v : View). v.core.held) e1 ∙ idle.held))));
      outside = ap (λ (v : View). v.core.stand) e5 ∙ ap (stand_after_look v4.layout.levels 1 5 m) (ap (λ (v : View). v.core.stand) e4);
      granted = ap (λ (v : View). v.core.granted) e5 ∙ (ap (λ (v : View). v.core.granted) e4 ∙ (ap (λ (v : View). v.core.granted) e3 ∙ (ap (λ (v : View). v.core.granted) e2 ∙ (ap (λ (v : View). v.core.granted) e1 ∙ idle.granted))));
      unlinked = ap (map (λ (u : UnlinkedRow). u.row)) (ap (λ (v : View). v.core.unlinked) e5 ∙ (ap (λ (v : View). v.core.unlinked) e4 ∙ (ap (λ (v : View). v.core.unlinked) e3 ∙ (ap (λ (v : View). v.core.unlinked) e2 ∙ (ap (λ (v : View). v.core.unlinked) e1 ∙ idle.unlinked)))));
      has_not = ap (λ (v : View). v.core.has_book) e5 ∙ (ap (λ (v : View). v.core.has_book) e4 ∙ (ap (λ (v : View). v.core.has_book) e3 ∙ (ap (λ (v : View). v.core.has_book) e2 ∙ (ap (λ (v : View). v.core.has_book) e1 ∙ idle.has_not))));
    }

-- It gives the book

-- what a turn and samples leave of a pass
pub record SameKept (v w : View) : Type 0 where
  pub layout : w.layout ≡ v.layout
  pub rows : w.rows ≡ v.rows
  pub hand : w.hand ≡ v.hand
  pub held : w.core.held ≡ v.core.held
  pub stand : w.core.stand ≡ v.core.stand
  pub granted : w.core.granted ≡ v.core.granted
  pub unlinked : unlinked_rows w.core ≡ unlinked_rows v.core

pub kept_turned : (v w : View) (book : StockData) → w ≡ turned store v book → SameKept v w
kept_turned v w book e = record {
  layout = ap (λ (u : View). u.layout) e;
  rows = ap (λ (u : View). u.rows) e;
  hand = ap (λ (u : View). u.hand) e;
  held = ap (λ (u : View). u.core.held) e;
  stand = ap (λ (u : View). u.core.stand) e;
  granted = ap (λ (u : View). u.core.granted) e;
  unlinked = ap (λ (u : View). unlinked_rows u.core) e;
}

pub kept_loaded : (v w : View) (numbers : List ℕ) → Loads store v numbers w → SameKept v w
kept_loaded v w numbers loads = let s = loaded_same 0 numbers v in let e = loads.after ∙ s.after in record {
  layout = ap (λ (u : View). u.layout) e;
  rows = ap (λ (u : View). u.rows) e;
  hand = ap (λ (u : View). u.hand) e;
  held = ap (λ (u : View). u.core.held) e;
  stand = ap (λ (u : View). u.core.stand) e;
  granted = ap (λ (u : View). u.core.granted) e;
  unlinked = ap (λ (u : View). unlinked_rows u.core) e ∙ s.rows;
}

pub loaded_found : (v w : View) (numbers : List ℕ) → Loads store v numbers w → (w.found ≡ v.found) × (w.core.has_book ≡ v.core.has_book)
loaded_found v w numbers loads = let e = loads.after ∙ (loaded_same 0 numbers v).after in (ap (λ (u : View). u.found) e, ap (λ (u : View). u.core.has_book) e)

pub kept_on : (u v w : View) → SameKept u v → SameKept v w → SameKept u w
kept_on u v w a b = record {
  layout = b.layout ∙ a.layout;
  rows = b.rows ∙ a.rows;
  hand = b.hand ∙ a.hand;
  held = b.held ∙ a.held;
  stand = b.stand ∙ a.stand;
  granted = b.granted ∙ a.granted;
  unlinked = b.unlinked ∙ a.unlinked;
}

pub given_root : (v u w : View) (new : StockData) (gs hs : List GrantedRow) (us ws : List ℕ) (b : Bool) → HasRoot v 0 (1 ∷ []) gs us b → SameKept v u → (g : Gives store u new w)
    → w.core.granted ≡ hs → unlinked_rows w.core ≡ ws → HasRoot w 0 (1 ∷ []) hs ws true
given_root v u w new gs hs us ws b root kept g granted unlinked =
    let layout : w.layout ≡ v.layout = ap (λ (y : View). y.layout) g.after ∙ kept.layout in
    record {
      four = ap (λ (y : Layout). y.levels) layout ∙ root.four;
      row_one = given root.row_one;
      there = subst (λ (l : List (HeldRow (List Cell))). Contains l (given root.row_one)) (sym (ap (λ (y : View). y.rows) g.after ∙ ap (map given) kept.rows)) (in_map given v.rows root.row_one root.there);
      number = root.number;
      place = root.place ∙ ap (λ (y : Layout). entry_place y.levels directory 0) (sym layout);
      word_five = root.word_five;
      is_given = refl;
      last = λ _. (new, ap (λ (y : View). y.last) g.after);
      held = ap (λ (y : View). y.core.held) g.after ∙ (kept.held ∙ root.held);
      outside = ap (λ (y : View). y.core.stand) g.after ∙ (kept.stand ∙ root.outside);
      granted = granted;
      unlinked = unlinked;
      has_not = ap (λ (y : View). y.core.has_book) g.after;
    }

granted_given : (u w : View) (old new : StockData) (g : Gives store u new w) → g.old ≡ old → (taken : List ℕ) → taken_rows store old new ≡ taken → w.core.granted ≡ u.core.granted ++ map newly_granted taken
granted_given u w old new g same taken is = ap (λ (y : View). y.core.granted) g.after ∙ (λ j. u.core.granted ++ map newly_granted ((ap (λ (a : StockData). taken_rows store a new) same ∙ is) j))

unlinked_given : (u w : View) (old new : StockData) (g : Gives store u new w) → g.old ≡ old → (put : List PutRow) → put_list store old new ≡ put → unlinked_rows w.core ≡ minus (put_rows put) (unlinked_rows u.core)
unlinked_given u w old new g same put is = ap (λ (y : View). unlinked_rows y.core) g.after
    ∙ (map_filter (λ (y : UnlinkedRow). y.row) (λ r. not (among (put_rows (put_list store g.old new)) r)) u.core.unlinked
    ∙ (λ j. minus (put_rows ((ap (λ (a : StockData). put_list store a new) same ∙ is) j)) (unlinked_rows u.core)))

pub same_book : (u : View) (book a : StockData) → u.found ≡ Some book → u.found ≡ Some a → a ≡ book
same_book u book a e found = let is : Some a ≡ Some book = sym found ∙ e in cc

-- It is granted a row

pub granted_one : (k : Layout) (rows : ℕ) (v u w : View) (book new : StockData) (row generation : ℕ) (b : Bool) → HasRoot v 0 (1 ∷ []) [] [] b → Learns store rows v book → u ≡ turned store v book → (g : Gives store u new w)
    → Draws book row generation new → HasGrant w row generation
unfolding given_root
granted_one k rows v u w book new row generation b root learns e g draws =
    let once : IsOnce book = λ q. let o = learns.once q in omega arith in
    let has = ap (λ (y : View). y.core.has_book) e in
    let same : g.old ≡ book = same_book u book g.old (ap (λ (y : View). y.found) e) g.found in
    let taken : taken_rows store book new ≡ row ∷ [] = draw_taken k u book new row generation has once draws in
    let put : put_list store book new ≡ [] = draw_put k u book new row generation has once draws in
    let kept = kept_turned v u book e in
    let granted : w.core.granted ≡ newly_granted row ∷ [] = granted_given u w book new g same (row ∷ []) taken ∙ ap (λ (l : List GrantedRow). l ++ newly_granted row ∷ []) (kept.granted ∙ root.granted) in
    let unlinked : unlinked_rows w.core ≡ [] = unlinked_given u w book new g same [] put ∙ ap (minus []) (kept.unlinked ∙ root.unlinked) in
    let x : HandRow = record { row = row; generation = g.grants.generation row; low = g.old.next; high = new.next; place = None } in
    let low : g.old.next ≡ book.next = ap (λ (a : StockData). a.next) same in
    let next : new.next ≡ book.next + 1 = ap (λ (a : StockData). a.next) draws.after in
    let number = draws.number in
    let taken_now : taken_rows store g.old new ≡ row ∷ [] = ap (λ (a : StockData). taken_rows store a new) same ∙ taken in
    record {
      root = given_root v u w new [] (newly_granted row ∷ []) [] [] b root kept g granted unlinked;
      long = learns.right.long root.row_one root.there;
      known = x;
      in_hand = subst (λ (l : List HandRow). Contains l x) (sym (ap (λ (y : View). y.hand) g.after)) (Contains-append_right u.hand (hand_rows store g.grants.generation g.old new (taken_rows store g.old new)) x
          (subst (λ (l : List ℕ). Contains (hand_rows store g.grants.generation g.old new l) x) (sym taken_now) (in_head x [])));
      same_row = refl;
      above = (let has_it : Has (taken_rows store g.old new) row = subst (λ (l : List ℕ). Has l row) (sym taken_now) (let one = times_one_same row row refl in omega arith) in let lower = g.grants.low row has_it in omega arith);
      low = omega arith;
      high = omega arith;
      -- it holds row 1, which is not free then
      other = λ z. (let held = ap (times 1) root.held in let self = times_one_same 1 1 refl in let apart = learns.apart 1 (omega arith) in
          let free = Rattle.reuse_plan.proofs.Stocked.has_free book row draws.least.0 draws.there in let at = ap (λ (r : ℕ). times r (Rattle.reuse_plan.specs.Stock.free_list book)) z in omega arith);
      small = draws.small;
      few = draws.few;
    }

-- It links the row and unlinks it

abbrev pub child_place : Place
child_place = record { space = 0; level = 3; prefix = 5 }

child_is_place : (k : Layout) → k.levels ≡ 4 → is_place k.levels child_place ≡ true
child_is_place k four = subst (λ (n : ℕ). is_place n child_place ≡ true) (sym four) refl

child_below : (k : Layout) → k.levels ≡ 4 → child_place ≡ entry_place k.levels (entry_place k.levels directory 0) 5
child_below k four = subst (λ (n : ℕ). child_place ≡ entry_place n (entry_place n directory 0) 5) (sym four) refl

-- a word that is a link of the row with the generation
record IsLinkOf (word row generation : ℕ) : Type 0 where
  pub link : is_link word ≡ true
  pub to_row : link_row word ≡ row
  pub with_generation : link_generation word ≡ generation

link_of : (word row generation : ℕ) → row < 1024 → generation < 2 ^ 30 → word ≡ 519 + 4096 * row + 4194304 * generation → IsLinkOf word row generation
link_of word row generation small few is =
    let e : word ≡ link_word row generation = is ∙ sym (link_word_is row generation) in record {
      link = ap is_link e ∙ is_link-link_word row generation small few;
      to_row = ap link_row e ∙ link_row-link_word row generation small;
      with_generation = ap link_generation e ∙ link_generation-link_word row generation small;
    }

row_has : (row : ℕ) → row ≢ 1 → times row (1 ∷ []) ≡ 0
row_has row ne = times_one_other row 1 (λ e. ne (sym e))

pub may_prepare : (v : View) (row g : ℕ) → HasGrant v row g → MaySetUp v row child_place g
may_prepare v row g may = record {
  known = may.known;
  in_hand = may.in_hand;
  same_row = may.same_row;
  closed = ap (times row) may.root.held ∙ row_has row may.other;
  is_place = child_is_place v.layout may.root.four;
  above = may.above;
  low = may.low;
  high = may.high;
}

-- both parts of the only granted row are set up
prepared_one : (row g : ℕ) (p : Place) → granted_after_part row (Generation g) (granted_after_part row (Position p) (newly_granted row ∷ [])) ≡ record { row = row; has_position = true; has_generation = true } ∷ []
prepared_one row g p =
    ap (granted_after_part row (Generation g)) (ap (λ (b : Bool). cond b (record { row = row; has_position = true; has_generation = false }) (newly_granted row) ∷ []) (eq-eqb row row refl))
    ∙ ap (λ (b : Bool). cond b (record { row = row; has_position = true; has_generation = true }) (record { row = row; has_position = true; has_generation = false }) ∷ []) (eq-eqb row row refl)

-- What the pass has after it set the row up, and after it opened it

record IsPrepared (v v1 : View) (row g : ℕ) : Type 0 where
  pub hand_row : HandRow
  pub in_hand : Contains v1.hand hand_row
  pub same_row : hand_row.row ≡ row
  pub place : hand_row.place ≡ Some child_place
  pub generation : hand_row.generation ≡ g
  pub granted : v1.core.granted ≡ record { row = row; has_position = true; has_generation = true } ∷ []

set_up_one : (v v1 : View) (row g : ℕ) → HasGrant v row g → v1 ≡ prepared v row child_place g → IsPrepared v v1 row g
set_up_one v v1 row g may e1 =
    let x : HandRow = may.known in
    let first : with_place row child_place x ≡ record x { place = Some child_place } = ap (λ (b : Bool). cond b (record x { place = Some child_place }) x) (eq-eqb x.row row may.same_row) in
    let y : HandRow = record x { place = Some child_place } in
    let second : with_number row g y ≡ record y { generation = g } = ap (λ (b : Bool). cond b (record y { generation = g }) y) (eq-eqb y.row row may.same_row) in
    let is : with_number row g (with_place row child_place x) ≡ record y { generation = g } = ap (with_number row g) first ∙ second in
    record {
      hand_row = record y { generation = g };
      in_hand = subst (λ (l : List HandRow). Contains l (record y { generation = g })) (sym (ap (λ (u : View). u.hand) e1))
          (subst (Contains (map (with_number row g) (map (with_place row child_place) v.hand))) is
          (in_map (with_number row g) (map (with_place row child_place) v.hand) (with_place row child_place x) (in_map (with_place row child_place) v.hand x may.in_hand)));
      same_row = may.same_row;
      place = refl;
      generation = refl;
      granted = ap (λ (u : View). u.core.granted) e1 ∙ (ap (λ (gs : List GrantedRow). granted_after_part row (Generation g) (granted_after_part row (Position child_place) gs)) may.root.granted ∙ prepared_one row g child_place);
    }

record IsOpened (v v2 : View) (row g : ℕ) : Type 0 where
  pub child : HeldRow (List Cell)
  pub child_there : Contains v2.rows child
  pub child_row : child.row ≡ row
  pub child_place : child.place ≡ child_place
  pub child_words : child.words ≡ blank_words
  pub root_there : (h : HeldRow (List Cell)) → Contains v.rows h → Contains v2.rows h
  pub hand_row : HandRow
  pub in_hand : Contains v2.hand hand_row
  pub same_row : hand_row.row ≡ row
  pub generation : hand_row.generation ≡ g
  pub granted : v2.core.granted ≡ record { row = row; has_position = true; has_generation = true } ∷ []
  pub unlinked : unlinked_rows v2.core ≡ []
  pub held : v2.core.held ≡ 1 ∷ row ∷ []
  pub layout : v2.layout ≡ v.layout
  pub last : v2.last ≡ v.last
  pub outside : v2.core.stand ≡ None
  pub has_not : v2.core.has_book ≡ false

open_one : (v v1 v2 : View) (row g : ℕ) → HasGrant v row g → v1 ≡ prepared v row child_place g → (at : IsSetUp v1 row) → v2 ≡ opened v1 row at.place at.known.generation → IsOpened v v2 row g
open_one v v1 v2 row g may e1 at e2 =
    let is = set_up_one v v1 row g may e1 in let child : HeldRow (List Cell) = opened_row row at.place at.known.generation in record {
      child = child;
      child_there = subst (λ (l : List (HeldRow (List Cell))). Contains l child) (sym (ap (λ (u : View). u.rows) e2)) (Contains-append_right v1.rows (child ∷ []) child (in_head child []));
      child_row = refl;
      child_place = (let same = at.only is.hand_row is.in_hand is.same_row in let shown : Some at.place ≡ Some child_place = sym at.is_set ∙ (ap (λ (x : HandRow). x.place) (sym same) ∙ is.place) in cc);
      child_words = refl;
      root_there = λ h i. subst (λ (l : List (HeldRow (List Cell))). Contains l h) (sym (ap (λ (u : View). u.rows) e2 ∙ ap (λ (u : View). u.rows ++ child ∷ []) e1)) (Contains-append_left v.rows (child ∷ []) h i);
      hand_row = is.hand_row;
      in_hand = subst (λ (l : List HandRow). Contains l is.hand_row) (sym (ap (λ (u : View). u.hand) e2)) is.in_hand;
      same_row = is.same_row;
      generation = is.generation;
      granted = ap (λ (u : View). u.core.granted) e2 ∙ is.granted;
      unlinked = ap (λ (u : View). unlinked_rows u.core) e2 ∙ (ap (λ (u : View). unlinked_rows u.core) e1 ∙ may.root.unlinked);
      held = ap (λ (u : View). u.core.held) e2 ∙ ap (λ (l : List ℕ). l ++ row ∷ []) (ap (λ (u : View). u.core.held) e1 ∙ may.root.held);
      layout = ap (λ (u : View). u.layout) e2 ∙ ap (λ (u : View). u.layout) e1;
      last = ap (λ (u : View). u.last) e2 ∙ ap (λ (u : View). u.last) e1;
      outside = ap (λ (u : View). u.core.stand) e2 ∙ (ap (λ (u : View). u.core.stand) e1 ∙ may.root.outside);
      has_not = ap (λ (u : View). u.core.has_book) e2 ∙ (ap (λ (u : View). u.core.has_book) e1 ∙ may.root.has_not);
    }

-- the entry of row 1 may link it
pub may_link_one : (v v1 v2 : View) (row g word : ℕ) → HasGrant v row g → v1 ≡ prepared v row child_place g → (at : IsSetUp v1 row) → v2 ≡ opened v1 row at.place at.known.generation → word ≡ 519 + 4096 * row + 4194304 * g → MaySetEntry v2 1 5 word
may_link_one v v1 v2 row g word may e1 at e2 is =
    let o = open_one v v1 v2 row g may e1 at e2 in let l = link_of word row g may.small may.few is in let root = may.root in record {
      linker = root.row_one;
      held = o.root_there root.row_one root.there;
      same_row = root.number;
      linked = (let a = ap (λ (gs : List GrantedRow). times 1 (map (λ (x : GrantedRow). x.row) gs)) o.granted in let b = ap (times 1) o.unlinked in let n = times-nil 1 in let z = times_one_other 1 row may.other in omega arith);
      inside = omega arith;
      old = ap is_link root.word_five ∙ zero_no_link;
      new = inr (inr (record {
        link = l.link;
        child = o.child;
        is_open = o.child_there;
        child_row = o.child_row ∙ sym l.to_row;
        hand_row = o.hand_row;
        granted = o.in_hand;
        same_row = o.same_row ∙ sym l.to_row;
        place = o.child_place ∙ (child_below v.layout root.four ∙ (λ j. entry_place (sym o.layout j).levels (sym root.place j) 5));
        generation = o.generation ∙ sym l.with_generation;
      }));
    }

kept_in : {X : Type 0} (t : X → Bool) (xs : List X) (x : X) → Contains xs x → t x ≡ true → Contains (filter t xs) x
kept_in t [] x i e = let less = i.1 in absurd (omega arith)
kept_in {X} t (y ∷ ys) x i e = ⊎_elim
    (λ (z : y ≡ x). subst (λ (b : Bool). Contains (cond b (y ∷ filter t ys) (filter t ys)) x) (sym (ap t z ∙ e)) (subst (Contains (y ∷ filter t ys)) z (in_head y (filter t ys))))
    (λ (l : Contains ys x). go (t y) (kept_in t ys x l e))
    (head_or_later y ys x i)
  where
    go : (b : Bool) → Contains (filter t ys) x → Contains (cond b (y ∷ filter t ys) (filter t ys)) x
    go true l = in_tail y (filter t ys) x l
    go false l = l

-- What the pass has after the entry links the row, and after it is 0 again

pub link_one : (v v1 v2 v3 : View) (row g word : ℕ) → HasGrant v row g → v1 ≡ prepared v row child_place g → (at : IsSetUp v1 row) → v2 ≡ opened v1 row at.place at.known.generation → word ≡ 519 + 4096 * row + 4194304 * g → Sets 1 5 word v2 v3 → HasGraft v3 row
link_one v v1 v2 v3 row g word may e1 at e2 is sets =
    let o = open_one v v1 v2 row g may e1 at e2 in let l = link_of word row g may.small may.few is in let root = may.root in let r : HeldRow (List Cell) = root.row_one in
    let c : ℕ = link_row word in
    let e3 : v3 ≡ link_set v2 r 5 word = sets r (o.root_there r root.there) root.number ∙ ap (λ (b : Bool). cond b (link_set v2 r 5 word) (word_set v2 r.row 5 word)) l.link in
    let f : HeldRow (List Cell) → HeldRow (List Cell) = λ h. with_link r 5 c (with_word r.row 5 word h) in
    let ne : r.row ≢ c = λ e. may.other (sym l.to_row ∙ (sym e ∙ root.number)) in
    let nc : o.child.row ≢ r.row = λ e. may.other (sym o.child_row ∙ (e ∙ root.number)) in
    let z : HeldRow (List Cell) = record r { words = set r.words 5 word } in
    let root_is : f r ≡ record z { vacant = without 5 r.vacant } = ap (with_link r 5 c) (ap (λ (b : Bool). cond b z r) (eq-eqb r.row r.row refl))
    ∙ (ap (λ (b : Bool). cond b (newly_linked r 5 z) (cond (eqb r.row r.row) (record z { vacant = without 5 z.vacant }) z)) (ne_eqb r.row c ne)
    ∙ ap (λ (b : Bool). cond b (record z { vacant = without 5 z.vacant }) z) (eq-eqb r.row r.row refl)) in
    let child_is : f o.child ≡ newly_linked r 5 o.child = ap (with_link r 5 c) (ap (λ (b : Bool). cond b (record o.child { words = set o.child.words 5 word }) o.child) (ne_eqb o.child.row r.row nc))
    ∙ ap (λ (b : Bool). cond b (newly_linked r 5 o.child) (cond (eqb o.child.row r.row) (record o.child { vacant = without 5 o.child.vacant }) o.child)) (eq-eqb o.child.row c (o.child_row ∙ sym l.to_row)) in
    let rows : v3.rows ≡ map f v2.rows = ap (λ (u : View). u.rows) e3 in
    let layout : v3.layout ≡ v.layout = ap (λ (u : View). u.layout) e3 ∙ o.layout in
    let done : GrantedRow = record { row = row; has_position = true; has_generation = true } in
    let long = may.long in let five : get_or (set r.words 5 word) 5 0 ≡ word = get_or-set_same r.words 5 word 0 (omega arith) in
    record {
      four = ap (λ (y : Layout). y.levels) layout ∙ root.four;
      linker = record z { vacant = without 5 r.vacant };
      there = subst (λ (xs : List (HeldRow (List Cell))). Contains xs (record z { vacant = without 5 r.vacant })) (sym rows) (subst (Contains (map f v2.rows)) root_is (in_map f v2.rows r (o.root_there r root.there)));
      number = root.number;
      place = root.place ∙ ap (λ (y : Layout). entry_place y.levels directory 0) (sym layout);
      long = length-set r.words 5 word ∙ may.long;
      link = ap is_link five ∙ l.link;
      to_row = ap link_row five ∙ l.to_row;
      is_given = root.is_given;
      child = newly_linked r 5 o.child;
      child_there = subst (λ (xs : List (HeldRow (List Cell))). Contains xs (newly_linked r 5 o.child)) (sym rows) (subst (Contains (map f v2.rows)) child_is (in_map f v2.rows o.child o.child_there));
      child_row = o.child_row;
      child_words = o.child_words;
      granted = ap (λ (u : View). u.core.granted) e3 ∙ (ap (granted_after_entry word) o.granted
          ∙ (ap (λ (b : Bool). cond b (cond (not (eqb row c)) (done ∷ []) []) (done ∷ [])) l.link ∙ ap (λ (b : Bool). cond (not b) (done ∷ []) []) (eq-eqb row c (sym l.to_row))));
      unlinked = ap (λ (u : View). unlinked_rows u.core) e3 ∙ o.unlinked;
      held = ap (λ (u : View). u.core.held) e3 ∙ o.held;
      last = (let b = root.last refl in (b.0, ap (λ (u : View). u.last) e3 ∙ (o.last ∙ b.1)));
      outside = ap (λ (u : View). u.core.stand) e3 ∙ o.outside;
      has_not = ap (λ (u : View). u.core.has_book) e3 ∙ o.has_not;
      other = may.other;
    }

module _ (v3 v4 v5 : View) (row : ℕ) (o : HasGraft v3 row) where
  pub may_cut_one : MayUnlink v3 1 5
  may_cut_one = record {
    linker = o.linker;
    held = o.there;
    same_row = o.number;
    inside = omega arith;
    link = o.link;
    child = o.child;
    child_held = o.child_there;
    child_row = o.child_row ∙ sym o.to_row;
    child_empty = λ i low. ap (λ (ws : List ℕ). get_or ws i 0) o.child_words ∙ blank_zero i low;
  }

  module _ (cuts : Unlinks 1 5 v3 v4) where
    cut_is : v4 ≡ entry_cut v3 o.linker 5
    cut_is = cuts o.linker o.there o.number

    cut_unlinked : unlinked_rows v4.core ≡ row ∷ []
    cut_unlinked = ap (λ (u : View). unlinked_rows u.core) cut_is ∙ (map-append (λ (y : UnlinkedRow). y.row) v3.core.unlinked (newly_unlinked (link_row (get_or o.linker.words 5 0)) ∷ []) ∙ (λ j. o.unlinked j ++ o.to_row j ∷ []))

    cut_held : v4.core.held ≡ 1 ∷ row ∷ []
    cut_held = ap (λ (u : View). u.core.held) cut_is ∙ o.held

    pub may_mark_held : Has v4.core.held row
    may_mark_held = let same = ap (times row) cut_held in let all = times-cons_other row 1 (row ∷ []) (λ e. o.other (sym e)) in let one = times_one_same row row refl in omega arith

    pub may_mark_unlinked : Has (unlinked_rows v4.core) row
    may_mark_unlinked = let same = ap (times row) cut_unlinked in let one = times_one_same row row refl in omega arith

    pub marked_one : v5 ≡ released v4 row → HasRoot v5 0 (1 ∷ []) [] (row ∷ []) true
    marked_one e5 =
        let r : HeldRow (List Cell) = o.linker in let y : HeldRow (List Cell) = record r { words = set r.words 5 0 } in
        let long = o.long in
        let is_there : with_word r.row 5 0 r ≡ y = ap (λ (b : Bool). cond b y r) (eq-eqb r.row r.row refl) in
        let there4 : Contains v4.rows y = subst (λ (xs : List (HeldRow (List Cell))). Contains xs y) (sym (ap (λ (u : View). u.rows) cut_is)) (subst (Contains (map (with_word r.row 5 0) v3.rows)) is_there (in_map (with_word r.row 5 0) v3.rows r o.there)) in
        let layout : v5.layout ≡ v3.layout = ap (λ (u : View). u.layout) e5 ∙ ap (λ (u : View). u.layout) cut_is in
        let other : eqb y.row row ≡ false = ne_eqb y.row row (λ e. o.other (sym e ∙ o.number)) in
        record {
          four = ap (λ (y : Layout). y.levels) layout ∙ o.four;
          row_one = y;
          there = subst (λ (xs : List (HeldRow (List Cell))). Contains xs y) (sym (ap (λ (u : View). u.rows) e5)) (kept_in (λ (h : HeldRow (List Cell)). not (eqb h.row row)) v4.rows y there4 (ap not other));
          number = o.number;
          place = o.place ∙ ap (λ (k : Layout). entry_place k.levels directory 0) (sym layout);
          word_five = get_or-set_same r.words 5 0 0 (omega arith);
          is_given = o.is_given;
          last = λ _. (o.last.0, ap (λ (u : View). u.last) e5 ∙ (ap (λ (u : View). u.last) cut_is ∙ o.last.1));
          held = ap (λ (u : View). u.core.held) e5 ∙ (ap (without row) cut_held ∙ (ap (λ (b : Bool). cond (not b) (1 ∷ without row (row ∷ [])) (without row (row ∷ []))) (ne_eqb 1 row (λ e. o.other (sym e)))
              ∙ ap (λ (b : Bool). 1 ∷ cond (not b) (row ∷ []) []) (eq-eqb row row refl)));
          outside = ap (λ (u : View). u.core.stand) e5 ∙ (ap (λ (u : View). u.core.stand) cut_is ∙ o.outside);
          granted = ap (λ (u : View). u.core.granted) e5 ∙ (ap (λ (u : View). u.core.granted) cut_is ∙ o.granted);
          unlinked = ap (λ (u : View). unlinked_rows u.core) e5 ∙ cut_unlinked;
          has_not = ap (λ (u : View). u.core.has_book) e5 ∙ (ap (λ (u : View). u.core.has_book) cut_is ∙ o.has_not);
        }

-- The row goes into limbo

pub is_marked : (v : View) (row : ℕ) → HasRoot v 0 (1 ∷ []) [] (row ∷ []) true → row ≢ 1 → IsMarked v.core row
is_marked v row root other = (
  (let one = times_one_same row row refl in let same = ap (times row) root.unlinked in omega arith),
  ap (times row) root.held ∙ row_has row other,
)

pub marked_on : (v w : View) (row : ℕ) → SameKept v w → IsMarked v.core row → IsMarked w.core row
marked_on v w row kept old = (let same = ap (times row) kept.unlinked in let has = old.0 in omega arith, ap (times row) kept.held ∙ old.1)

pub sampled_on : (count : ℕ) (v w : View) (book : StockData) (k : PutRow) → w ≡ turned store v book → IsSampled count v.core k → IsSampled count w.core k
sampled_on count v w book k e old = record {
  mine = old.mine;
  has = subst (λ (us : List UnlinkedRow). Contains us old.mine) (sym (ap (λ (u : View). u.core.unlinked) e)) old.has;
  is = old.is;
  each = old.each;
  none_else = old.none_else;
}

-- a row of the hand is not in limbo
pub not_in_limbo : (rows : ℕ) (v : View) (book : StockData) (row : ℕ) → Has (unlinked_rows v.core) row → Learns store rows v book → times row (put_rows (map put_of book.limbo.list)) ≡ 0
not_in_limbo rows v book row has learns = let o = learns.once row in omega arith

-- v: marked. t: sampled. u: with the book. w: without
pub put_away : (k : Layout) (rows : ℕ) (v t u w : View) (book new : StockData) (s : Sampled) (numbers : List ℕ) → HasRoot v 0 (1 ∷ []) [] (s.row ∷ []) true → s.row ≢ 1 → Loads store v numbers t → Learns store rows t book → u ≡ turned store t book
    → new ≡ deposited book s → (g : Gives store u new w) → HasRoot w 0 (1 ∷ []) [] [] true
put_away k rows v t u w book new s numbers root other loads learns e is g =
    let first = kept_loaded v t numbers loads in let kept = kept_on v t u first (kept_turned t u book e) in
    let once : IsOnce book = λ q. let o = learns.once q in omega arith in
    let apart = not_in_limbo rows t book s.row (marked_on v t s.row first (is_marked v s.row root other)).0 learns in
    let has = ap (λ (y : View). y.core.has_book) e in
    let same : g.old ≡ book = same_book u book g.old (ap (λ (y : View). y.found) e) g.found in
    given_root v u w new [] [] (s.row ∷ []) [] true root kept g
    (granted_given u w book new g same [] (put_taken k u book new s has once is apart) ∙ ap (λ (l : List GrantedRow). l ++ []) (kept.granted ∙ root.granted))
    (unlinked_given u w book new g same (put_of s ∷ []) (put_put k u book new s has once is apart)
    ∙ (ap (minus (s.row ∷ [])) (kept.unlinked ∙ root.unlinked) ∙ minus_none (s.row ∷ []) (s.row ∷ []) (λ x there. there)))

-- Limbo is swept

-- v: outside. u: with the book. t: swept. w: without
pub swept : (k : Layout) (rows : ℕ) (v u t w : View) (book new : StockData) (count : ℕ) (b : Bool) → HasRoot v 0 (1 ∷ []) [] [] b → Learns store rows v book → u ≡ turned store v book → IsStocked count book.free book.limbo → new.next ≡ book.next
    → (sweeps : Sweeps store u book.limbo.list book.free t new.limbo.list new.free) → ((row : ℕ) → Has (Rattle.epoch_grace.specs.Sweeping.swept_rows book.limbo.list new.limbo.list) row → IsUnread k.passes (map put_of book.limbo.list) t.core row)
    → (g : Gives store t new w) → HasRoot w 0 (1 ∷ []) [] [] true
swept k rows v u t w book new count b root learns e stocked next sweeps unread g =
    let last = kept_loaded u t sweeps.numbers sweeps.loads in let kept = kept_on v u t (kept_turned v u book e) last in
    let once : IsOnce book = λ q. let o = learns.once q in omega arith in
    let found = loaded_found u t sweeps.numbers sweeps.loads in
    let has : t.core.has_book ≡ true = found.1 ∙ ap (λ (y : View). y.core.has_book) e in
    let same : g.old ≡ book = same_book t book g.old (found.0 ∙ ap (λ (y : View). y.found) e) g.found in
    given_root v t w new [] [] [] [] b root kept g
    (granted_given t w book new g same [] (sweep_taken k u t book new count has once stocked next sweeps unread) ∙ ap (λ (l : List GrantedRow). l ++ []) (kept.granted ∙ root.granted))
    (unlinked_given t w book new g same [] (sweep_put k u t book new count has once stocked next sweeps unread) ∙ ap (minus []) (kept.unlinked ∙ root.unlinked))

-- Row 1 goes back

pub may_release_root : (v : View) → HasRoot v 0 (1 ∷ []) [] [] true → NotInHand v 1 × ((x : List Cell) → x ≡ blank → Fits store v 1 x)
may_release_root v root = (
  (let a = ap (λ (gs : List GrantedRow). times 1 (map (λ (g : GrantedRow). g.row) gs)) root.granted in let b = ap (times 1) root.unlinked in let n = times-nil 1 in omega arith),
  λ x is. record { known = root.row_one; held = root.there; same_row = root.number; content_fits = inr (root.is_given, let b = root.last refl in (b.0, b.1, λ _. is)) },
)

pub idle_after : (v w : View) → HasRoot v 0 (1 ∷ []) [] [] true → w ≡ released v 1 → IsIdle w
idle_after v w root e = record {
  outside = ap (λ (u : View). u.core.stand) e ∙ root.outside;
  held = ap (λ (u : View). u.core.held) e ∙ ap (without 1) root.held;
  granted = ap (λ (u : View). u.core.granted) e ∙ root.granted;
  unlinked = none w.core.unlinked (ap (λ (u : View). unlinked_rows u.core) e ∙ root.unlinked);
  has_not = ap (λ (u : View). u.core.has_book) e ∙ root.has_not;
}
  where
    none : (us : List UnlinkedRow) → map (λ (u : UnlinkedRow). u.row) us ≡ [] → us ≡ []
    none [] is = refl
    none (u ∷ us) is = let long = ap length is in absurd (omega arith)
