-- The sizes that a pass keeps, after each step.
use Rattle.std.proofs.Common.{◌≡◌, ℕ, ◌+◌, ◌%◌, ◌^◌, ◌<◌, ◌&&◌, Bool, true, false, cond, eqb, not, List, [], ◌∷◌, ◌++◌, map, length, sym, refl, ap, ◌∙◌, subst, ⊎_elim, arith, Option, Some, None, ◌≤◌}
use Rattle.std.specs.Prelude.{IsSome}
use Rattle.std.specs.List.{Contains}
use Rattle.std.proofs.lemmas.List.Elements.{Contains-push_cases}
use Rattle.std.proofs.lemmas.Bool.{and_parts, cases_lt}
use Rattle.std.proofs.lemmas.List.{map-append}
use mathlib.Core.Logic.{dite}
use native.Mathlib.Decide.{ℕ_discrete}
use Rattle.atomic_table.specs.Seated.{TableId}
use Rattle.table_place.specs.declared.Place.{Place}
use Rattle.table_place.specs.Place.{entry_place}
use Rattle.walk_core.specs.declared.pass.Stand.{Stand}
use Rattle.walk_core.specs.Words.{is_link, link_row, link_generation}
use Rattle.walk_core.specs.declared.pass.GrantedRow.{GrantedRow}
use Rattle.walk_core.specs.declared.lists.PutRow.{PutRow}
use Rattle.walk_core.specs.declared.pass.UnlinkedRow.{UnlinkedRow}
use Rattle.walk_core.specs.Lists.{Has, times, without, among}
use Rattle.walk_core.specs.Core.{granted_rows}
use Rattle.walk_core.specs.Events.{top, stand_after_look, newly_granted}
use Rattle.walk_core.proofs.RowLists.{times-nil, times-append}
use Rattle.walk_core.specs.Guards.{StandsOn}
use Rattle.walk_core.specs.Good.{inside as inside_now}
use Rattle.row_layout.specs.declared.places.Layout.{Layout}
use Rattle.row_layout.specs.Places.{word_count}
use Rattle.row_table.specs.declared.view.PassView.{PassView}
use Rattle.row_table.specs.declared.view.HeldRow.{HeldRow}
use Rattle.row_table.specs.Plan.{Meaning}
use Rattle.row_table.specs.Rule.{row_part, hand_part, unmoved}
use Rattle.row_table.specs.Known.{LinksRow, LinksBelow, IsRight, IsCounted, IsSized}
use Rattle.row_table.specs.Moves.{grabbed, looked, got, released, MayGrab}
use Rattle.row_table.specs.Looks.{looked_at, MayLook}
use Rattle.row_table.specs.Crossings.{entered, left}
use Rattle.row_table.specs.Books.{given, hand_rows, put_list, taken_rows, turned, waited, gave}
use Rattle.row_table.specs.Stack.{AreRows}
use Rattle.row_table.proofs.Views.{kept, has_row, rows_without}
use Rattle.row_table.proofs.Turns.{same_parts, whole, contained_map}
use Rattle.std.proofs.lemmas.Option.{same_Some}

none_is : {X : Type 0} {F : Type 0} (x : X) → None ≡ Some x → F
none_is x e = absurd (cc)

-- the rows of the hand after a give
granted_more : (gs : List GrantedRow) (ts : List ℕ) → map (λ (g : GrantedRow). g.row) (gs ++ map newly_granted ts) ≡ map (λ (g : GrantedRow). g.row) gs ++ ts
granted_more gs ts = map-append (λ (g : GrantedRow). g.row) gs (map newly_granted ts) ∙ ap (λ (l : List ℕ). map (λ (g : GrantedRow). g.row) gs ++ l) (same_parts newly_granted (λ (g : GrantedRow). g.row) (λ (x : ℕ). x) (λ x. refl) ts ∙ whole ts)

-- where a look leads
stands_after : (rows levels r i n : ℕ) (t : Option Stand) → ((s : Stand) → t ≡ Some s → s.row < rows) → (is_link n ≡ true → link_row n < rows)
    → (s : Stand) → stand_after_look levels r i n t ≡ Some s → s.row < rows
stands_after rows levels r i n None old link s is = none_is s is
stands_after rows levels r i n (Some x) old link s is = go (eqb x.row r && is_link n) refl is
  where
    next : Stand
    next = record { row = link_row n; place = entry_place levels x.place i; generation = link_generation n }

    go : (b : Bool) → (eqb x.row r && is_link n) ≡ b → cond b (Some (record { row = link_row n; place = entry_place levels x.place i; generation = link_generation n })) (Some x) ≡ Some s → s.row < rows
    go true e at = let less = link (and_parts (eqb x.row r) (is_link n) e).1 in subst (λ (y : Stand). y.row < rows) (same_Some _ _ at) less
    go false e at = subst (λ (y : Stand). y.row < rows) (same_Some _ _ at) (old x refl)

-- a look leaves whether the pass is inside
counted_look : {epoch : ℕ} {stand : Option Stand} (levels r i n : ℕ) → IsCounted epoch stand → IsCounted epoch (stand_after_look levels r i n stand)
counted_look {epoch} {stand} levels r i n = go stand
  where
    go : (t : Option Stand) → IsCounted epoch t → IsCounted epoch (stand_after_look levels r i n t)
    go None c = c
    go (Some x) c = led (eqb x.row r && is_link n)
      where
        led : (b : Bool) → IsCounted epoch (cond b (Some (record { row = link_row n; place = entry_place levels x.place i; generation = link_generation n })) (Some x))
        led true = record { parity = c.parity; bounded = c.bounded }
        led false = c

-- the number after an enter and after a leave
counted_in : {epoch : ℕ} {stand : Option Stand} → IsCounted epoch stand → stand ≡ None → epoch < 2 ^ 62 → IsCounted (epoch + 1) (Some top)
counted_in {epoch} c outside less = let even : epoch % 2 ≡ 0 = c.parity ∙ ap inside_now outside in record { parity = omega arith; bounded = omega arith }

counted_out : {epoch : ℕ} {stand : Option Stand} → IsCounted epoch stand → IsSome stand → IsCounted (epoch + 1) None
counted_out {epoch} {stand} = go stand
  where
    go : (stand : Option Stand) → IsCounted epoch stand → IsSome stand → IsCounted (epoch + 1) None
    go None c inside = absurd (cc)
    go (Some s) c inside = let odd : epoch % 2 ≡ 1 = c.parity in let most = c.bounded in record { parity = omega arith; bounded = omega arith }

module _ {R B E : Type 0} {n rows epoch : ℕ} {id : TableId} {v : PassView R B E} (old : IsSized n rows epoch id v) where
  -- which rows are there

  stands_below : (r : ℕ) → StandsOn v.core r → r < rows
  stands_below r on = let less = old.stand on.0 on.1 in let same = on.2 in omega arith

  pub grab_below : (r : ℕ) → MayGrab v r → r < rows
  grab_below r may = ⊎_elim (λ (on : StandsOn v.core r). stands_below r on)
      (λ (l : LinksRow v r). let less = old.links l.linker l.held l.index l.inside l.link in let same = l.to_row in omega arith) may

  pub look_below : AreRows rows v.core.held → (r : ℕ) → MayLook v r → r < rows
  look_below are r may = ⊎_elim (λ (on : StandsOn v.core r). stands_below r on)
      (λ (has : Has v.core.held r). ⊎_elim (λ (less : r < rows). less) (λ past. let none = (are r).1 past in absurd (omega arith)) (cases_lt r rows)) may

  -- the sizes are those of the table of this number
  pub same_sizes : (other : TableId) (k : Layout) → id ≡ other → other.words ≡ word_count k → other.slots ≡ k.rows + 1 → (rows ≡ k.rows) × (n < k.passes)
  same_sizes other k same words slots = let a = old.slots in let b = old.words in let c = old.rows_are in let d = old.number in
      let e = ap (λ (x : TableId). x.words) same in let f = ap (λ (x : TableId). x.slots) same in (omega arith, omega arith)

  -- what is always true of what a pass knows
  pub right_of : (4 ≤ v.layout.levels) × (v.layout.levels ≤ 5) → AreRows rows v.core.held → n ≡ v.number → IsRight v
  right_of levels are is = record {
    levels = levels;
    number = (let less = old.number in omega arith);
    rows = old.held_rows;
    once = λ r. (are r).0;
    long = old.long;
    hand = old.granted.0;
    parity = old.counted.parity;
    bounded = old.counted.bounded;
  }

  pub row_there : AreRows rows v.core.held → (other : TableId) (k : Layout) → id ≡ other → other.words ≡ word_count k → other.slots ≡ k.rows + 1 → (r : ℕ) → MayLook v r → r < k.rows
  row_there are other k same words slots r may = let less = look_below are r may in let all = (same_sizes other k same words slots).0 in omega arith

  pub grab_there : (other : TableId) (k : Layout) → id ≡ other → other.words ≡ word_count k → other.slots ≡ k.rows + 1 → (r : ℕ) → MayGrab v r → r < k.rows
  grab_there other k same words slots r may = let less = grab_below r may in let all = (same_sizes other k same words slots).0 in omega arith

  pub held_there : AreRows rows v.core.held → (other : TableId) (k : Layout) → id ≡ other → other.words ≡ word_count k → other.slots ≡ k.rows + 1 → (r : ℕ) → Has v.core.held r → r < k.rows
  held_there are other k same words slots r has = let all = (same_sizes other k same words slots).0 in ⊎_elim (λ (less : r < rows). omega arith) (λ past. let none = (are r).1 past in absurd (omega arith)) (cases_lt r rows)

  -- a row of the view is held, and so it is there
  pub view_held : (h : HeldRow R) → Contains v.rows h → (r : ℕ) → h.row ≡ r → Has v.core.held r
  view_held h i r is = subst (Has v.core.held) is (subst (λ (l : List ℕ). Has l h.row) old.held_rows (has_row v.rows h i))

  pub view_there : AreRows rows v.core.held → (other : TableId) (k : Layout) → id ≡ other → other.words ≡ word_count k → other.slots ≡ k.rows + 1 → (h : HeldRow R) → Contains v.rows h → (r : ℕ) → h.row ≡ r → r < k.rows
  view_there are other k same words slots h i r is = held_there are other k same words slots r (view_held h i r is)

  -- after each step

  pub sized_enter : 0 < rows → v.core.stand ≡ None → v.epoch < 2 ^ 62 → IsSized n rows (epoch + 1) id (entered v)
  sized_enter some_rows outside less = record { slots = old.slots; words = old.words; rows_are = old.rows_are; number = old.number; same_epoch = ap (λ (x : ℕ). x + 1) old.same_epoch; counted = counted_in old.counted outside less; long = old.long; held_rows = old.held_rows; stand = λ s is. subst (λ (y : Stand). y.row < rows) (same_Some top s is) some_rows; links = old.links; granted = old.granted; places = old.places }

  pub sized_leave : IsSome v.core.stand → IsSized n rows (epoch + 1) id (left v)
  sized_leave inside = record { slots = old.slots; words = old.words; rows_are = old.rows_are; number = old.number; same_epoch = ap (λ (x : ℕ). x + 1) old.same_epoch; counted = counted_out old.counted inside; long = old.long; held_rows = old.held_rows; stand = λ s is. none_is s is; links = old.links; granted = old.granted; places = old.places }

  pub sized_look : (r i w : ℕ) (place : Place) → (is_link w ≡ true → link_row w < v.layout.rows) → IsSized n rows epoch id (looked_at v r place i w)
  sized_look r i w place below = record {
    slots = old.slots;
    words = old.words;
    rows_are = old.rows_are;
    number = old.number;
    same_epoch = old.same_epoch;
    counted = counted_look v.layout.levels r i w old.counted;
    long = old.long;
    held_rows = old.held_rows;
    stand = stands_after rows v.layout.levels r i w v.core.stand old.stand (λ link. let less = below link in let same = old.rows_are in omega arith);
    links = old.links;
    granted = old.granted;
    places = old.places;
  }

  pub sized_miss : (r : ℕ) (place : Place) (w : ℕ) → IsSized n rows epoch id (looked v r place None w)
  sized_miss r place w = record { slots = old.slots; words = old.words; rows_are = old.rows_are; number = old.number; same_epoch = old.same_epoch; counted = old.counted; long = old.long; held_rows = old.held_rows; stand = old.stand; links = old.links; granted = old.granted; places = old.places }

  pub sized_got : (r : ℕ) (place : Place) (g : ℕ) (words : List ℕ) (x : R) → length words ≡ 512 → LinksBelow v.layout.rows words → IsSized n rows epoch id (got v r place g words x)
  sized_got r place g words x all below = record {
    slots = old.slots;
    words = old.words;
    rows_are = old.rows_are;
    number = old.number;
    same_epoch = old.same_epoch;
    counted = old.counted;
    long = λ h i. ⊎_elim (λ (j : Contains v.rows h). old.long h j) (λ (e : grabbed r place g words x ≡ h). subst (λ (y : HeldRow R). length y.words ≡ 512) e all)
        (Contains-push_cases v.rows (grabbed r place g words x) h i);
    held_rows = map-append row_part v.rows (grabbed r place g words x ∷ []) ∙ ap (λ (l : List ℕ). l ++ r ∷ []) old.held_rows;
    stand = old.stand;
    links = λ h i. ⊎_elim (λ (j : Contains v.rows h). old.links h j)
        (λ (e : grabbed r place g words x ≡ h). subst (λ (y : HeldRow R). LinksBelow rows y.words) e (subst (λ (m : ℕ). LinksBelow m words) (sym old.rows_are) below))
        (Contains-push_cases v.rows (grabbed r place g words x) h i);
    granted = old.granted;
    places = old.places;
  }

  pub sized_released : (r : ℕ) → IsSized n rows epoch id (released v r)
  sized_released r = record {
    slots = old.slots;
    words = old.words;
    rows_are = old.rows_are;
    number = old.number;
    same_epoch = old.same_epoch;
    counted = old.counted;
    long = λ h i. old.long h (kept (λ (u : HeldRow R). not (eqb u.row r)) v.rows h i).1;
    held_rows = rows_without r v.rows ∙ ap (without r) old.held_rows;
    stand = old.stand;
    links = λ h i. old.links h (kept (λ (u : HeldRow R). not (eqb u.row r)) v.rows h i).1;
    granted = old.granted;
    places = old.places;
  }

  pub sized_waited : (w : ℕ) → IsSized n rows epoch id (waited v w)
  sized_waited w = record { slots = old.slots; words = old.words; rows_are = old.rows_are; number = old.number; same_epoch = old.same_epoch; counted = old.counted; long = old.long; held_rows = old.held_rows; stand = old.stand; links = old.links; granted = old.granted; places = old.places }

  module _ (M : Meaning R B E) where
    pub sized_turned : (book : B) → IsSized n rows epoch id (turned M v book)
    sized_turned book = record { slots = old.slots; words = old.words; rows_are = old.rows_are; number = old.number; same_epoch = old.same_epoch; counted = old.counted; long = old.long; held_rows = old.held_rows; stand = old.stand; links = old.links; granted = old.granted; places = (refl, old.places.1) }

    pub sized_gave : (a b : B) (generation : ℕ → ℕ) → ((r : ℕ) → Has (taken_rows M a b) r → r < v.layout.rows) → IsSized n rows epoch id (gave M v a b generation)
    sized_gave a b generation taken = record {
      slots = old.slots;
      words = old.words;
      rows_are = old.rows_are;
      number = old.number;
      same_epoch = old.same_epoch;
      counted = old.counted;
      long = λ h i. let o = contained_map given v.rows h i in subst (λ (y : HeldRow R). length y.words ≡ 512) o.2 (old.long o.0 o.1);
      held_rows = same_parts given row_part row_part (λ x. refl) v.rows ∙ old.held_rows;
      stand = old.stand;
      links = λ h i. let o = contained_map given v.rows h i in subst (λ (y : HeldRow R). LinksBelow rows y.words) o.2 (old.links o.0 o.1);
      granted = (
        map-append hand_part v.hand (hand_rows M generation a b (taken_rows M a b)) ∙ ((λ i. old.granted.0 i
            ++ (same_parts (λ r. record { row = r; generation = generation r; low = M.next_generation a; high = M.next_generation b; place = None }) hand_part (λ (x : ℕ). x) (λ x. refl) (taken_rows M a b) ∙ whole (taken_rows M a b)) i)
            ∙ sym (granted_more v.core.granted (taken_rows M a b))),
        λ r has. let both = ap (times r) (granted_more v.core.granted (taken_rows M a b)) in let all = times-append r (granted_rows v.core) (taken_rows M a b) in dite (ℕ_discrete (times r (granted_rows v.core)) 0)
            (λ none_before. let less = taken r (omega arith) in let same = old.rows_are in omega arith)
            (λ before. old.granted.1 r (omega arith)),
      );
      places = (old.places.0, λ u i. old.places.1 u (kept (λ (y : UnlinkedRow). not (among (map (λ (k : PutRow). k.row) (put_list M a b)) y.row)) v.core.unlinked u i).1);
    }

pub sized_new : {R B E : Type 0} (n rows : ℕ) (id : TableId) (k : Layout) (origin : Option B) → id.slots ≡ rows + 1 → id.words ≡ word_count k → rows ≡ k.rows → n < k.passes → IsSized n rows 0 id (unmoved {R = R} {B = B} {E = E} k origin n)
sized_new n rows id k origin slots words same less = record { slots = slots; words = words; rows_are = same; number = less; same_epoch = refl; counted = record { parity = refl; bounded = omega arith }; long = λ h i. let z = i.1 in absurd (omega arith); held_rows = refl; stand = λ s is. none_is s is; links = λ h i. let z = i.1 in absurd (omega arith); granted = (refl, λ r has. let z = times-nil r in absurd (omega arith)); places = (refl, λ u i. let z = i.1 in absurd (omega arith)) }
