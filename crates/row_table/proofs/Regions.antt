-- A linked row that a pass does not hold is not touched by what the pass may do while it has the book.
use Rattle.std.proofs.Common.{◌≡◌, ℕ, ◌<◌, ◌≤◌, ◌⊎◌, Bool, true, false, ◌&&◌, List, [], ◌∷◌, get_or, sym, refl, ap, ◌∙◌, subst, inl, inr, ⊎_elim, arith, eqb, eq-eqb}
use Rattle.std.specs.List.{Contains}
use Rattle.std.proofs.lemmas.Bool.{and_parts, and_from, eqb-true, cases_Bool}
use mathlib.Core.Option.{some}
use mathlib.Core.Logic.{dite}
use native.Mathlib.Decide.{ℕ_discrete}
use lib.ListN.{get_elem?}
use Rattle.table_place.specs.declared.Place.{Place}
use Rattle.table_place.specs.Place.{directory, entry_place, has_page, span_first}
use Rattle.walk_core.specs.Words.{entry_at, is_link, link_row}
use Rattle.walk_core.specs.Lists.{times, Has}
use Rattle.walk_core.specs.Core.{Core, word, place_in, times_in_hand, IsLinked}
use Rattle.row_layout.specs.declared.places.Layout.{Layout}
use Rattle.row_table.specs.declared.view.PassView.{PassView}
use Rattle.row_table.specs.declared.view.HeldRow.{HeldRow}
use Rattle.row_table.specs.Plan.{Meaning, Covers, IsOutside, IsUntouched}
use Rattle.row_table.specs.Rows.{place_at}
use Rattle.row_table.specs.Rule.{Table, core_of, Holds}
use Rattle.row_table.specs.Moves.{NotInHand}
use Rattle.row_table.specs.Books.{IsHeldAt, IsBelow, region}
use Rattle.row_table.proofs.Shown.{word_at}
use Rattle.row_table.proofs.Views.{row_had, held_of_row, knows_it, is_linked, not_in_hand}
use Rattle.row_table.proofs.Spans.{nested, row_low, same_place, Below, Clear, looked_up}
use Rattle.walk_core.proofs.RowLists.{head_or_later, in_head, in_tail}
use Rattle.table_place.proofs.Entries.{first_page}

-- an element of which a test is true, or the test is false of all
pub found_or_none : {X : Type 0} (t : X → Bool) (xs : List X) → ((x : X) × Contains xs x × (t x ≡ true)) ⊎ ((x : X) → Contains xs x → t x ≡ false)
found_or_none t [] = inr (λ x c. let h = c.1 in absurd (omega arith))
found_or_none t (x ∷ xs) = ⊎_elim (λ (e : t x ≡ true). inl (x, in_head x xs, e))
    (λ (e : t x ≡ false). ⊎_elim (λ (o : (y : _) × Contains xs y × (t y ≡ true)). inl (o.0, in_tail x xs o.0 o.1, o.2))
    (λ none. inr (λ y c. ⊎_elim (λ (z : x ≡ y). ap t (sym z) ∙ e) (λ later. none y later) (head_or_later x xs y c))) (found_or_none t xs)) (cases_Bool (t x))

module _ {R B E : Type 0} (M : Meaning R B E) (k : Layout) (first : B) (s : Table R B E) (h : Holds M k first s) (v : PassView R B E) (mine : get_elem? h.passes v.number ≡ some v) where
  abbrev c : Core
  c = core_of M k s.words h.passes h.free h.book

  abbrev held : ℕ → Type 0
  held r = Has v.core.held r

  pub decide : (r : ℕ) → held r ⊎ ¬ held r
  decide r = dite (ℕ_discrete (times r v.core.held) 0) (λ z. inr (λ i. omega arith)) (λ nz. inl (omega arith))

  -- a held and linked row stands in the view with its position
  view_row : (r : ℕ) → held r → IsLinked c r → (x : HeldRow R) × Contains v.rows x × (x.row ≡ r) × NotInHand v x.row × (x.place ≡ place_in c r)
  view_row r i l =
      let know = knows_it M k first s h v mine in
      let o = row_had v.rows r (subst (λ (xs : List ℕ). Has xs r) (sym know.held) i) in
      let is = know.rows o.0 o.1 in
      (o.0, o.1, o.2, ap (λ (q : ℕ). times_in_hand q v.core) o.2 ∙ not_in_hand M k first s h v mine r l, sym is.place ∙ ap (place_at s.words) o.2)

  -- a row of the view that is not in the hand is linked
  pub row_linked : (x : HeldRow R) → Contains v.rows x → NotInHand v x.row → IsLinked c x.row × held x.row × (place_in c x.row ≡ x.place)
  row_linked x i out = let has = held_of_row M k first s h v mine x i in (is_linked M k first s h v mine x.row has out, has, ((knows_it M k first s h v mine).rows x i).place)

  pub below_it : (q : ℕ) → Below h.good held decide q → IsOutside (region v) (place_in c q)
  below_it q b space page at =
      let x = view_row b.row b.is_held b.linked in
      let know = (knows_it M k first s h v mine).rows x.0 x.1 in
      let found : get_or x.0.words b.index 0 ≡ word c (entry_at b.row b.index)
      = ap (λ (ws : List ℕ). get_or ws b.index 0) (sym know.shown) ∙ (word_at s.words x.0.row b.index b.inside ∙ ap (λ (r : ℕ). get_or s.words (entry_at r b.index) 0) x.2) in
      let child : ℕ = link_row (word c (entry_at b.row b.index)) in
      let below : IsBelow v (place_in c child) = record {
        linker = x.0;
        held = x.1;
        index = b.index;
        inside = b.inside;
        link = ap is_link found ∙ b.link;
        child_held = subst (λ (n : ℕ). ¬ Has v.core.held (link_row n)) (sym found) b.child_held;
        place = b.child_place ∙ (λ j. entry_place (sym (knows_it M k first s h v mine).layout j).levels (sym x.4 j) b.index);
      } in
      λ inside. let clash : true ≡ false = sym (b.covers space page at) ∙ inside.1 (place_in c child) below in cc

  clear_it : (q : ℕ) → IsLinked c q → ¬ held q → Clear h.good held decide q → IsOutside (region v) (place_in c q) ⊎ ((p : Place) × IsHeldAt v p × Covers (place_in c q) p)
  clear_it q l out clear =
      let low : (x : HeldRow R) → Contains v.rows x → NotInHand v x.row → (space page : ℕ) → has_page x.place space page ≡ true → has_page (place_in c q) space page ≡ true → (x.place.level < (place_in c q).level) × (x.place.level < 6)
      = λ x i hand space page a b. (let r = row_linked x i hand in let less = clear x.row r.0 r.1 space page (ap (λ (p : Place). has_page p space page) r.2 ∙ a) b in
      let level = ap (λ (p : Place). p.level) r.2 in let most : (place_in c q).level ≤ 6 = most_level q l in (omega arith, omega arith)) in
      let covers : (x : HeldRow R) → Contains v.rows x → NotInHand v x.row → (space page : ℕ) → has_page x.place space page ≡ true → has_page (place_in c q) space page ≡ true → Covers (place_in c q) x.place
      = λ x i hand space page a b. (let less = low x i hand space page a b in let under = less.0 in nested x.place (place_in c q) space page less.1 (omega arith) (top_or_low q l) a b) in
      let test : HeldRow R → Bool = λ x. eqb (times_in_hand x.row v.core) 0 && has_page (place_in c q) x.place.space (span_first x.place) in
      ⊎_elim
      (λ (o : (x : HeldRow R) × Contains v.rows x × (test x ≡ true)).
      let both = and_parts (eqb (times_in_hand o.0.row v.core) 0) (has_page (place_in c q) o.0.place.space (span_first o.0.place)) o.2 in
      let hand : NotInHand v o.0.row = eqb-true (times_in_hand o.0.row v.core) 0 both.0 in
      inr (o.0.place, (o.0, o.1, hand, refl), covers o.0 o.1 hand o.0.place.space (span_first o.0.place) (first_of o.0 o.1 hand) both.1))
      (λ (none : (x : HeldRow R) → Contains v.rows x → test x ≡ false). inl (λ space page at inside.
      let x = inside.0.1 in let here : has_page x.0.place space page ≡ true = ap (λ (p : Place). has_page p space page) x.3 ∙ inside.0.2 in
      let cover = covers x.0 x.1 x.2 space page here at in
      let yes : test x.0 ≡ true = and_from _ _ (eq-eqb (times_in_hand x.0.row v.core) 0 x.2) (cover x.0.place.space (span_first x.0.place) (first_of x.0 x.1 x.2)) in
      let clash : true ≡ false = sym yes ∙ none x.0 x.1 in cc))
      (found_or_none test v.rows)
    where
      top_or_low : (q : ℕ) → IsLinked c q → ((place_in c q).level < 6) ⊎ (place_in c q ≡ directory)
      top_or_low q l = dite (ℕ_discrete q 0) (λ z. inr (ap (place_in c) z ∙ h.good.links.root_place)) (λ nz. inl (row_low h.good q nz l))

      most_level : (q : ℕ) → IsLinked c q → (place_in c q).level ≤ 6
      most_level q l = ⊎_elim (λ (less : (place_in c q).level < 6). omega arith) (λ (e : place_in c q ≡ directory). let at = ap (λ (p : Place). p.level) e in omega arith) (top_or_low q l)

      first_of : (x : HeldRow R) → Contains v.rows x → NotInHand v x.row → has_page x.place x.place.space (span_first x.place) ≡ true
      first_of x i hand = let r = row_linked x i hand in ⊎_elim
          (λ (less : (place_in c x.row).level < 6). first_page x.place (let at = ap (λ (p : Place). p.level) r.2 in omega arith))
          (λ (e : place_in c x.row ≡ directory). ap (λ (p : Place). has_page p x.place.space (span_first x.place)) (sym r.2 ∙ e)) (top_or_low x.row r.0)

  pub untouched : (q : ℕ) → IsLinked c q → ¬ held q → IsUntouched (region v) (place_at s.words q)
  untouched q l out = (
    λ at. let r = row_linked at.0 at.1 at.2 in out (subst held (same_place h.good at.0.row q r.0 l (r.2 ∙ at.3)) r.1),
    ⊎_elim (λ (b : Below h.good held decide q). inl (below_it q b)) (λ (f : Clear h.good held decide q). clear_it q l out f) (looked_up h.good held decide q l out),
  )
