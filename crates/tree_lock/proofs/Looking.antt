-- Looks of a pass, as its own stand tells them.
use Rattle.std.proofs.Common.{◌≡◌, ℕ, ◌&&◌, true, false, cond, sym, ap, ◌∙◌, subst, refl, eq-eqb, Some, None, [], ◌∷◌, ◌++◌}
use Rattle.table_place.specs.declared.Place.{Place}
use Rattle.table_place.specs.Place.{entry_place, is_place}
use Rattle.walk_core.specs.declared.pass.Stand.{Stand}
use Rattle.walk_core.specs.Words.{is_link, link_row, link_generation}
use Rattle.walk_core.specs.Events.{stand_after_look}
use Rattle.row_table.specs.declared.view.PassView.{PassView}
use Rattle.row_table.specs.Moves.{finding}
use Rattle.row_table.specs.Looks.{Reads, Looks}
use Rattle.tree_lock.specs.Descents.{HasLevels, has_looked, LooksOn}

-- where a look leads that found a link, and one that found none
stand_on : (levels index n : ℕ) (s : Stand) → is_link n ≡ true → stand_after_look levels s.row index n (Some s) ≡ Some (record { row = link_row n; place = entry_place levels s.place index; generation = link_generation n })
stand_on levels index n s link = (λ j. cond (eq-eqb s.row s.row refl j && link j) (Some (record { row = link_row n; place = entry_place levels s.place index; generation = link_generation n })) (Some s))

stand_still : (levels index n : ℕ) (s : Stand) → is_link n ≡ false → stand_after_look levels s.row index n (Some s) ≡ Some s
stand_still levels index n s none = (λ j. cond (eq-eqb s.row s.row refl j && none j) (Some (record { row = link_row n; place = entry_place levels s.place index; generation = link_generation n })) (Some s))

module _ {R B E : Type 0} (levels : ℕ) where
  -- the view after a look of the stand's row
  looked_is : (v w : PassView R B E) (at : Stand) (index n : ℕ) → HasLevels levels v → v.core.stand ≡ Some at → (looks : Looks at.row index v n w) → w ≡ has_looked v at index n (stand_after_look levels at.row index n (Some at))
  looked_is v w at index n has on looks = looks.1 ∙ (λ j. record v { core = record v.core { stand = stand_after_look (has.1 j) at.row index n (on j) }; findings = v.findings ++ finding at.row (looks.0.known.of_stand at on refl j) (Some index) n ∷ [] })

  pub looks_none : (v w : PassView R B E) (at : Stand) (index n : ℕ) → HasLevels levels v → v.core.stand ≡ Some at → Looks at.row index v n w → is_link n ≡ false → LooksOn levels v at index None w
  looks_none v w at index n has on looks none = (n, looked_is v w at index n has on looks ∙ ap (has_looked v at index n) (stand_still levels index n at none), none, looks.0.holds)

  pub looks_link : (v w : PassView R B E) (at next : Stand) (index n : ℕ) → HasLevels levels v → v.core.stand ≡ Some at → Looks at.row index v n w → is_link n ≡ true
      → next.row ≡ link_row n → next.place ≡ entry_place levels at.place index → next.generation ≡ link_generation n → LooksOn levels v at index (Some next) w
  looks_link v w at next index n has on looks link row place generation = (
    n,
    looked_is v w at index n has on looks ∙ ap (has_looked v at index n) (stand_on levels index n at link ∙ (λ j. Some (record { row = sym row j; place = sym place j; generation = sym generation j }))),
    place,
    subst (λ (p : Place). is_place levels p ≡ true) (sym place) (leads_here v at index n has on looks.0 link),
  )
    where
      leads_here : (v : PassView R B E) (at : Stand) (index n : ℕ) → HasLevels levels v → v.core.stand ≡ Some at → Reads v at.row index n → is_link n ≡ true → is_place levels (entry_place levels at.place index) ≡ true
      leads_here v at index n has on reads link = (λ j. is_place (sym has.1 j) (entry_place (sym has.1 j) (sym (reads.known.of_stand at on refl) j) index)) ∙ reads.leads link

  pub may_be_below : (v w : PassView R B E) (at : Stand) (index n : ℕ) → HasLevels levels v → v.core.stand ≡ Some at → Looks at.row index v n w → is_link n ≡ true → is_place levels (entry_place levels at.place index) ≡ true
  may_be_below v w at index n has on looks link = (λ j. is_place (sym has.1 j) (entry_place (sym has.1 j) (sym (looks.0.known.of_stand at on refl) j) index)) ∙ looks.0.leads link
