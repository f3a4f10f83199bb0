-- Rows that were set up can be opened after steps on other rows.
use Rattle.std.proofs.Common.{◌≡◌, ◌≢◌, ℕ, eqb, not, cond, Bool, true, false, List, [], ◌∷◌, map, sym, refl, ap, ◌∙◌, subst, arith, ne_eqb, Option, Some}
use Rattle.std.specs.List.{filter, find}
use mathlib.Core.Logic.{dite}
use native.Mathlib.Decide.{ℕ_discrete}
use Rattle.table_place.specs.declared.Place.{Place}
use Rattle.walk_core.specs.declared.event.SetPart.{SetPart}
use Rattle.walk_core.specs.declared.event.SetPart.TheVariants.{Position, Generation}
use Rattle.walk_core.specs.declared.pass.GrantedRow.{GrantedRow}
use Rattle.walk_core.specs.Words.{is_link, link_row}
use Rattle.walk_core.specs.Events.{with_part, granted_after_part}
use Rattle.walk_core.proofs.RowLists.{times-append, times_one_other, times_without_other}
use Rattle.row_table.specs.declared.view.PassView.{PassView}
use Rattle.row_table.specs.declared.view.HeldRow.{HeldRow}
use Rattle.row_table.specs.Moves.{released}
use Rattle.row_table.specs.Openings.{prepared, opened, MayOpen, KeepsOpen}
use Rattle.row_table.specs.Links.{word_set, link_set, entry_set, KeepsUnlinked}

abbrev found : ℕ → List GrantedRow → Option GrantedRow
found r gs = find (λ (g : GrantedRow). eqb g.row r) gs

found_mapped : (f : GrantedRow → GrantedRow) (r : ℕ) → ((g : GrantedRow) → (f g).row ≡ g.row) → ((g : GrantedRow) → g.row ≡ r → f g ≡ g) → (gs : List GrantedRow) → found r (map f gs) ≡ found r gs
found_mapped f r row same [] = refl
found_mapped f r row same (g ∷ gs) = dite (ℕ_discrete g.row r)
    (λ z. ap (λ (x : GrantedRow). cond (eqb x.row r) (Some x) (found r (map f gs))) (same g z) ∙ ap (cond (eqb g.row r) (Some g)) (found_mapped f r row same gs))
    (λ ne. ap (λ (b : Bool). cond b (Some (f g)) (found r (map f gs))) (ne_eqb (f g).row r (λ e. ne (sym (row g) ∙ e)))
    ∙ (found_mapped f r row same gs ∙ ap (λ (b : Bool). cond b (Some g) (found r gs)) (sym (ne_eqb g.row r ne))))

found_kept : (t : ℕ → Bool) (r : ℕ) → t r ≡ true → (gs : List GrantedRow) → found r (filter (λ (g : GrantedRow). t g.row) gs) ≡ found r gs
found_kept t r stays [] = refl
found_kept t r stays (g ∷ gs) = dite (ℕ_discrete g.row r)
    (λ z. ap (λ (b : Bool). found r (cond b (g ∷ left) left)) (ap t z ∙ stays) ∙ ap (cond (eqb g.row r) (Some g)) (found_kept t r stays gs))
    (λ ne. go (t g.row) (ne_eqb g.row r ne) (found_kept t r stays gs))
  where
    left : List GrantedRow
    left = filter (λ (x : GrantedRow). t x.row) gs

    go : (b : Bool) → eqb g.row r ≡ false → found r left ≡ found r gs → found r (cond b (g ∷ left) left) ≡ found r (g ∷ gs)
    go true other e = ap (cond (eqb g.row r) (Some g)) e
    go false other e = e ∙ ap (λ (b : Bool). cond b (Some g) (found r gs)) (sym other)

found_beside : (row r : ℕ) (part : SetPart) (gs : List GrantedRow) → r ≢ row → found r (granted_after_part row part gs) ≡ found r gs
found_beside row r part gs ne = found_mapped (λ (g : GrantedRow). cond (eqb g.row row) (with_part part g) g) r (λ g. same_row g (eqb g.row row) part)
    (λ g z. ap (λ (b : Bool). cond b (with_part part g) g) (ne_eqb g.row row (λ e. ne (sym z ∙ e)))) gs
  where
    same_row : (g : GrantedRow) (b : Bool) (part : SetPart) → (cond b (with_part part g) g).row ≡ g.row
    same_row g true (Position place) = refl
    same_row g true (Generation generation) = refl
    same_row g false part = refl

module _ {R B E : Type 0} where
  pub kept_prepared : (v : PassView R B E) (row generation : ℕ) (place : Place) → KeepsOpen row v (prepared v row place generation)
  kept_prepared v row generation place r ne may = record {
    both_set = found_beside row r (Generation generation) (granted_after_part row (Position place) v.core.granted) ne ∙ (found_beside row r (Position place) v.core.granted ne ∙ may.both_set);
    closed = may.closed;
  }

  pub kept_opened : (v : PassView R B E) (row generation : ℕ) (place : Place) → KeepsOpen row v (opened v row place generation)
  kept_opened v row generation place r ne may = record {
    both_set = may.both_set;
    closed = (let all = times-append r v.core.held (row ∷ []) in let one = times_one_other r row (λ e. ne (sym e)) in let none = may.closed in omega arith);
  }

  pub kept_entry : (v : PassView R B E) (linker : HeldRow R) (index word : ℕ) → KeepsUnlinked word v (entry_set v linker index word)
  kept_entry v linker index word r other may = go (is_link word) refl
    where
      kept_on : (b : Bool) → MayOpen (cond b (link_set v linker index word) (word_set v linker.row index word)) r → is_link word ≡ b → MayOpen (entry_set v linker index word) r
      kept_on b now e = subst (λ (t : Bool). MayOpen (cond t (link_set v linker index word) (word_set v linker.row index word)) r) (sym e) now

      go : (b : Bool) → is_link word ≡ b → MayOpen (entry_set v linker index word) r
      go true e = kept_on true (record {
        both_set = ap (λ (b : Bool). found r (cond b (filter (λ (g : GrantedRow). not (eqb g.row (link_row word))) v.core.granted) v.core.granted)) e
            ∙ (found_kept (λ (x : ℕ). not (eqb x (link_row word))) r (ap not (ne_eqb r (link_row word) (λ z. other e (sym z)))) v.core.granted ∙ may.both_set);
        closed = may.closed;
      }) e
      go false e = kept_on false (record { both_set = may.both_set; closed = may.closed }) e

  pub kept_released : (v : PassView R B E) (row : ℕ) → KeepsOpen row v (released v row)
  kept_released v row r ne may = record { both_set = may.both_set; closed = times_without_other row r v.core.held ne ∙ may.closed }
