-- Rows with the same numbers, positions and entry words are covers of the same zones.
use Rattle.std.proofs.Common.{◌≡◌, ℕ, ◌<◌, ◌≤◌, true, false, List, [], ◌∷◌, map, get_or, sym, ap, ◌∙◌, subst, ⊎_elim, arith}
use Rattle.std.specs.List.{Contains}
use Rattle.table_place.specs.declared.Place.{Place}
use Rattle.table_place.specs.Place.{entry_place}
use Rattle.walk_core.specs.Words.{is_link, link_row}
use Rattle.walk_core.proofs.RowLists.{in_head, in_tail, in_map, head_or_later}
use Rattle.row_table.specs.declared.view.HeldRow.{HeldRow as KnownRow}
use Rattle.row_table.specs.Known.{IsPlaced}
use Rattle.row_table.specs.Books.{given}
use Rattle.tree_lock.specs.declared.zone.Zone.{Zone}
use Rattle.tree_lock.specs.declared.zone.Zone.TheVariants.{Pages, Space, Directory}
use Rattle.tree_lock.specs.Zone.{IsMet, Meets, Spans}
use Rattle.tree_lock.specs.Covers.{IsLowest, IsTop, HoldsAt, LinksHeld, LinkedBy, IsOfCover, CoversZone}
use Rattle.tree_lock.specs.Linked.{cover_part, CoverStays, GivenStays}

module _ {R : Type 0} where
  -- the same of two rows
  record Alike (h g : KnownRow R) : Type 0 where
    pub row : h.row ≡ g.row
    pub place : h.place ≡ g.place
    pub words : h.words ≡ g.words

  alike : (h g : KnownRow R) → cover_part h ≡ cover_part g → Alike h g
  alike h g e = record { row = ap (λ (p : ℕ × Place × List ℕ). p.0) e; place = ap (λ (p : ℕ × Place × List ℕ). p.1) e; words = ap (λ (p : ℕ × Place × List ℕ). p.2) e }

  -- a row with the parts of a listed one
  found : (q : ℕ × Place × List ℕ) (rows : List (KnownRow R)) → Contains (map cover_part rows) q → (h : KnownRow R) × Contains rows h × (cover_part h ≡ q)
  found q [] i = let none = i.1 in absurd (omega arith)
  found q (h ∷ rows) i = ⊎_elim
      (λ (e : cover_part h ≡ q). (h, in_head h rows, e))
      (λ (later : Contains (map cover_part rows) q). let o = found q rows later in (o.0, in_tail h rows o.0 o.1, o.2))
      (head_or_later (cover_part h) (map cover_part rows) q i)

  other : (old new : List (KnownRow R)) → map cover_part new ≡ map cover_part old → (h : KnownRow R) → Contains new h → (g : KnownRow R) × Contains old g × Alike h g
  other old new same h i =
      let o = found (cover_part h) old (subst (λ (l : List (ℕ × Place × List ℕ)). Contains l (cover_part h)) same (in_map cover_part new h i)) in
      (o.0, o.1, alike h o.0 (sym o.2))

  module _ (levels : ℕ) (zone : Zone) where
    lowest_too : (h g : KnownRow R) → Alike h g → IsLowest levels zone g → IsLowest levels zone h
    lowest_too h g a is index less spans = ap (λ (ws : List ℕ). is_link (get_or ws index 0)) a.words ∙ is index less (subst (λ (p : Place). Spans zone (entry_place levels p index)) a.place spans)

  top_too : (levels : ℕ) (zone : Zone) (h g : KnownRow R) → Alike h g → IsTop levels zone g → IsTop levels zone h
  top_too levels (Pages s f c b) h g a is = (subst (Spans (Pages s f c b)) (sym a.place) is.0, lowest_too levels (Pages s f c b) h g a is.1)
  top_too levels (Space s) h g a is = (a.row ∙ is.0, a.place ∙ is.1)
  top_too levels Directory h g a is = (a.row ∙ is.0, a.place ∙ is.1)

  module _ (levels count : ℕ) (zone : Zone) (old new : List (KnownRow R)) (same : map cover_part new ≡ map cover_part old) where
    of_cover : (t u h g : KnownRow R) → Alike t u → Alike h g → IsOfCover levels count zone u g → IsOfCover levels count zone t h
    of_cover t u h g at a is = record {
      there = subst (λ (r : ℕ). r < count) (sym a.row) is.there;
      placed = subst (λ (r : ℕ). IsPlaced levels r h.place) (sym a.row) (subst (IsPlaced levels g.row) (sym a.place) is.placed);
      met = subst (IsMet levels zone) (sym a.place) is.met;
      level = subst (λ (p : Place). h.place.level ≤ p.level) (sym at.place) (subst (λ (p : Place). p.level ≤ u.place.level) (sym a.place) is.level);
    }

    holds_at : (row : ℕ) (place : Place) → HoldsAt old row place → HoldsAt new row place
    holds_at row place is = let o = other new old (sym same) is.known is.held in record { known = o.0; held = o.1; same_row = sym o.2.row ∙ is.same_row; same_place = sym o.2.place ∙ is.same_place }

    links_held : (h g : KnownRow R) → Alike h g → LinksHeld levels zone old g → LinksHeld levels zone new h
    links_held h g a is index less link meets =
        let word : get_or h.words index 0 ≡ get_or g.words index 0 = ap (λ (ws : List ℕ). get_or ws index 0) a.words in
        let was = holds_at (link_row (get_or g.words index 0)) (entry_place levels g.place index)
        (is index less (ap is_link (sym word) ∙ link) (subst (λ (p : Place). Meets zone (entry_place levels p index)) a.place meets)) in
        subst (λ (n : ℕ). HoldsAt new (link_row n) (entry_place levels h.place index)) (sym word)
        (subst (λ (p : Place). HoldsAt new (link_row (get_or g.words index 0)) (entry_place levels p index)) (sym a.place) was)

    linked_by : (row : ℕ) (place : Place) → LinkedBy levels zone old row place → LinkedBy levels zone new row place
    linked_by row place is =
        let o = other new old (sym same) is.linker is.held in let word : get_or o.0.words is.index 0 ≡ get_or is.linker.words is.index 0 = ap (λ (ws : List ℕ). get_or ws is.index 0) (sym o.2.words) in record {
          linker = o.0;
          held = o.1;
          index = is.index;
          inside = is.inside;
          link = ap is_link word ∙ is.link;
          to_row = ap link_row word ∙ is.to_row;
          is_below = is.is_below ∙ ap (λ (p : Place). entry_place levels p is.index) o.2.place;
          meets = is.meets;
        }

    covers : CoversZone levels count zone old → CoversZone levels count zone new
    covers is =
        let t = other new old (sym same) is.top is.held in
        let top : Alike t.0 is.top = record { row = sym t.2.row; place = sym t.2.place; words = sym t.2.words } in record {
          top = t.0;
          held = t.1;
          is_top = top_too levels zone t.0 is.top top is.is_top;
          each = λ h i. let o = other old new same h i in of_cover t.0 is.top h o.0 top o.2 (is.each o.0 o.1);
          links = λ h i. let o = other old new same h i in links_held h o.0 o.2 (is.links o.0 o.1);
          linked = λ h i ne. let o = other old new same h i in
              subst (λ (r : ℕ). LinkedBy levels zone new r h.place) (sym o.2.row)
              (subst (LinkedBy levels zone new o.0.row) (sym o.2.place)
              (linked_by o.0.row o.0.place (is.linked o.0 o.1 (λ e. ne (o.2.row ∙ (e ∙ sym top.row))))));
        }

pub cover_stays : (R : Type 0) → CoverStays R
cover_stays R levels count zone old new same is = covers levels count zone old new same is

pub given_too : (R : Type 0) → GivenStays R
given_too R levels count zone rows is = covers levels count zone rows (map given rows) (same rows) is
  where
    same : (xs : List (KnownRow R)) → map cover_part (map given xs) ≡ map cover_part xs
    same [] i = []
    same (x ∷ xs) i = cover_part x ∷ same xs i
