-- Rows that are closed under the links that a zone meets, and the cover of the zone.
use Rattle.std.proofs.Common.{◌≡◌, ◌≢◌, ℕ, zero, suc, ◌+◌, ◌<◌, ◌≤◌, ◌⊎◌, ◌↔◌, true, Bool, List, sym, refl, ap, ◌∙◌, subst, inl, inr, ⊎_elim, arith}
use Rattle.std.proofs.lemmas.Bool.{cases_lt}
use mathlib.Core.Logic.{dite}
use native.Mathlib.Decide.{ℕ_discrete}
use Rattle.table_place.specs.declared.Place.{Place}
use Rattle.table_place.specs.Place.{span_first, has_page}
use Rattle.table_place.proofs.Entries.{page_parts, first_page}
use Rattle.row_table.specs.Plan.{Covers}
use Rattle.row_table.specs.Rows.{place_at}
use Rattle.row_table.specs.Close.{IsReached}
use Rattle.tree_lock.specs.declared.zone.Zone.{Zone}
use Rattle.tree_lock.specs.declared.zone.Zone.TheVariants.{Pages, Space, Directory}
use Rattle.tree_lock.specs.Zone.{ZoneHas, IsZone, Meets, Spans}
use Rattle.tree_lock.specs.Linked.{Links, IsBelowIn, IsBelow, IsTopRow, IsInCover}
use Rattle.tree_lock.proofs.LinkedTree.{IsLinkTree, level_at, one_under, under, first_link, low_level, root_by_level, below_or_same}

-- the rows that are held: this top, and with a row each row that it links and the zone meets, and no others
pub record IsClosed (zone : Zone) (words : List ℕ) (held : ℕ → Type 0) (top : ℕ) : Type 0 where
  pub reached : (r : ℕ) → held r → IsReached words r
  pub top_held : held top
  pub links : (p r : ℕ) → held p → Links words p r → Meets zone (place_at words r) → held r
  pub linked : (r : ℕ) → held r → r ≢ top → (p : ℕ) × held p × Links words p r × Meets zone (place_at words r)

-- the top has the pages of the zone, and it links none whose span may cover the zone
pub record IsTopped (zone : Zone) (words : List ℕ) (top : ℕ) : Type 0 where
  pub spans : Spans zone (place_at words top)
  pub lowest : (r : ℕ) → Links words top r → ¬ Spans zone (place_at words r)

met_up : (zone : Zone) (p q : Place) → Covers p q → Meets zone q → Meets zone p
met_up zone p q covers m = record { space = m.space; page = m.page; of_zone = m.of_zone; of_span = covers m.space m.page m.of_span }

spans_up : (zone : Zone) (p q : Place) → Covers p q → Spans zone q → Spans zone p
spans_up zone p q covers h = record { all = λ s x z. covers s x (h.all s x z); greater = λ strict lies. h.greater strict (λ s x has. lies s x (covers s x has)) }

-- the first page of a zone of pages
pub some_page : (levels s f n : ℕ) (b : Bool) → IsZone levels (Pages s f n b) → ZoneHas (Pages s f n b) s f
some_page levels s f n b z = (refl, omega arith, (let some = z.1 in omega arith))

module _ {levels : ℕ} (words : List ℕ) (t : IsLinkTree levels words) where
  -- The top of a zone of pages

  pub is_top : (s f n : ℕ) (b : Bool) (top : ℕ) → IsZone levels (Pages s f n b) → IsReached words top → IsTopped (Pages s f n b) words top → IsTopRow (Pages s f n b) words top
  is_top s f n b top z o h = record {
    reached = o;
    spans = h.spans;
    lowest = λ r q spans. ⊎_elim (λ (lower : level_at words r < level_at words top). absurd (no_lower r q spans lower)) (λ high. high) (cases_lt (level_at words r) (level_at words top));
  }
    where
      has : ZoneHas (Pages s f n b) s f
      has = some_page levels s f n b z

      no_lower : (r : ℕ) → IsReached words r → Spans (Pages s f n b) (place_at words r) → level_at words r < level_at words top → ⊥
      no_lower r q spans lower = ⊎_elim
          (λ (e : r ≡ top). let same = ap (level_at words) e in omega arith)
          (λ (way : IsBelow words top r). let c = first_link words t top r o way in h.lowest c.0 c.1 (spans_up (Pages s f n b) (place_at words c.0) (place_at words r) c.2 spans))
          (below_or_same words t top r s f o q (omega arith) (h.spans.all s f has) (spans.all s f has))

  pub one_top : (s f n : ℕ) (b : Bool) (a c : ℕ) → IsZone levels (Pages s f n b) → IsTopRow (Pages s f n b) words a → IsTopRow (Pages s f n b) words c → a ≡ c
  one_top s f n b a c z h k = ⊎_elim
      (λ (e : a ≡ c). e)
      (λ (way : IsBelow words c a). let less = (under words t c a k.reached way).level in let most = k.lowest a h.reached h.spans in absurd (omega arith))
      (below_or_same words t c a s f k.reached h.reached (h.lowest c k.reached k.spans) (k.spans.all s f (some_page levels s f n b z)) (h.spans.all s f (some_page levels s f n b z)))

  module _ (zone : Zone) (held : ℕ → Type 0) (top : ℕ) (h : IsClosed zone words held top) where
    top_reached : IsReached words top
    top_reached = h.reached top h.top_held

    below_in : (n r : ℕ) → IsBelowIn words n top r → Meets zone (place_at words r) → held r
    below_in zero r l m = h.links top r h.top_held l m
    below_in (suc n) r way m =
        let at = under words t top way.0 top_reached (n, way.1) in let down = one_under words t way.0 r at.reached way.2 in
        h.links way.0 r (below_in n way.0 way.1 (met_up zone (place_at words way.0) (place_at words r) down.covers m)) way.2 m

    pub below_held : (r : ℕ) → IsBelow words top r → Meets zone (place_at words r) → held r
    below_held r way m = below_in way.0 r way.1 m

    held_in : (n r : ℕ) → 6 ≤ level_at words r + n → held r → (r ≡ top) ⊎ (IsBelow words top r × Meets zone (place_at words r))
    held_in zero r high has = dite (ℕ_discrete r top) (λ e. inl e)
        (λ ne. let p = h.linked r has ne in absurd ((t.leads p.0 r (h.reached p.0 p.1) p.2).0 (root_by_level words t r (h.reached r has) (omega arith))))
    held_in (suc n) r high has = dite (ℕ_discrete r top) (λ e. inl e)
        (λ ne. let p = h.linked r has ne in let less = (one_under words t p.0 r (h.reached p.0 p.1) p.2).level in inr (
          ⊎_elim
              (λ (e : p.0 ≡ top). (0, subst (λ (q : ℕ). Links words q r) e p.2))
              (λ (up : IsBelow words top p.0 × Meets zone (place_at words p.0)). (suc up.0.0, (p.0, up.0.1, p.2)))
              (held_in n p.0 (omega arith) p.1),
          p.3,
        ))

    pub held_below : (r : ℕ) → held r → (r ≡ top) ⊎ (IsBelow words top r × Meets zone (place_at words r))
    held_below r has = held_in 6 r (omega arith) has

    -- a reached row that has a page of the zone, in common with the top, and is not above it
    common_held : (r s x : ℕ) → IsReached words r → level_at words r ≤ level_at words top → ZoneHas zone s x → has_page (place_at words top) s x ≡ true → has_page (place_at words r) s x ≡ true → held r
    common_held r s x o low has k j = ⊎_elim
        (λ (e : r ≡ top). subst held (sym e) h.top_held)
        (λ (way : IsBelow words top r). below_held r way (record { space = s; page = x; of_zone = has; of_span = j }))
        (below_or_same words t top r s x top_reached o low k j)

  -- The cover

  pub cover_pages : (s f n : ℕ) (b : Bool) (held : ℕ → Type 0) (top : ℕ) → IsZone levels (Pages s f n b) → IsClosed (Pages s f n b) words held top → IsTopped (Pages s f n b) words top
      → (r : ℕ) → held r ↔ IsInCover (Pages s f n b) words r
  cover_pages s f n b held top z h topped r = (λ has. (top, first, held_below (Pages s f n b) held top h r has), λ cover. back cover.0 cover.1 cover.2)
    where
      first : IsTopRow (Pages s f n b) words top
      first = is_top s f n b top z (h.reached top h.top_held) topped

      back : (a : ℕ) → IsTopRow (Pages s f n b) words a → (r ≡ a) ⊎ (IsBelow words a r × Meets (Pages s f n b) (place_at words r)) → held r
      back a k which = let same : a ≡ top = one_top s f n b a top z k first in ⊎_elim
          (λ (e : r ≡ a). subst held (sym (e ∙ same)) h.top_held)
          (λ (way : IsBelow words a r × Meets (Pages s f n b) (place_at words r)). below_held (Pages s f n b) held top h r (subst (λ (q : ℕ). IsBelow words q r) same way.0) way.1) which

  pub cover_space : (s : ℕ) (held : ℕ → Type 0) → IsClosed (Space s) words held 0 → (r : ℕ) → held r ↔ IsInCover (Space s) words r
  cover_space s held h r = (λ has. there has (held_below (Space s) held 0 h r has), back)
    where
      there : held r → (r ≡ 0) ⊎ (IsBelow words 0 r × Meets (Space s) (place_at words r)) → IsInCover (Space s) words r
      there has (inl e) = inl e
      there has (inr way) =
          let at = under words t 0 r (h.reached 0 h.top_held) way.0 in let low = low_level words t r at.not_root at.reached in let m = way.1 in
          inr (at.reached, (page_parts (place_at words r) m.space m.page (omega arith) m.of_span).0 ∙ m.of_zone)

      back : IsInCover (Space s) words r → held r
      back (inl e) = subst held (sym e) h.top_held
      back (inr at) = dite (ℕ_discrete r 0) (λ e. subst held (sym e) h.top_held)
          (λ ne. let low = low_level words t r ne at.0 in let top = ap (λ (p : Place). p.level) t.top in
          common_held (Space s) held 0 h r (place_at words r).space (span_first (place_at words r)) at.0 (omega arith) at.1
          (ap (λ (p : Place). has_page p (place_at words r).space (span_first (place_at words r))) t.top) (first_page (place_at words r) (omega arith)))

  pub cover_directory : (held : ℕ → Type 0) → IsClosed Directory words held 0 → (r : ℕ) → held r ↔ IsInCover Directory words r
  cover_directory held h r = (λ has. ⊎_elim (λ (e : r ≡ 0). e) (λ (way : IsBelow words 0 r × Meets Directory (place_at words r)). let m = way.1 in absurd m.of_zone) (held_below Directory held 0 h r has), λ e. subst held (sym e) h.top_held)
