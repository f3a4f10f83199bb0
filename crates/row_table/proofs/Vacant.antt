-- No other pass changes anything below an entry of a held row that is no link.
use Rattle.std.proofs.Common.{◌≡◌, ◌≢◌, ℕ, zero, suc, ◌+◌, ◌<◌, ◌≤◌, not, true, false, Bool, cond, List, get_or, sym, refl, ap, ◌∙◌, subst, inl, ⊎_elim, arith, Some}
use Rattle.std.specs.List.{Contains, range_with_len}
use mathlib.Core.Option.{some}
use mathlib.Core.Logic.{dite}
use native.Mathlib.Decide.{ℕ_discrete}
use lib.ListN.{get_elem?}
use Rattle.table_place.specs.declared.Place.{Place}
use Rattle.table_place.specs.Place.{root, entry_place, has_page, span_first}
use Rattle.walk_core.specs.Words.{entry_at, is_link}
use Rattle.walk_core.specs.Lists.{times, Has}
use Rattle.walk_core.specs.Core.{Core, word, place_in, IsLinked}
use Rattle.walk_core.specs.Good.{Good}
use Rattle.walk_core.proofs.RowLists.{times-filter, range_below}
use Rattle.walk_core.proofs.Frames.{same_holder}
use Rattle.row_layout.specs.declared.places.Layout.{Layout}
use Rattle.row_table.specs.declared.view.PassView.{PassView}
use Rattle.row_table.specs.declared.view.HeldRow.{HeldRow}
use Rattle.row_table.specs.Plan.{Meaning, IsLawful, IsUntouched}
use Rattle.row_table.specs.Vacant.{all_entries, vacant_entries, IsUnder, KeepsVacant}
use Rattle.row_table.specs.Rule.{Table, core_of, Holds}
use Rattle.row_table.specs.Moves.{NotInHand}
use Rattle.row_table.specs.Books.{given, region}
use Rattle.row_table.proofs.Shown.{word_at}
use Rattle.row_table.proofs.Views.{held_of_row, has_held, is_linked}
use Rattle.row_table.proofs.Spans.{row_low, same_place, above_page, Parent, parent_of, Below, Clear, looked_up}
use Rattle.row_table.proofs.Regions.{decide, row_linked, below_it}
use Rattle.table_place.proofs.Entries.{level_of, below_is, entry_page, first_page, same_span}

-- Lists of entries

pub entry_below : (i : ℕ) → Has all_entries i → i < 512
unfolding all_entries
entry_below i has = range_below 0 512 i has

pub vacant_is : (words : List ℕ) (i : ℕ) → Has (vacant_entries words) i → (i < 512) × (is_link (get_or words i 0) ≡ false)
unfolding vacant_entries
vacant_is words i has = go (is_link (get_or words i 0)) refl
  where
    go : (b : Bool) → is_link (get_or words i 0) ≡ b → (i < 512) × (is_link (get_or words i 0) ≡ false)
    go true e = let f = times-filter (λ j. not (is_link (get_or words j 0))) i (range_with_len 0 512) in
        let z : times i (vacant_entries words) ≡ 0 = f ∙ ap (λ (b : Bool). cond (not b) (times i (range_with_len 0 512)) 0) e in absurd (omega arith)
    go false e = let f = times-filter (λ j. not (is_link (get_or words j 0))) i (range_with_len 0 512) in
        let z : times i (vacant_entries words) ≡ times i (range_with_len 0 512) = f ∙ ap (λ (b : Bool). cond (not b) (times i (range_with_len 0 512)) 0) e in
        (range_below 0 512 i (let h : 0 < times i (vacant_entries words) = has in omega arith), e)

-- The tree

module _ {c : Core} (g : Good c) where
  entry_of_top : (r i : ℕ) → r ≡ 0 → entry_place c.levels (place_in c r) i ≡ root c.levels i
  entry_of_top r i e = ap (λ (x : Place). entry_place c.levels x i) (ap (place_in c) e ∙ g.links.root_place)

  top_level : (r : ℕ) → r ≡ 0 → (place_in c r).level ≡ 6
  top_level r e = ap (λ (x : Place). x.level) (ap (place_in c) e ∙ g.links.root_place)

  row_level : (r : ℕ) → r ≢ 0 → IsLinked c r → (1 ≤ (place_in c r).level) × ((place_in c r).level ≤ c.levels)
  row_level r ne l = level_of c.levels (place_in c r) (g.links.places r ne l)

  levels_few : c.levels < 6
  levels_few = ⊎_elim (λ (e : c.levels ≡ 4). omega arith) (λ (e : c.levels ≡ 5). omega arith) g.sizes.bounds.some_levels

  pub most_level : (r : ℕ) → IsLinked c r → (place_in c r).level ≤ 6
  most_level r l = dite (ℕ_discrete r 0) (λ e. let t = top_level r e in omega arith) (λ ne. let low = row_low g r ne l in omega arith)

  -- the level below an entry
  entry_level : (r i : ℕ) → IsLinked c r → (entry_place c.levels (place_in c r) i).level ≤ c.levels
  entry_level r i l = dite (ℕ_discrete r 0)
      (λ e. let x = ap (λ (y : Place). y.level) (entry_of_top r i e) in omega arith)
      (λ ne. let x = ap (λ (y : Place). y.level) (below_is c.levels (place_in c r) i (row_low g r ne l)) in let high = (row_level r ne l).1 in omega arith)

  -- two entries of linked rows lead to two positions
  same_entry : (r i q j : ℕ) → IsLinked c r → IsLinked c q → i < 512 → j < 512 → entry_place c.levels (place_in c r) i ≡ entry_place c.levels (place_in c q) j → (r ≡ q) × (i ≡ j)
  same_entry r i q j lr lq hi hj same = dite (ℕ_discrete r 0)
      (λ e. let one = entry_of_top r i e in dite (ℕ_discrete q 0)
      (λ f. (e ∙ sym f, ap (λ (x : Place). x.space) (sym one ∙ (same ∙ entry_of_top q j f))))
      (λ nf. let x = ap (λ (y : Place). y.level) (sym one ∙ (same ∙ below_is c.levels (place_in c q) j (row_low g q nf lq))) in
      let low = (row_level q nf lq).0 in let high = (row_level q nf lq).1 in absurd (omega arith)))
      (λ ne. let one = below_is c.levels (place_in c r) i (row_low g r ne lr) in dite (ℕ_discrete q 0)
      (λ f. let x = ap (λ (y : Place). y.level) (sym one ∙ (same ∙ entry_of_top q j f)) in
      let low = (row_level r ne lr).0 in let high = (row_level r ne lr).1 in absurd (omega arith))
      (λ nf. let all = sym one ∙ (same ∙ below_is c.levels (place_in c q) j (row_low g q nf lq)) in
      let space : (place_in c r).space ≡ (place_in c q).space = ap (λ (y : Place). y.space) all in
      let deep = ap (λ (y : Place). y.level) all in let number = ap (λ (y : Place). y.prefix) all in
      let h = (row_level r ne lr).0 in let k = (row_level q nf lq).0 in
      let level : (place_in c r).level ≡ (place_in c q).level = omega arith in
      let prefix : (place_in c r).prefix ≡ (place_in c q).prefix = omega arith in
      (same_place g r q lr lq (λ k. record { space = space k; level = level k; prefix = prefix k }), omega arith)))

  module _ (r i : ℕ) (linked : IsLinked c r) (inside : i < 512) (none : is_link (word c (entry_at r i)) ≡ false) where
    abbrev hole : Place
    hole = entry_place c.levels (place_in c r) i

    at_level : (a : ℕ) → a ≢ 0 → IsLinked c a → (place_in c a).level ≡ hole.level → (space page : ℕ) → has_page (place_in c a) space page ≡ true → has_page hole space page ≡ true → ⊥
    at_level a ne l same space page ha hq =
        let few = levels_few in let high = (row_level a ne l).1 in
        let is : place_in c a ≡ hole = same_span (place_in c a) hole space page (omega arith) same ha hq in
        let p : Parent c a = parent_of g a ne l in
        let both = same_entry p.row p.index r i p.linked linked p.inside inside (sym p.place ∙ is) in
        let clash : true ≡ false = sym p.link ∙ ((λ k. is_link (word c (entry_at (both.0 k) (both.1 k)))) ∙ none) in absurd (cc)

    -- no linked row stands below the entry, where so many levels may be between
    below_level : (n a : ℕ) → hole.level ≤ (place_in c a).level + n → a ≢ 0 → IsLinked c a → (place_in c a).level ≤ hole.level → (space page : ℕ) → has_page (place_in c a) space page ≡ true → has_page hole space page ≡ true → ⊥
    below_level zero a near ne l low space page ha hq = at_level a ne l (omega arith) space page ha hq
    below_level (suc n) a near ne l low space page ha hq = dite (ℕ_discrete (place_in c a).level hole.level)
        (λ same. at_level a ne l same space page ha hq)
        (λ less. let p : Parent c a = parent_of g a ne l in let most = entry_level r i linked in
        dite (ℕ_discrete p.row 0)
        (λ z. let x = ap (λ (y : Place). y.level) (p.place ∙ entry_of_top p.row p.index z) in absurd (omega arith))
        (λ nz. let x = ap (λ (y : Place). y.level) (p.place ∙ below_is c.levels (place_in c p.row) p.index (row_low g p.row nz p.linked)) in let some_level = (row_level p.row nz p.linked).0 in
        below_level n p.row (omega arith) nz p.linked (omega arith) space page (above_page g a p ne l space page ha) hq))

    pub none_below : (a : ℕ) → IsLinked c a → (place_in c a).level < 6 → (place_in c a).level ≤ hole.level → (space page : ℕ) → has_page (place_in c a) space page ≡ true → has_page hole space page ≡ true → ⊥
    none_below a l few low space page ha hq = let most = entry_level r i linked in let levels_are = levels_few in
        below_level 6 a (omega arith) (λ z. let t = top_level a z in omega arith) l low space page ha hq

    -- a page below the entry is one of the row
    pub hole_page : 1 ≤ hole.level → (space page : ℕ) → has_page hole space page ≡ true → has_page (place_in c r) space page ≡ true
    hole_page some_level space page h = dite (ℕ_discrete r 0)
        (λ e. ap (λ (q : ℕ). has_page (place_in c q) space page) e ∙ ap (λ (x : Place). has_page x space page) g.links.root_place)
        (λ ne. let x = ap (λ (y : Place). y.level) (below_is c.levels (place_in c r) i (row_low g r ne linked)) in
        entry_page c.levels (place_in c r) i space page (omega arith) (row_low g r ne linked) inside h)

    -- a row of a level below the row's is not above the entry's
    pub at_most : (a : ℕ) → IsLinked c a → (place_in c a).level < 6 → (place_in c a).level < (place_in c r).level → (place_in c a).level ≤ hole.level
    at_most a l few less = dite (ℕ_discrete r 0)
        (λ e. let x = ap (λ (y : Place). y.level) (entry_of_top r i e) in let high = (row_level a (λ z. let t = top_level a z in omega arith) l).1 in omega arith)
        (λ ne. let x = ap (λ (y : Place). y.level) (below_is c.levels (place_in c r) i (row_low g r ne linked)) in omega arith)

    pub hole_low : hole.level < 6
    hole_low = let most = entry_level r i linked in let few = levels_few in omega arith

module _ {R B E : Type 0} (M : Meaning R B E) where
  -- when the pass gives a book, whatever agrees with it agrees with it
  pub vacant_given : (levels : ℕ) (b : B) (h : HeldRow R) → KeepsVacant M levels b (Some b) (given h)
  vacant_given levels b h = record {
    vacant = λ i has. vacant_is h.words i has;
    keeps = λ i has a e p under ws x agrees. let same : b ≡ a = cc in subst (λ (y : B). M.agrees y p ws x) (sym same) agrees;
  }

  module _ (k : Layout) (first : B) (s : Table R B E) (h : Holds M k first s) (v : PassView R B E) (mine : get_elem? h.passes v.number ≡ some v) where
    abbrev c : Core
    c = core_of M k s.words h.passes h.free h.book

    hole_untouched : (r i : ℕ) → IsLinked c r → ¬ Has v.core.held r → i < 512 → is_link (word c (entry_at r i)) ≡ false → (p : Place) → IsUnder p (entry_place c.levels (place_in c r) i) → IsUntouched (region v) p
    hole_untouched r i linked out inside none p under =
        let low = hole_low h.good r i linked inside none in let lowest = under.lowest in let level = under.level in
        let clash : (x : HeldRow R) → Contains v.rows x → NotInHand v x.row → x.place.level < 6 → x.place.level ≤ (entry_place c.levels (place_in c r) i).level → (space page : ℕ) → has_page x.place space page ≡ true → has_page p space page ≡ true → ⊥
        = λ x j hand few less space page hx hp. (let t = row_linked M k first s h v mine x j hand in let at = ap (λ (q : Place). q.level) t.2 in
        none_below h.good r i linked inside none x.row t.0 (omega arith) (omega arith) space page (ap (λ (q : Place). has_page q space page) t.2 ∙ hx) (under.covers space page hp)) in (
          λ at. let same = ap (λ (q : Place). q.level) at.3 in clash at.0 at.1 at.2 (omega arith) (omega arith) p.space (span_first p)
              (ap (λ (q : Place). has_page q p.space (span_first p)) at.3 ∙ first_page p (omega arith)) (first_page p (omega arith)),
          inl (⊎_elim
              (λ (b : Below h.good (λ q. Has v.core.held q) (decide M k first s h v mine) r). λ space page hp.
              below_it M k first s h v mine r b space page (hole_page h.good r i linked inside none (omega arith) space page (under.covers space page hp)))
              (λ (clear : Clear h.good (λ q. Has v.core.held q) (decide M k first s h v mine) r). λ space page hp in_region.
              let x = in_region.0.1 in let t = row_linked M k first s h v mine x.0 x.1 x.2 in let at = ap (λ (q : Place). q.level) t.2 in
              let has : has_page x.0.place space page ≡ true = ap (λ (q : Place). has_page q space page) x.3 ∙ in_region.0.2 in
              let less = clear x.0.row t.0 t.1 space page (ap (λ (q : Place). has_page q space page) t.2 ∙ has) (hole_page h.good r i linked inside none (omega arith) space page (under.covers space page hp)) in
              let top = most_level h.good r linked in
              clash x.0 x.1 x.2 (omega arith) (let most = at_most h.good r i linked inside none x.0.row t.0 (omega arith) less in omega arith) space page has hp)
              (looked_up h.good (λ q. Has v.core.held q) (decide M k first s h v mine) r linked out)),
        )

    -- what another pass knows of such positions, after the pass gave the book
    pub vacant_kept : IsLawful M → (new : B) → M.may_follow (region v) h.book new → (u : PassView R B E) → get_elem? h.passes u.number ≡ some u → u.number ≢ v.number
        → (x : HeldRow R) → Contains u.rows x → NotInHand u x.row → KeepsVacant M k.levels h.book u.last x → KeepsVacant M k.levels new u.last x
    vacant_kept lawful new follows u its apart x i hand old =
        let held = held_of_row M k first s h u its x i in
        let is = (h.knows u.number u its).rows x i in
        let linked = is_linked M k first s h u its x.row held hand in
        let out : ¬ Has v.core.held x.row = λ j. apart (same_holder h.good.locks.rows u.number v.number x.row (has_held M k first s h u its x.row held) (has_held M k first s h v mine x.row j)) in
        record {
          vacant = old.vacant;
          keeps = λ j has a last p under words y agrees. let at = old.vacant j has in
              lawful.keeps_agreement (region v) h.book new follows p
              (hole_untouched x.row j linked out at.0 (ap is_link (sym (word_at s.words x.row j at.0) ∙ ap (λ (ws : List ℕ). get_or ws j 0) is.shown) ∙ at.1) p
              (subst (λ (q : Place). IsUnder p (entry_place k.levels q j)) (sym is.place) under)) words y (old.keeps j has a last p under words y agrees);
        }
