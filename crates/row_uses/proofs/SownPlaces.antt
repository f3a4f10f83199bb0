-- Where a pass holds one row, it may change the position below an entry of it that is no link, and a book that lists this position too lists all others as before.
use Rattle.std.proofs.Common.{◌≡◌, ◌≢◌, ℕ, ◌+◌, ◌-◌, ◌*◌, ◌/◌, ◌^◌, ◌<◌, ◌≤◌, Bool, cond, true, false, ◌&&◌, ◌||◌, List, [], ◌∷◌, ◌++◌, get_or, sym, refl, ap, ◌∙◌, subst, ⊎_elim, arith, eqb, eq-eqb, ne_eqb}
use Rattle.std.specs.List.{Contains, list_any}
use Rattle.std.proofs.lemmas.Bool.{and_parts, and_from, eqb-true, cases_Bool, cond-false}
use Rattle.std.proofs.lemmas.List.Folds.{list_any-append}
use mathlib.Core.Logic.{dite}
use native.Mathlib.Decide.{ℕ_discrete}
use Rattle.table_place.specs.declared.Place.{Place}
use Rattle.table_place.specs.Place.{root, is_directory, is_place, entry_place, has_page, span_first}
use Rattle.walk_core.specs.Words.{is_link}
use Rattle.row_layout.specs.declared.places.Layout.{Layout}
use Rattle.row_table.specs.declared.view.HeldRow.{HeldRow}
use Rattle.row_uses.specs.declared.sowing.Seeds.{Seeds}
use Rattle.row_table.specs.Plan.{IsOutside, IsUntouched, Covers}
use Rattle.row_table.specs.Moves.{NotInHand}
use Rattle.row_table.specs.Books.{IsHeldAt, region}
use Rattle.row_uses.specs.Sown.{View, same_place, lists, KeepsListed}
use Rattle.walk_core.proofs.RowLists.{head_or_later, in_head}
use Rattle.table_place.proofs.Entries.{level_of, below_is, entry_page, first_page, same_span}

-- The tables below a row

pub few_levels : (k : Layout) → (4 ≤ k.levels) × (k.levels ≤ 5) → k.levels < 6
few_levels k is = let high = is.1 in omega arith

pub record Splits (levels : ℕ) (p : Place) : Type 0 where
  pub level : (i j : ℕ) → (entry_place levels p i).level ≡ (entry_place levels p j).level
  pub low : (i : ℕ) → (entry_place levels p i).level < 6
  pub less : (i : ℕ) → (entry_place levels p i).level < p.level
  pub apart : (i j : ℕ) → entry_place levels p i ≡ entry_place levels p j → i ≡ j
  pub inside : (i space page : ℕ) → i < 512 → has_page (entry_place levels p i) space page ≡ true → has_page p space page ≡ true

splits_top : (levels : ℕ) (p : Place) → levels < 6 → p.level ≡ 6 → Splits levels p
splits_top levels p few top =
    let is : is_directory p ≡ true = eq-eqb p.level 6 top in
    let at : (i : ℕ) → entry_place levels p i ≡ root levels i = λ i. ap (λ (b : Bool). cond b (root levels i) (record { space = p.space; level = p.level - 1; prefix = 512 * p.prefix + i })) is in record {
      level = λ i j. ap (λ (x : Place). x.level) (at i) ∙ sym (ap (λ (x : Place). x.level) (at j));
      low = λ i. let e = ap (λ (x : Place). x.level) (at i) in omega arith;
      less = λ i. let e = ap (λ (x : Place). x.level) (at i) in omega arith;
      apart = λ i j e. ap (λ (x : Place). x.space) (sym (at i) ∙ (e ∙ at j));
      inside = λ i space page _ _. ap (λ (b : Bool). b || (eqb p.space space && eqb (page / 512 ^ p.level) p.prefix)) is;
    }

splits_low : (levels : ℕ) (p : Place) → 2 ≤ p.level → p.level < 6 → Splits levels p
splits_low levels p deep low =
    let at = below_is levels p in record {
      level = λ i j. ap (λ (x : Place). x.level) (at i low) ∙ sym (ap (λ (x : Place). x.level) (at j low));
      low = λ i. let e = ap (λ (x : Place). x.level) (at i low) in omega arith;
      less = λ i. let e = ap (λ (x : Place). x.level) (at i low) in omega arith;
      apart = λ i j e. let n = ap (λ (x : Place). x.prefix) (sym (at i low) ∙ (e ∙ at j low)) in omega arith;
      inside = λ i space page less h. entry_page levels p i space page deep low less h;
    }

pub splits : (levels : ℕ) (p : Place) (i : ℕ) → levels < 6 → is_place levels (entry_place levels p i) ≡ true → Splits levels p
splits levels p i few is = dite (ℕ_discrete p.level 6)
    (λ top. splits_top levels p few top)
    (λ ne. let at : entry_place levels p i ≡ record { space = p.space; level = p.level - 1; prefix = 512 * p.prefix + i } = cond-false (is_directory p) _ _ (ne_eqb p.level 6 ne) in
    let e = ap (λ (x : Place). x.level) at in let bounds = level_of levels (entry_place levels p i) is in let low = bounds.0 in let high = bounds.1 in
    splits_low levels p (omega arith) (omega arith))

-- The position below the entry is not untouched

pub only_row : {X : Type 0} (xs : List X) (x y : X) → xs ≡ x ∷ [] → Contains xs y → y ≡ x
only_row xs x y is i = ⊎_elim (λ (e : x ≡ y). sym e) (λ (l : Contains [] y). let less = l.1 in absurd (omega arith)) (head_or_later x [] y (subst (λ l. Contains l y) is i))

module _ (v : View) (h : HeldRow Bool) (index : ℕ) (rows : v.rows ≡ h ∷ []) (hand : NotInHand v h.row) (inside : index < 512) (none : is_link (get_or h.words index 0) ≡ false)
    (s : Splits v.layout.levels h.place) where
  abbrev entry : ℕ → Place
  entry i = entry_place v.layout.levels h.place i

  other_page : (j space page : ℕ) → j ≢ index → has_page (entry j) space page ≡ true → has_page (entry index) space page ≡ true → ⊥
  other_page j space page ne a b = ne (s.apart j index (same_span (entry j) (entry index) space page (s.low j) (s.level j index) a b))

  not_outside : IsOutside (region v) (entry index) → ⊥
  not_outside out =
      let space : ℕ = (entry index).space in let page : ℕ = span_first (entry index) in
      let at : has_page (entry index) space page ≡ true = first_page (entry index) (s.low index) in
      out space page at (
        (h.place, (h, subst (λ (l : List (HeldRow Bool)). Contains l h) (sym rows) (in_head h []), hand, refl), s.inside index space page inside at),
        λ q b. ⊎_elim
            (λ (has : has_page q space page ≡ true).
            let same : b.linker ≡ h = only_row v.rows h b.linker rows b.held in
            let q_is : q ≡ entry b.index = b.place ∙ ap (λ (x : HeldRow Bool). entry_place v.layout.levels x.place b.index) same in
            let ne : b.index ≢ index = λ e. (let clash : true ≡ false = sym b.link ∙ ((λ k. is_link (get_or ((ap (λ (x : HeldRow Bool). x.words) same) k) (e k) 0)) ∙ none) in cc) in
            absurd (other_page b.index space page ne (ap (λ (x : Place). has_page x space page) (sym q_is) ∙ has) at))
            (λ (no_page : has_page q space page ≡ false). no_page) (cases_Bool (has_page q space page)),
      )

  not_covered : Covers (entry index) h.place → ⊥
  not_covered covers = dite (ℕ_discrete index 0) (λ z. go 1 (omega arith) (omega arith)) (λ nz. go 0 (omega arith) (omega arith))
    where
      go : (j : ℕ) → j < 512 → j ≢ index → ⊥
      go j low ne = let page : ℕ = span_first (entry j) in let at = first_page (entry j) (s.low j) in
          other_page j (entry j).space page ne at (covers (entry j).space page (s.inside j (entry j).space page low at))

  pub touched : IsUntouched (region v) (entry index) → ⊥
  touched u = ⊎_elim (λ (out : IsOutside (region v) (entry index)). not_outside out)
      (λ (c : (q : Place) × IsHeldAt v q × Covers (entry index) q).
      let same : c.1.0 ≡ h = only_row v.rows h c.1.0 rows c.1.1 in
      not_covered (subst (Covers (entry index)) (sym c.1.3 ∙ ap (λ (x : HeldRow Bool). x.place) same) c.2))
      u.1

-- Lists of positions

pub same_is : (p q : Place) → same_place p q ≡ true → p ≡ q
same_is p q e =
    let a = and_parts (eqb p.space q.space) (eqb p.level q.level && eqb p.prefix q.prefix) e in
    let b = and_parts (eqb p.level q.level) (eqb p.prefix q.prefix) a.1 in
    λ i. record { space = eqb-true p.space q.space a.0 i; level = eqb-true p.level q.level b.0 i; prefix = eqb-true p.prefix q.prefix b.1 i }

pub same_self : (p : Place) → same_place p p ≡ true
same_self p = and_from _ _ (eq-eqb p.space p.space refl) (and_from _ _ (eq-eqb p.level p.level refl) (eq-eqb p.prefix p.prefix refl))

module _ (old new : Seeds) (c : Place) (more : new.listed.items ≡ old.listed.items ++ c ∷ []) where
  lists_is : (p : Place) → lists new p ≡ (lists old p || (same_place p c || false))
  lists_is p = ap (list_any (same_place p)) more ∙ list_any-append (same_place p) old.listed.items (c ∷ [])

  pub lists_other : (p : Place) → p ≢ c → lists new p ≡ lists old p
  lists_other p ne = lists_is p ∙ (⊎_elim
      (λ (yes : same_place p c ≡ true). absurd (ne (same_is p c yes)))
      (λ (no_same : same_place p c ≡ false). ap (λ (b : Bool). lists old p || (b || false)) no_same ∙ or_false (lists old p)) (cases_Bool (same_place p c)))
    where
      or_false : (b : Bool) → (b || (false || false)) ≡ b
      or_false true = refl
      or_false false = refl

  pub lists_it : lists new c ≡ true
  lists_it = lists_is c ∙ (ap (λ (b : Bool). lists old c || (b || false)) (same_self c) ∙ or_true (lists old c))
    where
      or_true : (b : Bool) → (b || (true || false)) ≡ true
      or_true true = refl
      or_true false = refl

  pub keeps_listed : (v : View) → (IsUntouched (region v) c → ⊥) → KeepsListed (region v) old new
  keeps_listed v out p untouched = lists_other p (λ e. out (subst (λ (x : Place). IsUntouched (region v) x) e untouched))
