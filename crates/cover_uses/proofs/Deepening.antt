-- A pass that covers a page by one row, and links a table below it.
use Rattle.std.proofs.Common.{◌≡◌, ◌≢◌, ℕ, zero, suc, ◌+◌, ◌-◌, ◌*◌, ◌^◌, ◌<◌, ◌≤◌, true, Bool, ⊎_elim, sym, ap, ◌∙◌, subst, refl, arith, inl, inr, None, List, [], ◌∷◌, map, length, get_or, Result, Ok, Err}
use Rattle.std.specs.Prelude.{nat_le, nat_lt}
use Rattle.std.specs.List.{Contains}
use Rattle.std.proofs.Math.Pow.{pow_mono}
use Rattle.std.proofs.lemmas.Bool.{and_from, le-leb, lt-ltb}
use mathlib.Core.Logic.{dite}
use native.Mathlib.Decide.{ℕ_discrete}
use Rattle.table_place.specs.declared.Place.{Place}
use Rattle.table_place.specs.Place.{directory, entry_place, is_place, is_user_range}
use Rattle.walk_core.specs.declared.pass.GrantedRow.{GrantedRow}
use Rattle.walk_core.specs.Words.{is_link}
use Rattle.walk_core.specs.Lists.{times, Has}
use Rattle.walk_core.specs.Events.{stand_after_look}
use Rattle.walk_core.proofs.RowLists.{times-nil, times-cons, times-cons_same, times-cons_other}
use Rattle.walk_core.proofs.Spellings.{zero_no_link}
use Rattle.row_layout.specs.declared.places.Layout.{Layout}
use Rattle.row_table.specs.declared.view.HeldRow.{HeldRow as KnownRow}
use Rattle.row_table.specs.Rule.{SameRows, row_part}
use Rattle.row_table.specs.Moves.{NotInHand, Fits}
use Rattle.row_table.specs.Looks.{looked_at, Looks}
use Rattle.row_table.specs.Close.{IsIdle}
use Rattle.row_uses.specs.declared.sowing.Unsown.{Unsown}
use Rattle.row_uses.specs.Sown.{View, sown, HoldsAlone, MaySow, KeepsRow, Sows}
use Rattle.row_uses.proofs.SownSteps.{still_kept}
use Rattle.tree_lock.specs.declared.zone.Zone.{Zone}
use Rattle.tree_lock.specs.declared.held.HeldRow.{HeldRow}
use Rattle.tree_lock.specs.Held.{row_numbers}
use Rattle.tree_lock.specs.Release.{HoldsExactly, MayReleaseAll, emptied}
use Rattle.tree_lock.specs.Covers.{IsListed}
use Rattle.tree_lock.specs.Tries.{IsFree, IsHeld}
use Rattle.tree_lock.proofs.Meeting.{child_is}
use Rattle.tree_lock.proofs.Toppings.{alone}

-- ---- lists of one

none_stand : (ns : List ℕ) → ((r : ℕ) → 0 ≡ times r ns) → ns ≡ []
none_stand [] none = refl
none_stand (n ∷ ns) none = let here = times-cons_same n n ns refl in let no = none n in absurd (omega arith)

only_number : (x : ℕ) (ns : List ℕ) → SameRows (x ∷ []) ns → ns ≡ x ∷ []
only_number x [] same = let one = times-cons_same x x [] refl in let none = times-nil x in let is = same x in absurd (omega arith)
only_number x (y ∷ ys) same = dite (ℕ_discrete y x)
    (λ e. (λ j. e j ∷ none_stand ys (λ r. let a = times-cons r x [] in let b = times-cons r y ys in let n = times-nil r in let c = ap (λ (m : ℕ). times r (m ∷ ys)) e in let d = times-cons r x ys in let is = same r in omega arith) j))
    (λ ne. let one = times-cons_same y y ys refl in let none = times-cons_other y x [] (λ e. ne (sym e)) in let nil = times-nil y in let is = same y in absurd (omega arith))

only_shown : {R : Type 0} (rows : List (KnownRow R)) (n : ℕ) → map row_part rows ≡ n ∷ [] → (h : KnownRow R) → Contains rows h → rows ≡ h ∷ []
only_shown [] n e h has = absurd (let less = has.1 in omega arith)
only_shown (r ∷ []) n e h has = λ j. sym (alone h r has) j ∷ []
only_shown (r ∷ s ∷ rest) n e h has = absurd (let long = ap length e in omega arith)

pub one_of : {X : Type 0} (xs : List X) (d : X) → length xs ≡ 1 → xs ≡ get_or xs 0 d ∷ []
one_of [] d e = absurd (omega arith)
one_of (x ∷ []) d e = refl
one_of (x ∷ y ∷ rest) d e = absurd (omega arith)

-- ---- the cover of one row

module _ (levels : ℕ) (zone : Zone) (v0 v : View) (x : HeldRow Bool) (list : List (HeldRow Bool)) (one : list ≡ x ∷ []) (idle : IsIdle v0) (held : IsHeld levels zone v0 v list) where
  abbrev listed : IsListed v.rows x
  listed = held.listed.each x (subst (λ (l : List (HeldRow Bool)). Contains l x) (sym one) (0, omega arith, refl))

  numbers : v.core.held ≡ x.row ∷ []
  numbers = only_number x.row v.core.held (λ r. ap (λ (l : List (HeldRow Bool)). times r (row_numbers l)) (sym one) ∙ held.listed.exact.held r)

  pub holds_it : Has v.core.held x.row
  holds_it = let here = times-cons_same x.row x.row [] refl in let same = ap (times x.row) numbers in omega arith

  rows : v.rows ≡ listed.known ∷ []
  rows = only_shown v.rows x.row (held.listed.exact.shown ∙ numbers) listed.known listed.held

  module _ (w : View) (index word : ℕ) (looks : Looks x.row index v word w) where
    still_outside : w.core.stand ≡ None
    still_outside = ap (λ (y : View). y.core.stand) looks.1 ∙ ap (stand_after_look v.layout.levels x.row index word) held.outside

    pub holds_alone : HoldsAlone w listed.known
    holds_alone = record {
      rows = ap (λ (y : View). y.rows) looks.1 ∙ rows;
      held = ap (λ (y : View). y.core.held) looks.1 ∙ numbers ∙ ap (λ (r : ℕ). r ∷ []) (sym listed.same_row);
      granted = ap (λ (y : View). y.core.granted) looks.1 ∙ ap (λ (y : View). y.core.granted) held.same ∙ idle.granted;
      unlinked = ap (λ (y : View). y.core.unlinked) looks.1 ∙ ap (λ (y : View). y.core.unlinked) held.same ∙ idle.unlinked;
      has_not = ap (λ (y : View). y.core.has_book) looks.1 ∙ ap (λ (y : View). y.core.has_book) held.same ∙ idle.has_not;
    }

    pub levels_still : v0.layout.levels ≡ levels → w.layout.levels ≡ levels
    levels_still are = ap (λ (y : View). y.layout.levels) looks.1 ∙ ap (λ (y : View). y.layout.levels) held.same ∙ are

    pub few_levels : v0.layout.levels ≡ levels → levels < 6
    few_levels are = let same = ap (λ (y : View). y.layout.levels) held.same ∙ are in let most = looks.0.right.levels.1 in omega arith

    -- a row of a cover that is not at the directory's level is a table
    pub is_table : x.place.level ≤ 5 → is_place levels x.place ≡ true
    is_table low = ⊎_elim
        (λ (top : (listed.known.row ≡ 0) × (listed.known.place ≡ directory)). let l = ap (λ (p : Place). p.level) (sym listed.same_place ∙ top.1) in absurd (omega arith))
        (λ (other : (listed.known.row ≢ 0) × (is_place levels listed.known.place ≡ true)). subst (λ (p : Place). is_place levels p ≡ true) listed.same_place other.1)
        (held.covers.each listed.known listed.held).placed

    abbrev pub Leads : Type 0
    Leads = (levels i : ℕ) (p : Place) → levels < 6 → 2 ≤ p.level → i < 512 → is_place levels p ≡ true → is_place levels (entry_place levels p i) ≡ true

    abbrev pub may_sow : word ≡ 0 → index < 512 → v0.layout.levels ≡ levels → 2 ≤ x.place.level → x.place.level ≤ 5 → (child : Place) → child ≡ record { space = x.place.space; level = x.place.level - 1; prefix = 512 * x.place.prefix + index } → Leads → MaySow w x.row index child
    may_sow none inside are two low child e leads = record {
      known = listed.known;
      alone = holds_alone;
      same_row = listed.same_row;
      inside = inside;
      no_link = ap is_link (sym (looks.0.holds listed.known listed.held listed.same_row) ∙ none) ∙ zero_no_link;
      below = e ∙ sym (child_is w.layout.levels x.place index (omega arith)) ∙ ap (λ (p : Place). entry_place w.layout.levels p index) (sym listed.same_place);
      is_place = subst (λ (n : ℕ). is_place n child ≡ true) (sym (levels_still are)) (subst (λ (p : Place). is_place levels p ≡ true) (sym (e ∙ sym (child_is levels x.place index (omega arith)))) (leads levels index x.place (few_levels are) two inside (is_table low)));
    }

    fits_still : MayReleaseAll sown list v → Fits sown w listed.known.row x.content
    fits_still each =
        let here : Fits sown v x.row x.content = (subst (λ (l : List (HeldRow Bool)). MayReleaseAll sown l v) one each 0 x (omega arith)).1 in
        subst (λ (r : ℕ). Fits sown w r x.content) (sym listed.same_row)
        (subst (λ (y : View). Fits sown y x.row x.content) (sym looks.1) (record { known = here.known; held = here.held; same_row = here.same_row; content_fits = here.content_fits }))

    -- ---- after the sowing

    module _ (u : View) (words : List ℕ) (keeps : KeepsRow w listed.known words u) where
      pub exact_still : HoldsExactly list u.core.held u.rows
      exact_still = record {
        held = λ r. ap (λ (l : List (HeldRow Bool)). times r (row_numbers l)) one ∙ ap (λ (n : ℕ). times r (n ∷ [])) (sym (keeps.same_row ∙ listed.same_row)) ∙ ap (times r) (sym keeps.alone.held);
        shown = ap (map row_part) keeps.alone.rows ∙ sym keeps.alone.held;
      }

      in_no_hand : NotInHand u x.row
      in_no_hand = let a = ap (λ (gs : List GrantedRow). times x.row (map (λ (g : GrantedRow). g.row) gs)) keeps.alone.granted in let b = ap (λ us. times x.row (map (λ u. u.row) us)) keeps.alone.unlinked in let n = times-nil x.row in omega arith

      pub each_still : MayReleaseAll sown list v → MayReleaseAll sown list u
      each_still each = subst (λ (l : List (HeldRow Bool)). MayReleaseAll sown l u) (sym one) of_one
        where
          fits : Fits sown u x.row x.content
          fits = subst (λ (r : ℕ). Fits sown u r x.content) listed.same_row (keeps.fits x.content (fits_still each))

          of_one : MayReleaseAll sown (x ∷ []) u
          of_one zero d within = (in_no_hand, fits)
          of_one (suc k) d within = absurd (omega arith)

      pub idle_after : (z : View) → z ≡ emptied u → IsIdle z
      idle_after z e = record {
        outside = ap (λ (y : View). y.core.stand) e ∙ keeps.stand ∙ still_outside;
        held = ap (λ (y : View). y.core.held) e;
        granted = ap (λ (y : View). y.core.granted) e ∙ keeps.alone.granted;
        unlinked = ap (λ (y : View). y.core.unlinked) e ∙ keeps.alone.unlinked;
        has_not = ap (λ (y : View). y.core.has_book) e ∙ keeps.alone.has_not;
      }

-- the pass still holds the row, whether it was sown below it or not
pub kept_after : (w u : View) (row index : ℕ) (child : Place) (out : Result ℕ Unsown) → Sows w row index child out u → (may : MaySow w row index child) → (words : List ℕ) × KeepsRow w may.known words u
kept_after w u row index child (Err why) sows may = (may.known.words, still_kept 1 w u may.known why may.alone (sows may))
kept_after w u row index child (Ok next) sows may = (_, (sows may).keeps)

pub free_of : (v : View) → IsIdle v → IsFree v
free_of v idle = record { outside = idle.outside; holds_none = idle.held }

-- user pages of four levels are user pages of more
pub user_range : (levels first count : ℕ) → 4 ≤ levels → 16 ≤ first → first + count < 2 ^ 35 → is_user_range levels first count ≡ true
user_range levels first count low from end = and_from (nat_le 16 first) (nat_lt (first + count) (2 ^ (9 * levels - 1))) (le-leb 16 first from)
    (lt-ltb (first + count) (2 ^ (9 * levels - 1)) (let wide : 2 ^ 35 ≤ 2 ^ (9 * levels - 1) = pow_mono (most levels low) in omega arith))
  where
    most : (n : ℕ) → 4 ≤ n → 35 ≤ 9 * n - 1
    most n low = omega arith
