-- Pages at which no gap begins: of more pages, after changes, and as the beginning of a search.
use Rattle.std.proofs.Common.{◌≡◌, ℕ, ◌+◌, ◌-◌, ◌<◌, ◌≤◌, Bool, true, false, cond, refl, sym, ap, subst, ◌∙◌, arith}
use mathlib.Core.Bool.{true≢false}
use mathlib.Core.Logic.{inl, inr}
use Rattle.std.specs.Prelude.{Option, Some, None, Result, Ok, Err, OnOk, OnErr, is_some, is_none}
use Rattle.std.specs.Option.{option_map}
use Rattle.std.specs.FinMap.{get}
use Rattle.std.proofs.lemmas.Bool.{cases_lt}
use Rattle.table_place.specs.Range.{within}
use Rattle.page_map.specs.Change.{change, least}
use Rattle.page_map.proofs.Least.{least_passes, none_below_least, unanswered}
use Rattle.page_map.proofs.Range.{get-change, inside}
use Rattle.corten_base.specs.declared.permissions.Perm.{Perm}
use Rattle.page_runs.specs.declared.mark.Mark.{Mark}
use Rattle.page_runs.specs.declared.change.Change.{Change}
use Rattle.page_runs.specs.declared.change.Effect.{Effect}
use Rattle.page_runs.specs.declared.change.Effect.TheVariants.{Map, Unmap, Protect}
use Rattle.page_runs.specs.declared.crowds.Crowd.{Crowd}
use Rattle.page_runs.specs.Mark.{goes_on, with_perm}
use Rattle.page_runs.specs.Spans.{Marks}
use Rattle.page_runs.specs.Changes.{after_effect}
use Rattle.page_runs.specs.Runs.{is_vacant, AreCrowded, HaveNoGap}
use Rattle.page_runs.proofs.Least.{least_is, least_none, least_there}

-- where none passes, none of the range does
no_least : (passes : ℕ → Bool) (first count : ℕ) → least first count passes ≡ None → (k : ℕ) → first ≤ k → k < first + count → passes k ≡ false
no_least passes first count e k low high = go (passes k) refl
  where
    not : ◌≡◌ {A = Option ℕ} (Some k) None → ⊥
    not h = cc

    go : (b : Bool) → passes k ≡ b → passes k ≡ false
    go false is = is
    go true is = absurd (not (sym (ap (λ b. cond b (Some k) None) is) ∙ unanswered (λ n. cond (passes n) (Some n) None) first count e k low high))

module _ (m : Marks) where
  -- a page with a mark, where not all have none
  there : (start count : ℕ) → is_vacant m start count ≡ false → (page : ℕ) × (start ≤ page) × (page < start + count) × (is_some (get m page) ≡ true)
  there start count e = go (least start count (λ page. is_some (get m page))) refl e
    where
      go : (o : Option ℕ) → least start count (λ page. is_some (get m page)) ≡ o → is_none o ≡ false → (page : ℕ) × (start ≤ page) × (page < start + count) × (is_some (get m page) ≡ true)
      go None is h = absurd (true≢false h)
      go (Some page) is h = let at = least_passes start count (λ page. is_some (get m page)) page is in (page, at.0, at.1, at.2)

  from : (start count page : ℕ) → start ≤ page → page < start + count → is_some (get m page) ≡ true → is_vacant m start count ≡ false
  from start count page low high is = least_there (λ page. is_some (get m page)) start count page low high is

  -- nor one of more pages
  pub no_longer : (first end few many : ℕ) → few ≤ many → HaveNoGap m first end few → HaveNoGap m first end many
  no_longer first end few many more none start low high =
      let at = there start few (none start low high) in
      from start many at.0 at.1 (omega (arith, at.2, more)) at.3

-- where a page that had a mark still has one
stays : (m n : Marks) (start count : ℕ) → ((page : ℕ) → start ≤ page → page < start + count → is_some (get m page) ≡ true → is_some (get n page) ≡ true) →
    is_vacant m start count ≡ false → is_vacant n start count ≡ false
stays m n start count keep e =
    let at = there m start count e in
    from n start count at.0 at.1 at.2 (keep at.0 at.1 at.2 at.3)

changed_stays : (m : Marks) (first count : ℕ) (new : ℕ → Option Mark → Option Mark) (page : ℕ) → (within first count page ≡ true → (o : Option Mark) → is_some o ≡ true → is_some (new page o) ≡ true) →
    is_some (get m page) ≡ true → is_some (get (change m first count new) page) ≡ true
changed_stays m first count new page keep is = ap (λ (o : Option Mark). is_some o) (get-change m first count new page) ∙ go (within first count page) refl
  where
    go : (b : Bool) → within first count page ≡ b → is_some (cond b (new page (get m page)) (get m page)) ≡ true
    go true w = keep w (get m page) is
    go false w = is

-- a mapping and new permissions take no mark, and an unmapping none before it
module _ (m : Marks) (c : Change) (crowd : Crowd) (none : AreCrowded m crowd) where
  abbrev Stays : Effect → Crowd → Type 0
  Stays effect left = HaveNoGap (after_effect effect c.first c.count m) left.first left.end left.count

  pub stays_mapped : (mark : Mark) → c.effect ≡ Map mark → Stays c.effect crowd
  stays_mapped mark is = subst (λ (e : Effect). Stays e crowd) (sym is) (λ start low high.
      stays m _ start crowd.count (λ page _ _ some. changed_stays m c.first c.count (λ page _. Some (goes_on mark (page - c.first))) page (λ _ o _. refl) some) (none start low high))

  pub stays_protected : (perm : Perm) → c.effect ≡ Protect perm → Stays c.effect crowd
  stays_protected perm is = subst (λ (e : Effect). Stays e crowd) (sym is) (λ start low high.
      stays m _ start crowd.count (λ page _ _ some. changed_stays m c.first c.count (λ _. option_map (with_perm perm)) page (λ _ o there. keeps o there) some) (none start low high))
    where
      keeps : (o : Option Mark) → is_some o ≡ true → is_some (option_map (with_perm perm) o) ≡ true
      keeps None e = e
      keeps (Some mark) e = refl

  pub stays_unmapped : (left : Crowd) → left.first ≡ crowd.first → left.count ≡ crowd.count → left.end ≤ crowd.end → left.end ≤ c.first - (crowd.count - 1) → c.effect ≡ Unmap → Stays c.effect left
  stays_unmapped left first_is count_is less before is = subst (λ (e : Effect). Stays e left) (sym is) (λ start low high.
      subst (λ n. is_vacant (after_effect Unmap c.first c.count m) start n ≡ false) (sym count_is)
      (stays m _ start crowd.count (λ page from to some. changed_stays m c.first c.count (λ _ _. None) page (λ w. absurd (omega (arith, (inside c.first c.count page w).0, to, high, before, from))) some)
      (none start (omega (arith, low, first_is)) (omega (arith, high, less)))))

-- a search may begin where none begins before
pub later_start : (m : Marks) (first from end count : ℕ) → first ≤ from → from ≤ end → 0 < count → HaveNoGap m first from count →
    least from (end + 1 - (from + count)) (λ start. is_vacant m start count) ≡ least first (end + 1 - (first + count)) (λ start. is_vacant m start count)
later_start m first from end count low high some none = go (least from (end + 1 - (from + count)) (λ start. is_vacant m start count)) refl
  where
    passes : ℕ → Bool
    passes start = is_vacant m start count

    go : (o : Option ℕ) → least from (end + 1 - (from + count)) (λ start. is_vacant m start count) ≡ o → o ≡ least first (end + 1 - (first + count)) (λ start. is_vacant m start count)
    go None e = sym (least_none (λ start. is_vacant m start count) first (end + 1 - (first + count)) (λ s a b. elim (cases_lt s from) [
      | inl before ↦ none s a before
      | inr after ↦ fails e s after (omega (arith, b, after))
    ]))
      where
        fails : least from (end + 1 - (from + count)) (λ start. is_vacant m start count) ≡ None → (s : ℕ) → from ≤ s → s < from + (end + 1 - (from + count)) → is_vacant m s count ≡ false
        fails e s a b = no_least (λ start. is_vacant m start count) from (end + 1 - (from + count)) e s a b
    go (Some start) e =
        let at = least_passes from (end + 1 - (from + count)) (λ start. is_vacant m start count) start e in
        sym (least_is (λ start. is_vacant m start count) first (end + 1 - (first + count)) start (omega (arith, at.0, low)) (omega (arith, at.1, at.0)) at.2 (λ s a b. elim (cases_lt s from) [
          | inl before ↦ none s a before
          | inr after ↦ none_below_least (λ start. is_vacant m start count) from (end + 1 - (from + count)) start s e after b
        ]))

-- where a search ends
pub none_found : (m : Marks) (first end count : ℕ) → least first (end + 1 - (first + count)) (λ start. is_vacant m start count) ≡ None → 0 < count → HaveNoGap m first (end - (count - 1)) count
none_found m first end count e some s a b = no_least (λ start. is_vacant m start count) first (end + 1 - (first + count)) e s a (omega (arith, b, a, some))

pub none_before : (m : Marks) (first end count start : ℕ) → least first (end + 1 - (first + count)) (λ start. is_vacant m start count) ≡ Some start → HaveNoGap m first start count
none_before m first end count start e s a b = none_below_least (λ start. is_vacant m start count) first (end + 1 - (first + count)) start s e a b

-- what is kept after changes, made or not
pub kept_after : {A E : Type 0} (old new after : Marks) (crowd : Crowd) (result : Result A E) → OnOk result (new ≡ after) → OnErr result (new ≡ old) → AreCrowded after crowd → AreCrowded old crowd → AreCrowded new crowd
kept_after old new after crowd (Ok x) ok err made not = subst (λ m. AreCrowded m crowd) (sym ok) made
kept_after old new after crowd (Err x) ok err made not = subst (λ m. AreCrowded m crowd) (sym err) not
