-- From the state between a call's commit and the changes of its pages to the state after it.
--     leads      the change of a range
use Rattle.std.specs.Prelude.{◌≡◌, ◌≢◌, ℕ, ◌+◌, ◌-◌, ◌*◌, ◌^◌, ◌<◌, ◌≤◌, ◌⊎◌, Bool, true, false, not, cond, Option, Some, None}
use Rattle.std.specs.Option.{option_map}
use Rattle.std.specs.FinMap.{get}
use Rattle.std.specs.FinSet as set
use Rattle.std.specs.FinSet.{FinSet}
use Rattle.std.proofs.Common.{sym, refl, ◌∙◌, ap, subst, arith, inl, inr}
use Rattle.std.proofs.lemmas.Bool.{true≢false, false≢true, cases_lt}
use Rattle.page_map.specs.declared.cell.Cell.{Cell as PageCell}
use Rattle.page_map.specs.declared.cell.Cell.TheVariants.{Anon, File, Mapped, Swapped}
use Rattle.page_map.specs.Alike.{is_alike}
use Rattle.page_map.specs.Cell.{backed, goes_on, backing_of, perm_of}
use Rattle.page_map.specs.State.{State, IsConsistent, levels, space_at, cell_at}
use Rattle.page_map.proofs.Alike.{has_no_number, alike_unnumbered, same_alike, backed_twice}
use Rattle.table_place.specs.declared.Place.{Place}
use Rattle.table_place.specs.Place.{root, place_of, has_page, is_place, span_first, span_count, place_cmp}
use Rattle.table_place.specs.Range.{within}
use Rattle.table_place.proofs.Entries.{page_in_span, span_has_page, first_page, level_of, page_parts}
use Rattle.table_place.proofs.Spans.{span_pos}
use Rattle.table_place.proofs.Tables.{in_range, to_range}
use Rattle.machine_plan.specs.Agrees.{IsNoTable}
use Rattle.machine_plan.specs.declared.kit.Change.{Change}
use Rattle.machine_plan.specs.Changes.{made_by}
use Rattle.machine_plan.specs.Given.{IsRemoved}
use Rattle.machine_plan.proofs.Towers.{closed_up, table_above, wider}
use Rattle.machine_plan.proofs.Covering.{further}
use Rattle.cursor_apply.specs.declared.becoming.Making.{Making}
use Rattle.cursor_apply.specs.declared.becoming.Making.TheVariants.{Back, Clear, Permit, GiveBack}
use Rattle.cursor_apply.specs.declared.becoming.RangeChange.{RangeChange}
use Rattle.cursor_apply.specs.Between.{IsBetween}
use Rattle.cursor_apply.specs.Changed.{range_change, LiesIn, IsChange}
use Rattle.cursor_apply.specs.Changing.{page_made, IsNearAll}
use Rattle.cursor_apply.proofs.Becomes.{is_change}
use Rattle.cursor_apply.proofs.Ranged.{made_at}

abbrev pub drawn : Option PageCell → Option PageCell
drawn o = option_map (λ c. goes_on c 0) o

cond_same : {X : Type 0} (t : Bool) (a a' b b' : X) → (t ≡ true → a ≡ a') → (t ≡ false → b ≡ b') → cond t a b ≡ cond t a' b'
cond_same true a a' b b' e f = e refl
cond_same false a a' b b' e f = f refl

-- a page without a number is what it came from
pub drawn_plain : (o : Option PageCell) → has_no_number o ≡ true → drawn o ≡ o
drawn_plain None plain = refl
drawn_plain (Some (Anon perm)) plain = refl
drawn_plain (Some (File perm file index)) plain = ap (λ n. Some (File perm file n)) (nothing index)
  where
    nothing : (n : ℕ) → n + 0 ≡ n
    nothing n = omega arith
drawn_plain (Some (Mapped perm origin frame bytes)) plain = absurd (false≢true plain)
drawn_plain (Some (Swapped perm origin slot bytes)) plain = absurd (false≢true plain)

-- a reference that was taken makes no difference where all numbers go
drawn_made : (making : Making) (behind : ℕ) (o : Option PageCell) → ((perm : _) → making ≡ Permit perm → ⊥) → page_made making behind (drawn o) ≡ page_made making behind o
drawn_made (Back perm b) behind o other = refl
drawn_made Clear behind o other = refl
drawn_made (Permit perm) behind o other = absurd (other perm refl)
drawn_made GiveBack behind None other = refl
drawn_made GiveBack behind (Some c) other = ap Some (backed_twice (backing_of c) (perm_of c) 0 0)

-- a span below one that lies in a range
lies_down : (q t : Place) (first count : ℕ) → q.level < 6 → t.level < 6 → ((page : ℕ) → has_page q q.space page ≡ true → has_page t q.space page ≡ true) → LiesIn t first count → LiesIn q first count
lies_down q t first count low high covers lies =
    let some : 0 < span_count q = span_pos q.level in
    let end : ℕ = span_first q + span_count q - 1 in
    let a = in_range (span_first t) (span_count t) (span_first q) (page_in_span t q.space (span_first q) high (covers (span_first q) (first_page q low))) in
    let at_end = span_has_page q q.space end low refl (to_range (span_first q) (span_count q) end (omega (arith, some)) (omega (arith, some))) in
    let b = in_range (span_first t) (span_count t) end (page_in_span t q.space end high (covers end at_end)) in
    (let l = lies.0 in let x = a.0 in omega arith, let l = lies.1 in let x = b.1 in omega arith)

module _ (c : Change) (r : RangeChange) (is : range_change c ≡ Some r) (space : ℕ) (taken : ℕ → Bool) (old now st : State) (was : IsConsistent old) (new : IsConsistent now) (same : levels now ≡ levels old)
    (cells : (page : ℕ) → cell_at now space page ≡ get (made_by c (space_at old space)) page) (between : IsBetween old now st space taken)
    (removed : (p : Place) → IsRemoved old now p → (r.making ≡ Clear) × LiesIn p r.first r.count) (keeps : (perm : _) (page : ℕ) → r.making ≡ Permit perm → taken page ≡ false)
    (inside : (page : ℕ) → taken page ≡ true → within r.first r.count page ≡ true) where
  levels_st : levels st ≡ levels old
  levels_st = between.same_levels ∙ same

  few : levels st < 6
  few = let f = was.few_levels in let e = levels_st in omega arith

  -- outside of the range all is as before
  outside : (page : ℕ) → within r.first r.count page ≡ false → cell_at st space page ≡ cell_at old space page
  outside page out = between.pages page (λ p gone has. true≢false (sym (in_removed p gone has) ∙ out)) ∙ ap (λ t. cond t (drawn (cell_at old space page)) (cell_at old space page)) (go (taken page) refl)
    where
      go : (t : Bool) → taken page ≡ t → taken page ≡ false
      go false e = e
      go true e = absurd (true≢false (sym (inside page e) ∙ out))

      in_removed : (p : Place) → IsRemoved old now p → has_page p space page ≡ true → within r.first r.count page ≡ true
      in_removed p gone has =
          let depth = level_of (levels old) p (was.places p gone.0) in
          let at = in_range (span_first p) (span_count p) page (page_in_span p space page (omega (arith, depth.1, was.few_levels)) has) in
          let lies = (removed p gone).1 in
          to_range r.first r.count page (let a = at.0 in let l = lies.0 in omega arith) (let a = at.1 in let l = lies.1 in omega arith)

  -- what is made of the page is the same
  same_made : (page : ℕ) → page_made r.making (page - r.first) (cell_at st space page) ≡ page_made r.making (page - r.first) (cell_at old space page)
  same_made page = by r.making refl
    where
      none_gone : (m : Making) → r.making ≡ m → (m ≡ Clear → ⊥) → (p : Place) → IsRemoved old now p → has_page p space page ≡ true → ⊥
      none_gone m e ne p gone has = ne (sym e ∙ (removed p gone).0)

      seen : (m : Making) → r.making ≡ m → (m ≡ Clear → ⊥) → (t : Bool) → taken page ≡ t → cell_at st space page ≡ cond t (drawn (cell_at old space page)) (cell_at old space page)
      seen m e ne t f = between.pages page (none_gone m e ne) ∙ ap (λ b. cond b (drawn (cell_at old space page)) (cell_at old space page)) f

      moved : (m : Making) → r.making ≡ m → (m ≡ Clear → ⊥) → ((perm : _) → m ≡ Permit perm → ⊥) → (t : Bool) → taken page ≡ t → page_made m (page - r.first) (cell_at st space page) ≡ page_made m (page - r.first) (cell_at old space page)
      moved m e ne np true f = ap (page_made m (page - r.first)) (seen m e ne true f) ∙ drawn_made m (page - r.first) (cell_at old space page) np
      moved m e ne np false f = ap (page_made m (page - r.first)) (seen m e ne false f)

      by : (m : Making) → r.making ≡ m → page_made r.making (page - r.first) (cell_at st space page) ≡ page_made r.making (page - r.first) (cell_at old space page)
      by Clear e = ap (λ m. page_made m (page - r.first) (cell_at st space page)) e ∙ sym (ap (λ m. page_made m (page - r.first) (cell_at old space page)) e)
      by (Permit perm) e = ap (page_made r.making (page - r.first)) (seen (Permit perm) e (λ clash. absurd (cc)) false (keeps perm page e))
      by (Back perm b) e =
          subst (λ m. page_made m (page - r.first) (cell_at st space page) ≡ page_made m (page - r.first) (cell_at old space page)) (sym e) (moved (Back perm b) e (λ clash. absurd (cc)) (λ q clash. absurd (cc)) (taken page) refl)
      by GiveBack e =
          subst (λ m. page_made m (page - r.first) (cell_at st space page) ≡ page_made m (page - r.first) (cell_at old space page)) (sym e) (moved GiveBack e (λ clash. absurd (cc)) (λ q clash. absurd (cc)) (taken page) refl)

  cells_st : (page : ℕ) → cell_at now space page ≡ get (made_by c (space_at st space)) page
  cells_st page = cells page ∙ (made_at c r is (space_at old space) page ∙ (cond_same (within r.first r.count page) _ _ _ _ (λ e. sym (same_made page)) (λ e. sym (outside page e)) ∙ sym (made_at c r is (space_at st space) page)))

  module _ (q : Place) (of_space : q.space ≡ space) (high : 1 ≤ q.level) (low : q.level < levels st) (none : IsNoTable st q) (never : ¬ LiesIn q r.first r.count) where
    q_low : q.level < 6
    q_low = let f = few in omega (arith, low)

    none_now : IsNoTable now q
    none_now = ap (λ (t : FinSet place_cmp). set.contains t q) (sym between.same_tables) ∙ none

    -- the span was no table before
    none_was : set.contains old.tables q ≡ false
    none_was = go (set.contains old.tables q) refl
      where
        go : (t : Bool) → set.contains old.tables q ≡ t → t ≡ false
        go false e = refl
        go true e = absurd (never (removed q (e, none_now)).1)

    alike_of : (s : State) → IsConsistent s → levels s ≡ levels st → set.contains s.tables q ≡ false → is_alike (space_at s space) (span_first q) (span_count q) ≡ true
    alike_of s fine deep no_table = go (is_alike (space_at s space) (span_first q) (span_count q)) refl
      where
        go : (t : Bool) → is_alike (space_at s space) (span_first q) (span_count q) ≡ t → t ≡ true
        go true e = refl
        go false e =
            let unlike : not (is_alike (space_at s q.space) (span_first q) (span_count q)) ≡ true = subst (λ n. not (is_alike (space_at s n) (span_first q) (span_count q)) ≡ true) (sym of_space) (ap not e) in
            absurd (false≢true (sym no_table ∙ fine.unlike q high (subst (λ n. q.level < n) (sym deep) low) unlike))

    alike_now : is_alike (space_at now space) (span_first q) (span_count q) ≡ true
    alike_now = alike_of now new (sym between.same_levels) none_now

    alike_was : is_alike (space_at old space) (span_first q) (span_count q) ≡ true
    alike_was = alike_of old was (sym levels_st) none_was

    -- and lies below none that was removed
    none_above : (page : ℕ) → has_page q space page ≡ true → (p : Place) → IsRemoved old now p → has_page p space page ≡ true → ⊥
    none_above page has p gone at = elim (cases_lt p.level q.level) [
      | inl below_it ↦
          let n = further p.level q.level (omega (arith, below_it)) in
          let there = closed_up old was space p.level page n.0 (let d = (level_of (levels old) p (was.places p gone.0)).1 in let e = levels_st in let f = n.1 in omega (arith, low)) (subst (λ (x : Place). set.contains old.tables x ≡ true) same_p gone.0) in
          false≢true (sym none_was ∙ subst (λ (x : Place). set.contains old.tables x ≡ true) (ap (λ k. place_of space k page) n.1 ∙ sym same_q) there)
      | inr above_it ↦
          let n = further q.level p.level above_it in
          never (lies_down q p r.first r.count q_low p_low
          (λ x h. subst (λ (y : Place). has_page y q.space x ≡ true) (ap (λ k. place_of space k page) n.1 ∙ sym same_p)
          (wider space q.level page n.0 (subst (λ k. k < 6) (sym n.1) p_low) q.space x (subst (λ (y : Place). has_page y q.space x ≡ true) same_q h))) (removed p gone).1)
    ]
      where
        p_low : p.level < 6
        p_low = let d = (level_of (levels old) p (was.places p gone.0)).1 in let f = was.few_levels in omega arith

        same_p : p ≡ place_of space p.level page
        same_p = table_above p space page p_low at

        same_q : q ≡ place_of space q.level page
        same_q = table_above q space page q_low has

    -- so its pages are as before
    seen_page : (page : ℕ) → span_first q ≤ page → page < span_first q + span_count q → get (space_at st space) page ≡ get (space_at old space) page
    seen_page page ge lt =
        let has : has_page q space page ≡ true = span_has_page q space page q_low of_space (to_range (span_first q) (span_count q) page ge lt) in
        between.pages page (none_above page has) ∙ go (taken page) (alike_unnumbered (space_at old space) (span_first q) (span_count q) alike_was page ge lt)
      where
        go : (t : Bool) → has_no_number (cell_at old space page) ≡ true → cond t (drawn (cell_at old space page)) (cell_at old space page) ≡ cell_at old space page
        go true plain = drawn_plain (cell_at old space page) plain
        go false plain = refl

    alike_st : is_alike (space_at st space) (span_first q) (span_count q) ≡ true
    alike_st = same_alike (space_at old space) (space_at st space) (span_first q) (span_count q) seen_page alike_was

  pub leads : set.contains now.tables (root (levels now) space) ≡ true → r.first + r.count < 2 ^ 46 → IsNearAll r.making r.count → IsChange r space st now
  leads top end near = is_change c r is space st now cells_st (λ q of_space high low none never. alike_st q of_space high low none never) (λ q of_space high low none never. alike_now q of_space high low none never) few
      (sym between.same_levels) (sym between.same_tables) (λ s page ne. sym (between.others s page ne))
      (ap (λ (t : FinSet place_cmp). set.contains t (root (levels st) space)) between.same_tables ∙ ap (λ n. set.contains now.tables (root n space)) between.same_levels ∙ top)
      (λ p there. subst (λ n. is_place n p ≡ true) (sym between.same_levels) (new.places p (ap (λ (t : FinSet place_cmp). set.contains t p) (sym between.same_tables) ∙ there)))
      end near
