-- What the rows of a range's cover tell.
--     knows_root      whether the space is there
--     range_asked      what stands at each page of the range
--     range_none      no page range, an absent space, or neither
use Rattle.std.specs.Prelude.{◌≡◌, ℕ, ◌+◌, ◌*◌, ◌/◌, ◌%◌, ◌-◌, ◌^◌, ◌<◌, ◌≤◌, ◌&&◌, Bool, true, false, List, nat_eq, nat_lt, Option, Some, None}
use Rattle.std.specs.Option.{option_or}
use Rattle.std.proofs.Common.{sym, refl, ◌∙◌, ap, subst, arith, inl}
use Rattle.std.proofs.lemmas.Bool.{and_from, and_parts, le-leb, lt-ltb, ltb-true}
use Rattle.corten_base.specs.declared.calls.Reply.{Reply}
use Rattle.corten_base.specs.declared.calls.Reply.TheVariants as reply
use Rattle.page_map.specs.State.{State, levels, is_present}
use Rattle.page_map.specs.Step.{refused_unless}
use Rattle.page_map.proofs.Range.{inside as inside_range}
use Rattle.table_place.specs.declared.Place.{Place}
use Rattle.table_place.specs.Place.{root, directory, is_page_range, is_user_range, is_user_page, pages_of}
use Rattle.table_place.proofs.Entries.{page_from}
use Rattle.table_place.proofs.Spans.{user_first, user_end, user_below}
use Rattle.tree_lock.specs.declared.zone.Zone.{Zone}
use Rattle.tree_lock.specs.declared.zone.Zone.TheVariants as zone
use Rattle.machine_plan.specs.HeldRows.{Row, AreAsked}
use Rattle.machine_plan.proofs.Near.{stands_in}
use Rattle.machine_plan.proofs.Telling.{cover_is_asked}
use Rattle.machine_plan.proofs.Towers.{root_is}
use Rattle.range_cursor.specs.PageRanges.{SeesRange, range_refusal}
use Rattle.range_cursor.specs.Reach.{KnowsRoot}
use Rattle.range_cursor.proofs.Present.{root_there}

pub range_is_user : (depth at len : ℕ) → is_page_range depth at len ≡ true → is_user_range depth (at / 4096) (pages_of len) ≡ true
range_is_user depth at len h = (and_parts (nat_eq (at % 4096) 0 && nat_lt 0 len) (is_user_range depth (at / 4096) (pages_of len)) h).1

pub range_some : (depth at len : ℕ) → is_page_range depth at len ≡ true → 1 ≤ pages_of len
range_some depth at len h = some_page len (ltb-true 0 len (and_parts (nat_eq (at % 4096) 0) (nat_lt 0 len) (and_parts (nat_eq (at % 4096) 0 && nat_lt 0 len) (is_user_range depth (at / 4096) (pages_of len)) h).0).1)
  where
    some_page : (len : ℕ) → 0 < len → 1 ≤ (len + 4095) / 4096
    some_page len h = omega (arith, h)

pub page_is_user : (depth first count page : ℕ) → is_user_range depth first count ≡ true → first ≤ page → page < first + count → is_user_page depth page ≡ true
page_is_user depth first count page h low high =
    and_from _ _ (le-leb 16 page (omega (arith, user_first depth first count h, low))) (lt-ltb (page + 1) (2 ^ (9 * depth - 1)) (omega (arith, user_end depth first count h, high)))

module _ (st : State) (depth space at len : ℕ) (strict : Bool) (rows : List Row) (sees : SeesRange st depth space at len strict rows) (right : is_page_range depth at len ≡ true) where
  abbrev zone_at : Zone
  zone_at = zone.Pages space (at / 4096) (pages_of len) strict

  user : is_user_range (levels st) (at / 4096) (pages_of len) ≡ true
  user = subst (λ l. is_user_range l (at / 4096) (pages_of len) ≡ true) (sym sees.same_levels) (range_is_user depth at len right)

  pub knows_root : space < 64 → KnowsRoot st space rows
  knows_root small = record {
    consistent = sees.consistent;
    shown = sees.shown;
    top = λ lone.
        sees.cover right directory (stands_in st sees.consistent zone_at directory space space (at / 4096) (inl refl) (omega (arith, small)) lone
        (page_from (root (levels st) space) space (at / 4096) (omega (arith, sees.consistent.few_levels)) refl root_prefix) (refl, omega arith, omega (arith, range_some depth at len right)));
  }
    where
      root_prefix : at / 4096 / 512 ^ levels st ≡ 0
      root_prefix = ap (λ (p : Place). p.prefix) (root_is (levels st) space (at / 4096) (omega (arith, user_below (levels st) (at / 4096) (pages_of len) user)))

  pub range_asked : is_present st space ≡ true → AreAsked space rows (at / 4096) (pages_of len)
  range_asked there page h =
      let bounds = inside_range (at / 4096) (pages_of len) page h in
      cover_is_asked zone_at st rows space page sees.consistent sees.shown sees.one_space (sees.cover right) (root_there st space sees.consistent ∙ there) (page_is_user (levels st) (at / 4096) (pages_of len) page user bounds.0 bounds.1) (refl, bounds.0, bounds.1)

pub range_wrong : (st : State) (depth space at len : ℕ) → is_page_range depth at len ≡ false → range_refusal st depth space at len ≡ Some reply.Einval
range_wrong st depth space at len e = ap (λ b. option_or (refused_unless b reply.Einval) (refused_unless (is_present st space) reply.NoSpace)) e

pub range_absent : (st : State) (depth space at len : ℕ) → is_page_range depth at len ≡ true → is_present st space ≡ false → range_refusal st depth space at len ≡ Some reply.NoSpace
range_absent st depth space at len e p = λ i. option_or (refused_unless (e i) reply.Einval) (refused_unless (p i) reply.NoSpace)

pub range_right : (st : State) (depth space at len : ℕ) → is_page_range depth at len ≡ true → is_present st space ≡ true → range_refusal st depth space at len ≡ None
range_right st depth space at len e p = λ i. option_or (refused_unless (e i) reply.Einval) (refused_unless (p i) reply.NoSpace)

-- where neither refuses, both are right
pub range_both : (st : State) (depth space at len : ℕ) → range_refusal st depth space at len ≡ None → (is_page_range depth at len ≡ true) × (is_present st space ≡ true)
range_both st depth space at len e = go (is_page_range depth at len) refl (is_present st space) refl e
  where
    go : (a : Bool) → is_page_range depth at len ≡ a → (b : Bool) → is_present st space ≡ b → range_refusal st depth space at len ≡ None → (is_page_range depth at len ≡ true) × (is_present st space ≡ true)
    go true f true g h = (f, g)
    go false f b g h = absurd (some_none (sym (range_wrong st depth space at len f) ∙ h))
      where
        some_none : ◌≡◌ {A = Option Reply} (Some reply.Einval) None → ⊥
        some_none x = cc x
    go true f false g h = absurd (some_none (sym (range_absent st depth space at len f g) ∙ h))
      where
        some_none : ◌≡◌ {A = Option Reply} (Some reply.NoSpace) None → ⊥
        some_none x = cc x

-- a range, a space, and what else refuses a call
pub first_three : (a b p : Option Reply) → option_or a (option_or b (option_or None (option_or None (option_or p None)))) ≡ option_or (option_or a b) p
first_three (Some x) b p = refl
first_three None (Some x) p = refl
first_three None None None = refl
first_three None None (Some x) = refl

pub first_two_and : (a b p : Option Reply) → option_or a (option_or b (option_or None (option_or p (option_or None None)))) ≡ option_or (option_or a b) p
first_two_and (Some x) b p = refl
first_two_and None (Some x) p = refl
first_two_and None None None = refl
first_two_and None None (Some x) = refl
