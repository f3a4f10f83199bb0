-- Pages that no operation unmaps.
use Rattle.std.proofs.Common.{◌≡◌, ℕ, ◌+◌, ◌-◌, ◌<◌, ◌≤◌, Bool, true, false, cond, List, [], ◌∷◌, length, take, get_or, refl, sym, ap, ◌∙◌, arith}
use mathlib.Core.Bool.{true≢false}
use Rattle.std.specs.Prelude.{Option, Some, None, IsSome, is_some, min, nat_le, ◌||◌}
use Rattle.std.specs.Option.{option_or, unwrap_or}
use Rattle.std.specs.FinMap.{get}
use Rattle.std.proofs.lemmas.Bool.{leb-true}
use Rattle.std.proofs.lemmas.List.{take_more}
use Rattle.std.proofs.lemmas.List.Folds.{list_any-append}
use Rattle.corten_base.specs.declared.calls.TxnOp.{TxnOp}
use Rattle.corten_base.specs.declared.calls.TxnOp.TheVariants as op
use Rattle.table_place.specs.Range.{within}
use Rattle.page_map.specs.Mapping.{op_first, op_pages, arena_first, after_ops}
use Rattle.page_map.specs.State.{AddressSpace}
use Rattle.page_map.proofs.Range.{inside}
use Rattle.plain_counts.specs.Fronts.{full_pages, full_before}
use Rattle.txn_plan.specs.Covers.{covered_by, covered}
use Rattle.txn_plan.specs.Forgetting.{unmaps, is_unmapped, Forgets}
use Rattle.txn_plan.proofs.Covering.{presence}

-- ---- what is forgotten

pub nothing_forgotten : (ops : List TxnOp) (space : ℕ) (fronts : List ℕ) → ((page : ℕ) → is_unmapped ops page ≡ false) → Forgets ops space fronts fronts
nothing_forgotten ops space fronts none = record { fewer = λ t few. omega arith; apart = λ t page few low high. none page; others = λ s t other few. refl }

pub one_forgotten : (o : TxnOp) (at len : ℕ) (space first count : ℕ) (old new : List ℕ) → o ≡ op.Unmap at len → first ≡ op_first o → count ≡ op_pages o →
    ((t : ℕ) → t < 8 → full_pages new space t ≡ full_before (arena_first t) (full_pages old space t) first count) → ((s t : ℕ) → (s ≡ space → ⊥) → t < 8 → full_pages new s t ≡ full_pages old s t) →
    Forgets (o ∷ []) space old new
one_forgotten o at len space first count old new o_is first_is count_is here others = record {
  fewer = λ t few. below (arena_first t) (full_pages old space t) (full_pages new space t) (nat_le (first + count) (arena_first t)) (here t few);
  apart = λ t page few low high. ap (λ b. b || false) (ap (unmaps page) o_is ∙ (λ i. within ((ap op_first (sym o_is) ∙ sym first_is) i) ((ap op_pages (sym o_is) ∙ sym count_is) i) page)
      ∙ out (arena_first t) (full_pages old space t) (full_pages new space t) page (nat_le (first + count) (arena_first t)) refl (here t few) low high (within first count page) refl);
  others = others;
}
  where
    below : (arena known left : ℕ) (b : Bool) → left ≡ cond b known (min known (first - arena)) → left ≤ known
    below arena known left true e = omega (arith, e)
    below arena known left false e = omega (arith, e)

    out : (arena known left page : ℕ) (b : Bool) → nat_le (first + count) arena ≡ b → left ≡ cond b known (min known (first - arena)) → arena ≤ page → page < arena + left → (w : Bool) → within first count page ≡ w → w ≡ false
    out arena known left page b e is low high false w = refl
    out arena known left page true e is low high true w = absurd (omega (arith, leb-true (first + count) arena e, low, (inside first count page w).1))
    out arena known left page false e is low high true w = absurd (omega (arith, is, low, high, (inside first count page w).0))

pub forgotten_more : (ops : List TxnOp) (i : ℕ) (d : TxnOp) (space : ℕ) (old now new : List ℕ) → i < length ops → Forgets (take i ops) space old now → Forgets (get_or ops i d ∷ []) space now new → Forgets (take (i + 1) ops) space old new
forgotten_more ops i d space old now new h so_far one = record {
  fewer = λ t few. omega (arith, so_far.fewer t few, one.fewer t few);
  apart = λ t page few low high.
      ap (λ os. is_unmapped os page) (take_more ops i d h) ∙ list_any-append (unmaps page) (take i ops) (get_or ops i d ∷ [])
      ∙ (λ j. so_far.apart t page few low (omega (arith, high, one.fewer t few)) j || one.apart t page few low high j);
  others = λ s t other few. one.others s t other few ∙ so_far.others s t other few;
}

-- ---- what stays

settles : (o : TxnOp) (page : ℕ) → unmaps page o ≡ false → covered_by o page ≡ Some false → ⊥
settles (op.Map at fresh len perm what) page e f = go (within (op_first (op.Map at fresh len perm what)) (op_pages (op.Map at fresh len perm what)) page) f
  where
    go : (b : Bool) → ◌≡◌ {A = Option Bool} (cond b (Some true) None) (Some false) → ⊥
    go true f = cc
    go false f = cc
settles (op.Unmap at len) page e f = no (sym (ap (λ b. cond b (Some false) None) e) ∙ f)
  where
    no : ◌≡◌ {A = Option Bool} None (Some false) → ⊥
    no f = cc
settles (op.Protect at len perm) page e f = go (within (op_first (op.Protect at len perm)) (op_pages (op.Protect at len perm)) page) f
  where
    go : (b : Bool) → ◌≡◌ {A = Option Bool} (cond b None None) (Some false) → ⊥
    go true f = cc
    go false f = cc

not_settled : (ops : List TxnOp) (page : ℕ) → is_unmapped ops page ≡ false → covered ops page ≡ Some false → ⊥
not_settled [] page e f = cc
not_settled (o ∷ os) page e f = go (λ h is. not_settled os page h is) (covered os page) refl f
  where
    first : (a b : Bool) → (a || b) ≡ false → a ≡ false
    first true b h = absurd (true≢false h)
    first false b h = refl

    rest : (a b : Bool) → (a || b) ≡ false → b ≡ false
    rest true b h = absurd (true≢false h)
    rest false b h = h

    go : (is_unmapped os page ≡ false → covered os page ≡ Some false → ⊥) → (c : Option Bool) → covered os page ≡ c → option_or c (covered_by o page) ≡ Some false → ⊥
    go later None is f = settles o page (first (unmaps page o) (is_unmapped os page) e) f
    go later (Some b) is f = later (rest (unmaps page o) (is_unmapped os page) e) (is ∙ f)

-- a page that had a cell has one after operations that don't unmap it
pub stays : (ops : List TxnOp) (cells : AddressSpace) (page : ℕ) → is_unmapped ops page ≡ false → IsSome (get cells page) → IsSome (get (after_ops ops cells) page)
stays ops cells page e there = some (presence ops cells page) (covered ops page) refl
  where
    some : is_some (get (after_ops ops cells) page) ≡ unwrap_or (covered ops page) (is_some (get cells page)) → (c : Option Bool) → covered ops page ≡ c → is_some (get (after_ops ops cells) page) ≡ true
    some is None f = is ∙ ap (λ c. unwrap_or c (is_some (get cells page))) f ∙ there
    some is (Some true) f = is ∙ ap (λ c. unwrap_or c (is_some (get cells page))) f
    some is (Some false) f = absurd (not_settled ops page e f)
