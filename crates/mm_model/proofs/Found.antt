-- The pages from the first that a mapping operation changes to the last.
use Rattle.std.proofs.Common.{◌≡◌, ℕ, ◌+◌, ◌-◌, ◌<◌, ◌≤◌, true, false, cond, ◌⊎◌, inl, inr, sym, ap, subst, ◌∙◌, arith}
use mathlib.Core.Bool.{true≢false}
use Rattle.std.specs.Prelude.{Option, Some, None, IfSome}
use Rattle.std.specs.Option.{option_map}
use Rattle.std.specs.FinMap.{get}
use Rattle.std.proofs.lemmas.Bool.{and_from, le-leb, cases_lt}
use Rattle.corten_base.specs.declared.calls.TxnOp.{TxnOp}
use Rattle.corten_base.specs.declared.calls.TxnOp.TheVariants as op
use Rattle.table_place.specs.Range.{within, lies_in}
use Rattle.table_place.proofs.Tables.{in_range, to_range}
use Rattle.page_map.specs.Cell.{AddressSpace, backed, with_perm}
use Rattle.page_map.specs.Cutting.{Changes, IsPiece}
use Rattle.page_map.specs.Mapping.{after_op, op_first, op_pages}
use Rattle.page_map.proofs.Mappings.{inside_alike}
use Rattle.page_map.proofs.NeedOf.{all_or_none, op_changes}
use Rattle.page_map.proofs.Range.{get-change}
use Rattle.plain_counts.specs.Cut.{IsShort}
use Rattle.plain_counts.specs.declared.cut.Pages.{Pages}
use Rattle.mm_model.specs.Operations.{made_of, up_to}

-- what an operation leaves at a page of its range
pub after_at : (o : TxnOp) (cells : AddressSpace) (q : ℕ) → within (op_first o) (op_pages o) q ≡ true → get (after_op o cells) q ≡ made_of o (q - op_first o) (get cells q)
unfolding after_op
after_at (op.Map at fresh len perm what) cells q w =
    get-change cells (op_first (op.Map at fresh len perm what)) (op_pages (op.Map at fresh len perm what)) (λ page _. Some (backed what perm (page - op_first (op.Map at fresh len perm what)))) q
    ∙ ap (λ b. cond b (Some (backed what perm (q - op_first (op.Map at fresh len perm what)))) (get cells q)) w
after_at (op.Unmap at len) cells q w =
    get-change cells (op_first (op.Unmap at len)) (op_pages (op.Unmap at len)) (λ _ _. None) q ∙ ap (λ b. cond b None (get cells q)) w
after_at (op.Protect at len perm) cells q w =
    get-change cells (op_first (op.Protect at len perm)) (op_pages (op.Protect at len perm)) (λ _. option_map (with_perm perm)) q
    ∙ ap (λ b. cond b (option_map (with_perm perm) (get cells q)) (get cells q)) w

-- of the pages from one on and before another, these are those from the first that changes to the last
pub record AreFound (old new : AddressSpace) (first next : ℕ) (pages : Pages) : Type 0 where
  pub some : 0 < pages.count
  pub low : first ≤ pages.first
  pub high : pages.first + pages.count ≤ next
  pub before : (q : ℕ) → first ≤ q → q < pages.first → get new q ≡ get old q
  pub behind : (q : ℕ) → pages.first + pages.count ≤ q → q < next → get new q ≡ get old q
  pub starts : get new pages.first ≡ get old pages.first → ⊥
  pub stops : get new (pages.first + pages.count - 1) ≡ get old (pages.first + pages.count - 1) → ⊥

abbrev pub IsFoundIn : AddressSpace → AddressSpace → ℕ → ℕ → Option Pages → Type 0
IsFoundIn old new first next None = (q : ℕ) → first ≤ q → q < next → get new q ≡ get old q
IsFoundIn old new first next (Some pages) = AreFound old new first next pages

module _ (o : TxnOp) (cells : AddressSpace) where
  abbrev after : AddressSpace
  after = after_op o cells

  abbrev Same : ℕ → Type 0
  Same q = get after q ≡ get cells q

  -- all pages of a piece change, or none does
  module _ (next end count : ℕ) (low : op_first o ≤ next) (high : end ≤ op_first o + op_pages o) (piece : IsPiece (λ count. next) (λ (count : ℕ). count) cells next end count) where
    lies : lies_in next count (op_first o) (op_pages o) ≡ true
    lies = and_from _ _ (le-leb (op_first o) next low) (le-leb (next + count) (op_first o + op_pages o) (omega (arith, piece.fits, high)))

    as_one : (q r : ℕ) → next ≤ q → q < next + count → next ≤ r → r < next + count → Same q → Same r
    as_one q r a b d e same = elim piece.whole [
      | inl alike ↦ all_or_none cells after next count alike (inside_alike o cells next count lies alike) q r a b d e same
      | inr one ↦ subst Same (only q r (omega (arith, a, b, d, e, one)) (omega (arith, a, b, d, e, one))) same
    ]
      where
        only : (q r : ℕ) → q ≤ r → r ≤ q → q ≡ r
        only q r a b = omega (arith, a, b)

    first_in : next < next + count
    first_in = omega (arith, piece.some)

    pub none_changes : Same next → (q : ℕ) → next ≤ q → q < next + count → Same q
    none_changes same q a b = as_one next q (omega arith) first_in a b same

    pub all_change : (Same next → ⊥) → (q : ℕ) → next ≤ q → q < next + count → Same q → ⊥
    all_change changes q a b same = changes (as_one q next a b (omega arith) first_in same)

    -- a piece that stays
    pub stays_found : (first : ℕ) (found : Option Pages) → first ≤ next → IsFoundIn cells after first next found → Same next → IsFoundIn cells after first (next + count) found
    stays_found first None lower f same = λ q a b. by_place q a b (cases_lt q next)
      where
        by_place : (q : ℕ) → first ≤ q → q < next + count → (q < next) ⊎ (next ≤ q) → Same q
        by_place q a b (inl l) = f q a l
        by_place q a b (inr m) = none_changes same q m b
    stays_found first (Some pages) lower f same = record {
      some = f.some;
      low = f.low;
      high = omega (arith, f.high);
      before = f.before;
      behind = λ q a b. by_place q a b (cases_lt q next);
      starts = f.starts;
      stops = f.stops;
    }
      where
        by_place : (q : ℕ) → pages.first + pages.count ≤ q → q < next + count → (q < next) ⊎ (next ≤ q) → Same q
        by_place q a b (inl l) = f.behind q a l
        by_place q a b (inr m) = none_changes same q m b

    -- a piece that changes
    pub more_found : (first : ℕ) (found : Option Pages) → first ≤ next → IsFoundIn cells after first next found → (Same next → ⊥) → IsFoundIn cells after first (next + count) (Some (up_to found next (next + count)))
    more_found first None lower f changes = record {
      some = omega (arith, piece.some);
      low = lower;
      high = omega arith;
      before = f;
      behind = λ q a b. absurd (omega (arith, a, b));
      starts = all_change changes next (omega arith) first_in;
      stops = all_change changes (next + (next + count - next) - 1) (omega (arith, piece.some)) (omega (arith, piece.some));
    }
    more_found first (Some pages) lower f changes = record {
      some = omega (arith, f.some, f.high);
      low = f.low;
      high = omega (arith, f.some, f.high);
      before = f.before;
      behind = λ q a b. absurd (omega (arith, a, b, f.some, f.high));
      starts = f.starts;
      stops = all_change changes (pages.first + (next + count - pages.first) - 1) (omega (arith, piece.some, f.some, f.high)) (omega (arith, piece.some, f.some, f.high));
    }

  -- once all pages of the range were seen
  module _ (range : Pages) (first_is : range.first ≡ op_first o) (count_is : range.count ≡ op_pages o) (short : IsShort range) where
    pub found_changes : (found : Option Pages) → IsFoundIn cells after range.first (range.first + range.count) found → IfSome found (λ pages. Changes cells after pages.first pages.count)
    found_changes None f = tt
    found_changes (Some pages) f = op_changes o cells pages.first pages.count (omega (arith, f.some))
        (and_from _ _ (le-leb (op_first o) pages.first (omega (arith, f.low, first_is))) (le-leb (pages.first + pages.count) (op_first o + op_pages o) (omega (arith, f.high, first_is, count_is))))
        (λ q inside out. let at = in_range (op_first o) (op_pages o) q inside in by_place q out at.0 at.1 (cases_lt q pages.first) (cases_lt q (pages.first + pages.count)))
        f.starts f.stops
      where
        by_place : (q : ℕ) → within pages.first pages.count q ≡ false → op_first o ≤ q → q < op_first o + op_pages o → (q < pages.first) ⊎ (pages.first ≤ q) → (q < pages.first + pages.count) ⊎ (pages.first + pages.count ≤ q) → Same q
        by_place q out a b (inl l) other = f.before q (omega (arith, a, first_is)) l
        by_place q out a b (inr m) (inr k) = f.behind q k (omega (arith, b, first_is, count_is))
        by_place q out a b (inr m) (inl k) = absurd (true≢false (sym (to_range pages.first pages.count q m k) ∙ out))
