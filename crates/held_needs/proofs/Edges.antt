-- What a mapping operation lacks, from the two ends of its range.
use Rattle.std.proofs.Common.{◌≡◌, ℕ, ◌+◌, ◌-◌, ◌/◌, ◌<◌, ◌≤◌, Bool, true, false, cond, not, List, [], append-nil, refl, sym, ap, ◌∙◌, ◌⊎◌, inl, inr, arith}
use mathlib.Core.Bool.{true≢false}
use Rattle.std.specs.Prelude.{◌&&◌, ◌||◌, nat_le, Option, Some, None}
use Rattle.std.specs.Option.{option_map}
use Rattle.std.specs.List.{filter}
use Rattle.std.specs.FinMap as fin
use Rattle.std.specs.FinSet as set
use Rattle.std.specs.FinSet.{same_set, contains-union, contains-difference, contains-from_list}
use Rattle.std.proofs.lemmas.Bool.{and_parts, and_from, le-leb, not-true, false_from_ne_true, cases_lt}
use Rattle.corten_base.specs.declared.calls.TxnOp.{TxnOp}
use Rattle.corten_base.specs.declared.calls.TxnOp.TheVariants as op
use Rattle.corten_base.specs.declared.calls.Backing.TheVariants as backing
use Rattle.table_place.specs.declared.Place.{Place}
use Rattle.table_place.specs.Range.{within}
use Rattle.table_place.specs.Place.{place_of, cut_by, pages_of, span_first, span_count}
use Rattle.table_place.proofs.Spans.{quotient_low, quotient_high}
use Rattle.table_place.proofs.Tables.{in_range, to_range}
use Rattle.page_map.specs.declared.cell.Cell.{Cell}
use Rattle.page_map.specs.declared.cell.Cell.TheVariants.{Anon, File, Mapped, Swapped}
use Rattle.page_map.specs.Cell.{AddressSpace, backed, status_of, with_perm}
use Rattle.page_map.specs.Alike.{is_alike, is_unlike, unlike_tables}
use Rattle.page_map.specs.Mapping.{op_first, op_pages, after_op}
use Rattle.page_map.specs.State.{State, IsConsistent, levels, space_at}
use Rattle.page_map.specs.Tables.{Tables, missing, need}
use Rattle.page_map.proofs.Range.{get-change}
use Rattle.page_map.proofs.Places.{place_total, place_exact}
use Rattle.page_map.proofs.Wanted.{is_wanted}
use Rattle.page_map.proofs.Unlike.{wanted_filter}
use Rattle.page_map.proofs.Alike.{part_alike, same_alike}
use Rattle.page_map.proofs.NeedOf.{cut_parts, all_or_none, missing_alike, same_lack, missing_is}
use Rattle.page_map.proofs.Mappings.{inside_alike, leaves_out, op_unlike}
use Rattle.held_needs.specs.Cutting.{IsEnd, cuts_at, last_of, Adds}
use Rattle.held_needs.specs.Operation.{made_of, HasPerm, IsKept, range_of, OpEnd}
use Rattle.held_needs.proofs.Counted.{need_none, cut_at}

-- ---- what an operation leaves

perm_from : (perm : _) (c : Cell) → HasPerm perm (status_of (Some c)) → Some (with_perm perm c) ≡ Some c
perm_from perm (Anon now) h = ap (λ p. Some (Anon p)) (sym h)
perm_from perm (File now file index) h = ap (λ p. Some (File p file index)) (sym h)
perm_from perm (Mapped now origin frame bytes) h = ap (λ p. Some (Mapped p origin frame bytes)) (sym h)
perm_from perm (Swapped now origin slot bytes) h = ap (λ p. Some (Swapped p origin slot bytes)) (sym h)

perm_to : (perm : _) (c : Cell) → Some (with_perm perm c) ≡ Some c → HasPerm perm (status_of (Some c))
perm_to perm (Anon now) h = cc
perm_to perm (File now file index) h = cc
perm_to perm (Mapped now origin frame bytes) h = cc
perm_to perm (Swapped now origin slot bytes) h = cc

pub kept_is : (o : TxnOp) (place : ℕ) (cell : Option Cell) → IsKept o place (status_of cell) → made_of o place cell ≡ cell
kept_is (op.Unmap at len) place None h = refl
kept_is (op.Unmap at len) place (Some (Anon perm)) h = cc
kept_is (op.Unmap at len) place (Some (File perm file index)) h = cc
kept_is (op.Unmap at len) place (Some (Mapped perm origin frame bytes)) h = cc
kept_is (op.Unmap at len) place (Some (Swapped perm origin slot bytes)) h = cc
kept_is (op.Protect at len perm) place None h = refl
kept_is (op.Protect at len perm) place (Some c) h = perm_from perm c h
kept_is (op.Map at fresh len perm backing.Zero) place None h = cc
kept_is (op.Map at fresh len perm backing.Zero) place (Some (Anon now)) h = cc
kept_is (op.Map at fresh len perm backing.Zero) place (Some (File now file index)) h = cc
kept_is (op.Map at fresh len perm backing.Zero) place (Some (Mapped now origin frame bytes)) h = cc
kept_is (op.Map at fresh len perm backing.Zero) place (Some (Swapped now origin slot bytes)) h = cc
kept_is (op.Map at fresh len perm (backing.File from first)) place None h = cc
kept_is (op.Map at fresh len perm (backing.File from first)) place (Some (Anon now)) h = cc
kept_is (op.Map at fresh len perm (backing.File from first)) place (Some (File now file index)) h = cc
kept_is (op.Map at fresh len perm (backing.File from first)) place (Some (Mapped now origin frame bytes)) h = cc
kept_is (op.Map at fresh len perm (backing.File from first)) place (Some (Swapped now origin slot bytes)) h = cc

pub is_kept : (o : TxnOp) (place : ℕ) (cell : Option Cell) → made_of o place cell ≡ cell → IsKept o place (status_of cell)
is_kept (op.Unmap at len) place cell h = ap status_of (sym h)
is_kept (op.Protect at len perm) place None h = tt
is_kept (op.Protect at len perm) place (Some c) h = perm_to perm c h
is_kept (op.Map at fresh len perm what) place cell h = ap status_of (sym h)

-- the cell after it at a page of its range
made_at : (o : TxnOp) (cells : AddressSpace) (q : ℕ) → within (op_first o) (op_pages o) q ≡ true → fin.get (after_op o cells) q ≡ made_of o (q - op_first o) (fin.get cells q)
unfolding after_op
made_at (op.Map at fresh len perm what) cells q w =
    get-change cells (at / 4096) (pages_of len) (λ page _. Some (backed what perm (page - at / 4096))) q ∙ ap (λ b. cond b (Some (backed what perm (q - at / 4096))) (fin.get cells q)) w
made_at (op.Unmap at len) cells q w =
    get-change cells (at / 4096) (pages_of len) (λ page _. None) q ∙ ap (λ b. cond b None (fin.get cells q)) w
made_at (op.Protect at len perm) cells q w =
    get-change cells (at / 4096) (pages_of len) (λ page. option_map (with_perm perm)) q ∙ ap (λ b. cond b (option_map (with_perm perm) (fin.get cells q)) (fin.get cells q)) w

-- ---- tables that it lacks

module _ (st : State) (space : ℕ) (ok : IsConsistent st) (o : TxnOp) (some : 1 ≤ op_pages o) where
  abbrev L : ℕ
  L = levels st

  abbrev old : AddressSpace
  old = space_at st space

  abbrev new : AddressSpace
  new = after_op o old

  abbrev cut : List Place
  cut = cut_by L space (op_first o) (op_pages o)

  abbrev alike_after : Place → Bool
  alike_after p = is_alike new (span_first p) (span_count p)

  -- those that the range cuts and that are alike afterwards count as if they were there
  abbrev pub there : Tables
  there = set.union st.tables (set.from_list (filter alike_after cut))

  there_is : (p : Place) → set.contains there p ≡ (set.contains st.tables p || (is_wanted cut p && alike_after p))
  there_is p =
      contains-union place_total st.tables (set.from_list (filter alike_after cut)) p
      ∙ ap (λ b. set.contains st.tables p || b) (contains-from_list place_total (filter alike_after cut) p ∙ wanted_filter alike_after cut p)

  -- it lacks those of the others that its range cuts
  pub lacked : missing (unlike_tables L space new) st.tables ≡ missing cut there
  lacked =
      same_lack st space ok new (filter (is_unlike new) cut)
      (λ p is h. wanted_filter (is_unlike new) cut p ∙ and_from _ _ (cut_of p is.same_space is.low is.high (is.alike) h) h)
      (λ p gone h.
      let both = and_parts (is_wanted cut p) (is_unlike new p) (sym (wanted_filter (is_unlike new) cut p) ∙ h) in
      let at = cut_parts L space (op_first o) (op_pages o) p ok.few_levels some both.0 in
      (missing_is st space ok new (filter (is_unlike new) cut) p at.same_space at.low at.high gone, both.1))
      ∙ same_set place_total place_exact _ _ (λ q.
      contains-difference place_total (set.from_list (filter (is_unlike new) cut)) st.tables q
      ∙ ap (λ b. b && not (set.contains st.tables q)) (contains-from_list place_total (filter (is_unlike new) cut) q ∙ wanted_filter (is_unlike new) cut q)
      ∙ turn (is_wanted cut q) (alike_after q) (set.contains st.tables q)
      ∙ sym (contains-difference place_total (set.from_list cut) there q ∙ (λ i. contains-from_list place_total cut q i && not (there_is q i))))
    where
      turn : (w a c : Bool) → ((w && not a) && not c) ≡ (w && not (c || (w && a)))
      turn true true true = refl
      turn true true false = refl
      turn true false true = refl
      turn true false false = refl
      turn false a c = refl

      cut_of : (p : Place) → p.space ≡ space → 1 ≤ p.level → p.level < L → is_alike old (span_first p) (span_count p) ≡ true → is_unlike new p ≡ true → is_wanted cut p ≡ true
      cut_of p here low high was h = elim (op_unlike st space o old p ok.few_levels some here low high h) [
        | inl unlike ↦ absurd (true≢false (sym was ∙ not-true _ unlike))
        | inr wanted ↦ wanted
      ]

  -- ---- above one page of the range

  module _ (page : ℕ) (inside : within (op_first o) (op_pages o) page ≡ true) (level : ℕ) (low : 1 ≤ level) (high : level < L)
      (gone : set.contains st.tables (place_of space level page) ≡ false) where
    abbrev p : Place
    p = place_of space level page

    was : is_alike old (span_first p) (span_count p) ≡ true
    was = missing_alike st space ok p refl low high gone

    here : (span_first p ≤ page) × (page < span_first p + span_count p)
    here = (quotient_low page level, quotient_high page level)

    range : (op_first o ≤ page) × (page < op_first o + op_pages o)
    range = in_range (op_first o) (op_pages o) page inside

    -- where the page stays, all pages of the table stay
    stays : fin.get new page ≡ fin.get old page → alike_after p ≡ true
    stays same = same_alike old new (span_first p) (span_count p) each was
      where
        between : (a b : ℕ) → a ≤ b → op_first o ≤ a → b < op_first o + op_pages o → span_first p ≤ a → b < span_first p + span_count p → (is_alike old a (b + 1 - a) ≡ true) × (is_alike new a (b + 1 - a) ≡ true)
        between a b h l r m n =
            let part = part_alike old (span_first p) (span_count p) a (b + 1 - a) (λ x c d. (omega (arith, m, c), omega (arith, n, d, h))) was in
            (part, inside_alike o old a (b + 1 - a) (and_from _ _ (le-leb (op_first o) a l) (le-leb (a + (b + 1 - a)) (op_first o + op_pages o) (omega (arith, r, h)))) part)

        each_in : (q : ℕ) → within (op_first o) (op_pages o) q ≡ true → span_first p ≤ q → q < span_first p + span_count p → fin.get new q ≡ fin.get old q
        each_in q w a b = elim (cases_lt q page) [
          | inl less ↦ (let at = in_range (op_first o) (op_pages o) q w in
              let part = between q page (omega (arith, less)) at.0 range.1 a here.1 in
              all_or_none old new q (page + 1 - q) part.0 part.1 page q (omega (arith, less)) (omega (arith, less)) (omega arith) (omega (arith, less)) same)
          | inr more ↦ (let at = in_range (op_first o) (op_pages o) q w in
              let part = between page q more range.0 at.1 here.0 b in
              all_or_none old new page (q + 1 - page) part.0 part.1 page q (omega arith) (omega (arith, more)) more (omega (arith, more)) same)
        ]

        each : (q : ℕ) → span_first p ≤ q → q < span_first p + span_count p → fin.get new q ≡ fin.get old q
        each q a b = go (within (op_first o) (op_pages o) q) refl
          where
            go : (x : Bool) → within (op_first o) (op_pages o) q ≡ x → fin.get new q ≡ fin.get old q
            go true w = each_in q w a b
            go false w = leaves_out o old q w

    -- and where they stay and the range cuts the table, the page stays
    stayed : is_wanted cut p ≡ true → alike_after p ≡ true → fin.get new page ≡ fin.get old page
    stayed h is = by_side (cut_parts L space (op_first o) (op_pages o) p ok.few_levels some h).outside
      where
        out : (q : ℕ) → (q < op_first o) ⊎ (op_first o + op_pages o ≤ q) → within (op_first o) (op_pages o) q ≡ false
        out q side = false_from_ne_true _ (λ w. let at = in_range (op_first o) (op_pages o) q w in clash side at.0 at.1)
          where
            clash : (q < op_first o) ⊎ (op_first o + op_pages o ≤ q) → op_first o ≤ q → q < op_first o + op_pages o → ⊥
            clash (inl l) a b = omega (arith, l, a)
            clash (inr r) a b = omega (arith, r, b)

        by_side : (span_first p < op_first o) ⊎ (op_first o + op_pages o < span_first p + span_count p) → fin.get new page ≡ fin.get old page
        by_side (inl left) = all_or_none old new (span_first p) (span_count p) was is (span_first p) page (omega arith) (omega (arith, here.0, here.1)) here.0 here.1 (leaves_out o old (span_first p) (out (span_first p) (inl left)))
        by_side (inr right) = all_or_none old new (span_first p) (span_count p) was is (op_first o + op_pages o) page (omega (arith, here.0, range.1)) right here.0 here.1
            (leaves_out o old (op_first o + op_pages o) (out (op_first o + op_pages o) (inr (omega arith))))

  -- what is told of an end
  module _ (page n : ℕ) (inside : within (op_first o) (op_pages o) page ≡ true) where
    pub end_is : OpEnd L st space o page n → IsEnd L space (range_of o) page there n
    end_is told = record { each = λ level low high cuts. each level low high cuts (set.contains st.tables (place_of space level page)) refl told }
      where
        made : fin.get new page ≡ made_of o (page - op_first o) (fin.get old page)
        made = made_at o old page inside

        each : (level : ℕ) → 1 ≤ level → level < L → cuts_at (range_of o) level page ≡ true → (b : Bool) → set.contains st.tables (place_of space level page) ≡ b → OpEnd L st space o page n →
            set.contains there (place_of space level page) ≡ nat_le n level
        each level low high cuts true e (inl kept) =
            there_is (place_of space level page) ∙ ap (λ b. b || (is_wanted cut (place_of space level page) && alike_after (place_of space level page))) e
            ∙ sym (le-leb n level (omega (arith, kept.1, low)))
        each level low high cuts true e (inr changed) =
            there_is (place_of space level page) ∙ ap (λ b. b || (is_wanted cut (place_of space level page) && alike_after (place_of space level page))) e
            ∙ sym e ∙ changed.1.each level low high
        each level low high cuts false e (inl kept) =
            there_is (place_of space level page)
            ∙ (λ i. e i || ((cut_at L space level page low high (range_of o) ∙ cuts) i && stays page inside level low high e (made ∙ kept.0) i))
            ∙ sym (le-leb n level (omega (arith, kept.1, low)))
        each level low high cuts false e (inr changed) =
            there_is (place_of space level page)
            ∙ (λ i. e i || ((cut_at L space level page low high (range_of o) ∙ cuts) i && unlike i))
            ∙ sym e ∙ changed.1.each level low high
          where
            unlike : alike_after (place_of space level page) ≡ false
            unlike = false_from_ne_true _ (λ h. changed.0 (sym made ∙ stayed page inside level low high e (cut_at L space level page low high (range_of o) ∙ cuts) h))

-- So many page tables it lacks.
pub lacks_so : (st : State) (space : ℕ) (ok : IsConsistent st) (o : TxnOp) (some : 1 ≤ op_pages o) (near far n : ℕ) → OpEnd (levels st) st space o (op_first o) near → OpEnd (levels st) st space o (last_of (range_of o)) far →
    Adds (levels st) [] (range_of o) near far n → need (unlike_tables (levels st) space (after_op o (space_at st space))) st.tables ≡ n
lacks_so st space ok o some near far n lo hi adds =
    ap set.len (lacked st space ok o some)
    ∙ ap (λ xs. need xs (there st space ok o some)) (sym (append-nil (cut_by (levels st) space (op_first o) (op_pages o))))
    ∙ adds space (there st space ok o some)
    (end_is st space ok o some (op_first o) near (to_range (op_first o) (op_pages o) (op_first o) (omega arith) (omega (arith, some))) lo)
    (end_is st space ok o some (last_of (range_of o)) far (to_range (op_first o) (op_pages o) (last_of (range_of o)) (omega (arith, some)) (omega (arith, some))) hi)
    ∙ ap (λ m. m + n) (need_none (there st space ok o some)) ∙ plain n
  where
    plain : (n : ℕ) → 0 + n ≡ n
    plain n = omega arith
