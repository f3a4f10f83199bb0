-- What the cell of a held row says of a page.
--     said      it is what stands at the page
--     answered      so does a list that has such a row, where its rows are of one space
use Rattle.std.specs.Prelude.{◌≡◌, ℕ, ◌+◌, ◌-◌, ◌*◌, ◌/◌, ◌%◌, ◌^◌, ◌<◌, ◌≤◌, true, false, List, length, slice_get, slice_index_or, Option, Some, None, MatchOption}
use Rattle.std.specs.List.{Contains}
use Rattle.std.proofs.Common.{sym, refl, ◌∙◌, ap, subst, arith}
use Rattle.std.proofs.Math.Nat.{mod-eq-sub-div-mul, mod-eq_of_lt}
use Rattle.std.proofs.lemmas.Bool.{false≢true, true≢false}
use Rattle.corten_base.specs.declared.numbers.Status.{Status}
use Rattle.corten_base.specs.declared.numbers.Status.TheVariants as status
use Rattle.table_place.proofs.Tables.{in_range}
use Rattle.page_map.specs.Cell.{status_of}
use Rattle.page_map.specs.State.{State, levels, cell_at}
use Rattle.row_cells.specs.declared.Cell.{Cell}
use Rattle.row_cells.specs.declared.Cell.TheVariants.{Invalid, Table, Anon, File, Mapped, Swapped}
use Rattle.table_place.specs.declared.Place.{Place}
use Rattle.table_place.specs.Place.{place_of, has_page, index_at, entry_place, span_first, span_count}
use Rattle.table_place.proofs.Entries.{entry_below, page_from, page_in_span, page_parts}
use Rattle.page_map.proofs.Owners.{same_some}
use Rattle.machine_plan.specs.Agrees.{below, Shows, Shown}
use Rattle.machine_plan.specs.HeldRows.{is_table, status_at, Says, Row, IsAt, Answers}
use Rattle.machine_plan.proofs.Towers.{table_above, tower_has}

says : (st : State) (q : Place) (c : Cell) (s n : ℕ) → n - span_first q < span_count q → is_table c ≡ false → Shows st q c → has_page q s n ≡ true → status_of (cell_at st s n) ≡ status_at c (n - span_first q)
says st q Table s n within_it plain f has = absurd (false≢true (sym plain))
says st q Invalid s n within_it plain f has = ap status_of (f.1 s n has)
says st q (Anon perm) s n within_it plain f has = ap status_of (f.1 s n has)
says st q (File perm file index) s n within_it plain f has =
    ap status_of (f.1 s n has) ∙ ap (λ i. status.File perm file i) (sym (mod-eq_of_lt (below_end index (n - span_first q) (span_count q) (2 ^ 64) within_it f.2)))
  where
    below_end : (index o e top : ℕ) → o < e → index + e ≤ top → index + o < top
    below_end index o e top small fits = omega (arith, small, fits)
says st q (Mapped perm origin frame) s n within_it plain f has = ap status_of (f.2 s n has)
says st q (Swapped perm origin slot) s n within_it plain f has = ap status_of (f.2 s n has)

-- the position below the entry for a page
pub next_below : (levels : ℕ) (p : Place) (s n : ℕ) → 1 ≤ p.level → p.level < 6 → has_page p s n ≡ true → below levels p (index_at p.level n) ≡ place_of s (p.level - 1) n
next_below levels p s n deep low has =
    let m : ℕ = p.level - 1 in
    let up : p.level ≡ m + 1 = omega (arith, deep) in
    ap (λ (x : Place). entry_place levels x (index_at p.level n)) (table_above p s n low has ∙ ap (λ l. place_of s l n) up)
    ∙ (ap (λ l. entry_place levels (place_of s (m + 1) n) (index_at l n)) up ∙ entry_below levels s m n (omega (arith, low)))

pub said : (st : State) (p : Place) (cells : List Cell) (c : Cell) (n : ℕ) → Shown st p cells → 1 ≤ p.level → p.level < 6 → has_page p p.space n ≡ true
    → slice_get cells (index_at p.level n) ≡ Some c → is_table c ≡ false → status_of (cell_at st p.space n) ≡ status_at c (n % 512 ^ (p.level - 1))
said st p cells c n shown deep low has at plain =
    let q = next_below (levels st) p p.space n deep low has in
    let there = subst (λ x. has_page x p.space n ≡ true) (sym q) (tower_has p.space (p.level - 1) n (omega (arith, low))) in
    says st (below (levels st) p (index_at p.level n)) c p.space n (inside (below (levels st) p (index_at p.level n)) p.space n (ap (λ (x : Place). x.level) q) low there) plain (shown.each (index_at p.level n) c (small p.level n) at) there
    ∙ ap (status_at c) (ap (λ x. n - span_first x) q ∙ rest n (512 ^ (p.level - 1)))
  where
    small : (k n : ℕ) → index_at k n < 512
    small k n = omega arith

    inside : (q : Place) (s n : ℕ) → q.level ≡ p.level - 1 → p.level < 6 → has_page q s n ≡ true → n - span_first q < span_count q
    inside q s n same low has = let at = in_range (span_first q) (span_count q) n (page_in_span q s n (omega (arith, same, low)) has) in omega (arith, at.0, at.1)

    rest : (n d : ℕ) → n - n / d * d ≡ n % d
    rest n d = sym (mod-eq-sub-div-mul n d)

module _ (h : Row) (n d : ℕ) (deep : 1 ≤ h.place.level) (low : h.place.level < 6) (same : n / 512 ^ h.place.level ≡ h.place.prefix) (width : d ≡ 512 ^ (h.place.level - 1)) where
  pub has_it : has_page h.place h.place.space n ≡ true
  has_it = page_from h.place h.place.space n low refl same

  pub at_index : (c : Cell) → slice_get h.content (n / d % 512) ≡ Some c → slice_get h.content (index_at h.place.level n) ≡ Some c
  at_index c at = subst (λ w. slice_get h.content (n / w % 512) ≡ Some c) width at

  pub found_at : (c : Cell) → slice_get h.content (n / d % 512) ≡ Some c → is_table c ≡ false → IsAt h n
  found_at c at plain = record { deep = deep; low = low; has = has_it; cell = c; there = at_index c at; no_link = plain }

  pub tells : (c : Cell) → slice_get h.content (n / d % 512) ≡ Some c → (answer : Option Status) → Says c (n % d) answer
      → MatchOption answer (¬ IsAt h n) (λ status. (at : IsAt h n) × (status ≡ status_at at.cell (n % 512 ^ (h.place.level - 1))))
  unfolding found_at
  tells c at (Some status) told = (found_at c at told.0, told.1 ∙ ap (λ w. status_at c (n % w)) width)
  tells c at None told = λ found. true≢false (sym told ∙ (ap is_table (same_some (sym (at_index c at) ∙ found.there)) ∙ found.no_link))

-- a row of the directory, or of another span, has no such cell
pub not_there : (h : Row) (n : ℕ) → (1 ≤ h.place.level → h.place.level < 6 → ¬ (n / 512 ^ h.place.level ≡ h.place.prefix)) → ¬ IsAt h n
not_there h n other found = other found.deep found.low (page_parts h.place h.place.space n found.low found.has).1

pub answered : (rows : List Row) (h : Row) (n : ℕ) → Contains rows h → (at : IsAt h n) → (answer : Status) → answer ≡ status_at at.cell (n % 512 ^ (h.place.level - 1)) → Answers rows n answer
answered rows h n held at answer is space st asked shown =
    is ∙ sym (said st h.place h.content at.cell n (shown h held) at.deep at.low at.has at.there at.no_link) ∙ ap (λ s. status_of (cell_at st s n)) (asked.of_space h held at.low)

pub item_there : (items rows : List Row) (k : ℕ) (h : Row) → items ≡ rows → k < length items → h ≡ slice_index_or items k h → Contains rows h
item_there items rows k h same inside is = subst (λ xs. Contains xs h) same (k, inside, sym is)
