-- What is left after an access or a move: the words are written, and the references come back.
--     lacking      the rows lack the references of the kit alone
--     stores_shown      where the call writes, its leaves have the writing bit
--     is_finished      what is left
use Rattle.std.specs.Prelude.{◌≡◌, ℕ, ◌/◌, ◌^◌, ◌<◌, true, false, List, [], map, slice_index, Some}
use Rattle.std.specs.List.{Contains}
use Rattle.std.proofs.Common.{sym, refl, ◌∙◌, ap, subst, arith, inl, inr}
use Rattle.std.proofs.lemmas.Bool.{true≢false}
use Rattle.corten_base.specs.declared.calls.Call.{Call}
use Rattle.page_map.specs.declared.cell.Cell.{Cell as PageCell}
use Rattle.page_map.specs.declared.cell.Cell.TheVariants as page
use Rattle.page_map.specs.Cell.{backing_of, perm_of}
use Rattle.page_map.specs.State.{State, levels, cell_at}
use Rattle.page_map.proofs.Steps.{not_none}
use Rattle.row_cells.specs.declared.Cell.{Cell}
use Rattle.row_cells.specs.declared.Cell.TheVariants.{Mapped, Swapped}
use Rattle.row_table.specs.declared.view.PassView.{PassView}
use Rattle.row_table.specs.declared.view.HeldRow.{HeldRow as KnownRow}
use Rattle.row_table.specs.Moves.{NotInHand}
use Rattle.row_table.proofs.Turns.{contained_map, same_parts}
use Rattle.table_place.specs.declared.Place.{Place}
use Rattle.table_place.proofs.Entries.{below_is, page_parts}
use Rattle.tree_lock.specs.Held.{row_number, row_numbers}
use Rattle.walk_core.specs.Words.{leaf_write}
use Rattle.walk_core.specs.Lists.{times, IsDistinct}
use Rattle.walk_core.proofs.RowLists.{in_map}
use Rattle.machine_plan.specs.declared.kit.Kit.{Kit}
use Rattle.machine_plan.specs.Agrees.{below, EachPage}
use Rattle.machine_plan.specs.Books.{BookData, state_of}
use Rattle.machine_plan.specs.HeldRows.{Row}
use Rattle.machine_plan.specs.Kits.{HasRoom, IsIdle, IsUngranted}
use Rattle.machine_plan.specs.Uses.{uses_page}
use Rattle.machine_plan.proofs.Covering.{cell_there}
use Rattle.cursor_detach.specs.Left.{came_from}
use Rattle.cursor_detach.proofs.Started.{one_known, listed}
use Rattle.cursor_apply.specs.Applying.{is_store, OnlyRows, ShowsStores, Applied}
use Rattle.cursor_apply.specs.Putting.{IsShortCell, AreShort, AreAgreed, row_place}
use Rattle.cursor_apply.specs.Showing.{HasWord, IsListed, IsDrawnCell, IsWritableCell, AreWritable}

none_in : {P : Type 0} (n : ℕ) → Contains [] n → P
none_in n has = let less = has.1 in absurd (omega arith)

module _ (b : BookData) (thread : ℕ) (c : Call) (frames slots : List ℕ) (q : Place) (word : ℕ) (cell : Cell) where
  abbrev now : State
  now = state_of b

  -- the only page of such a position
  one_page : (x : PageCell) → q.level ≡ 0 → cell_at now q.space q.prefix ≡ Some x → EachPage now q (λ _. Some x)
  one_page x low there space n has =
      let at = page_parts q space n (omega (arith, low)) has in
      let number : q.prefix ≡ n = (let e : 512 ^ q.level ≡ 1 = ap (λ m. 512 ^ m) low in sym at.1 ∙ whole n (512 ^ q.level) e) in
      subst (λ s. cell_at now s n ≡ Some x) at.0 (subst (λ m. cell_at now q.space m ≡ Some x) number there)
    where
      whole : (n m : ℕ) → m ≡ 1 → n / m ≡ n
      whole n m e = let same : n / m ≡ n / 1 = ap (λ k. n / k) e in omega (arith, same)

  drawn_short : (x : PageCell) → (d : IsDrawnCell b c frames slots [] [] q word cell) → d.page ≡ x → IsShortCell b frames slots q word cell
  drawn_short (page.Anon perm) d e = absurd (subst (λ (k : PageCell). IsListed c frames slots q k) e d.listed)
  drawn_short (page.File perm file index) d e = absurd (subst (λ (k : PageCell). IsListed c frames slots q k) e d.listed)
  drawn_short (page.Mapped perm origin n bytes) d e = record {
    was = Mapped perm origin (record { number = n; body = record { bytes = bytes; own = false } });
    shows = (d.lone, d.low, one_page (page.Mapped perm origin n bytes) d.low (d.there ∙ ap Some e));
    spells = elim (subst (λ (k : PageCell). HasWord now c [] [] q word k) e d.has_word) [ inl leaf ↦ leaf.leaf | inr old ↦ none_in q.prefix old.1 ];
    is = inr (d.is ∙ ap (λ (k : PageCell). came_from (backing_of k) (perm_of k)) e, subst (λ (k : PageCell). IsListed c frames slots q k) e d.listed);
  }
  drawn_short (page.Swapped perm origin n bytes) d e = record {
    was = Swapped perm origin (record { number = n; body = record { bytes = bytes; own = false } });
    shows = (d.lone, d.low, one_page (page.Swapped perm origin n bytes) d.low (d.there ∙ ap Some e));
    spells = elim (subst (λ (k : PageCell). HasWord now c [] [] q word k) e d.has_word) [ inl none ↦ none | inr old ↦ none_in q.prefix old.1 ];
    is = inr (d.is ∙ ap (λ (k : PageCell). came_from (backing_of k) (perm_of k)) e, (subst (λ (k : PageCell). IsListed c frames slots q k) e d.listed).0);
  }

  short_cell : IsWritableCell b thread c frames slots [] [] q word cell → IsShortCell b frames slots q word cell
  short_cell (inl whole) = record { was = cell; shows = whole.shows; spells = whole.spells; is = inl (refl, whole.bytes) }
  short_cell (inr d) = drawn_short d.page d refl

  -- a leaf that a store left
  leaf_shown : (x : PageCell) → is_store c ≡ true → q.level ≡ 0 → uses_page now thread c q.space q.prefix ≡ true → cell_at now q.space q.prefix ≡ Some x → (perm_of x).read ≡ true → (perm_of x).write ≡ true
      → IsWritableCell b thread c frames slots [] [] q word cell → leaf_write word ≡ true
  leaf_shown x stores low uses there read write (inl whole) = absurd (not_none (sym there ∙ whole.unused stores low uses))
  leaf_shown x stores low uses there read write (inr d) = go x (subst (λ (k : PageCell). IsListed c frames slots q k) same d.listed) (subst (λ (k : PageCell). HasWord now c [] [] q word k) same d.has_word) read write
    where
      same : d.page ≡ x
      same = let both : Some d.page ≡ Some x = sym d.there ∙ there in cc

      go : (x : PageCell) → IsListed c frames slots q x → HasWord now c [] [] q word x → (perm_of x).read ≡ true → (perm_of x).write ≡ true → leaf_write word ≡ true
      go (page.Mapped perm origin n bytes) is (inl leaf) read write = leaf.full stores read write
      go (page.Mapped perm origin n bytes) is (inr old) read write = none_in q.prefix old.1
      go (page.Swapped perm origin n bytes) is h read write = absurd (true≢false (sym stores ∙ is.1))
      go (page.Anon perm) is h read write = absurd is
      go (page.File perm file index) is h read write = absurd is

module _ {B E : Type 0} (b : BookData) (thread : ℕ) (c : Call) (space : ℕ) (frames slots : List ℕ) (w : PassView (List Cell) B E) (rows : List Row) (ready : AreWritable b thread c space frames slots [] [] w rows) where
  pub lacking : AreShort b w.rows frames slots rows
  lacking x has =
      let s = ready.each x has in
      record {
        row = s.known;
        held = s.held;
        same_row = s.same_row;
        same_place = s.same_place;
        table = s.table;
        whole = s.whole;
        cells = λ i cell inside there. short_cell b thread c frames slots (below (levels (state_of b)) x.place i) (slice_index s.known.words i) cell (s.cells i cell inside there);
      }

  pub stores_shown : IsDistinct (row_numbers rows) → ShowsStores b thread c w
  stores_shown once h index cell held level inside stores uses there read write =
      let o = listed rows w ready.exact h held in
      let s = ready.each o.0 o.1 in
      let known : s.known ≡ h = one_known rows w ready.exact once s.known h s.held held (s.same_row ∙ o.2) in
      let place : o.0.place ≡ h.place = sym s.same_place ∙ ap (λ (k : KnownRow (List Cell)). k.place) known in
      let at = cell_there o.0.content index (subst (λ n. index < n) (sym s.whole) inside) in
      let q = below (levels (state_of b)) h.place index in
      let is = below_is (levels (state_of b)) h.place index (omega (arith, level)) in
      subst (λ (k : KnownRow (List Cell)). leaf_write (slice_index k.words index) ≡ true) known
      (leaf_shown b thread c frames slots q (slice_index s.known.words index) at.0 cell stores (ap (λ (p : Place). p.level) is ∙ omega (arith, level))
      (subst (λ (p : Place). uses_page (state_of b) thread c p.space p.prefix ≡ true) (sym is) uses)
      (subst (λ (p : Place). cell_at (state_of b) p.space p.prefix ≡ Some cell) (sym is) there) read write
      (subst (λ (p : Place). IsWritableCell b thread c frames slots [] [] (below (levels (state_of b)) p index) (slice_index s.known.words index) at.0) place (s.cells index at.0 inside at.1)))

  pub is_finished : IsDistinct (row_numbers rows) → (v : PassView (List Cell) B E) → OnlyRows v w → (rows' : List Row) (kit kit' : Kit) → AreAgreed b w.rows rows' → map row_place rows' ≡ map row_place rows → HasRoom kit' → IsIdle kit' → IsUngranted kit' → (kit'.second_frames.items ≡ []) × (kit'.second_slots.items ≡ [])
      → Applied b thread c v w rows' kit kit'
  is_finished once v view rows' kit kit' agreed places room idle ungranted seconds = record {
    view = view;
    held = record {
      exact = record { held = λ r. ap (times r) numbers ∙ ready.exact.held r; shown = ready.exact.shown };
      each = λ x has.
          let g = agreed x has in
          let o = contained_map row_place rows (row_place x) (subst (λ (l : List (ℕ × Place)). Contains l (row_place x)) places (in_map row_place rows' x has)) in
          record {
            known = g.row;
            held = g.held;
            same_row = g.same_row;
            same_place = g.same_place;
            linked = subst (NotInHand w) (ap (λ (p : ℕ × Place). p.0) o.2) (ready.each o.0 o.1).linked;
            agrees = g.agrees;
          };
    };
    given = ready.given;
    hand = ready.hand;
    stored = λ done. stores_shown once;
    room = room;
    idle = idle;
    ungranted = ungranted;
    seconds = seconds;
  }
    where
      numbers : row_numbers rows' ≡ row_numbers rows
      numbers = sym (same_parts row_place (λ (p : ℕ × Place). p.0) row_number (λ x. refl) rows') ∙ (ap (map (λ (p : ℕ × Place). p.0)) places ∙ same_parts row_place (λ (p : ℕ × Place). p.0) row_number (λ x. refl) rows)
