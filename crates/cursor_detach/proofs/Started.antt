-- What is known of the rows of a call before any of them goes out of the tree.
--     started      none is out yet
--     at_removed      the row at a removed position is in the list, and so is the row above it
--     links_down, links_none, links_up      what stands at an entry
use Rattle.std.specs.Prelude.{◌≡◌, ℕ, ◌+◌, ◌*◌, ◌^◌, ◌<◌, ◌≤◌, Bool, true, false, cond, not, List, [], ◌∷◌, ◌++◌, map, length, slice_get, slice_index, Some, None}
use Rattle.std.specs.List.{Contains}
use Rattle.std.specs.FinSet as set
use Rattle.std.proofs.Common.{sym, refl, ◌∙◌, ap, subst, arith, inl, inr, append-nil}
use Rattle.std.proofs.lemmas.Bool.{true≢false, false≢true}
use mathlib.Core.Logic.{dite}
use native.Mathlib.Decide.{ℕ_discrete}
use Rattle.corten_base.specs.declared.permissions.Perm.{Perm}
use Rattle.corten_base.specs.declared.calls.Backing.{Backing}
use Rattle.corten_base.specs.declared.calls.Backing.TheVariants as backing
use Rattle.corten_base.specs.declared.calls.Call.{Call}
use Rattle.page_map.specs.Effect.{space_of}
use Rattle.page_map.specs.State.{State, levels}
use Rattle.page_map.specs.Step.{refusal}
use Rattle.pte_word.proofs.Readings.{leaf_word_is}
use Rattle.walk_core.specs.Events.{newly_unlinked}
use Rattle.walk_core.specs.Lists.{Has, times, IsDistinct}
use Rattle.walk_core.specs.Words.{is_link, link_row, link_generation, leaf_word, bit}
use Rattle.walk_core.proofs.RowLists.{times-nil, times-cons_other, in_head, in_tail}
use Rattle.walk_core.proofs.Spellings.{zero_no_link, link_form, bit_cases}
use Rattle.row_cells.specs.declared.Cell.{Cell}
use Rattle.row_cells.specs.declared.Cell.TheVariants.{Invalid, Table, Anon, File, Mapped, Swapped}
use Rattle.row_table.specs.declared.view.HeldRow.{HeldRow as KnownRow}
use Rattle.row_table.specs.Rule.{row_part}
use Rattle.row_table.proofs.Beside.{unique_part}
use Rattle.row_table.proofs.Views.{has_row}
use Rattle.table_place.specs.declared.Place.{Place}
use Rattle.table_place.proofs.Entries.{level_of}
use Rattle.tree_lock.specs.Held.{row_numbers, IsInOrder}
use Rattle.tree_lock.specs.Release.{HoldsExactly}
use Rattle.tree_lock.specs.Zone.{IsTable}
use Rattle.machine_plan.specs.declared.kit.Kit.{Kit}
use Rattle.machine_plan.specs.Agrees.{below, Shows, Spells, IsTableOf}
use Rattle.machine_plan.specs.Books.{BookData, state_of}
use Rattle.machine_plan.specs.Given.{IsRemoved}
use Rattle.machine_plan.specs.Held.{ListHolds}
use Rattle.machine_plan.specs.HeldRows.{Row}
use Rattle.machine_plan.specs.Uses.{zone_of}
use Rattle.machine_plan.proofs.Covering.{cell_there}
use Rattle.cursor_detach.specs.Left.{came_from, drawn_cell, is_taken, IsLeft}
use Rattle.cursor_detach.specs.Removing.{is_cut}
use Rattle.cursor_detach.specs.Cutting.{above_place}
use Rattle.cursor_detach.specs.Detaching.{IsDetachable, Cutting}
use Rattle.cursor_detach.proofs.Changed.{removed_is_cut, cut_is_removed, was_accepted, steps_removed, not_refused, directory_stays, same_levels, consistent_after}
use Rattle.cursor_detach.proofs.Empty.{View}
use Rattle.cursor_detach.proofs.Positions.{table_of, in_cover, up_in, below_removed}

-- a leaf is no link
no_leaf : (f : ℕ) (write exec : Bool) → is_link (leaf_word f write exec) ≡ true → ⊥
no_leaf f write exec e =
    let form = link_form (leaf_word f write exec) e in
    let is = leaf_word_is f write exec in
    let same : 5 + 4096 * f + bit write 1 + bit (not exec) 63 ≡ 519 + 4096 * link_row (leaf_word f write exec) + 4194304 * link_generation (leaf_word f write exec) = sym is ∙ form in
    bit_cases write 1 (λ a. 5 + 4096 * f + a + bit (not exec) 63 ≡ 519 + 4096 * link_row (leaf_word f write exec) + 4194304 * link_generation (leaf_word f write exec) → ⊥)
    (λ s. bit_cases (not exec) 63 (λ b. 5 + 4096 * f + 2 ^ 1 + b ≡ 519 + 4096 * link_row (leaf_word f write exec) + 4194304 * link_generation (leaf_word f write exec) → ⊥) (λ t. omega arith) (λ t. omega arith) s)
    (λ s. bit_cases (not exec) 63 (λ b. 5 + 4096 * f + 0 + b ≡ 519 + 4096 * link_row (leaf_word f write exec) + 4194304 * link_generation (leaf_word f write exec) → ⊥) (λ t. omega arith) (λ t. omega arith) s)
    same

zero_never : (word : ℕ) → word ≡ 0 → is_link word ≡ true → ⊥
zero_never word z e = true≢false (sym e ∙ (ap is_link z ∙ zero_no_link))

-- a link stands above a table alone, and above a table stands nothing else
link_is_table : (st : State) (q : Place) (c : Cell) (word : ℕ) → Shows st q c → Spells st c word → is_link word ≡ true → set.contains st.tables q ≡ true
link_is_table st q Table word f s e = f
link_is_table st q Invalid word f s e = absurd (zero_never word s e)
link_is_table st q (Anon perm) word f s e = absurd (zero_never word s e)
link_is_table st q (File perm file index) word f s e = absurd (zero_never word s e)
link_is_table st q (Swapped perm origin slot) word f s e = absurd (zero_never word s e)
link_is_table st q (Mapped perm origin frame) word f s e = absurd (go perm.read refl)
  where
    go : (b : Bool) → perm.read ≡ b → ⊥
    go false r = zero_never word (s.unread r) e
    go true r = let leaf = s.read r in no_leaf frame.number leaf.0 perm.exec (ap is_link (sym leaf.1) ∙ e)

table_is_link : (st : State) (q : Place) (c : Cell) (word : ℕ) → set.contains st.tables q ≡ true → Shows st q c → Spells st c word → is_link word ≡ true
table_is_link st q Table word there f s = s
table_is_link st q Invalid word there f s = absurd (false≢true (sym f.0 ∙ there))
table_is_link st q (Anon perm) word there f s = absurd (false≢true (sym f.0 ∙ there))
table_is_link st q (File perm file index) word there f s = absurd (false≢true (sym f.0 ∙ there))
table_is_link st q (Mapped perm origin frame) word there f s = absurd (false≢true (sym f.0 ∙ there))
table_is_link st q (Swapped perm origin slot) word there f s = absurd (false≢true (sym f.0 ∙ there))

-- what is Invalid without its reference was Invalid
came_used : (origin : Backing) (perm : Perm) → came_from origin perm ≡ Invalid → ⊥
came_used backing.Zero perm e = absurd (cc)
came_used (backing.File file index) perm e = absurd (cc)

drawn_none : (c : Cell) → drawn_cell c ≡ Invalid → c ≡ Invalid
drawn_none Invalid e = refl
drawn_none Table e = absurd (cc)
drawn_none (Anon perm) e = absurd (cc)
drawn_none (File perm file index) e = absurd (cc)
drawn_none (Mapped perm origin frame) e = absurd (came_used origin perm e)
drawn_none (Swapped perm origin slot) e = absurd (came_used origin perm e)

none_word : (st : State) (c : Cell) (word : ℕ) (taken : Bool) → cond taken (drawn_cell c) c ≡ Invalid → Spells st c word → word ≡ 0
none_word st c word taken e s = subst (λ x. Spells st x word) (go taken e) s
  where
    go : (t : Bool) → cond t (drawn_cell c) c ≡ Invalid → c ≡ Invalid
    go true e = drawn_none c e
    go false e = e

-- a number of the list is that of one of its rows
pub row_with : (rows : List Row) (r : ℕ) → Has (row_numbers rows) r → (x : Row) × Contains rows x × (x.row ≡ r)
row_with [] r has = absurd (omega (arith, has, times-nil r))
row_with (x ∷ xs) r has = dite (ℕ_discrete x.row r)
    (λ e. (x, in_head x xs, e))
    (λ ne. let n = times-cons_other r x.row (row_numbers xs) ne in let o = row_with xs r (omega (arith, has, n)) in (o.0, in_tail x xs o.0 o.1, o.2))

module _ {B E : Type 0} where
  -- a known row of a pass that holds exactly the rows of a list, each once
  pub one_known : (rows : List Row) (v : View B E) → HoldsExactly rows v.core.held v.rows → IsDistinct (row_numbers rows) → (h k : KnownRow (List Cell)) → Contains v.rows h → Contains v.rows k → h.row ≡ k.row → h ≡ k
  one_known rows v exact once h k hc kc same = unique_part row_part v.rows h k hc kc same
      (let few = once h.row in let n = exact.held h.row in subst (λ (l : List ℕ). times h.row l ≤ 1) (sym exact.shown) (omega arith))

  -- and the row of the list
  pub listed : (rows : List Row) (v : View B E) → HoldsExactly rows v.core.held v.rows → (h : KnownRow (List Cell)) → Contains v.rows h → (x : Row) × Contains rows x × (x.row ≡ h.row)
  listed rows v exact h hc = row_with rows h.row
      (let has = subst (λ (l : List ℕ). Has l h.row) exact.shown (has_row v.rows h hc) in let n = exact.held h.row in omega arith)

module _ {B E : Type 0} (a b : BookData) (thread : ℕ) (c : Call) (v : View B E) (rows : List Row) (kit : Kit) (ready : IsDetachable a b thread c v rows kit) (order : IsInOrder rows) (once : IsDistinct (row_numbers rows)) where
  abbrev pub st : State
  st = state_of a

  abbrev pub L : ℕ
  L = levels st

  abbrev pub now : State
  now = state_of b

  pub few : L < 6
  few = let most = ready.consistent.few_levels in omega arith

  pub some : 1 ≤ L
  some = let least = ready.consistent.some_levels in omega arith

  pub gone_none : kit.gone.items ≡ []
  gone_none = ready.committed.commits.unlinked

  pub left : (x : Row) → Contains rows x → IsLeft a a thread c kit v x
  left = ready.rows_left

  pub never : (q : Place) → ¬ IsRemoved st st q
  never q r = true≢false (sym r.0 ∙ r.1)

  pub known_is : (x : Row) (has : Contains rows x) (h : KnownRow (List Cell)) → Contains v.rows h → h.row ≡ x.row → (left x has).known ≡ h
  known_is x has h hc same = one_known rows v ready.exact once (left x has).known h (left x has).held hc ((left x has).same_row ∙ sym same)

  pub table_at : (x : Row) → Contains rows x → IsTableOf st x.place
  table_at x has = subst (IsTableOf st) (left x has).same_place (left x has).agreed.shown.table

  pub tables : (x : Row) → Contains rows x → IsTable L x.place
  tables x has = table_of st ready.consistent x.place (table_at x has)

  -- the rows but the directory are of the call's space
  of_space : (x : Row) → Contains rows x → x.place.level < 6 → (s : ℕ) → space_of c ≡ Some s → x.place.space ≡ s
  of_space x has low s e = ready.one_space s e x has low

  low_at : (p : Place) → set.contains st.tables p ≡ true → p.level < 6
  low_at p there = let at = level_of L p (ready.consistent.places p there) in omega (arith, at.1, few)

  pub is_gone : (x : Row) → Contains rows x → IsRemoved st now x.place → is_cut L kit x.place ≡ true
  is_gone x has gone = removed_is_cut a b thread c kit ready.consistent ready.committed x.place (of_space x has (low_at x.place gone.0)) gone

  pub goes : (x : Row) → Contains rows x → is_cut L kit x.place ≡ true → IsRemoved st now x.place
  goes x has cut = cut_is_removed a b thread c kit ready.consistent ready.committed x.place (λ s e. elim (table_at x has) as (λ t. x.place.space ≡ s) [
    | inl top ↦ absurd (directory_stays a b thread c kit ready.consistent ready.committed x.place top cut)
    | inr there ↦ of_space x has (low_at x.place there) s e
  ]) (table_at x has) cut

  pub accepted : (p : Place) → IsRemoved st now p → refusal st thread c (length a.limbo) ≡ None
  accepted p gone = was_accepted a b thread c kit ready.consistent ready.committed p gone

  -- the rows of removed positions, and those above them
  pub at_removed : (p : Place) → IsRemoved st now p → ListHolds rows p
  at_removed p gone = let none = accepted p gone in
      ready.cover (not_refused a b thread c kit ready.consistent ready.committed none) p (in_cover st ready.consistent (zone_of thread c) now (steps_removed a b thread c kit ready.consistent ready.committed none) p gone)

  pub above_removed : (p : Place) → IsRemoved st now p → ListHolds rows (above_place L p)
  above_removed p gone = let none = accepted p gone in
      ready.cover (not_refused a b thread c kit ready.consistent ready.committed none) (above_place L p) (up_in st ready.consistent (zone_of thread c) now (steps_removed a b thread c kit ready.consistent ready.committed none) p gone)

  pub child_removed : (p : Place) (i : ℕ) → i < 512 → IsRemoved st now p → set.contains st.tables (below L p i) ≡ true → IsRemoved st now (below L p i)
  child_removed p i inside gone there =
      below_removed st ready.consistent now (consistent_after a b thread c kit ready.consistent ready.committed ready.few) (same_levels a b thread c kit ready.consistent ready.committed) p i inside gone there

  -- ---- what stands at an entry

  module _ (x : Row) (has : Contains rows x) (h : KnownRow (List Cell)) (held : Contains v.rows h) (same : h.row ≡ x.row) (i : ℕ) (inside : i < 512) where
    abbrev l : IsLeft a a thread c kit v x
    l = left x has

    pub word_was : slice_index h.words i ≡ slice_index l.old_words i
    word_was = ap (λ (k : KnownRow (List Cell)). slice_index k.words i) (sym (known_is x has h held same)) ∙ l.word i inside (never (below L x.place i))

    cell_was : (cell : Cell) × (slice_get l.old_cells i ≡ Some cell)
    cell_was = cell_there l.old_cells i (subst (λ n. i < n) (sym l.agreed.shown.whole) inside)

    shows : Shows st (below L x.place i) cell_was.0
    shows = subst (λ p. Shows st (below L p i) cell_was.0) l.same_place (l.agreed.shown.each i cell_was.0 inside cell_was.1)

    spells : Spells st cell_was.0 (slice_index l.old_words i)
    spells = l.agreed.spelled i cell_was.0 inside cell_was.1

    pub links_down : is_link (slice_index h.words i) ≡ true → set.contains st.tables (below L x.place i) ≡ true
    links_down e = link_is_table st (below L x.place i) cell_was.0 (slice_index l.old_words i) shows spells (ap is_link (sym word_was) ∙ e)

    pub links_up : set.contains st.tables (below L x.place i) ≡ true → is_link (slice_index h.words i) ≡ true
    links_up there = ap is_link word_was ∙ table_is_link st (below L x.place i) cell_was.0 (slice_index l.old_words i) there shows spells

    pub links_none : slice_get x.content i ≡ Some Invalid → slice_index h.words i ≡ 0
    links_none none = word_was ∙ none_word st cell_was.0 (slice_index l.old_words i) (is_taken st thread c kit x.place i)
        (let is = sym (l.cell i cell_was.0 inside (never (below L x.place i)) cell_was.1) ∙ none in cc) spells

  -- ---- none is out yet

  pub started : (kit' : Kit) → kit' ≡ kit → Cutting L (length rows) v rows kit v rows kit'
  started kit' same = subst (λ k. Cutting L (length rows) v rows kit v rows k) (sym same) (record {
    view = λ i. record v { core = record v.core { held = v.core.held; unlinked = sym (ap (λ (g : List ℕ). v.core.unlinked ++ map newly_unlinked g) gone_none ∙ append-nil v.core.unlinked) i }; rows = v.rows };
    exact = ready.exact;
    once = once;
    kit_is = refl;
    room = λ r. r;
    count = (let none = ap length gone_none in omega arith);
    within = omega arith;
    each = λ x has. record {
      old = x;
      was = has;
      same_row = refl;
      same_place = refl;
      stays = λ out. nothing x.row (subst (λ (g : List ℕ). Contains g x.row) gone_none out);
      old_known = (left x has).known;
      old_held = (left x has).held;
      old_row = (left x has).same_row;
      known = (left x has).known;
      held = (left x has).held;
      known_row = (left x has).same_row;
      known_place = refl;
      linked = λ n. n;
      whole = refl;
      cut = λ i inside within out. absurd (nothing out.0.row (subst (λ (g : List ℕ). Contains g out.0.row) gone_none out.3));
      kept = λ i inside not_out. (refl, refl);
    };
    all = λ x has. inr (x, has, refl, refl);
    only = λ row out. absurd (nothing row (subst (λ (g : List ℕ). Contains g row) gone_none out));
    ahead = λ k d x less has out. absurd (nothing x.row (subst (λ (g : List ℕ). Contains g x.row) gone_none out));
    behind = λ k d low high. absurd (omega (arith, low, high));
  })
    where
      nothing : (row : ℕ) → Contains [] row → ⊥
      nothing row out = let less = out.1 in omega arith
