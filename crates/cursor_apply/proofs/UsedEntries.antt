-- The entries of the rows after an access or a move was accepted, before anything is written.
--     stays_whole      an entry whose pages stay agrees with the new book
--     lone_plain      a page below an entry that leads to no table has no number, unless the entry is of the page alone
--     entry      each entry may be written as the kit says
use Rattle.std.specs.Prelude.{◌≡◌, ℕ, ◌+◌, ◌-◌, ◌*◌, ◌/◌, ◌^◌, ◌<◌, ◌≤◌, ◌⊎◌, ◌&&◌, Bool, true, false, not, cond, is_none, nat_eq, List, ◌++◌, Option, Some, None}
use Rattle.std.specs.List.{Contains}
use Rattle.std.specs.FinSet as set
use Rattle.std.proofs.Common.{sym, refl, ◌∙◌, ap, subst, arith, inl, inr}
use Rattle.std.proofs.lemmas.Bool.{true≢false, and_parts, and_from, eq-eqb, eqb-true, false_from_ne_true}
use Rattle.std.proofs.lemmas.List.Elements.{Contains-append_left, Contains-append_right}
use mathlib.Core.Logic.{dite}
use native.Mathlib.Decide.{ℕ_discrete}
use Rattle.corten_base.specs.declared.permissions.Perm.{Perm}
use Rattle.corten_base.specs.declared.calls.Call.{Call}
use Rattle.corten_base.specs.declared.calls.Call.TheVariants as call
use Rattle.corten_base.specs.declared.calls.Reply.{Reply}
use Rattle.page_map.specs.declared.cell.Cell.{Cell as PageCell}
use Rattle.page_map.specs.declared.cell.Cell.TheVariants as page
use Rattle.page_map.specs.Alike.{is_alike}
use Rattle.page_map.specs.Cell.{backing_of, frame_of, perm_of, slot_of}
use Rattle.page_map.specs.Effect.{space_of, frame_grants, slot_grants}
use Rattle.page_map.specs.State.{State, IsConsistent, levels, cell_at, space_at, is_present}
use Rattle.page_map.proofs.Alike.{has_no_number, alike_unnumbered}
use Rattle.page_map.proofs.Named.{absent_cell}
use Rattle.page_map.proofs.Steps.{not_none}
use Rattle.row_cells.specs.declared.Cell.{Cell}
use Rattle.row_cells.specs.declared.Cell.TheVariants.{Invalid, Table, Anon, File, Mapped, Swapped}
use Rattle.table_place.specs.declared.Place.{Place}
use Rattle.table_place.specs.Place.{has_page, root, span_first, span_count}
use Rattle.table_place.proofs.Entries.{level_of, below_is, page_parts, page_in_span}
use Rattle.table_place.proofs.Tables.{in_range}
use Rattle.walk_core.specs.Words.{is_link}
use Rattle.walk_core.proofs.Spellings.{zero_no_link}
use Rattle.machine_plan.specs.declared.kit.Kit.{Kit}
use Rattle.machine_plan.specs.Agrees.{below, EachPage, HasBytes, IsLeafOf, IsNoTable, IsTableOf, Shows, Spells}
use Rattle.machine_plan.specs.Books.{BookData, state_of}
use Rattle.machine_plan.specs.Follows.{KeepsPage}
use Rattle.machine_plan.specs.Local.{CountsAre}
use Rattle.machine_plan.specs.Uses.{uses_page}
use Rattle.machine_plan.proofs.Pages.{own_page}
use Rattle.cursor_detach.specs.Left.{came_from, drawn_cell, is_taken}
use Rattle.cursor_apply.specs.Applying.{is_store}
use Rattle.cursor_apply.specs.Moving.{IsMove}
use Rattle.cursor_apply.specs.Putting.{pages_of}
use Rattle.cursor_apply.specs.Showing.{IsLeafNow, IsWholeCell, IsDrawnCell, IsWritableCell, own_pages}
use Rattle.cursor_apply.proofs.KitLists.{fresh, stayed, ref_listed, frames_of, slots_of, own_frames_of, own_slots_of}
use Rattle.cursor_apply.proofs.Made.{IsMade, kept_count, unused_stays, came, still_none, plain_stays}
use Rattle.cursor_apply.proofs.Outcomes.{Outcome, gets}
use Rattle.cursor_apply.proofs.PutRows.{page_below}
use Rattle.cursor_apply.proofs.Writing.{page_of, page_is, no_table, leaf_is_no_link}

-- ---- an entry whose pages stay

module _ (a b : BookData) (q : Place) (lone : IsNoTable (state_of b) q) (stays : (space page : ℕ) → has_page q space page ≡ true → KeepsPage a b space page) where
  same_pages : (cell : ℕ → Option PageCell) → EachPage (state_of a) q cell → EachPage (state_of b) q cell
  same_pages cell each s p has = (stays s p has).cell ∙ each s p has

  still_shows : (k : Cell) → (set.contains (state_of a).tables q ≡ true → ⊥) → Shows (state_of a) q k → Shows (state_of b) q k
  still_shows Table none f = absurd (none f)
  still_shows Invalid none f = (lone, same_pages (λ _. None) f.1)
  still_shows (Anon perm) none f = (lone, same_pages (λ _. Some (page.Anon perm)) f.1)
  still_shows (File perm file index) none f = (lone, same_pages (λ i. Some (page.File perm file (index + i))) f.1, f.2)
  still_shows (Mapped perm origin frame) none f = (lone, f.1, same_pages (λ _. Some (page.Mapped perm origin frame.number frame.body.bytes)) f.2)
  still_shows (Swapped perm origin slot) none f = (lone, f.1, same_pages (λ _. Some (page.Swapped perm origin slot.number slot.body.bytes)) f.2)

  still_spells : (k : Cell) (word : ℕ) → Shows (state_of a) q k → Spells (state_of a) k word → Spells (state_of b) k word
  still_spells Table word f s = s
  still_spells Invalid word f s = s
  still_spells (Anon perm) word f s = s
  still_spells (File perm file index) word f s = s
  still_spells (Swapped perm origin slot) word f s = s
  still_spells (Mapped perm origin frame) word f s =
      let own = own_page q f.1 in
      record { unread = s.unread; read = λ r. let g = s.read r in (g.0, g.1, λ w. ((g.2 w).0, (stays q.space q.prefix own).sole _ _ (f.2 _ _ own) refl (g.2 w).1)) }

  still_bytes : (k : Cell) → Shows (state_of a) q k → HasBytes a k → HasBytes b k
  still_bytes Table f h = tt
  still_bytes Invalid f h = tt
  still_bytes (Anon perm) f h = tt
  still_bytes (File perm file index) f h = tt
  still_bytes (Mapped perm origin frame) f h = let own = own_page q f.1 in λ not_own. (stays q.space q.prefix own).frame_spare _ _ (f.2 _ _ own) refl (h not_own)
  still_bytes (Swapped perm origin slot) f h = let own = own_page q f.1 in λ not_own. (stays q.space q.prefix own).slot_spare _ _ (f.2 _ _ own) refl (h not_own)

-- ---- cells without their references

drawn_same : (old : Cell) (k : ℕ) → has_no_number (page_of old k) ≡ true → drawn_cell old ≡ old
drawn_same Invalid k plain = refl
drawn_same Table k plain = refl
drawn_same (Anon perm) k plain = refl
drawn_same (File perm file index) k plain = refl
drawn_same (Mapped perm origin frame) k plain = absurd (true≢false (sym plain))
drawn_same (Swapped perm origin slot) k plain = absurd (true≢false (sym plain))

drawn_from : (old : Cell) (k : ℕ) (e : PageCell) → k ≡ 0 → page_of old k ≡ Some e → drawn_cell old ≡ came_from (backing_of e) (perm_of e)
drawn_from Invalid k e zero_k is = absurd (cc)
drawn_from Table k e zero_k is = absurd (cc)
drawn_from (Anon perm) k e zero_k is = let same : page.Anon perm ≡ e = cc in ap (λ (x : PageCell). came_from (backing_of x) (perm_of x)) same
drawn_from (File perm file index) k e zero_k is =
    let same : page.File perm file (index + k) ≡ e = cc in
    let more : index ≡ index + k = omega (arith, zero_k) in
    ap (File perm file) more ∙ ap (λ (x : PageCell). came_from (backing_of x) (perm_of x)) same
drawn_from (Mapped perm origin frame) k e zero_k is = let same : page.Mapped perm origin frame.number frame.body.bytes ≡ e = cc in ap (λ (x : PageCell). came_from (backing_of x) (perm_of x)) same
drawn_from (Swapped perm origin slot) k e zero_k is = let same : page.Swapped perm origin slot.number slot.body.bytes ≡ e = cc in ap (λ (x : PageCell). came_from (backing_of x) (perm_of x)) same

numbered : (x : PageCell) (n : ℕ) → frame_of x ≡ Some n → has_no_number (Some x) ≡ true → ⊥
numbered (page.Anon perm) n has plain = not_none (sym has)
numbered (page.File perm file index) n has plain = not_none (sym has)
numbered (page.Mapped perm origin f bytes) n has plain = true≢false (sym plain)
numbered (page.Swapped perm origin f bytes) n has plain = not_none (sym has)

leaf_from : (st : State) (old : Cell) (k : ℕ) (e : PageCell) (n word : ℕ) → page_of old k ≡ Some e → frame_of e ≡ Some n → Spells st old word → IsLeafOf st (perm_of e) n word
leaf_from st Invalid k e n word is has spells = absurd (cc)
leaf_from st Table k e n word is has spells = absurd (cc)
leaf_from st (Anon perm) k e n word is has spells = let same : page.Anon perm ≡ e = cc in absurd (not_none (sym has ∙ ap frame_of (sym same)))
leaf_from st (File perm file index) k e n word is has spells = let same : page.File perm file (index + k) ≡ e = cc in absurd (not_none (sym has ∙ ap frame_of (sym same)))
leaf_from st (Swapped perm origin slot) k e n word is has spells = let same : page.Swapped perm origin slot.number slot.body.bytes ≡ e = cc in absurd (not_none (sym has ∙ ap frame_of (sym same)))
leaf_from st (Mapped perm origin frame) k e n word is has spells =
    let same : page.Mapped perm origin frame.number frame.body.bytes ≡ e = cc in
    let both : Some frame.number ≡ Some n = ap frame_of same ∙ has in
    let number : frame.number ≡ n = cc in
    subst (λ (p : Perm). IsLeafOf st p n word) (ap perm_of same) (subst (λ m. IsLeafOf st perm m word) number spells)

slot_from : (st : State) (old : Cell) (k : ℕ) (e : PageCell) (n word : ℕ) → page_of old k ≡ Some e → slot_of e ≡ Some n → Spells st old word → word ≡ 0
slot_from st Invalid k e n word is has spells = absurd (cc)
slot_from st Table k e n word is has spells = absurd (cc)
slot_from st (Anon perm) k e n word is has spells = spells
slot_from st (File perm file index) k e n word is has spells = spells
slot_from st (Swapped perm origin slot) k e n word is has spells = spells
slot_from st (Mapped perm origin frame) k e n word is has spells = let same : page.Mapped perm origin frame.number frame.body.bytes ≡ e = cc in absurd (not_none (sym has ∙ ap slot_of (sym same)))

old_no_link : (st : State) (old : Cell) (k : ℕ) (e : PageCell) (word : ℕ) → page_of old k ≡ Some e → ((n : ℕ) → frame_of e ≡ Some n → n < 4096) → Spells st old word → is_link word ≡ false
old_no_link st Invalid k e word is few spells = absurd (cc)
old_no_link st Table k e word is few spells = absurd (cc)
old_no_link st (Anon perm) k e word is few spells = ap is_link spells ∙ zero_no_link
old_no_link st (File perm file index) k e word is few spells = ap is_link spells ∙ zero_no_link
old_no_link st (Swapped perm origin slot) k e word is few spells = ap is_link spells ∙ zero_no_link
old_no_link st (Mapped perm origin frame) k e word is few spells =
    let same : page.Mapped perm origin frame.number frame.body.bytes ≡ e = cc in
    leaf_is_no_link st perm frame.number word (few frame.number (ap frame_of (sym same))) spells

-- ---- pages below an entry that leads to no table

module _ (st : State) (is : IsConsistent st) where
  few : levels st < 6
  few = let most = is.few_levels in omega arith

  below_root : (i space p : ℕ) → set.contains st.tables (root (levels st) i) ≡ false → has_page (root (levels st) i) space p ≡ true → has_no_number (cell_at st space p) ≡ true
  below_root i space p lone has =
      let same : i ≡ space = (page_parts (root (levels st) i) space p few has).0 in
      let absent : is_present st i ≡ false = false_from_ne_true (is_present st i) (λ there. true≢false (sym (is.roots i there) ∙ lone)) in
      ap has_no_number (ap (λ t. cell_at st t p) (sym same) ∙ absent_cell st i p absent)

  below_table : (q : Place) → 1 ≤ q.level → q.level < levels st → set.contains st.tables q ≡ false → (space p : ℕ) → has_page q space p ≡ true → has_no_number (cell_at st space p) ≡ true
  below_table q deep low lone space p has =
      let high : q.level < 6 = omega (arith, low, few) in
      let here = (page_parts q space p high has).0 in
      let alike : is_alike (space_at st q.space) (span_first q) (span_count q) ≡ true =
      not_false (is_alike (space_at st q.space) (span_first q) (span_count q)) (λ unlike. true≢false (sym (is.unlike q deep low unlike) ∙ lone)) in
      let span = in_range (span_first q) (span_count q) p (page_in_span q space p high has) in
      ap (λ t. has_no_number (cell_at st t p)) (sym here) ∙ alike_unnumbered (space_at st q.space) (span_first q) (span_count q) alike p span.0 span.1
    where
      not_false : (t : Bool) → (not t ≡ true → ⊥) → t ≡ true
      not_false true h = refl
      not_false false h = absurd (h refl)

  pub lone_plain : (p : Place) (i : ℕ) → i < 512 → IsTableOf st p → set.contains st.tables (below (levels st) p i) ≡ false → 1 ≤ (below (levels st) p i).level
      → (space n : ℕ) → has_page (below (levels st) p i) space n ≡ true → has_no_number (cell_at st space n) ≡ true
  lone_plain p i inside (inl top) lone deep space n has =
      below_root i space n (ap (λ (x : Place). set.contains st.tables (below (levels st) x i)) (sym top) ∙ lone) (ap (λ (x : Place). has_page (below (levels st) x i) space n) (sym top) ∙ has)
  lone_plain p i inside (inr there) lone deep space n has =
      let depth = level_of (levels st) p (is.places p there) in
      let at = below_is (levels st) p i (omega (arith, depth.1, few)) in
      let level : (below (levels st) p i).level ≡ p.level - 1 = ap (λ (x : Place). x.level) at in
      below_table (below (levels st) p i) deep (omega (arith, level, depth.0, depth.1)) lone space n has

-- ---- the entries

-- which pages an access or a move uses does not depend on the state
pub uses_same : (st now : State) (thread : ℕ) (c : Call) (s p : ℕ) → IsMove c → uses_page st thread c s p ≡ uses_page now thread c s p
uses_same st now thread (call.Load space at len) s p move = refl
uses_same st now thread (call.Store space at bytes) s p move = refl
uses_same st now thread (call.Fault space at write) s p move = refl
uses_same st now thread (call.SwapOut space at len) s p move = refl
uses_same st now thread (call.SwapIn space at len) s p move = refl
uses_same st now thread (call.Map space where_to len perm what) s p move = absurd move
uses_same st now thread (call.Unmap space at len) s p move = absurd move
uses_same st now thread (call.Protect space at len perm) s p move = absurd move
uses_same st now thread call.Spawn s p move = absurd move
uses_same st now thread (call.Fork space) s p move = absurd move
uses_same st now thread (call.Exit space) s p move = absurd move
uses_same st now thread (call.Txn space at len ops) s p move = absurd move
uses_same st now thread (call.DontNeed space at len) s p move = absurd move
uses_same st now thread (call.Remap space at old_len new_len) s p move = absurd move

module _ (a b : BookData) (thread : ℕ) (c : Call) (kit : Kit) (made : IsMade a b thread c kit) (move : IsMove c) (after : IsConsistent (state_of b)) (before : IsConsistent (state_of a)) (counts : CountsAre a × CountsAre b)
    (few_frames : (state_of a).limits.frames ≤ 4096) (s : ℕ) (here : space_of c ≡ Some s) where
  abbrev st : State
  st = state_of a

  abbrev now : State
  now = state_of b

  abbrev L : ℕ
  L = levels now

  abbrev own : List ℕ
  own = pages_of kit.own_frames.items

  abbrev new : List ℕ
  new = pages_of kit.frames.items

  abbrev pub kit_frames : List ℕ
  kit_frames = own ++ new

  abbrev pub kit_slots : List ℕ
  kit_slots = pages_of kit.own_slots.items ++ pages_of kit.slots.items

  abbrev pub to_show : List ℕ
  to_show = new ++ own_pages (is_store c) kit.own_frames.items

  abbrev pub to_hide : List ℕ
  to_hide = pages_of kit.slots.items

  module _ (q : Place) (low : q.level ≡ 0) (space_is : q.space ≡ s) (uses : uses_page st thread c q.space q.prefix ≡ true) (lone : IsNoTable now q) (old cell : Cell) (word : ℕ) (shows : Shows st q old) (spells : Spells st old word) (is : cell ≡ drawn_cell old) where
    abbrev offset : ℕ
    offset = q.prefix - span_first q

    no_offset : offset ≡ 0
    no_offset = let e : 512 ^ q.level ≡ 1 = ap (λ n. 512 ^ n) low in first_page (512 ^ q.level) e
      where
        first_page : (n : ℕ) → n ≡ 1 → q.prefix - q.prefix * n ≡ 0
        first_page n e = let same : q.prefix * n ≡ q.prefix = ap (λ m. q.prefix * m) e ∙ (omega arith) in omega (arith, same)

    st_page : cell_at st q.space q.prefix ≡ page_of old offset
    st_page = page_is st before q low old shows

    in_space : (P : ℕ → Type 0) → P q.space → P s
    in_space P h = subst P space_is h

    uses_here : uses_page st thread c s q.prefix ≡ true
    uses_here = in_space (λ t. uses_page st thread c t q.prefix ≡ true) uses

    at_now : (d : PageCell) → cell_at now q.space q.prefix ≡ Some d → cell_at now s q.prefix ≡ Some d
    at_now d e = in_space (λ t. cell_at now t q.prefix ≡ Some d) e

    kept_plain : (HasBytes a old) → has_no_number (cell_at now q.space q.prefix) ≡ true → (is_store c ≡ true → cell_at now q.space q.prefix ≡ None) → IsWholeCell b thread c q word cell
    kept_plain bytes plain unused =
        let keeps = plain_stays a b thread c kit made move after before counts q.space q.prefix uses plain in
        let same : cell ≡ old = is ∙ drawn_same old offset (ap has_no_number (sym (keeps.cell ∙ st_page)) ∙ plain) in
        let stays = λ (space n : ℕ) (has : has_page q space n ≡ true). one_page space n has keeps in
        record {
          shows = subst (Shows now q) (sym same) (still_shows a b q lone stays old (no_table st before q low) shows);
          spells = subst (λ (k : Cell). Spells now k word) (sym same) (still_spells a b q lone stays old word shows spells);
          bytes = subst (HasBytes b) (sym same) (still_bytes a b q lone stays old shows bytes);
          unused = λ stores l u. unused stores;
        }
      where
        one_page : (space n : ℕ) → has_page q space n ≡ true → KeepsPage a b q.space q.prefix → KeepsPage a b space n
        one_page space n has keeps =
            let at = page_parts q space n (omega (arith, low)) has in
            let number : n ≡ q.prefix = (let e : 512 ^ q.level ≡ 1 = ap (λ m. 512 ^ m) low in whole n (512 ^ q.level) e ∙ at.1) in
            subst (λ t. KeepsPage a b t n) at.0 (subst (λ m. KeepsPage a b q.space m) (sym number) keeps)
          where
            whole : (n m : ℕ) → m ≡ 1 → n ≡ n / m
            whole n m e = let same : n / m ≡ n / 1 = ap (λ k. n / k) e in omega (arith, same)

    -- a page with a number, before and after
    module _ (d : PageCell) (is_d : cell_at now q.space q.prefix ≡ Some d) (e : PageCell) (was : cell_at st q.space q.prefix ≡ Some e) (o : Outcome st c q.prefix e d) where
      old_is : page_of old offset ≡ Some e
      old_is = sym st_page ∙ was

      cell_is : cell ≡ came_from (backing_of d) (perm_of d)
      cell_is = is ∙ (drawn_from old offset e no_offset old_is ∙ (λ i. came_from (sym o.origin i) (sym o.perm i)))

      plain_word : is_link word ≡ false
      plain_word = old_no_link st old offset e word old_is (λ n has. let less = before.frames q.space q.prefix n e was has in omega (arith, less, few_frames)) spells

      own_listed : (n : ℕ) → frame_of d ≡ Some n → gets (frame_grants st c) q.prefix ≡ false → Contains own q.prefix
      own_listed n has none =
          ref_listed now (λ p. uses_page st thread c s p) (stayed (frame_grants st c)) s frame_of kit.own_frames.items (own_frames_of a b thread c kit made move s here) q.prefix d n (at_now d is_d) has uses_here (ap not none)

      new_listed : (n : ℕ) → frame_of d ≡ Some n → gets (frame_grants st c) q.prefix ≡ true → Contains new q.prefix
      new_listed n has got =
          ref_listed now (λ p. uses_page st thread c s p) (fresh (frame_grants st c)) s frame_of kit.frames.items (frames_of a b thread c kit made move s here) q.prefix d n (at_now d is_d) has uses_here got

      own_slot_listed : (n : ℕ) → slot_of d ≡ Some n → gets (slot_grants st c) q.prefix ≡ false → Contains (pages_of kit.own_slots.items) q.prefix
      own_slot_listed n has none =
          ref_listed now (λ p. uses_page st thread c s p) (stayed (slot_grants st c)) s slot_of kit.own_slots.items (own_slots_of a b thread c kit made move s here) q.prefix d n (at_now d is_d) has uses_here (ap not none)

      new_slot_listed : (n : ℕ) → slot_of d ≡ Some n → gets (slot_grants st c) q.prefix ≡ true → Contains (pages_of kit.slots.items) q.prefix
      new_slot_listed n has got =
          ref_listed now (λ p. uses_page st thread c s p) (fresh (slot_grants st c)) s slot_of kit.slots.items (slots_of a b thread c kit made move s here) q.prefix d n (at_now d is_d) has uses_here got

      frame_listed : (n : ℕ) → frame_of d ≡ Some n → Contains kit_frames q.prefix
      frame_listed n has = elim (o.frame n has) [
        | inl got ↦ Contains-append_right own new q.prefix (new_listed n has got.0)
        | inr kept ↦ Contains-append_left own new q.prefix (own_listed n has kept.0)
      ]

      leaf_kept : (n : ℕ) → frame_of d ≡ Some n → frame_of e ≡ Some n → IsLeafOf now (perm_of d) n word
      leaf_kept n has had =
          let l = subst (λ (p : Perm). IsLeafOf st p n word) (sym o.perm) (leaf_from st old offset e n word old_is had spells) in
          let same = kept_count a b thread c kit made move after before counts s here q.prefix q.prefix n e d (in_space (λ t. cell_at st t q.prefix ≡ Some e) was) had (at_now d is_d) has in
          record { unread = l.unread; read = λ r. let g = l.read r in (g.0, g.1, λ w. ((g.2 w).0, same ∙ (g.2 w).1)) }

      frame_word : (n : ℕ) → frame_of d ≡ Some n → IsLeafNow now c (perm_of d) n word ⊎ ((is_link word ≡ false) × Contains to_show q.prefix)
      frame_word n has = elim (o.frame n has) [
        | inl got ↦ inr (plain_word, Contains-append_left new (own_pages (is_store c) kit.own_frames.items) q.prefix (new_listed n has got.0))
        | inr kept ↦ by_store (is_store c) refl kept.0 kept.1
      ]
        where
          by_store : (t : Bool) → is_store c ≡ t → gets (frame_grants st c) q.prefix ≡ false → frame_of e ≡ Some n → IsLeafNow now c (perm_of d) n word ⊎ ((is_link word ≡ false) × Contains to_show q.prefix)
          by_store true stores none had =
              inr (plain_word, Contains-append_right new (own_pages (is_store c) kit.own_frames.items) q.prefix (subst (λ t. Contains (own_pages t kit.own_frames.items) q.prefix) (sym stores) (own_listed n has none)))
          by_store false stores none had = inl (record { leaf = leaf_kept n has had; full = λ w. absurd (true≢false (sym w ∙ stores)) })

      slot_listed : (n : ℕ) → slot_of d ≡ Some n → Contains kit_slots q.prefix
      slot_listed n has = elim (o.slot n has).1 [
        | inl got ↦ Contains-append_right (pages_of kit.own_slots.items) (pages_of kit.slots.items) q.prefix (new_slot_listed n has got)
        | inr kept ↦ Contains-append_left (pages_of kit.own_slots.items) (pages_of kit.slots.items) q.prefix (own_slot_listed n has kept.0)
      ]

      slot_word : (n : ℕ) → slot_of d ≡ Some n → (word ≡ 0) ⊎ ((is_link word ≡ false) × Contains to_hide q.prefix)
      slot_word n has = elim (o.slot n has).1 [
        | inl got ↦ inr (plain_word, new_slot_listed n has got)
        | inr kept ↦ inl (slot_from st old offset e n word old_is kept.1 spells)
      ]

      drawn : (k : PageCell) → d ≡ k → has_no_number (Some k) ≡ false → IsDrawnCell b c kit_frames kit_slots to_show to_hide q word cell
      drawn (page.Anon perm) same numbered = absurd (true≢false numbered)
      drawn (page.File perm file index) same numbered = absurd (true≢false numbered)
      drawn (page.Mapped perm origin n bytes) same numbered =
          let has = ap frame_of same in
          record {
            page = page.Mapped perm origin n bytes;
            lone = lone;
            low = low;
            there = is_d ∙ ap Some same;
            is = cell_is ∙ ap (λ (x : PageCell). came_from (backing_of x) (perm_of x)) same;
            listed = frame_listed n has;
            has_word = subst (λ (p : Perm). IsLeafNow now c p n word ⊎ ((is_link word ≡ false) × Contains to_show q.prefix)) (ap perm_of same) (frame_word n has);
          }
      drawn (page.Swapped perm origin n bytes) same numbered =
          let has = ap slot_of same in
          record {
            page = page.Swapped perm origin n bytes;
            lone = lone;
            low = low;
            there = is_d ∙ ap Some same;
            is = cell_is ∙ ap (λ (x : PageCell). came_from (backing_of x) (perm_of x)) same;
            listed = (slot_listed n has, (o.slot n has).0);
            has_word = slot_word n has;
          }

    used_entry : HasBytes a old → IsWritableCell b thread c kit_frames kit_slots to_show to_hide q word cell
    used_entry bytes = by (cell_at st q.space q.prefix) refl
      where
        by : (o : Option PageCell) → cell_at st q.space q.prefix ≡ o → IsWritableCell b thread c kit_frames kit_slots to_show to_hide q word cell
        by None none =
            let still = still_none a b thread c kit made move after before counts q.space q.prefix uses none in
            inl (kept_plain bytes (ap has_no_number still) (λ stores. still))
        by (Some e) was =
            let o = came a b thread c kit made move after before counts q.space q.prefix uses e was in
            by_number (has_no_number (Some o.0)) refl
          where
            by_number : (t : Bool) → has_no_number (Some (came a b thread c kit made move after before counts q.space q.prefix uses e was).0) ≡ t → IsWritableCell b thread c kit_frames kit_slots to_show to_hide q word cell
            by_number true plain =
                let o = came a b thread c kit made move after before counts q.space q.prefix uses e was in
                inl (kept_plain bytes (ap has_no_number o.1 ∙ plain) (λ stores. let w = o.2.written stores in absurd (numbered o.0 w.0 w.1 plain)))
            by_number false some =
                let o = came a b thread c kit made move after before counts q.space q.prefix uses e was in
                inr (drawn o.0 o.1 e was o.2 o.0 refl some)

  -- ---- an entry of a row

  module _ (p : Place) (table : IsTableOf now p) (of_space : p.level < 6 → p.space ≡ s) (i : ℕ) (inside : i < 512) (lone : set.contains now.tables (below L p i) ≡ false) (grown : set.contains st.tables (below L p i) ≡ true → ⊥)
      (old cell : Cell) (word : ℕ) (shows : Shows st (below L p i) old) (spells : Spells st old word) (bytes : HasBytes a old) (is : cell ≡ cond (is_taken st thread c kit p i) (drawn_cell old) old) where
    abbrev q : Place
    q = below L p i

    abbrev at_page : ℕ
    at_page = 512 * p.prefix + i

    not_early : is_none kit.early ≡ true
    not_early = ap (λ (o : Option Reply). is_none o) made.early

    -- the entry of a page
    leaf_entry : p.level ≡ 1 → q ≡ record { space = p.space; level = p.level - 1; prefix = at_page }
    leaf_entry one = below_is L p i (omega (arith, one))

    taken_uses : is_taken st thread c kit p i ≡ true → (p.level ≡ 1) × (uses_page st thread c p.space at_page ≡ true)
    taken_uses t =
        let all = and_parts (is_none kit.early) (nat_eq p.level 1 && uses_page st thread c p.space at_page) t in
        let both = and_parts (nat_eq p.level 1) (uses_page st thread c p.space at_page) all.1 in
        (eqb-true p.level 1 both.0, both.1)

    uses_taken : p.level ≡ 1 → uses_page st thread c p.space at_page ≡ true → is_taken st thread c kit p i ≡ true
    uses_taken one uses = and_from (is_none kit.early) (nat_eq p.level 1 && uses_page st thread c p.space at_page) not_early (and_from (nat_eq p.level 1) (uses_page st thread c p.space at_page) (eq-eqb p.level 1 one) uses)

    -- the only page of such an entry
    low_uses : (space n : ℕ) → q.level ≡ 0 → has_page q space n ≡ true → uses_page st thread c space n ≡ true → is_taken st thread c kit p i ≡ true
    low_uses space n low has uses =
        let leaf = page_below now after q.prefix p i inside table low refl in
        let at = leaf_entry leaf.0 in
        let parts = page_parts q space n (omega (arith, low)) has in
        let number : n ≡ q.prefix = (let e : 512 ^ q.level ≡ 1 = ap (λ m. 512 ^ m) low in whole n (512 ^ q.level) e ∙ parts.1) in
        uses_taken leaf.0 (subst (λ t. uses_page st thread c t at_page ≡ true) (sym parts.0 ∙ ap (λ (x : Place). x.space) at)
        (subst (λ m. uses_page st thread c space m ≡ true) (number ∙ ap (λ (x : Place). x.prefix) at) uses))
      where
        whole : (n m : ℕ) → m ≡ 1 → n ≡ n / m
        whole n m e = let same : n / m ≡ n / 1 = ap (λ k. n / k) e in omega (arith, same)

    untaken_stays : is_taken st thread c kit p i ≡ false → (space n : ℕ) → has_page q space n ≡ true → KeepsPage a b space n
    untaken_stays t space n has = by (uses_page st thread c space n) refl
      where
        by : (u : Bool) → uses_page st thread c space n ≡ u → KeepsPage a b space n
        by false unused = unused_stays a b thread c kit made move after before counts space n unused
        by true uses = dite (ℕ_discrete q.level 0)
            (λ low. absurd (true≢false (sym (low_uses space n low has uses) ∙ t)))
            (λ high. plain_stays a b thread c kit made move after before counts space n uses (lone_plain now after p i inside table lone (omega (arith, high)) space n has))

    pub entry : IsWritableCell b thread c kit_frames kit_slots to_show to_hide q word cell
    entry = by (is_taken st thread c kit p i) refl
      where
        by : (t : Bool) → is_taken st thread c kit p i ≡ t → IsWritableCell b thread c kit_frames kit_slots to_show to_hide q word cell
        by false t =
            let stays = untaken_stays t in
            let same : cell ≡ old = is ∙ ap (λ u. cond u (drawn_cell old) old) t in
            inl (record {
              shows = subst (Shows now q) (sym same) (still_shows a b q lone stays old grown shows);
              spells = subst (λ (k : Cell). Spells now k word) (sym same) (still_spells a b q lone stays old word shows spells);
              bytes = subst (HasBytes b) (sym same) (still_bytes a b q lone stays old shows bytes);
              unused = λ stores low uses. absurd (true≢false (sym (low_uses q.space q.prefix low (own_page q low) (uses_same st now thread c q.space q.prefix move ∙ uses)) ∙ t));
            })
        by true t =
            let u = taken_uses t in
            let at = leaf_entry u.0 in
            let one : p.level ≡ 1 = u.0 in
            used_entry q (ap (λ (x : Place). x.level) at ∙ omega (arith, one)) (ap (λ (x : Place). x.space) at ∙ of_space (omega (arith, one)))
            (subst (λ t. uses_page st thread c t q.prefix ≡ true) (sym (ap (λ (x : Place). x.space) at)) (subst (λ n. uses_page st thread c p.space n ≡ true) (sym (ap (λ (x : Place). x.prefix) at)) u.1))
            lone old cell word shows spells (is ∙ ap (λ u. cond u (drawn_cell old) old) t) bytes
