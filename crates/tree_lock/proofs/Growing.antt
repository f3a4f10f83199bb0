-- The rows that a walk over the entries of a held row takes.
use Rattle.std.proofs.Common.{◌≡◌, ◌≢◌, ℕ, zero, suc, ◌+◌, ◌<◌, ◌≤◌, true, false, sym, ap, ◌∙◌, subst, refl, arith, ◌⊎◌, inl, inr, ⊎_elim, Some, None, List, [], ◌∷◌, ◌++◌, append_assoc}
use Rattle.std.specs.Prelude.{slice_index}
use Rattle.std.specs.List.{Contains}
use Rattle.std.proofs.lemmas.List.{append-nil, map-append}
use Rattle.std.proofs.lemmas.Bool.{cases_lt}
use Rattle.std.proofs.lemmas.List.Elements.{Contains-append_left, Contains-append_right, Contains-append_cases, Contains-push, Contains-push_cases}
use Rattle.table_place.specs.declared.Place.{Place}
use Rattle.table_place.specs.Place.{entry_place, is_place}
use Rattle.walk_core.specs.Words.{is_link, link_row, held_by}
use Rattle.walk_core.specs.Lists.{times}
use Rattle.walk_core.proofs.RowLists.{times-append, times-cons, times-nil}
use Rattle.row_table.specs.declared.view.PassView.{PassView}
use Rattle.row_table.specs.declared.view.HeldRow.{HeldRow as KnownRow}
use Rattle.row_table.specs.declared.view.Finding.{Finding}
use Rattle.row_table.specs.Rule.{row_part}
use Rattle.row_table.specs.Known.{IsAnother}
use Rattle.row_table.specs.Moves.{finding, grabbed, NotInHand}
use Rattle.tree_lock.specs.declared.zone.Zone.{Zone}
use Rattle.tree_lock.specs.declared.zone.Zone.TheVariants.{Pages, Space, Directory}
use Rattle.tree_lock.specs.declared.held.HeldRow.{HeldRow}
use Rattle.tree_lock.specs.declared.below.Spot.{Spot}
use Rattle.tree_lock.specs.Held.{row_numbers}
use Rattle.tree_lock.specs.Zone.{Meets, IsTable, IsMet}
use Rattle.tree_lock.specs.Reached.{IsOnTheWay, FoundNoLink, FoundJust, IsReached, LedTo, IsTaken}
use Rattle.tree_lock.proofs.Meeting.{IsTablePlace, child_parts}
use Rattle.table_place.specs.Place.{has_page}
use Rattle.table_place.proofs.Entries.{page_from}
use Rattle.table_place.proofs.Spans.{quotient_up}
use Rattle.std.proofs.Common.{◌-◌, ◌/◌, ◌^◌}
use Rattle.tree_lock.specs.Covers.{HoldsAt, LinksHeld, LinkedBy, IsOfCover, IsListed, IsListOf}
use Rattle.tree_lock.specs.Tries.{during, IsSameBut}
use Rattle.tree_lock.specs.Stages.{IsStaged, IsStage, AreThere, IsFresh, Sees, after_look, after_grab, GetsChild, MissesChild, Grew, IsBarred}
use Rattle.tree_lock.proofs.Rows.{numbers_inserted}
use Rattle.tree_lock.proofs.Meeting.{placed, child_is}
use Rattle.tree_lock.proofs.Going.{Going, Walked}

module _ {R B E : Type 0} where
  pub same_on : (v w u : PassView R B E) → IsSameBut v w → IsSameBut w u → IsSameBut v u
  same_on v w u a b = b ∙ ap (λ (y : PassView R B E). during y u.core.stand u.epoch u.core.held u.rows u.findings) a

module _ (levels : ℕ) where
  -- ---- positions

  pub table_of_met : (zone : Zone) (p : Place) → IsMet levels zone p → IsTable levels p
  table_of_met zone p (inl e) = inl e
  table_of_met zone p (inr h) = inr h.0

  -- a table that an entry leads to has a lower level
  pub child_lower : levels < 6 → (p : Place) (i : ℕ) → IsTable levels p → is_place levels (entry_place levels p i) ≡ true → (entry_place levels p i).level < p.level
  child_lower few p i (inl e) h = subst (λ (q : Place). (entry_place levels q i).level < q.level) (sym e) (omega arith)
  child_lower few p i (inr is) h = let at = placed levels few p is in let low = at.low in let high = at.high in let e = ap (λ (q : Place). q.level) (child_is levels p i (omega arith)) in omega arith

  -- two entries of tables lead to two positions
  child_of_one : levels < 6 → (p q : Place) (i j : ℕ) → IsTable levels p → is_place levels q ≡ true → i < 512 → j < 512 → entry_place levels p i ≡ entry_place levels q j → p ≡ q
  child_of_one small p q i j (inl e) is few fits same =
      let at = placed levels small q is in let low = at.low in let high = at.high in
      let a = ap (λ (x : Place). x.level) (sym (ap (λ (x : Place). entry_place levels x i) e) ∙ same ∙ child_is levels q j (omega arith)) in absurd (omega arith)
  child_of_one small p q i j (inr table) is few fits same =
      let at = placed levels small p table in let to = placed levels small q is in let low = at.low in let high = at.high in let low2 = to.low in let high2 = to.high in
      let e = sym (child_is levels p i (omega arith)) ∙ same ∙ child_is levels q j (omega arith) in
      let s = ap (λ (x : Place). x.space) e in let l = ap (λ (x : Place). x.level) e in let f = ap (λ (x : Place). x.prefix) e in
      let level : p.level ≡ q.level = omega arith in let prefix : p.prefix ≡ q.prefix = omega arith in
      λ k. record { space = s k; level = level k; prefix = prefix k }

  pub other_entry : levels < 6 → (p : Place) (i j : ℕ) → IsTable levels p → i ≢ j → entry_place levels p i ≢ entry_place levels p j
  other_entry few p i j (inl e) ne same = ne (ap (λ (x : Place). x.space) (sym (ap (λ (x : Place). entry_place levels x i) e) ∙ same ∙ ap (λ (x : Place). entry_place levels x j) e))
  other_entry few p i j (inr table) ne same =
      let at = placed levels few p table in let high = at.high in
      let f = ap (λ (x : Place). x.prefix) (sym (child_is levels p i (omega arith)) ∙ same ∙ child_is levels p j (omega arith)) in ne (omega arith)

  same_level : levels < 6 → (p : Place) (i j : ℕ) → IsTable levels p → (entry_place levels p i).level ≡ (entry_place levels p j).level
  same_level few p i j (inl e) = ap (λ (q : Place). (entry_place levels q i).level) e ∙ sym (ap (λ (q : Place). (entry_place levels q j).level) e)
  same_level few p i j (inr table) = let at = placed levels few p table in let high = at.high in
      ap (λ (q : Place). q.level) (child_is levels p i (omega arith)) ∙ sym (ap (λ (q : Place). q.level) (child_is levels p j (omega arith)))

  -- ---- findings that are more

  module _ (zone : Zone) (fs gs : List Finding) where
    more_found : (f : Finding) → Contains fs f → Contains (fs ++ gs) f
    more_found f has = Contains-append_left fs gs f has

    no_link_more : (row : ℕ) (place : Place) → FoundNoLink levels zone fs row place → FoundNoLink levels zone (fs ++ gs) row place
    no_link_more row place n = record { index = n.index; inside = n.inside; meets = n.meets; word = n.word; look = more_found _ n.look; none = n.none }

    just_more : (row : ℕ) (place : Place) → FoundJust levels zone fs row place → FoundJust levels zone (fs ++ gs) row place
    just_more row place n = record { strict = n.strict; index = n.index; inside = n.inside; all = n.all; just = n.just; word = n.word; look = more_found _ n.look; link = n.link }

    led_more : (row : ℕ) (place : Place) (child : ℕ) (below : Place) → LedTo levels zone fs row place child below → LedTo levels zone (fs ++ gs) row place child below
    led_more row place child below l = record { index = l.index; inside = l.inside; is_below = l.is_below; meets = l.meets; word = l.word; look = more_found _ l.look; link = l.link; to_row = l.to_row }

  pub reached_more : (zone : Zone) (fs gs : List Finding) (row : ℕ) (place : Place) → IsReached levels zone fs row place → IsReached levels zone (fs ++ gs) row place
  reached_more (Pages s f c b) fs gs row place h = (h.0, ⊎_elim (λ two. inl two) (λ one. inr (⊎_elim (λ none. inl (no_link_more (Pages s f c b) fs gs row place none)) (λ just. inr (just_more (Pages s f c b) fs gs row place just)) one)) h.1)
  reached_more (Space s) fs gs row place h = h
  reached_more Directory fs gs row place h = h

  -- what is on the way below an entry is on the way at the table
  up_page : (p : Place) (i s n : ℕ) → IsTablePlace levels p → i < 512 → has_page (entry_place levels p i) s n ≡ true → has_page p s n ≡ true
  up_page p i s n at inside h =
      let is = child_parts levels p i at s n h in
      let low = at.low in
      let up : n / 512 ^ (p.level - 1 + 1) ≡ n / 512 ^ (p.level - 1) / 512 = quotient_up n (p.level - 1) in
      let same : p.level - 1 + 1 ≡ p.level = omega arith in
      let there : n / 512 ^ p.level ≡ n / 512 ^ (p.level - 1) / 512 = ap (λ (k : ℕ). n / 512 ^ k) (sym same) ∙ up in
      let number = is.1 in
      page_from p s n (let high = at.high in omega arith) is.0 (omega arith)

  way_up : levels < 6 → (zone : Zone) (p : Place) (i : ℕ) → is_place levels p ≡ true → i < 512 → IsOnTheWay zone (entry_place levels p i) → IsOnTheWay zone p
  way_up small (Pages s f c b) p i is inside way = record {
    all = λ t n has. up_page p i t n (placed levels small p is) inside (way.all t n has);
    greater = λ strict lies. way.greater strict (λ t n h. lies t n (up_page p i t n (placed levels small p is) inside h));
  }
  way_up small (Space s) p i is inside way = absurd way
  way_up small Directory p i is inside way = absurd way

  pub taken_more : (zone : Zone) (fs gs : List Finding) (n row : ℕ) (place : Place) → IsTaken levels zone fs n row place → IsTaken levels zone (fs ++ gs) n row place
  taken_more zone fs gs zero row place h = (reached_more zone fs gs row place h.0, Contains-append_left fs gs _ h.1)
  taken_more zone fs gs (suc n) row place h = (h.0, h.1, taken_more zone fs gs n h.0 h.1 h.2, led_more zone fs gs h.0 h.1 row place h.3, Contains-append_left fs gs _ h.4)

  module _ {R : Type 0} where
    -- ---- rows that are more

    rows_more : (old new more : List (KnownRow R)) → new ≡ old ++ more → (h : KnownRow R) → Contains old h → Contains new h
    rows_more old new more e h has = subst (λ (l : List (KnownRow R)). Contains l h) (sym e) (Contains-append_left old more h has)

    pub holds_more : (old new more : List (KnownRow R)) → new ≡ old ++ more → (row : ℕ) (place : Place) → HoldsAt old row place → HoldsAt new row place
    holds_more old new more e row place h = record { known = h.known; held = rows_more old new more e h.known h.held; same_row = h.same_row; same_place = h.same_place }

    links_more : (zone : Zone) (old new more : List (KnownRow R)) → new ≡ old ++ more → (h : KnownRow R) → LinksHeld levels zone old h → LinksHeld levels zone new h
    links_more zone old new more e h links index few link meets = holds_more old new more e _ _ (links index few link meets)

    linked_more : (zone : Zone) (old new more : List (KnownRow R)) → new ≡ old ++ more → (row : ℕ) (place : Place) → LinkedBy levels zone old row place → LinkedBy levels zone new row place
    linked_more zone old new more e row place l = record { linker = l.linker; held = rows_more old new more e l.linker l.held; index = l.index; inside = l.inside; link = l.link; to_row = l.to_row; is_below = l.is_below; meets = l.meets }

    -- ---- a walk over the entries

    pub going_start : (zone : Zone) (at : Spot) (v : List (KnownRow R)) (first end : ℕ) → ((index : ℕ) → index < 512 → Meets zone (entry_place levels at.place index) → (first ≤ index) × (index < end)) → IsFresh levels v at.place 0 → Going levels zone at v v first
    going_start zone at v first end all fresh = record {
      more = [];
      rows = sym (append-nil v);
      lower = λ h has. absurd (let less = has.1 in omega arith);
      done = λ h has. absurd (let less = has.1 in omega arith);
      so_far = λ h has row place index less few link meets. absurd (let low = (all index few (subst (λ (p : Place). Meets zone (entry_place levels p index)) place meets)).0 in omega arith);
      fresh = λ h has index low few. fresh h has index (omega arith) few;
    }

    pub going_none : (zone : Zone) (at : Spot) (v w u : List (KnownRow R)) (i word : ℕ) → Going levels zone at v w i → u ≡ w → Sees w at i word → is_link word ≡ false → Going levels zone at v u (i + 1)
    going_none zone at v w u i word g same sees none = record {
      more = g.more;
      rows = same ∙ g.rows;
      lower = g.lower;
      done = λ h has. links_more zone w u [] grown h (g.done h has);
      so_far = λ h has row place index less few link meets. ⊎_elim
          (λ (before : index < i). holds_more w u [] grown _ _ (g.so_far h has row place index before few link meets))
          (λ (here : i ≤ index). let is : index ≡ i = omega arith in
          let sees_it = sees h (rows_more v w g.more g.rows h has) row in let no = ap is_link (ap (slice_index h.words) is ∙ sym sees_it) ∙ none in absurd (let yes = link in cc)) (cases_lt index i);
      fresh = λ h has index low few. g.fresh h (subst (λ (l : List (KnownRow R)). Contains l h) same has) index (omega arith) few;
    }
      where
        grown : u ≡ w ++ []
        grown = same ∙ sym (append-nil w)

    pub going_end : (zone : Zone) (at : Spot) (v w : List (KnownRow R)) (i first end : ℕ) → Going levels zone at v w i → end ≤ i → ((index : ℕ) → index < 512 → Meets zone (entry_place levels at.place index) → (first ≤ index) × (index < end)) → Grew levels zone at v w
    going_end zone at v w i first end g past all = record {
      more = g.more;
      rows = g.rows;
      lower = g.lower;
      done = g.done;
      here = λ h has row place index few link meets. let less = (all index few (subst (λ (p : Place). Meets zone (entry_place levels p index)) place meets)).1 in g.so_far h has row place index (omega arith) few link meets;
    }

  module _ {R B E : Type 0} where
    -- ---- the stage

    pub are_there : (zone : Zone) (top : KnownRow R) (v : PassView R B E) (xs : List (HeldRow R)) → IsStage levels zone top v xs → AreThere v
    are_there zone top v xs s h has = (s.each h has).of_cover.there

    pub met_at : (zone : Zone) (top : KnownRow R) (v : PassView R B E) (xs : List (HeldRow R)) (row : ℕ) (place : Place) → IsStage levels zone top v xs → HoldsAt v.rows row place → IsMet levels zone place
    met_at zone top v xs row place s h = subst (IsMet levels zone) h.same_place (s.each h.known h.held).of_cover.met

    -- after findings alone
    abbrev with_findings : PassView R B E → List Finding → PassView R B E
    with_findings v more = record v { findings = v.findings ++ more }

    pub stage_found : (zone : Zone) (top : KnownRow R) (v w : PassView R B E) (xs ys : List (HeldRow R)) (more : List Finding) → w ≡ with_findings v more → ys ≡ xs → IsStage levels zone top v xs → IsStage levels zone top w ys
    stage_found zone top v w xs ys more e same s = subst (λ (l : List (HeldRow R)). IsStage levels zone top w l) (sym same) (subst (λ (y : PassView R B E). IsStage levels zone top y xs) (sym e) (record {
      outside = s.outside;
      list = s.list;
      below = s.below;
      rows = s.rows;
      each = λ h has. let a = s.each h has in record { of_cover = a.of_cover; in_tree = a.in_tree; links = a.links; taken = taken_more zone v.findings more a.links h.row h.place a.taken; lowest = a.lowest };
      linked = s.linked;
    }))

    -- ---- a child that was taken

    module _ (zone : Zone) (v w : PassView R B E) (xs ys : List (HeldRow R)) (at : Spot) (index : ℕ) (child : Spot) (inside : index < 512) (h : HoldsAt v.rows at.row at.place) (gets : GetsChild levels v xs at index child w ys) where
      abbrev new_row : KnownRow R
      new_row = grabbed child.row child.place gets.generation gets.words gets.content

      child_rows : w.rows ≡ v.rows ++ new_row ∷ []
      child_rows = ap (λ (y : PassView R B E). y.rows) gets.now

      pub holds_child : HoldsAt w.rows child.row child.place
      holds_child = record { known = new_row; held = subst (λ (l : List (KnownRow R)). Contains l new_row) (sym child_rows) (Contains-push v.rows new_row); same_row = refl; same_place = refl }

      child_table : is_place levels (entry_place levels at.place index) ≡ true
      child_table = ap (is_place levels) (sym gets.is_below) ∙ gets.table

      child_level : IsTable levels at.place → child.place.level < at.place.level
      child_level table = subst (λ (p : Place). p.level < at.place.level) (sym gets.is_below) (child_lower gets.few at.place index table child_table)

      -- the entry that links it
      abbrev linked_child : Meets zone child.place → LinkedBy levels zone w.rows child.row child.place
      linked_child meets = record {
        linker = h.known;
        held = subst (λ (l : List (KnownRow R)). Contains l h.known) (sym child_rows) (Contains-append_left v.rows (new_row ∷ []) h.known h.held);
        index = index;
        inside = inside;
        link = ap is_link (sym (gets.sees h.known h.held h.same_row)) ∙ gets.link;
        to_row = ap link_row (sym (gets.sees h.known h.held h.same_row)) ∙ gets.to_row;
        is_below = gets.is_below ∙ ap (λ (p : Place). entry_place levels p index) (sym h.same_place);
        meets = meets;
      }

      -- below it no row is held
      pub fresh_child : (top : KnownRow R) → IsStage levels zone top v xs → IsTable levels at.place → IsFresh levels v.rows at.place index → IsFresh levels w.rows child.place 0
      fresh_child top s table fresh q has j low few same = ⊎_elim (λ (old : Contains v.rows q). old_one old) (λ (e : new_row ≡ q). new_one e) (Contains-push_cases v.rows new_row q (subst (λ (l : List (KnownRow R)). Contains l q) child_rows has))
        where
          lower : child.place.level < at.place.level
          lower = child_level table

          low_level : (entry_place levels child.place j).level < child.place.level
          low_level = let at_child = placed levels gets.few child.place gets.table in let k = at_child.low in let high = at_child.high in let e = ap (λ (p : Place). p.level) (child_is levels child.place j (omega arith)) in omega arith

          new_one : new_row ≡ q → ⊥
          new_one e = let l : child.place.level ≡ (entry_place levels child.place j).level = ap (λ (p : Place). p.level) (ap (λ (y : KnownRow R). y.place) e ∙ same) in let less = low_level in omega arith

          deeper : Contains s.below q → ⊥
          deeper in_below = let l = s.linked q in_below in let t = table_of_met zone l.linker.place (s.each l.linker l.held).of_cover.met in
              let e = child_of_one gets.few l.linker.place child.place l.index j t gets.table l.inside few (sym l.is_below ∙ same) in
              fresh l.linker l.held index (omega arith) inside (e ∙ gets.is_below)

          is_top : top ≡ q → ⊥
          is_top e = let a = (s.each h.known h.held).of_cover.level in let p = ap (λ (x : Place). x.level) h.same_place in let l = ap (λ (x : Place). x.level) (ap (λ (y : KnownRow R). y.place) e ∙ same) in let less = low_level in let low_child = lower in omega arith

          old_one : Contains v.rows q → ⊥
          old_one old = ⊎_elim (λ (one : Contains (top ∷ []) q). ⊎_elim (λ (none : Contains [] q). none_there none) is_top (Contains-push_cases [] top q one)) deeper
              (Contains-append_cases (top ∷ []) s.below q (subst (λ (l : List (KnownRow R)). Contains l q) s.rows old))
            where
              none_there : Contains [] q → ⊥
              none_there none = let less = none.1 in omega arith

      listed_child : IsListOf v.core.held v.rows xs → IsListOf w.core.held w.rows ys
      listed_child list = subst (λ (y : PassView R B E). IsListOf y.core.held y.rows ys) (sym gets.now) (record {
        exact = record { held = same_rows; shown = map-append row_part v.rows (new_row ∷ []) ∙ ap (λ (l : List ℕ). l ++ child.row ∷ []) list.exact.shown };
        each = each;
      })
        where
          new : HeldRow R
          new = record { row = child.row; place = child.place; generation = gets.generation; content = gets.content }

          same_rows : (r : ℕ) → times r (row_numbers ys) ≡ times r (v.core.held ++ child.row ∷ [])
          same_rows r = let a = numbers_inserted (record { row = child.row; place = child.place; generation = gets.generation; content = gets.content }) xs ys gets.inserted r in let o = list.exact.held r in
              let b = times-append r v.core.held (child.row ∷ []) in let c = times-cons r child.row [] in let n = times-nil r in omega arith

          old_listed : (x : HeldRow R) → Contains xs x → IsListed (v.rows ++ new_row ∷ []) x
          old_listed x has = let l = list.each x has in record { known = l.known; held = Contains-append_left v.rows (new_row ∷ []) l.known l.held; same_row = l.same_row; same_place = l.same_place; same_generation = l.same_generation; found = l.found; not_given = l.not_given; same_words = l.same_words }

          each : (x : HeldRow R) → Contains ys x → IsListed (v.rows ++ new_row ∷ []) x
          each x has = let i = gets.inserted in ⊎_elim
              (λ (front : Contains i.before x). old_listed x (subst (λ (l : List (HeldRow R)). Contains l x) (sym i.was) (Contains-append_left i.before i.after x front)))
              (λ (rest : Contains (record { row = child.row; place = child.place; generation = gets.generation; content = gets.content } ∷ i.after) x). ⊎_elim
              (λ (one : Contains (record { row = child.row; place = child.place; generation = gets.generation; content = gets.content } ∷ []) x). ⊎_elim (λ (none : Contains [] x). absurd (let less = none.1 in omega arith))
              (λ (e : record { row = child.row; place = child.place; generation = gets.generation; content = gets.content } ≡ x). subst (IsListed (v.rows ++ new_row ∷ [])) e
              (record { known = new_row; held = Contains-push v.rows new_row; same_row = refl; same_place = refl; same_generation = refl; found = refl; not_given = refl; same_words = refl }))
              (Contains-push_cases [] _ x one))
              (λ (back : Contains i.after x). old_listed x (subst (λ (l : List (HeldRow R)). Contains l x) (sym i.was) (Contains-append_right i.before i.after x back)))
              (Contains-append_cases (record { row = child.row; place = child.place; generation = gets.generation; content = gets.content } ∷ []) i.after x rest))
              (Contains-append_cases i.before _ x (subst (λ (l : List (HeldRow R)). Contains l x) i.is has))

      pub stage_child : (top : KnownRow R) → IsTable levels at.place → Meets zone (entry_place levels at.place index) → IsStage levels zone top v xs → IsStage levels zone top w ys
      stage_child top table meets s = record {
        outside = subst (λ (y : PassView R B E). y.core.stand ≡ None) (sym gets.now) s.outside;
        list = listed_child s.list;
        below = s.below ++ new_row ∷ [];
        rows = child_rows ∙ ap (λ (l : List (KnownRow R)). l ++ new_row ∷ []) s.rows;
        each = λ q has. ⊎_elim (λ (old : Contains v.rows q). old_staged q old) (λ (e : new_row ≡ q). subst (IsStaged levels zone top w) e new_staged) (Contains-push_cases v.rows new_row q (subst (λ (l : List (KnownRow R)). Contains l q) child_rows has));
        linked = λ q has. ⊎_elim (λ (old : Contains s.below q). linked_more zone v.rows w.rows (new_row ∷ []) child_rows q.row q.place (s.linked q old))
            (λ (e : new_row ≡ q). subst (λ (y : KnownRow R). LinkedBy levels zone w.rows y.row y.place) e (linked_child met)) (Contains-push_cases s.below new_row q has);
      }
        where
          met : Meets zone child.place
          met = subst (Meets zone) (sym gets.is_below) meets

          look : Finding
          look = finding at.row at.place (Some index) gets.word

          grab : Finding
          grab = finding child.row child.place None 0

          found : w.findings ≡ v.findings ++ (finding at.row at.place (Some index) gets.word ∷ finding child.row child.place None 0 ∷ [])
          found = ap (λ (y : PassView R B E). y.findings) gets.now ∙ append_assoc v.findings (finding at.row at.place (Some index) gets.word ∷ []) (finding child.row child.place None 0 ∷ [])

          more : (n row : ℕ) (place : Place) → IsTaken levels zone v.findings n row place → IsTaken levels zone w.findings n row place
          more n row place t = subst (λ (fs : List Finding). IsTaken levels zone fs n row place) (sym found) (taken_more zone v.findings (finding at.row at.place (Some index) gets.word ∷ finding child.row child.place None 0 ∷ []) n row place t)

          old_staged : (q : KnownRow R) → Contains v.rows q → IsStaged levels zone top w q
          old_staged q old = let a = s.each q old in record { of_cover = subst (λ (y : PassView R B E). IsOfCover levels y.layout.rows zone top q) (sym gets.now) a.of_cover; in_tree = subst (λ (y : PassView R B E). NotInHand y q.row) (sym gets.now) a.in_tree; links = a.links; taken = more a.links q.row q.place a.taken; lowest = a.lowest }

          off_way : ¬ (IsOnTheWay zone (entry_place levels at.place index))
          off_way way =
              let none = (s.each h.known h.held).lowest index inside (subst (λ (p : Place). IsOnTheWay zone (entry_place levels p index)) (sym h.same_place) way) in
              let yes : is_link (slice_index h.known.words index) ≡ true = ap is_link (sym (gets.sees h.known h.held h.same_row)) ∙ gets.link in
              absurd (cc)

          new_staged : IsStaged levels zone top w new_row
          new_staged = let a = s.each h.known h.held in record {
            of_cover = record {
              met = inr (gets.table, met);
              level = let l = child_level table in let b = a.of_cover.level in let p = ap (λ (x : Place). x.level) h.same_place in omega arith;
              there = subst (λ (y : PassView R B E). child.row < y.layout.rows) (sym gets.now) gets.there;
              placed = gets.placed;
            };
            in_tree = subst (λ (y : PassView R B E). NotInHand y child.row) (sym gets.now) gets.in_tree;
            links = suc a.links;
            taken = (
              at.row,
              at.place,
              subst (λ (p : Place). IsTaken levels zone w.findings a.links at.row p) h.same_place (subst (λ (r : ℕ). IsTaken levels zone w.findings a.links r h.known.place) h.same_row (more a.links h.known.row h.known.place a.taken)),
              record { index = index; inside = inside; is_below = gets.is_below; meets = met; word = gets.word; look = subst (λ (fs : List Finding). Contains fs (finding at.row at.place (Some index) gets.word)) (sym found) (Contains-append_right v.findings _ _ (0, omega arith, refl)); link = gets.link; to_row = gets.to_row },
              subst (λ (fs : List Finding). Contains fs (finding child.row child.place None 0)) (sym found) (Contains-append_right v.findings _ _ (1, omega arith, refl)),
            );
            lowest = λ i few way. absurd (off_way (subst (IsOnTheWay zone) gets.is_below (way_up gets.few zone child.place i gets.table few way)));
          }

    module _ (zone : Zone) (at : Spot) (v : List (KnownRow R)) (w u t : PassView R B E) (xs ys : List (HeldRow R)) (i : ℕ) (child : Spot) (g : Going levels zone at v w.rows i) (inside : i < 512) (table : IsTable levels at.place) (h : HoldsAt w.rows at.row at.place) (gets : GetsChild levels w xs at i child u ys) (grew : Grew levels zone child u.rows t.rows) where
      abbrev child_is_row : KnownRow R
      child_is_row = grabbed child.row child.place gets.generation gets.words gets.content

      u_rows : u.rows ≡ w.rows ++ child_is_row ∷ []
      u_rows = ap (λ (y : PassView R B E). y.rows) gets.now

      t_rows : t.rows ≡ w.rows ++ (child_is_row ∷ grew.more)
      t_rows = grew.rows ∙ ap (λ (l : List (KnownRow R)). l ++ grew.more) u_rows ∙ append_assoc w.rows (child_is_row ∷ []) grew.more

      lower_child : child.place.level < at.place.level
      lower_child = child_level zone w u xs ys at i child inside h gets table

      child_there : Contains t.rows child_is_row
      child_there = subst (λ (l : List (KnownRow R)). Contains l child_is_row) (sym t_rows) (Contains-append_right w.rows (child_is_row ∷ grew.more) child_is_row (0, omega arith, refl))

      cases : (q : KnownRow R) → Contains (child_is_row ∷ grew.more) q → (child_is_row ≡ q) ⊎ Contains grew.more q
      cases q has = ⊎_elim (λ (one : Contains (child_is_row ∷ []) q). ⊎_elim (λ (none : Contains [] q). absurd (let less = none.1 in omega arith)) (λ (e : child_is_row ≡ q). inl e) (Contains-push_cases [] child_is_row q one)) (λ (back : Contains grew.more q). inr back)
          (Contains-append_cases (child_is_row ∷ []) grew.more q has)

      pub going_child : Going levels zone at v t.rows (i + 1)
      going_child = record {
        more = g.more ++ (child_is_row ∷ grew.more);
        rows = t_rows ∙ ap (λ (l : List (KnownRow R)). l ++ (child_is_row ∷ grew.more)) g.rows ∙ append_assoc v g.more (child_is_row ∷ grew.more);
        lower = λ q has. ⊎_elim (λ (old : Contains g.more q). g.lower q old) (λ (new : Contains (child_is_row ∷ grew.more) q). ⊎_elim
            (λ (e : child_is_row ≡ q). subst (λ (y : KnownRow R). y.place.level < at.place.level) e lower_child)
            (λ (back : Contains grew.more q). let less = grew.lower q back in let l = lower_child in omega arith) (cases q new)) (Contains-append_cases g.more (child_is_row ∷ grew.more) q has);
        done = λ q has. ⊎_elim (λ (old : Contains g.more q). links_more zone w.rows t.rows (child_is_row ∷ grew.more) t_rows q (g.done q old)) (λ (new : Contains (child_is_row ∷ grew.more) q). ⊎_elim
            (λ (e : child_is_row ≡ q). subst (LinksHeld levels zone t.rows) e (grew.here child_is_row (subst (λ (l : List (KnownRow R)). Contains l child_is_row) (sym u_rows) (Contains-push w.rows child_is_row)) refl refl))
            (λ (back : Contains grew.more q). grew.done q back) (cases q new)) (Contains-append_cases g.more (child_is_row ∷ grew.more) q has);
        so_far = λ q has row place index less few link meets. ⊎_elim
            (λ (before : index < i). holds_more w.rows t.rows (child_is_row ∷ grew.more) t_rows _ _ (g.so_far q has row place index before few link meets))
            (λ (here : i ≤ index). let is : index ≡ i = omega arith in found_here q has row place index is) (cases_lt index i);
        fresh = fresh_next;
      }
        where
          found_here : (q : KnownRow R) → Contains v q → q.row ≡ at.row → q.place ≡ at.place → (index : ℕ) → index ≡ i → HoldsAt t.rows (link_row (slice_index q.words index)) (entry_place levels q.place index)
          found_here q has row place index is = record {
            known = child_is_row;
            held = child_there;
            same_row = sym gets.to_row ∙ ap link_row (gets.sees q (rows_more v w.rows g.more g.rows q has) row ∙ ap (slice_index q.words) (sym is));
            same_place = gets.is_below ∙ (λ j. entry_place levels (sym place j) (sym is j));
          }

          fresh_next : IsFresh levels t.rows at.place (i + 1)
          fresh_next q has index low few same = ⊎_elim
              (λ (old : Contains w.rows q). g.fresh q old index (omega arith) few same)
              (λ (new : Contains (child_is_row ∷ grew.more) q). ⊎_elim
              (λ (e : child_is_row ≡ q). other_entry gets.few at.place i index table (omega arith) (sym gets.is_below ∙ ap (λ (y : KnownRow R). y.place) e ∙ same))
              (λ (back : Contains grew.more q). let less = grew.lower q back in let l = same_level gets.few at.place i index table in let b = ap (λ (p : Place). p.level) gets.is_below in let s = ap (λ (p : Place). p.level) same in omega arith) (cases q new))
              (Contains-append_cases w.rows (child_is_row ∷ grew.more) q (subst (λ (l : List (KnownRow R)). Contains l q) t_rows has))

    -- ---- a row below that another pass holds

    module _ (zone : Zone) (top : KnownRow R) (w u : PassView R B E) (xs ys : List (HeldRow R)) (at : Spot) (i row seat : ℕ) (s : IsStage levels zone top w xs) (misses : MissesChild levels w xs at i row seat u ys) where
      found_both : u ≡ with_findings w (finding at.row at.place (Some i) misses.word ∷ finding (link_row misses.word) (entry_place levels at.place i) None (held_by seat) ∷ [])
      found_both = misses.now ∙ (λ j. record w { findings = append_assoc w.findings (finding at.row at.place (Some i) misses.word ∷ []) (finding (link_row misses.word) (entry_place levels at.place i) None (held_by seat) ∷ []) j })

      pub stage_barred : IsStage levels zone top u ys
      stage_barred = stage_found zone top w u xs ys _ found_both misses.same s

      pub barred : HoldsAt w.rows at.row at.place → i < 512 → Meets zone (entry_place levels at.place i) → IsBarred levels zone u (record { row = row; seat = seat })
      barred h inside meets = record {
        another = subst (λ (y : PassView R B E). IsAnother y seat) (sym misses.now) (record { there = misses.another.there; other = misses.another.other });
        place = entry_place levels at.place i;
        last = record {
          before = w.findings ++ finding at.row at.place (Some i) misses.word ∷ [];
          after = [];
          split = ap (λ (y : PassView R B E). y.findings) misses.now ∙ ap (λ (r : ℕ). (w.findings ++ finding at.row at.place (Some i) misses.word ∷ []) ++ finding r (entry_place levels at.place i) None (held_by seat) ∷ []) misses.to_row;
          looks = λ f has. absurd (let less = has.1 in omega arith);
        };
        is_below = record {
          count = staged.links;
          linker = at.row;
          above = at.place;
          taken = subst (λ (p : Place). IsTaken levels zone u.findings staged.links at.row p) h.same_place (subst (λ (r : ℕ). IsTaken levels zone u.findings staged.links r h.known.place) h.same_row
              (subst (λ (fs : List Finding). IsTaken levels zone fs staged.links h.known.row h.known.place) (sym found) (taken_more zone w.findings _ staged.links h.known.row h.known.place staged.taken)));
          not_on_the_way = off_way;
          leads = record { index = i; inside = inside; is_below = refl; meets = meets; word = misses.word; look = subst (λ (fs : List Finding). Contains fs (finding at.row at.place (Some i) misses.word)) (sym found) (Contains-append_right w.findings _ _ (0, omega arith, refl)); link = misses.link; to_row = misses.to_row };
        };
      }
        where
          staged : IsStaged levels zone top w h.known
          staged = s.each h.known h.held

          off_way : ¬ (IsOnTheWay zone (entry_place levels at.place i))
          off_way way =
              let none = staged.lowest i inside (subst (λ (p : Place). IsOnTheWay zone (entry_place levels p i)) (sym h.same_place) way) in
              let yes : is_link (slice_index h.known.words i) ≡ true = ap is_link (sym (misses.sees h.known h.held h.same_row)) ∙ misses.link in
              absurd (cc)

          found : u.findings ≡ w.findings ++ (finding at.row at.place (Some i) misses.word ∷ finding (link_row misses.word) (entry_place levels at.place i) None (held_by seat) ∷ [])
          found = ap (λ (y : PassView R B E). y.findings) found_both

    pub kept_barred : (w u : PassView R B E) (xs ys : List (HeldRow R)) (at : Spot) (i row seat : ℕ) → MissesChild levels w xs at i row seat u ys → IsSameBut w u
    kept_barred w u xs ys at i row seat misses = subst (IsSameBut w) (sym misses.now) refl

    pub kept_child : (w u : PassView R B E) (xs ys : List (HeldRow R)) (at : Spot) (i : ℕ) (child : Spot) → GetsChild levels w xs at i child u ys → IsSameBut w u
    kept_child w u xs ys at i child gets = subst (IsSameBut w) (sym gets.now) refl

    -- ---- what a walk has done

    pub walked_none : (zone : Zone) (at : Spot) (v w u : PassView R B E) (xs ys zs : List (HeldRow R)) (i word : ℕ) → Walked levels zone at v xs w ys i → Sees w.rows at i word → is_link word ≡ false → u ≡ after_look w at i word → zs ≡ ys → Walked levels zone at v xs u zs (i + 1)
    walked_none zone at v w u xs ys zs i word k sees none now same = record {
      kept = same_on v w u k.kept (subst (IsSameBut w) (sym now) refl);
      epoch = ap (λ (y : PassView R B E). y.epoch) now ∙ k.epoch;
      stage = λ top s. stage_found zone top w u ys zs _ now same (k.stage top s);
      going = going_none zone at v.rows w.rows u.rows i word k.going (ap (λ (y : PassView R B E). y.rows) now) sees none;
    }

    pub walked_child : (zone : Zone) (at : Spot) (v w u t : PassView R B E) (xs ys zs ts : List (HeldRow R)) (i : ℕ) (child : Spot) → Walked levels zone at v xs w ys i → i < 512 → IsTable levels at.place → HoldsAt v.rows at.row at.place → Meets zone (entry_place levels at.place i)
        → GetsChild levels w ys at i child u zs → IsSameBut u t → t.epoch ≡ u.epoch → ((top : KnownRow R) → IsStage levels zone top u zs → IsStage levels zone top t ts) → Grew levels zone child u.rows t.rows → Walked levels zone at v xs t ts (i + 1)
    walked_child zone at v w u t xs ys zs ts i child k inside table h meets gets kept epoch stage grew =
        let here : HoldsAt w.rows at.row at.place = holds_more v.rows w.rows k.going.more k.going.rows at.row at.place h in
        record {
          kept = same_on v u t (same_on v w u k.kept (kept_child w u ys zs at i child gets)) kept;
          epoch = epoch ∙ ap (λ (y : PassView R B E). y.epoch) gets.now ∙ k.epoch;
          stage = λ top s. stage top (stage_child zone w u ys zs at i child inside here gets top table meets (k.stage top s));
          going = going_child zone at v.rows w u t ys zs i child k.going inside table here gets grew;
        }

    pub walked_same : (zone : Zone) (at : Spot) (v w u : PassView R B E) (xs ys zs : List (HeldRow R)) (i : ℕ) → w ≡ u → ys ≡ zs → Walked levels zone at v xs u zs i → Walked levels zone at v xs w ys i
    walked_same zone at v w u xs ys zs i e f k = subst (λ (y : PassView R B E). Walked levels zone at v xs y ys i) (sym e) (subst (λ (l : List (HeldRow R)). Walked levels zone at v xs u l i) (sym f) k)
