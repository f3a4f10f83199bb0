-- What a pass knows of the row to which its descent came.
use Rattle.std.proofs.Common.{◌≡◌, ◌≢◌, ℕ, ◌<◌, true, false, Bool, sym, ap, ◌∙◌, subst, refl, arith, ◌⊎◌, inl, inr, ⊎_elim, Some, None, List, [], ◌∷◌, ◌++◌, IsSome, append_assoc}
use Rattle.std.specs.Prelude.{slice_index}
use Rattle.std.specs.List.{Contains}
use Rattle.std.proofs.lemmas.List.Elements.{Contains-append_left, Contains-append_right, Contains-push_cases}
use Rattle.std.proofs.lemmas.List.{append-nil}
use Rattle.table_place.specs.declared.Place.{Place}
use Rattle.table_place.specs.Place.{directory, entry_place, has_page, root}
use Rattle.table_place.proofs.Entries.{page_parts}
use Rattle.walk_core.specs.declared.pass.Stand.{Stand}
use Rattle.walk_core.specs.Words.{is_link, held_by}
use Rattle.walk_core.specs.Lists.{times, Has}
use Rattle.walk_core.proofs.RowLists.{times-nil}
use Rattle.row_table.specs.declared.view.PassView.{PassView}
use Rattle.row_table.specs.declared.view.HeldRow.{HeldRow as KnownRow}
use Rattle.row_table.specs.declared.view.Finding.{Finding}
use Rattle.row_table.specs.Plan.{Meaning}
use Rattle.row_table.specs.Known.{IsHolder, IsAnother, IsLoose, IsKnownPlace, IsPlaced}
use Rattle.row_table.specs.Moves.{finding, grabbed, got, looked, Finds, Fits}
use Rattle.tree_lock.specs.declared.zone.Zone.{Zone}
use Rattle.tree_lock.specs.declared.zone.Zone.TheVariants.{Pages, Space, Directory}
use Rattle.tree_lock.specs.declared.ways.Way.{Way}
use Rattle.tree_lock.specs.declared.ways.Way.TheVariants.{Down, Just, Here}
use Rattle.tree_lock.specs.Zone.{ZoneHas, IsZone, Meets, HasAll, LiesIn, Spans, MeetsTwo, IsTable}
use Rattle.tree_lock.specs.Ways.{IsWay, IsHere}
use Rattle.tree_lock.specs.Reached.{FoundNoLink, FoundJust, IsReached}
use Rattle.tree_lock.specs.Covers.{IsLowest, IsTop}
use Rattle.tree_lock.specs.Tries.{IsPages}
use Rattle.tree_lock.specs.Descents.{IsOver, Stands, HasLevels, has_looked, Saw, LooksOn, IsShown, Shows, IsGot, IsMissed}
use Rattle.tree_lock.proofs.Meeting.{placed, child_parts, user}

pub none_in : {X : Type 0} (l : List X) (f : X) → l ≡ [] → Contains l f → ⊥
none_in l f e h = let k = subst (λ (l : List _). Contains l f) e h in let less = k.1 in omega arith

pub alone : {X : Type 0} (f g : X) → Contains (g ∷ []) f → f ≡ g
alone f g h = ⊎_elim (λ (none : Contains [] f). absurd (none_in [] f refl none)) (λ (e : g ≡ f). sym e) (Contains-push_cases [] g f h)

module _ (levels : ℕ) where
  -- a page lies below one entry of a table
  pub one_entry : levels < 6 → (p : Place) (i j s n : ℕ) → IsTable levels p → has_page (entry_place levels p i) s n ≡ true → has_page (entry_place levels p j) s n ≡ true → i ≡ j
  one_entry few p i j s n (inl e) h k =
      let a = page_parts (root levels i) s n few (subst (λ (q : Place). has_page (entry_place levels q i) s n ≡ true) e h) in
      let b = page_parts (root levels j) s n few (subst (λ (q : Place). has_page (entry_place levels q j) s n ≡ true) e k) in
      a.0 ∙ sym b.0
  one_entry few p i j s n (inr is) h k = let at = placed levels few p is in let a = child_parts levels p i at s n h in let b = child_parts levels p j at s n k in omega (arith, a.1, b.1)

  -- a page of a zone of pages
  pub some_page : (space first count : ℕ) (b : Bool) → IsZone levels (Pages space first count b) → ZoneHas (Pages space first count b) space first
  some_page space first count b z = (refl, omega arith, (let some = z.1 in omega arith))

  -- the position that may cover a zone of pages is below one entry
  one_spans : levels < 6 → (space first count : ℕ) (b : Bool) (p : Place) (i j : ℕ) → IsZone levels (Pages space first count b) → IsTable levels p → HasAll (Pages space first count b) (entry_place levels p i) → HasAll (Pages space first count b) (entry_place levels p j) → i ≡ j
  one_spans few space first count b p i j z table one two = let has = some_page space first count b z in one_entry few p i j space first table (one space first has) (two space first has)

  module _ {R : Type 0} where
    -- the row is the top where no way leads on
    lowest_here : levels < 6 → (space first count : ℕ) (b : Bool) (way : Way) (h : KnownRow R) → IsZone levels (Pages space first count b) → IsTable levels h.place → IsHere way → IsWay levels (Pages space first count b) h.place way → IsLowest levels (Pages space first count b) h
    lowest_here small space first count b (Down i) h z table here is = absurd here
    lowest_here small space first count b (Just i) h z table here is = λ index few spans.
        let same : index ≡ i = one_spans small space first count b h.place index i z table spans.all is.2 in
        absurd (spans.greater is.1 (subst (λ (x : ℕ). LiesIn (entry_place levels h.place x) (Pages space first count b)) (sym same) is.3))
    lowest_here small space first count b Here h z table here is = λ index few spans. let two = is tt in let m = two.meets_one in let n = two.meets_other in
        let one : index ≡ two.one = one_entry small h.place index two.one m.space m.page table (spans.all m.space m.page m.of_zone) m.of_span in
        let other : index ≡ two.other = one_entry small h.place index two.other n.space n.page table (spans.all n.space n.page n.of_zone) n.of_span in
        absurd (two.two (sym one ∙ other))

    pub top_here : (zone : Zone) (way : Way) (h : KnownRow R) → IsZone levels zone → IsOver levels zone h.row h.place → IsHere way → IsWay levels zone h.place way → IsTop levels zone h
    top_here (Pages space first count b) way h z over here is = (over.spans, lowest_here over.few space first count b way h z over.table here is)
    top_here (Space s) way h z over here is = over.from_top
    top_here Directory way h z over here is = over.from_top

    -- and where the entry that leads on has no link
    pub top_last : (zone : Zone) (i : ℕ) (h : KnownRow R) → IsZone levels zone → IsPages zone → IsOver levels zone h.row h.place → Spans zone (entry_place levels h.place i) → is_link (slice_index h.words i) ≡ false → IsTop levels zone h
    top_last (Pages space first count b) i h z pages over below none = (
      over.spans,
      λ index few spans.
          let same : index ≡ i = one_spans over.few space first count b h.place index i z over.table spans.all below.all in
          subst (λ (x : ℕ). is_link (slice_index h.words x) ≡ false) (sym same) none,
    )
    top_last (Space s) i h z pages over below none = absurd pages
    top_last Directory i h z pages over below none = absurd pages

  -- a zone of pages meets the position that has all of it
  pub meets_all : (space first count : ℕ) (b : Bool) (p : Place) → IsZone levels (Pages space first count b) → HasAll (Pages space first count b) p → Meets (Pages space first count b) p
  meets_all space first count b p z all = let has = some_page space first count b z in record { space = space; page = first; of_zone = has; of_span = all space first has }

  reached_shown : (space first count : ℕ) (b : Bool) (way : Way) (at : Stand) (fs after : List Finding) → IsZone levels (Pages space first count b) → IsHere way → IsWay levels (Pages space first count b) at.place way → IsShown way at after
      → MeetsTwo levels (Pages space first count b) at.place ⊎ (FoundNoLink levels (Pages space first count b) (fs ++ after) at.row at.place ⊎ FoundJust levels (Pages space first count b) (fs ++ after) at.row at.place)
  reached_shown space first count b (Down i) at fs after z here is shown = absurd here
  reached_shown space first count b Here at fs after z here is shown = inl (is tt)
  reached_shown space first count b (Just i) at fs after z here is shown = inr (go (is_link shown.0) refl)
    where
      there : Contains (fs ++ after) (finding at.row at.place (Some i) shown.0)
      there = Contains-append_right fs after (finding at.row at.place (Some i) shown.0) (subst (λ (l : List Finding). Contains l (finding at.row at.place (Some i) shown.0)) (sym shown.1) (0, omega arith, refl))

      go : (link : Bool) → is_link shown.0 ≡ link → FoundNoLink levels (Pages space first count b) (fs ++ after) at.row at.place ⊎ FoundJust levels (Pages space first count b) (fs ++ after) at.row at.place
      go false e = inl (record { index = i; inside = is.0; meets = meets_all space first count b (entry_place levels at.place i) z is.2; word = shown.0; look = there; none = e })
      go true e = inr (record { strict = is.1; index = i; inside = is.0; all = is.2; just = is.3; word = shown.0; look = there; link = e })

  -- the row is reached where no way leads on
  pub reached_here : (zone : Zone) (way : Way) (at : Stand) (fs after : List Finding) → IsZone levels zone → IsOver levels zone at.row at.place → IsHere way → IsWay levels zone at.place way → IsShown way at after → IsReached levels zone (fs ++ after) at.row at.place
  reached_here (Pages space first count b) way at fs after z over here is shown = (over.spans, reached_shown space first count b way at fs after z here is shown)
  reached_here (Space s) way at fs after z over here is shown = over.from_top.0
  reached_here Directory way at fs after z over here is shown = over.from_top.0

  -- and where the entry that leads on was seen without a link
  pub reached_last : (zone : Zone) (i word : ℕ) (at : Stand) (fs : List Finding) → IsZone levels zone → IsPages zone → IsOver levels zone at.row at.place → i < 512 → Spans zone (entry_place levels at.place i) → Contains fs (finding at.row at.place (Some i) word) → is_link word ≡ false → IsReached levels zone fs at.row at.place
  reached_last (Pages space first count b) i word at fs z pages over few below look none =
      (over.spans, inr (inl (record { index = i; inside = few; meets = meets_all space first count b (entry_place levels at.place i) z below.all; word = word; look = look; none = none })))
  reached_last (Space s) i word at fs z pages over few below look none = absurd pages
  reached_last Directory i word at fs z pages over few below look none = absurd pages

  -- looks alone
  shown_looks : (way : Way) (at : Stand) (after : List Finding) → IsShown way at after → (f : Finding) → Contains after f → IsSome f.index
  shown_looks (Down i) at after shown f has = absurd (none_in after f shown has)
  shown_looks Here at after shown f has = absurd (none_in after f shown has)
  shown_looks (Just i) at after shown f has =
      let is : f ≡ finding at.row at.place (Some i) shown.0 = alone f _ (subst (λ (l : List Finding). Contains l f) shown.1 has) in
      subst (λ (x : Finding). IsSome x.index) (sym is) refl

  module _ {R B E : Type 0} where
    -- a grab on the row of the stand, at the stand's position
    got_there : (v u : PassView R B E) (at : Stand) (x : R) → v.core.stand ≡ Some at → (f : Finds at.row v) → u ≡ got v at.row f.place f.generation f.words x → u ≡ got v at.row at.place at.generation f.words x
    got_there v u at x on f e = e ∙ (λ j. got v at.row (f.known.of_stand at on refl j) (f.known_generation.of_stand at on refl j) f.words x)

    missed_there : (v u : PassView R B E) (at : Stand) (n : ℕ) (place : Place) → v.core.stand ≡ Some at → IsKnownPlace v at.row place → u ≡ looked v at.row place None n → u ≡ looked v at.row at.place None n
    missed_there v u at n place on known e = e ∙ (λ j. looked v at.row (known.of_stand at on refl j) None n)

    -- the view after looks behind a grab
    abbrev after_looks : PassView R B E → Stand → List Finding → PassView R B E
    after_looks u s after = record u { core = record u.core { stand = Some s }; findings = u.findings ++ after }

    is_got : (zone : Zone) (v w : PassView R B E) (at s : Stand) (after : List Finding) (x : R) → HasLevels levels v → Stands v at → (f : Finds at.row v) → w ≡ after_looks (got v at.row at.place at.generation f.words x) s after
        → IsOver levels zone at.row at.place → IsTop levels zone (grabbed at.row at.place at.generation f.words x) → IsReached levels zone ((v.findings ++ finding at.row at.place None 0 ∷ []) ++ after) at.row at.place
        → IsGot levels zone w (record { row = at.row; place = at.place; generation = at.generation; content = x })
    is_got zone v w at s after x on st f e over top reached =
        let only : KnownRow R = grabbed at.row at.place at.generation f.words x in
        let here : Contains (v.rows ++ only ∷ []) only = Contains-append_right v.rows (only ∷ []) only (0, omega arith, refl) in
        let grab : Finding = finding at.row at.place None 0 in
        subst (λ (z : PassView R B E). IsGot levels zone z (record { row = at.row; place = at.place; generation = at.generation; content = x })) (sym e)
        (record {
          only = only;
          rows = ap (λ (l : List (KnownRow R)). l ++ only ∷ []) st.no_rows;
          held = ap (λ (l : List ℕ). l ++ at.row ∷ []) st.holds_none;
          same_row = refl;
          same_place = refl;
          listed = record { known = only; held = here; same_row = refl; same_place = refl; same_generation = refl; found = refl; not_given = refl; same_words = refl };
          in_tree = f.linked;
          is_top = top;
          over = over;
          there = f.there;
          placed = subst (λ (n : ℕ). IsPlaced n at.row at.place) on.1 (subst (IsPlaced v.layout.levels at.row) (f.known.of_stand at st.on refl) f.placed);
          reached = reached;
          grabbed = Contains-append_left (v.findings ++ grab ∷ []) after grab (Contains-append_right v.findings (grab ∷ []) grab (0, omega arith, refl));
        })

    is_missed : (zone : Zone) (v w : PassView R B E) (at s : Stand) (n : ℕ) (after : List Finding) → Stands v at → w ≡ after_looks (looked v at.row at.place None n) s after → ((f : Finding) → Contains after f → IsSome f.index)
        → IsReached levels zone ((v.findings ++ finding at.row at.place None n ∷ []) ++ after) at.row at.place → IsMissed levels zone w at.row n
    is_missed zone v w at s n after st e looks reached =
        subst (λ (z : PassView R B E). IsMissed levels zone z at.row n) (sym e)
        (record {
          holds_none = st.holds_none;
          no_rows = st.no_rows;
          place = at.place;
          last = record { before = v.findings; after = after; split = append_assoc v.findings (finding at.row at.place None n ∷ []) after; looks = looks };
          reached = reached;
        })

    -- a pass that holds nothing is not the holder
    another : (v w : PassView R B E) (row seat : ℕ) → v.core.held ≡ [] → IsHolder v row seat → w.layout ≡ v.layout → w.number ≡ v.number → IsAnother w seat
    another v w row seat none holder layout number = record {
      there = subst (λ (k : _). seat < k.passes) (sym layout) holder.there;
      other = ⊎_elim (λ (ne : seat ≢ v.number). λ e. ne (e ∙ number)) (λ (has : Has v.core.held row). let n = ap (times row) none ∙ times-nil row in absurd (omega arith)) holder.other;
    }

    -- The answers of a grab where the descent ends

    pub got_here : (zone : Zone) (v u w : PassView R B E) (at : Stand) (way : Way) (x : R) → HasLevels levels v → Stands v at → (f : Finds at.row v) → u ≡ got v at.row f.place f.generation f.words x → Shows way at u w
        → IsZone levels zone → IsOver levels zone at.row at.place → IsHere way → IsWay levels zone at.place way → IsGot levels zone w (record { row = at.row; place = at.place; generation = at.generation; content = x })
    got_here zone v u w at way x on st f e shows z over here is =
        is_got zone v w at shows.2.0 shows.0 x on st f (shows.2.1 ∙ ap (λ (y : PassView R B E). after_looks y shows.2.0 shows.0) (got_there v u at x st.on f e)) over
        (top_here zone way (grabbed at.row at.place at.generation f.words x) z over here is)
        (reached_here zone way at (v.findings ++ finding at.row at.place None 0 ∷ []) shows.0 z over here is shows.1)

    pub missed_here : (zone : Zone) (v u w : PassView R B E) (at : Stand) (way : Way) (n : ℕ) (place : Place) → Stands v at → IsKnownPlace v at.row place → u ≡ looked v at.row place None n → Shows way at u w
        → IsZone levels zone → IsOver levels zone at.row at.place → IsHere way → IsWay levels zone at.place way → IsMissed levels zone w at.row n
    missed_here zone v u w at way n place st known e shows z over here is =
        is_missed zone v w at shows.2.0 n shows.0 st (shows.2.1 ∙ ap (λ (y : PassView R B E). after_looks y shows.2.0 shows.0) (missed_there v u at n place st.on known e)) (shown_looks way at shows.0 shows.1)
        (reached_here zone way at (v.findings ++ finding at.row at.place None n ∷ []) shows.0 z over here is shows.1)

    pub busy_here : (v u w : PassView R B E) (at : Stand) (way : Way) (seat : ℕ) (place : Place) → Stands v at → IsHolder v at.row seat → u ≡ looked v at.row place None (held_by seat) → Shows way at u w → IsAnother w seat
    busy_here v u w at way seat place st holder e shows = another v w at.row seat st.holds_none holder (ap (λ (z : PassView R B E). z.layout) (shows.2.1) ∙ ap (λ (z : PassView R B E). z.layout) e) (ap (λ (z : PassView R B E). z.number) (shows.2.1) ∙ ap (λ (z : PassView R B E). z.number) e)

    -- only a zone of pages is covered from a row that may be stale
    pub stale_pages : (zone : Zone) (v : PassView R B E) (row : ℕ) (place : Place) → IsOver levels zone row place → IsLoose v row → IsPages zone
    stale_pages (Pages s f c b) v row place over loose = tt
    stale_pages (Space s) v row place over loose = absurd (loose.not_root over.from_top.0)
    stale_pages Directory v row place over loose = absurd (loose.not_root over.from_top.0)

    -- The answers of a grab behind a look that found no link

    pub got_last : (zone : Zone) (v u w : PassView R B E) (at : Stand) (i : ℕ) (x : R) → HasLevels levels v → Stands v at → (f : Finds at.row v) → u ≡ got v at.row f.place f.generation f.words x → LooksOn levels u at i None w
        → IsZone levels zone → IsPages zone → IsOver levels zone at.row at.place → i < 512 → Spans zone (entry_place levels at.place i) → IsGot levels zone w (record { row = at.row; place = at.place; generation = at.generation; content = x })
    got_last zone v u w at i x on st f e looks z pages over few below =
        let only : KnownRow R = grabbed at.row at.place at.generation f.words x in
        let is = got_there v u at x st.on f e in
        let after : List Finding = finding at.row at.place (Some i) looks.0 ∷ [] in
        let there : Contains u.rows only = subst (λ (y : PassView R B E). Contains y.rows only) (sym is) (Contains-append_right v.rows (only ∷ []) only (0, omega arith, refl)) in
        let none : is_link (slice_index only.words i) ≡ false = ap is_link (sym (looks.3 only there refl)) ∙ looks.2 in
        is_got zone v w at at after x on st f (looks.1 ∙ ap (λ (y : PassView R B E). after_looks y at after) is) over
        (top_last zone i only z pages over below none)
        (reached_last zone i looks.0 at ((v.findings ++ finding at.row at.place None 0 ∷ []) ++ after) z pages over few below (Contains-append_right (v.findings ++ finding at.row at.place None 0 ∷ []) after (finding at.row at.place (Some i) looks.0) (0, omega arith, refl)) looks.2)

    pub missed_last : (zone : Zone) (v w : PassView R B E) (at : Stand) (i n : ℕ) (place : Place) → Stands v at → Saw v at i → IsKnownPlace v at.row place → w ≡ looked v at.row place None n
        → IsZone levels zone → IsPages zone → IsOver levels zone at.row at.place → i < 512 → Spans zone (entry_place levels at.place i) → IsMissed levels zone w at.row n
    missed_last zone v w at i n place st saw known e z pages over few below =
        let plain : (u : PassView R B E) → u.core.stand ≡ Some at → u ≡ after_looks u at [] = λ u on j. record u { core = record u.core { stand = on j }; findings = sym (append-nil u.findings) j } in
        is_missed zone v w at at n [] st (missed_there v w at n place st.on known e ∙ plain (looked v at.row at.place None n) st.on) (λ f has. absurd (none_in [] f refl has))
        (reached_last zone i saw.word at ((v.findings ++ finding at.row at.place None n ∷ []) ++ []) z pages over few below (Contains-append_left (v.findings ++ finding at.row at.place None n ∷ []) [] _ (Contains-append_left v.findings (finding at.row at.place None n ∷ []) _ saw.look)) saw.none)

    pub busy_last : (v w : PassView R B E) (at : Stand) (seat : ℕ) (place : Place) → Stands v at → IsHolder v at.row seat → w ≡ looked v at.row place None (held_by seat) → IsAnother w seat
    busy_last v w at seat place st holder e = another v w at.row seat st.holds_none holder (ap (λ (z : PassView R B E). z.layout) e) (ap (λ (z : PassView R B E). z.number) e)

    -- what a grab found goes back as it is, also after a look
    pub fits_on : (M : Meaning R B E) (v u w : PassView R B E) (at next : Stand) (i : ℕ) (x : R) → (f : Finds at.row v) → u ≡ got v at.row f.place f.generation f.words x → LooksOn levels u at i (Some next) w → Fits M w at.row x
    fits_on M v u w at next i x f e looks =
        let only : KnownRow R = grabbed at.row f.place f.generation f.words x in
        subst (λ (y : PassView R B E). Fits M y at.row x) (sym (looks.1 ∙ ap (λ (y : PassView R B E). has_looked y at i looks.0 (Some next)) e))
        (record { known = only; held = Contains-append_right v.rows (only ∷ []) only (0, omega arith, refl); same_row = refl; content_fits = inl (refl, refl, refl) })

    pub saw_none : (v w : PassView R B E) (at : Stand) (i : ℕ) → LooksOn levels v at i None w → Saw w at i
    saw_none v w at i looks = record {
      word = looks.0;
      look = subst (λ (y : PassView R B E). Contains y.findings (finding at.row at.place (Some i) looks.0)) (sym looks.1) (Contains-append_right v.findings (finding at.row at.place (Some i) looks.0 ∷ []) _ (0, omega arith, refl));
      none = looks.2;
    }

    -- nothing was to be shown
    pub shows_here : (v : PassView R B E) (at : Stand) (way : Way) → v.core.stand ≡ Some at → way ≡ Here → Shows way at v v
    shows_here v at way on e = subst (λ (w : Way). Shows w at v v) (sym e) ([], refl, (at, λ j. record v { core = record v.core { stand = on j }; findings = sym (append-nil v.findings) j }))

  -- every zone may be covered from the directory on
  pub over_directory : levels < 6 → (zone : Zone) → IsZone levels zone → IsOver levels zone 0 directory
  over_directory few (Pages space first count b) z = record {
    few = few;
    table = inl refl;
    spans = record { all = λ s n has. refl; greater = λ strict lies. let h = lies space 0 refl in let u = user levels space first count b z in let low = h.1 in omega arith };
    from_top = tt;
  }
  over_directory few (Space s) z = record { few = few; table = inl refl; spans = record { all = λ s n has. refl; greater = λ strict. absurd strict }; from_top = (refl, refl) }
  over_directory few Directory z = record { few = few; table = inl refl; spans = record { all = λ s n has. refl; greater = λ strict. absurd strict }; from_top = (refl, refl) }
