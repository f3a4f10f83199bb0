-- The states of a range that moves: its pieces are mapped one after another, and then its old pages are cleared.
--     AreTables, MayMakePages      the tables of all these states;  pages of which each table that they cut is there
--     made_state, made_at, range_change_is      the state after such pages are made anew, and that it follows
--     MayMap, MayMapAll, MappedAll, all_mapped      the state after all pieces are mapped, and what stands at their pages
--     clean_stays, clean_pieces      pages whose words are written
use Rattle.std.specs.Prelude.{◌≡◌, ◌≢◌, ℕ, ◌+◌, ◌-◌, ◌^◌, ◌<◌, ◌≤◌, ◌⊎◌, ◌&&◌, not, Bool, true, false, cond, List, [], ◌∷◌, Option, Some, None}
use Rattle.std.specs.Option.{option_map}
use Rattle.std.specs.FinMap.{get}
use Rattle.std.specs.FinSet as set
use Rattle.std.proofs.Common.{sym, refl, ◌∙◌, ap, subst, arith, inl, inr, ne_eqb, eq-eqb}
use Rattle.std.proofs.lemmas.Bool.{true≢false, false_from_ne_true, cases_lt}
use Rattle.page_map.specs.Cell.{AddressSpace, backed, goes_on}
use Rattle.page_map.specs.Change.{change}
use Rattle.page_map.specs.Cutting.{ArePieces}
use Rattle.page_map.specs.State.{State, levels, space_at, cell_at}
use Rattle.page_map.specs.Tables.{Tables}
use Rattle.page_map.proofs.Cells.{changed, cell_changed}
use Rattle.page_map.proofs.NeedOf.{IsCut}
use Rattle.page_map.proofs.Range.{get-change}
use Rattle.table_place.specs.declared.Place.{Place}
use Rattle.table_place.specs.Place.{has_page, is_place, root, span_first, span_count}
use Rattle.table_place.specs.Range.{within}
use Rattle.table_place.proofs.Entries.{page_in_span}
use Rattle.table_place.proofs.Tables.{in_range, to_range}
use Rattle.machine_plan.specs.declared.kit.Change.{Change}
use Rattle.machine_plan.specs.declared.kit.Piece.{Piece}
use Rattle.machine_plan.specs.Agrees.{IsNoTable}
use Rattle.machine_plan.specs.Moving.{piece_at, Tells}
use Rattle.cursor_apply.specs.declared.becoming.Making.{Making}
use Rattle.cursor_apply.specs.declared.becoming.Making.TheVariants.{Back}
use Rattle.cursor_apply.specs.declared.becoming.RangeChange.{RangeChange}
use Rattle.cursor_apply.specs.Changed.{LiesIn, IsChange, Steps, StepsBy, all_clean, clean_by, range_change}
use Rattle.cursor_apply.specs.Changing.{page_made, IsNearAll}
use Rattle.move_apply.specs.Pieces.{piece_change, pieces_changes}
use Rattle.move_apply.proofs.PiecesMade.{piece_is}

-- ---- one range

-- the tables of all these states, and a space
pub record AreTables (depth space : ℕ) (tables : Tables) : Type 0 where
  pub some : 4 ≤ depth
  pub few : depth ≤ 5
  pub top : set.contains tables (root depth space) ≡ true
  pub places : (p : Place) → set.contains tables p ≡ true → is_place depth p ≡ true

-- pages of which each table that they cut is there
pub record MayMakePages (depth space : ℕ) (tables : Tables) (first count : ℕ) : Type 0 where
  pub end : first + count < 2 ^ 44
  pub there : (p : Place) → IsCut depth space first count p → set.contains tables p ≡ true

module _ (st : State) (depth space : ℕ) (tables : Tables) (own : AreTables depth space tables) (deep : levels st ≡ depth) (same : st.tables ≡ tables) (making : Making) (first count : ℕ) (may : MayMakePages depth space tables first count) where
  abbrev made_cells : AddressSpace
  made_cells = change (space_at st space) first count (λ page o. page_made making (page - first) o)

  pub made_state : State
  made_state = changed st space made_cells st.tables

  pub made_levels : levels made_state ≡ depth
  unfolding made_state
  made_levels = deep

  pub made_tables : made_state.tables ≡ tables
  unfolding made_state
  made_tables = same

  pub made_at : (page : ℕ) → cell_at made_state space page ≡ cond (within first count page) (page_made making (page - first) (cell_at st space page)) (cell_at st space page)
  unfolding made_state
  made_at page =
      cell_changed st space made_cells st.tables space page
      ∙ (ap (λ t. cond t (get made_cells page) (cell_at st space page)) (eq-eqb space space refl)
      ∙ get-change (space_at st space) first count (λ page o. page_made making (page - first) o) page)

  pub made_others : (s page : ℕ) → s ≢ space → cell_at made_state s page ≡ cell_at st s page
  unfolding made_state
  made_others s page ne = cell_changed st space made_cells st.tables s page ∙ ap (λ t. cond t (get made_cells page) (cell_at st s page)) (ne_eqb s space ne)

  edges : (q : Place) → q.space ≡ space → q.level < levels st → IsNoTable st q → ¬ LiesIn q first count → (page : ℕ) → has_page q space page ≡ true → cell_at made_state space page ≡ cell_at st space page
  edges q here low lone out page has = go (within first count page) refl
    where
      few : q.level < 6
      few = let f = own.few in omega (arith, low, deep, f)

      at : (span_first q ≤ page) × (page < span_first q + span_count q)
      at = in_range (span_first q) (span_count q) page (page_in_span q space page few has)

      -- a page alone lies in the range
      not_page : within first count page ≡ true → q.level ≡ 0 → ⊥
      not_page w zero_level =
          let i = in_range first count page w in
          let one : span_count q ≡ 1 = ap (λ n. 512 ^ n) zero_level in
          let a = at in
          out (omega (arith, i.0, a.0, a.1, one), omega (arith, i.1, a.0, a.1, one))

      cut_by : within first count page ≡ true → 1 ≤ q.level → (span_first q < first) ⊎ (first + count < span_first q + span_count q) → set.contains tables q ≡ true
      cut_by w some outside = may.there q (record {
        same_space = here;
        low = some;
        high = omega (arith, low, deep);
        page = page;
        within_range = w;
        from = at.0;
        to = at.1;
        outside = outside;
      })

      reaches_out : (span_first q < first) ⊎ (first + count < span_first q + span_count q)
      reaches_out = elim (cases_lt (span_first q) first) [
        | inl before ↦ inl before
        | inr from ↦ (elim (cases_lt (first + count) (span_first q + span_count q)) [
          | inl behind ↦ inr behind
          | inr to ↦ absurd (out (from, to))
        ])
      ]

      some_level : within first count page ≡ true → 1 ≤ q.level
      some_level w = elim (cases_lt q.level 1) [
        | inl none ↦ absurd (not_page w (omega (arith, none)))
        | inr more ↦ more
      ]

      go : (t : Bool) → within first count page ≡ t → cell_at made_state space page ≡ cell_at st space page
      go false e = made_at page ∙ ap (λ t. cond t (page_made making (page - first) (cell_at st space page)) (cell_at st space page)) e
      go true e = absurd (true≢false (sym (cut_by e (some_level e) reaches_out) ∙ (ap (λ (t : Tables). set.contains t q) (sym same) ∙ lone)))

  pub range_change_is : IsNearAll making count → IsChange (record { making = making; first = first; count = count }) space st made_state
  range_change_is near = record {
    same_levels = made_levels ∙ sym deep;
    same_tables = made_tables ∙ sym same;
    inside = λ page w. made_at page ∙ ap (λ t. cond t (page_made making (page - first) (cell_at st space page)) (cell_at st space page)) w;
    others = made_others;
    edges = edges;
    top = subst (λ (t : Tables). set.contains t (root (levels st) space) ≡ true) (sym same) (subst (λ n. set.contains tables (root n space) ≡ true) (sym deep) own.top);
    few_levels = (let f = own.few in omega (arith, deep, f));
    places = λ p has. subst (λ n. is_place n p ≡ true) (sym deep) (own.places p (ap (λ (t : Tables). set.contains t p) (sym same) ∙ has));
    end = (let e = may.end in omega (arith, e));
    near = near;
  }

-- ---- the pieces

pub record MayMap (depth space : ℕ) (tables : Tables) (to : ℕ) (p : Piece) : Type 0 where
  pub pages : MayMakePages depth space tables (to + p.first) p.count
  pub near : IsNearAll (Back p.perm p.backing) p.count

abbrev pub MayMapAll : ℕ → ℕ → Tables → ℕ → List Piece → Type 0
MayMapAll depth space tables to [] = Unit {0}
MayMapAll depth space tables to (p ∷ ps) = MayMap depth space tables to p × MayMapAll depth space tables to ps

module _ (depth space : ℕ) (tables : Tables) (own : AreTables depth space tables) (to : ℕ) where
  module _ (after : AddressSpace) (end : ℕ) where
    -- with what stands at the new place
    pub record MappedAll (at : ℕ) (st : State) (pieces : List Piece) : Type 0 where
      pub now : State
      pub deep : levels now ≡ depth
      pub same : now.tables ≡ tables
      pub steps : Steps (pieces_changes to pieces) space st now
      pub others : (s page : ℕ) → s ≢ space → cell_at now s page ≡ cell_at st s page
      pub before : (page : ℕ) → page < at → cell_at now space page ≡ cell_at st space page
      pub behind : (page : ℕ) → end ≤ page → cell_at now space page ≡ cell_at st space page
      pub inside : (page : ℕ) → at ≤ page → page < end → cell_at now space page ≡ option_map (λ c. goes_on c 0) (get after page)

    abbrev pub AllTell : List Piece → Type 0
    AllTell [] = Unit {0}
    AllTell (p ∷ ps) = Tells after to p × AllTell ps

    -- the state after the first piece, and what it adds to those behind it
    module _ (p : Piece) (st : State) (deep : levels st ≡ depth) (same : st.tables ≡ tables) (may : MayMap depth space tables to p) where
      abbrev next : State
      next = made_state st depth space tables own deep same (Back p.perm p.backing) (to + p.first) p.count may.pages

      next_at : (page : ℕ) → cell_at next space page ≡ cond (within (to + p.first) p.count page) (Some (backed p.backing p.perm (page - (to + p.first)))) (cell_at st space page)
      next_at page = made_at st depth space tables own deep same (Back p.perm p.backing) (to + p.first) p.count may.pages page

      out_of : (page : ℕ) → (to + p.first ≤ page → page < to + p.first + p.count → ⊥) → cell_at next space page ≡ cell_at st space page
      out_of page never = next_at page ∙ ap (λ t. cond t (Some (backed p.backing p.perm (page - (to + p.first)))) (cell_at st space page)) (false_from_ne_true _ (λ w. let i = in_range (to + p.first) p.count page w in never i.0 i.1))

      back : (n page : ℕ) → n ≤ page → n + (page - n) ≡ page
      back n page le = omega (arith, le)

      one_more : (at : ℕ) (ps : List Piece) → ArePieces (piece_at to) (λ p. p.count) after at end (p ∷ ps) → Tells after to p → MappedAll (at + p.count) next ps → MappedAll at st (p ∷ ps)
      one_more at ps parts tell rest = record {
        now = rest.now;
        deep = rest.deep;
        same = rest.same;
        steps = (next, subst (λ (o : Option RangeChange). StepsBy o space st next) (sym (piece_is to p)) (range_change_is st depth space tables own deep same (Back p.perm p.backing) (to + p.first) p.count may.pages may.near), rest.steps);
        others = λ s page ne. rest.others s page ne ∙ made_others st depth space tables own deep same (Back p.perm p.backing) (to + p.first) p.count may.pages s page ne;
        before = λ page less. rest.before page (omega (arith, less)) ∙ out_of page (λ from till. let h = parts.0.here in omega (arith, h, from, less));
        behind = λ page more. rest.behind page more ∙ out_of page (λ from till. let h = parts.0.here in let f = parts.0.fits in omega (arith, h, f, more, till));
        inside = λ page from till. elim (cases_lt page (at + p.count)) [
          | inl own_page ↦ rest.before page own_page
              ∙ (next_at page
              ∙ (ap (λ t. cond t (Some (backed p.backing p.perm (page - (to + p.first)))) (cell_at st space page)) (to_range (to + p.first) p.count page (let h = parts.0.here in omega (arith, h, from)) (let h = parts.0.here in omega (arith, h, own_page)))
              ∙ (sym (tell (page - (to + p.first)) (let h = parts.0.here in omega (arith, h, from, own_page)))
              ∙ ap (λ n. option_map (λ c. goes_on c 0) (get after n)) (back (to + p.first) page (let h = parts.0.here in omega (arith, h, from))))))
          | inr later ↦ rest.inside page later till
        ];
      }

    pub all_mapped : (pieces : List Piece) (at : ℕ) (st : State) → levels st ≡ depth → st.tables ≡ tables → MayMapAll depth space tables to pieces → ArePieces (piece_at to) (λ p. p.count) after at end pieces → AllTell pieces → MappedAll at st pieces
    all_mapped [] at st deep same may parts tell = record {
      now = st;
      deep = deep;
      same = same;
      steps = refl;
      others = λ s page ne. refl;
      before = λ page less. refl;
      behind = λ page more. refl;
      inside = λ page from till. absurd (omega (arith, from, till, parts));
    }
    all_mapped (p ∷ ps) at st deep same may parts tell = one_more p st deep same may.0 at ps parts tell.0
        (all_mapped ps (at + p.count) (next p st deep same may.0) (made_levels st depth space tables own deep same (Back p.perm p.backing) (to + p.first) p.count may.0.pages)
        (made_tables st depth space tables own deep same (Back p.perm p.backing) (to + p.first) p.count may.0.pages) may.1 parts.1 tell.1)

-- ---- words

clean_one : (c : Change) (is_old : ℕ → Bool) (page : ℕ) → is_old page ≡ false → clean_by (range_change c) is_old page ≡ false
clean_one c is_old page e = go (range_change c)
  where
    go : (o : Option RangeChange) → clean_by o is_old page ≡ false
    go None = e
    go (Some x) = ap (λ t. t && not (within x.first x.count page)) e

pub clean_stays : (cs : List Change) (is_old : ℕ → Bool) (page : ℕ) → is_old page ≡ false → all_clean cs is_old page ≡ false
clean_stays [] is_old page e = e
clean_stays (c ∷ cs) is_old page e = clean_stays cs (clean_by (range_change c) is_old) page (clean_one c is_old page e)

-- the pages of the pieces are
pub clean_pieces : (to : ℕ) (after : AddressSpace) (end : ℕ) (pieces : List Piece) (at : ℕ) (is_old : ℕ → Bool) → ArePieces (piece_at to) (λ p. p.count) after at end pieces → (page : ℕ) → at ≤ page → page < end → all_clean (pieces_changes to pieces) is_old page ≡ false
clean_pieces to after end [] at is_old parts page from till = absurd (omega (arith, from, till, parts))
clean_pieces to after end (p ∷ ps) at is_old parts page from till = elim (cases_lt page (at + p.count)) [
  | inl own_page ↦ clean_stays (pieces_changes to ps) (clean_by (range_change (piece_change to p)) is_old) page
      (ap (λ (o : Option RangeChange). clean_by o is_old page) (piece_is to p)
      ∙ (ap (λ t. is_old page && not t) (to_range (to + p.first) p.count page (let h = parts.0.here in omega (arith, h, from)) (let h = parts.0.here in omega (arith, h, own_page))) ∙ none (is_old page)))
  | inr later ↦ clean_pieces to after end ps (at + p.count) (clean_by (range_change (piece_change to p)) is_old) parts.1 page later till
]
  where
    none : (t : Bool) → (t && false) ≡ false
    none true = refl
    none false = refl
