-- The changes of a transaction's operations, one after another.
--     IsGood, all_good      what is asked of an operation;  each of a transaction that was accepted has it
--     after_at, ops_made      what operations make of one page
--     drawn_after      they make the same of what it came from
--     txn_steps      the law of `specs/Transacting.antt`
use Rattle.std.specs.Prelude.{◌≡◌, ◌≢◌, ℕ, ◌+◌, ◌-◌, ◌*◌, ◌/◌, ◌^◌, ◌<◌, ◌≤◌, ◌⊎◌, Bool, true, false, cond, List, [], ◌∷◌, map, Option, Some, None}
use Rattle.std.specs.List.{AllByRecursion, flat_map}
use Rattle.std.specs.Option.{option_map}
use Rattle.std.specs.Ordering.{eq_by_cmp}
use Rattle.std.specs.FinMap.{get}
use Rattle.std.specs.FinSet as set
use Rattle.std.proofs.Common.{sym, refl, ◌∙◌, ap, subst, arith, inl, inr, mul-one, eq-eqb, ne_eqb}
use Rattle.std.proofs.lemmas.Bool.{true≢false, and_parts, cases_lt, or_left, or_right}
use mathlib.Core.Logic.{dite}
use native.Mathlib.Decide.{ℕ_discrete}
use Rattle.corten_base.specs.declared.permissions.Perm.{Perm}
use Rattle.corten_base.specs.declared.calls.Backing.{Backing}
use Rattle.corten_base.specs.declared.calls.Backing.TheVariants as backing
use Rattle.corten_base.specs.declared.calls.Call.{Call}
use Rattle.corten_base.specs.declared.calls.Call.TheVariants as call
use Rattle.corten_base.specs.declared.calls.TxnOp.{TxnOp}
use Rattle.corten_base.specs.declared.calls.TxnOp.TheVariants as op
use Rattle.page_map.specs.declared.cell.Cell.{Cell as PageCell}
use Rattle.page_map.specs.declared.cell.Cell.TheVariants.{Anon, File, Mapped, Swapped}
use Rattle.page_map.specs.Cell.{AddressSpace, backed, with_perm}
use Rattle.page_map.specs.Effect.{cut_by_op, is_given_up, wanted_tables, state_after}
use Rattle.page_map.specs.Mapping.{after_op, after_ops, op_first, op_pages, is_right, is_right_within, undone}
use Rattle.page_map.specs.State.{State, IsConsistent, levels, space_at, cell_at}
use Rattle.page_map.specs.Tables.{Tables}
use Rattle.page_map.proofs.Above.{any_append}
use Rattle.page_map.proofs.Cells.{changed, cell_changed}
use Rattle.page_map.proofs.Growth.{stays, comes}
use Rattle.page_map.proofs.Mappings.{IsOver, none_undone, right_over, user_few}
use Rattle.page_map.proofs.NeedOf.{IsCut, cut_from}
use Rattle.page_map.proofs.Steps.{Passed, passed}
use Rattle.page_map.proofs.Unmapped.{held_of}
use Rattle.page_map.proofs.Wanted.{is_wanted}
use Rattle.table_place.specs.declared.Place.{Place}
use Rattle.table_place.specs.Place.{root, place_cmp, has_page, is_place, pages_of, span_first, span_count}
use Rattle.table_place.specs.Range.{within, lies_in}
use Rattle.table_place.proofs.Entries.{page_in_span}
use Rattle.table_place.proofs.Tables.{in_range}
use Rattle.machine_plan.specs.declared.kit.Change.TheVariants.{Op}
use Rattle.machine_plan.specs.Agrees.{IsNoTable}
use Rattle.machine_plan.specs.Uses.{changes_of}
use Rattle.cursor_apply.specs.Between.{IsBetween}
use Rattle.cursor_apply.specs.Changed.{LiesIn, IsChange, Steps, op_change, op_making}
use Rattle.cursor_apply.specs.Changing.{page_made, IsNearAll}
use Rattle.cursor_apply.specs.Transacting.{TxnSteps}
use Rattle.cursor_apply.proofs.Between.{drawn}
use Rattle.cursor_apply.proofs.Ranged.{made_at}
use Rattle.cursor_apply.proofs.RowMade.{one_page}
use Rattle.cursor_apply.proofs.TxnCuts.{none_undone_in}

-- ---- one page

abbrev pub after_at : List TxnOp → ℕ → Option PageCell → Option PageCell
after_at [] page x = x
after_at (o ∷ os) page x = after_at os page (cond (within (op_first o) (op_pages o) page) (page_made (op_making o) (page - op_first o) x) x)

pub ops_made : (os : List TxnOp) (cells : AddressSpace) (page : ℕ) → get (after_ops os cells) page ≡ after_at os page (get cells page)
ops_made [] cells page = refl
ops_made (o ∷ os) cells page = ops_made os (after_op o cells) page ∙ ap (after_at os page) (made_at (Op o) (op_change o) refl cells page)

-- new permissions of a page that shows what it came from
perm_drawn : (new : Perm) (x : Option PageCell) → option_map (with_perm new) (drawn x) ≡ drawn (option_map (with_perm new) x)
perm_drawn new None = refl
perm_drawn new (Some (Anon perm)) = refl
perm_drawn new (Some (File perm file index)) = refl
perm_drawn new (Some (Mapped perm backing.Zero frame bytes)) = refl
perm_drawn new (Some (Mapped perm (backing.File file index) frame bytes)) = refl
perm_drawn new (Some (Swapped perm backing.Zero slot bytes)) = refl
perm_drawn new (Some (Swapped perm (backing.File file index) slot bytes)) = refl

backed_drawn : (what : Backing) (perm : Perm) (i : ℕ) → Some (backed what perm i) ≡ drawn (Some (backed what perm i))
backed_drawn backing.Zero perm i = refl
backed_drawn (backing.File file index) perm i = ap (λ n. Some (File perm file n)) (nothing (index + i))
  where
    nothing : (n : ℕ) → n ≡ n + 0
    nothing n = omega arith

made_drawn : (o : TxnOp) (behind : ℕ) (x : Option PageCell) → page_made (op_making o) behind (drawn x) ≡ drawn (page_made (op_making o) behind x)
made_drawn (op.Map at fresh len perm what) behind x = backed_drawn what perm behind
made_drawn (op.Unmap at len) behind x = refl
made_drawn (op.Protect at len perm) behind x = perm_drawn perm x

pub drawn_after : (os : List TxnOp) (page : ℕ) (x : Option PageCell) → after_at os page (drawn x) ≡ drawn (after_at os page x)
drawn_after [] page x = refl
drawn_after (o ∷ os) page x = ap (after_at os page) (go (within (op_first o) (op_pages o) page)) ∙ drawn_after os page (cond (within (op_first o) (op_pages o) page) (page_made (op_making o) (page - op_first o) x) x)
  where
    go : (t : Bool) → cond t (page_made (op_making o) (page - op_first o) (drawn x)) (drawn x) ≡ drawn (cond t (page_made (op_making o) (page - op_first o) x) x)
    go true = made_drawn o (page - op_first o) x
    go false = refl

-- ---- one operation

pub record IsGood (tables : Tables) (L space : ℕ) (o : TxnOp) : Type 0 where
  pub over : IsOver L o
  pub cut : (p : Place) → IsCut L space (op_first o) (op_pages o) p → set.contains tables p ≡ true

near : (L : ℕ) (o : TxnOp) → IsOver L o → IsNearAll (op_making o) (op_pages o)
near L (op.Map at fresh len perm backing.Zero) over i low = tt
near L (op.Map at fresh len perm (backing.File file index)) over i low = let h = over.index perm i low in omega (arith, h)
near L (op.Unmap at len) over i low = tt
near L (op.Protect at len perm) over i low = tt

module _ (L space : ℕ) (few : L ≤ 5) (o : TxnOp) (s : State) (deep : levels s ≡ L) (good : IsGood s.tables L space o) (top : set.contains s.tables (root L space) ≡ true) (places : (p : Place) → set.contains s.tables p ≡ true → is_place L p ≡ true) where
  abbrev n : State
  n = changed s space (after_op o (space_at s space)) s.tables

  pub op_cell : (page : ℕ) → cell_at n space page ≡ cond (within (op_first o) (op_pages o) page) (page_made (op_making o) (page - op_first o) (cell_at s space page)) (cell_at s space page)
  op_cell page = cell_changed s space (after_op o (space_at s space)) s.tables space page
      ∙ (ap (λ t. cond t (get (after_op o (space_at s space)) page) (cell_at s space page)) (eq-eqb space space refl) ∙ made_at (Op o) (op_change o) refl (space_at s space) page)

  pub op_other : (t page : ℕ) → t ≢ space → cell_at n t page ≡ cell_at s t page
  op_other t page ne = cell_changed s space (after_op o (space_at s space)) s.tables t page ∙ ap (λ b. cond b (get (after_op o (space_at s space)) page) (cell_at s t page)) (ne_eqb t space ne)

  -- an entry that leads to no table has all its pages in the range or none
  beside : (q : Place) → q.space ≡ space → q.level < L → IsNoTable s q → ¬ LiesIn q (op_first o) (op_pages o) → (page : ℕ) → has_page q space page ≡ true → within (op_first o) (op_pages o) page ≡ true → ⊥
  beside q of_space low none never page has inside = dite (ℕ_discrete q.level 0)
      (λ zero.
      let w : span_count q ≡ 1 = ap (λ k. 512 ^ k) zero in
      let f : span_first q ≡ q.prefix = ap (λ m. q.prefix * m) w ∙ mul-one q.prefix in
      let same : page ≡ q.prefix = omega (arith, at.0, at.1, w, f) in
      never (one_page (op_first o) (op_pages o) q zero (omega (arith, same, both.0), omega (arith, same, both.1))))
      (λ ne. true≢false (sym (good.cut q (record {
        same_space = of_space;
        low = more q.level ne;
        high = low;
        page = page;
        within_range = inside;
        from = at.0;
        to = at.1;
        outside = reaches;
      })) ∙ none))
    where
      at : (span_first q ≤ page) × (page < span_first q + span_count q)
      at = in_range (span_first q) (span_count q) page (page_in_span q space page (omega (arith, low, few)) has)

      both : (op_first o ≤ page) × (page < op_first o + op_pages o)
      both = in_range (op_first o) (op_pages o) page inside

      more : (k : ℕ) → (k ≡ 0 → ⊥) → 1 ≤ k
      more k ne = omega arith

      reaches : (span_first q < op_first o) ⊎ (op_first o + op_pages o < span_first q + span_count q)
      reaches = elim (cases_lt (span_first q) (op_first o)) [
        | inl less ↦ inl less
        | inr from ↦ elim (cases_lt (op_first o + op_pages o) (span_first q + span_count q)) [
          | inl past ↦ inr past
          | inr within_it ↦ absurd (never (from, within_it))
        ]
      ]

  pub op_is_change : IsChange (op_change o) space s n
  op_is_change = record {
    same_levels = refl;
    same_tables = refl;
    inside = λ page e. op_cell page ∙ ap (λ t. cond t (page_made (op_making o) (page - op_first o) (cell_at s space page)) (cell_at s space page)) e;
    others = op_other;
    edges = λ q of_space low none never page has. op_cell page ∙ ap (λ t. cond t (page_made (op_making o) (page - op_first o) (cell_at s space page)) (cell_at s space page))
        (off q of_space (subst (λ k. q.level < k) deep low) none never page has (within (op_first o) (op_pages o) page) refl);
    top = ap (λ k. set.contains s.tables (root k space)) deep ∙ top;
    few_levels = (let e = deep in omega (arith, e, few));
    places = λ p there. subst (λ k. is_place k p ≡ true) (sym deep) (places p there);
    end = (let e = user_few L (op_first o) (op_pages o) few good.over.user in omega (arith, e));
    near = near L o good.over;
  }
    where
      off : (q : Place) → q.space ≡ space → q.level < L → IsNoTable s q → ¬ LiesIn q (op_first o) (op_pages o) → (page : ℕ) → has_page q space page ≡ true → (t : Bool) → within (op_first o) (op_pages o) page ≡ t → within (op_first o) (op_pages o) page ≡ false
      off q of_space low none never page has false e = e
      off q of_space low none never page has true e = absurd (beside q of_space low none never page has e)

-- ---- all of them

pub record Led (os : List TxnOp) (space : ℕ) (s : State) : Type 0 where
  pub end : State
  pub steps : Steps (map Op os) space s end
  pub same_tables : end.tables ≡ s.tables
  pub same_levels : levels end ≡ levels s
  pub others : (t page : ℕ) → t ≢ space → cell_at end t page ≡ cell_at s t page
  pub cells : (page : ℕ) → cell_at end space page ≡ after_at os page (cell_at s space page)

pub ops_lead : (L space : ℕ) → L ≤ 5 → (os : List TxnOp) (s : State) → levels s ≡ L → AllByRecursion (IsGood s.tables L space) os → set.contains s.tables (root L space) ≡ true
    → ((p : Place) → set.contains s.tables p ≡ true → is_place L p ≡ true) → Led os space s
ops_lead L space few [] s deep good top places = record { end = s; steps = refl; same_tables = refl; same_levels = refl; others = λ t page ne. refl; cells = λ page. refl }
ops_lead L space few (o ∷ os) s deep good top places =
    let next = changed s space (after_op o (space_at s space)) s.tables in
    let rest = ops_lead L space few os next deep good.1 top places in
    record {
      end = rest.end;
      steps = (next, op_is_change L space few o s deep good.0 top places, rest.steps);
      same_tables = rest.same_tables;
      same_levels = rest.same_levels;
      others = λ t page ne. rest.others t page ne ∙ op_other L space few o s deep good.0 top places t page ne;
      cells = λ page. rest.cells page ∙ ap (after_at os page) (op_cell L space few o s deep good.0 top places page);
    }

module _ (old : State) (thread space at len : ℕ) (ops : List TxnOp) (limbo : ℕ) (was : IsConsistent old) (ok : Passed old thread (call.Txn space at len ops) limbo) where
  abbrev c : Call
  c = call.Txn space at len ops

  abbrev L : ℕ
  L = levels old

  abbrev now : State
  now = state_after old thread (call.Txn space at len ops)

  rights : AllByRecursion (λ (o : TxnOp). is_right_within L old.files (at / 4096) (pages_of len) o ≡ true) ops
  rights = none_undone (is_right_within L old.files (at / 4096) (pages_of len)) 1 ops (space_at old space) (none_undone_in (undone (is_right_within L old.files (at / 4096) (pages_of len)) 1 ops (space_at old space)) ok.pages)

  good_from : (os : List TxnOp) → AllByRecursion (λ (o : TxnOp). is_right_within L old.files (at / 4096) (pages_of len) o ≡ true) os → ((p : Place) → is_wanted (flat_map (cut_by_op old space) os) p ≡ true → set.contains now.tables p ≡ true)
      → AllByRecursion (IsGood now.tables L space) os
  good_from [] right there = tt
  good_from (o ∷ os) right there = (
    record {
      over = right_over L old.files o was.few_levels (and_parts (is_right L old.files o) (lies_in (op_first o) (op_pages o) (at / 4096) (pages_of len)) right.0).0;
      cut = λ p cut. there p (any_append (eq_by_cmp place_cmp p) (cut_by_op old space o) (flat_map (cut_by_op old space) os)
          ∙ or_left (is_wanted (cut_by_op old space o) p) (is_wanted (flat_map (cut_by_op old space) os) p) (cut_from L space (op_first o) (op_pages o) p was.few_levels cut));
    },
    good_from os right.1 (λ p h. there p (any_append (eq_by_cmp place_cmp p) (cut_by_op old space o) (flat_map (cut_by_op old space) os)
        ∙ or_right (is_wanted (cut_by_op old space o) p) (is_wanted (flat_map (cut_by_op old space) os) p) h)),
  )

  wanted_now : (p : Place) → is_wanted (flat_map (cut_by_op old space) ops) p ≡ true → set.contains now.tables p ≡ true
  unfolding state_after
  wanted_now p h = comes (is_given_up old c) (wanted_tables old thread c) old.tables p h

  all_good : AllByRecursion (IsGood now.tables L space) ops
  all_good = good_from ops rights wanted_now

  pub top_now : set.contains now.tables (root L space) ≡ true
  unfolding state_after
  top_now = stays (is_given_up old c) (wanted_tables old thread c) old.tables (root L space) (was.roots space (held_of _ _ ok.space)) refl

  levels_now : levels now ≡ levels old
  unfolding state_after
  levels_now = refl

  pub cells_now : (page : ℕ) → cell_at now space page ≡ after_at ops page (cell_at old space page)
  unfolding state_after
  cells_now page = cell_changed old space (after_ops ops (space_at old space)) now.tables space page ∙ (ap (λ t. cond t (get (after_ops ops (space_at old space)) page) (cell_at old space page)) (eq-eqb space space refl) ∙ ops_made ops (space_at old space) page)

  pub kept_tables : (p : Place) → set.contains old.tables p ≡ true → set.contains now.tables p ≡ false → ⊥
  unfolding state_after
  kept_tables p there gone = true≢false (sym (stays (is_given_up old c) (wanted_tables old thread c) old.tables p there refl) ∙ gone)

  module _ (new : IsConsistent now) (st : State) (taken : ℕ → Bool) (between : IsBetween old now st space taken) where
    led : Led ops space st
    led = ops_lead L space was.few_levels ops st (between.same_levels ∙ levels_now) (subst (λ (t : Tables). AllByRecursion (IsGood t L space) ops) (sym between.same_tables) all_good)
        (ap (λ (t : Tables). set.contains t (root L space)) between.same_tables ∙ top_now)
        (λ p there. subst (λ k. is_place k p ≡ true) levels_now (new.places p (ap (λ (t : Tables). set.contains t p) (sym between.same_tables) ∙ there)))

    ended_at : (page : ℕ) (t : Bool) → cell_at st space page ≡ cond t (drawn (cell_at old space page)) (cell_at old space page) → cell_at led.end space page ≡ cond t (drawn (cell_at now space page)) (cell_at now space page)
    ended_at page true e = led.cells page ∙ (ap (after_at ops page) e ∙ (drawn_after ops page (cell_at old space page) ∙ ap drawn (sym (cells_now page))))
    ended_at page false e = led.cells page ∙ (ap (after_at ops page) e ∙ sym (cells_now page))

    pub txn_led : (end : State) × IsBetween now now end space taken × Steps (changes_of old thread (call.Txn space at len ops)) space st end
    unfolding changes_of
    txn_led = (
      led.end,
      record {
        same_levels = led.same_levels ∙ between.same_levels;
        same_tables = led.same_tables ∙ between.same_tables;
        others = λ t page ne. led.others t page ne ∙ between.others t page ne;
        cut = λ p page r has. absurd (true≢false (sym r.0 ∙ r.1));
        pages = λ page none. ended_at page (taken page) (between.pages page (λ p r has. kept_tables p r.0 r.1));
      },
      led.steps,
    )

pub txn_steps : TxnSteps
txn_steps old st thread limbo space c taken is was new fine between = go c is.is new (passed old thread c limbo fine) between
  where
    go : (x : Call) → x ≡ call.Txn space is.at is.len is.ops → IsConsistent (state_after old thread x) → Passed old thread x limbo → IsBetween old (state_after old thread x) st space taken
        → (end : State) × IsBetween (state_after old thread x) (state_after old thread x) end space taken × Steps (changes_of old thread x) space st end
    go x e new ok between =
        subst (λ (y : Call). (end : State) × IsBetween (state_after old thread y) (state_after old thread y) end space taken × Steps (changes_of old thread y) space st end) (sym e)
        (txn_led old thread space is.at is.len is.ops limbo was (subst (λ (y : Call). Passed old thread y limbo) e ok) (subst (λ (y : Call). IsConsistent (state_after old thread y)) e new) st taken
        (subst (λ (y : Call). IsBetween old (state_after old thread y) st space taken) e between))
