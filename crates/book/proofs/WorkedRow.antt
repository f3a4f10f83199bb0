-- The worked row of two calls.
use Rattle.std.proofs.Common.{◌≡◌, true, false, cond, ◌≤◌, arith, ℕ, ◌+◌, List, [], ◌∷◌, length, refl, sym, ap, subst, ◌∙◌}
use mathlib.Core.Bool.{true≢false}
use Rattle.std.specs.Prelude.{Some, None, Bool, nat_lt, nat_le, is_some, map, drop}
use Rattle.std.specs.List.{flat_map, filter, count_by, AllByRecursion, All}
use Rattle.std.specs.FinMap as fin
use Rattle.std.specs.FinMap.{gets, entries-insert}
use Rattle.std.specs.FinSet as set
use Rattle.std.specs.FinSet.{members}
use Rattle.std.proofs.lemmas.Bool.{leb-true, ltb-true}
use Rattle.corten_base.specs.declared.calls.Backing.TheVariants as backing
use Rattle.corten_base.specs.declared.calls.TxnOp.TheVariants as op
use Rattle.corten_base.specs.declared.calls.Reply.{Reply}
use Rattle.corten_base.specs.declared.calls.Reply.TheVariants as reply
use Rattle.table_place.specs.declared.Place.{Place}
use Rattle.table_place.specs.Place.{above, span_first, span_count}
use Rattle.page_map.specs.declared.cell.Cell.{Cell}
use Rattle.page_map.specs.declared.cell.Cell.TheVariants.{Anon}
use Rattle.page_map.specs.Change.{change}
use Rattle.page_map.specs.State.{State, AddressSpace, start, owners, space_at, linked, unused_frames, unused_slots}
use Rattle.page_map.specs.Tables.{need, changed_tables}
use Rattle.page_map.specs.Mapping.{after_op}
use Rattle.page_map.specs.Step.{refusal}
use Rattle.page_map.specs.Effect.{state_after, wanted_tables, is_given_up}
use Rattle.page_map.specs.Alike.{is_unlike, unlike_tables}
use Rattle.page_map.proofs.Alike.{gap_unlike}
use Rattle.page_map.proofs.Steps.{Passed, by_none, by_tables, accepted, refused}
use Rattle.page_map.proofs.Places.{place_total, place_exact, written_out}
use Rattle.page_map.proofs.Evaluate.{entries_empty, retain_empty, retain_insert, difference_is}
use Rattle.page_map.specs.Cell.{frame_of, slot_of}
use Rattle.page_map.specs.History.{after}
use Rattle.counted_pages.specs.Pages.{PageCounts}
use Rattle.corten_base.specs.declared.numbers.Limits.{Limits}
use Rattle.row_layout.specs.declared.limbo.Sampled.{Sampled}
use Rattle.machine_plan.specs.declared.kit.Kit.{Kit}
use Rattle.machine_plan.specs.Books.{BookData, state_of, free_rows_within, RowSum, HasBlocker, unblocked}
use Rattle.machine_plan.specs.Kits.{Refs, AreBacked, IsPlanned, IsFilled, IsSwept, Commits}
use Rattle.machine_plan.specs.Uses.{early_refusal, wants_of, used_cells, refs_of, shown_refs, changes_of}
use Rattle.book.specs.Starting.{Starts}
use Rattle.book.specs.Worked.{worked_limits, read_only, map_page, IsMapKit, Maps}

abbrev pos : ℕ → ℕ → Place
pos level prefix = record { space = 0; level = level; prefix = prefix }

-- The two states

abbrev pub st0 : State
st0 = start worked_limits []

abbrev cells1 : AddressSpace
cells1 = fin.insert fin.empty 512 (Anon read_only)

abbrev pub st1 : State
st1 = record st0 {
  spaces = fin.insert (fin.insert fin.empty 0 fin.empty) 0 cells1;
  tables = set.insert (set.insert (set.insert (set.insert set.empty (pos 4 0)) (pos 3 0)) (pos 2 0)) (pos 1 1);
}

abbrev cells2 : AddressSpace
cells2 = fin.insert cells1 1024 (Anon read_only)

mapped1 : after_op (op.Map 0x200000 false 4096 read_only backing.Zero) (space_at st0 0) ≡ cells1
unfolding after_op change start
mapped1 = simp written_out refl

mapped2 : after_op (op.Map 0x400000 false 4096 read_only backing.Zero) (space_at st1 0) ≡ cells2
unfolding after_op change start
mapped2 = simp written_out refl

-- The tables that each call wants

all_stay : (f : Place → Bool) (ps : List Place) → AllByRecursion (λ p. f p ≡ true) ps → filter f ps ≡ ps
all_stay f [] h = refl
all_stay f (p ∷ ps) h = (λ i. cond (h.0 i) (p ∷ filter f ps) (filter f ps)) ∙ ap (λ (qs : List Place). p ∷ qs) (all_stay f ps h.1)

-- a span with a page that has a cell and the page behind it, which has none
unlike : (cells : AddressSpace) (page : ℕ) (c : Cell) → fin.get cells page ≡ Some c → fin.get cells (page + 1) ≡ None → (p : Place) → nat_le (span_first p) page ≡ true → nat_lt (page + 1) (span_first p + span_count p) ≡ true → is_unlike cells p ≡ true
unlike cells page c here none p a b =
    let low = leb-true _ _ a in
    let high = ltb-true _ _ b in
    gap_unlike cells (span_first p) (span_count p) page (page + 1) c low (omega (arith, high)) (omega (arith, low)) high here none

abbrev lower1 : List Place
lower1 = pos 1 1 ∷ pos 2 0 ∷ pos 3 0 ∷ []

abbrev lower2 : List Place
lower2 = pos 1 1 ∷ pos 2 0 ∷ pos 3 0 ∷ pos 1 2 ∷ pos 2 0 ∷ pos 3 0 ∷ []

unlike1 : unlike_tables 4 0 cells1 ≡ lower1
unfolding unlike_tables above
unlike1 =
    let keys : fin.keys cells1 ≡ 512 ∷ [] = simp written_out refl in
    let here : fin.get cells1 512 ≡ Some (Anon read_only) = simp written_out refl in
    let none : fin.get cells1 513 ≡ None = simp written_out refl in
    ap (λ (ks : List ℕ). filter (is_unlike cells1) (flat_map (λ p. above 3 0 p 1) ks)) keys
    ∙ all_stay (is_unlike cells1) lower1 (unlike cells1 512 _ here none (pos 1 1) refl refl, (unlike cells1 512 _ here none (pos 2 0) refl refl, (unlike cells1 512 _ here none (pos 3 0) refl refl, tt)))

unlike2 : unlike_tables 4 0 cells2 ≡ lower2
unfolding unlike_tables above
unlike2 =
    let keys : fin.keys cells2 ≡ 512 ∷ 1024 ∷ [] = simp written_out refl in
    let here : fin.get cells2 512 ≡ Some (Anon read_only) = simp written_out refl in
    let none : fin.get cells2 513 ≡ None = simp written_out refl in
    let there : fin.get cells2 1024 ≡ Some (Anon read_only) = simp written_out refl in
    let behind : fin.get cells2 1025 ≡ None = simp written_out refl in
    ap (λ (ks : List ℕ). filter (is_unlike cells2) (flat_map (λ p. above 3 0 p 1) ks)) keys
    ∙ all_stay (is_unlike cells2) lower2 (
      unlike cells2 512 _ here none (pos 1 1) refl refl,
      (
        unlike cells2 512 _ here none (pos 2 0) refl refl,
        (
          unlike cells2 512 _ here none (pos 3 0) refl refl,
          (unlike cells2 1024 _ there behind (pos 1 2) refl refl, (unlike cells2 512 _ here none (pos 2 0) refl refl, (unlike cells2 512 _ here none (pos 3 0) refl refl, tt))),
        ),
      ),
    )

wanted1 : wanted_tables st0 0 (map_page 0x200000) ≡ lower1
unfolding start
wanted1 = ap (unlike_tables 4 0) mapped1 ∙ unlike1

wanted2 : wanted_tables st1 0 (map_page 0x400000) ≡ lower2
unfolding start
wanted2 = ap (unlike_tables 4 0) mapped2 ∙ unlike2

need1 : need lower1 st0.tables ≡ 3
unfolding start
need1 = simp (members, place_total, difference_is place_total place_exact, retain_insert place_total place_exact, retain_empty place_total place_exact) refl

need2 : need lower2 st1.tables ≡ 1
unfolding start
need2 = simp (members, place_total, difference_is place_total place_exact, retain_insert place_total place_exact, retain_empty place_total place_exact) refl

linked0 : linked st0 ≡ 1
unfolding start
linked0 = simp (members, place_total) refl

pub linked1 : linked st1 ≡ 4
unfolding start
linked1 = simp written_out refl

frames0 : unused_frames st0 ≡ 0 ∷ 1 ∷ []
unfolding start owners
frames0 = simp (gets, entries-insert, entries_empty) refl

slots0 : unused_slots st0 ≡ 0 ∷ []
unfolding start owners
slots0 = simp (gets, entries-insert, entries_empty) refl

first_passes : Passed st0 0 (map_page 0x200000) 0
unfolding start
first_passes = record {
  arguments = refl;
  space = simp gets refl;
  spaces = refl;
  place = refl;
  pages = refl;
  tables = ap (λ (w : List Place). let n = need w st0.tables in cond (nat_lt 4 (linked st0 + n + 0)) (Some (reply.NoTables (linked st0) 0 n)) None) wanted1
      ∙ (λ i. cond (nat_lt 4 (linked0 i + need1 i + 0)) (Some (reply.NoTables (linked0 i) 0 (need1 i))) None);
  frames = ap (λ (u : List ℕ). cond (nat_lt (length u) 0) (Some (reply.NoFrames (length u) 0)) None) frames0;
  swap = ap (λ (u : List ℕ). cond (nat_lt (length u) 0) (Some (reply.NoSwap (length u) 0)) None) slots0;
}

state1 : state_after st0 0 (map_page 0x200000) ≡ st1
unfolding state_after start after_op change above
state1 =
    ap (λ m. record st0 { spaces = fin.insert st0.spaces 0 m; tables = changed_tables (is_given_up st0 (map_page 0x200000)) (unlike_tables 4 0 m) st0.tables }) mapped1
    ∙ ap (λ w. record st0 { spaces = fin.insert st0.spaces 0 cells1; tables = changed_tables (is_given_up st0 (map_page 0x200000)) w st0.tables }) unlike1
    ∙ simp written_out refl

first_accepted : refusal st0 0 (map_page 0x200000) 0 ≡ None
first_accepted = by_none st0 0 (map_page 0x200000) 0 first_passes

second_refused : refusal st1 0 (map_page 0x400000) 0 ≡ Some (reply.NoTables 4 0 1)
unfolding start
second_refused =
    by_tables st1 0 (map_page 0x400000) 0 (reply.NoTables 4 0 1) refl (simp written_out refl) refl refl refl
    (ap (λ (w : List Place). let n = need w st1.tables in cond (nat_lt 4 (linked st1 + n + 0)) (Some (reply.NoTables (linked st1) 0 n)) None) wanted2
    ∙ (λ i. cond (nat_lt 4 (linked1 i + need2 i + 0)) (Some (reply.NoTables (linked1 i) 0 (need2 i))) None))

-- The kits are filled

used1 : used_cells st0 st0 0 (map_page 0x200000) ≡ []
unfolding start
used1 = simp written_out refl

used2 : used_cells st1 st1 0 (map_page 0x400000) ≡ []
unfolding start
used2 = simp written_out refl

early1 : early_refusal st0 0 (map_page 0x200000) ≡ None
unfolding start
early1 = simp written_out refl

early2 : early_refusal st1 0 (map_page 0x400000) ≡ None
unfolding start
early2 = simp written_out refl

empty_backed : (counts : PageCounts) (refs : Refs) → refs ≡ [] → AreBacked counts refs
empty_backed counts refs e = subst (λ (refs : Refs). AreBacked counts refs) (sym e) (λ k d inside. absurd (omega (arith, inside)))

module _ (b : BookData) (st : State) (is : state_of b ≡ st) (at rows : ℕ) (kit : Kit) (map_kit : IsMapKit at rows kit) (early : early_refusal st 0 (map_page at) ≡ None) (needs : need (wanted_tables st 0 (map_page at)) st.tables ≡ rows) (used : used_cells st st 0 (map_page at) ≡ []) where
  planned_at : IsPlanned b 0 (map_page at) kit
  unfolding wants_of changes_of
  planned_at = record {
    rows = map_kit.needed ∙ sym needs ∙ ap (λ (s : State). need (wanted_tables s 0 (map_page at)) s.tables) (sym is);
    wants = map_kit.wants;
    frames = ap shown_refs map_kit.frames ∙ sym (ap (refs_of frame_of) unused);
    slots = ap shown_refs map_kit.slots ∙ sym (ap (refs_of slot_of) unused);
    frames_ready = (empty_backed b.frames _ map_kit.frames, map_kit.second_frames);
    slots_ready = (empty_backed b.slots _ map_kit.slots, map_kit.second_slots);
    changes = map_kit.changes;
    pieces = map_kit.pieces;
  }
    where
      unused : used_cells (state_of b) (state_of b) 0 (map_page at) ≡ []
      unused = ap (λ (s : State). used_cells s s 0 (map_page at)) is ∙ used

  filled_at : IsFilled b 0 (map_page at) kit
  filled_at = record {
    room = map_kit.room;
    few = record { wants = none_few _ map_kit.wants; frames = none_few _ map_kit.frames; slots = none_few _ map_kit.slots };
    ungranted = map_kit.ungranted;
    served = tt;
    lists = tt;
    early = map_kit.early ∙ sym early ∙ ap (λ (s : State). early_refusal s 0 (map_page at)) (sym is);
    planned = λ none. planned_at;
    refused = λ some. absurd (true≢false (sym some ∙ ap is_some map_kit.early));
    unmoved = λ some. map_kit.pieces;
  }
    where
      none_few : {X : Type 0} (xs : List X) → xs ≡ [] → length xs ≤ 4096
      none_few xs e = let n : length xs ≡ 0 = ap length e in omega (arith, n)

-- The books

none_blocked : (limbo : List Sampled) → limbo ≡ [] → All HasBlocker limbo
none_blocked limbo e = subst (λ (l : List Sampled). All HasBlocker l) (sym e) (λ k d inside. absurd (omega (arith, inside)))

module _ (b : BookData) (starts : Starts worked_limits 8 [] 2 b) where
  state0 : state_of b ≡ st0
  unfolding state_of
  state0 = λ i. after (start (starts.same_limits i) (starts.files i)) (starts.journal i)

  pub first_filled : (kit : Kit) → IsMapKit 0x200000 3 kit → IsFilled b 0 (map_page 0x200000) kit
  first_filled kit is = filled_at b st0 state0 0x200000 3 kit is early1 (ap (λ (w : List Place). need w st0.tables) wanted1 ∙ need1) used1

  pub first_swept : (kit : Kit) → IsSwept b kit
  first_swept kit fewer = none_blocked b.limbo starts.limbo

  module _ (b1 : BookData) (maps : Maps 0x200000 3 b b1) where
    is : IsMapKit 0x200000 3 maps.kit
    is = maps.is_kit

    commits : Commits b 0 (map_page 0x200000) maps.kit maps.reply b1 maps.kit'
    commits = maps.commits

    limbo1 : b1.limbo ≡ []
    limbo1 = commits.limbo ∙ ap (map unblocked) starts.limbo

    accepted1 : refusal (state_of b) 0 (map_page 0x200000) (length b.limbo) ≡ None
    accepted1 = (λ i. refusal (state0 i) 0 (map_page 0x200000) (length (starts.limbo i))) ∙ first_accepted

    state_now : state_of b1 ≡ st1
    state_now =
        ap (λ (x : Reply × State). x.1) (commits.is_step ∙ accepted (state_of b) 0 (map_page 0x200000) (length b.limbo) accepted1)
        ∙ ap (λ (s : State). state_after s 0 (map_page 0x200000)) state0 ∙ state1

    free1 : free_rows_within b1 ≡ 0
    free1 =
        let granted = commits.accepted (ap is_some accepted1) in
        (λ i. count_by (λ row. nat_le row ((commits.limits.0 ∙ starts.same_limits) i).tables) (granted.free i))
        ∙ (λ i. count_by (λ row. nat_le row 4) (drop (is.needed i) (starts.free i)))

    pub second_sum : RowSum b1
    second_sum =
        let rows : length b1.limbo ≡ 0 = ap length limbo1 in
        let links : linked (state_of b1) ≡ 4 = ap linked state_now ∙ linked1 in
        let tables : b1.limits.tables ≡ 4 = ap (λ (l : Limits). l.tables) (commits.limits.0 ∙ starts.same_limits) in
        omega (arith, free1, rows, links, tables)

    pub second_filled : (kit2 : Kit) → IsMapKit 0x400000 1 kit2 → IsFilled b1 0 (map_page 0x400000) kit2
    second_filled kit2 is2 = filled_at b1 st1 state_now 0x400000 1 kit2 is2 early2 (ap (λ (w : List Place). need w st1.tables) wanted2 ∙ need2) used2

    pub second_swept : (kit2 : Kit) → IsSwept b1 kit2
    second_swept kit2 fewer = none_blocked b1.limbo limbo1

    pub third_sum : (b2 : BookData) → Maps 0x400000 1 b1 b2 → RowSum b2
    third_sum b2 maps2 =
        let commits2 = maps2.commits in
        let refuses : refusal (state_of b1) 0 (map_page 0x400000) (length b1.limbo) ≡ Some (reply.NoTables 4 0 1) = (λ i. refusal (state_now i) 0 (map_page 0x400000) (length (limbo1 i))) ∙ second_refused in
        let book = (commits2.refused (ap is_some refuses)).book in
        let same : state_of b2 ≡ state_of b1 = ap (λ (x : Reply × State). x.1) (commits2.is_step ∙ refused (state_of b1) 0 (map_page 0x400000) (length b1.limbo) _ refuses) in
        let rows : length b2.limbo ≡ 0 = ap length (commits2.limbo ∙ ap (map unblocked) limbo1) in
        let rows_before : length b1.limbo ≡ 0 = ap length limbo1 in
        let free : free_rows_within b2 ≡ free_rows_within b1 = ap free_rows_within book in
        let links : linked (state_of b2) ≡ linked (state_of b1) = ap linked same in
        let tables : b2.limits.tables ≡ b1.limits.tables = ap (λ (x : BookData). x.limits.tables) book in
        omega (arith, free, rows, rows_before, links, tables, second_sum)
