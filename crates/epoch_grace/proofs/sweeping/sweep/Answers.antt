use Rattle.std.proofs.Common.{◌≡◌, ◌<◌, ◌≤◌, ◌+◌, ◌-◌, ℕ, List, [], length, map, get_or, take, slice_get, set, Option, IfSome, sym, ap, ◌∙◌, subst, arith, Some}
use Rattle.std.specs.List.{All}
use Rattle.std.specs.FinSet as finset
use Rattle.std.proofs.lemmas.List.{get_or-take}
use Rattle.std.proofs.lemmas.List.Elements.{All-get_or}
use Rattle.std.proofs.lemmas.Option.{slice_get-get_or}
use Rattle.free_numbers.specs.Numbers.{NumbersBelow}
use Rattle.free_numbers.specs.FreeNumbers.{with_number}
use Rattle.walk_core.specs.Guards.{IsSampled, IsUnread}
use Rattle.row_layout.specs.declared.places.Layout.{Layout}
use Rattle.row_layout.specs.declared.limbo.Sampled.{Sampled}
use Rattle.row_layout.specs.Limbo.{LimboList, blocked}
use Rattle.row_table.specs.declared.view.PassView.{PassView}
use Rattle.row_table.specs.Blocked.{IsBlocked}
use Rattle.row_table.specs.Passes.{view_of, layout_of}
use Rattle.epoch_grace.specs.Loads.{put_of, loaded}
use Rattle.epoch_grace.specs.Sweeping.{reads, IsKept}
use Rattle.epoch_grace.proofs.Loaded.{stays, last_of_turn}
use Rattle.epoch_grace.proofs.Swept.{SweptTo, swept_none, met_length, met_is, sweep_keeps, sweep_frees, not_there, left_few}
use Rattle.epoch_grace.proofs.Stocked.{tidy_by_loads, few_rows, blocked_one, unread}
use Rattle.epoch_grace.proofs.sweeping.sweep.Goals.{in-Some, in-None}
use Rattle.epoch_grace.proofs.sweeping.sweep.Goals as goal

pub overflow_cast-count : goal.overflow_cast-count
overflow_cast-count g c =
    let sizes = c.load_all-numbers.ensures.sizes in let rows = ap (λ (k : Layout). k.rows) c.load_all-numbers.ensures.layout in let count = ap (λ (k : Layout). k.passes) c.load_all-numbers.ensures.layout in
    let few = few_rows (view_of c.args.pass.now).layout.rows c.args.limbo.now.list c.args.free.now
    (tidy_by_loads g.P.Plan.meaning (view_of c.args.pass.now) _ _ c.args.limbo.now.list c.args.free.now c.requires.lists c.load_all-numbers.ensures.loads c.requires.book (omega arith)) in
    let same = ap length c.list.ensures.value in omega (arith, few, same, sizes, rows)

pub loop-done-init : goal.loop-done-init
loop-done-init g c =
    let same : length c.list.result.now ≡ length c.args.limbo.now.list = ap length c.list.ensures.value in (
      subst (λ (p : ℕ). SweptTo (take c.layout.result.now.passes c.load_all-numbers.result) c.args.limbo.now.list c.args.free.now p c.args.limbo.now.list c.args.free.now) (let e : length c.args.limbo.now.list ≡ length c.list.result.now - 0 = omega arith in e)
          (swept_none (take c.layout.result.now.passes c.load_all-numbers.result) c.args.limbo.now.list c.args.free.now),
      (λ i. c.args.limbo.now.room),
      same,
    )

abbrev no_row : Sampled
no_row = record { row = 0; samples = []; blocker = 0; blocked_at = 0 }

-- the invariant at the place that is met next
met : (numbers : List ℕ) (first : List Sampled) (free : NumbersBelow) (count done : ℕ) (limbo : List Sampled) (free' : NumbersBelow) → done < count → SweptTo numbers first free (count - done) limbo free' → SweptTo numbers first free (count - 1 - done + 1) limbo free'
met numbers first free count done limbo free' less old = subst (λ (p : ℕ). SweptTo numbers first free p limbo free') (let e : count - done ≡ count - 1 - done + 1 = omega arith in e) old

pub put-requires-clause-absent : goal.put-requires-clause-absent
put-requires-clause-absent g c =
    let count = ap (λ (k : Layout). k.passes) c.load_all-numbers.ensures.layout in let sizes = c.load_all-numbers.ensures.sizes in
    let tidy = tidy_by_loads g.P.Plan.meaning (view_of c.args.pass.now) _ _ c.args.limbo.now.list c.args.free.now c.requires.lists c.load_all-numbers.ensures.loads c.requires.book (omega arith) in
    let numbers : List ℕ = take c.layout.result.now.passes c.load_all-numbers.result in let first : List Sampled = c.args.limbo.now.list in
    let p : ℕ = length c.list.result.now - 1 - c.loop-done.done in let more = c.loop-done-test.true in
    let old = met numbers first c.args.free.now (length c.list.result.now) c.loop-done.done c.loop-done.limbo.list c.loop-done.free c.loop-done-test.true c.loop-done.invariant.0 in
    let same = c.loop-done.invariant.2 in let less : p < length first = omega arith in
    let is = ap (λ (l : List Sampled). get_or l p no_row) c.list-in-loop-done.ensures.value ∙ met_is numbers first c.args.free.now p less c.loop-done.limbo.list c.loop-done.free old no_row no_row in
    ap (λ (s : Sampled). finset.contains c.loop-done.free.numbers s.row) is ∙ not_there numbers first c.args.free.now p less c.loop-done.limbo.list c.loop-done.free old no_row tidy.once tidy.apart

pub loop-done-preserved : goal.loop-done-preserved
loop-done-preserved g c =
    let numbers : List ℕ = take c.layout.result.now.passes c.load_all-numbers.result in let first : List Sampled = c.args.limbo.now.list in
    let p : ℕ = length c.list.result.now - 1 - c.loop-done.done in let more = c.loop-done-test.true in
    let old = met numbers first c.args.free.now (length c.list.result.now) c.loop-done.done c.loop-done.limbo.list c.loop-done.free c.loop-done-test.true c.loop-done.invariant.0 in
    let same = c.loop-done.invariant.2 in let less : p < length first = omega arith in
    let at = met_is numbers first c.args.free.now p less c.loop-done.limbo.list c.loop-done.free old no_row no_row in
    let is = ap (λ (l : List Sampled). get_or l p no_row) c.list-in-loop-done.ensures.value ∙ at in
    let long = met_length numbers first c.args.free.now p less c.loop-done.limbo.list c.loop-done.free old no_row in
    let here : slice_get c.loop-done.limbo.list p ≡ Some (get_or first p no_row) = slice_get-get_or c.loop-done.limbo.list p no_row long ∙ ap (λ (s : Sampled). Some s) at in
    let next : p ≡ length c.list.result.now - (c.loop-done.done + 1) = omega arith in
    let count = ap (λ (k : Layout). k.passes) c.load_all-numbers.ensures.layout in let shown = ap (λ (k : Layout). k.passes) c.layout.ensures.layout in
    let width : length numbers ≡ c.layout.result.now.passes = ap (λ (k : Layout). length (take k.passes c.load_all-numbers.result)) c.layout.ensures.layout ∙ (c.load_all-numbers.ensures.loads.all ∙ (count ∙ sym shown)) in
    elim c.match-reader_of.branch [
      | in-Some w ↦
          let b : ℕ = w.in-Some.blocker in let n : ℕ = get_or c.load_all-numbers.result w.from.result 0 in let low = w.in-Some.ensures.0 in
          let t : w.set_blocker.new.self ≡ record c.loop-done.limbo { list = set c.loop-done.limbo.list p (blocked (get_or first p no_row) b n) }
          = subst (λ (o : Option Sampled). IfSome o (λ s. w.set_blocker.new.self ≡ record c.loop-done.limbo { list = set c.loop-done.limbo.list p (blocked s b n) })) here w.set_blocker.ensures in
          let found : n ≡ get_or numbers b 0 = ap (λ (i : ℕ). get_or c.load_all-numbers.result i 0) w.from.ensures ∙ sym (get_or-take c.layout.result.now.passes c.load_all-numbers.result b 0 low) in
          let kept = sweep_keeps numbers first c.args.free.now p less c.loop-done.limbo.list c.loop-done.free old no_row b n (omega (arith, width, low)) found (ap (λ (s : Sampled). reads numbers s b) (sym is) ∙ w.in-Some.ensures.1.0)
          (λ y low. ap (λ (s : Sampled). reads numbers s y) (sym is) ∙ w.in-Some.ensures.1.1 y low)
          c.match-reader_of.limbo.list (ap (λ (l : LimboList). l.list) (w.limbo-is ∙ t)) in (
            subst (λ (q : ℕ). SweptTo numbers first c.args.free.now q c.match-reader_of.limbo.list c.match-reader_of.free) next
                (subst (λ (f : NumbersBelow). SweptTo numbers first c.args.free.now p c.match-reader_of.limbo.list f) (sym w.free-is) kept),
            ap (λ (l : LimboList). l.room) (w.limbo-is ∙ t) ∙ c.loop-done.invariant.1,
            same,
          )
      | in-None w ↦
          let freed = sweep_frees numbers first c.args.free.now p less c.loop-done.limbo.list c.loop-done.free old no_row
          (λ y low. ap (λ (s : Sampled). reads numbers s y) (sym is) ∙ w.in-None.ensures y (omega (arith, width, low)))
          c.match-reader_of.limbo.list (ap (λ (l : LimboList). l.list) (w.limbo-is ∙ w.remove.ensures.after)) c.match-reader_of.free
          (w.free-is ∙ (w.put.ensures ∙ ap (λ (s : Sampled). with_number c.loop-done.free s.row) is)) in (
            subst (λ (q : ℕ). SweptTo numbers first c.args.free.now q c.match-reader_of.limbo.list c.match-reader_of.free) next freed,
            ap (λ (l : LimboList). l.room) (w.limbo-is ∙ w.remove.ensures.after) ∙ c.loop-done.invariant.1,
            same,
          )
    ]

-- the sweep at its end
abbrev Ended : List ℕ → List Sampled → NumbersBelow → List Sampled → NumbersBelow → Type 0
Ended numbers first free limbo free' = SweptTo numbers first free 0 limbo free'

ended : (numbers : List ℕ) (first : List Sampled) (free : NumbersBelow) (count done : ℕ) (limbo : List Sampled) (free' : NumbersBelow) → count ≤ done → SweptTo numbers first free (count - done) limbo free' → Ended numbers first free limbo free'
ended numbers first free count done limbo free' past old = subst (λ (p : ℕ). SweptTo numbers first free p limbo free') (let e : count - done ≡ 0 = omega arith in e) old

pub overflow_cast-result : goal.overflow_cast-result
overflow_cast-result g c =
    let sizes = c.load_all-numbers.ensures.sizes in let rows = ap (λ (k : Layout). k.rows) c.load_all-numbers.ensures.layout in let count = ap (λ (k : Layout). k.passes) c.load_all-numbers.ensures.layout in
    let few = few_rows (view_of c.args.pass.now).layout.rows c.args.limbo.now.list c.args.free.now
    (tidy_by_loads g.P.Plan.meaning (view_of c.args.pass.now) _ _ c.args.limbo.now.list c.args.free.now c.requires.lists c.load_all-numbers.ensures.loads c.requires.book (omega arith)) in
    let end = ended (take c.layout.result.now.passes c.load_all-numbers.result) c.args.limbo.now.list c.args.free.now _ _ c.loop-done.limbo.list c.loop-done.free c.loop-done-test.false c.loop-done.invariant.0 in
    let fewer = left_few _ _ _ _ _ end in
    let same = ap length c.list-2.ensures.value in omega (arith, few, fewer, same, sizes, rows)

pub returns-clause-unread : goal.returns-clause-unread
returns-clause-unread g c row has =
    let l = c.load_all-numbers.ensures.loads in let sizes = c.load_all-numbers.ensures.sizes in let count = ap (λ (y : Layout). y.passes) c.load_all-numbers.ensures.layout in let all = l.all in
    let numbers : List ℕ = take (layout_of c.args.iron.now).passes c.load_all-numbers.result in let v = view_of c.args.pass.now in
    let end = subst (λ (ns : List ℕ). Ended ns c.args.limbo.now.list c.args.free.now c.loop-done.limbo.list c.loop-done.free) (ap (λ (k : Layout). take k.passes c.load_all-numbers.result) c.layout.ensures.layout)
    (ended (take c.layout.result.now.passes c.load_all-numbers.result) c.args.limbo.now.list c.args.free.now _ _ c.loop-done.limbo.list c.loop-done.free c.loop-done-test.false c.loop-done.invariant.0) in
    subst (λ (w : PassView g.row.P-Row.Denot g.row.P-Book.Denot g.row.P-Entry.Denot). IsUnread (layout_of c.args.iron.now).passes (map put_of c.args.limbo.now.list) w.core row) (sym l.after)
    (unread (layout_of c.args.iron.now).passes (loaded 0 numbers v).core numbers (all ∙ count) (last_of_turn g.P.Plan.meaning v numbers l.each (omega (arith, all, count, sizes)) c.load_all-numbers.ensures.places)
    c.args.limbo.now.list c.loop-done.limbo.list (ap (map put_of) end.list ∙ end.stay) row has)

pub returns-clause-blocked : goal.returns-clause-blocked
returns-clause-blocked g c k d less =
    let l = c.load_all-numbers.ensures.loads in let sizes = c.load_all-numbers.ensures.sizes in let count = ap (λ (y : Layout). y.passes) c.load_all-numbers.ensures.layout in let all = l.all in
    let numbers : List ℕ = take (layout_of c.args.iron.now).passes c.load_all-numbers.result in let v = view_of c.args.pass.now in
    let end = subst (λ (ns : List ℕ). Ended ns c.args.limbo.now.list c.args.free.now c.loop-done.limbo.list c.loop-done.free) (ap (λ (k : Layout). take k.passes c.load_all-numbers.result) c.layout.ensures.layout)
    (ended (take c.layout.result.now.passes c.load_all-numbers.result) c.args.limbo.now.list c.args.free.now _ _ c.loop-done.limbo.list c.loop-done.free c.loop-done-test.false c.loop-done.invariant.0) in
    subst (λ (w : PassView g.row.P-Row.Denot g.row.P-Book.Denot g.row.P-Entry.Denot). IsBlocked (layout_of c.args.iron.now).passes w.core (put_of (get_or c.loop-done.limbo.list k d))) (sym l.after)
    (blocked_one (layout_of c.args.iron.now).passes (loaded 0 numbers v).core numbers (all ∙ count) (last_of_turn g.P.Plan.meaning v numbers l.each (omega (arith, all, count, sizes)) c.load_all-numbers.ensures.places)
    (get_or c.loop-done.limbo.list k d) (All-get_or (IsKept numbers) c.loop-done.limbo.list k d less (subst (All (IsKept numbers)) (sym end.list) end.kept)))

pub returns-clause-others : goal.returns-clause-others
returns-clause-others g c k old =
    let l = c.load_all-numbers.ensures.loads in let few = c.load_all-numbers.ensures.sizes in let count = ap (λ (y : Layout). y.passes) c.load_all-numbers.ensures.layout in let all = l.all in
    subst (λ (w : PassView g.row.P-Row.Denot g.row.P-Book.Denot g.row.P-Entry.Denot). IsSampled (view_of c.args.pass.now).layout.passes w.core k) (sym l.after)
    (stays g.P.Plan.meaning (view_of c.args.pass.now) (take (layout_of c.args.iron.now).passes c.load_all-numbers.result) l.each (omega arith) c.load_all-numbers.ensures.places k old)
