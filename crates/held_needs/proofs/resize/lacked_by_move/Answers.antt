use Rattle.std.proofs.Common.{◌≡◌, ◌∙◌, ℕ, ◌+◌, ◌≤◌, ◌++◌, suc, false, [], ◌∷◌, take, get_or, refl, sym, ap, subst, arith}
use Rattle.std.specs.List.{Contains}
use Rattle.std.proofs.lemmas.List.{get_or_default}
use Rattle.corten_base.specs.declared.calls.Backing.TheVariants as backing
use Rattle.page_map.specs.Tables.{need}
use Rattle.plain_counts.specs.declared.cut.Pages.{Pages}
use Rattle.plain_counts.specs.Cut.{IsShort, cut_by_all}
use Rattle.machine_plan.specs.declared.kit.Piece.{Piece}
use Rattle.machine_plan.specs.HeldRows.{IsAsked}
use Rattle.held_needs.specs.Cutting.{last_of}
use Rattle.held_needs.specs.Moved.{range_at, ranges_at}
use Rattle.held_needs.proofs.Counted.{need_none}
use Rattle.held_needs.proofs.Moves.{pieces_in_row, row_taken, row_counts, piece_short, range_among, ranges_more}
use Rattle.held_needs.proofs.Trailing.{InRow, last_before, last_pushed, behind_all}
use Rattle.held_needs.proofs.resize.lacked_by_move.Goals as goal

plain : (n m : ℕ) → m ≡ 0 → m + n ≡ n
plain n m e = omega (arith, e)

abbrev none : Piece
none = record { first = 0; count = 0; perm = record { read = false; write = false; exec = false }; backing = backing.Zero }

pub loop-piece-init : goal.loop-piece-init
loop-piece-init c = record {
  few = omega (arith, c.lacked_beside-count.ensures.few);
  done_is = refl;
  short = c.requires.short;
  so_far = λ space end st cells is parts low asked.
      let here = asked c.args.old (0, omega arith, refl) in
      c.lacked_beside-count.ensures.lacks space st is here.0 here.1 ∙ plain c.lacked_beside-count.result _ (need_none st.tables);
}

pub returns-in_default : goal.returns-in_default
returns-in_default c = record {
  lacks = λ space end st cells is parts low asked.
      let pieces = c.args.pieces.now in
      let k = c.loop-piece.piece-index in
      let here = get_or pieces k none in
      absurd (c.in_default.ensures.none (piece_short c.args.to c.args.to end cells pieces parts low here (k, c.loop-piece-test.true, get_or_default pieces k here none c.loop-piece-test.true)));
}

pub loop-piece-preserved : goal.loop-piece-preserved
loop-piece-preserved c =
    let pieces = c.args.pieces.now in
    let to = c.args.to in
    let old = c.args.old in
    let k = c.loop-piece.piece-index in
    let here = get_or pieces k none in
    let done = ranges_at to (take k pieces) in
    let more : ranges_at to (take (k + 1) pieces) ≡ done ++ range_at to here ∷ [] = ranges_more to pieces k none c.loop-piece-test.true in
    let page = c.in-Some.ensures.some in
    let last : last_before old (ranges_at to (take (k + 1) pieces)) ≡ range_at to here = ap (last_before old) more ∙ last_pushed old done (range_at to here) in
    record {
      few = omega (arith, c.loop-piece.invariant.few, c.lacked_beside-count-in-loop-piece.ensures.few);
      done_is = ap (λ r. old ∷ r ∷ []) (page.0 ∙ sym last);
      short = subst IsShort (page.0 ∙ sym last) page.1;
      so_far = λ space end st cells is parts low asked.
          let held : Contains pieces here = (k, c.loop-piece-test.true, get_or_default pieces k here none c.loop-piece-test.true) in
          let row = subst (InRow to) more (row_taken to to (k + 1) pieces (pieces_in_row to to end cells pieces parts)) in
          let among = range_among to pieces here held in
          let ends = asked (range_at to here) (suc among.0, omega (arith, among.1), among.2) in
          let n = c.lacked_beside-count-in-loop-piece.result in
          let near = subst (λ (r : Pages). IsAsked space c.args.held.now.rows r.first) (sym page.0) ends.0 in
          let far = subst (λ (r : Pages). IsAsked space c.args.held.now.rows (last_of r)) (sym page.0) ends.1 in
          let added = subst (λ r. need (cut_by_all c.args.levels space (c.loop-piece.done ++ r ∷ [])) st.tables ≡ need (cut_by_all c.args.levels space c.loop-piece.done) st.tables + n) page.0
          (c.lacked_beside-count-in-loop-piece.ensures.lacks space st is near far) in
          let behind = subst (λ ds. need (cut_by_all c.args.levels space (ds ++ range_at to here ∷ [])) st.tables ≡ need (cut_by_all c.args.levels space ds) st.tables + n) c.loop-piece.invariant.done_is added in
          ap (λ rs. need (cut_by_all c.args.levels space (old ∷ rs)) st.tables) more
          ∙ behind_all c.args.levels space c.requires.few st.tables old to done (range_at to here) n (subst (λ (r : Pages). 1 ≤ r.count) page.0 page.1.some) row
          (row_counts to to done (row_taken to to k pieces (pieces_in_row to to end cells pieces parts))) behind
          ∙ ap (λ m. m + n) (c.loop-piece.invariant.so_far space end st cells is parts low asked);
    }
