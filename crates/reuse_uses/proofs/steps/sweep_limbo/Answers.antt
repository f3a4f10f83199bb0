use Rattle.std.proofs.Common.{◌≡◌, refl, sym, ap, ◌∙◌, subst, arith, Some}
use Rattle.row_table.specs.Passes.{view_of, layout_of}
use Rattle.row_table.specs.Books.{turned, Learns}
use Rattle.reuse_plan.specs.Stock.{StockData, store}
use Rattle.reuse_plan.proofs.Stocked.{among_free}
use Rattle.reuse_uses.specs.Kept.{View}
use Rattle.reuse_uses.proofs.Lists.{stocked_swept, may_sweep}
use Rattle.reuse_uses.proofs.Roots.{loaded_found, swept}
use Rattle.reuse_uses.proofs.steps.sweep_limbo.Goals as goal

pub sweep-left-requires-clause-lists : goal.sweep-left-requires-clause-lists
sweep-left-requires-clause-lists c κs =
    let book : StockData = record { free = c.stock.inside.free; limbo = c.stock.inside.limbo; next = c.stock.inside.next } in record {
      book = book;
      found = ap (λ (v : View). v.found) c.in-Got.ensures.turns.1 ∙ ap (λ (b : StockData). Some b) (sym c.stock.view_is);
      in_limbo = refl;
      is_free = among_free book c.stock.inside.rows c.stock.invariant;
    }

pub invariant_of-stock : goal.invariant_of-stock
invariant_of-stock c = stocked_swept (view_of c.turn.new.self) (view_of c.sweep-left.new.pass) c.stock.inside.rows c.stock.inside.free c.sweep-left.new.free c.stock.inside.limbo c.sweep-left.new.limbo
    c.stock.invariant c.sweep-left.ensures.room c.sweep-left.ensures.sweeps

pub give-requires-clause-has : goal.give-requires-clause-has
give-requires-clause-has c κs = let s = c.sweep-left.ensures.sweeps in (loaded_found (view_of c.turn.new.self) (view_of c.sweep-left.new.pass) s.numbers s.loads).1 ∙ ap (λ (v : View). v.core.has_book) c.in-Got.ensures.turns.1

pub give-requires-clause-may : goal.give-requires-clause-may
give-requires-clause-may c κs =
    let book : StockData = record { free = c.stock.inside.free; limbo = c.stock.inside.limbo; next = c.stock.inside.next } in
    let new : StockData = record { free = c.sweep-left.new.free; limbo = c.sweep-left.new.limbo; next = c.stock.inside.next } in
    let t = c.in-Got.ensures.turns in let s = c.sweep-left.ensures.sweeps in
    let e : c.in-Got.stock ≡ book = sym c.stock.view_is in
    let found = loaded_found (view_of c.turn.new.self) (view_of c.sweep-left.new.pass) s.numbers s.loads in
    let learns : Learns store (layout_of c.args.iron.now).rows (view_of c.args.pass) book = subst (Learns store (layout_of c.args.iron.now).rows (view_of c.args.pass)) e t.0 in record {
      old = book;
      found = found.0 ∙ (ap (λ (v : View). v.found) t.1 ∙ ap (λ (b : StockData). Some b) e);
      may = may_sweep (layout_of c.args.iron.now) (view_of c.turn.new.self) (view_of c.sweep-left.new.pass) book new c.stock.inside.rows (found.1 ∙ ap (λ (v : View). v.core.has_book) t.1)
          (λ q. let o = learns.once q in omega arith) c.stock.invariant refl s c.sweep-left.ensures.unread;
    }

pub returns : goal.returns
returns c =
    let book : StockData = record { free = c.stock.inside.free; limbo = c.stock.inside.limbo; next = c.stock.inside.next } in
    let new : StockData = record { free = c.sweep-left.new.free; limbo = c.sweep-left.new.limbo; next = c.stock.inside.next } in
    let t = c.in-Got.ensures.turns in let s = c.sweep-left.ensures.sweeps in
    let e : c.in-Got.stock ≡ book = sym c.stock.view_is in (
      c.give.ensures.table ∙ (c.sweep-left.ensures.table ∙ (c.in-Got.ensures.table ∙ c.requires.table)),
      swept (layout_of c.args.iron.now) (layout_of c.args.iron.now).rows (view_of c.args.pass) (view_of c.turn.new.self) (view_of c.sweep-left.new.pass) (view_of c.give.new.self) book new c.stock.inside.rows c.requires.root.0 c.requires.root.1
          (subst (Learns store (layout_of c.args.iron.now).rows (view_of c.args.pass)) e t.0) (t.1 ∙ ap (turned store (view_of c.args.pass)) e) c.stock.invariant refl s c.sweep-left.ensures.unread c.give.ensures.gives,
    )
