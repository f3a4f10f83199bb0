use Rattle.std.proofs.Common.{rules, arith, ◌+◌, ◌-◌, List, ℕ, subst, sym, refl, ap, ◌∙◌}
use Rattle.walk_core.specs.Lists.{times}
use Rattle.row_table.specs.Stack.{outs, Ahead}
use Rattle.row_table.proofs.Stacks.{ahead_all, ahead_turned, outs_turned, times_turned}
use Rattle.row_table.proofs.stack.bring.Goals as goal

pub loop-init : goal.loop-init
loop-init g c = (ahead_all c.args.row (c.len-end.result - 0) c.args.stack.now.items (omega arith) c.requires.there, c.requires.stacked, refl, refl, refl, refl, refl, λ r. refl, omega arith)

pub loop-preserved : goal.loop-preserved
loop-preserved g c = let inv = c.loop.invariant in let a = c.in-Some.ensures.items in let e = c.push_back_reserved.ensures.items in let t = c.turn.ensures in
    let left : ℕ = c.len-end.result - (c.loop.counter + 1) in let F : List ℕ → Type 0 = λ x. Ahead c.args.row left x in
    let G : List ℕ → Type 0 = λ x. Ahead c.args.row (c.len-end.result - c.loop.counter) x in let test = c.loop-test.true in (
      subst F (sym {A = List ℕ} e) (ahead_turned c.args.row left (c.len-end.result - c.loop.counter) c.in-Some.first c.pop_front.new.self.items (omega arith) c.if-first-row.false (subst G a inv.0)),
      ap (λ m. m.1) t.2 ∙ (outs_turned c.in-Some.first c.pop_front.new.self.items c.loop.seat.me.1 (inv.1 ∙ ap outs a) ∙ ap outs (sym {A = List ℕ} e)),
      ap (λ m. m.0) t.2 ∙ inv.2,
      t.0 ∙ inv.3,
      t.1 ∙ inv.4,
      search rules,
      search rules,
      λ r. ap (times r) e ∙ (times_turned r c.in-Some.first c.pop_front.new.self.items ∙ (ap (times r) (sym {A = List ℕ} a) ∙ inv.7 r)),
      omega arith,
    )
