use Rattle.std.proofs.Common.{◌≡◌, arith, ℕ, ◌+◌, ◌-◌, [], ◌∷◌, ◌++◌, length, length-append, append_assoc, map, sym, ap, ◌∙◌, Some}
use Rattle.std.specs.List.{range_with_len}
use Rattle.std.proofs.lemmas.List.{map-append}
use Rattle.std.proofs.lemmas.List.Elements.{All-push, All-same}
use Rattle.row_table.specs.declared.pass.Pass.{Pass}
use Rattle.row_table.specs.Rule.{unmoved, boot_from}
use Rattle.row_table.specs.Passes.{view_of, number_of, kit_of, IsPassOf}
use Rattle.row_table.proofs.Start.{next_new, after_cut, dealt_length, numbers_more}
use Rattle.row_table.proofs.table.Iron.deal.Goals as goal

pub cut-pass-requires-clause-first : goal.cut-pass-requires-clause-first
cut-pass-requires-clause-first g c κs within =
    let inv = c.loop-kit.invariant in let left = dealt_length _ c.loop-kit.passes.items c.loop-kit.yielded c.loop-kit.kit-iterator.rest.items c.args.kits.items c.args.self.now.layout.passes inv.kits inv.kits_left c.requires.kits in
    let step = ap length c.in-Some.ensures.steps.0 in
    let n : ℕ = length c.loop-kit.passes.items in let is = c.len-number.ensures in
    let at = next_new c.args.self.now.layout (Some c.args.self.now.table.shared.key.origin.value) n c.args.self.now.layout.passes c.loop-kit.seat.me (omega arith) inv.seat in (
      boot_from c.args.self.now.layout (Some c.args.self.now.table.shared.key.origin.value) (n + 1) (c.args.self.now.layout.passes - (n + 1)),
      at ∙ ap (λ (j : ℕ). (unmoved c.args.self.now.layout (Some c.args.self.now.table.shared.key.origin.value) j ∷ boot_from c.args.self.now.layout (Some c.args.self.now.table.shared.key.origin.value) (n + 1) (c.args.self.now.layout.passes - (n + 1)), [])) (let e : n ≡ c.len-number.result = omega arith in e),
    )

pub loop-kit-preserved : goal.loop-kit-preserved
loop-kit-preserved g c =
    let inv = c.loop-kit.invariant in let left = dealt_length _ c.loop-kit.passes.items c.loop-kit.yielded c.loop-kit.kit-iterator.rest.items c.args.kits.items c.args.self.now.layout.passes inv.kits inv.kits_left c.requires.kits in
    let step = ap length c.in-Some.ensures.steps.0 in
    let n : ℕ = length c.loop-kit.passes.items in let is = c.len-number.ensures in
    let at = next_new c.args.self.now.layout (Some c.args.self.now.table.shared.key.origin.value) n c.args.self.now.layout.passes c.loop-kit.seat.me (omega arith) inv.seat in
    let more = c.in_ok-push.ensures.items in
    let longer : length c.push.new.self.items ≡ n + 1 = ap length more ∙ length-append c.loop-kit.passes.items (c.cut-pass.result ∷ []) in
    let F : Pass g.row.P.Denot g.row.P-Row.Denot g.row.P-Book.Denot g.row.P-Kit.Denot g.row.P-Entry.Denot g.P.Plan → Type 0
    = λ p. IsPassOf c.args.self.now p × (view_of p ≡ unmoved c.args.self.now.layout (Some c.args.self.now.table.shared.key.origin.value) (number_of p)) in
    let both : F c.cut-pass.result
    = (c.cut-pass.ensures.table.1, c.cut-pass.ensures.view ∙ ap (unmoved c.args.self.now.layout (Some c.args.self.now.table.shared.key.origin.value)) (sym c.cut-pass.ensures.number.0)) in
    record {
      can = tt;
      finite = tt;
      kits_left = append_assoc c.loop-kit.yielded (c.in-Some.kit ∷ []) c.next.new.self.rest.items ∙ (ap (λ (l : _). c.loop-kit.yielded ++ l) (sym c.in-Some.ensures.steps.0) ∙ inv.kits_left);
      table = c.cut-pass.ensures.table.0;
      seat = after_cut _ _ _ _ at c.cut-pass.ensures.seat
          ∙ ap (λ (j : ℕ). (boot_from c.args.self.now.layout (Some c.args.self.now.table.shared.key.origin.value) j (c.args.self.now.layout.passes - j), [])) (sym longer);
      numbers = ap (map (λ p. number_of p)) more ∙ (numbers_more (λ p. number_of p) c.loop-kit.passes.items c.cut-pass.result n inv.numbers (c.cut-pass.ensures.number.0 ∙ (let e : c.len-number.result ≡ n = omega arith in e)) ∙ ap (range_with_len 0) (sym longer));
      kits = ap (map (λ p. kit_of p)) more ∙ (map-append (λ p. kit_of p) c.loop-kit.passes.items (c.cut-pass.result ∷ []) ∙ ((λ i. inv.kits i ++ c.cut-pass.ensures.number.1 i ∷ []) ∙ sym (map-append (λ kit. Some kit) c.loop-kit.yielded (c.in-Some.kit ∷ []))));
      views = All-same F _ _ more (All-push F c.loop-kit.passes.items c.cut-pass.result inv.views both);
    }
