use Rattle.std.proofs.Common.{◌≡◌, ◌-◌, [], ◌++◌, length, map, Some}
use Rattle.std.specs.List.{All, range_with_len}
use Rattle.row_table.specs.Rule.{unmoved, boot_from}
use Rattle.row_table.specs.Passes.{view_of, number_of, kit_of, IsPassOf}
use Rattle.row_table.proofs.table.Iron.deal.Given as goal

abbrev pub invariant-loop-kit : goal.invariant-loop-kit
invariant-loop-kit g l = record {
  can : (goal.iterator-loop-kit g).can_next l.kit-iterator;
  finite : (goal.iterator-loop-kit g).is_finite l.kit-iterator;
  kits_left : l.yielded ++ l.kit-iterator.rest.items ≡ l.fn.kits.items;
  table : l.seat.table_id ≡ l.self.table.shared.table_id;
  seat : l.seat.me ≡ (boot_from l.self.layout (Some l.self.table.shared.key.origin.value) (length l.passes.items) (l.self.layout.passes - length l.passes.items), []);
  numbers : map (λ p. number_of p) l.passes.items ≡ range_with_len 0 (length l.passes.items);
  kits : map (λ p. kit_of p) l.passes.items ≡ map (λ kit. Some kit) l.yielded;
  views : All (λ p. IsPassOf l.self p × (view_of p ≡ unmoved l.self.layout (Some l.self.table.shared.key.origin.value) (number_of p))) l.passes.items;
}
