use Rattle.std.proofs.Common.{None, cond, sym, ap, ◌∙◌}
use Rattle.std.specs.Ordering.{nat_cmp, eq_by_cmp}
use Rattle.std.specs.Cmp.{nat_cmp_total, eq_by_cmp_equiv}
use Rattle.std.specs.FinMap as map
use Rattle.std.specs.FinMap.{get-remove, same_map, nat_cmp-IsAntisymmetric}
use Rattle.std.specs.BTreeMap as tree
use Rattle.page_map.proofs.Entries.{get_entries}
use Rattle.plain_spaces.proofs.spaces.Spaces.remove.Goals as goal

pub returns-clause-value : goal.returns-clause-value
returns-clause-value c = c.remove.ensures.value ∙ sym (get_entries c.self.inside.spaces c.args.space) ∙ ap (λ m. map.get m c.args.space) c.self.view_is

pub returns-clause-spaces : goal.returns-clause-spaces
returns-clause-spaces c =
    same_map nat_cmp_total nat_cmp-IsAntisymmetric _ _ (λ q.
    get_entries c.remove.new.self q ∙ c.remove.ensures.updates.0 q ∙ ap (λ b. cond b None (tree.get nat_cmp c.self.inside.spaces q)) ((eq_by_cmp_equiv nat_cmp_total).symm c.args.space q)
    ∙ sym (get-remove nat_cmp_total (map.from_entries c.self.inside.spaces.entries) c.args.space q ∙ ap (cond (eq_by_cmp nat_cmp q c.args.space) None) (get_entries c.self.inside.spaces q)))
    ∙ ap (λ m. map.remove m c.args.space) c.self.view_is
