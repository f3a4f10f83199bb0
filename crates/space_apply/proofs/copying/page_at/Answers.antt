use Rattle.std.proofs.Common.{arith}
use Rattle.std.specs.Prelude.{◌≡◌, ◌+◌, ◌-◌, ◌*◌, ◌^◌}
use Rattle.space_apply.proofs.CopyLinks.{page_small, prefix_low}
use Rattle.space_apply.proofs.copying.page_at.Goals as goal

pub overflow_mul-result : goal.overflow_mul-result
overflow_mul-result c = let low = prefix_low c.args.levels c.args.place c.requires.levels c.requires.place c.args.index c.requires.inside in omega arith

pub overflow_add-result : goal.overflow_add-result
overflow_add-result c = let low = prefix_low c.args.levels c.args.place c.requires.levels c.requires.place c.args.index c.requires.inside in let is = c.from.ensures in omega arith

pub overflow_mul-result-2 : goal.overflow_mul-result-2
overflow_mul-result-2 c =
    let small = page_small c.args.levels c.args.place c.requires.levels c.requires.place c.args.index c.requires.inside in
    let same : (512 * c.args.place.prefix + c.from.result) * c.entry_pages.result ≡ (512 * c.args.place.prefix + c.args.index) * 512 ^ (c.args.place.level - 1)
    = (λ i. (512 * c.args.place.prefix + c.from.ensures i) * c.entry_pages.ensures.value i) in
    omega (arith, small, same)
