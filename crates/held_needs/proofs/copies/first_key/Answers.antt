use Rattle.std.proofs.Common.{◌+◌, ◌*◌, ◌-◌, ◌^◌, ◌≤◌, inl, inr, arith}
use Rattle.std.proofs.Math.Nat.{mul-le-mul_right}
use Rattle.std.proofs.lemmas.Bool.{cases_lt}
use Rattle.held_needs.proofs.copies.first_key.Goals as goal

pub returns-then-index-eq512 : goal.returns-then-index-eq512
returns-then-index-eq512 c = record {
  least = λ q key. absurd (c.first_filled-index.ensures.before key.index (omega (arith, key.inside, c.if-index-eq512.true)) key.filled);
  there = λ less. absurd (omega (arith, less));
}

pub returns : goal.returns
returns c = record {
  least = λ q key. elim (cases_lt key.index c.first_filled-index.result) [
    | inl before ↦ absurd (c.first_filled-index.ensures.before key.index before key.filled)
    | inr behind ↦ (let sums : 512 * c.args.row.now.place.prefix + c.first_filled-index.result ≤ 512 * c.args.row.now.place.prefix + key.index = omega (arith, behind) in
        omega (arith, c.page_at.ensures.page, key.page_is, mul-le-mul_right (512 ^ (c.args.row.now.place.level - 1)) sums))
  ];
  there = λ less. record {
    deep = (c.is_of_table.ensures.0 c.if-not-is_of_table.false).0;
    low = (c.is_of_table.ensures.0 c.if-not-is_of_table.false).1;
    index = c.first_filled-index.result;
    inside = omega (arith, c.first_filled-index.ensures.few, c.if-index-eq512.false);
    filled = c.first_filled-index.ensures.here (omega (arith, c.first_filled-index.ensures.few, c.if-index-eq512.false));
    page_is = c.page_at.ensures.page;
  };
}
