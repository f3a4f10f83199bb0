-- A level has nine bits of a page's number.
use Rattle.std.proofs.Common.{◌≡◌, ℕ, ◌+◌, ◌*◌, ◌%◌, ◌^◌, ◌<◌, ◌≤◌, sym, subst, ◌∙◌, arith}
use Rattle.std.proofs.Math.Pow.{pow_mono}
use Rattle.table_place.proofs.Spans.{level_bits, span_pos}
use Rattle.image_text.proofs.tables.span_pages.Goals as goal

small : (x : ℕ) → x ≤ 2 ^ 36 → 1 * x % 2 ^ 64 ≡ x
small x h = omega (arith, h)

few : (level : ℕ) → level ≤ 4 → 2 ^ (9 * level) ≤ 2 ^ 36
few level h = pow_mono (nine level h)
  where
    nine : (n : ℕ) → n ≤ 4 → 9 * n ≤ 36
    nine n h = omega (arith, h)

pub returns-clause-value : goal.returns-clause-value
returns-clause-value c = small (2 ^ (9 * c.args.level)) (few c.args.level c.requires) ∙ sym (level_bits c.args.level)
