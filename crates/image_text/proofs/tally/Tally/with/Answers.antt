-- What is counted of the item is added.
use Rattle.std.proofs.Common.{ℕ, ◌≡◌, ◌+◌, ◌-◌, List, [], ◌∷◌, ◌++◌, length, refl, sym, ap, ◌∙◌, arith}
use Rattle.std.specs.List.{range_with_len, sum_by, filter}
use mir.Val.{bool_byte}
use Rattle.image_text.specs.declared.image.Item.{Item}
use Rattle.image_text.specs.Items.{first_of, count_of, end_of, is_live, is_out, cells_of}
use Rattle.image_text.specs.Images.{unlike_count}
use Rattle.image_text.specs.Reading.{reach, new_in_level}
use Rattle.image_text.proofs.Orders.{user_small}
use Rattle.image_text.proofs.Counts.{tables_with, counted_push, counted_one}
use Rattle.image_text.proofs.tally.Tally.with.Goals as goal

pub new_tables-new-requires-clause-wide : goal.new_tables-new-requires-clause-wide
new_tables-new-requires-clause-wide c =
    let small = user_small c.args.levels (first_of c.args.item.now) (count_of c.args.item.now) c.requires.levels.1 c.requires.user in
    omega (arith, small, c.first-first.ensures, c.count.ensures)

pub returns : goal.returns
returns c =
    let items : List Item = c.args.items.now in
    let item : Item = c.args.item.now in
    let was = c.requires.counted in
    let all : c.new_tables-new.result ≡ sum_by (new_in_level (reach items) (first_of item) (end_of item)) (range_with_len 1 (c.args.levels - 1)) =
    c.new_tables-new.ensures.value ∙ (λ i. sum_by (new_in_level (c.end_of.ensures i) (c.first-first.ensures i) (c.first-first.ensures i + c.count.ensures i)) (range_with_len 1 (c.args.levels - 1))) in
    record {
      live = (λ i. was.live i + counted_one is_live item bool_byte c.is_at.result c.from.result refl refl c.from.ensures (c.is_at.ensures.live refl) i) ∙ sym (counted_push is_live items item);
      out = (λ i. was.out i + counted_one is_out item bool_byte c.is_at-2.result c.from-2.result refl refl c.from-2.ensures (c.is_at-2.ensures.out refl) i) ∙ sym (counted_push is_out items item);
      tables = more c.args.self.tables c.new_tables-new.result (unlike_count c.args.levels (cells_of items)) _ _ was.tables all (tables_with c.args.levels items item c.requires.levels.1 c.requires.order c.requires.next);
    }
  where
    more : (a n u s v : ℕ) → a ≡ 1 + u → n ≡ s → v ≡ u + s → a + n ≡ 1 + v
    more a n u s v x y z = omega (arith, x, y, z)
