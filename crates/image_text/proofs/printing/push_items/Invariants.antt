-- The lines of the items so far were added.
use Rattle.std.proofs.Common.{◌≡◌, ◌≤◌, ◌++◌, take, map, length}
use Rattle.text_words.specs.Layout.{text}
use Rattle.image_text.specs.ImageText.{item_line}
use Rattle.image_text.proofs.printing.push_items.Given as goal

abbrev pub invariant-loop-item : goal.invariant-loop-item
invariant-loop-item l = l.out.items ≡ l.fn.out.items ++ text (map item_line (take l.item-index l.items))
