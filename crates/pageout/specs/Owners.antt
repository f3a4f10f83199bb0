-- The pages that have frames, by frame.
--     key_cmp, owner_cmp      the order of pages: by space, then page;  of owners: by frame, then page
--     has_frame      whether a page with this mark has a frame
--     AreOwners      the owners are the pages with the frames of their marks
use Rattle.std.specs.Prelude.{◌≡◌, ℕ, Bool, false, nat_eq, Option, Some, None}
use Rattle.std.specs.Ordering.{nat_cmp, ordering_then}
use Rattle.std.specs.BTreeMap.{BTreeMap}
use Rattle.std.specs.BTreeMap as tree
use Rattle.std.specs.BTreeSet.{BTreeSet}
use Rattle.std.specs.BTreeSet as set
use Rattle.std.specs.declared.cmp.Ordering.{Ordering}
use Rattle.pageout.specs.declared.marks.Key.{Key}
use Rattle.pageout.specs.declared.marks.Mark.{Mark}
use Rattle.pageout.specs.declared.marks.Owner.{Owner}

abbrev pub key_cmp : Key → Key → Ordering
key_cmp a b = ordering_then (nat_cmp a.space b.space) (nat_cmp a.page b.page)

abbrev pub owner_cmp : Owner → Owner → Ordering
owner_cmp a b = ordering_then (nat_cmp a.frame b.frame) (key_cmp a.key b.key)

abbrev pub has_frame : Option Mark → ℕ → Bool
has_frame None frame = false
has_frame (Some mark) frame = nat_eq mark.frame frame

pub record AreOwners (by_page : BTreeMap Key Mark) (by_frame : BTreeSet Owner) : Type 0 where
  pub each : (o : Owner) → set.contains owner_cmp by_frame o ≡ has_frame (tree.get key_cmp by_page o.key) o.frame
