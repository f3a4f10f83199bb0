-- The pages that should go to swap first, by the whole history.
--     victim_cmp      their order: by last touch, then space, then page
--     IsVictim      a page that has a frame of its own, with its last touch
--     AreVictims      all of them, in order
use Rattle.std.specs.Prelude.{◌≡◌, ℕ, List, Some, ◌↔◌}
use Rattle.std.specs.List.{Contains}
use Rattle.std.specs.List.Sorted.{IsStrictlySortedBy}
use Rattle.std.specs.Ordering.{nat_cmp, ordering_then}
use Rattle.std.specs.declared.cmp.Ordering.{Ordering}
use Rattle.corten_base.specs.declared.calls.Entry.{Entry}
use Rattle.corten_base.specs.declared.numbers.Limits.{Limits}
use Rattle.page_map.specs.State.{start, frame_owners}
use Rattle.page_map.specs.History.{after}
use Rattle.mm_model.specs.Pages.{frame_at}
use Rattle.pageout.specs.Touches.{IsLastTouch}
use Rattle.pageout.specs.declared.victims.Victim.{Victim}

abbrev pub victim_cmp : Victim → Victim → Ordering
victim_cmp a b = ordering_then (nat_cmp a.touched b.touched) (ordering_then (nat_cmp a.space b.space) (nat_cmp a.page b.page))

-- in the state that the history leaves
pub record IsVictim (limits : Limits) (files : List (List ℕ)) (es : List Entry) (v : Victim) : Type 0 where
  pub frame : ℕ
  pub mapped : frame_at (after (start limits files) es) v.space v.page ≡ Some frame
  pub own : frame_owners (after (start limits files) es) frame ≡ 1
  pub last : IsLastTouch (start limits files) es v.space v.page v.touched

pub record AreVictims (limits : Limits) (files : List (List ℕ)) (es : List Entry) (all : List Victim) : Type 0 where
  pub ordered : IsStrictlySortedBy victim_cmp all
  pub exact : (v : Victim) → Contains all v ↔ IsVictim limits files es v
