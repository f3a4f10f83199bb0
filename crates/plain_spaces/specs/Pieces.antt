-- The ranges whose tables a range of another length may lack.
--     joined_at      how many of the added pages go on from the old ones before a page
--     joined_end      the end of the old pages at their new place, with the added ones that go on from them
--     AreMoved      the pieces of the new place of pages that move, up to a page
--     AreCut      the pages that it leaves or gets; where it moves, its old place and the pieces of its new one
--     left_of      the pages that it gives up
use Rattle.std.specs.Prelude.{◌≡◌, ℕ, ◌+◌, ◌-◌, cond, ◌&&◌, nat_eq, nat_lt, is_none, List, [], ◌∷◌}
use Rattle.page_map.specs.Cutting.{ArePieces}
use Rattle.page_map.specs.State.{AddressSpace}
use Rattle.plain_counts.specs.declared.cut.Pages.{Pages}
use Rattle.space_cells.specs.declared.moving.Relocation.{Relocation}
use Rattle.space_cells.specs.Cells.{number_at}
use Rattle.space_cells.specs.Moving.{moved}
use Rattle.plain_spaces.specs.declared.resizing.Resize.{Resize}
use Rattle.plain_spaces.specs.declared.resizing.Placing.{Placing}
use Rattle.plain_spaces.specs.declared.resizing.Placing.TheVariants.{Shrinks, Grows, Moves}
use Rattle.plain_spaces.specs.Resizing.{relocation}

-- all of them, where it is the last one's end, and that has no frame or slot
abbrev pub joined_at : AddressSpace → Relocation → ℕ → ℕ
joined_at cells r next = cond (nat_eq next (r.first + r.old) && is_none (number_at cells (next - 1))) (r.new - r.old) 0

abbrev pub joined_end : AddressSpace → Relocation → ℕ
joined_end cells r = r.to + r.old + joined_at cells r (r.first + r.old)

abbrev pub AreMoved : AddressSpace → Relocation → ℕ → List Pages → Type 0
AreMoved cells r end pieces = ArePieces (λ (p : Pages). p.first) (λ p. p.count) (moved r cells) r.to end pieces

abbrev pub AreCut : AddressSpace → Resize → Placing → List Pages → Type 0
AreCut cells r Shrinks ranges = ranges ≡ cond (nat_lt r.new r.old) (record { first = r.first + r.new; count = r.old - r.new } ∷ []) []
AreCut cells r Grows ranges = ranges ≡ record { first = r.first + r.old; count = r.new - r.old } ∷ []
AreCut cells r (Moves to) ranges =
    (pieces : List Pages) × (ranges ≡ record { first = r.first; count = r.old } ∷ pieces) × AreMoved cells (relocation r to) (to + r.new) pieces

abbrev pub left_of : Resize → Placing → Pages
left_of r Shrinks = record { first = r.first + r.new; count = r.old - r.new }
left_of r Grows = record { first = r.first + r.new; count = 0 }
left_of r (Moves to) = record { first = r.first; count = r.old }
