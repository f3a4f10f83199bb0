-- The bytes of an access in the frames of its pages.
--     IsTouched, AreTouched      a page that has a byte of an access
--     overlap_of      the bytes that a page and an access share: from a place in the page on, from a place in the access on, and how many
--     stored_in      a reference after the bytes of a store, in a body of its own
--     AreAlone, AreWhole      frames of one owner;  with 4,096 bytes
--     Stores      counts and references after a store
--     byte_from      the byte at an address, of its page's source if there is one
use Rattle.std.specs.Prelude.{◌≡◌, ℕ, ◌+◌, ◌-◌, ◌*◌, ◌/◌, ◌%◌, ◌^◌, ◌<◌, min, List, map, length, slice_index}
use Rattle.std.specs.Option.{option_map_or}
use Rattle.std.specs.List.{All}
use Rattle.counted_pages.specs.Pages.{CountedPage, PageCounts, HasSpare}
use Rattle.page_map.specs.Cell.{written}
use Rattle.shares.specs.Counts.{count_of}
use Rattle.machine_plan.specs.Kits.{Refs}
use Rattle.machine_plan.specs.Uses.{shown_refs}
use Rattle.book.specs.declared.storing.Overlap.{Overlap}
use Rattle.book.specs.Balance.{times}
use Rattle.book.specs.Filling.{Sources, bytes_at, refilled}

pub record IsTouched (at len page : ℕ) : Type 0 where
  pub begins : at < 4096 * page + 4096
  pub ends : 4096 * page < at + len
  pub fits : 4096 * page < 2 ^ 64

abbrev pub AreTouched : ℕ → ℕ → Refs → Type 0
AreTouched at len refs = All (λ r. IsTouched at len r.0) refs

abbrev pub overlap_of : ℕ → ℕ → ℕ → Overlap
overlap_of at len page = record { start = at - 4096 * page; place = 4096 * page - at; len = min (4096 - (at - 4096 * page)) (len - (4096 * page - at)) }

abbrev pub stored_in : ℕ → List ℕ → ℕ × CountedPage → ℕ × CountedPage
stored_in at stored r = refilled r (written at stored r.0 r.1.body.bytes)

abbrev pub AreAlone : PageCounts → Refs → Type 0
AreAlone counts refs = All (λ r. count_of counts.counts r.1.number ≡ 1) refs

abbrev pub AreWhole : Refs → Type 0
AreWhole refs = All (λ r. length r.1.body.bytes ≡ 4096) refs

pub record Stores (at : ℕ) (stored : List ℕ) (old new : PageCounts) (refs refs' : Refs) : Type 0 where
  pub counts : new.counts ≡ old.counts
  pub spares : (n : ℕ) → times n (shown_refs refs) ≡ 0 → HasSpare old n → HasSpare new n
  pub written : refs' ≡ map (stored_in at stored) refs

abbrev pub byte_from : Sources → ℕ → ℕ → ℕ
byte_from sources other address = option_map_or (λ page. slice_index page (address % 4096)) (bytes_at sources (address / 4096)) other
