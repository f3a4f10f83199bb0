-- Frames that were taken get the bytes of their pages.
--     Sources      pages with bytes
--     bytes_at      the bytes of the first source of a page
--     with_source      a reference with the bytes of its page, if there is a source, in a body of its own
--     bytes_of      references as sources
--     file_wanted, file_sources      the page of a file that a page wants;  wants of pages of files as sources
--     has_page      whether a list has a reference of a page
--     IsFresh      a frame of one owner with zeros
--     IsSole, AreSole      a frame of one owner, with 4,096 bytes of its own
use Rattle.std.specs.Prelude.{◌≡◌, ℕ, Bool, true, List, [], ◌∷◌, map, length, Option, Some, None, is_some}
use Rattle.std.specs.Option.{option_map_or}
use Rattle.std.specs.List.{All, flat_map}
use Rattle.std.specs.Ordering.{nat_cmp}
use Rattle.std.specs.FinMap.{find}
use Rattle.corten_base.specs.Bytes.{zeros}
use Rattle.corten_base.specs.declared.calls.Backing.TheVariants as backing
use Rattle.counted_pages.specs.Pages.{CountedPage, PageCounts}
use Rattle.page_map.specs.Cell.{file_page}
use Rattle.shares.specs.Counts.{count_of}
use Rattle.machine_plan.specs.declared.kit.Want.{Want}
use Rattle.machine_plan.specs.declared.kit.Want.TheVariants as want
use Rattle.machine_plan.specs.Kits.{Refs}

abbrev pub Sources : Type 0
Sources = List (ℕ × List ℕ)

abbrev pub bytes_at : Sources → ℕ → Option (List ℕ)
bytes_at sources page = find nat_cmp page sources

abbrev pub refilled : ℕ × CountedPage → List ℕ → ℕ × CountedPage
refilled r bytes = (r.0, record { number = r.1.number; body = record { bytes = bytes; own = true } })

abbrev pub with_source : Sources → ℕ × CountedPage → ℕ × CountedPage
with_source sources r = option_map_or (refilled r) (bytes_at sources r.0) r

abbrev pub bytes_of : Refs → Sources
bytes_of refs = map (λ r. (r.0, r.1.body.bytes)) refs

-- the file and the page of it that a page wants, if it wants one
abbrev pub file_wanted : Want → Option (ℕ × ℕ)
file_wanted (want.Fresh (backing.File file index)) = Some (file, index)
file_wanted (want.Fresh backing.Zero) = None
file_wanted (want.Copy frame) = None
file_wanted (want.Out frame) = None
file_wanted (want.Back slot) = None

abbrev pub file_source : List (List ℕ) → ℕ → Want → Sources
file_source files page want = option_map_or (λ (f : ℕ × ℕ). (page, file_page files f.0 f.1) ∷ []) (file_wanted want) []

abbrev pub file_sources : List (List ℕ) → List (ℕ × Want) → Sources
file_sources files wants = flat_map (λ w. file_source files w.0 w.1) wants

abbrev pub has_page : Refs → ℕ → Bool
has_page refs page = is_some (find nat_cmp page refs)

pub record IsFresh (counts : PageCounts) (r : ℕ × CountedPage) : Type 0 where
  pub zero : r.1.body ≡ record { bytes = zeros; own = true }
  pub one : count_of counts.counts r.1.number ≡ 1

pub record IsSole (counts : PageCounts) (r : ℕ × CountedPage) : Type 0 where
  pub own : r.1.body.own ≡ true
  pub whole : length r.1.body.bytes ≡ 4096
  pub one : count_of counts.counts r.1.number ≡ 1

abbrev pub AreSole : PageCounts → Refs → Type 0
AreSole counts refs = All (IsSole counts) refs
