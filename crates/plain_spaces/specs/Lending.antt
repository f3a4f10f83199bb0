-- What becomes of the spaces once a borrow of one of them ends.
--     LendsSpace      the key has what was left there, and nothing changes where it is absent
use Rattle.std.specs.Prelude.{◌≡◌, ℕ, Option}
use Rattle.std.specs.Option.{OnSome}
use Rattle.std.specs.Borrow.{LendsSo, MutBor, Fml}
use Rattle.std.specs.FinMap as map
use Rattle.std.specs.Ordering.{nat_cmp}
use Rattle.page_map.specs.State.{AddressSpace}
use Rattle.plain_spaces.specs.contracts.spaces.Spaces as spaces
use Rattle.space_cells.specs.contracts.space.AddressSpace as space

abbrev pub LendsSpace : MutBor (map.FinMap nat_cmp AddressSpace) → ℕ → Option (MutBor AddressSpace) → Fml
LendsSpace s number r = LendsSo spaces.the_row space.the_row s r (λ n w. OnSome r (n ≡ map.insert s.now number w)) (λ n. n ≡ s.now)
