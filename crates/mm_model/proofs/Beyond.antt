-- Pages without a cell: those of a space that is absent, and those behind all user pages.
use Rattle.std.proofs.Common.{◌≡◌, ℕ, ◌^◌, ◌≤◌, refl, ap, ◌∙◌, arith}
use Rattle.std.specs.Prelude.{Option, Some, None}
use Rattle.std.specs.Option.{unwrap_or}
use Rattle.std.specs.Ordering.{nat_cmp}
use Rattle.std.specs.FinMap.{FinMap, empty, get, get-empty}
use Rattle.page_map.specs.declared.cell.Cell.{Cell}
use Rattle.page_map.specs.State.{AddressSpace, IsConsistent, State, cell_at, levels}
use Rattle.page_map.proofs.Mappings.{user_few}

pub absent_has_none : (spaces : FinMap nat_cmp AddressSpace) (space q : ℕ) → get spaces space ≡ None → get {X = Cell} {R = nat_cmp} (unwrap_or (get spaces space) empty) q ≡ None
absent_has_none spaces space q none = ap (λ o. get (unwrap_or o empty) q) none ∙ get-empty nat_cmp q

pub none_beyond : (st : State) (space q : ℕ) → IsConsistent st → 2 ^ 44 ≤ q → cell_at st space q ≡ None
none_beyond st space q ok far = go (cell_at st space q) refl
  where
    go : (o : Option Cell) → cell_at st space q ≡ o → o ≡ None
    go None e = refl
    go (Some c) e = absurd (let low = user_few (levels st) q 1 ok.few_levels (ok.pages space q c e) in omega (arith, low, far))
