-- Buffers for the pages that an access writes to.
--     AreThere      both of them
use Rattle.std.specs.Prelude.{IsSome}
use Rattle.plain_spaces.specs.declared.spares.Spares.{Spares}

pub record AreThere (spares : Spares) : Type 0 where
  pub near : IsSome spares.near
  pub far : IsSome spares.far
