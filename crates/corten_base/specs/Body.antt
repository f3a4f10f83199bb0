-- The bytes of a frame or a swap slot.
--     PageBody      4,096 bytes, and whether the body has them for itself
--     body_of      what a body's content is seen as
use Rattle.std.specs.Prelude.{ℕ, Bool, true, false, List}
use Rattle.std.specs.Arc.{arc_value}
use Rattle.corten_base.specs.declared.body.Content.{Content}
use Rattle.corten_base.specs.declared.body.Content.TheVariants.{Own, Shared}

pub record PageBody : Type 0 where
  pub bytes : List ℕ
  pub own : Bool

abbrev pub body_of : Content → PageBody
body_of (Own page) = record { bytes = page; own = true }
body_of (Shared page) = record { bytes = arc_value page; own = false }
