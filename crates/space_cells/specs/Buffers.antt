-- Buffers of the bytes of pages.
--     bytes_in      the bytes that a buffer has
use Rattle.std.specs.Prelude.{ℕ, List}
use Rattle.std.specs.Arc.{arc_value}
use Rattle.space_cells.specs.declared.bytes.Buffer.{Buffer}
use Rattle.space_cells.specs.declared.bytes.Buffer.TheVariants.{Shared, Own}

abbrev pub bytes_in : Buffer → List ℕ
bytes_in (Shared page) = arc_value page
bytes_in (Own page) = page
