-- What a turn and a sweep leave of what a pass knows.
--     HasTurned      the pass got this book
--     OnlySamples      of what the pass knows nothing but its samples is new
use Rattle.std.specs.Prelude.{◌≡◌}
use Rattle.row_layout.specs.declared.places.Layout.{Layout}
use Rattle.row_table.specs.Books.{Learns, turned}
use Rattle.walk_core.specs.Core.{unlinked_rows}
use Rattle.machine_plan.specs.Books.{BookData}
use Rattle.machine_plan.specs.Follows.{machine}
use Rattle.call_steps.specs.Ready.{View}

pub record HasTurned (k : Layout) (v : View) (book : BookData) (w : View) : Type 0 where
  pub layout : v.layout ≡ k
  pub learns : Learns machine k.rows v book
  pub view : w ≡ turned machine v book

pub record OnlySamples (v w : View) : Type 0 where
  pub view : w ≡ record v { core = record v.core { unlinked = w.core.unlinked; samples = w.core.samples } }
  pub rows : unlinked_rows w.core ≡ unlinked_rows v.core
