-- A call from the give to the release.
--     may_release_it      after the apply each row may go back
--     is_done      what the release leaves
use Rattle.std.specs.Prelude.{◌≡◌, ℕ, [], List, Some}
use Rattle.std.proofs.Common.{sym, refl, ◌∙◌, ap, subst}
use Rattle.corten_base.specs.declared.calls.Call.{Call}
use Rattle.row_layout.specs.declared.places.Layout.{Layout}
use Rattle.tree_lock.specs.Release.{HoldsExactly, MayReleaseAll, emptied}
use Rattle.machine_plan.specs.declared.kit.Kit.{Kit}
use Rattle.machine_plan.specs.Books.{BookData}
use Rattle.machine_plan.specs.Follows.{machine}
use Rattle.machine_plan.specs.HeldRows.{Row}
use Rattle.cursor_apply.specs.Applying.{Applied}
use Rattle.call_steps.specs.Ready.{View}
use Rattle.call_steps.specs.Given.{HasGiven}
use Rattle.call_steps.specs.Finished.{IsDone, IsEmptyKit}
use Rattle.call_steps.proofs.Law.{gives_release}

-- v: the pass before the call, u: after the give, w: after the apply, z: after the release
module _ (k : Layout) (thread : ℕ) (c : Call) (v u w : View) (rows rows' : List Row) (kit kit' : Kit) (given : HasGiven k thread c v u rows kit) (applied : Applied given.b thread c u w rows' kit kit') where
  last_w : w.last ≡ Some given.g
  last_w = ap (λ (x : View). x.last) applied.view ∙ given.last

  pub may_release_it : MayReleaseAll machine rows' w × HoldsExactly rows' w.core.held w.rows
  may_release_it = gives_release given.b given.g thread c u w rows' kit kit' given.made applied given.last

  pub is_done : (z : View) → z ≡ emptied w → IsDone u z
  is_done z gone = record {
    same = record {
      number = ap (λ (x : View). x.number) gone ∙ ap (λ (x : View). x.number) applied.view;
      layout = ap (λ (x : View). x.layout) gone ∙ ap (λ (x : View). x.layout) applied.view;
      origin = ap (λ (x : View). x.origin) gone ∙ ap (λ (x : View). x.origin) applied.view;
      epoch = ap (λ (x : View). x.epoch) gone ∙ ap (λ (x : View). x.epoch) applied.view;
      stand = ap (λ (x : View). x.core.stand) gone ∙ ap (λ (x : View). x.core.stand) applied.view;
    };
    seen = ap (λ (x : View). x.seen) gone ∙ ap (λ (x : View). x.seen) applied.view;
    mine = ap (λ (x : View). x.mine) gone ∙ ap (λ (x : View). x.mine) applied.view;
    held = ap (λ (x : View). x.core.held) gone;
    granted = ap (λ (x : View). x.core.granted) gone ∙ applied.hand.1;
    unlinked = ap (λ (x : View). x.core.unlinked) gone ∙ ap (λ (x : View). x.core.unlinked) applied.view;
    has_book = ap (λ (x : View). x.core.has_book) gone ∙ ap (λ (x : View). x.core.has_book) applied.view;
  }

  pub empty_kit : IsEmptyKit kit'
  empty_kit = record { room = applied.room; idle = applied.idle; ungranted = applied.ungranted; seconds = applied.seconds }
