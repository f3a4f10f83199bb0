-- What is left after the release.
--     IsDone      a pass that has nothing more than it had, with what it has seen
--     IsEmptyKit      a kit of which nothing is used, but for what a plan noted and the texts of a load
use Rattle.std.specs.Prelude.{◌≡◌, []}
use Rattle.machine_plan.specs.declared.kit.Kit.{Kit}
use Rattle.machine_plan.specs.Kits as kits
use Rattle.call_steps.specs.Ready.{View}
use Rattle.call_steps.specs.Given.{IsSamePass}

pub record IsDone (v w : View) : Type 0 where
  pub same : IsSamePass v w
  pub seen : w.seen ≡ v.seen
  pub mine : w.mine ≡ v.mine
  pub held : w.core.held ≡ []
  pub granted : w.core.granted ≡ []
  pub unlinked : w.core.unlinked ≡ v.core.unlinked
  pub has_book : w.core.has_book ≡ v.core.has_book

pub record IsEmptyKit (kit : Kit) : Type 0 where
  pub room : kits.HasRoom kit
  pub idle : kits.IsIdle kit
  pub ungranted : kits.IsUngranted kit
  pub seconds : (kit.second_frames.items ≡ []) × (kit.second_slots.items ≡ [])
