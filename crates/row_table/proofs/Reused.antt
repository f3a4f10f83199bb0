-- No pass stands on a row that is swept.
use Rattle.std.proofs.Common.{◌≡◌, List, sym, ap, ◌∙◌, subst}
use Rattle.std.specs.List.{Contains}
use mathlib.Core.Option.{some}
use lib.ListN.{get_elem?}
use Rattle.walk_core.specs.declared.pass.PassCore.{PassCore}
use Rattle.walk_core.specs.Core.{Core}
use Rattle.walk_core.proofs.KeepsSamples.{swept_unread}
use Rattle.row_layout.specs.declared.places.Layout.{Layout}
use Rattle.row_table.specs.declared.view.PassView.{PassView}
use Rattle.row_table.specs.Plan.{Meaning, IsLawful}
use Rattle.row_table.specs.Rule.{Table, core_of, Holds}
use Rattle.row_table.specs.Books.{swept_rows, taken_rows, put_list, MayGive}
use Rattle.row_table.specs.Reuse.{EpochsTrue, NoneRead}
use Rattle.row_table.proofs.Views.{pass_is}
use Rattle.row_table.proofs.Known.{right_now}
use Rattle.row_table.proofs.Turns.{give_guard}
use Rattle.row_table.proofs.End.{contained_at}
use Rattle.std.proofs.lemmas.Option.{same_Some}

module _ {R B E : Type 0} (M : Meaning R B E) (k : Layout) (first : B) (s : Table R B E) (h : Holds M k first s) where
  -- the pass of a seat
  pub its_pass : (seat : List (PassView R B E)) → Contains s.views seat → (v : PassView R B E) → Contains seat v → get_elem? h.passes v.number ≡ some v
  its_pass seat in_views v in_seat = let j = contained_at s.views seat in_views in let i = contained_at seat v in_seat in (h.seats j.0 seat j.1 i.0 v i.1).0

  pub epochs_true : EpochsTrue k s
  epochs_true seat in_views v in_seat = let mine = its_pass seat in_views v in_seat in ((h.knows v.number v mine).epoch, (right_now M k first s h v mine).parity)

  pub none_read : IsLawful M → NoneRead M k s
  none_read lawful seat in_views v in_seat old new found may other in_views_too u in_other stand is =
      let mine = its_pass seat in_views v in_seat in let its = its_pass other in_views_too u in_other in
      let c : Core = core_of M k s.words h.passes h.free h.book in
      let has = may.guard.has_book in
      let same : old ≡ h.book = same_Some _ _ (sym found ∙ (h.knows v.number v mine).found has) in
      let may_now : MayGive M k v h.book new = subst (λ (b : B). MayGive M k v b new) same may in
      let guard = give_guard M k first s h v mine lawful has new may_now in
      let own = pass_is M k first s h v mine in
      subst (λ (b : B). Rattle.walk_core.specs.Lists.times stand.row (swept_rows M b new) ≡ 0) (sym same)
      (swept_unread c v.number (put_list M h.book new) (swept_rows M h.book new) (taken_rows M h.book new) h.good (h.knows v.number v mine).there
      (subst (λ (x : PassCore). Rattle.walk_core.specs.Guards.MayGive c x (put_list M h.book new) (swept_rows M h.book new) (taken_rows M h.book new)) (sym own) guard)
      u.number stand (ap (λ (x : PassCore). x.stand) (pass_is M k first s h u its) ∙ is))
