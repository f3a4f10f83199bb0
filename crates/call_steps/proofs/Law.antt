-- The laws of `specs/Joints.antt`.
use Rattle.std.specs.Prelude.{ℕ, ◌≤◌, IsNone}
use Rattle.std.proofs.Common.{sym, ◌∙◌, ap, subst}
use Rattle.page_map.specs.State.{State}
use Rattle.page_map.specs.Step.{arguments}
use Rattle.row_table.specs.Books.{turned}
use Rattle.machine_plan.specs.Books.{BookData}
use Rattle.machine_plan.specs.Cover.{HasCover}
use Rattle.machine_plan.specs.Follows.{machine}
use Rattle.machine_plan.specs.Held.{ListHolds}
use Rattle.machine_plan.specs.Uses.{zone_of}
use Rattle.call_steps.specs.Joints.{GivesPlan, GivesDetach, GivesApply, GivesLinks, GivesRelease, GivesSum, GivesFollow, GivesEntry, GivesSweep, GivesTaken, GivesShown, GivesGive}
use Rattle.call_steps.proofs.Planned.{held_then, cover_then, may_plan, left_by_plan, exact_after_plan, space_after_plan, count_after_plan, still_listed}
use Rattle.call_steps.proofs.Swept.{held_swept, state_swept}
use Rattle.call_steps.proofs.Joined.{may_detach, may_apply}
use Rattle.call_steps.proofs.Links.{may_link}
use Rattle.call_steps.proofs.Released.{may_release_all}
use Rattle.call_steps.proofs.Counting.{sum_accepted}
use Rattle.call_steps.proofs.Follow.{follows_accepted}
use Rattle.call_steps.proofs.Entered.{has_entered}
use Rattle.call_steps.proofs.Giving.{swept_by, same_taken, may_give}
use Rattle.call_steps.proofs.Showing.{all_blocked}

pub gives_plan : GivesPlan
gives_plan files count depth old m thread c v0 rows kit is_old is_m made same_levels same_layout same_files covered learns ready =
    let held = held_swept old m made (turned machine v0 old) rows (held_then files count depth old thread c v0 rows is_old same_levels same_layout same_files covered learns) in
    let state = state_swept old m made in (
      held,
      may_plan files depth m thread c v0 (turned machine v0 old) rows is_m (ap (λ (x : BookData). x.limits.levels) made ∙ same_levels) covered held
          (λ none. subst (λ (s : State). HasCover (zone_of thread c) s (ListHolds rows)) (sym state)
          (cover_then files count depth old thread c v0 rows is_old same_levels same_layout same_files covered learns (subst (λ (s : State). IsNone (arguments s c)) state none))) kit ready,
    )

pub gives_detach : GivesDetach
gives_detach m b thread c v rows rows' before planned kit few is same held plans early space few_rows cover committed =
    may_detach m b thread c v rows' kit few is same (exact_after_plan m thread c v rows rows' before planned kit held plans early) (left_by_plan m thread c v rows rows' before planned kit held plans early)
    (space_after_plan m thread c v rows rows' before planned kit held plans early space)
    (subst (λ (n : ℕ). n ≤ 1024) (sym (count_after_plan m thread c v rows rows' before planned kit held plans early)) few_rows)
    (λ none. let o = cover none in (o.0, λ p in_cover. still_listed m thread c v rows rows' before planned kit held plans early p (o.1 p in_cover))) committed

pub gives_apply : GivesApply
gives_apply m b thread c v d e w rows rows' kit kit' old g generation is_m is_b same given hand granted =
    may_apply m b thread c v d e w rows rows' kit kit' old g generation is_m is_b same given.detached given.ready.committed given.keeps given.after given.apart given.ready.one_space hand granted

pub gives_links : GivesLinks
gives_links m b thread c v d e w rows rows' kit kit' old g generation given none shows once once' table_rows no_hand no_granted unlinked few same low there first last all =
    may_link m b thread c v d e w rows rows' kit kit' old g generation given.ready given.detached none shows once once' given.keeps given.after table_rows no_hand no_granted unlinked few same low there first last all

pub gives_release : GivesRelease
gives_release b g thread c w x rows kit kit' made applied last = may_release_all b g thread c w x rows kit kit' made applied last

pub gives_sum : GivesSum
gives_sum m b thread c kit kit' r is sum filled commits none g gone same many = sum_accepted m b thread c kit kit' r is sum filled commits none g gone same many

pub gives_follow : GivesFollow
gives_follow old m b g thread c kit kit' r v d rows made commits given few is counts levels once held shows none leaves before after =
    follows_accepted old m b g thread c kit kit' r made commits given v d rows few is counts levels once held shows none leaves before after

pub gives_entry : GivesEntry
gives_entry v e w count old g generation entry learns number after journal own = has_entered v e w count old g generation entry learns number after journal own

pub gives_sweep : GivesSweep
gives_sweep k v w old m once low sweeps unread = swept_by k v w old m once low sweeps unread

pub gives_taken : GivesTaken
gives_taken k v old m g swept once put limbo n free fresh = same_taken k v old m g swept once put limbo n free fresh

pub gives_shown : GivesShown
gives_shown m b thread c kit kit' r is sum filled commits old g passes v journal same swept shown entry e x has = all_blocked m b thread c kit kit' r is sum filled commits old g passes v journal same swept shown entry e x has

pub gives_give : GivesGive
gives_give k v old m g swept once put limbo n free fresh has follows names blocked put_once marked sampled = may_give k v old m g swept once put limbo n free fresh has follows names blocked put_once marked sampled
