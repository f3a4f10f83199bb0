use Rattle.std.proofs.Common.{◌≡◌, ◌<◌, ◌^◌, List, subst, sym, ◌∙◌}
use Rattle.std.specs.List.{All}
use Rattle.pageout.specs.declared.victims.Victim.{Victim}
use Rattle.corten_run.proofs.VictimPages.{low_pages}
use Rattle.corten_run.proofs.victims.write_victims.Goals as goal

pub lines_of-requires : goal.lines_of-requires
lines_of-requires c =
    let found = c.in_ok-victims.ensures _ _ _ c.requires.ages in
    subst (λ (l : List Victim). All (λ (v : Victim). v.page < 2 ^ 44) l) (sym (c.list.ensures ∙ found.2)) (low_pages _ _ _ _ c.requires.ages found.0 _ found.1)
