use Rattle.std.proofs.Common.{◌≡◌, ap}
use Rattle.std.specs.Ordering.{nat_cmp}
use Rattle.std.specs.BTreeMap.{is_at}
use Rattle.std.specs.Map.{lookup}
use Rattle.std.proofs.lemmas.Map.Entries.{entries_from_clone}
use Rattle.std.proofs.lemmas.Result.{MatchResult-weaker}
use Rattle.space_cells.proofs.held.copy_all.Goals as goal

pub returns : goal.returns
returns c = MatchResult-weaker c.clone.result c.clone.ensures.cases
    (λ copy zipped q. ap (λ es. lookup (is_at (nat_cmp q)) es)
    (entries_from_clone (λ a b. b ≡ a) (λ v w. w ≡ v) (λ x y h. h) (λ v w h. h) c.args.pages.now.entries copy.entries zipped)) (λ e h. _)
