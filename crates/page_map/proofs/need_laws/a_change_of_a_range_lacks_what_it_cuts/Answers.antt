use Rattle.page_map.proofs.NeedOf.{changed_lack}
use Rattle.page_map.proofs.need_laws.a_change_of_a_range_lacks_what_it_cuts.Goals as goal

pub returns : goal.returns
returns c st space new first count ok change = changed_lack st space ok new first count change
