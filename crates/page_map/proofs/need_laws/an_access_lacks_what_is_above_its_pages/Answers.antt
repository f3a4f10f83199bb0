use Rattle.page_map.proofs.NeedOf.{access_lack}
use Rattle.page_map.proofs.need_laws.an_access_lacks_what_is_above_its_pages.Goals as goal

pub returns : goal.returns
returns c st space grants a ok mapped = access_lack st space grants a ok mapped
