use Rattle.corten_base.specs.Pages.{PageRange}
use Rattle.page_map.proofs.NeedOfMoves.{move_lack}
use Rattle.page_map.proofs.need_laws.a_move_lacks_what_its_pieces_cut.Goals as goal

pub returns : goal.returns
returns c st space new from n to m ps ok move pieces = move_lack st space ok new from n to m move (λ (r : PageRange). r.first) (λ r. r.count) ps pieces
