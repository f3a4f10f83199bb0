use Rattle.mm_txn.proofs.Starting.{first_of_blank, replaced}
use Rattle.mm_txn.proofs.rows.first_rows.Goals as goal

pub returns : goal.returns
returns c = first_of_blank _ _ _ c.in_ok-rows.ensures (replaced _ _ c.in_ok-rows.ensures c.requires _ _ _ c.index_mut-directory.ensures.value c.replace.ensures.after)
