use Rattle.std.proofs.Common.{rules}
use Rattle.corten_base.specs.Bytes.{zeros}
use Rattle.corten_base.proofs.bytes.PageBuf.zero.Goals as goal

pub returns : goal.returns
unfolding zeros
returns c = search rules
