use Rattle.std.proofs.Common.{ap, ◌∙◌, arith}
use Rattle.corten_base.specs.Bytes.{bytes_after_write}
use Rattle.plain_spaces.proofs.Files.{whole_page}
use Rattle.plain_spaces.proofs.Reach.{same_zeros}
use Rattle.plain_spaces.proofs.plan.page_of.Goals as goal

pub returns-then-bytes-eq-PAGE_BYTES : goal.returns-then-bytes-eq-PAGE_BYTES
returns-then-bytes-eq-PAGE_BYTES c = c.from_vec.ensures ∙ c.in_ok-from_slice.ensures.items ∙ whole_page c.args.bytes.now (omega arith)

pub returns : goal.returns
returns c = c.write_at.ensures ∙ ap (λ zs. bytes_after_write zs 0 c.args.bytes.now) (c.in_ok-body.ensures ∙ same_zeros)
