use Rattle.std.proofs.Common.{◌≡◌, ◌+◌, ◌-◌, min, length, take, drop, ap, ◌∙◌, arith}
use Rattle.std.specs.FinMap as map
use Rattle.corten_base.specs.Bytes.{bytes_after_write}
use Rattle.page_map.specs.Access.{first_page}
use Rattle.space_cells.specs.Cells.{bytes_of}
use Rattle.plain_spaces.proofs.Loads.{read_one, read_two}
use Rattle.plain_spaces.proofs.access.read.Goals as goal
use Rattle.plain_spaces.proofs.access.read.Goals.{After-write_at}

-- what was read from the first page
abbrev head : (c : After-write_at) → c.write_at.new.self
    ≡ bytes_after_write c.args.out.now 0 (take (c.start-start.result + c.min-near.result - c.start-start.result) (drop c.start-start.result (bytes_of (map.get c.args.cells.now (first_page c.args.access)))))
head c = c.write_at.ensures
    ∙ ap (λ b. bytes_after_write c.args.out.now 0 (take (c.start-start.result + c.min-near.result - c.start-start.result) (drop c.start-start.result b))) (c.bytes.ensures ∙ ap (λ page. bytes_of (map.get c.args.cells.now page)) c.first.ensures.value)

-- how many bytes that is
abbrev near : (c : After-write_at) → c.min-near.result ≡ min c.args.access.len (4096 - c.start-start.result)
near c = c.min-near.ensures ∙ ap (λ n. min n (4096 - c.start-start.result)) (ap length c.bytes-len.ensures.value ∙ c.requires.len)

pub returns-then-near-len : goal.returns-then-near-len
returns-then-near-len c = λ files.
    let at = (goal.at.returns-then-near-len c).After-write_at in
    let len : length c.bytes-len.result.now ≡ c.args.access.len = ap length c.bytes-len.ensures.value ∙ c.requires.len in
    c.write_at-then-near-len.ensures
    ∙ (λ i. bytes_after_write (head at i) c.min-near.result (take (length c.bytes-len.result.now - c.min-near.result) ((c.bytes-then-near-len.ensures ∙ ap (λ page. bytes_of (map.get c.args.cells.now page)) c.last.ensures.value) i)))
    ∙ read_two files c.args.cells.now c.args.access c.first.ensures.user.some c.first.ensures.user.few c.requires.resident c.args.out.now c.requires.len c.start-start.result c.min-near.result c.start-start.ensures.value (near at)
    (omega (arith, len, c.if-near-len.true)) (length c.bytes-len.result.now - c.min-near.result) (omega (arith, len))

pub returns-else-near-len : goal.returns-else-near-len
returns-else-near-len c = λ files.
    let at = (goal.at.returns-else-near-len c).After-write_at in
    head at
    ∙ read_one files c.args.cells.now c.args.access c.first.ensures.user.some c.first.ensures.user.few c.requires.resident c.args.out.now c.requires.len c.start-start.result c.min-near.result c.start-start.ensures.value (near at)
    (omega (arith, ap length c.bytes-len.ensures.value, c.requires.len, c.if-near-len.false))
