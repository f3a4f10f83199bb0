use Rattle.std.proofs.Common.{◌≡◌, ℕ, List, [], ◌∷◌, ◌++◌, take, length, codes}
use Rattle.std.specs.declared.alloc.AllocError.{AllocError}
use Rattle.text_words.specs.Spelling.{number, address}
use Rattle.text_words.specs.Layout.{joined}
use Rattle.mm_script.specs.CallLine.{ops_words, spaced}
use Rattle.mm_script.proofs.OpLines.{printed_behind, front_stays, on_ok_from, on_err_from}
use Rattle.mm_script.proofs.printing.push_txn.Goals as goal

pub returns-clause-ok : goal.returns-clause-ok
returns-clause-ok c =
    let front : List ℕ = c.args.out.now.items in
    let out : List ℕ = c.push_range.new.out.items in
    let new : List ℕ = c.push_ops.new.out.items in
    let words : List (List ℕ) = number c.args.space ∷ address c.args.at ∷ number c.args.len ∷ [] in
    on_ok_from (Unit {0}) AllocError c.push_ops.result (new ≡ out ++ spaced (ops_words c.args.ops.now)) (new ≡ front ++ joined (codes "txn" ∷ (words ++ ops_words c.args.ops.now)))
    (λ then. printed_behind front out new (codes "txn") words (ops_words c.args.ops.now) c.in_ok-push_range.ensures.ok then) c.push_ops.ensures.ok

pub returns-clause-err : goal.returns-clause-err
returns-clause-err c =
    let front : List ℕ = c.args.out.now.items in
    let out : List ℕ = c.push_range.new.out.items in
    let new : List ℕ = c.push_ops.new.out.items in
    on_err_from (Unit {0}) AllocError c.push_ops.result (take (length out) new ≡ out) (take (length front) new ≡ front)
    (λ stays. front_stays front _ out new c.in_ok-push_range.ensures.ok stays) c.push_ops.ensures.err
