use Rattle.std.proofs.Common.{◌≡◌, ℕ, List, [], ◌∷◌, ◌++◌, map, take, length, ap, ◌∙◌, arith}
use Rattle.std.specs.declared.alloc.AllocError.{AllocError}
use Rattle.std.proofs.lemmas.List.{append_assoc, take_all}
use Rattle.text_words.specs.Layout.{joined}
use Rattle.text_words.specs.Printed.{spelled}
use Rattle.mm_script.proofs.OpLines.{front_stays, on_ok_from, on_err_from}
use Rattle.mm_script.proofs.printing.push_more.Goals as goal

pub returns-clause-ok : goal.returns-clause-ok
returns-clause-ok c =
    let front : List ℕ = c.args.out.now.items in
    let out : List ℕ = c.push.new.self.items in
    let new : List ℕ = c.push_words.new.out.items in
    let words : List ℕ = joined (map spelled c.args.words.now) in
    on_ok_from (Unit {0}) AllocError c.push_words.result (new ≡ out ++ words) (new ≡ front ++ 32 ∷ words)
    (λ then. then ∙ ap (λ bs. bs ++ words) c.in_ok-push.ensures.items ∙ append_assoc front (32 ∷ []) words) c.push_words.ensures.ok

-- what stands in front of a space stays where nothing was appended behind it
space_stays : (front out new : List ℕ) → out ≡ front ++ 32 ∷ [] → new ≡ out → take (length front) new ≡ front
space_stays front out new out_is same = front_stays front (32 ∷ []) out new out_is (ap (take (length out)) same ∙ take_all (length out) out (omega arith))

pub returns-clause-err : goal.returns-clause-err
returns-clause-err c =
    let front : List ℕ = c.args.out.now.items in
    let out : List ℕ = c.push.new.self.items in
    let new : List ℕ = c.push_words.new.out.items in
    on_err_from (Unit {0}) AllocError c.push_words.result (new ≡ out) (take (length front) new ≡ front)
    (λ same. space_stays front out new c.in_ok-push.ensures.items same) c.push_words.ensures.err
