use Rattle.std.proofs.Common.{◌+◌, ◌++◌, List, ℕ, drop, map, append_assoc, append-nil, sym, ap, ◌∙◌}
use Rattle.std.proofs.lemmas.List.{drop_all, drop_more}
use Rattle.text_words.specs.Layout.{text}
use Rattle.corten_run.specs.VictimText.{victim_line}
use Rattle.corten_run.proofs.victims.lines_of.Goals as goal

pub loop-victim-init : goal.loop-victim-init
loop-victim-init c = ap (λ (l : List ℕ). l ++ text (map victim_line c.args.victims.now)) c.new-out.ensures.items

pub loop-victim-preserved : goal.loop-victim-preserved
loop-victim-preserved c =
    let i = c.loop-victim.victim-index in
    let left = text (map victim_line (drop (i + 1) c.args.victims.now)) in
    ap (λ (l : List ℕ). l ++ left) c.in_ok-push_victim.ensures ∙ append_assoc c.loop-victim.out.items _ left
    ∙ ap (λ xs. c.loop-victim.out.items ++ text (map victim_line xs)) (sym (drop_more c.args.victims.now i (record { touched = 0; space = 0; page = 0 }) c.loop-victim-test.true)) ∙ c.loop-victim.invariant

pub returns : goal.returns
returns c =
    sym (append-nil c.loop-victim.out.items) ∙ ap (λ xs. c.loop-victim.out.items ++ text (map victim_line xs)) (sym (drop_all c.loop-victim.victim-index c.args.victims.now c.loop-victim-test.false)) ∙ c.loop-victim.invariant
