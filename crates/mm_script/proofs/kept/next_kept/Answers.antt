use Rattle.std.proofs.Common.{◌≡◌, true, [], List, ℕ, sym, subst, ◌∙◌}
use Rattle.mm_script.specs.ScriptText.{is_skipped}
use Rattle.mm_script.specs.Reading.{Passes}
use Rattle.mm_script.proofs.Places.{Passes-push, kept_skipped}
use Rattle.mm_script.proofs.kept.next_kept.Goals as goal

pub loop-line-preserved : goal.loop-line-preserved
loop-line-preserved c =
    let line : List ℕ = c.in-Some.line.now in
    let skipped : is_skipped line ≡ true = sym c.skips.ensures ∙ c.if-not-skips.false in
    subst (Passes c.args.lines.now c.next_line.new.self) (kept_skipped line skipped)
    (Passes-push c.args.lines.now c.loop-line.lines c.next_line.new.self [] line c.loop-line.invariant c.in-Some.ensures.is_line c.in-Some.ensures.line c.in-Some.ensures.taken)
