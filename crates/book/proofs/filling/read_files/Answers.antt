use Rattle.std.proofs.Common.{◌-◌, ◌+◌, refl, sym, ap, ◌∙◌, map, List, ℕ, get_or, length, drop}
use Rattle.corten_base.specs.declared.calls.Backing.TheVariants as backing
use Rattle.machine_plan.specs.declared.kit.Want.{Want}
use Rattle.machine_plan.specs.declared.kit.Want.TheVariants as want
use Rattle.page_map.specs.Cell.{zeros}
use Rattle.book.specs.Filling.{with_source, file_sources}
use Rattle.book.proofs.Filled.{no_sources, none_yet, sources_step, same_sources, file_step, no_file_step, sole_so, sole_same}
use Rattle.book.proofs.filling.read_files.Goals as goal
use Rattle.book.proofs.filling.read_files.Goals.{in-Some, in-None}

pub put_file_page-requires : goal.put_file_page-requires
unfolding zeros
put_file_page-requires c = refl

pub loop-done-init : goal.loop-done-init
loop-done-init c = record {
  pool = refl;
  copied = sym (no_sources c.args.frames.now) ∙ ap (λ (ws : List (ℕ × Want)). map (with_source (file_sources c.args.shelf.now ws)) c.args.frames.now) (sym (none_yet c.args.wants.now));
  sole = c.requires.sole;
}

pub loop-done-preserved : goal.loop-done-preserved
loop-done-preserved c =
    let was = c.loop-done.invariant in
    let shelf = c.args.shelf.now in
    let wants = c.args.wants.now in
    let done = c.loop-done.done in
    let d : ℕ × Want = (0, want.Fresh backing.Zero) in
    let w' : ℕ × Want = get_or wants (length wants - 1 - done) d in
    elim c.match-file_wanted.branch [
      | in-Some w ↦ record {
        pool = w.pool-is ∙ w.write_page.ensures.pool ∙ was.pool;
        copied = sources_step c.args.frames.now c.loop-done.frames c.match-file_wanted.frames w'.0 w.put_file_page.new.page _ (file_sources shelf (drop (length wants - (done + 1)) wants)) was.copied (w.frames-is ∙ w.write_page.ensures.written)
            (file_step shelf wants done w' d w.in-Some.file w.in-Some.index w.put_file_page.new.page c.loop-done-test.true refl (sym w.in-Some.ensures) w.put_file_page.ensures);
        sole = sole_so c.loop-done.pool c.match-file_wanted.pool w'.0 w.put_file_page.new.page w.put_file_page.auto.page c.loop-done.frames c.match-file_wanted.frames was.sole (w.pool-is ∙ w.write_page.ensures.pool) (w.frames-is ∙ w.write_page.ensures.written);
      }
      | in-None w ↦ record {
        pool = w.pool-is ∙ was.pool;
        copied = same_sources c.args.frames.now c.loop-done.frames c.match-file_wanted.frames _ (file_sources shelf (drop (length wants - (done + 1)) wants)) was.copied w.frames-is (no_file_step shelf wants done w' d c.loop-done-test.true refl (sym w.in-None.ensures));
        sole = sole_same c.loop-done.pool c.match-file_wanted.pool c.loop-done.frames c.match-file_wanted.frames was.sole w.pool-is w.frames-is;
      }
    ]
