use Rattle.std.proofs.Common.{refl, sym, ap, ◌∙◌, map}
use Rattle.machine_plan.specs.Kits.{Refs}
use Rattle.book.specs.Filling.{with_source, bytes_of}
use Rattle.book.proofs.Filled.{no_sources, none_yet, copied_step, sole_so}
use Rattle.book.proofs.filling.copy_frames.Goals as goal

pub loop-done-init : goal.loop-done-init
loop-done-init c = record {
  pool = refl;
  copied = sym (no_sources c.args.frames.now) ∙ ap (λ (rs : Refs). map (with_source (bytes_of rs)) c.args.frames.now) (sym (none_yet c.args.own.now));
  sole = c.requires.sole;
}

pub loop-done-preserved : goal.loop-done-preserved
loop-done-preserved c = record {
  pool = c.write_page.ensures.pool ∙ c.loop-done.invariant.pool;
  copied = copied_step c.args.own.now c.args.frames.now c.loop-done.frames c.write_page.new.frames c.loop-done.done c.index-own-count.result c.bytes.result.now c.loop-done-test.true c.index-own-count.is c.bytes.ensures.value c.loop-done.invariant.copied c.write_page.ensures.written;
  sole = sole_so c.loop-done.pool c.write_page.new.pool c.index-own-count.result.0 c.bytes.result.now (ap Rattle.std.specs.Prelude.length c.bytes.ensures.value ∙ c.bytes.ensures.whole) c.loop-done.frames c.write_page.new.frames c.loop-done.invariant.sole c.write_page.ensures.pool c.write_page.ensures.written;
}
