use Rattle.std.proofs.Common.{◌≡◌, refl, sym, subst, arith}
use Rattle.std.specs.Prelude.{Some, IfSome}
use Rattle.pageout.specs.Index.{key_of, mark_at, SetsMark}
use Rattle.pageout.specs.Work.{refreshed}
use Rattle.pageout.proofs.Refreshing.{start_refreshed, next_refreshed, end_refreshed, part_refreshes, same_frame}
use Rattle.pageout.proofs.refresh.mark_mapped.Goals as goal

pub loop-page-init : goal.loop-page-init
loop-page-init c = record { low = omega arith; high = λ less. omega arith; done = start_refreshed c.args.plain.now c.args.place c.args.is_access c.args.space c.args.span.first c.args.index.now.marks }

pub renew-requires : goal.renew-requires
renew-requires c =
    let found = c.in-Some.ensures.some in
    subst (λ s. IfSome (mark_at c.loop-page.index.marks (key_of s c.in-Some.page)) (λ old. old.frame ≡ c.in-Some.frame)) (sym c.number.ensures.value)
    (same_frame c.args.plain.now c.args.space c.args.span.first c.loop-page.next c.in-Some.page c.loop-page.invariant.low c.args.index.now.marks c.loop-page.index.marks c.loop-page.index.marks c.args.place c.in-Some.frame
    c.args.is_access c.args.span refl found.1 c.requires c.loop-page.invariant.done found.0 found.2)

pub returns-in_err-renew-clause-same : goal.returns-in_err-renew-clause-same
returns-in_err-renew-clause-same c =
    part_refreshes c.args.plain.now c.args.space c.loop-page.next c.args.span c.loop-page.invariant.low c.loop-page.invariant.high c.args.index.now.marks c.loop-page.index.marks c.args.place c.args.is_access
    c.loop-page.invariant.done c.renew.new.self.marks c.in_err-renew.ensures.err

pub loop-page-preserved : goal.loop-page-preserved
loop-page-preserved c =
    let found = c.in-Some.ensures.some in
    record {
      low = omega (arith, c.loop-page.invariant.low, found.0);
      high = λ less. omega (arith, found.1);
      done = next_refreshed c.args.plain.now c.args.space c.args.span.first c.loop-page.next c.in-Some.page c.loop-page.invariant.low c.args.index.now.marks c.loop-page.index.marks c.renew.new.self.marks c.args.place
          c.args.is_access c.args.span refl found.1 c.requires c.loop-page.invariant.done found.0 found.3
          (subst (λ f. SetsMark c.loop-page.index.marks c.renew.new.self.marks (key_of c.args.space c.in-Some.page) (refreshed c.args.place c.args.is_access (mark_at c.loop-page.index.marks (key_of c.args.space c.in-Some.page)) f)) (sym found.2)
          (subst (λ s. SetsMark c.loop-page.index.marks c.renew.new.self.marks (key_of s c.in-Some.page) (refreshed c.args.place c.args.is_access (mark_at c.loop-page.index.marks (key_of s c.in-Some.page)) (Some c.in-Some.frame))) c.number.ensures.value
          c.in_ok-renew.ensures.ok));
    }

pub returns-clause-same : goal.returns-clause-same
returns-clause-same c =
    part_refreshes c.args.plain.now c.args.space c.loop-page.next c.args.span c.loop-page.invariant.low c.loop-page.invariant.high c.args.index.now.marks c.loop-page.index.marks c.args.place c.args.is_access
    c.loop-page.invariant.done c.loop-page.index.marks (record { each = λ q. refl })

pub returns-clause-ok : goal.returns-clause-ok
returns-clause-ok c =
    end_refreshed c.args.plain.now c.args.space c.loop-page.next c.args.span c.loop-page.invariant.low c.loop-page.invariant.high c.args.index.now.marks c.loop-page.index.marks c.args.place c.args.is_access
    c.loop-page.invariant.done c.requires c.in_default.ensures.none
