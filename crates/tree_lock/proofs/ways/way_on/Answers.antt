use Rattle.tree_lock.proofs.Meeting.{above_roots, not_above, way_top, way_two, way_just, way_down}
use Rattle.tree_lock.proofs.ways.way_on.Goals.{else-strict-via-then-strict+else-count-pages, else-strict-via-else-strict}
use Rattle.tree_lock.proofs.ways.way_on.Goals as goal

pub returns-then-place-levels : goal.returns-then-place-levels
returns-then-place-levels c = way_top c.args.levels c.requires.levels _ _ _ _ _ _ c.from.result c.in-Pages.is c.requires.zone c.requires.table (above_roots c.args.levels c.requires.levels c.args.place c.requires.table c.if-place-levels.true) c.from.ensures

pub returns-then-low-first : goal.returns-then-low-first
returns-then-low-first c = way_two c.args.levels c.requires.levels _ _ _ _ _ c.span_pages-pages.result _ c.in-Pages.is c.requires.zone c.requires.table c.requires.spans (not_above c.args.levels c.requires.levels c.args.place c.if-place-levels.false) c.span_pages-pages.ensures.value c.if-low-first.true

pub returns-then-count-pages : goal.returns-then-count-pages
returns-then-count-pages c = way_just c.args.levels c.requires.levels _ _ _ _ _ c.span_pages-pages.result _ c.in-Pages.is c.requires.zone c.requires.table c.requires.spans (not_above c.args.levels c.requires.levels c.args.place c.if-place-levels.false) c.span_pages-pages.ensures.value c.if-low-first.false c.if-strict.true c.if-count-pages.true

pub returns-else-strict : goal.returns-else-strict
returns-else-strict c = way_down c.args.levels c.requires.levels _ _ _ _ _ c.span_pages-pages.result _ c.in-Pages.is c.requires.zone c.requires.table c.requires.spans (not_above c.args.levels c.requires.levels c.args.place c.if-place-levels.false) c.span_pages-pages.ensures.value c.if-low-first.false
    (λ strict whole. elim c.else-strict.branch [ else-strict-via-then-strict+else-count-pages w ↦ w.if-count-pages.false whole | else-strict-via-else-strict w ↦ let no = w.if-strict.false in cc ])
