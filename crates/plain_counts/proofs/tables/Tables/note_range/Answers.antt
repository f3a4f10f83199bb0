use Rattle.std.proofs.Common.{◌≡◌, ◌+◌, ◌-◌, sym, ap, ◌∙◌, arith}
use Rattle.std.specs.FinSet as set
use Rattle.std.proofs.lemmas.Bool.{and_parts}
use Rattle.table_place.specs.Place.{place_of}
use Rattle.plain_counts.specs.Cut.{with_missing}
use Rattle.plain_counts.proofs.Noted.{cut_below, none_below, level_noted, all_noted}
use Rattle.plain_counts.proofs.Climbed.{none_above}
use Rattle.plain_counts.proofs.tables.Tables.note_range.Goals as goal

pub loop-level-init : goal.loop-level-init
loop-level-init c = record { started = omega arith; noted = none_below c.args.space c.args.pages.first c.args.pages.count c.args.self.now c.args.found.now }

pub returns-then-branch : goal.returns-then-branch
returns-then-branch c =
    let t = c.args.self.now in
    let at = c.loop-level.level in
    let pages = c.args.pages in
    let there = and_parts (set.contains t (place_of c.args.space at pages.first)) (set.contains t (place_of c.args.space at (pages.first + pages.count - 1)))
    (sym c.in_ok-note_level.ensures.there ∙ c.if-branch.true) in
    none_above c.args.space pages.first pages.count c.requires.short.some t c.args.levels at c.requires.parents there.0 there.1 c.args.found.now c.note_level.new.found
    c.loop-level.invariant.started (omega (arith, c.loop-level-test.true))
    (level_noted c.args.space pages.first pages.count at t c.args.found.now c.loop-level.found c.note_level.new.found c.loop-level.invariant.started c.loop-level.invariant.noted c.in_ok-note_level.ensures.noted)

pub loop-level-preserved : goal.loop-level-preserved
loop-level-preserved c = record {
  started = omega arith;
  noted = level_noted c.args.space c.args.pages.first c.args.pages.count c.loop-level.level c.args.self.now c.args.found.now c.loop-level.found c.note_level.new.found
      c.loop-level.invariant.started c.loop-level.invariant.noted c.in_ok-note_level.ensures.noted;
}

pub returns : goal.returns
returns c =
    let last : c.loop-level.level ≡ c.args.levels = omega (arith, c.loop-level-test.false, c.loop-level.auto, c.requires.some) in
    all_noted c.args.space c.args.pages.first c.args.pages.count c.args.levels c.args.self.now c.args.found.now c.loop-level.found
    (c.loop-level.invariant.noted ∙ ap (λ l. with_missing c.args.found.now (cut_below c.args.space c.args.pages.first c.args.pages.count l) c.args.self.now) last)
