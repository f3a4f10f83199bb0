use Rattle.std.proofs.Common.{◌∷◌, [], sym, ap, ◌∙◌}
use Rattle.table_place.specs.declared.Place.{Place}
use Rattle.plain_counts.specs.Cut.{cut_among, with_missing}
use Rattle.plain_counts.proofs.Noted.{both_noted}
use Rattle.plain_counts.proofs.Climbed.{one_noted}
use Rattle.plain_counts.proofs.tables.Tables.note_level.Goals as goal

pub returns-then-last-first-clause-noted : goal.returns-then-last-first-clause-noted
returns-then-last-first-clause-noted c =
    one_noted c.args.space c.args.pages.first c.args.pages.count c.requires.short.some c.args.self.now c.args.level c.args.found.now c.note.new.found
    (sym (ap (λ (p : Place). p.prefix) c.table_of-first.ensures) ∙ sym c.if-last-first.true ∙ ap (λ (p : Place). p.prefix) c.table_of-last.ensures)
    (c.in_ok-near.ensures.noted ∙ ap (λ p. with_missing c.args.found.now (cut_among c.args.pages (p ∷ [])) c.args.self.now) c.table_of-first.ensures)

pub returns-then-near-clause-noted : goal.returns-then-near-clause-noted
returns-then-near-clause-noted c =
    both_noted c.args.space c.args.level c.args.pages.first c.args.pages.count c.requires.short.some c.args.self.now c.args.found.now c.note.new.found c.note-2.new.found
    (c.in_ok-near.ensures.noted ∙ ap (λ p. with_missing c.args.found.now (cut_among c.args.pages (p ∷ [])) c.args.self.now) c.table_of-first.ensures)
    (c.in_ok-far.ensures.noted ∙ ap (λ p. with_missing c.note.new.found (cut_among c.args.pages (p ∷ [])) c.args.self.now) c.table_of-last.ensures)

pub returns-else-near-clause-noted : goal.returns-else-near-clause-noted
returns-else-near-clause-noted c =
    both_noted c.args.space c.args.level c.args.pages.first c.args.pages.count c.requires.short.some c.args.self.now c.args.found.now c.note.new.found c.note-2.new.found
    (c.in_ok-near.ensures.noted ∙ ap (λ p. with_missing c.args.found.now (cut_among c.args.pages (p ∷ [])) c.args.self.now) c.table_of-first.ensures)
    (c.in_ok-far.ensures.noted ∙ ap (λ p. with_missing c.note.new.found (cut_among c.args.pages (p ∷ [])) c.args.self.now) c.table_of-last.ensures)
