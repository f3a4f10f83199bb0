use Rattle.std.proofs.Common.{◌≡◌, sym, subst, refl}
use Rattle.history_lines.proofs.OneEntry.{none_read}
use Rattle.image_text.specs.declared.image.Item.{Item}
use Rattle.image_text.specs.Images.{ImageParts, IsImage, MayFollow}
use Rattle.image_text.specs.Reading.{NoFileHere, IsNextItem, IsAdded}
use Rattle.image_text.proofs.Drafts.{if_taken, if_not_taken, no_item_line, refused_line}
use Rattle.image_text.proofs.draft.Draft.take_line.Goals as goal

pub returns-in_default-clause-none : goal.returns-in_default-clause-none
returns-in_default-clause-none c = record {
  no_file = rw c.if-branch.false at c.in_ok-take_file.ensures.none;
  no_item = no_item_line c.args.self.now c.args.line.now c.take_file.ensures.right (none_read c.in_ok-item.field-0 _ c.in_default.not-Some c.in_ok-item.ensures.none);
}

pub returns-clause-taken : goal.returns-clause-taken
returns-clause-taken c =
    let found = rw c.in-Some.is at c.in_ok-item.ensures.found in
    let stays : c.take_file.new.self ≡ c.args.self.now = rw c.if-branch.false at c.in_ok-take_file.ensures.stays in
    if_taken c.take.result (IsNextItem c.take_file.new.self c.in-Some.item c.take.new.self) (IsAdded c.args.self.now c.args.line.now c.take.new.self)
    (λ next. IsAdded.item c.in-Some.item found.1 (subst (λ (i : ImageParts). IsNextItem i c.in-Some.item c.take.new.self) stays next)) c.take.ensures.taken

pub returns-clause-none : goal.returns-clause-none
returns-clause-none c =
    let found = rw c.in-Some.is at c.in_ok-item.ensures.found in
    let stays : c.take_file.new.self ≡ c.args.self.now = rw c.if-branch.false at c.in_ok-take_file.ensures.stays in
    let no_file : NoFileHere c.args.self.now c.args.line.now = rw c.if-branch.false at c.in_ok-take_file.ensures.none in
    if_not_taken c.take.result (¬ (MayFollow c.take_file.new.self.limits c.take_file.new.self.files c.take_file.new.self.items c.in-Some.item)) _
    (λ refused. refused_line c.args.self.now c.args.line.now c.in-Some.item c.take_file.ensures.right no_file found.0 found.1
    (subst (λ (i : ImageParts). ¬ (MayFollow i.limits i.files i.items c.in-Some.item)) stays refused)) c.take.ensures.none
