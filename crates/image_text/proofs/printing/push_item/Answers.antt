-- A page's bytes have no zero at the end, so that none is cut off.
use Rattle.std.proofs.Common.{◌≡◌, ◌++◌, List, ℕ, sym, subst, ap, ◌∙◌}
use Rattle.std.specs.Prelude.{OnOk}
use Rattle.text_words.specs.Layout.{ended}
use Rattle.image_text.specs.declared.image.Item.{Item}
use Rattle.image_text.specs.declared.image.Item.TheVariants.{Page}
use Rattle.image_text.specs.Items.{trimmed, bytes_of, IsTrimmed}
use Rattle.image_text.specs.ImageText.{item_line}
use Rattle.image_text.proofs.Trimmings.{trimmed_itself}
use Rattle.image_text.proofs.printing.push_item.Goals as goal

pub returns-in-Page : goal.returns-in-Page
returns-in-Page c =
    let p = c.in-Page in
    let whole : IsTrimmed p.bytes = subst (λ (i : Item). IsTrimmed (bytes_of i)) p.is c.requires.trimmed in
    let same : Page p.page p.perm p.origin p.residence (trimmed c.bytes.result.now) ≡ c.args.item.now =
    ap (λ b. Page p.page p.perm p.origin p.residence (trimmed b)) c.bytes.ensures.value ∙ ap (Page p.page p.perm p.origin p.residence) (trimmed_itself p.bytes whole) ∙ sym p.is in
    subst (λ i. OnOk c.push_page.result (c.push_page.new.out.items ≡ c.args.out.now.items ++ ended (item_line i))) same c.push_page.ensures
