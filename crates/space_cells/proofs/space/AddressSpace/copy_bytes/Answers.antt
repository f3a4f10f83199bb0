use Rattle.std.proofs.Common.{◌≡◌, Some, None, refl, sym, ap, ◌∙◌}
use mathlib.Core.Bool.{true≢false}
use Rattle.std.specs.Prelude.{is_some}
use Rattle.std.specs.Option.{option_map, unwrap_or}
use Rattle.std.specs.FinMap as map
use Rattle.space_cells.specs.Longest.{own_bytes}
use Rattle.space_cells.proofs.LongestRuns.{own_seen}
use Rattle.space_cells.proofs.space.AddressSpace.copy_bytes.Goals as goal

pub returns-in-Some-clause-some : goal.returns-in-Some-clause-some
returns-in-Some-clause-some c =
    let is : own_bytes (map.get c.args.self.now c.args.page) ≡ Some c.in-Some.held.now.bytes =
    sym (ap (λ m. own_bytes (map.get m c.args.page)) c.self.view_is) ∙ own_seen c.self.inside.marks c.self.inside.pages c.self.invariant c.args.page ∙ ap (option_map (λ h. h.bytes)) (sym c.in-Some.ensures.value) in
    (λ t. ap is_some is, λ t. refl)

pub returns-in-Some-clause-bytes : goal.returns-in-Some-clause-bytes
returns-in-Some-clause-bytes c =
    let is : own_bytes (map.get c.args.self.now c.args.page) ≡ Some c.in-Some.held.now.bytes =
    sym (ap (λ m. own_bytes (map.get m c.args.page)) c.self.view_is) ∙ own_seen c.self.inside.marks c.self.inside.pages c.self.invariant c.args.page ∙ ap (option_map (λ h. h.bytes)) (sym c.in-Some.ensures.value) in
    c.copy_from_slice.ensures.after ∙ c.bytes.ensures.value ∙ sym (ap (λ o. unwrap_or o c.args.out.now) is)

pub returns-in-None-clause-some : goal.returns-in-None-clause-some
returns-in-None-clause-some c =
    let is : own_bytes (map.get c.args.self.now c.args.page) ≡ None =
    sym (ap (λ m. own_bytes (map.get m c.args.page)) c.self.view_is) ∙ own_seen c.self.inside.marks c.self.inside.pages c.self.invariant c.args.page ∙ ap (option_map (λ h. h.bytes)) (sym c.in-None.ensures.value) in
    (λ t. absurd (true≢false (sym t)), λ t. absurd (true≢false (sym t ∙ ap is_some is)))

pub returns-in-None-clause-bytes : goal.returns-in-None-clause-bytes
returns-in-None-clause-bytes c =
    let is : own_bytes (map.get c.args.self.now c.args.page) ≡ None =
    sym (ap (λ m. own_bytes (map.get m c.args.page)) c.self.view_is) ∙ own_seen c.self.inside.marks c.self.inside.pages c.self.invariant c.args.page ∙ ap (option_map (λ h. h.bytes)) (sym c.in-None.ensures.value) in
    sym (ap (λ o. unwrap_or o c.args.out.now) is)
