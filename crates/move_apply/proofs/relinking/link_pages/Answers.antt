use Rattle.std.proofs.Common.{◌≡◌, ◌≤◌, ℕ, arith}
use Rattle.move_apply.proofs.relinking.link_pages.Goals as goal

pub link_cut-requires-clause-ready : goal.link_cut-requires-clause-ready
link_cut-requires-clause-ready g c κs within =
    let m = c.requires.ready in
    let other = c.if-pages-eq0.false in
    (m.0, m.1, m.2, m.3, m.4, m.5, m.6, m.7, m.8.0 (some c.args.pages.count other))
  where
    some : (n : ℕ) → (n ≡ 0 → ⊥) → 1 ≤ n
    some n ne = omega arith

pub returns-else-pages-eq0-clause-links : goal.returns-else-pages-eq0-clause-links
returns-else-pages-eq0-clause-links g c = λ a b thread call v rows ready so may.
    c.link_cut.ensures.links a b thread call v rows ready so (may.0 (some c.args.pages.count c.if-pages-eq0.false))
  where
    some : (n : ℕ) → (n ≡ 0 → ⊥) → 1 ≤ n
    some n ne = omega arith
