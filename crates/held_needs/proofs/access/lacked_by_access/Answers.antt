use Rattle.std.proofs.Common.{◌≡◌, ◌∙◌, ℕ, ◌+◌, ◌/◌, ◌≤◌, List, [], ◌∷◌, ap, subst, arith}
use Rattle.table_place.proofs.Tables.{to_range}
use Rattle.page_map.specs.Access.{first_page, page_count}
use Rattle.page_map.specs.Tables.{need}
use Rattle.plain_counts.specs.declared.cut.Pages.{Pages}
use Rattle.plain_counts.specs.Cut.{cut_by_all}
use Rattle.machine_plan.specs.HeldRows.{Row, IsAsked}
use Rattle.held_needs.specs.Cutting.{last_of}
use Rattle.held_needs.proofs.Pages.{one_page, two_pages, some_pages, page_range, first_small, lacks_pages, page_asked, only, either}
use Rattle.held_needs.proofs.access.lacked_by_access.Goals as goal

abbrev Asked : ℕ → List Row → Pages → Type 0
Asked space rows r = IsAsked space rows r.first × IsAsked space rows (last_of r)

pub returns-then-first-ge-USER_END : goal.returns-then-first-ge-USER_END
returns-then-first-ge-USER_END c = record {
  lacks = λ space st grants a at len is reached.
      let some : 1 ≤ page_count a = some_pages a.at a.len (omega (arith, len, c.requires.some)) in
      absurd (omega (arith, first_small c.args.levels c.args.held.now.rows space st grants a c.requires.five is reached some, at, c.if-first-ge-USER_END.true));
}

pub returns-then-at-len-le4096 : goal.returns-then-at-len-le4096
returns-then-at-len-le4096 c = record {
  lacks = λ space st grants a at len is reached.
      let count : page_count a ≡ 1 = one_page a.at a.len (omega (arith, len, c.requires.some)) (omega (arith, at, len, c.if-at-len-le4096.true)) in
      let first : first_page a ≡ c.args.at / 4096 = ap (λ n. n / 4096) at in
      lacks_pages c.args.levels c.args.held.now.rows space st grants a c.requires.five is reached 1 count
      ∙ ap (λ p. need (cut_by_all c.args.levels space (page_range p ∷ [])) st.tables) first
      ∙ c.missing_cut.ensures.lacks space st is (λ r held. only (Asked space c.args.held.now.rows) (page_range (c.args.at / 4096)) r
      (subst (λ p. Asked space c.args.held.now.rows (page_range p)) first (page_asked c.args.levels c.args.held.now.rows space st grants a c.requires.five is reached (first_page a)
      (to_range (first_page a) (page_count a) (first_page a) (omega arith) (omega (arith, count))))) held);
}

pub returns : goal.returns
returns c = record {
  lacks = λ space st grants a at len is reached.
      let count : page_count a ≡ 2 = two_pages a.at a.len (omega (arith, len, c.requires.few)) (omega (arith, at, len, c.if-at-len-le4096.false)) in
      let first : first_page a ≡ c.args.at / 4096 = ap (λ n. n / 4096) at in
      lacks_pages c.args.levels c.args.held.now.rows space st grants a c.requires.five is reached 2 count
      ∙ ap (λ p. need (cut_by_all c.args.levels space (page_range p ∷ page_range (p + 1) ∷ [])) st.tables) first
      ∙ c.missing_cut-2.ensures.lacks space st is (λ r held. either (Asked space c.args.held.now.rows) (page_range (c.args.at / 4096)) (page_range (c.args.at / 4096 + 1)) r
      (subst (λ p. Asked space c.args.held.now.rows (page_range p)) first (page_asked c.args.levels c.args.held.now.rows space st grants a c.requires.five is reached (first_page a)
      (to_range (first_page a) (page_count a) (first_page a) (omega arith) (omega (arith, count)))))
      (subst (λ p. Asked space c.args.held.now.rows (page_range (p + 1))) first (page_asked c.args.levels c.args.held.now.rows space st grants a c.requires.five is reached (first_page a + 1)
      (to_range (first_page a) (page_count a) (first_page a + 1) (omega arith) (omega (arith, count))))) held);
}
