-- What refuses an access, from the held rows.
use Rattle.std.specs.Prelude.{◌≡◌, ℕ, ◌+◌, ◌-◌, ◌/◌, ◌^◌, ◌<◌, ◌≤◌, is_some, Bool, true, false, List, Option, Some, None}
use Rattle.std.specs.Option.{option_or}
use Rattle.std.proofs.Common.{sym, refl, ◌∙◌, ap, subst, arith, inl}
use Rattle.std.proofs.lemmas.Bool.{and_from, le-leb, lt-ltb}
use Rattle.corten_base.specs.declared.numbers.Status.{Status}
use Rattle.corten_base.specs.declared.calls.Reply.{Reply}
use Rattle.corten_base.specs.declared.calls.Reply.TheVariants as reply
use Rattle.page_map.specs.declared.cell.Cell.{Cell}
use Rattle.page_map.specs.declared.cell.Cell.TheVariants.{Anon, File, Mapped, Swapped}
use Rattle.page_map.specs.Access.{first_page, page_count, refused_at, refused_access, outside_user_pages}
use Rattle.page_map.specs.Cell.{status_of}
use Rattle.page_map.specs.Step.{refused_unless}
use Rattle.page_map.specs.State.{State, levels, cell_at, space_at, is_present}
use Rattle.table_place.specs.Range.{within}
use Rattle.table_place.specs.declared.Place.{Place}
use Rattle.table_place.specs.Place.{root, directory, is_user_page}
use Rattle.table_place.proofs.Entries.{page_from}
use Rattle.table_place.proofs.Spans.{user_below}
use Rattle.machine_plan.specs.HeldRows.{Row, AreAsked}
use Rattle.machine_plan.proofs.Near.{stands_in}
use Rattle.machine_plan.proofs.Towers.{root_is}
use Rattle.machine_plan.proofs.Telling.{cover_is_asked}
use Rattle.range_cursor.specs.Reach.{Reach, IsReach, access_of, touched, refused_status, KnowsRoot, Sees, early_of}
use Rattle.range_cursor.proofs.Earliest.{found, nothing, users}
use Rattle.range_cursor.proofs.Present.{root_there}
use Rattle.page_map.proofs.Range.{inside as inside_range}

pub is_within : (first count q : ℕ) → first ≤ q → q < first + count → within first count q ≡ true
is_within first count q low high = and_from _ _ (le-leb first q low) (lt-ltb q (first + count) high)

pub by_status : (files : List (List ℕ)) (write : Bool) (page : ℕ) (o : Option Cell) → refused_status files write page (status_of o) ≡ refused_at files write page o
by_status files write page None = refl
by_status files write page (Some (Anon perm)) = refl
by_status files write page (Some (File perm file index)) = refl
by_status files write page (Some (Mapped perm origin frame bytes)) = refl
by_status files write page (Some (Swapped perm origin slot bytes)) = refl

-- the answer for a page of which the status was asked
pub refused_here : (files shelf : List (List ℕ)) (write w : Bool) (page : ℕ) (status : Status) (o : Option Cell) (result : Option Reply)
    → result ≡ refused_status shelf w page status → w ≡ write → status ≡ status_of o → files ≡ shelf → refused_at files write page o ≡ result
refused_here files shelf write w page status o result is same told files_are =
    sym (by_status files write page o) ∙ ap (refused_status files write page) (sym told) ∙ ap (λ x. refused_status files x page status) (sym same) ∙ ap (λ f. refused_status f w page status) files_are ∙ sym is

module _ (st : State) (r : Reach) (rows : List Row) where
  abbrev at : ℕ → Option Reply
  at page = refused_at st.files r.write page (cell_at st r.space page)

  pub refused_at_page : (page : ℕ) (b : Reply) → first_page (access_of r) ≤ page → page < first_page (access_of r) + page_count (access_of r)
      → ((q : ℕ) → first_page (access_of r) ≤ q → q < page → at q ≡ None) → at page ≡ Some b → refused_access st.files (space_at st r.space) (access_of r) ≡ Some b
  refused_at_page page b low high before is = found at (first_page (access_of r)) (page_count (access_of r)) page b low high before is

  pub not_refused : ((q : ℕ) → first_page (access_of r) ≤ q → q < first_page (access_of r) + page_count (access_of r) → at q ≡ None) → refused_access st.files (space_at st r.space) (access_of r) ≡ None
  not_refused each = nothing at (first_page (access_of r)) (page_count (access_of r)) each

  module _ (sees : Sees st r rows) (reach : IsReach r) (inside : outside_user_pages r.levels (access_of r) ≡ None) where
    touches_some : 1 ≤ page_count (access_of r)
    touches_some = pages_of_bytes r.at r.len reach.some
      where
        pages_of_bytes : (at len : ℕ) → 0 < len → 1 ≤ (at + len - 1) / 4096 + 1 - at / 4096
        pages_of_bytes at len some = omega (arith, some)

    low_page : (page : ℕ) → is_user_page r.levels page ≡ true → page < 512 ^ r.levels
    low_page page user = let end = user_below r.levels page 1 user in omega (arith, end)

    pub knows_root : KnowsRoot st r.space rows
    knows_root = record {
      consistent = sees.consistent;
      shown = sees.shown;
      top = λ lone.
          let page : ℕ = first_page (access_of r) in
          let user = users r.levels (access_of r) inside page (omega arith) (omega (arith, touches_some)) in
          sees.cover (ap is_some inside) directory (stands_in st sees.consistent (touched r) directory r.space r.space page (inl refl) (small r.space reach.space) lone (page_from (root (levels st) r.space) r.space page (omega (arith, sees.consistent.few_levels)) refl (root_prefix page (low_page page user))) (refl, omega arith, ends r touches_some));
    }
      where
        small : (n : ℕ) → n < 64 → n < 512
        small n h = omega (arith, h)

        root_prefix : (page : ℕ) → page < 512 ^ r.levels → page / 512 ^ levels st ≡ 0
        root_prefix page h = ap (λ (p : Place). p.prefix) (root_is (levels st) r.space page (subst (λ l. page < 512 ^ l) (sym sees.same_levels) h))

        ends : (r : Reach) → 1 ≤ page_count (access_of r) → first_page (access_of r) < r.at / 4096 + ((r.at + r.len - 1) / 4096 + 1 - r.at / 4096)
        ends r some = omega (arith, some)

    pub are_asked : is_present st r.space ≡ true → AreAsked r.space rows (first_page (access_of r)) (page_count (access_of r))
    are_asked there page h =
        let bounds = between (first_page (access_of r)) (page_count (access_of r)) page h in
        cover_is_asked (touched r) st rows r.space page sees.consistent sees.shown sees.one_space (sees.cover (ap is_some inside)) (root_there st r.space sees.consistent ∙ there) (subst (λ l. is_user_page l page ≡ true) (sym sees.same_levels) (users r.levels (access_of r) inside page bounds.0 bounds.1)) (refl, bounds.0, bounds.1)
      where
        between : (first count q : ℕ) → within first count q ≡ true → (first ≤ q) × (q < first + count)
        between first count q h = inside_range first count q h

pub early_outside : (st : State) (r : Reach) (b : Reply) → Some b ≡ outside_user_pages r.levels (access_of r) → Some b ≡ early_of st r
early_outside st r b e = ap (λ o. option_or o (option_or (refused_unless (is_present st r.space) reply.NoSpace) (option_or (refused_access st.files (space_at st r.space) (access_of r)) None))) e

pub early_absent : (st : State) (r : Reach) → outside_user_pages r.levels (access_of r) ≡ None → is_present st r.space ≡ false → Some reply.NoSpace ≡ early_of st r
early_absent st r e p = sym (ap (λ o. option_or o (option_or (refused_unless (is_present st r.space) reply.NoSpace) (option_or (refused_access st.files (space_at st r.space) (access_of r)) None))) e
    ∙ ap (λ b. option_or (refused_unless b reply.NoSpace) (option_or (refused_access st.files (space_at st r.space) (access_of r)) None)) p)

pub early_pages : (st : State) (r : Reach) (o : Option Reply) → outside_user_pages r.levels (access_of r) ≡ None → is_present st r.space ≡ true → o ≡ refused_access st.files (space_at st r.space) (access_of r) → o ≡ early_of st r
early_pages st r o e p is = sym (ap (λ x. option_or x (option_or (refused_unless (is_present st r.space) reply.NoSpace) (option_or (refused_access st.files (space_at st r.space) (access_of r)) None))) e
    ∙ ap (λ b. option_or (refused_unless b reply.NoSpace) (option_or (refused_access st.files (space_at st r.space) (access_of r)) None)) p ∙ or_none (refused_access st.files (space_at st r.space) (access_of r)) ∙ sym is)
  where
    or_none : (o : Option Reply) → option_or o None ≡ o
    or_none None = refl
    or_none (Some r) = refl
