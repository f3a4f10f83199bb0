-- What pages that move want, from the references that were taken out.
--     wants_out, wants_back      the wants of the references are those of the cells
use Rattle.std.specs.Prelude.{◌≡◌, ℕ, List, [], ◌∷◌, ◌++◌, map}
use Rattle.std.specs.List.{flat_map}
use Rattle.std.proofs.Common.{refl, ◌∙◌, ap}
use Rattle.std.proofs.lemmas.List.{map-append}
use Rattle.counted_pages.specs.Pages.{CountedPage}
use Rattle.page_map.specs.declared.cell.Cell.{Cell}
use Rattle.page_map.specs.declared.cell.Cell.TheVariants.{Anon, File, Mapped, Swapped}
use Rattle.page_map.specs.Cell.{frame_of, slot_of}
use Rattle.machine_plan.specs.declared.kit.Want.{Want}
use Rattle.machine_plan.specs.declared.kit.Want.TheVariants as want
use Rattle.machine_plan.specs.Uses.{Ref, ref_at, refs_of, shown_refs, wanted_at, out_want, in_want}
use Rattle.range_cursor.specs.Moves.{want_out, want_back}

out_of : Ref → ℕ × Want
out_of r = (r.0, want.Out r.1.0)

back_of : Ref → ℕ × Want
back_of r = (r.0, want.Back r.1.0)

shown_out : (refs : List (ℕ × CountedPage)) → map want_out refs ≡ map out_of (shown_refs refs)
unfolding out_of
shown_out [] = refl
shown_out (r ∷ rs) = ap (λ l. want_out r ∷ l) (shown_out rs)

shown_back : (refs : List (ℕ × CountedPage)) → map want_back refs ≡ map back_of (shown_refs refs)
unfolding back_of
shown_back [] = refl
shown_back (r ∷ rs) = ap (λ l. want_back r ∷ l) (shown_back rs)

out_here : (e : ℕ × Cell) → map out_of (ref_at frame_of e) ≡ wanted_at out_want e
unfolding out_of
out_here (p, Anon perm) = refl
out_here (p, File perm file index) = refl
out_here (p, Mapped perm origin frame bytes) = refl
out_here (p, Swapped perm origin slot bytes) = refl

back_here : (e : ℕ × Cell) → map back_of (ref_at slot_of e) ≡ wanted_at in_want e
unfolding back_of
back_here (p, Anon perm) = refl
back_here (p, File perm file index) = refl
back_here (p, Mapped perm origin frame bytes) = refl
back_here (p, Swapped perm origin slot bytes) = refl

out_all : (cells : List (ℕ × Cell)) → map out_of (refs_of frame_of cells) ≡ flat_map (wanted_at out_want) cells
out_all [] = refl
out_all (e ∷ es) = map-append out_of (ref_at frame_of e) (refs_of frame_of es) ∙ (λ i. out_here e i ++ out_all es i)

back_all : (cells : List (ℕ × Cell)) → map back_of (refs_of slot_of cells) ≡ flat_map (wanted_at in_want) cells
back_all [] = refl
back_all (e ∷ es) = map-append back_of (ref_at slot_of e) (refs_of slot_of es) ∙ (λ i. back_here e i ++ back_all es i)

pub wants_out : (refs : List (ℕ × CountedPage)) (cells : List (ℕ × Cell)) → shown_refs refs ≡ refs_of frame_of cells → map want_out refs ≡ flat_map (wanted_at out_want) cells
wants_out refs cells is = shown_out refs ∙ ap (map out_of) is ∙ out_all cells

pub wants_back : (refs : List (ℕ × CountedPage)) (cells : List (ℕ × Cell)) → shown_refs refs ≡ refs_of slot_of cells → map want_back refs ≡ flat_map (wanted_at in_want) cells
wants_back refs cells is = shown_back refs ∙ ap (map back_of) is ∙ back_all cells
