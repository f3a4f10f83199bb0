-- What a legal history leaves of a space has an image that is within its bounds, so its text can be read and restored.
--     bounds      of a space in a state that keeps its facts each item is within its bounds
--     image_after      so it is after a legal history
--     saved_text      what is saved then is the text of an image
use Rattle.std.proofs.Common.{◌≡◌, ℕ, ◌+◌, ◌-◌, ◌<◌, true, List, [], ◌∷◌, ◌++◌, length, drop, refl, sym, ap, subst, ◌∙◌, arith, inl, inr}
use Rattle.std.specs.Prelude.{All}
use Rattle.std.proofs.lemmas.Bool.{cases_lt}
use Rattle.std.proofs.Math.Seq.{take-append_seam}
use Rattle.std.proofs.lemmas.List.Elements.{All-nil, All-head, All-tail, All-take}
use Rattle.corten_base.specs.declared.permissions.Perm.{Perm}
use Rattle.corten_base.specs.declared.calls.Backing.{Backing}
use Rattle.corten_base.specs.declared.calls.Backing.TheVariants as backing
use Rattle.corten_base.specs.declared.calls.Entry.{Entry}
use Rattle.corten_base.specs.declared.numbers.Limits.{Limits}
use Rattle.page_map.specs.declared.cell.Cell.{Cell}
use Rattle.page_map.specs.declared.cell.Cell.TheVariants.{Anon, File, Mapped, Swapped}
use Rattle.page_map.specs.Cell.{backing_of, zeros}
use Rattle.page_map.specs.History.{IsHistory, after, entry_step, limbo_of}
use Rattle.page_map.specs.State.{State, IsConsistent, is_present, space_at, start}
use Rattle.page_map.proofs.OwnCalls.{files_along}
use Rattle.mm_script.specs.CallLine.{IsWithin}
use Rattle.mm_script.specs.ScriptText.{AreFiles, AreLimits}
use Rattle.history_lines.specs.Accounting.{HasLevels, IsHeader}
use Rattle.history_lines.specs.HistoryText.{IsAsked}
use Rattle.history_lines.proofs.Closings.{entries_of_two, final_is_consistent, final_limits}
use Rattle.history_text.proofs.ByteCells.{AreAllBytes, AreBytes, step_bytes}
use Rattle.history_text.proofs.Reached.{history_entries, start_bytes, start_cells, stored_bytes}
use Rattle.image_text.specs.declared.image.Item.{Item}
use Rattle.image_text.specs.declared.image.Item.TheVariants.{Run, Page}
use Rattle.image_text.specs.declared.image.Residence.{Residence}
use Rattle.image_text.specs.declared.image.Residence.TheVariants.{Live, Out}
use Rattle.image_text.specs.Items.{AreEqualButForNumbers, bytes_of, cells_of, kept, whole, without_number}
use Rattle.image_text.specs.Images.{AreInOrder, ImageParts, IsBacked, IsImage, IsImageOf, IsInBounds, IsPageOrigin}
use Rattle.space_image.specs.Saving.{AreNoneDeep, HasImage, HasImageText, IsSaved}
use Rattle.space_image.proofs.Covered.{In}
use Rattle.space_image.proofs.FilesThere.{HasFile, HaveFiles, files_after}
use Rattle.space_image.proofs.RunStarts.{not_deep}
use Rattle.space_image.proofs.SavedBounds.{first_seen, in_bounds, kept_bytes}

-- ---- what the cells of a space say of items

run_file : (files : List (List ℕ)) (perm : Perm) (file index : ℕ) (c : Cell) → File perm file index ≡ without_number c → HasFile files c → file < length files
run_file files perm file index (File p f i) e has = subst (λ n. n < length files) (sym (ap file_at e)) has
  where
    file_at : Cell → ℕ
    file_at (File p f i) = f
    file_at _ = 0
run_file files perm file index (Anon p) e has = absurd (cc e)
run_file files perm file index (Mapped p origin frame bytes) e has = absurd (cc e)
run_file files perm file index (Swapped p origin slot bytes) e has = absurd (cc e)

page_origin : (files : List (List ℕ)) (residence : Residence) (perm : Perm) (origin : Backing) (bytes : List ℕ) (c : Cell) → without_number (kept residence perm origin bytes) ≡ without_number c → HasFile files c → IsPageOrigin files origin
page_origin files Live perm origin bytes (Mapped p o frame b) e has = subst (IsPageOrigin files) (sym (ap backing_of e)) has
page_origin files Out perm origin bytes (Swapped p o slot b) e has = subst (IsPageOrigin files) (sym (ap backing_of e)) has
page_origin files Live perm origin bytes (Anon p) e has = absurd (cc e)
page_origin files Live perm origin bytes (File p f i) e has = absurd (cc e)
page_origin files Live perm origin bytes (Swapped p o slot b) e has = absurd (cc e)
page_origin files Out perm origin bytes (Anon p) e has = absurd (cc e)
page_origin files Out perm origin bytes (File p f i) e has = absurd (cc e)
page_origin files Out perm origin bytes (Mapped p o frame b) e has = absurd (cc e)

front_bytes : (bytes rest : List ℕ) → AreBytes (bytes ++ rest) → AreBytes bytes
front_bytes bytes rest all = subst AreBytes (take-append_seam bytes rest) (All-take (λ b. b < 256) (length bytes) (bytes ++ rest) all)

module _ (st : State) (ok : IsConsistent st) (have : HaveFiles st) (are_bytes : AreAllBytes st) (space : ℕ) (there : is_present st space ≡ true) (none : AreNoneDeep (space_at st space))
    (all : List Item) (right : AreInOrder all) (same : AreEqualButForNumbers (cells_of all) (space_at st space)) where
  is_backed : (x : Item) → In x all → IsBacked st.files x
  is_backed (Run first count perm backing.Zero) listed = tt
  is_backed (Run first count perm (backing.File file index)) listed =
      let s = first_seen st ok space all right same (Run first count perm (backing.File file index)) listed in (
        run_file st.files perm file (index + (first - first)) s.cell s.like (have space first s.cell s.there),
        not_deep (space_at st space) all right same none first count perm file index listed,
      )
  is_backed (Page page perm origin residence bytes) listed =
      let s = first_seen st ok space all right same (Page page perm origin residence bytes) listed in
      page_origin st.files residence perm origin (whole bytes) s.cell s.like (have space page s.cell s.there)

  fit : (x : Item) → In x all → All (λ b. b < 256) (bytes_of x)
  fit (Run first count perm what) listed = All-nil (λ b. b < 256)
  fit (Page page perm origin residence bytes) listed =
      let s = first_seen st ok space all right same (Page page perm origin residence bytes) listed in
      front_bytes bytes (drop (length bytes) zeros)
      (subst AreBytes (kept_bytes st.files residence perm origin (whole bytes) s.cell s.like) (are_bytes.cells space page s.cell s.there))

  pub bounds : (before after : List Item) (item : Item) → all ≡ before ++ item ∷ after → IsInBounds st.limits st.files before item
  bounds = in_bounds st ok space all right same there is_backed fit

-- ---- along a history

bytes_after : (st : State) (es : List Entry) → AreAllBytes st → All IsAsked es → AreAllBytes (after st es)
bytes_after st [] all asked = all
bytes_after st (e ∷ es) all asked =
    let here : IsAsked e = All-head IsAsked e es asked in
    bytes_after (entry_step st e).1 es (step_bytes st e.thread (limbo_of e.reply) e.call (stored_bytes e.call here.call) all) (All-tail IsAsked e es asked)

levels_of_two : (levels : ℕ) → IsWithin 4 5 levels → HasLevels 2 levels
levels_of_two levels within = elim (cases_lt levels 5) [
  | inl low ↦ HasLevels.four (omega (arith, within.0, low))
  | inr high ↦ HasLevels.five (omega (arith, within.1, high)) refl
]

module _ (limits : Limits) (files : List (List ℕ)) (es : List Entry) (few : AreLimits limits) (levels : IsWithin 4 5 limits.levels) (are : AreFiles files) (asked : All IsAsked es) (legal : IsHistory limits files es) where
  left : State
  left = after (start limits files) es

  head : IsHeader (record { version = 2; limits = limits })
  head = record { version = (omega arith, omega arith); limits = few; levels = levels_of_two limits.levels levels }

  left_consistent : IsConsistent (after (start limits files) es)
  left_consistent = final_is_consistent (record { version = 2; limits = limits }) files es head (entries_of_two es (history_entries 2 limits files es head are asked legal))

  left_files : HaveFiles (after (start limits files) es)
  left_files = files_after (start limits files) es (λ s p c e. absurd (start_cells limits files s p c e))

  files_are : (after (start limits files) es).files ≡ files
  unfolding start
  files_are = files_along (start limits files) es

  pub image_after : (space : ℕ) → is_present (after (start limits files) es) space ≡ true → AreNoneDeep (space_at (after (start limits files) es) space) → (image : ImageParts) →
      IsImageOf limits files (space_at (after (start limits files) es) space) image → IsImage image
  image_after space there none image is = record {
    limits = subst AreLimits (sym is.same_limits) few;
    levels = subst (λ (l : Limits). IsWithin 4 5 l.levels) (sym is.same_limits) levels;
    files = subst AreFiles (sym is.same_files) are;
    items = λ before rest item parts.
        let within = bounds (after (start limits files) es) left_consistent left_files (bytes_after (start limits files) es (start_bytes limits files are) asked) space there none image.items is.in_order is.same_map before rest item parts in
        record { next = is.in_order before rest item parts; bounds = within_image before item within };
  }
    where
      within_image : (before : List Item) (item : Item) → IsInBounds (after (start limits files) es).limits (after (start limits files) es).files before item → IsInBounds image.limits image.files before item
      within_image before item h =
          subst (λ fs. IsInBounds image.limits fs before item) (files_are ∙ sym is.same_files)
          (subst (λ l. IsInBounds l (after (start limits files) es).files before item) (final_limits limits files es ∙ sym is.same_limits) h)

pub saved_text : (limits : Limits) (files : List (List ℕ)) (es : List Entry) (space : ℕ) (bytes : List ℕ) → AreLimits limits → IsWithin 4 5 limits.levels → AreFiles files → All IsAsked es → IsHistory limits files es →
    HasImage (after (start limits files) es) space → IsSaved (after (start limits files) es) space bytes → HasImageText limits files (space_at (after (start limits files) es) space) bytes
saved_text limits files es space bytes few levels are asked legal has saved =
    let st : State = after (start limits files) es in
    let of_space : IsImageOf limits files (space_at st space) saved.image =
    subst (λ fs. IsImageOf limits fs (space_at st space) saved.image) (files_are limits files es few levels are asked legal)
    (subst (λ l. IsImageOf l st.files (space_at st space) saved.image) (final_limits limits files es) saved.of_space) in
    (saved.image, of_space, record { is_image = image_after limits files es few levels are asked legal space has.0 has.1 saved.image of_space; whole = saved.text })
