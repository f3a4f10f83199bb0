-- How the lines of an image go on behind some of them.
--     GoesOn      the limits and the files of an image whose lines begin with those of another one
--     ItemsGoOn      the items of such an image
use Rattle.std.proofs.Common.{◌≡◌, ◌≢◌, ℕ, ◌+◌, ◌≤◌, List, [], ◌∷◌, ◌++◌, length, map, codes, refl, sym, ap, subst, ◌∙◌, arith, ◌⊎◌, inl, inr}
use Rattle.std.specs.List.{All}
use Rattle.std.proofs.lemmas.Bool.Decides.{nat_tests}
use Rattle.std.proofs.lemmas.List.{append-nil, append_assoc, length-append}
use Rattle.std.proofs.lemmas.List.Elements.{All-head, All-tail}
use Rattle.corten_base.specs.declared.numbers.Limits.{Limits}
use Rattle.text_words.specs.Layout.{words_of}
use Rattle.text_words.proofs.WordLists.{words_of_one}
use Rattle.mm_script.specs.CallLine.{IsWithin}
use Rattle.mm_script.specs.ScriptText.{file_line, file_lines, IsFile, AreFiles, AreLimits}
use Rattle.mm_script.proofs.CallForms.{other_word}
use Rattle.mm_script.proofs.FileLines.{words_of-file_line}
use Rattle.mm_script.proofs.OneCall.{HasNo_letters}
use Rattle.history_lines.specs.Accounting.{levels_line, levels_lines}
use Rattle.history_lines.proofs.CountLines.{words_of-levels, limit_line_injective}
use Rattle.history_lines.proofs.Shelves.{HasNoLevelsFirst, FirstOther, FilesGoOn, files_go_on, first_no_levels, files_no_levels}
use Rattle.image_text.specs.declared.image.Item.{Item}
use Rattle.image_text.specs.declared.image.Item.TheVariants.{Run, Page}
use Rattle.image_text.specs.Images.{ImageParts, MayFollow, IsImage}
use Rattle.image_text.specs.ImageText.{item_words, item_line, version_line, head_lines, front_lines, end_line, image_lines, AreImageLines, Begins}
use Rattle.image_text.specs.Reading.{IsSpelled, NoFileHere, IsNoLine}
use Rattle.image_text.proofs.OneItem.{words_of-item_line, item_line_injective}
use Rattle.image_text.proofs.Orders.{image_spelled, may_spelled}
use Rattle.image_text.proofs.Beginnings.{limit_line, item_no_file, item_no_levels}

same_first : (a b : List ℕ) (x y : List (List ℕ)) → a ∷ x ≡ b ∷ y → a ≡ b
same_first a b x y same = cc

same_behind : (a b : List ℕ) (x y : List (List ℕ)) → a ∷ x ≡ b ∷ y → x ≡ y
same_behind a b x y same = cc

nothing : (a : List ℕ) (x : List (List ℕ)) → [] ≢ a ∷ x
nothing a x same = cc

-- ---- the last line is none of the others

words_of-end : words_of end_line ≡ codes "end" ∷ []
words_of-end = words_of_one end_line (HasNo_letters 32 (codes "end") (omega arith) refl)

end_no_file : (bytes : List ℕ) → IsFile bytes → end_line ≢ file_line bytes
end_no_file bytes h is = other_word (codes "end") (codes "file") _ _ refl (sym words_of-end ∙ ap words_of is ∙ words_of-file_line bytes h)

end_no_item : (item : Item) → IsSpelled item → end_line ≢ item_line item
end_no_item (Run first count perm what) h is =
    other_word (codes "end") (codes "run") _ _ refl (sym words_of-end ∙ ap words_of is ∙ words_of-item_line (Run first count perm what) h)
end_no_item (Page page perm origin residence bytes) h is =
    other_word (codes "end") (codes "page") _ _ refl (sym words_of-end ∙ ap words_of is ∙ words_of-item_line (Page page perm origin residence bytes) h)

end_no_levels : end_line ≢ levels_line
end_no_levels is = other_word (codes "end") (codes "levels") _ _ refl (sym words_of-end ∙ ap words_of is ∙ words_of-levels)

-- ---- what stands behind the limits and the files

-- the lines of items, and others behind them, have no line of levels first
pub items_no_levels : (items : List Item) (lines : List (List ℕ)) → All IsSpelled items → HasNoLevelsFirst lines → HasNoLevelsFirst (map item_line items ++ lines)
items_no_levels [] lines h none = none
items_no_levels (i ∷ items) lines h none = first_no_levels (item_line i) (map item_line items ++ lines) (item_no_levels i (All-head IsSpelled i items h))

items_first : (items : List Item) → All IsSpelled items → FirstOther (map item_line items ++ end_line ∷ [])
items_first [] h = record { first = end_line; others = []; are = refl; none = end_no_file }
items_first (i ∷ items) h = record { first = item_line i; others = map item_line items ++ end_line ∷ []; are = refl; none = item_no_file i (All-head IsSpelled i items h) }

pub image_no_levels : (image : ImageParts) → IsImage image → HasNoLevelsFirst (file_lines image.files ++ (map item_line image.items ++ end_line ∷ []))
image_no_levels image h =
    files_no_levels image.files (map item_line image.items ++ end_line ∷ []) h.files.each
    (items_no_levels image.items (end_line ∷ []) (image_spelled image h) (first_no_levels end_line [] end_no_levels))

four_or_five : (n : ℕ) → IsWithin 4 5 n → (n ≡ 4) ⊎ (n ≡ 5)
four_or_five n h = let low = h.0 in let high = h.1 in grind (arith, nat_tests)

-- the levels, and what stands behind them
same_levels : (l m : ℕ) (x y : List (List ℕ)) → (l ≡ 4) ⊎ (l ≡ 5) → (m ≡ 4) ⊎ (m ≡ 5) → (l ≡ 4 → HasNoLevelsFirst x) → HasNoLevelsFirst y → levels_lines l ++ x ≡ levels_lines m ++ y → (l ≡ m) × (x ≡ y)
same_levels l m x y (inl l_is) (inl m_is) no_x no_y same =
    (l_is ∙ sym m_is, ap (λ n. levels_lines n ++ x) (sym l_is) ∙ same ∙ ap (λ n. levels_lines n ++ y) m_is)
same_levels l m x y (inr l_is) (inr m_is) no_x no_y same =
    (l_is ∙ sym m_is, same_behind levels_line levels_line x y (ap (λ n. levels_lines n ++ x) (sym l_is) ∙ same ∙ ap (λ n. levels_lines n ++ y) m_is))
same_levels l m x y (inl l_is) (inr m_is) no_x no_y same =
    absurd (no_x l_is y (ap (λ n. levels_lines n ++ x) (sym l_is) ∙ same ∙ ap (λ n. levels_lines n ++ y) m_is))
same_levels l m x y (inr l_is) (inl m_is) no_x no_y same =
    absurd (no_y x (sym (ap (λ n. levels_lines n ++ x) (sym l_is) ∙ same ∙ ap (λ n. levels_lines n ++ y) m_is)))

-- the three lines of limits
record SameFirst (b c d : List ℕ) (x : List (List ℕ)) (b' c' d' : List ℕ) (x' : List (List ℕ)) : Type 0 where
  two : b ≡ b'
  three : c ≡ c'
  four : d ≡ d'
  rest : x ≡ x'

first_lines : (a b c d : List ℕ) (x : List (List ℕ)) (b' c' d' : List ℕ) (x' : List (List ℕ)) → a ∷ b ∷ c ∷ d ∷ x ≡ a ∷ b' ∷ c' ∷ d' ∷ x' → SameFirst b c d x b' c' d' x'
first_lines a b c d x b' c' d' x' same = record { two = cc; three = cc; four = cc; rest = cc }

-- the limits, and what stands behind them
record SameHeads (a b : Limits) (x y : List (List ℕ)) : Type 0 where
  limits : a ≡ b
  rest : x ≡ y

same_limits : (a b : Limits) → AreLimits a → AreLimits b → limit_line (codes "frames") a.frames ≡ limit_line (codes "frames") b.frames → limit_line (codes "tables") a.tables ≡ limit_line (codes "tables") b.tables
    → limit_line (codes "swap") a.swap ≡ limit_line (codes "swap") b.swap → a.levels ≡ b.levels → a ≡ b
same_limits a b ha hb frames tables swap levels = λ i. record {
  levels = levels i;
  frames = limit_line_injective (codes "frames") a.frames b.frames refl ha.frames.1 hb.frames.1 frames i;
  tables = limit_line_injective (codes "tables") a.tables b.tables refl (omega (arith, ha.tables.1)) (omega (arith, hb.tables.1)) tables i;
  swap = limit_line_injective (codes "swap") a.swap b.swap refl ha.swap.1 hb.swap.1 swap i;
}

same_heads : (a b : Limits) (x y : List (List ℕ)) → AreLimits a → IsWithin 4 5 a.levels → AreLimits b → IsWithin 4 5 b.levels → (a.levels ≡ 4 → HasNoLevelsFirst x) → HasNoLevelsFirst y → head_lines a ++ x ≡ head_lines b ++ y → SameHeads a b x y
same_heads a b x y ha la hb lb no_x no_y same =
    let lines = first_lines version_line _ _ _ (levels_lines a.levels ++ x) _ _ _ (levels_lines b.levels ++ y) same in
    let levels = same_levels a.levels b.levels x y (four_or_five a.levels la) (four_or_five b.levels lb) no_x no_y lines.rest in
    record { limits = same_limits a b ha hb lines.two lines.three lines.four levels.0; rest = levels.1 }

-- no line of levels is still to come
abbrev pub LeavesNoLevels : ImageParts → List (List ℕ) → Type 0
LeavesNoLevels image xs = image.limits.levels ≡ 4 → HasNoLevelsFirst (file_lines image.files ++ (map item_line image.items ++ xs))

-- the limits, and what stands behind them
pub record GoesOn (image : ImageParts) (xs : List (List ℕ)) (other : ImageParts) : Type 0 where
  pub limits : image.limits ≡ other.limits
  pub files : FilesGoOn image.files other.files (map item_line image.items ++ xs) (map item_line other.items ++ end_line ∷ [])

front_with : (image : ImageParts) (xs : List (List ℕ)) → front_lines image ++ xs ≡ head_lines image.limits ++ (file_lines image.files ++ (map item_line image.items ++ xs))
front_with image xs =
    append_assoc (head_lines image.limits) (file_lines image.files ++ map item_line image.items) xs
    ∙ ap (λ ls. head_lines image.limits ++ ls) (append_assoc (file_lines image.files) (map item_line image.items) xs)

pub goes_on : (image : ImageParts) (xs : List (List ℕ)) (other : ImageParts) → IsImage image → IsImage other → LeavesNoLevels image xs → front_lines image ++ xs ≡ image_lines other → GoesOn image xs other
goes_on image xs other h g none same =
    let x : List (List ℕ) = map item_line image.items ++ xs in
    let y : List (List ℕ) = map item_line other.items ++ end_line ∷ [] in
    let whole : head_lines image.limits ++ (file_lines image.files ++ x) ≡ head_lines other.limits ++ (file_lines other.files ++ y) =
    sym (front_with image xs) ∙ same ∙ front_with other (end_line ∷ []) in
    let both = same_heads image.limits other.limits (file_lines image.files ++ x) (file_lines other.files ++ y) h.limits h.levels g.limits g.levels none (image_no_levels other g) whole in
    record { limits = both.limits; files = files_go_on image.files other.files x y h.files.each g.files.each (items_first other.items (image_spelled other g)) both.rest }

-- ---- what stands behind the items

pub record ItemsGoOn (items others : List Item) (xs : List (List ℕ)) : Type 0 where
  pub more : List Item
  pub are : others ≡ items ++ more
  pub rest : xs ≡ map item_line more ++ end_line ∷ []

items_go_on : (items others : List Item) (xs : List (List ℕ)) → All IsSpelled items → All IsSpelled others → map item_line items ++ xs ≡ map item_line others ++ end_line ∷ [] → ItemsGoOn items others xs
items_go_on [] others xs h g same = record { more = others; are = refl; rest = same }
items_go_on (i ∷ items) [] xs h g same = absurd (end_no_item i (All-head IsSpelled i items h) (sym (same_first _ _ (map item_line items ++ xs) [] same)))
items_go_on (i ∷ items) (j ∷ others) xs h g same =
    let head : i ≡ j = item_line_injective i j (All-head IsSpelled i items h) (All-head IsSpelled j others g) (same_first _ _ _ _ same) in
    let rest = items_go_on items others xs (All-tail IsSpelled i items h) (All-tail IsSpelled j others g) (same_behind _ _ _ _ same) in
    record { more = rest.more; are = λ k. sym head k ∷ rest.are k; rest = rest.rest }

-- where no file's line goes on, items do
module _ (image : ImageParts) (xs : List (List ℕ)) (other : ImageParts) (h : IsImage image) (g : IsImage other) (on : GoesOn image xs other) (none : on.files.more ≡ []) where
  pub same_files_on : image.files ≡ other.files
  same_files_on = sym (on.files.files ∙ ap (λ m. image.files ++ m) none ∙ append-nil image.files)

  pub items_on : ItemsGoOn image.items other.items xs
  items_on = items_go_on image.items other.items xs (image_spelled image h) (image_spelled other g) (on.files.rest ∙ ap (λ m. file_lines m ++ (map item_line other.items ++ end_line ∷ [])) none)

-- behind items, or where there are as many files as may be, no file's line goes on
no_more_files : (image : ImageParts) (more : List (List ℕ)) (line : List ℕ) (xs ys : List (List ℕ)) → All IsSpelled image.items → NoFileHere image line → length (image.files ++ more) ≤ 16 → All IsFile more
    → map item_line image.items ++ line ∷ xs ≡ file_lines more ++ ys → more ≡ []
no_more_files image [] line xs ys h none few hm same = refl
no_more_files image (m ∷ more) line xs ys h none few hm same = go image.items refl none
  where
    go : (items : List Item) → image.items ≡ items → NoFileHere image line → m ∷ more ≡ []
    go (i ∷ items) is which =
        let spelled : IsSpelled i = All-head IsSpelled i items (subst (All IsSpelled) is h) in
        absurd (item_no_file i spelled m (All-head IsFile m more hm) (same_first _ _ _ _ (ap (λ js. map item_line js ++ line ∷ xs) (sym is) ∙ same)))
    go [] is (NoFileHere.full many) = let long = length-append image.files (m ∷ more) in absurd (omega (arith, long, many, few))
    go [] is (NoFileHere.late some) = absurd (some is)
    go [] is (NoFileHere.other no_file) = absurd (no_file m (All-head IsFile m more hm) (same_first _ _ _ _ (ap (λ js. map item_line js ++ line ∷ xs) (sym is) ∙ same)))

-- the same where the line is the last one, or where there is none
no_files_first : (items : List Item) (more : List (List ℕ)) (xs ys : List (List ℕ)) → All IsSpelled items → All IsFile more → ((m : List ℕ) → IsFile m → (zs : List (List ℕ)) → xs ≢ file_line m ∷ zs) → map item_line items ++ xs ≡ file_lines more ++ ys → more ≡ []
no_files_first items [] xs ys h hm other same = refl
no_files_first [] (m ∷ more) xs ys h hm other same = absurd (other m (All-head IsFile m more hm) (file_lines more ++ ys) same)
no_files_first (i ∷ items) (m ∷ more) xs ys h hm other same = absurd (item_no_file i (All-head IsSpelled i items h) m (All-head IsFile m more hm) (same_first _ _ _ _ same))

few_files : (image other : ImageParts) (more : List (List ℕ)) → IsImage other → other.files ≡ image.files ++ more → length (image.files ++ more) ≤ 16
few_files image other more g is = subst (λ (fs : List (List ℕ)). length fs ≤ 16) is g.files.count

-- ---- what doesn't go on

-- a line that is none of a file or an item that may come next, and not the last one
pub no_line : (image : ImageParts) (line : List ℕ) → IsImage image → IsNoLine image line → line ≢ end_line → ((xs : List (List ℕ)) → LeavesNoLevels image (line ∷ xs)) → ¬ (Begins (front_lines image ++ line ∷ []))
no_line image line h none no_end leaves b =
    let other : ImageParts = b.goes_on.image in
    let g : IsImage other = b.goes_on.is_image in
    let on = goes_on image (line ∷ b.more) other h g (leaves b.more) (sym (append_assoc (front_lines image) (line ∷ []) b.more) ∙ b.goes_on.are) in
    let no_files : on.files.more ≡ [] = no_more_files image on.files.more line b.more (map item_line other.items ++ end_line ∷ []) (image_spelled image h) none.no_file
    (few_files image other on.files.more g on.files.files) on.files.are_files on.files.rest in
    let more = items_on image (line ∷ b.more) other h g on no_files in
    behind other g on.limits (same_files_on image (line ∷ b.more) other h g on no_files) b.more more.more more.are more.rest
  where
    behind : (other : ImageParts) → IsImage other → image.limits ≡ other.limits → image.files ≡ other.files → (xs : List (List ℕ)) (more : List Item) → other.items ≡ image.items ++ more → line ∷ xs ≡ map item_line more ++ end_line ∷ [] → ⊥
    behind other g limits files xs [] are rest = no_end (same_first line end_line xs [] rest)
    behind other g limits files xs (i ∷ more) are rest =
        let may : MayFollow other.limits other.files image.items i = g.items image.items more i are in
        none.no_item i (subst (λ l. MayFollow l image.files image.items i) (sym limits) (subst (λ f. MayFollow other.limits f image.items i) (sym files) may)) (same_first line (item_line i) xs (map item_line more ++ end_line ∷ []) rest)

-- all but the last line
pub wants_end : (image : ImageParts) → IsImage image → LeavesNoLevels image [] → ¬ (AreImageLines (front_lines image))
wants_end image h leaves g =
    let other : ImageParts = g.image in
    let on = goes_on image [] other h g.is_image leaves (append-nil (front_lines image) ∙ g.are) in
    let no_files : on.files.more ≡ [] = no_files_first image.items on.files.more [] (map item_line other.items ++ end_line ∷ []) (image_spelled image h) on.files.are_files (λ m is_file zs. nothing (file_line m) zs) on.files.rest in
    let more = items_on image [] other h g.is_image on no_files in
    behind more.more more.rest
  where
    behind : (more : List Item) → [] ≡ map item_line more ++ end_line ∷ [] → ⊥
    behind [] same = nothing end_line [] same
    behind (i ∷ more) same = nothing (item_line i) (map item_line more ++ end_line ∷ []) same

-- the last line, and what stands behind it
pub record EndsBehind (image other : ImageParts) (xs : List (List ℕ)) : Type 0 where
  pub same : image ≡ other
  pub rest : xs ≡ []

end_leaves : (image : ImageParts) (xs : List (List ℕ)) → IsImage image → LeavesNoLevels image (end_line ∷ xs)
end_leaves image xs h levels =
    files_no_levels image.files (map item_line image.items ++ end_line ∷ xs) h.files.each
    (items_no_levels image.items (end_line ∷ xs) (image_spelled image h) (first_no_levels end_line xs end_no_levels))

pub ends_behind : (image other : ImageParts) (xs : List (List ℕ)) → IsImage image → IsImage other → front_lines image ++ end_line ∷ xs ≡ image_lines other → EndsBehind image other xs
ends_behind image other xs h g same =
    let on = goes_on image (end_line ∷ xs) other h g (end_leaves image xs h) same in
    let no_files : on.files.more ≡ [] = no_files_first image.items on.files.more (end_line ∷ xs) (map item_line other.items ++ end_line ∷ []) (image_spelled image h) on.files.are_files
    (λ m is_file zs is. end_no_file m is_file (same_first _ _ _ _ is)) on.files.rest in
    let more = items_on image (end_line ∷ xs) other h g on no_files in
    behind on.limits (same_files_on image (end_line ∷ xs) other h g on no_files) more.more more.are more.rest
  where
    behind : image.limits ≡ other.limits → image.files ≡ other.files → (more : List Item) → other.items ≡ image.items ++ more → end_line ∷ xs ≡ map item_line more ++ end_line ∷ [] → EndsBehind image other xs
    behind limits files [] are rest = record {
      same = let items : image.items ≡ other.items = sym (are ∙ append-nil image.items) in λ i. record { limits = limits i; files = files i; items = items i };
      rest = same_behind end_line end_line xs [] rest;
    }
    behind limits files (i ∷ more) are rest =
        absurd (end_no_item i (spelled i more are) (same_first end_line (item_line i) xs (map item_line more ++ end_line ∷ []) rest))
      where
        spelled : (j : Item) (js : List Item) → other.items ≡ image.items ++ j ∷ js → IsSpelled j
        spelled j js is = may_spelled other.limits other.files image.items j g.levels.1 g.files (g.items image.items js j is)

-- a line behind the last one
pub no_more : (image : ImageParts) (line : List ℕ) → IsImage image → ¬ (Begins (image_lines image ++ line ∷ []))
no_more image line h b =
    let shape : front_lines image ++ end_line ∷ line ∷ b.more ≡ (image_lines image ++ line ∷ []) ++ b.more =
    sym (append_assoc (image_lines image) (line ∷ []) b.more ∙ append_assoc (front_lines image) (end_line ∷ []) (line ∷ b.more)) in
    let ends = ends_behind image b.goes_on.image (line ∷ b.more) h b.goes_on.is_image (shape ∙ b.goes_on.are) in
    nothing line b.more (sym ends.rest)

-- lines are those of one image at most
pub one_image : (a b : ImageParts) → IsImage a → IsImage b → image_lines a ≡ image_lines b → a ≡ b
one_image a b ha hb same = (ends_behind a b [] ha hb same).same
