use Rattle.text_words.proofs.LineLists.{one_list_of_lines}
use Rattle.text_words.proofs.laws.a_text_has_one_list_of_lines.Goals as goal

pub returns : goal.returns
returns c = λ xs ys x y xs_are ys_are x_is y_is same.
    let parted = one_list_of_lines xs x ys y xs_are ys_are x_is y_is same in
    (parted.lines, parted.rest)
