-- The one word is `solo`, `check`, `tlb` or `restore`, or the two are `solo` and `5`, or `victims` or `save` and a number.
use Rattle.std.proofs.Common.{[], ◌∷◌, ap, sym, ◌∙◌}
use Rattle.std.specs.Prelude.{codes}
use Rattle.std.specs.String.{string_bytes}
use lib.Pointwise.{bytes_decides}
use Rattle.corten_run.proofs.Single.{map_single, map_pair}
use Rattle.corten_run.proofs.command.read_command.Goals as goal

pub returns-in-len1-clause-found : goal.returns-in-len1-clause-found
returns-in-len1-clause-found c =
    map_single string_bytes c.args.words.now c.word-item.result c.in-len1.len_at_least c.in-len1.len_below c.word-item.is
    ∙ ap (λ text. text ∷ []) (sym c.as_str.ensures.value ∙ (bytes_decides _ _).0 (sym c.eq.ensures ∙ c.if-eq.true))

pub returns-in-len1-2-clause-found : goal.returns-in-len1-2-clause-found
returns-in-len1-2-clause-found c =
    map_single string_bytes c.args.words.now c.word-item-then-words-lt2.result c.in-len1.len_at_least c.in-len1.len_below c.word-item-then-words-lt2.is
    ∙ ap (λ text. text ∷ []) (sym c.as_str-then-words-lt2.ensures.value ∙ (bytes_decides _ _).0 (sym c.eq-then-words-lt2.ensures ∙ c.if-eq-2.true))

pub returns-in-len1-3-clause-found : goal.returns-in-len1-3-clause-found
returns-in-len1-3-clause-found c =
    map_single string_bytes c.args.words.now c.word-item-then-words-lt2-2.result c.in-len1.len_at_least c.in-len1.len_below c.word-item-then-words-lt2-2.is
    ∙ ap (λ text. text ∷ []) (sym c.as_str-then-words-lt2-2.ensures.value ∙ (bytes_decides _ _).0 (sym c.eq-then-words-lt2-2.ensures ∙ c.if-eq-3.true))

pub returns-in-len1-4-clause-found : goal.returns-in-len1-4-clause-found
returns-in-len1-4-clause-found c =
    map_single string_bytes c.args.words.now c.word-item-then-words-lt2-3.result c.in-len1.len_at_least c.in-len1.len_below c.word-item-then-words-lt2-3.is
    ∙ ap (λ text. text ∷ []) (sym c.as_str-then-words-lt2-3.ensures.value ∙ (bytes_decides _ _).0 (sym c.eq-then-words-lt2-3.ensures ∙ c.if-eq-4.true))

pub returns-in-len2-clause-found : goal.returns-in-len2-clause-found
returns-in-len2-clause-found c =
    map_pair string_bytes c.args.words.now c.word-item-then-words-lt3.result c.levels-item.result c.in-len2.len_at_least c.in-len2.len_below c.word-item-then-words-lt3.is c.levels-item.is
    ∙ ap (λ text. text ∷ string_bytes c.levels-item.result ∷ []) (sym c.as_str-then-words-lt3.ensures.value ∙ (bytes_decides _ _).0 (sym c.eq-then-words-lt3.ensures ∙ c.if-eq-5.true))
    ∙ ap (λ text. (115 ∷ 111 ∷ 108 ∷ 111 ∷ []) ∷ text ∷ []) (sym c.as_str-then-eq-5.ensures.value ∙ (bytes_decides _ _).0 (sym c.eq-then-eq-5.ensures ∙ c.if-eq-6.true))

pub returns-in_ok-read_count-in-len2-2-clause-found : goal.returns-in_ok-read_count-in-len2-2-clause-found
returns-in_ok-read_count-in-len2-2-clause-found c = (
  c.in_ok-read_count-in-len2-2.ensures.found.0,
  map_pair string_bytes c.args.words.now c.word-item-then-words-lt3-2.result c.most-item.result c.in-len2.len_at_least c.in-len2.len_below c.word-item-then-words-lt3-2.is c.most-item.is
      ∙ ap (λ text. text ∷ string_bytes c.most-item.result ∷ []) (sym c.as_str-then-words-lt3-2.ensures.value ∙ (bytes_decides _ _).0 (sym c.eq-then-words-lt3-2.ensures ∙ c.if-eq-7.true))
      ∙ ap (λ text. codes "victims" ∷ text ∷ []) (sym c.as_str-in-len2-2.ensures.value ∙ sym c.as_bytes.ensures.value ∙ c.in_ok-read_count-in-len2-2.ensures.found.1),
)

pub returns-in_ok-read_space-in-len2-3-clause-found : goal.returns-in_ok-read_space-in-len2-3-clause-found
returns-in_ok-read_space-in-len2-3-clause-found c = (
  c.in_ok-read_space-in-len2-3.ensures.found.0,
  map_pair string_bytes c.args.words.now c.word-item-then-words-lt3-3.result c.space-item.result c.in-len2.len_at_least c.in-len2.len_below c.word-item-then-words-lt3-3.is c.space-item.is
      ∙ ap (λ text. text ∷ string_bytes c.space-item.result ∷ []) (sym c.as_str-then-words-lt3-3.ensures.value ∙ (bytes_decides _ _).0 (sym c.eq-then-words-lt3-3.ensures ∙ c.if-eq-8.true))
      ∙ ap (λ text. codes "save" ∷ text ∷ []) (sym c.as_str-in-len2-3.ensures.value ∙ sym c.as_bytes-in-len2-3.ensures.value ∙ c.in_ok-read_space-in-len2-3.ensures.found.1),
)
