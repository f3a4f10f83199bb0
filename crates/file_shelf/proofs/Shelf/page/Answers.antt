use Rattle.std.proofs.Common.{◌≡◌, ℕ, ◌+◌, ◌-◌, ◌*◌, ◌<◌, List, [], length, take, drop, min, sym, ap, ◌∙◌, arith}
use Rattle.std.proofs.lemmas.List.{take_min, length-drop}
use Rattle.std.proofs.lemmas.Option.{slice_get_within}
use Rattle.std.specs.Option.{unwrap_or}
use Rattle.file_shelf.specs.Pages.{file_bytes}
use Rattle.file_shelf.proofs.Shelf.page.Goals as goal

-- up to the end of the page or of the file, whichever comes first
part : (bytes : List ℕ) (start end : ℕ) → start < length bytes → end ≡ min (length bytes) (start + 4096) → take (end - start) (drop start bytes) ≡ take 4096 (drop start bytes)
part bytes start end inside is =
    let count : end - start ≡ min 4096 (length (drop start bytes)) = omega (arith, length-drop start bytes) in
    ap (λ n. take n (drop start bytes)) count ∙ take_min 4096 (drop start bytes)

pub returns : goal.returns
returns c =
    let start : c.saturating_mul-start.result ≡ c.args.index * 4096 = omega (arith, c.saturating_mul-start.ensures, c.min-end.ensures, c.if-start-length.false) in
    let file : file_bytes c.args.self.now c.args.file ≡ c.in-Some.bytes.now = ap (λ found. unwrap_or found []) (sym c.in-Some.ensures.value) in (
      slice_get_within c.args.self.now c.args.file c.in-Some.bytes.now (sym c.in-Some.ensures.value),
      rw (← start, file) c.if-start-length.false,
      rw (← start, file) (part c.in-Some.bytes.now _ _ c.if-start-length.false c.min-end.ensures),
    )
