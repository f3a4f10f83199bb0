use Rattle.std.proofs.Common.{◌+◌, refl, sym, subst, ◌∙◌, length}
use Rattle.std.specs.Prelude.{slice_index}
use Rattle.machine_plan.specs.Kits.{Refs}
use Rattle.book.specs.Filling.{bytes_of}
use Rattle.book.specs.Storing.{AreTouched, byte_from}
use Rattle.book.proofs.AccessEnds.{may_fill_for, faulted, may_store_for, stored_settles, stored_answer, long_bytes, long_copy, load_own_touched, load_came_touched, loaded_settles, loaded_answer}
use Rattle.book.proofs.touching.access.Goals as goal

pub fill-requires : goal.fill-requires
fill-requires c = may_fill_for c.requires.0 c.requires.1 c.args.pool.now c.args.area.now c.args.shelf.now c.args.kit.now c.args.call.now c.requires.2

pub store_all-requires : goal.store_all-requires
store_all-requires c =
    may_store_for c.requires.0 c.requires.1 c.args.pool.now c.args.area.now c.args.shelf.now c.args.kit.now c.fill.new.pool c.fill.new.area c.fill.new.kit c.fill.ensures c.in-Store.space c.in-Store.at c.in-Store.bytes c.bytes.result.now c.bytes.ensures.value
    c.args.call.now c.in-Store.is c.requires.2

pub returns-in-Store-clause-settles : goal.returns-in-Store-clause-settles
returns-in-Store-clause-settles c = λ a thread m.
    stored_settles a thread c.args.pool.now c.args.area.now c.args.shelf.now c.args.kit.now c.fill.new.pool c.fill.new.area c.fill.new.kit c.fill.ensures c.in-Store.space c.in-Store.at c.in-Store.bytes c.bytes.result.now c.bytes.ensures.value
    c.args.call.now c.in-Store.is m c.store_all.new.pool c.store_all.new.kit c.store_all.ensures

pub returns-in-Store-clause-answers : goal.returns-in-Store-clause-answers
returns-in-Store-clause-answers c = λ a thread m.
    let is = stored_answer a thread c.args.pool.now c.args.area.now c.args.shelf.now c.args.kit.now c.fill.new.pool c.fill.new.area c.fill.new.kit c.fill.ensures c.in-Store.space c.in-Store.at c.in-Store.bytes c.bytes.result.now c.bytes.ensures.value
    c.args.call.now c.in-Store.is m in
    (is, is)

pub load_all-bytes-requires-clause-own : goal.load_all-bytes-requires-clause-own
load_all-bytes-requires-clause-own c =
    let m = c.requires.2 in
    let long = long_bytes c.requires.0 c.requires.1 c.args.pool.now c.args.area.now c.args.shelf.now c.args.kit.now c.fill.new.pool c.fill.new.area c.fill.new.kit c.fill.ensures c.in-Load.space c.in-Load.at c.in-Load.len c.args.call.now c.in-Load.is m
    c.unwrap.result (sym c.take.ensures.value ∙ c.unwrap.ensures) in
    subst (λ (refs : Refs). AreTouched c.in-Load.at (length c.unwrap.result) refs) (sym c.as_slice-own.ensures.value)
    (load_own_touched c.requires.0 c.requires.1 c.args.pool.now c.args.area.now c.args.shelf.now c.args.kit.now c.fill.new.pool c.fill.new.area c.fill.new.kit c.fill.ensures c.in-Load.space c.in-Load.at c.in-Load.len c.args.call.now c.in-Load.is m c.unwrap.result long)

pub load_all-bytes-requires-clause-came : goal.load_all-bytes-requires-clause-came
load_all-bytes-requires-clause-came c =
    let m = c.requires.2 in
    let long = long_bytes c.requires.0 c.requires.1 c.args.pool.now c.args.area.now c.args.shelf.now c.args.kit.now c.fill.new.pool c.fill.new.area c.fill.new.kit c.fill.ensures c.in-Load.space c.in-Load.at c.in-Load.len c.args.call.now c.in-Load.is m
    c.unwrap.result (sym c.take.ensures.value ∙ c.unwrap.ensures) in
    subst (λ (refs : Refs). AreTouched c.in-Load.at (length c.unwrap.result) refs) (sym c.as_slice-came.ensures.value)
    (load_came_touched c.requires.0 c.requires.1 c.args.pool.now c.args.area.now c.args.shelf.now c.args.kit.now c.fill.new.pool c.fill.new.area c.fill.new.kit c.fill.ensures c.in-Load.space c.in-Load.at c.in-Load.len c.args.call.now c.in-Load.is m c.unwrap.result long)

pub load_all-copy-requires-clause-own : goal.load_all-copy-requires-clause-own
load_all-copy-requires-clause-own c =
    let m = c.requires.2 in
    let long = long_copy c.requires.0 c.requires.1 c.args.pool.now c.args.area.now c.args.shelf.now c.args.kit.now c.fill.new.pool c.fill.new.area c.fill.new.kit c.fill.ensures c.in-Load.space c.in-Load.at c.in-Load.len c.args.call.now c.in-Load.is m
    c.unwrap-in-Load.result (sym c.take-in-Load.ensures.value ∙ c.unwrap-in-Load.ensures) in
    subst (λ (refs : Refs). AreTouched c.in-Load.at (length c.unwrap-in-Load.result) refs) (sym c.as_slice-own.ensures.value)
    (load_own_touched c.requires.0 c.requires.1 c.args.pool.now c.args.area.now c.args.shelf.now c.args.kit.now c.fill.new.pool c.fill.new.area c.fill.new.kit c.fill.ensures c.in-Load.space c.in-Load.at c.in-Load.len c.args.call.now c.in-Load.is m c.unwrap-in-Load.result long)

pub load_all-copy-requires-clause-came : goal.load_all-copy-requires-clause-came
load_all-copy-requires-clause-came c =
    let m = c.requires.2 in
    let long = long_copy c.requires.0 c.requires.1 c.args.pool.now c.args.area.now c.args.shelf.now c.args.kit.now c.fill.new.pool c.fill.new.area c.fill.new.kit c.fill.ensures c.in-Load.space c.in-Load.at c.in-Load.len c.args.call.now c.in-Load.is m
    c.unwrap-in-Load.result (sym c.take-in-Load.ensures.value ∙ c.unwrap-in-Load.ensures) in
    subst (λ (refs : Refs). AreTouched c.in-Load.at (length c.unwrap-in-Load.result) refs) (sym c.as_slice-came.ensures.value)
    (load_came_touched c.requires.0 c.requires.1 c.args.pool.now c.args.area.now c.args.shelf.now c.args.kit.now c.fill.new.pool c.fill.new.area c.fill.new.kit c.fill.ensures c.in-Load.space c.in-Load.at c.in-Load.len c.args.call.now c.in-Load.is m c.unwrap-in-Load.result long)

pub returns-in-Load-clause-settles : goal.returns-in-Load-clause-settles
returns-in-Load-clause-settles c = λ a thread m.
    loaded_settles a thread c.args.pool.now c.args.area.now c.args.shelf.now c.args.kit.now c.fill.new.pool c.fill.new.area c.fill.new.kit c.fill.ensures c.in-Load.space c.in-Load.at c.in-Load.len c.args.call.now c.in-Load.is m
    (record c.fill.new.kit { bytes = c.take.new.self; copy = c.take-in-Load.new.self }) refl

pub returns-in-Load-clause-answers : goal.returns-in-Load-clause-answers
returns-in-Load-clause-answers c = λ a thread m.
    let long = long_bytes a thread c.args.pool.now c.args.area.now c.args.shelf.now c.args.kit.now c.fill.new.pool c.fill.new.area c.fill.new.kit c.fill.ensures c.in-Load.space c.in-Load.at c.in-Load.len c.args.call.now c.in-Load.is m
    c.unwrap.result (sym c.take.ensures.value ∙ c.unwrap.ensures) in
    let long_too = long_copy a thread c.args.pool.now c.args.area.now c.args.shelf.now c.args.kit.now c.fill.new.pool c.fill.new.area c.fill.new.kit c.fill.ensures c.in-Load.space c.in-Load.at c.in-Load.len c.args.call.now c.in-Load.is m
    c.unwrap-in-Load.result (sym c.take-in-Load.ensures.value ∙ c.unwrap-in-Load.ensures) in (
      loaded_answer a thread c.args.pool.now c.args.area.now c.args.shelf.now c.args.kit.now c.fill.new.pool c.fill.new.area c.fill.new.kit c.fill.ensures c.in-Load.space c.in-Load.at c.in-Load.len c.args.call.now c.in-Load.is m
          c.unwrap.result c.load_all-bytes.result long c.load_all-bytes.ensures.long
          (λ i lt. c.load_all-bytes.ensures.loaded i lt
          ∙ (λ j. byte_from (bytes_of (c.as_slice-came.ensures.value j)) (byte_from (bytes_of (c.as_slice-own.ensures.value j)) (slice_index c.unwrap.result i) (c.in-Load.at + i)) (c.in-Load.at + i))),
      loaded_answer a thread c.args.pool.now c.args.area.now c.args.shelf.now c.args.kit.now c.fill.new.pool c.fill.new.area c.fill.new.kit c.fill.ensures c.in-Load.space c.in-Load.at c.in-Load.len c.args.call.now c.in-Load.is m
          c.unwrap-in-Load.result c.load_all-copy.result long_too c.load_all-copy.ensures.long
          (λ i lt. c.load_all-copy.ensures.loaded i lt
          ∙ (λ j. byte_from (bytes_of (c.as_slice-came.ensures.value j)) (byte_from (bytes_of (c.as_slice-own.ensures.value j)) (slice_index c.unwrap-in-Load.result i) (c.in-Load.at + i)) (c.in-Load.at + i))),
    )

pub returns-in_default : goal.returns-in_default
returns-in_default c = record {
  settles = λ a thread m. (faulted a thread c.args.pool.now c.args.area.now c.args.shelf.now c.args.kit.now c.fill.new.pool c.fill.new.area c.fill.new.kit c.fill.ensures c.args.call.now m
      (λ space at len. c.in_default.not-Load space at len) (λ space at bytes. c.in_default.not-Store space at bytes)).0;
  answers = λ a thread m.
      let is = (faulted a thread c.args.pool.now c.args.area.now c.args.shelf.now c.args.kit.now c.fill.new.pool c.fill.new.area c.fill.new.kit c.fill.ensures c.args.call.now m
      (λ space at len. c.in_default.not-Load space at len) (λ space at bytes. c.in_default.not-Store space at bytes)).1 in
      (is, is);
}
