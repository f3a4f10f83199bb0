use Rattle.std.proofs.Common.{◌≡◌, ◌∷◌, [], ◌++◌, ◌+◌, ◌-◌, ◌<◌, take, refl, sym, ap, ◌∙◌, length, arith}
use Rattle.std.specs.Prelude.{map}
use Rattle.std.proofs.lemmas.List.{append-nil, take_all}
use Rattle.machine_plan.specs.Kits.{Refs}
use Rattle.book.specs.Filling.{with_source, bytes_of}
use Rattle.book.proofs.Filled.{no_sources, none_yet, copied_step, sole_so, popped_is}
use Rattle.book.proofs.Released.{gives_one, gives_none, last_backed, popped_rest}
use Rattle.book.proofs.filling.fetch_slots.Goals as goal

pub take_out-requires-clause-spare : goal.take_out-requires-clause-spare
take_out-requires-clause-spare c =
    let r = c.unwrap-page.result in
    let parts : c.loop-left.slots.items ≡ c.pop.new.self.items ++ r ∷ [] = rw c.unwrap-page.ensures at c.pop.ensures.items in
    last_backed c.loop-left.area c.loop-left.slots.items c.pop.new.self.items r parts c.loop-left.invariant.gives.backed

pub loop-left-init : goal.loop-left-init
loop-left-init c = record {
  gives = gives_none c.args.area.now c.args.slots.now.items c.requires.held c.requires.backed;
  left = sym (take_all (length c.args.slots.now.items - 0) c.args.slots.now.items (omega arith));
  long = omega arith;
  room = refl;
  pool = refl;
  copied = sym (no_sources c.args.frames.now) ∙ ap (λ (rs : Refs). map (with_source (bytes_of rs)) c.args.frames.now) (sym (none_yet c.args.slots.now.items));
  sole = c.requires.sole;
}

pub loop-left-preserved : goal.loop-left-preserved
loop-left-preserved c =
    let was = c.loop-left.invariant in
    let r = c.unwrap-page.result in
    let rest = c.pop.new.self.items in
    let parts : c.loop-left.slots.items ≡ rest ++ r ∷ [] = rw c.unwrap-page.ensures at c.pop.ensures.items in
    let few : c.loop-left._left < length c.args.slots.now.items = omega (arith, c.loop-left-test.true, c.len-left-end.ensures, c.args.slots.now.ok.0) in
    let left : rest ≡ take (length c.args.slots.now.items - (c.loop-left._left + 1)) c.args.slots.now.items = popped_rest c.args.slots.now.items c.loop-left.slots.items rest c.loop-left._left r few was.left parts in
    let whole : length c.take_out.new.into ≡ 4096 = c.take_out.auto.into in
    record {
      gives = gives_one c.args.area.now c.loop-left.area c.take_out.new.self c.args.slots.now.items c.loop-left.slots.items rest rest [] r was.gives parts (sym (append-nil rest)) c.take_out.ensures.counted;
      left = left;
      long = omega (arith, was.long, ap length parts, Rattle.std.proofs.lemmas.List.length_push rest r);
      room = c.pop.ensures.capacity ∙ was.room;
      pool = c.write_page.ensures.pool ∙ was.pool;
      copied = copied_step c.args.slots.now.items c.args.frames.now c.loop-left.frames c.write_page.new.frames c.loop-left._left r c.take_out.new.into few
          (popped_is c.args.slots.now.items c.loop-left.slots.items rest c.loop-left._left r few was.left parts left) c.take_out.ensures.bytes was.copied c.write_page.ensures.written;
      sole = sole_so c.loop-left.pool c.write_page.new.pool r.0 c.take_out.new.into whole c.loop-left.frames c.write_page.new.frames was.sole c.write_page.ensures.pool c.write_page.ensures.written;
    }
