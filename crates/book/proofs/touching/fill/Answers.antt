use Rattle.std.proofs.Common.{◌≡◌, [], ℕ, not, length, refl, sym, ap, ◌∙◌}
use Rattle.std.specs.List.{filter}
use Rattle.counted_pages.specs.Pages.{CountedPage}
use Rattle.machine_plan.specs.Kits.{Refs}
use Rattle.book.specs.Filling.{has_page}
use Rattle.book.proofs.TakenFrames.{fresh_sole, still_held, still_backed, sole_at, backed_at, held_at, takes_at, gives_at, in_turn, back_in, as_long}
use Rattle.book.proofs.touching.fill.Goals as goal

pub read_files-requires : goal.read_files-requires
read_files-requires c = record { sole = sole_at c.take_frames.new.pool c.take_frames.new.pool c.take_frames.new.frames.items c.as_mut_slice-frames.result.now (fresh_sole c.take_frames.new.pool c.take_frames.new.frames.items c.take_frames.ensures.fresh) refl c.as_mut_slice-frames.ensures.value }

pub release_frames-requires-clause-held : goal.release_frames-requires-clause-held
release_frames-requires-clause-held c =
    held_at c.take_frames.new.pool c.fetch_slots.new.pool c.args.kit.now.own_frames.items
    (still_held c.args.pool.now c.take_frames.new.pool _ [] c.take_frames.new.frames.items c.take_frames.ensures.takes c.args.kit.now.own_frames.items c.requires.gives.held_frames)
    (c.fetch_slots.ensures.pool ∙ c.copy_frames.ensures.pool ∙ c.read_files.ensures.pool)

pub release_frames-requires-clause-backed : goal.release_frames-requires-clause-backed
release_frames-requires-clause-backed c =
    backed_at c.take_frames.new.pool c.fetch_slots.new.pool c.args.kit.now.own_frames.items
    (still_backed c.args.pool.now c.take_frames.new.pool _ [] c.take_frames.new.frames.items c.take_frames.ensures.takes c.args.kit.now.own_frames.items c.requires.gives.held_frames c.requires.gives.backed_frames)
    (c.fetch_slots.ensures.pool ∙ c.copy_frames.ensures.pool ∙ c.read_files.ensures.pool)

pub returns : goal.returns
returns c =
    let mid = c.take_frames.new.pool in
    let now : c.fetch_slots.new.pool ≡ mid = c.fetch_slots.ensures.pool ∙ c.copy_frames.ensures.pool ∙ c.read_files.ensures.pool in
    let kit = c.args.kit.now in
    let taken = c.take_frames.new.frames.items in
    let last = c.fetch_slots.new.frames in
    let long : length last ≡ c.take_frames.new.frames.len = as_long _ c.copy_frames.new.frames last c.fetch_slots.ensures.copied ∙ as_long _ c.read_files.new.frames c.copy_frames.new.frames c.copy_frames.ensures.copied
    ∙ as_long _ c.as_mut_slice-frames.result.now c.read_files.new.frames c.read_files.ensures.copied ∙ ap length c.as_mut_slice-frames.ensures.value ∙ sym c.take_frames.new.frames.ok.0 in
    let back = back_in last taken c.take_frames.new.frames.len long in
    record {
      mid = mid;
      taken = taken;
      takes = takes_at c.args.pool.now mid kit.wants.items c.as_slice.result.now taken c.as_slice.ensures.value c.take_frames.ensures.takes;
      fresh = c.take_frames.ensures.fresh;
      filled = back ∙ in_turn c.args.shelf.now kit.wants.items c.as_slice-2.result.now kit.own_frames.items c.as_slice-3.result.now kit.own_slots.items taken c.as_mut_slice-frames.result.now c.read_files.new.frames c.read_files.new.frames c.copy_frames.new.frames
          c.copy_frames.new.frames last c.as_slice-2.ensures.value c.as_slice-3.ensures.value c.as_mut_slice-frames.ensures.value c.read_files.ensures.copied refl c.copy_frames.ensures.copied refl c.fetch_slots.ensures.copied;
      sole = sole_at c.fetch_slots.new.pool mid last _ c.fetch_slots.ensures.sole (sym now) back;
      left = c.release_frames.ensures.left ∙ ap (λ (frames : Refs). filter (λ (r : ℕ × CountedPage). not (has_page frames r.0)) kit.own_frames.items) (sym back);
      frames = gives_at mid c.fetch_slots.new.pool c.release_frames.new.pool kit.own_frames.items c.release_frames.new.own.items now c.release_frames.ensures.gives;
      slots = c.fetch_slots.ensures.gives;
      no_slots = c.fetch_slots.ensures.none;
      own_room = c.release_frames.ensures.room;
      slots_room = c.fetch_slots.ensures.room;
      frames_room = c.take_frames.ensures.room;
      same_kit = refl;
    }
