-- The counts of owners are those of the state's frames.
use Rattle.std.proofs.Common.{◌≡◌, ◌<◌, Bool, true, ◌∙◌, nat_eq, nat_lt, sym, ap, arith}
use Rattle.std.specs.Prelude.{◌&&◌}
use Rattle.std.proofs.lemmas.Bool.{lt-ltb}
use Rattle.page_map.specs.State.{State, frame_owners}
use Rattle.mm_model.proofs.Carried.{counted_at, counts_long}
use Rattle.mm_model.proofs.plain.Plain.has_one_owner.Goals as goal

pub count-requires : goal.count-requires
count-requires c = omega (arith, c.if-frame-self.true, counts_long _ _ _ c.self.invariant.frame_counts)

both : (a b d : Bool) → a ≡ true → b ≡ d → b ≡ (a && d)
both a b d h e = e ∙ ap (λ t. t && d) (sym h)

pub returns-then-frame-self : goal.returns-then-frame-self
returns-then-frame-self c =
    let few : c.args.frame < c.self.inside.limits.frames = omega (arith, c.if-frame-self.true) in
    let counted = c.count.ensures ∙ counted_at _ _ _ c.self.invariant.frame_counts c.args.frame few in
    let here = both (nat_lt c.args.frame c.self.inside.limits.frames) (nat_eq c.count.result 1) (nat_eq (frame_owners (record { spaces = c.self.inside.spaces; tables = c.self.inside.tables; limits = c.self.inside.limits; files = c.self.inside.shelf }) c.args.frame) 1) (lt-ltb _ _ few) (ap (λ n. nat_eq n 1) counted) in
    here ∙ ap (λ (st : State). nat_lt c.args.frame st.limits.frames && nat_eq (frame_owners st c.args.frame) 1) c.self.view_is
