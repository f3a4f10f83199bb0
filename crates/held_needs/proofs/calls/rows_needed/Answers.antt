use Rattle.std.proofs.Common.{◌^◌, length, sym, subst}
use Rattle.std.specs.Prelude.{min}
use Rattle.page_map.proofs.NeedLaws.{dont_need_none, out_none, in_none}
use Rattle.held_needs.specs.Calls.{AnswersNeed}
use Rattle.held_needs.specs.Operation.{OpLacks}
use Rattle.held_needs.specs.Several.{AccessLacks, OpsLack}
use Rattle.held_needs.proofs.Needs.{unmap_needs, protect_needs, map_needs, placed_min, txn_needs, load_needs, store_needs, fault_needs, spawn_needs, exit_needs, fork_needs}
use Rattle.held_needs.proofs.calls.rows_needed.Goals as goal

pub returns-in-Map : goal.returns-in-Map
returns-in-Map c =
    let m = c.in-Map in
    record {
      needs = subst (λ x. AnswersNeed c.args.levels c.args.held.now.rows x c.args.to c.args.pieces.now c.lacked_by_operation.result) (sym m.is) (λ thread st h placed has.
          map_needs c.args.levels c.args.held.now.rows thread st c.requires.four m.space m.place m.len m.perm m.backing (min c.args.to (2 ^ 45)) c.lacked_by_operation.result h
          (placed_min c.args.levels c.args.held.now.rows thread st c.requires.four c.requires.five m.space m.place m.len m.perm m.backing c.args.to h placed)
          (subst (λ o. OpLacks c.args.levels c.args.held.now.rows o c.lacked_by_operation.result) c.map_op.ensures c.lacked_by_operation.ensures.lacks));
    }

pub returns-in-Unmap : goal.returns-in-Unmap
returns-in-Unmap c =
    let m = c.in-Unmap in
    record {
      needs = subst (λ x. AnswersNeed c.args.levels c.args.held.now.rows x c.args.to c.args.pieces.now c.lacked_by_operation-in-Unmap.result) (sym m.is) (λ thread st h placed has.
          unmap_needs c.args.levels c.args.held.now.rows thread st c.requires.four m.space m.at m.len c.lacked_by_operation-in-Unmap.result h c.lacked_by_operation-in-Unmap.ensures.lacks);
    }

pub returns-in-Protect : goal.returns-in-Protect
returns-in-Protect c =
    let m = c.in-Protect in
    record {
      needs = subst (λ x. AnswersNeed c.args.levels c.args.held.now.rows x c.args.to c.args.pieces.now c.lacked_by_operation-in-Protect.result) (sym m.is) (λ thread st h placed has.
          protect_needs c.args.levels c.args.held.now.rows thread st c.requires.four m.space m.at m.len m.perm c.lacked_by_operation-in-Protect.result h c.lacked_by_operation-in-Protect.ensures.lacks);
    }

pub returns-in-Load : goal.returns-in-Load
returns-in-Load c =
    let m = c.in-Load in
    record {
      needs = subst (λ x. AnswersNeed c.args.levels c.args.held.now.rows x c.args.to c.args.pieces.now c.lacked_by_access.result) (sym m.is) (λ thread st h placed has.
          load_needs c.args.levels c.args.held.now.rows thread st c.requires.four m.space m.at m.len c.lacked_by_access.result h
          (subst (λ n. AccessLacks c.args.levels c.args.held.now.rows m.at n c.lacked_by_access.result) c.from.ensures c.lacked_by_access.ensures.lacks));
    }

pub returns-in-Store : goal.returns-in-Store
returns-in-Store c =
    let m = c.in-Store in
    record {
      needs = subst (λ x. AnswersNeed c.args.levels c.args.held.now.rows x c.args.to c.args.pieces.now c.lacked_by_access-in-Store.result) (sym m.is) (λ thread st h placed has.
          store_needs c.args.levels c.args.held.now.rows thread st c.requires.four m.space m.at m.bytes c.lacked_by_access-in-Store.result h
          (subst (λ xs. AccessLacks c.args.levels c.args.held.now.rows m.at (length xs) c.lacked_by_access-in-Store.result) c.bytes.ensures.value c.lacked_by_access-in-Store.ensures.lacks));
    }

pub returns-in-Fault : goal.returns-in-Fault
returns-in-Fault c =
    let m = c.in-Fault in
    record {
      needs = subst (λ x. AnswersNeed c.args.levels c.args.held.now.rows x c.args.to c.args.pieces.now c.lacked_by_access-in-Fault.result) (sym m.is) (λ thread st h placed has.
          fault_needs c.args.levels c.args.held.now.rows thread st c.requires.four m.space m.at m.write c.lacked_by_access-in-Fault.result h c.lacked_by_access-in-Fault.ensures.lacks);
    }

pub returns-in-Spawn : goal.returns-in-Spawn
returns-in-Spawn c = record {
  needs = subst (λ x. AnswersNeed c.args.levels c.args.held.now.rows x c.args.to c.args.pieces.now 1) (sym c.in-Spawn.is) (λ thread st h placed has.
      spawn_needs c.args.levels c.args.held.now.rows thread st c.requires.four h);
}

pub returns-in-Fork : goal.returns-in-Fork
returns-in-Fork c = record {
  needs = subst (λ x. AnswersNeed c.args.levels c.args.held.now.rows x c.args.to c.args.pieces.now c.needed_by_copy.result) (sym c.in-Fork.is) (λ thread st h placed has.
      fork_needs c.args.levels c.args.held.now.rows thread st c.in-Fork.space c.needed_by_copy.result h c.needed_by_copy.ensures.needs);
}

pub returns-in-Exit : goal.returns-in-Exit
returns-in-Exit c = record { needs = subst (λ x. AnswersNeed c.args.levels c.args.held.now.rows x c.args.to c.args.pieces.now 0) (sym c.in-Exit.is) (λ thread st h placed has. exit_needs st thread c.in-Exit.space) }

pub returns-in-SwapOut : goal.returns-in-SwapOut
returns-in-SwapOut c =
    let m = c.in-SwapOut in
    record { needs = subst (λ x. AnswersNeed c.args.levels c.args.held.now.rows x c.args.to c.args.pieces.now 0) (sym m.is) (λ thread st h placed has. out_none st thread m.space m.at m.len h.state.consistent) }

pub returns-in-SwapIn : goal.returns-in-SwapIn
returns-in-SwapIn c =
    let m = c.in-SwapIn in
    record { needs = subst (λ x. AnswersNeed c.args.levels c.args.held.now.rows x c.args.to c.args.pieces.now 0) (sym m.is) (λ thread st h placed has. in_none st thread m.space m.at m.len h.state.consistent) }

pub returns-in-DontNeed : goal.returns-in-DontNeed
returns-in-DontNeed c =
    let m = c.in-DontNeed in
    record { needs = subst (λ x. AnswersNeed c.args.levels c.args.held.now.rows x c.args.to c.args.pieces.now 0) (sym m.is) (λ thread st h placed has. dont_need_none st thread m.space m.at m.len h.state.consistent) }

pub returns-in-Txn : goal.returns-in-Txn
returns-in-Txn c =
    let m = c.in-Txn in
    record {
      needs = subst (λ x. AnswersNeed c.args.levels c.args.held.now.rows x c.args.to c.args.pieces.now c.lacked_by_operations.result) (sym m.is) (λ thread st h placed has.
          txn_needs c.args.levels c.args.held.now.rows thread st c.requires.four m.space m.at m.len m.ops c.lacked_by_operations.result h
          (subst (λ os. OpsLack c.args.levels c.args.held.now.rows os c.lacked_by_operations.result) c.ops.ensures.value c.lacked_by_operations.ensures.lacks));
    }

pub returns-in-Remap : goal.returns-in-Remap
returns-in-Remap c =
    let m = c.in-Remap in
    record { needs = subst (λ x. AnswersNeed c.args.levels c.args.held.now.rows x c.args.to c.args.pieces.now c.lacked_by_remap.result) (sym m.is) (c.lacked_by_remap.ensures.needs m.space) }
