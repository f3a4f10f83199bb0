use Rattle.tlb_core.proofs.Theorem.{reaches_none_anew, caches_none_free}
use Rattle.tlb_core.proofs.laws.no_processor_reaches_a_frame_given_anew.Goals as goal

pub returns-clause-reaches : goal.returns-clause-reaches
returns-clause-reaches c = reaches_none_anew

pub returns-clause-caches : goal.returns-clause-caches
returns-clause-caches c = caches_none_free
