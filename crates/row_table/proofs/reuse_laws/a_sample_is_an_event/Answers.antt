use Rattle.row_table.proofs.Sampling.{samples_event}
use Rattle.row_table.proofs.reuse_laws.a_sample_is_an_event.Goals as goal

pub returns : goal.returns
returns g c v w other number t = samples_event g.P.Plan.meaning v w other number t
