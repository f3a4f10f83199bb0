use Rattle.page_map.proofs.SpanKinds.{alike_kind, kind_alike}
use Rattle.page_map.proofs.table_laws.a_span_is_alike_in_three_ways.Goals as goal

pub returns-clause-of_one_kind : goal.returns-clause-of_one_kind
returns-clause-of_one_kind c = alike_kind

pub returns-clause-alike : goal.returns-clause-alike
returns-clause-alike c = kind_alike
