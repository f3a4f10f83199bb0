use Rattle.page_map.proofs.GivenUp.{next_len, given_apart}
use Rattle.page_map.proofs.count_laws.tables_change_by_what_is_needed_and_given_up.Goals as goal

pub returns-clause-counted : goal.returns-clause-counted
returns-clause-counted c = next_len

pub returns-clause-not_wanted : goal.returns-clause-not_wanted
returns-clause-not_wanted c st thread limbo call p none = given_apart st thread limbo call none p
