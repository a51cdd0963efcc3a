-- `call_expire::expire_part` meets its contract: the columns that were lent are the lender's again.
use Rattle.std.proofs.Common.{rules}
use Rattle.rule_bring.proofs.Laws.{came_back}
use Rattle.call_expire.proofs.expire_part.Goals as goal

pub returns-clause-expired : goal.returns-clause-expired
returns-clause-expired c = came_back (search rules) c.store_expire.ensures.expired
