use Rattle.lin_bench.proofs.RuleOrder.{as-before, distinct-kept, order-free}
use Rattle.lin_bench.proofs.law.order_of_rules_is_free.Goals as goal

pub returns-clause-order : goal.returns-clause-order
returns-clause-order c = order-free

pub returns-clause-distinct : goal.returns-clause-distinct
returns-clause-distinct c = distinct-kept

pub returns-clause-old : goal.returns-clause-old
returns-clause-old c = as-before
