use Rattle.lin_bench.proofs.RuleLaws.{any-finish, by-history, no-rule, unchanged}
use Rattle.lin_bench.proofs.law.rules_alone_add_steps.Goals as goal

pub returns-clause-nothing : goal.returns-clause-nothing
returns-clause-nothing c = no-rule

pub returns-clause-unchanged : goal.returns-clause-unchanged
returns-clause-unchanged c = unchanged

pub returns-clause-any_finish : goal.returns-clause-any_finish
returns-clause-any_finish c = any-finish

pub returns-clause-alone : goal.returns-clause-alone
returns-clause-alone c = by-history
