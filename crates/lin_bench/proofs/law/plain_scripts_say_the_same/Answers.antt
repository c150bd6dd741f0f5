use Rattle.lin_bench.proofs.LineByLine.{line-by-line}
use Rattle.lin_bench.proofs.Steps.{named-texts, plain-scripts}
use Rattle.lin_bench.proofs.law.plain_scripts_say_the_same.Goals as goal

pub returns-clause-lines : goal.returns-clause-lines
returns-clause-lines c = line-by-line

pub returns-clause-plain : goal.returns-clause-plain
returns-clause-plain c = plain-scripts

pub returns-clause-named : goal.returns-clause-named
returns-clause-named c = named-texts
