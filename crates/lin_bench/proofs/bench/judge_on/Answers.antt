use Rattle.lin_bench.proofs.bench.judge_on.Goals as goal

pub verdict-requires-clause-watch : goal.verdict-requires-clause-watch
verdict-requires-clause-watch c = c.new-watch.ensures c.args.ruled.now.core.cluster c.args.ruled.now.core.log
