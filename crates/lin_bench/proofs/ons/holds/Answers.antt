use Rattle.lin_bench.proofs.ons.holds.Goals as goal

pub found-requires-clause-watch : goal.found-requires-clause-watch
found-requires-clause-watch c = c.new-watch.ensures c.args.core.now.cluster c.args.core.now.log
