use Rattle.lin_bench.proofs.Searches.{known-cleared}
use Rattle.lin_bench.proofs.left_events.first_left.Goals as goal

pub returns-clause-known : goal.returns-clause-known
returns-clause-known c =
    known-cleared c.args.log.now.entries c.args.taken.now c.args.sought c.find_left-clear.result.1 c.keep.new.self c.requires c.find_left-clear.ensures.clear c.keep.ensures
