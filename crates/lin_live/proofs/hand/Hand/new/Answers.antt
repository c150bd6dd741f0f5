use Rattle.lin_live.proofs.HeldMarks.{new-its, new-so}
use Rattle.lin_live.proofs.hand.Hand.new.Goals as goal

pub invariant_of-result : goal.invariant_of-result
invariant_of-result c =
    new-its c.args.format c.args.coded c.args.limits c.args.is_physical c.in_ok-core.core c.args.cluster c.args.opening c.new-2.result c.new-3.result.items c.in_ok-core.ensures.1 c.in_ok-core.ensures.2
    c.in_ok-core.ensures.3 c.new-2.ensures c.new-3.ensures.items c.requires.table c.requires.some c.requires.few

pub returns : goal.returns
returns c =
    new-so c.args.format c.args.coded c.args.limits c.args.is_physical c.in_ok-core.core c.args.cluster c.args.opening c.new-2.result c.new-3.result.items c.in_ok-core.ensures.1 c.in_ok-core.ensures.2
    c.in_ok-core.ensures.3 c.new-2.ensures c.new-3.ensures.items
