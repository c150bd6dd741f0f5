use Rattle.lin_threads.proofs.NodeLemmas.{put_once}
use Rattle.lin_threads.proofs.node_threads.put_until_over.Goals as goal

pub returns-in-Ok-clause-put : goal.returns-in-Ok-clause-put
returns-in-Ok-clause-put c =
    let inv = c.loop.invariant in
    put_once c.args.port.now c.loop.port c.put.new.self c.args.step inv.wiring inv.put (rw inv.step at c.in-Ok.ensures.ok)
