use Rattle.lin_threads.specs.Steps.{host_step, node_step}
use Rattle.lin_threads.proofs.SettleLemmas.{fifo_of}
use Rattle.lin_threads.proofs.ports.incoming.Incoming.left_beside.Goals as goal

pub returns-in-Host-put-clause-fifo : goal.returns-in-Host-put-clause-fifo
returns-in-Host-put-clause-fifo c n = fifo_of (host_step n) _ _ _ _ c.slots_beside.ensures.fifo c.slots_beside.ensures.value

pub returns-in-Node-put-2-clause-fifo : goal.returns-in-Node-put-2-clause-fifo
returns-in-Node-put-2-clause-fifo c n = fifo_of (node_step n) _ _ _ _ c.slots_beside-in-Node-put-2.ensures.fifo c.slots_beside-in-Node-put-2.ensures.value
