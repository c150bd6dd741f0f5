use Rattle.std.proofs.Common.{List, ◌++◌, subst, ◌∙◌, arith}
use Rattle.std.specs.List.{AllZip}
use Rattle.lin_threads.specs.Pumps.{since}
use Rattle.lin_threads.specs.Runs.{IsSettledAs, bus_steps}
use Rattle.lin_threads.specs.Nodes.{IsByList, no_lists, node_lists}
use Rattle.lin_threads.specs.States.{IsReceiptFrom, IsSettledReceipt, PortState, handed_in}
use Rattle.lin_threads.proofs.RunLemmas.{advances_quiet}
use Rattle.lin_threads.proofs.NodeLemmas.{by_list_kept}
use Rattle.lin_threads.proofs.StateLemmas.{lent_count, receipts_wired, settled_receipt, zip_join}
use Rattle.lin_threads.proofs.runs.run.Goals as goal

pub settle_all-requires-clause-wired : goal.settle_all-requires-clause-wired
settle_all-requires-clause-wired g c =
    let p = c.args.players in
    let driven = c.in_default-drive.ensures in
    receipts_wired c.drive.new.pump p.hosts.items p.nodes.items c.join_all.new.receipts.items (driven.advances.pump.ports ∙ c.requires.ports)
    (subst (λ (ports : List PortState). AllZip IsReceiptFrom ports c.join_all.new.receipts.items) driven.lent c.join_all.ensures.receipts)

pub returns-clause-advances : goal.returns-clause-advances
returns-clause-advances g c =
    advances_quiet c.args.pump.now c.drive.new.pump c.settle_all.new.pump (bus_steps c.args.plan.hurt.items c.args.plan.slots) c.in_default-drive.ensures.advances c.in_ok-settle_all.ensures.advances

pub returns-clause-receipts : goal.returns-clause-receipts
returns-clause-receipts g c =
    let p = c.args.players in
    let pump = c.settle_all.new.pump in
    zip_join IsReceiptFrom (IsSettledAs pump) (IsSettledReceipt (since pump)) (handed_in p.hosts.items p.nodes.items) c.join_all.new.receipts.items c.settle_all.new.settled.items (settled_receipt pump)
    (subst (λ (ports : List PortState). AllZip IsReceiptFrom ports c.join_all.new.receipts.items) c.in_default-drive.ensures.lent c.join_all.ensures.receipts) c.in_ok-settle_all.ensures.settled

pub returns-clause-lists : goal.returns-clause-lists
returns-clause-lists g c =
    let p = c.args.players in
    zip_join IsByList (IsSettledAs c.settle_all.new.pump) IsByList (no_lists p.hosts.items ++ node_lists p.nodes.items c.args.plan.leave.items) c.join_all.new.receipts.items c.settle_all.new.settled.items
    (λ own r s h k. by_list_kept own r s h k.same) (rw c.in_default-drive.ensures.lists at c.join_all.ensures.lists) c.in_ok-settle_all.ensures.settled

pub returns-clause-ended : goal.returns-clause-ended
returns-clause-ended g c =
    let p = c.args.players in
    let threads = c.drive.new.threads in
    let count = lent_count threads.items p.hosts.items p.nodes.items c.in_default-drive.ensures.lent in
    let a = threads.ok in
    let b = p.hosts.ok in
    omega (arith, c.truncate.ensures.len, c.join_all.ensures.ended, c.requires.tasks)

pub join_all-requires-clause-room : goal.join_all-requires-clause-room
join_all-requires-clause-room g c =
    let p = c.args.players in
    let threads = c.drive.new.threads in
    let count = lent_count threads.items p.hosts.items p.nodes.items c.in_default-drive.ensures.lent in
    let a = threads.ok in
    let b = p.hosts.ok in
    let n = p.nodes.ok in (
      omega (arith, c.in_ok-receipts.ensures.capacity, c.len.ensures, c.len-2.ensures),
      omega (arith, c.in_ok-ended.ensures.capacity, c.len.ensures, c.len-2.ensures),
    )

pub settle_all-requires-clause-room : goal.settle_all-requires-clause-room
settle_all-requires-clause-room g c =
    let p = c.args.players in
    let threads = c.drive.new.threads in
    let count = lent_count threads.items p.hosts.items p.nodes.items c.in_default-drive.ensures.lent in
    let a = threads.ok in
    let b = p.hosts.ok in
    let n = p.nodes.ok in
    omega (arith, c.in_ok-settled.ensures.capacity, c.join_all.ensures.count, c.len.ensures, c.len-2.ensures)
