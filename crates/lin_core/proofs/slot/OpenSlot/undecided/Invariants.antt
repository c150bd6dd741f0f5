use Rattle.std.proofs.Common.{◌≡◌, ◌≤◌, not, length, filter, take}
use Rattle.lin_core.specs.History.{has_decided}
use Rattle.lin_core.specs.kept.Slots.{slot_in}
use Rattle.lin_core.proofs.slot.OpenSlot.undecided.Given as goal

abbrev pub invariant-loop-node : goal.invariant-loop-node
invariant-loop-node l = record {
  counted : l.count ≡ length (filter (λ n. not (has_decided (slot_in l.self) n)) (take l.node-index l.due));
  few : l.count ≤ l.node-index;
}
