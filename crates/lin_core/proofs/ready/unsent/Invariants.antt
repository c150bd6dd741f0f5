use Rattle.std.proofs.Common.{◌≡◌, ◌≤◌, length, take}
use Rattle.std.specs.Prelude.{filter, not}
use Rattle.lin_core.specs.Slots.{has_put}
use Rattle.lin_core.specs.kept.Slots.{slot_in}
use Rattle.lin_core.proofs.ready.unsent.Given as goal

abbrev pub invariant-loop-response : goal.invariant-loop-response
invariant-loop-response l = record {
  left : l.left.items ≡ filter (λ r. not (has_put (slot_in l.slot) r.node)) (take l.response-index l.ready);
  few : length l.left.items ≤ l.response-index;
}
