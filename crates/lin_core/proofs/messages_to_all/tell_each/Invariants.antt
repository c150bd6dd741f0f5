use Rattle.std.proofs.Common.{◌≡◌, ◌<◌, ◌≤◌, ◌+◌, ◌++◌, ℕ, List, length, true, vec_capacity}
use Rattle.std.specs.Prelude.{Some, is_some, slice_get}
use Rattle.lin_parts.specs.Cluster.{nad}
use Rattle.lin_transport.specs.Transport.{Heard}
use Rattle.lin_core.specs.kept.Hosts.{told_to_all}
use Rattle.lin_core.specs.kept.Receivers.{Completes, HearsToo}
use Rattle.lin_core.specs.declared.receivers.Receivers.{Receivers}
use Rattle.lin_core.proofs.messages_to_all.tell_each.Given as goal

abbrev pub invariant-loop-node : goal.invariant-loop-node
invariant-loop-node l = record {
  count : length l.receivers.items ≡ length l.fn.receivers.items;
  before : (h : ℕ) (was is : Receivers) → h < l.node → slice_get l.fn.receivers.items h ≡ Some was → slice_get l.receivers.items h ≡ Some is → is_some (nad l.setup.cluster h) ≡ true → HearsToo l.frame was is;
  after : (h : ℕ) → l.node ≤ h → slice_get l.receivers.items h ≡ slice_get l.fn.receivers.items h;
  told : (heard : ℕ → List Heard) (m : List ℕ) → ((h : ℕ) (r : Receivers) → slice_get l.fn.receivers.items h ≡ Some r → is_some (nad l.setup.cluster h) ≡ true → Completes l.frame m r.down (heard h))
      → l.events.items ≡ l.fn.events.items ++ told_to_all l.setup.cluster m l.node;
  few : length l.events.items ≤ length l.fn.events.items + l.node;
  room : vec_capacity l.fn.events ≤ vec_capacity l.events;
}
