use Rattle.std.proofs.Common.{◌≡◌, ℕ, [], length}
use Rattle.std.specs.Prelude.{slice_get, Some}
use Rattle.lin_core.specs.kept.Receivers.{receiver_in, KeepsReceiver}
use Rattle.lin_core.specs.Replies.{link_at}
use Rattle.lin_core.specs.declared.link.Direction.{Direction}
use Rattle.lin_core.specs.declared.receivers.Receivers.{Receivers}
use Rattle.lin_core.proofs.receivers.fresh_receivers.Given as goal

abbrev pub invariant-loop-node : goal.invariant-loop-node
invariant-loop-node l = record {
  count : length l.made.items ≡ l.node;
  each : (h : ℕ) (rs : Receivers) (d : Direction) → slice_get l.made.items h ≡ Some rs → KeepsReceiver l.fn.cluster [] (link_at h d) (receiver_in d rs);
}
