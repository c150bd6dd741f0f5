use Rattle.std.proofs.Common.{◌≡◌, ◌<◌, ◌≤◌, ℕ}
use Rattle.std.specs.Prelude.{slice_get, Some}
use Rattle.lin_core.specs.kept.Receivers.{HaveHeardAlike}
use Rattle.lin_core.specs.declared.receivers.Receivers.{Receivers}
use Rattle.lin_core.proofs.receivers.make_room_in_all.Given as goal

abbrev pub invariant-loop-node : goal.invariant-loop-node
invariant-loop-node l = record {
  alike : HaveHeardAlike l.fn.receivers.items l.receivers.items;
  room : (h : ℕ) (r : Receivers) → h < l.node → slice_get l.receivers.items h ≡ Some r → 1 ≤ r.down.spare;
}
