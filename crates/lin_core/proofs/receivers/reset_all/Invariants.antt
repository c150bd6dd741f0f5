use Rattle.std.proofs.Common.{◌≡◌, ◌<◌, ◌≤◌, ℕ, length}
use Rattle.std.specs.Prelude.{slice_get, Some}
use Rattle.lin_core.specs.kept.Receivers.{AreReset}
use Rattle.lin_core.specs.declared.receivers.Receivers.{Receivers}
use Rattle.lin_core.proofs.receivers.reset_all.Given as goal

abbrev pub invariant-loop-node : goal.invariant-loop-node
invariant-loop-node l = record {
  count : length l.receivers.items ≡ length l.fn.receivers.items;
  before : (h : ℕ) (old new : Receivers) → h < l.node → slice_get l.fn.receivers.items h ≡ Some old → slice_get l.receivers.items h ≡ Some new → AreReset old new;
  after : (h : ℕ) → l.node ≤ h → slice_get l.receivers.items h ≡ slice_get l.fn.receivers.items h;
}
