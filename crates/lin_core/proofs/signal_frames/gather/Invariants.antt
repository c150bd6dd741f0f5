use Rattle.std.proofs.Common.{◌≡◌, ◌≤◌, ℕ, length, map, take, vec_capacity}
use Rattle.lin_frame.specs.declared.value.Value.{Value}
use Rattle.lin_core.specs.Signals.{ArePointwise}
use Rattle.lin_core.proofs.signal_frames.gather.Given as goal

abbrev pub invariant-loop-signal : goal.invariant-loop-signal
invariant-loop-signal l = record {
  values : (g : ℕ → Value) → ArePointwise g l.values → l.room.items ≡ map g (take l.signal-index l.signals);
  count : length l.room.items ≡ l.signal-index;
  enough : length l.signals ≤ vec_capacity l.room;
  grown : vec_capacity l.fn.room ≤ vec_capacity l.room;
}
