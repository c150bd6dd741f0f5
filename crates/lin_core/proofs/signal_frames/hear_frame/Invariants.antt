use Rattle.std.proofs.Common.{◌≡◌, ◌≤◌, ℕ, length, drop}
use Rattle.std.specs.Prelude.{option_map, find, zip, ◌==◌}
use Rattle.std.specs.Option.{unwrap_or}
use Rattle.lin_frame.specs.Bits.{unpacked_value}
use Rattle.lin_frame.specs.declared.layout.Place.{Place}
use Rattle.lin_frame.specs.declared.value.Value.{Value}
use Rattle.lin_core.specs.Signals.{ArePointwise}
use Rattle.lin_core.proofs.signal_frames.hear_frame.Given as goal

abbrev pub invariant-loop-left : goal.invariant-loop-left
invariant-loop-left l = record {
  count : length l.heard.items ≡ length l.fn.heard.items;
  few : l.left ≤ length l.signals;
  values : (g : ℕ → Value) → ArePointwise g l.fn.heard.items
      → ArePointwise (λ s. unwrap_or (option_map (λ (p : ℕ × Place). unpacked_value p.1 l.data) (find (λ (p : ℕ × Place). p.0 == s) (zip (drop l.left l.signals) (drop l.left l.layout.places)))) (g s)) l.heard.items;
}

abbrev pub decreases-loop-left : goal.decreases-loop-left
decreases-loop-left l = l.left
