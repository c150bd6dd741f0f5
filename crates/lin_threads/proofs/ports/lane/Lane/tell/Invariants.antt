use Rattle.std.proofs.Common.{◌≡◌, ℕ}
use Rattle.lin_threads.specs.Lanes.{Serves, SameLane}
use Rattle.lin_threads.proofs.ports.lane.Lane.tell.Given as goal

abbrev pub invariant-loop-at : goal.invariant-loop-at
invariant-loop-at l = record {
  same : SameLane l.initial.self l.self;
  seen : l.self.seen ≡ l.at;
  serves : (base : ℕ) → Serves base l.core.log l.initial.self → Serves base l.core.log l.self;
}
