use Rattle.std.proofs.Common.{◌≡◌, ◌≤◌, vec_len}
use Rattle.lin_threads.specs.Pumps.{KeepsPump}
use Rattle.lin_threads.specs.Rounds.{AddsUpTo}
use Rattle.lin_threads.specs.Settled.{StaysSettled}
use Rattle.lin_threads.proofs.ports.pump.Pump.serve_all.Given as goal

abbrev pub invariant-loop-i : goal.invariant-loop-i
invariant-loop-i l = record {
  pump : KeepsPump l.fn.self l.self;
  adds : AddsUpTo l.i l.fn.self.core l.self.core l.steps;
  few : l.steps ≤ l.i;
  count : vec_len l.self.lanes ≡ vec_len l.fn.self.lanes;
  stays : StaysSettled l.fn.self l.self;
}
