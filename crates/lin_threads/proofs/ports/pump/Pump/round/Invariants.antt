use Rattle.std.proofs.Common.{◌≡◌, vec_len}
use Rattle.lin_threads.specs.Lanes.{FirstTold}
use Rattle.lin_threads.specs.Pumps.{KeepsPump, since}
use Rattle.lin_threads.specs.Settled.{StaysSettled}
use Rattle.lin_threads.proofs.ports.pump.Pump.round.Given as goal

abbrev pub invariant-loop-i : goal.invariant-loop-i
invariant-loop-i l = record {
  pump : KeepsPump l.fn.self l.self;
  count : l.count ≡ vec_len l.self.lanes;
  core : l.self.core ≡ l.initial.self.core;
  stays : StaysSettled l.fn.self l.self;
  told : FirstTold l.i (since l.self) l.self.lanes.items;
}
