use Rattle.std.proofs.Common.{refl, ◌∙◌, arith}
use Rattle.lin_core.proofs.kept.Keeping.{start-keeps}
use Rattle.lin_core.proofs.kept.BusAndSenders.{start-late}
use Rattle.lin_core.proofs.kept.SignalKeeping.{start-signals}
use Rattle.lin_core.proofs.machine.Core.new.Goals as goal

pub invariant_of-result : goal.invariant_of-result
invariant_of-result c = record {
  few = rw c.new-2.ensures (omega arith);
  rules = c.sound.ensures.rules;
  sound = c.sound.ensures.sound;
  opening = c.requires.table;
  kept = rw (c.new-2.ensures, c.new-3.ensures) (start-keeps c.args.cluster c.args.table c.args.capacity c.new-4.result c.in_ok-hosts.hosts.items c.in_ok-signals.signals
      (c.new-4.ensures.stands c.args.cluster) (c.new-4.ensures.walks c.args.cluster c.sound.ensures.rules c.requires.table) (c.in_ok-hosts.ensures.count ∙ c.nodes.ensures.number) c.in_ok-hosts.ensures.fresh
      (start-signals c.args.cluster c.in_ok-signals.signals c.sound.ensures.rules c.in_ok-signals.ensures.values c.in_ok-signals.ensures.heard c.in_ok-signals.ensures.pending c.in_ok-signals.ensures.empty c.in_ok-signals.ensures.room));
  late = rw c.new-2.ensures (start-late c.args.cluster c.args.capacity _ c.in_ok-hosts.hosts.items refl c.in_ok-hosts.ensures.fresh);
  heard = rw c.new-2.ensures c.in_ok-receivers.ensures;
  ready = rw (c.new-2.ensures, c.new-5.ensures) (refl, omega arith);
  history = rw c.new-2.ensures refl;
}
