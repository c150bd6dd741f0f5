use Rattle.std.proofs.Common.{refl, ◌∷◌}
use Rattle.lin_core.specs.kept.State.{done_of, stage}
use Rattle.lin_core.specs.declared.step.Step.TheVariants.{Write}
use Rattle.lin_core.proofs.kept.Keeping.{write-keeps}
use Rattle.lin_core.proofs.kept.BusAndSenders.{write-late}
use Rattle.lin_core.proofs.steps.Making.{known-inside, past_in}
use Rattle.lin_core.proofs.kept.Receiving.{heard-same}
use Rattle.lin_core.proofs.state.State.write.Goals as goal

pub returns : goal.returns
returns c =
    let a = stage c.args.setup.now c.args.log.now c.args.self.now in
    let w = c.requires.whole in
    let k = known-inside a w in
    record {
      told = c.no_events.ensures;
      kept = write-keeps a.cluster a.opening a.capacity a.log (past_in a) a.state.slot a.state.time a.state.walker a.state.hosts.items a.state.signals c.write.new.self c.args.by c.args.written.node c.args.written.signal c.args.written.value.now
          w.sound k c.requires.allowed
          (record { values = c.write.ensures.values; heard = c.write.ensures.heard; room = c.write.ensures.room; count = c.write.ensures.frames; pending = c.write.ensures.pending }) w.kept;
      late = write-late a.cluster (past_in a) c.args.by c.args.written.node c.args.written.signal c.args.written.value.now a.state.bus a.state.hosts.items w.sound k w.late;
      heard = heard-same a.cluster (past_in a) (done_of a c.args.by (Write c.args.written.node c.args.written.signal c.args.written.value.now) ∷ past_in a) a.state.receivers.items (λ l i. refl) w.heard;
      ready = w.ready;
    }
