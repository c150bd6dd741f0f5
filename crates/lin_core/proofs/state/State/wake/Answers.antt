use Rattle.std.proofs.Common.{refl, ◌∷◌}
use Rattle.lin_core.specs.Slots.{moves}
use Rattle.lin_core.specs.kept.State.{done_of, stage}
use Rattle.lin_core.specs.declared.step.Step.TheVariants.{Wake}
use Rattle.lin_core.proofs.kept.BusAndSenders.{wake-keeps, wake-late}
use Rattle.lin_core.proofs.steps.Making.{known-inside, past_in}
use Rattle.lin_core.proofs.kept.Receiving.{heard-same}
use Rattle.lin_core.proofs.state.State.wake.Goals as goal

pub returns : goal.returns
returns c =
    let a = stage c.args.setup.now c.args.log.now c.args.self.now in
    let w = c.requires.whole in
    let k = known-inside a w in
    record {
      told = c.no_events.ensures;
      kept = wake-keeps a.cluster a.opening a.capacity a.log (past_in a) a.state.slot a.state.time a.state.walker c.restart.new.self a.state.hosts.items a.state.signals c.args.by w.sound k
          (c.restart.ensures.stands a.cluster a.opening (moves (past_in a)) w.kept.stands) (c.restart.ensures.walks a.cluster w.kept.walks) w.kept;
      late = wake-late a.cluster (past_in a) c.args.by a.state.bus a.state.hosts.items w.sound k w.late;
      heard = heard-same a.cluster (past_in a) (done_of a c.args.by Wake ∷ past_in a) a.state.receivers.items (λ l i. refl) w.heard;
      ready = w.ready;
    }
