use Rattle.std.proofs.Common.{refl, ◌∷◌}
use Rattle.lin_core.specs.kept.State.{done_of, stage}
use Rattle.lin_core.specs.declared.step.Step.TheVariants.{Close}
use Rattle.lin_core.proofs.kept.BusAndSenders.{close-keeps, close-late}
use Rattle.lin_core.proofs.steps.Allowed.{closed-host}
use Rattle.lin_core.proofs.steps.Making.{allowed-ready, known-inside, past_in}
use Rattle.lin_core.proofs.kept.Receiving.{heard-same}
use Rattle.lin_core.proofs.state.State.close.Goals as goal

pub returns : goal.returns
returns c =
    let a = stage c.args.setup.now c.args.log.now c.args.self.now in
    let w = c.requires.whole in
    let k = known-inside a w in
    let here = closed-host a c.args.by c.args.host c.index_mut.result.now w (allowed-ready a c.args.by (Close c.args.host) c.requires) c.index_mut.ensures.value in
    record {
      told = c.no_events.ensures;
      kept = close-keeps a.cluster a.opening a.capacity a.log (past_in a) a.state.slot a.state.time a.state.walker a.state.hosts.items a.state.signals c.index_mut.result.now c.args.by c.args.host w.sound k here w.kept;
      late = close-late a.cluster (past_in a) c.args.by c.args.host c.index_mut.result.now a.state.bus a.state.hosts.items w.sound k here w.late;
      heard = heard-same a.cluster (past_in a) (done_of a c.args.by (Close c.args.host) ∷ past_in a) a.state.receivers.items (λ l i. refl) w.heard;
      ready = w.ready;
    }
