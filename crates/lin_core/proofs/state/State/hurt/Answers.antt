use Rattle.std.proofs.Common.{refl, ◌∷◌, ap}
use Rattle.std.specs.Prelude.{is_some}
use Rattle.lin_core.specs.kept.State.{done_of, stage}
use Rattle.lin_core.specs.declared.step.Step.TheVariants.{Hurt}
use Rattle.lin_core.proofs.kept.BusAndSenders.{hurt-keeps, hurt-late}
use Rattle.lin_core.proofs.steps.Allowed.{hurt-inside}
use Rattle.lin_core.proofs.steps.Making.{allowed-ready, known-inside, past_in}
use Rattle.lin_core.proofs.kept.Receiving.{heard-same}
use Rattle.lin_core.proofs.state.State.hurt.Goals as goal

pub hurt-requires : goal.hurt-requires
hurt-requires c =
    let a = stage c.args.setup.now c.args.log.now c.args.self.now in
    ap is_some (hurt-inside a c.args.by c.args.bytes.now c.requires.whole (allowed-ready a c.args.by (Hurt c.args.bytes.now) c.requires)).at

pub returns : goal.returns
returns c =
    let a = stage c.args.setup.now c.args.log.now c.args.self.now in
    let w = c.requires.whole in
    let k = known-inside a w in
    let o = hurt-inside a c.args.by c.args.bytes.now w (allowed-ready a c.args.by (Hurt c.args.bytes.now) c.requires) in
    record {
      told = c.no_events.ensures;
      kept = rw (c.hurt.ensures o.slot o.at)
          (hurt-keeps a.cluster a.opening a.capacity a.log (past_in a) o.slot a.state.time a.state.walker a.state.hosts.items a.state.signals c.args.by c.args.bytes.now w.sound k o.kept);
      late = hurt-late a.cluster (past_in a) c.args.by c.args.bytes.now a.state.bus a.state.hosts.items w.sound k w.late;
      heard = heard-same a.cluster (past_in a) (done_of a c.args.by (Hurt c.args.bytes.now) ∷ past_in a) a.state.receivers.items (λ l i. refl) w.heard;
      ready = w.ready;
    }
