use Rattle.std.proofs.Common.{◌≡◌, refl, ◌∷◌, ◌∙◌, ap, sym}
use Rattle.std.specs.Prelude.{Some, is_some}
use Rattle.lin_core.specs.kept.State.{done_of, stage}
use Rattle.lin_core.specs.declared.step.Step.TheVariants.{Leave}
use Rattle.lin_core.proofs.kept.BusAndSenders.{leave-keeps, leave-late}
use Rattle.lin_core.proofs.steps.Allowed.{leave-inside, leave-room}
use Rattle.lin_core.proofs.steps.Making.{allowed-ready, known-inside, past_in}
use Rattle.lin_core.proofs.kept.Receiving.{heard-same}
use Rattle.lin_core.proofs.state.State.leave.Goals as goal

pub leave-requires-clause-open : goal.leave-requires-clause-open
leave-requires-clause-open c =
    let a = stage c.args.setup.now c.args.log.now c.args.self.now in
    ap is_some (leave-inside a c.args.by c.args.node c.requires.whole (allowed-ready a c.args.by (Leave c.args.node) c.requires)).at

pub leave-requires-clause-room : goal.leave-requires-clause-room
leave-requires-clause-room c =
    let a = stage c.args.setup.now c.args.log.now c.args.self.now in
    let n = allowed-ready a c.args.by (Leave c.args.node) c.requires in
    let o = leave-inside a c.args.by c.args.node c.requires.whole n in
    λ kept at. let r = leave-room a c.args.by c.args.node o n in let same : Some o.slot ≡ Some kept = sym o.at ∙ at in let e : o.slot ≡ kept = cc in rw (← e) r

pub returns : goal.returns
returns c =
    let a = stage c.args.setup.now c.args.log.now c.args.self.now in
    let w = c.requires.whole in
    let k = known-inside a w in
    let o = leave-inside a c.args.by c.args.node w (allowed-ready a c.args.by (Leave c.args.node) c.requires) in
    record {
      told = c.no_events.ensures;
      kept = rw (c.leave.ensures o.slot o.at)
          (leave-keeps a.cluster a.opening a.capacity a.log (past_in a) o.slot a.state.time a.state.walker a.state.hosts.items a.state.signals c.args.by c.args.node w.sound k c.requires.allowed o.is o.kept);
      late = leave-late a.cluster (past_in a) c.args.by c.args.node a.state.bus a.state.hosts.items w.sound k w.late;
      heard = heard-same a.cluster (past_in a) (done_of a c.args.by (Leave c.args.node) ∷ past_in a) a.state.receivers.items (λ l i. refl) w.heard;
      ready = w.ready;
    }
