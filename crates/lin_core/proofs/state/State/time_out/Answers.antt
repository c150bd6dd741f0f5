use Rattle.std.proofs.Common.{◌≡◌, ◌∷◌, ◌∙◌, sym, arith}
use Rattle.std.specs.Prelude.{List, Some, slice_get, slice_set}
use Rattle.std.proofs.lemmas.Option.{slice_get_read}
use Rattle.lin_parts.specs.Cluster.{nodes}
use Rattle.lin_core.specs.kept.Receivers.{KeepsHeard}
use Rattle.lin_core.proofs.kept.Receiving.{timeout-heard}
use Rattle.lin_core.specs.Replies.{all_reports, quiet_entry}
use Rattle.lin_core.specs.kept.State.{Stage, stage}
use Rattle.lin_core.specs.declared.event.Event.{Event}
use Rattle.lin_core.specs.declared.log.LogEntry.{LogEntry}
use Rattle.lin_core.specs.declared.step.Step.TheVariants.{Timeout}
use Rattle.lin_core.proofs.kept.Keeping.{done_entry}
use Rattle.lin_core.proofs.steps.Making.{Allowed, allowed-ready, past_in}
use Rattle.lin_core.proofs.steps.Timeouts.{TimesOut, times-out, timeout-keeps, timeout-late}
use Rattle.lin_core.proofs.state.State.time_out.Goals.{After-one}
use Rattle.lin_core.proofs.state.State.time_out.Goals as goal

abbrev here : After-one → Stage
here c = stage c.args.setup.now c.args.log.now c.args.self.now

pub overflow_add-number : goal.overflow_add-number
overflow_add-number c =
    let a = stage c.args.setup.now c.args.log.now c.args.self.now in
    let n = allowed-ready a c.args.by (Timeout c.args.link.node c.args.link.dir) c.requires in
    let o = times-out a c.args.by c.args.link.node c.args.link.dir c.index_mut-kept.result.now c.requires.whole n (rw (← c.sender-host.ensures) c.index_mut-kept.ensures.value) in
    let small = o.small in
    omega arith

pub settle-requires : goal.settle-requires
settle-requires c =
    let a = stage c.args.setup.now c.args.log.now c.args.self.now in
    let n = allowed-ready a c.args.by (Timeout c.args.link.node c.args.link.dir) c.requires in
    let o = times-out a c.args.by c.args.link.node c.args.link.dir c.index_mut-kept.result.now c.requires.whole n (rw (← c.sender-host.ensures) c.index_mut-kept.ensures.value) in
    let small = o.small in
    omega arith

pub index_mut-requires : goal.index_mut-requires
index_mut-requires c =
    let a = stage c.args.setup.now c.args.log.now c.args.self.now in
    let w = c.requires.whole in
    let n = allowed-ready a c.args.by (Timeout c.args.link.node c.args.link.dir) c.requires in
    let o = times-out a c.args.by c.args.link.node c.args.link.dir c.index_mut-kept.result.now w n (rw (← c.sender-host.ensures) c.index_mut-kept.ensures.value) in
    let there = o.there in
    let count = w.heard.count in
    omega arith

allowed : (c : After-one) → Allowed (here c) c.args.by (Timeout c.args.link.node c.args.link.dir)
allowed c = allowed-ready (here c) c.args.by (Timeout c.args.link.node c.args.link.dir) c.requires

out : (c : After-one) → TimesOut (here c) c.args.by c.args.link.node c.args.link.dir c.index_mut-kept.result.now
out c = times-out (here c) c.args.by c.args.link.node c.args.link.dir c.index_mut-kept.result.now c.requires.whole (allowed c) (rw (← c.sender-host.ensures) c.index_mut-kept.ensures.value)

abbrev events : (c : After-one) → List Event
events c = all_reports (here c).cluster (quiet_entry c.args.by (Timeout c.args.link.node c.args.link.dir)) (past_in (here c))

abbrev entry : (c : After-one) → LogEntry
entry c = done_entry c.args.by (Timeout c.args.link.node c.args.link.dir) (events c)

told : (c : After-one) → c.one.result ≡ events c
told c = c.one.ensures ∙ rw c.sender-host.ensures (out c).told

heard : (c : After-one) → KeepsHeard (here c).cluster (entry c ∷ past_in (here c)) (slice_set (here c).state.receivers.items c.args.link.node c.reset.new.self)
heard c =
    let a = here c in
    let w = c.requires.whole in
    let o = out c in
    let there = o.there in
    let count = w.heard.count in
    let was = c.index_mut.result.now in
    let there_is : slice_get a.state.receivers.items c.args.link.node ≡ Some was = slice_get_read a.state.receivers.items (nodes a.cluster) c.args.link.node was (sym count) there c.index_mut.ensures.value in
    timeout-heard a.cluster (past_in a) c.args.by c.args.link.node c.args.link.dir (events c) a.state.receivers.items was c.reset.new.self there_is o.address c.reset.ensures.own c.reset.ensures.other w.heard

pub returns : goal.returns
returns c =
    let a = here c in
    let w = c.requires.whole in
    let o = out c in
    record {
      told = told c;
      kept = rw (c.sender-host.ensures, c.settle.ensures)
          (timeout-keeps a.cluster a.opening a.capacity a.log (past_in a) a.state.slot a.state.time a.state.walker a.state.hosts.items a.state.signals c.index_mut-kept.result.now c.args.by c.args.link.node c.args.link.dir (events c)
          w.sound o.known o.none o.here (o.settles (events c)) w.kept);
      late = rw (c.sender-host.ensures, c.settle.ensures)
          (timeout-late a.cluster (past_in a) a.state.bus a.state.hosts.items c.index_mut-kept.result.now c.args.by c.args.link.node c.args.link.dir (events c) w.sound o.known o.none o.here (o.settles (events c)) w.late);
      heard = heard c;
      ready = c.requires.whole.ready;
    }
