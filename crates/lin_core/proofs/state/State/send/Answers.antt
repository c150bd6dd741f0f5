use Rattle.lin_core.specs.Links.{accepted_from}
use Rattle.lin_core.specs.declared.event.Event.TheVariants.{Accepted}
use Rattle.std.proofs.Common.{suc, refl, ℕ, ◌≡◌, ◌+◌, length, [], ◌∷◌, ap, ◌∙◌, arith}
use Rattle.std.specs.Prelude.{slice_set}
use Rattle.lin_core.specs.kept.Hosts.{host_after_send}
use Rattle.lin_core.specs.kept.State.{done_of, Stage, stage}
use Rattle.lin_core.specs.declared.step.Step.TheVariants.{Send}
use Rattle.lin_core.proofs.kept.Keeping.{send-keeps}
use Rattle.lin_core.proofs.kept.BusAndSenders.{send-late}
use Rattle.lin_core.proofs.steps.Making.{Allowed, allowed-ready, Sender, sender-inside, past_in}
use Rattle.lin_core.proofs.kept.Receiving.{heard-same}
use Rattle.lin_core.proofs.state.State.send.Goals.{After-len, After-one}
use Rattle.lin_core.proofs.state.State.send.Goals as goal

abbrev here : After-one → Stage
here c = stage c.args.setup.now c.args.log.now c.args.self.now

sender-at : (c : After-len) → Sender (stage c.args.setup.now c.args.log.now c.args.self.now) c.args.sent.from c.index_mut-host.result.now
sender-at c =
    let a = stage c.args.setup.now c.args.log.now c.args.self.now in
    let s = allowed-ready a c.args.by (Send c.args.sent.from c.args.sent.to c.args.sent.message.now) c.requires in
    sender-inside a c.args.by c.args.sent.from c.args.sent.to c.args.sent.message.now c.index_mut-host.result.now c.requires.whole s c.index_mut-host.ensures.value

pub overflow_cast-number : goal.overflow_cast-number
overflow_cast-number c = let s = (sender-at c).number in let l = c.len.ensures.len in omega arith

pub overflow_add-number : goal.overflow_add-number
overflow_add-number c = let s = (sender-at c).number in let l = c.len.ensures.len in omega arith

pub overflow_add-number-2 : goal.overflow_add-number-2
overflow_add-number-2 c = let s = (sender-at c).number in let l = c.len.ensures.len in omega arith

pub accept-requires : goal.accept-requires
accept-requires c = (sender-at c).room

allowed : (c : After-one) → Allowed (here c) c.args.by (Send c.args.sent.from c.args.sent.to c.args.sent.message.now)
allowed c = allowed-ready (here c) c.args.by (Send c.args.sent.from c.args.sent.to c.args.sent.message.now) c.requires

sender : (c : After-one) → Sender (here c) c.args.sent.from c.index_mut-host.result.now
sender c = sender-inside (here c) c.args.by c.args.sent.from c.args.sent.to c.args.sent.message.now c.index_mut-host.result.now c.requires.whole (allowed c) c.index_mut-host.ensures.value

pub returns : goal.returns
returns c =
    let a = here c in
    let w = c.requires.whole in
    let host = c.index_mut-host.result.now in
    let s = sender c in
    let k = w.kept.each_host c.args.sent.from host s.at in
    let count = k.count in
    let l = c.len.ensures.len in
    let number : host.settled + c.len.result + 1 ≡ suc (length (accepted_from (past_in a) c.args.sent.from)) = omega arith in
    let queue : c.accept.new.self ≡ host_after_send host (length a.log) = c.accept.ensures ∙ ap (host_after_send host) c.len-place.ensures.len in
    record {
      told = c.one.ensures ∙ ap (λ (n : ℕ). Accepted c.args.sent.from n ∷ []) number;
      kept = send-keeps a.cluster a.opening a.capacity a.log (past_in a) a.state.slot a.state.time a.state.walker a.state.hosts.items _ a.state.signals host c.args.by c.args.sent.from c.args.sent.to c.args.sent.message.now (suc (length (accepted_from (past_in a) c.args.sent.from)))
          w.sound (allowed c).known (allowed c).allowed s.at (ap (slice_set a.state.hosts.items c.args.sent.from) queue) w.kept;
      late = send-late a.cluster a.capacity (past_in a) c.args.by c.args.sent.from c.args.sent.to c.args.sent.message.now _ (length a.log) host a.state.bus a.state.hosts.items _ w.sound (allowed c).known (allowed c).allowed s.at
          (ap (slice_set a.state.hosts.items c.args.sent.from) queue) w.late;
      heard = heard-same a.cluster (past_in a) (done_of a c.args.by (Send c.args.sent.from c.args.sent.to c.args.sent.message.now) ∷ past_in a) a.state.receivers.items (λ l i. refl) w.heard;
      ready = w.ready;
    }
