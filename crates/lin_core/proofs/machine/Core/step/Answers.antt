use Rattle.std.proofs.Common.{refl, ◌≡◌, ◌<◌, ◌-◌, ◌^◌, length, List, [], ◌∷◌, ◌++◌, ap, sym, ◌∙◌, subst, arith, length-append}
use Rattle.lin_core.specs.Core.{entry_with_reply, past_of, CoreData, IsRefused}
use Rattle.lin_core.specs.kept.State.{stage_data, IsConsistent, IsExecuted, IsStepReady, Stage, stage}
use Rattle.lin_core.specs.Replies.{refusal}
use Rattle.lin_core.specs.declared.log.LogEntry.{LogEntry}
use Rattle.lin_core.specs.declared.port.PortId.{PortId}
use Rattle.lin_core.specs.declared.reply.Refusal.{Refusal}
use Rattle.lin_core.specs.declared.step.Step.{Step}
use Rattle.lin_core.proofs.kept.Entries.{reverse-more, history-more}
use Rattle.lin_core.proofs.kept.Keeping.{refused_entry, refused-answered, refused-keeps}
use Rattle.lin_core.proofs.kept.BusAndSenders.{refused-late}
use Rattle.lin_core.proofs.steps.Allowed.{made-answered, made-kept}
use Rattle.lin_core.proofs.steps.Making.{known-inside, past_in}
use Rattle.lin_core.proofs.kept.Receiving.{heard-same}
use Rattle.lin_core.proofs.machine.Core.step.Goals.{After-push, in-Some, in-None+in-Ok}
use Rattle.lin_core.proofs.machine.Core.step.Goals as goal

refused-kept : (a : Stage) (by : PortId) (step : Step) (r : Refusal) (log : List LogEntry) → IsConsistent a → length a.log < 2 ^ 32 - 1 → IsRefused (stage_data a) by step r → log ≡ a.log ++ refused_entry by step r ∷ [] → IsConsistent (record a { log = log })
refused-kept a by step r log w small is e =
    let x : LogEntry = refused_entry by step r
    in rw e (record {
      few = rw length-append (omega arith);
      rules = w.rules;
      sound = w.sound;
      opening = w.opening;
      kept = rw (reverse-more a.log x) (refused-keeps a.cluster a.opening a.capacity a.log (past_in a) a.state.slot a.state.time a.state.walker a.state.hosts.items a.state.signals by step r w.kept);
      late = rw (reverse-more a.log x) (refused-late a.cluster (past_in a) by step r a.state.bus a.state.hosts.items w.sound (known-inside a w) w.late);
      heard = rw (reverse-more a.log x) (heard-same a.cluster (past_in a) (x ∷ past_in a) a.state.receivers.items (λ l i. refl) w.heard);
      ready = rw (reverse-more a.log x) w.ready;
      history = rw (refused-answered (stage_data a) by step r is) (history-more (stage_data a) by step w.history);
    })

-- where the step is made
abbrev at_step : After-push → Stage
at_step c = stage c.self.inside.setup c.self.inside.log c.self.inside.state

small : (c : After-push) → length (at_step c).log < 2 ^ 32 - 1
small c = let len = c.len.ensures.len in let below = c.if-len-ge-MOST_ENTRIES.false in omega arith

-- why the step is refused, if it is
refusal_is : (c : After-push) → c.refusal_of-refusal.result ≡ refusal (at_step c).cluster (at_step c).capacity (past_in (at_step c)) c.args.by c.args.step
refusal_is c = subst (λ (d : CoreData). c.refusal_of-refusal.result ≡ refusal d.cluster d.capacity (past_of d) c.args.by c.args.step) (sym c.self.view_is) c.refusal_of-refusal.ensures

-- the entry that is pushed
abbrev entry : After-push → LogEntry
entry c = record { port = c.args.by; step = c.args.step; reply = c.match-refusal.reply }

pushed : (c : After-push) → c.match-refusal.self-inside.log.entries ≡ (at_step c).log → c.push.new.self.entries ≡ (at_step c).log ++ entry c ∷ []
pushed c same = c.push.ensures ∙ ap (λ (log : List LogEntry). log ++ entry c ∷ []) same

-- what is inside once the entry is pushed
record Stepped (c : After-push) : Type 0 where
  setup : c.match-refusal.self-inside.setup ≡ c.self.inside.setup
  log : c.match-refusal.self-inside.log.entries ≡ (at_step c).log
  answered_is : entry c ≡ entry_with_reply (stage_data (at_step c)) c.args.by c.args.step
  kept : (log : List LogEntry) → log ≡ (at_step c).log ++ entry c ∷ [] → IsConsistent (record (at_step c) { log = log; state = c.match-refusal.self-inside.state })

stepped : (c : After-push) → Stepped c
stepped c = elim c.match-refusal.branch [
  | in-Some w ↦
      let is : IsRefused (stage_data (at_step c)) c.args.by c.args.step w.in-Some.refusal = sym (refusal_is c) ∙ w.in-Some.is
      in record {
        setup = rw w.self-inside-is refl;
        log = rw w.self-inside-is c.make_room.ensures.entries;
        answered_is = rw w.reply-is (refused-answered (stage_data (at_step c)) c.args.by c.args.step w.in-Some.refusal is);
        kept = λ log e. rw w.self-inside-is (refused-kept (at_step c) c.args.by c.args.step w.in-Some.refusal log c.self.invariant (small c) is (rw w.reply-is at e));
      }
  | in-None+in-Ok w ↦
      let ready : IsStepReady (at_step c) c.args.by c.args.step = record { whole = c.self.invariant; allowed = sym (refusal_is c) ∙ w.in-None.is; few = small c }
      in let made : IsExecuted (at_step c) c.args.by c.args.step w.in-Ok.events w.make.new.self
      = subst (λ (log : List LogEntry). IsExecuted (record (at_step c) { log = log }) c.args.by c.args.step w.in-Ok.events w.make.new.self) c.make_room.ensures.entries w.in-Ok.ensures.makes
      in record {
        setup = rw w.self-inside-is refl;
        log = rw w.self-inside-is c.make_room.ensures.entries;
        answered_is = rw w.reply-is (made-answered (at_step c) c.args.by c.args.step w.in-Ok.events w.make.new.self ready made);
        kept = λ log e. rw w.self-inside-is (made-kept (at_step c) c.args.by c.args.step w.in-Ok.events w.make.new.self log ready made (rw w.reply-is at e));
      }
]

pub invariant_of-self-2 : goal.invariant_of-self-2
invariant_of-self-2 c = let s = stepped c in rw s.setup (s.kept c.push.new.self.entries (pushed c s.log))

pub returns-clause-stepped : goal.returns-clause-stepped
returns-clause-stepped c =
    let s = stepped c in (
      subst (λ (d : CoreData). c.push.new.self.entries ≡ d.log ++ entry_with_reply d c.args.by c.args.step ∷ []) c.self.view_is (pushed c s.log ∙ ap (λ (e : LogEntry). (at_step c).log ++ e ∷ []) s.answered_is),
      (rw s.setup (ap (λ (d : CoreData). d.cluster) c.self.view_is), rw s.setup (ap (λ (d : CoreData). d.opening) c.self.view_is), rw s.setup (ap (λ (d : CoreData). d.capacity) c.self.view_is)),
    )
