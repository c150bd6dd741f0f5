use Rattle.std.proofs.Common.{refl, ◌≡◌, ◌<◌, ℕ, List, [], ◌∷◌, ◌++◌, length, ap, sym, ◌∙◌, subst}
use Rattle.std.specs.Prelude.{Option, Some, None, is_some}
use Rattle.std.specs.Option.{option_map_or}
use Rattle.lin_core.specs.History.{open_slot}
use Rattle.lin_core.specs.kept.State.{Keeps, Stage, stage}
use Rattle.lin_core.specs.Replies.{put_event}
use Rattle.lin_core.specs.Slots.{with_classic}
use Rattle.lin_core.specs.declared.event.Event.{Event}
use Rattle.lin_core.specs.declared.event.Event.TheVariants.{Put}
use Rattle.lin_core.specs.declared.log.LogEntry.{LogEntry}
use Rattle.lin_core.specs.declared.slot.OpenSlot.{OpenSlot}
use Rattle.lin_core.specs.declared.slot.Put.{Put as KeptPut}
use Rattle.lin_core.specs.declared.step.Step.TheVariants.{Answer}
use Rattle.lin_core.proofs.steps.Answering.{answer-slot, answered-by, header-there, request-answers}
use Rattle.lin_core.proofs.kept.Keeping.{done_entry, answer-keeps}
use Rattle.lin_core.proofs.kept.BusAndSenders.{answer-late}
use Rattle.lin_core.proofs.steps.Making.{allowed-ready, past_in}
use Rattle.lin_core.proofs.slots.Opening.{put-room, with_put}
use Rattle.lin_core.proofs.steps.Transporting.{AnswersNext, answers-next}
use Rattle.lin_core.proofs.kept.Receiving.{heard-same}
use Rattle.lin_core.proofs.state.State.answer_message.Goals.{After-one}
use Rattle.lin_core.proofs.state.State.answer_message.Goals as goal

abbrev here : After-one → Stage
here c = stage c.args.setup.now c.args.log.now c.args.self.now

next : (c : After-one) → AnswersNext (here c) c.args.by c.args.node c.index-host.result.now c.next-place.result c.header-header.result c.is_sleep_asked-sleeping.result
next c =
    answers-next (here c) c.args.by c.args.node c.index-host.result.now c.next-place.result c.header-header.result c.is_sleep_asked-sleeping.result c.requires.ready c.requires.plain c.requires.none
    c.index-host.ensures c.next-place.ensures c.open.result.now c.open.ensures c.header-header.ensures c.is_sleep_asked-sleeping.ensures

pub next_bytes-data-requires : goal.next_bytes-data-requires
next_bytes-data-requires c =
    let a = stage c.args.setup.now c.args.log.now c.args.self.now in
    let x = answers-next a c.args.by c.args.node c.index-host.result.now c.next-place.result c.header-header.result c.is_sleep_asked-sleeping.result c.requires.ready c.requires.plain c.requires.none
    c.index-host.ensures c.next-place.ensures c.open.result.now c.open.ensures c.header-header.ensures c.is_sleep_asked-sleeping.ensures in
    x.has

abbrev events : (c : After-one) → List Event
events c = option_map_or (put_event (here c).cluster (past_in (here c)) c.args.node) (open_slot (past_in (here c))) []

abbrev entry : (c : After-one) → LogEntry
entry c = done_entry c.args.by (Answer c.args.node) (events c)

abbrev put_of : (c : After-one) → KeptPut
put_of c = record { node = c.args.node; answer = c.answer-answer.result; cleared = None }

told : (c : After-one) → Put c.args.node c.answer-answer.result ∷ [] ≡ events c
told c = ap (λ (bytes : List ℕ). Put c.args.node bytes ∷ []) (c.answer-answer.ensures ∙ ap with_classic (c.next_bytes-data.ensures)) ∙ (next c).told

kept : (c : After-one) → Keeps (here c).cluster (here c).opening (here c).capacity ((here c).log ++ entry c ∷ []) (entry c ∷ past_in (here c)) c.put.new.self (here c).state.time (here c).state.walker (here c).state.hosts.items (here c).state.signals
kept c =
    let a = here c in
    let w = c.requires.ready.whole in
    let x = next c in
    let s = x.slot in
    let put : c.put.new.self ≡ Some (with_put s.slot (put_of c)) = c.put.ensures s.slot s.at in
    let keeps : Keeps a.cluster a.opening a.capacity a.log (past_in a) (Some s.slot) a.state.time a.state.walker a.state.hosts.items a.state.signals
    = subst (λ (o : Option OpenSlot). Keeps a.cluster a.opening a.capacity a.log (past_in a) o a.state.time a.state.walker a.state.hosts.items a.state.signals) s.at w.kept in
    rw put
    (answer-keeps a.cluster a.opening a.capacity a.log (past_in a) s.slot a.state.time a.state.walker a.state.hosts.items a.state.signals a.state.signals c.args.by c.args.node (put_of c) w.sound x.step.known x.step.allowed refl (told c)
    (request-answers a.cluster (past_in a) s.slot (put_of c) s.can.0 a.state.signals s.can.1 (sym (answered-by a.cluster (past_in a) c.args.node s.can.0 s.slot s.is s.can.1) ∙ c.requires.none) refl keeps.signals_are) keeps)

pub open-requires : goal.open-requires
open-requires c =
    let a = stage c.args.setup.now c.args.log.now c.args.self.now in
    ap is_some (answer-slot a c.args.by c.args.node c.requires.ready.whole (allowed-ready a c.args.by (Answer c.args.node) c.requires.ready) c.requires.plain).at

pub header-header-requires : goal.header-header-requires
header-header-requires c =
    let a = stage c.args.setup.now c.args.log.now c.args.self.now in
    header-there a c.args.node (answer-slot a c.args.by c.args.node c.requires.ready.whole (allowed-ready a c.args.by (Answer c.args.node) c.requires.ready) c.requires.plain) c.open.result.now c.open.ensures

pub put-requires-clause-open : goal.put-requires-clause-open
put-requires-clause-open c =
    let a = stage c.args.setup.now c.args.log.now c.args.self.now in
    ap is_some (answer-slot a c.args.by c.args.node c.requires.ready.whole (allowed-ready a c.args.by (Answer c.args.node) c.requires.ready) c.requires.plain).at

pub put-requires-clause-room : goal.put-requires-clause-room
put-requires-clause-room c = λ kept is.
    let a = stage c.args.setup.now c.args.log.now c.args.self.now in
    let s = answer-slot a c.args.by c.args.node c.requires.ready.whole (allowed-ready a c.args.by (Answer c.args.node) c.requires.ready) c.requires.plain in
    let same : s.slot ≡ kept = (let t : Some s.slot ≡ Some kept = sym s.at ∙ is in cc) in
    subst (λ (k : OpenSlot). length k.puts.items < 16) same (put-room a.cluster s.slot (record { node = c.args.node; answer = []; cleared = None }) s.is_open s.free)

pub returns : goal.returns
returns c =
    let a = here c in
    let w = c.requires.ready.whole in
    let s = (next c).step in
    record {
      told = c.one.ensures ∙ told c;
      kept = kept c;
      late = answer-late a.cluster a.capacity (past_in a) c.args.by c.args.node a.state.bus a.state.hosts.items w.sound s.known s.allowed w.late;
      heard = heard-same a.cluster (past_in a) (entry c ∷ past_in a) a.state.receivers.items (λ l i. refl) w.heard;
      ready = w.ready;
    }
