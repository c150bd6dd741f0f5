use Rattle.std.proofs.Common.{refl, ◌≡◌, ◌<◌, ℕ, List, [], ◌∷◌, ◌++◌, length, ap, sym, ◌∙◌, subst, arith}
use Rattle.std.specs.Prelude.{Option, Some, None, is_some, vec_capacity}
use Rattle.std.specs.Option.{option_map_or}
use Rattle.lin_frame.specs.Frame.{answer_of}
use Rattle.lin_frame.specs.declared.sums.SumKind.{SumKind}
use Rattle.lin_parts.specs.Cluster.{line_of}
use Rattle.lin_core.specs.kept.Slots.{frame_by, response_model}
use Rattle.lin_core.specs.History.{open_slot}
use Rattle.lin_core.specs.Signals.{ArePointwise, signal_bytes, value}
use Rattle.lin_core.specs.kept.State.{Keeps, Stage, stage}
use Rattle.lin_frame.specs.declared.value.Value.{Value}
use Rattle.lin_core.specs.Replies.{put_event}
use Rattle.lin_core.specs.declared.event.Event.{Event}
use Rattle.lin_core.specs.declared.event.Event.TheVariants.{Put}
use Rattle.lin_core.specs.declared.log.LogEntry.{LogEntry}
use Rattle.lin_core.specs.declared.slot.OpenSlot.{OpenSlot}
use Rattle.lin_core.specs.declared.slot.Put.{Put as KeptPut}
use Rattle.lin_core.specs.declared.step.Step.TheVariants.{Answer}
use Rattle.lin_core.proofs.kept.Keeping.{done_entry, answer-keeps}
use Rattle.lin_core.proofs.kept.BusAndSenders.{answer-late}
use Rattle.lin_core.proofs.steps.Making.{Allowed, allowed-ready, past_in}
use Rattle.lin_core.proofs.steps.Answering.{AnswerSlot, answer-slot, answered-by, put-told, frame-answers, header-there, open-there, same-header, same-model}
use Rattle.lin_core.proofs.slots.Opening.{put-room}
use Rattle.lin_core.proofs.kept.Receiving.{heard-same}
use Rattle.lin_core.proofs.state.State.answer_frame.Goals.{After-one}
use Rattle.lin_core.proofs.state.State.answer_frame.Goals as goal

abbrev here : After-one → Stage
here c = stage c.args.setup.now c.args.log.now c.args.self.now

pub open-slot-requires : goal.open-slot-requires
open-slot-requires c =
    let a = stage c.args.setup.now c.args.log.now c.args.self.now in
    ap is_some (answer-slot a c.args.by c.args.node c.requires.ready.whole (allowed-ready a c.args.by (Answer c.args.node) c.requires.ready) c.requires.plain).at

pub header-header-requires : goal.header-header-requires
header-header-requires c =
    let a = stage c.args.setup.now c.args.log.now c.args.self.now in
    header-there a c.args.node (answer-slot a c.args.by c.args.node c.requires.ready.whole (allowed-ready a c.args.by (Answer c.args.node) c.requires.ready) c.requires.plain) c.open-slot.result.now c.open-slot.ensures

pub frame_model-model-requires-clause-slot : goal.frame_model-model-requires-clause-slot
frame_model-model-requires-clause-slot c =
    let a = stage c.args.setup.now c.args.log.now c.args.self.now in
    open-there a c.args.node (answer-slot a c.args.by c.args.node c.requires.ready.whole (allowed-ready a c.args.by (Answer c.args.node) c.requires.ready) c.requires.plain) c.open-slot.result.now c.open-slot.ensures

pub put-requires-clause-open : goal.put-requires-clause-open
put-requires-clause-open c =
    let a = stage c.args.setup.now c.args.log.now c.args.self.now in
    ap is_some (answer-slot a c.args.by c.args.node c.requires.ready.whole (allowed-ready a c.args.by (Answer c.args.node) c.requires.ready) c.requires.plain).at

pub put-requires-clause-room : goal.put-requires-clause-room
put-requires-clause-room c = λ kept is.
    let a = stage c.args.setup.now c.args.log.now c.args.self.now in
    let s = answer-slot a c.args.by c.args.node c.requires.ready.whole (allowed-ready a c.args.by (Answer c.args.node) c.requires.ready) c.requires.plain in
    let same : s.slot ≡ kept = (let t : Some s.slot ≡ Some kept = sym s.at ∙ is in cc) in
    subst (λ (k : OpenSlot). length k.puts.items < 16) same (put-room a.cluster s.slot (record { node = c.args.node; answer = []; cleared = None }) s.is_open s.free)

allowed : (c : After-one) → Allowed (here c) c.args.by (Answer c.args.node)
allowed c = allowed-ready (here c) c.args.by (Answer c.args.node) c.requires.ready

at : (c : After-one) → AnswerSlot (here c) c.args.node
at c = answer-slot (here c) c.args.by c.args.node c.requires.ready.whole (allowed c) c.requires.plain

by : (c : After-one) → frame_by (here c).cluster (line_of (here c).cluster (at c).slot.table (at c).slot.entry).entry (at c).can.0 c.args.node ≡ Some c.args.frame
by c =
    let s = at c in
    sym (answered-by (here c).cluster (past_in (here c)) c.args.node s.can.0 s.slot s.is s.can.1) ∙ c.requires.carried

abbrev events : (c : After-one) → List Event
events c = option_map_or (put_event (here c).cluster (past_in (here c)) c.args.node) (open_slot (past_in (here c))) []

abbrev entry : (c : After-one) → LogEntry
entry c = done_entry c.args.by (Answer c.args.node) (events c)

answer-same : (m m' : SumKind) (h h' : ℕ) (bytes : List ℕ) → m ≡ m' → h ≡ h' → answer_of m h bytes ≡ answer_of m' h' bytes
answer-same m m' h h' bytes e f = rw (e, f) refl

made : (c : After-one) → c.frame_answer-answer.result ≡ answer_of (response_model (here c).cluster (line_of (here c).cluster (at c).slot.table (at c).slot.entry).entry c.args.frame) (at c).can.0 (signal_bytes (here c).cluster (past_in (here c)) c.args.frame)
made c =
    let a = here c in
    let s = at c in
    c.frame_answer-answer.ensures.answer (value a.cluster (past_in a)) (subst (λ (vs : List Value). ArePointwise (value a.cluster (past_in a)) vs) (sym c.as_slice.ensures.value) c.requires.ready.whole.kept.signals_are.each_value)
    ∙ answer-same _ _ _ _ (signal_bytes a.cluster (past_in a) c.args.frame) (c.frame_model-model.ensures ∙ same-model a c.args.node s c.open-slot.result.now c.args.frame c.open-slot.ensures) (same-header a c.args.node s c.open-slot.result.now c.header-header.result c.open-slot.ensures c.header-header.ensures)

told : (c : After-one) → Put c.args.node c.frame_answer-answer.result ∷ [] ≡ events c
told c = let s = at c in put-told (here c).cluster (past_in (here c)) s.slot s.can.0 c.args.node c.args.frame c.frame_answer-answer.result s.plain s.is s.can.1 (by c) (made c)

kept : (c : After-one) → Keeps (here c).cluster (here c).opening (here c).capacity ((here c).log ++ entry c ∷ []) (entry c ∷ past_in (here c)) c.put.new.self (here c).state.time (here c).state.walker (here c).state.hosts.items c.clear.new.self
kept c =
    let a = here c in
    let w = c.requires.ready.whole in
    let s = at c in
    let p : KeptPut = record { node = c.args.node; answer = c.frame_answer-answer.result; cleared = c.clear.result } in
    let k = w.kept.signals_are in
    let n = k.pending_count in
    let below : c.args.frame < length a.cluster.frames = c.requires.frame in
    let l : c.args.frame < length a.state.signals.pending.items = omega arith in
    let grown = c.frame_answer-answer.ensures.room in
    let keeps : Keeps a.cluster a.opening a.capacity a.log (past_in a) (Some s.slot) a.state.time a.state.walker a.state.hosts.items a.state.signals
    = subst (λ (o : Option OpenSlot). Keeps a.cluster a.opening a.capacity a.log (past_in a) o a.state.time a.state.walker a.state.hosts.items a.state.signals) s.at w.kept in
    rw (c.put.ensures s.slot s.at)
    (answer-keeps a.cluster a.opening a.capacity a.log (past_in a) s.slot a.state.time a.state.walker a.state.hosts.items a.state.signals c.clear.new.self c.args.by c.args.node p w.sound (allowed c).known (allowed c).allowed refl (told c)
    (frame-answers a.cluster s.slot p s.can.0 c.args.frame a.state.signals c.clear.new.self s.can.1 (by c) l c.clear.ensures.cleared c.clear.ensures.values c.clear.ensures.heard c.clear.ensures.pending
    (ap (λ (r : _). r.items) c.clear.ensures.room ∙ c.frame_answer-answer.ensures.empty)
    (λ f inside. let enough = k.room_enough f inside in let same = ap vec_capacity c.clear.ensures.room in omega arith)) keeps)

pub returns : goal.returns
returns c =
    let a = here c in
    let w = c.requires.ready.whole in
    let s = allowed c in
    record {
      told = c.one.ensures ∙ told c;
      kept = kept c;
      late = answer-late a.cluster a.capacity (past_in a) c.args.by c.args.node a.state.bus a.state.hosts.items w.sound s.known s.allowed w.late;
      heard = heard-same a.cluster (past_in a) (entry c ∷ past_in a) a.state.receivers.items (λ l i. refl) w.heard;
      ready = w.ready;
    }
