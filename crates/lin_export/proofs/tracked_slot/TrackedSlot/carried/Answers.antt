use Rattle.std.proofs.Common.{◌≡◌, ◌==◌, ◌<◌, ℕ, List, length, subst, sym, ap, ◌∙◌}
use Rattle.std.specs.Prelude.{Bool, IfSome, Option, find}
use Rattle.std.specs.List.{list_any}
use Rattle.lin_parts.specs.Cluster.{frame_of, line_of, sporadic_of, event_of}
use Rattle.lin_parts.specs.Rules.{IsEntry}
use Rattle.lin_parts.specs.declared.parts.Entry.TheVariants.{Sporadic, Event}
use Rattle.lin_parts.specs.declared.parts.Line.{Line}
use Rattle.lin_core.proofs.slots.ClusterFrames.{if-found, sporadic-there, event-there}
use Rattle.lin_export.proofs.Rows.{find-nothing}
use Rattle.lin_export.proofs.tracked_slot.TrackedSlot.carried.Goals as goal

pub returns-in-Some-clause-there : goal.returns-in-Some-clause-there
returns-in-Some-clause-there c =
    let x = c.args.cluster.now in
    let found : c.frame_under.result ≡ find (λ f. c.in-Some.header == (frame_of x f).pid) (sporadic_of x c.in-Sporadic.sporadic) = rw c.sporadic.ensures at c.frame_under.ensures in
    subst (λ (o : Option ℕ). IfSome o (λ f. f < length x.frames)) (sym found)
    (if-found (λ f. f < length x.frames) (λ f. c.in-Some.header == (frame_of x f).pid) (sporadic_of x c.in-Sporadic.sporadic)
    (sporadic-there x c.in-Sporadic.sporadic c.sound.ensures.rules (subst (IsEntry x) c.in-Sporadic.is c.line.ensures.there)))

pub returns-in-None-clause-frame : goal.returns-in-None-clause-frame
returns-in-None-clause-frame c =
    let entry : (line_of c.args.cluster.now c.args.self.now.table c.args.self.now.entry).entry ≡ Sporadic c.in-Sporadic.sporadic = sym (ap (λ (l : Line). l.entry) c.line.ensures.line) ∙ c.in-Sporadic.is in
    rw (entry, c.in-None.is) (sym (find-nothing (sporadic_of c.args.cluster.now c.in-Sporadic.sporadic)))

pub returns-in-Event-clause-frame : goal.returns-in-Event-clause-frame
returns-in-Event-clause-frame c =
    let entry : (line_of c.args.cluster.now c.args.self.now.table c.args.self.now.entry).entry ≡ Event c.in-Event.event = sym (ap (λ (l : Line). l.entry) c.line.ensures.line) ∙ c.in-Event.is in
    rw entry (rw (c.puts.ensures, c.event_frames.ensures) at c.frame_put.ensures)

pub returns-in-Event-clause-there : goal.returns-in-Event-clause-there
returns-in-Event-clause-there c =
    let x = c.args.cluster.now in
    let test : ℕ → Bool = λ f. list_any (λ (put : ℕ × List ℕ). put.0 == (frame_of x f).publisher) c.puts.result.now in
    let found : c.frame_put.result ≡ find test (event_of x c.in-Event.event).frames = rw c.event_frames.ensures at c.frame_put.ensures in
    subst (λ (o : Option ℕ). IfSome o (λ f. f < length x.frames)) (sym found)
    (if-found (λ f. f < length x.frames) test (event_of x c.in-Event.event).frames
    (event-there x c.in-Event.event c.sound.ensures.rules (subst (IsEntry x) c.in-Event.is c.line.ensures.there)))
