use Rattle.std.proofs.Common.{◌≡◌, ◌==◌, ◌<◌, ℕ, length, subst, sym}
use Rattle.std.specs.Prelude.{IfSome, Option, find}
use Rattle.lin_parts.specs.Cluster.{frame_of, sporadic_of, event_of}
use Rattle.lin_parts.specs.Rules.{IsEntry}
use Rattle.lin_core.proofs.slots.ClusterFrames.{if-found, sporadic-there, event-there}
use Rattle.lin_core.proofs.response_frames.frame_by.Goals as goal

pub returns-in-Sporadic-clause-there : goal.returns-in-Sporadic-clause-there
returns-in-Sporadic-clause-there c =
    let x = c.args.cluster.now in
    let found : c.frame_under.result ≡ find (λ f. c.args.header == (frame_of x f).pid) (sporadic_of x c.in-Sporadic.sporadic) = rw c.sporadic.ensures at c.frame_under.ensures in
    subst (λ (o : Option ℕ). IfSome o (λ f. f < length x.frames)) (sym found)
    (if-found (λ f. f < length x.frames) (λ f. c.args.header == (frame_of x f).pid) (sporadic_of x c.in-Sporadic.sporadic)
    (sporadic-there x c.in-Sporadic.sporadic c.sound.ensures.rules (subst (IsEntry x) c.in-Sporadic.is c.requires)))

pub returns-in-Event-clause-there : goal.returns-in-Event-clause-there
returns-in-Event-clause-there c =
    let x = c.args.cluster.now in
    let found : c.frame_from.result ≡ find (λ f. c.args.node == (frame_of x f).publisher) (event_of x c.in-Event.event).frames = rw c.event_frames.ensures at c.frame_from.ensures in
    subst (λ (o : Option ℕ). IfSome o (λ f. f < length x.frames)) (sym found)
    (if-found (λ f. f < length x.frames) (λ f. c.args.node == (frame_of x f).publisher) (event_of x c.in-Event.event).frames
    (event-there x c.in-Event.event c.sound.ensures.rules (subst (IsEntry x) c.in-Event.is c.requires)))
