use Rattle.std.proofs.Common.{◌≡◌, ◌≤◌, ◌==◌, ℕ, length, refl, ap, sym, subst, ◌∙◌}
use Rattle.std.specs.Prelude.{Option, Some, None, find, unwrap_or}
use Rattle.lin_parts.specs.Cluster.{frame_of, sporadic_of}
use Rattle.lin_parts.specs.declared.parts.SignalFrame.{SignalFrame}
use Rattle.lin_core.specs.Slots.{member_under}
use Rattle.lin_core.proofs.slots.ClusterFrames.{no_frame, index-past}
use Rattle.lin_core.proofs.response_frames.model_under.Goals as goal

-- the number that is given where none is found
first-or : (o : Option ℕ) → unwrap_or o 0 ≡ unwrap_or o 0
first-or None = refl
first-or (Some f) = refl

pub returns-then-frame-frames : goal.returns-then-frame-frames
returns-then-frame-frames c =
    let x = c.args.cluster.now in
    let found : c.frame_under.result ≡ find (λ f. c.args.header == (frame_of x f).pid) (sporadic_of x c.in-Sporadic.sporadic) = c.frame_under.ensures ∙ ap (find (λ f. c.args.header == (frame_of x f).pid)) c.sporadic.ensures in
    let frame : c.unwrap_or-frame.result ≡ member_under x c.in-Sporadic.sporadic c.args.header = c.unwrap_or-frame.ensures ∙ (first-or c.frame_under.result ∙ ap (λ (o : Option ℕ). unwrap_or o 0) found) in
    rw c.in-Sporadic.is (c.model-then-frame-frames.ensures ∙ ap (λ f. (frame_of x f).model) frame)

pub returns-else-frame-frames : goal.returns-else-frame-frames
returns-else-frame-frames c =
    let x = c.args.cluster.now in
    let found : c.frame_under.result ≡ find (λ f. c.args.header == (frame_of x f).pid) (sporadic_of x c.in-Sporadic.sporadic) = c.frame_under.ensures ∙ ap (find (λ f. c.args.header == (frame_of x f).pid)) c.sporadic.ensures in
    let frame : c.unwrap_or-frame.result ≡ member_under x c.in-Sporadic.sporadic c.args.header = c.unwrap_or-frame.ensures ∙ (first-or c.frame_under.result ∙ ap (λ (o : Option ℕ). unwrap_or o 0) found) in
    let past : length x.frames ≤ c.unwrap_or-frame.result = subst (λ n. n ≤ c.unwrap_or-frame.result) c.frames.ensures c.if-frame-frames.false in
    rw c.in-Sporadic.is (sym (ap (λ (f : SignalFrame). f.model) (index-past x.frames c.unwrap_or-frame.result no_frame past)) ∙ ap (λ f. (frame_of x f).model) frame)
