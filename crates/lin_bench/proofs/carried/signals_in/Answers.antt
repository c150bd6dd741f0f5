use Rattle.std.proofs.Common.{◌∙◌, ◌≡◌, None, ap, sym}
use Rattle.lin_parts.specs.Cluster.{event_of, sporadic_of}
use Rattle.lin_bench.specs.Carried.{Shape}
use Rattle.lin_bench.proofs.CarriedFrames.{none-headless, published}
use Rattle.lin_bench.proofs.carried.signals_in.Goals as goal

pub returns-in-None : goal.returns-in-None
returns-in-None c = λ s e.
    let header : s.header ≡ None = sym (ap (λ (x : Shape). x.header) e) ∙ c.in-None.is in
    rw (c.in-Sporadic.is, header) (sym (none-headless c.args.cluster.now (sporadic_of c.args.cluster.now c.in-Sporadic.sporadic)))

pub returns-in-Event : goal.returns-in-Event
returns-in-Event c = λ s e.
    let cl = c.args.cluster.now in
    rw c.in-Event.is
    ((rw (c.event_frames.ensures, c.as_slice.ensures.value) at c.frame_from.ensures)
    ∙ published cl (event_of cl c.in-Event.event).frames c.args.slot.now.nodes.items s (ap (λ (x : Shape). x.nodes) e))
