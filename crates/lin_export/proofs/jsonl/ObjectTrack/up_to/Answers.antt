use Rattle.std.proofs.Common.{arith, subst, sym, List}
use Rattle.lin_core.specs.declared.log.LogEntry.{LogEntry}
use Rattle.lin_export.proofs.Tellings.{before, before-next}
use Rattle.lin_export.proofs.Times.{early}
use Rattle.lin_export.specs.Jsonl.{IsObjectTrackOf}
use Rattle.lin_export.proofs.jsonl.ObjectTrack.up_to.Goals as goal

pub loop-index-init : goal.loop-index-init
loop-index-init c = c.new-objects.ensures c.args.cluster.now

pub follow-requires-clause-time : goal.follow-requires-clause-time
follow-requires-clause-time c =
    (early c.args.cluster.now c.sound.ensures.rules c.args.log.now.entries c.loop-index.index c.loop-index.objects.track c.loop-index.invariant.track (omega arith)).0

pub follow-requires-clause-slots : goal.follow-requires-clause-slots
follow-requires-clause-slots c =
    (early c.args.cluster.now c.sound.ensures.rules c.args.log.now.entries c.loop-index.index c.loop-index.objects.track c.loop-index.invariant.track (omega arith)).1

pub loop-index-preserved : goal.loop-index-preserved
loop-index-preserved c =
    let es = c.args.log.now.entries in
    let i = c.loop-index.index in
    let next = before-next es i c.entry.result.now c.entry.ensures (omega arith) in
    subst (λ (l : List LogEntry). IsObjectTrackOf c.args.cluster.now l c.follow.new.self) (sym next) (c.in_ok-follow.ensures (before es i) c.loop-index.invariant)
