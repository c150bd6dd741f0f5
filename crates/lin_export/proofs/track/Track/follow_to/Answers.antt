use Rattle.std.proofs.Common.{◌∙◌, ap, arith, sym}
use Rattle.lin_export.proofs.Tellings.{before, before-next}
use Rattle.lin_export.proofs.Times.{early}
use Rattle.lin_export.specs.Track.{track_of}
use Rattle.lin_export.proofs.track.Track.follow_to.Goals as goal

pub loop-index-init : goal.loop-index-init
loop-index-init c = c.requires.track

pub follow-requires-clause-time : goal.follow-requires-clause-time
follow-requires-clause-time c =
    (early c.args.cluster.now c.sound.ensures.rules c.args.log.now.entries c.loop-index.index c.loop-index.self c.loop-index.invariant (omega arith)).0

pub follow-requires-clause-slots : goal.follow-requires-clause-slots
follow-requires-clause-slots c =
    (early c.args.cluster.now c.sound.ensures.rules c.args.log.now.entries c.loop-index.index c.loop-index.self c.loop-index.invariant (omega arith)).1

pub loop-index-preserved : goal.loop-index-preserved
loop-index-preserved c =
    let es = c.args.log.now.entries in
    let i = c.loop-index.index in
    let next = before-next es i c.entry.result.now c.entry.ensures (omega arith) in
    c.in_ok-follow.ensures.kept (before es i) c.loop-index.invariant ∙ ap (track_of c.args.cluster.now) (sym next)
