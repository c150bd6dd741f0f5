use Rattle.std.proofs.Common.{◌≡◌}
use Rattle.lin_export.proofs.Tellings.{before}
use Rattle.lin_export.specs.Track.{track_of}
use Rattle.lin_export.proofs.track.Track.follow_to.Given as goal

abbrev pub invariant-loop-index : goal.invariant-loop-index
invariant-loop-index l = l.self ≡ track_of l.fn.cluster (before l.fn.log.entries l.index)
