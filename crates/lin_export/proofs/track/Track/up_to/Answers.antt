use Rattle.lin_export.proofs.track.Track.up_to.Goals as goal

pub follow_to-requires-clause-track : goal.follow_to-requires-clause-track
follow_to-requires-clause-track c = c.new-track.ensures c.args.cluster.now
