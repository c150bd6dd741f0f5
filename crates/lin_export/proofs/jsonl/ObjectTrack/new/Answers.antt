use Rattle.lin_export.proofs.jsonl.ObjectTrack.new.Goals as goal

pub returns : goal.returns
returns c = λ x. record { track = c.new.ensures x; last = c.none_settled.ensures }
