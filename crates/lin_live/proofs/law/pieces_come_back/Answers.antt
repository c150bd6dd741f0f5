use Rattle.std.proofs.lemmas.List.Splits.{join_with_byte-slice_split}
use Rattle.lin_live.proofs.Cuts.{pieces-clean}
use Rattle.lin_live.proofs.law.pieces_come_back.Goals as goal

pub returns-clause-clean : goal.returns-clause-clean
returns-clause-clean c = pieces-clean

pub returns-clause-same : goal.returns-clause-same
returns-clause-same c = join_with_byte-slice_split 10
