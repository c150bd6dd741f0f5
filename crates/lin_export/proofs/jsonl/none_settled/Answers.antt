use Rattle.std.proofs.lemmas.List.{get_or-replicate}
use Rattle.lin_export.proofs.jsonl.none_settled.Goals as goal

pub returns : goal.returns
returns c = λ h few. get_or-replicate 256 h 0 0 few
