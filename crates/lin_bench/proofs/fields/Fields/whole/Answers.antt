use Rattle.std.proofs.Common.{refl}
use Rattle.lin_bench.proofs.FieldParts.{whole-line}
use Rattle.lin_bench.proofs.fields.Fields.whole.Goals as goal

pub returns : goal.returns
returns c = whole-line _ refl
