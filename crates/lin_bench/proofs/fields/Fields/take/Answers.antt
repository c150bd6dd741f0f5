use Rattle.std.proofs.Common.{refl}
use Rattle.lin_bench.proofs.FieldParts.{fewer-taken}
use Rattle.lin_bench.proofs.fields.Fields.take.Goals as goal

pub returns : goal.returns
returns c = fewer-taken c.args.self _ c.args.n refl refl c.min.ensures
