use Rattle.std.proofs.Common.{◌∙◌, sym}
use Rattle.lin_bench.specs.Parts.{fields_of}
use Rattle.lin_bench.proofs.FieldParts.{all-passed, cut-at}
use Rattle.lin_bench.proofs.fields.Fields.cut.Goals as goal

pub returns-in_err-field : goal.returns-in_err-field
returns-in_err-field c = rw c.from_residual.ensures (all-passed c.args.at (fields_of c.args.self) (sym c.skip.ensures ∙ c.in_err-field.ensures.split))

pub returns : goal.returns
returns c =
    rw c.take.ensures (cut-at (fields_of c.args.self) c.args.at c.in_ok-field.field.now (fields_of c.in_ok-field.after) (sym c.skip.ensures ∙ c.in_ok-field.ensures.split))
