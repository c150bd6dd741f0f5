use Rattle.std.proofs.Common.{◌∙◌, IsPermutation, subst, sym}
use Rattle.lin_tool.proofs.Warned.{told}
use Rattle.lin_values.specs.Warnings.{encoding_warnings}
use Rattle.lin_tool.proofs.coding.coded_with.Goals as goal

pub returns-clause-warnings : goal.returns-clause-warnings
returns-clause-warnings c =
    let x = c.args.cluster.now in
    let found = subst (IsPermutation (encoding_warnings x c.in-Some.codings)) (sym c.as_slice.ensures) c.in_ok-coded.ensures.warnings in
    told c.args.encodings x c.args.codings c.in-Some.codings c.args.warnings c.in_ok-all.all c.as_slice.result.now (sym c.kept.ensures ∙ c.in-Some.is) found
    c.in_ok-all.ensures.all c.in_ok-all.ensures.ordered
