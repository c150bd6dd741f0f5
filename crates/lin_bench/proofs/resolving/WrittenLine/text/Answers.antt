use Rattle.std.proofs.Common.{◌∙◌, ap}
use Rattle.lin_bench.specs.Fields.{line_fields}
use Rattle.lin_bench.specs.Resolving.{written_of}
use Rattle.lin_bench.specs.Written.{written_fields}
use Rattle.lin_bench.proofs.WrittenFields.{alone-fields, alone-text, are-all-fields, fields-again, joined-text}
use Rattle.lin_bench.proofs.resolving.WrittenLine.text.Goals as goal

pub returns-in-Some-clause-text : goal.returns-in-Some-clause-text
returns-in-Some-clause-text c = alone-text (written_of c.args.self).parts c.in-Some.text.now (written_fields (written_of c.args.self)) c.in-Some.ensures

pub returns-in-Some-clause-fields : goal.returns-in-Some-clause-fields
returns-in-Some-clause-fields c = alone-fields (written_of c.args.self).parts c.in-Some.text.now c.in-Some.ensures

pub returns-in_ok-joined-in-None-clause-text : goal.returns-in_ok-joined-in-None-clause-text
returns-in_ok-joined-in-None-clause-text c =
    let w = written_of c.args.self in
    c.in_ok-joined-in-None.ensures ∙ joined-text w.parts (written_fields w) c.in-None.ensures

pub returns-in_ok-joined-in-None-clause-fields : goal.returns-in_ok-joined-in-None-clause-fields
returns-in_ok-joined-in-None-clause-fields c =
    let w = written_of c.args.self in
    ap line_fields c.in_ok-joined-in-None.ensures ∙ fields-again (written_fields w) (are-all-fields w.parts)
