use Rattle.std.proofs.Common.{◌∙◌, Some, None, sym}
use Rattle.lin_bench.specs.Parts.{fields_of}
use Rattle.lin_bench.proofs.WordedLines.{no-do}
use Rattle.lin_bench.proofs.worded_ons.form_end.Goals as goal

pub returns-in-Some : goal.returns-in-Some
returns-in-Some c = sym (no-do c.as_slice.result.now (fields_of c.args.all) (Some c.in-Some.end) c.as_slice.ensures c.in-Some.ensures.first)

pub returns-in-None : goal.returns-in-None
returns-in-None c = c.off_at.ensures ∙ sym (no-do c.as_slice.result.now (fields_of c.args.all) None c.as_slice.ensures c.in-None.ensures.first)
