use Rattle.std.proofs.Common.{arith, sym}
use Rattle.lin_bench.specs.Parts.{fields_of}
use Rattle.lin_bench.proofs.FieldParts.{one-longer}
use Rattle.lin_bench.proofs.WordedLines.{not-on-signal}
use Rattle.lin_bench.proofs.worded_ons.is_on_signal.Goals as goal

pub returns-in-None : goal.returns-in-None
returns-in-None c =
    sym (not-on-signal (fields_of c.args.before) c.in_default.ensures (one-longer 3 (fields_of c.args.before) c.in-Some-first.on.now (fields_of c.in-Some-first.others) c.in-Some-first.ensures.split c.in-None.ensures))
