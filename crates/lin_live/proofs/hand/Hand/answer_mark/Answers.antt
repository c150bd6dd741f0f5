use Rattle.std.proofs.Common.{Ok, Some}
use Rattle.lin_bench.specs.Fields.{line_fields}
use Rattle.lin_live.specs.Heard.{mark_heard}
use Rattle.lin_live.specs.Marking.{mark_name}
use Rattle.lin_live.specs.Heard.Heard.{SetMark}
use Rattle.lin_live.proofs.Replying.{fails-more}
use Rattle.lin_live.proofs.hand.Hand.answer_mark.Goals as goal

pub returns-in-Err : goal.returns-in-Err
returns-in-Err g c =
    let fs = line_fields c.args.line.now in
    c.answer_fault.ensures (mark_heard fs) (fails-more c.in-Err.fault (mark_name fs) (λ name. Ok (Some (SetMark name))) (rw c.in-Err.is at c.mark_name.ensures))
